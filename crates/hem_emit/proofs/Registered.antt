-- The registers after a rule's actions are those of the line after the firing.
use Rattle.std.proofs.Common.{◌≡◌, ◌≢◌, refl, ap, sym, ◌∙◌, subst, ℕ, Bool, true, false, cond, length, ◌&&◌, inl, inr, ◌⊎◌, zero-add, Option, Some, None}
use Rattle.std.specs.Prelude.{◌==◌, IsTrue, Ok, slice_get, option_map}
use Rattle.std.specs.Option.{option_map_or}
use Rattle.std.proofs.lemmas.Bool.Decides.{eqb_tells}
use Rattle.hem_base.specs.Sets.{has_bit}
use Rattle.hem_base.specs.declared.ids.Firing.{Firing}
use Rattle.hem_base.specs.declared.ids.Kind.{Kind}
use Rattle.hem_syntax.specs.declared.rule.Rule.{Rule}
use Rattle.hem_syntax.specs.declared.rule.Side.{Side}
use Rattle.hem_syntax.specs.Protocol.{Protocol, part}
use Rattle.hem_syntax.specs.Lawful.{is_rule, counts_of}
use Rattle.hem_template.specs.declared.template_name.TemplateName.{TemplateName}
use Rattle.hem_template.specs.Template.{template_of, same_side}
use Rattle.hem_object.specs.Local.{Local, IsWellFormed}
use Rattle.hem_fire.specs.Heads.{awaited_of}
use Rattle.hem_fire.specs.OneFire.{Heads, can_fire, local_after}
use Rattle.hem_tree.specs.Tree.{Tree, parent_of, is_child, is_number, children_of, place_among}
use Rattle.hem_system.specs.State.{Cell, Line, Effect, local_at, place_of_me, cell_after, line_after}
use Rattle.hem_system.proofs.Kids.{child_at, at_child}
use Rattle.hem_system.proofs.Own.{slice_get-map_each}
use Rattle.hem_module.specs.Step.{number_after, after_actions}
use Rattle.hem_emit.specs.Names.{Part, Reg, field, val, lock, entry, awaits, same_part, same_reg, names}
use Rattle.hem_emit.specs.Place.{Place}
use Rattle.hem_emit.specs.Actions.{actions_of}
use Rattle.hem_emit.specs.Emit.{place_of}
use Rattle.hem_emit.specs.Image.{lock_at, lock_number, status_number, in_parent, number_of, image}
use Rattle.hem_emit.specs.Shows.{AreKids, Shows, ShowsRegisters}
use Rattle.hem_emit.proofs.Tests.{differ, same_number}
use Rattle.hem_emit.proofs.Whole.{declared}
use Rattle.hem_emit.proofs.Writes.{all_leave}
use Rattle.hem_emit.proofs.Owned.{field_after}
use Rattle.hem_emit.proofs.Left.{IsOther, others_left}
use Rattle.hem_emit.proofs.Shown.{own, kept_of_kid}
use Rattle.hem_emit.proofs.Registers.{registers_shown}

and_not : (a b : Bool) → b ≡ false → (a && b) ≡ false
and_not true b is = is
and_not false b is = refl

-- the local states of a line after a firing
local_now : (tree : Tree) (f : Firing) (e : Effect) (line : Line) (k : ℕ) → local_at (line_after tree f e line) k ≡ option_map (λ cell. cell.local) (option_map (cell_after tree f e k) (slice_get line k))
local_now tree f e line k = ap (option_map (λ (c : Cell). c.local)) (rw zero-add at (slice_get-map_each (cell_after tree f e) 0 line k))

pub own_now : (tree : Tree) (f : Firing) (e : Effect) (line : Line) (local : Local) → local_at line f.object.0 ≡ Some local → local_at (line_after tree f e line) f.object.0 ≡ Some e.after
own_now tree f e line local there = local_now tree f e line f.object.0 ∙ set (slice_get line f.object.0) there
  where
    set : (found : Option Cell) → option_map (λ cell. cell.local) found ≡ Some local → option_map (λ cell. cell.local) (option_map (cell_after tree f e f.object.0) found) ≡ Some e.after
    set None there = cc
    set (Some cell) there = rw (same_number f.object.0 f.object.0 refl) refl

pub other_stays : (tree : Tree) (f : Firing) (e : Effect) (line : Line) (k : ℕ) → k ≢ f.object.0 → local_at (line_after tree f e line) k ≡ local_at line k
other_stays tree f e line k other = local_now tree f e line k ∙ stays (slice_get line k)
  where
    stays : (found : Option Cell) → option_map (λ cell. cell.local) (option_map (cell_after tree f e k) found) ≡ option_map (λ cell. cell.local) found
    stays None = refl
    stays (Some cell) = rw (differ k f.object.0 other) refl

-- what the parent of what is no child keeps stays
kept_elsewhere : (tree : Tree) (old new : Line) (o c : ℕ) (g : ℕ → Local → ℕ) → is_child tree c o ≡ false → ((k : ℕ) → k ≢ o → local_at new k ≡ local_at old k) → in_parent tree old c g ≡ in_parent tree new c g
kept_elsewhere tree old new o c g apart stays = by_parent (parent_of tree c) refl
  where
    kept_by : Line → Option ℕ → ℕ
    kept_by line parent = option_map_or (λ high. option_map_or (g (place_among tree high c)) (local_at line high) 0) parent 0

    by_parent : (parent : Option ℕ) → parent_of tree c ≡ parent → kept_by old (parent_of tree c) ≡ kept_by new (parent_of tree c)
    by_parent None is = ap (kept_by old) is ∙ sym (ap (kept_by new) is)
    by_parent (Some high) is =
        ap (kept_by old) is
        ∙ ap (λ (l : Option Local). option_map_or (g (place_among tree high c)) l 0) (sym (stays high (far high is)))
        ∙ sym (ap (kept_by new) is)
      where
        far : (high : ℕ) → parent_of tree c ≡ Some high → high ≢ o
        far high is same = let bad : true ≡ false = sym (same_number high o same) ∙ sym (ap (λ parent. is_number parent o) is) ∙ apart in cc

module _ (p : Protocol) (tree : Tree) (line : Line) (f : Firing) (kind : Kind) (rule : Rule) (t : TemplateName) (local : Local) (heads : Heads) (has : template_of p kind rule ≡ Ok t) (known : IsTrue (is_rule (counts_of p (part p kind)) rule)) (kids : AreKids kind (children_of tree f.object.0)) (there : local_at line f.object.0 ≡ Some local) (formed : IsWellFormed p kind (length (children_of tree f.object.0)) local) (shows : Shows (place_of p tree f.object.0 kind) (place_of_me tree f.object.0 f.me) local heads (image tree line)) (can : can_fire p kind rule (place_of_me tree f.object.0 f.me) local heads ≡ true) (e : Effect) (after : e.after ≡ local_after p kind rule (place_of_me tree f.object.0 f.me) local heads) where
  abbrev o : ℕ
  o = f.object.0

  abbrev at : Place
  at = place_of p tree o kind

  abbrev me : Option ℕ
  me = place_of_me tree o f.me

  abbrev left : Local
  left = local_after p kind rule me local heads

  abbrev next : Line
  next = line_after tree f e line

  now : local_at next o ≡ Some left
  now = own_now tree f e line local there ∙ ap Some after

  stays : (k : ℕ) → k ≢ o → local_at next k ≡ local_at line k
  stays = other_stays tree f e line

  shown : ShowsRegisters at left (after_actions names (image tree line) (actions_of p at me rule))
  shown = registers_shown p at rule t me local heads (image tree line) has known refl kids formed shows can

  abbrev IsKept : Reg → Type 0
  IsKept r = number_after (image tree line) (same_reg r) (actions_of p at me rule) (number_of tree line r) ≡ number_of tree next r

  untouched : (r : Reg) → IsOther at (same_reg r) → number_of tree line r ≡ number_of tree next r → IsKept r
  untouched r other same = all_leave (image tree line) (same_reg r) (actions_of p at me rule) (number_of tree line r) (others_left (same_reg r) p at me rule other) ∙ same

  own_stays : (u : ℕ) → u ≢ o → (g : Local → ℕ) → option_map_or g (local_at line u) 0 ≡ option_map_or g (local_at next u) 0
  own_stays u far g = ap (λ (l : Option Local). option_map_or g l 0) (sym (stays u far))

  field_kept : (i u : ℕ) → ((u == o) ≡ true) × (u ≡ o) ⊎ ((u == o) ≡ false) × (u ≢ o) → IsKept (field i u)
  field_kept i u (inl same) =
      subst (λ u. IsKept (field i u)) (sym same.1)
      (field_after (image tree line) p at rule me local heads (counts_of p (part p kind)) i (sym formed.field_count) (declared (counts_of p (part p kind)) rule known).sets (own tree line o local (λ local. status_number (slice_get local.fields i)) there)
      ∙ sym (own tree next o left (λ local. status_number (slice_get local.fields i)) now))
  field_kept i u (inr far) =
      untouched (field i u) (record { fields = λ j. and_not (i == j) (u == o) far.0; value = refl; locks = λ side part. refl; entries = λ k c kid. refl; awaited = λ k c kid. refl })
      (own_stays u far.1 (λ local. status_number (slice_get local.fields i)))

  val_kept : (u : ℕ) → ((u == o) ≡ true) × (u ≡ o) ⊎ ((u == o) ≡ false) × (u ≢ o) → IsKept (val u)
  val_kept u (inl same) = subst (λ u. IsKept (val u)) (sym same.1) (shown.value ∙ sym (own tree next o left (λ local. local.val) now))
  val_kept u (inr far) =
      untouched (val u) (record { fields = λ j. refl; value = far.0; locks = λ side part. refl; entries = λ k c kid. refl; awaited = λ k c kid. refl })
      (own_stays u far.1 (λ local. local.val))

  lock_kept : (side : Side) (part_is : Part) (u : ℕ) → ((u == o) ≡ true) × (u ≡ o) ⊎ ((u == o) ≡ false) × (u ≢ o) → IsKept (lock side part_is u)
  lock_kept side part_is u (inl same) =
      subst (λ u. IsKept (lock side part_is u)) (sym same.1)
      (shown.locks side part_is ∙ sym (own tree next o left (λ local. lock_number (children_of tree o) part_is (lock_at side local)) now))
  lock_kept side part_is u (inr far) =
      untouched (lock side part_is u) (record { fields = λ j. refl; value = refl; locks = λ b q. and_not (same_side side b && same_part part_is q) (u == o) far.0; entries = λ k c kid. refl; awaited = λ k c kid. refl })
      (own_stays u far.1 (λ local. lock_number (children_of tree u) part_is (lock_at side local)))

  no_kid : (c : ℕ) → is_child tree c o ≡ false → (k d : ℕ) → slice_get (children_of tree o) k ≡ Some d → (c == d) ≡ false
  no_kid c apart k d kid = differ c d (λ same. clash (at_child tree o k d kid).0 same)
    where
      clash : is_child tree d o ≡ true → c ≢ d
      clash child same = let bad : false ≡ true = sym apart ∙ ap (λ n. is_child tree n o) same ∙ child in cc

  entry_kept : (c : ℕ) (b : Bool) → is_child tree c o ≡ b → IsKept (entry c)
  entry_kept c true child =
      let kid = child_at tree o c child in
      shown.entries (place_among tree o c) c kid
      ∙ sym (kept_of_kid tree next o (place_among tree o c) c left (λ k local. status_number (slice_get local.dir k)) now kid)
  entry_kept c false apart =
      untouched (entry c) (record { fields = λ j. refl; value = refl; locks = λ side part. refl; entries = no_kid c apart; awaited = λ k c kid. refl })
      (kept_elsewhere tree line next o c (λ k local. status_number (slice_get local.dir k)) apart stays)

  awaits_kept : (c : ℕ) (b : Bool) → is_child tree c o ≡ b → IsKept (awaits c)
  awaits_kept c true child =
      let kid = child_at tree o c child in
      shown.awaited (place_among tree o c) c kid
      ∙ sym (kept_of_kid tree next o (place_among tree o c) c left (λ k local. cond (has_bit (awaited_of local).0 k) 1 0) now kid)
  awaits_kept c false apart =
      untouched (awaits c) (record { fields = λ j. refl; value = refl; locks = λ side part. refl; entries = λ k c kid. refl; awaited = no_kid c apart })
      (kept_elsewhere tree line next o c (λ k local. cond (has_bit (awaited_of local).0 k) 1 0) apart stays)

  pub registers_after : (r : Reg) → number_after (image tree line) (same_reg r) (actions_of p at me rule) (number_of tree line r) ≡ number_of tree (line_after tree f e line) r
  registers_after (field i u) = field_kept i u (eqb_tells u o)
  registers_after (val u) = val_kept u (eqb_tells u o)
  registers_after (lock side part_is u) = lock_kept side part_is u (eqb_tells u o)
  registers_after (entry c) = entry_kept c (is_child tree c o) refl
  registers_after (awaits c) = awaits_kept c (is_child tree c o) refl
