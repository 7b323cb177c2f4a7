-- What a register holds at the start, by what it is.
use Rattle.std.proofs.Common.{◌≡◌, refl, ap, ◌∙◌, ℕ, zero, suc, ◌<◌, arith, true, cond, List, [], length, Option, Some, None, zero-add}
use Rattle.std.specs.Prelude.{slice_get, option_map, replicate}
use Rattle.std.specs.Option.{option_map_or}
use Rattle.std.proofs.lemmas.Option.{slice_get-map, slice_get_within}
use Rattle.hem_base.specs.Sets.{has_bit}
use Rattle.hem_base.specs.declared.ids.Kind.{Kind}
use Rattle.hem_base.specs.declared.ids.Status8.{Status8}
use Rattle.hem_syntax.specs.declared.rule.Side.{Side}
use Rattle.hem_syntax.specs.declared.rule.Side.TheVariants.{Up, Down}
use Rattle.hem_syntax.specs.Protocol.{Protocol, part}
use Rattle.hem_object.specs.Local.{Local}
use Rattle.hem_object.specs.Start.{first_local}
use Rattle.hem_tree.specs.Tree.{Tree, Node, is_number, kind_of, parent_of, children_of, place_among}
use Rattle.hem_system.specs.State.{Line, local_at, first_cell, first_line}
use Rattle.hem_system.proofs.Own.{slice_get-map_each}
use Rattle.hem_system.proofs.Kids.{child_at}
use Rattle.hem_rows.proofs.Bits.{no_bit}
use Rattle.hem_fire.specs.Heads.{awaited_of}
use Rattle.hem_emit.specs.Names.{Part, origin, asked, kept, Reg, field, val, lock, entry, awaits}
use Rattle.hem_emit.specs.Image.{lock_at, lock_number, status_number, in_parent}
use Rattle.hem_emit.specs.Written.{start_of}
use Rattle.hem_translate.specs.Starts.{first_of_field, first_of_entry, first_number}

-- an element of as many alike
repeated : {A : Type 0} (n k : ℕ) (x : A) → k < n → slice_get (replicate n x) k ≡ Some x
repeated zero k x less = absurd (omega (arith, less))
repeated (suc n) zero x less = refl
repeated (suc n) (suc k) x less = repeated n k x (omega (arith, less))

-- the status of a field, and of a child's entry, of an object at the start
field_first : (p : Protocol) (node : Node) (n i : ℕ) → status_number (slice_get (first_local p node.kind n).fields i) ≡ first_of_field p node.kind i
field_first p node n i = ap status_number (slice_get-map (λ f. f.1) (part p node.kind).fields i) ∙ by_field (slice_get (part p node.kind).fields i)
  where
    by_field : (f : Option (List ℕ × Status8)) → status_number (option_map (λ f. f.1) f) ≡ option_map_or (λ f. f.1.0) f 0
    by_field None = refl
    by_field (Some f) = refl

entry_first : (n k : ℕ) (dir : Option Status8) → k < n → status_number (slice_get (option_map_or (λ s. replicate n s) dir []) k) ≡ option_map_or (λ s. s.0) dir 0
entry_first n k None less = refl
entry_first n k (Some s) less = ap status_number (repeated n k s less)

no_lock : (side : Side) (t : Part) (p : Protocol) (node : Node) (n : ℕ) (kids : List ℕ) → lock_number kids t (lock_at side (first_local p node.kind n)) ≡ 0
no_lock Up origin p node n kids = refl
no_lock Up asked p node n kids = refl
no_lock Up kept p node n kids = refl
no_lock Down origin p node n kids = refl
no_lock Down asked p node n kids = refl
no_lock Down kept p node n kids = refl

module _ (p : Protocol) (tree : Tree) where
  abbrev line : Line
  line = first_line p tree (λ o. [])

  -- an object's local state at the start
  abbrev first_at : ℕ → Node → Local
  first_at o node = first_local p node.kind (length (children_of tree o))

  local_there : (o : ℕ) → local_at line o ≡ option_map (first_at o) (slice_get tree o)
  local_there o =
      ap (option_map (λ cell. cell.local)) (rw zero-add at (slice_get-map_each (first_cell p tree (λ o. [])) 0 tree o))
      ∙ by_node (slice_get tree o)
    where
      by_node : (node : Option Node) → option_map (λ cell. cell.local) (option_map (first_cell p tree (λ o. []) o) node) ≡ option_map (first_at o) node
      by_node None = refl
      by_node (Some node) = refl

  -- what is read of an object's local state
  own_first : (o : ℕ) (f : Local → ℕ) (g : Node → ℕ) → ((node : Node) → f (first_at o node) ≡ g node) → option_map_or f (local_at line o) 0 ≡ option_map_or g (slice_get tree o) 0
  own_first o f g each = ap (λ l. option_map_or f l 0) (local_there o) ∙ by_node (slice_get tree o)
    where
      by_node : (node : Option Node) → option_map_or f (option_map (first_at o) node) 0 ≡ option_map_or g node 0
      by_node None = refl
      by_node (Some node) = each node

  nothing : (node : Option Node) → option_map_or (λ n. zero) node zero ≡ zero
  nothing None = refl
  nothing (Some node) = refl

  of_kind : (f : Kind → ℕ) (node : Option Node) → option_map_or (λ n. f n.kind) node 0 ≡ option_map_or f (option_map (λ n. n.kind) node) 0
  of_kind f None = refl
  of_kind f (Some node) = refl

  -- what is read of the parent's local state
  high_first : (c : ℕ) (f : ℕ → Local → ℕ) (g : ℕ → ℕ) → ((high : ℕ) → parent_of tree c ≡ Some high → option_map_or (f (place_among tree high c)) (local_at line high) 0 ≡ g high) → in_parent tree line c f ≡ option_map_or g (parent_of tree c) 0
  high_first c f g each = by_parent (parent_of tree c) each
    where
      by_parent : (high : Option ℕ) → ((h : ℕ) → high ≡ Some h → option_map_or (f (place_among tree h c)) (local_at line h) 0 ≡ g h) → option_map_or (λ h. option_map_or (f (place_among tree h c)) (local_at line h) 0) high 0 ≡ option_map_or g high 0
      by_parent None each = refl
      by_parent (Some h) each = each h refl

  pub starts_as : (r : Reg) → start_of p tree r ≡ first_number p tree r
  starts_as (field i o) =
      own_first o (λ local. status_number (slice_get local.fields i)) (λ node. first_of_field p node.kind i) (λ node. field_first p node (length (children_of tree o)) i)
      ∙ of_kind (λ kind. first_of_field p kind i) (slice_get tree o)
  starts_as (val o) = own_first o (λ local. local.val) (λ node. 0) (λ node. refl) ∙ nothing (slice_get tree o)
  starts_as (lock side t o) =
      own_first o (λ local. lock_number (children_of tree o) t (lock_at side local)) (λ node. 0) (λ node. no_lock side t p node (length (children_of tree o)) (children_of tree o))
      ∙ nothing (slice_get tree o)
  starts_as (entry c) = high_first c (λ k local. status_number (slice_get local.dir k)) (λ high. option_map_or (first_of_entry p) (kind_of tree high) 0) of_high
    where
      is_one : (parent : Option ℕ) (high : ℕ) → parent ≡ Some high → is_number parent high ≡ true
      is_one parent high is = rw is (grind arith)

      of_high : (high : ℕ) → parent_of tree c ≡ Some high → option_map_or (λ local. status_number (slice_get local.dir (place_among tree high c))) (local_at line high) 0 ≡ option_map_or (first_of_entry p) (kind_of tree high) 0
      of_high high is =
          let less = slice_get_within (children_of tree high) (place_among tree high c) c (child_at tree high c (is_one (parent_of tree c) high is)) in
          own_first high (λ local. status_number (slice_get local.dir (place_among tree high c))) (λ node. first_of_entry p node.kind) (λ node. entry_first (length (children_of tree high)) (place_among tree high c) (part p node.kind).dir less)
          ∙ of_kind (first_of_entry p) (slice_get tree high)
  starts_as (awaits c) =
      high_first c (λ k local. cond (has_bit (awaited_of local).0 k) 1 0) (λ high. 0) (λ high is. own_first high (λ local. cond (has_bit (awaited_of local).0 (place_among tree high c)) 1 0) (λ node. 0) (λ node. ap (λ b. cond b 1 0) (no_bit (place_among tree high c))) ∙ nothing (slice_get tree high))
      ∙ none_high (parent_of tree c)
    where
      none_high : (high : Option ℕ) → option_map_or (λ h. zero) high zero ≡ zero
      none_high None = refl
      none_high (Some h) = refl
