-- In the image of a line a module rule steps as its firing does.
use Rattle.std.proofs.Common.{◌≡◌, refl, ap, sym, ◌∙◌, ℕ, ◌<◌, Bool, true, false, cond, length, arith, map, drop, ◌++◌, ◌∷◌, [], List, Option, Some, None}
use Rattle.std.specs.Prelude.{◌==◌, IsTrue, Ok, slice_get, option_map}
use Rattle.std.specs.Option.{option_map_or}
use Rattle.std.proofs.lemmas.List.{map-append, drop-map}
use Rattle.std.proofs.lemmas.Option.{slice_get_within}
use Rattle.std.proofs.lemmas.Bool.{eqb-true}
use Rattle.hem_base.specs.declared.ids.Firing.{Firing}
use Rattle.hem_base.specs.declared.ids.Kind.{Kind}
use Rattle.hem_base.specs.declared.ids.Message.{Message}
use Rattle.hem_syntax.specs.declared.rule.Rule.{Rule}
use Rattle.hem_syntax.specs.Protocol.{Protocol, part, rule_named}
use Rattle.hem_syntax.specs.Lawful.{is_rule, counts_of}
use Rattle.hem_template.specs.declared.template_name.TemplateName.{TemplateName}
use Rattle.hem_template.specs.Template.{template_of}
use Rattle.hem_object.specs.Local.{Local, IsWellFormed}
use Rattle.hem_fire.specs.declared.outs.To.{To}
use Rattle.hem_fire.specs.OneFire.{Heads, me_fits, can_fire, local_after, outs_of}
use Rattle.hem_tree.specs.Tree.{Tree, Node, IsLawful, kind_of, is_child, children_of}
use Rattle.hem_system.specs.declared.lane.Lane.{Lane}
use Rattle.hem_system.specs.declared.lane.Lane.TheVariants.{UpRequests, UpResponses, Down, Requests, Answers}
use Rattle.hem_system.specs.State.{Cell, Line, Effect, local_at, list_of, list_at, heads_of, is_own_child, place_of_me, taken_heads, effect_of, takes, reaches, list_after, cell_after, line_after}
use Rattle.hem_system.proofs.Own.{slice_get-map_each, list_of-after}
use Rattle.std.proofs.Common.{zero-add}
use Rattle.hem_module.specs.Module.{Item}
use Rattle.hem_module.specs.Step.{Held, mod_can, after_actions, mod_step, queue_after}
use Rattle.hem_emit.specs.Names.{Reg, Queue, same_queue, names}
use Rattle.hem_emit.specs.Actions.{actions_of}
use Rattle.hem_emit.specs.Place.{Action}
use Rattle.hem_emit.specs.Emit.{place_of, rule_at}
use Rattle.hem_emit.specs.Image.{item_of, image}
use Rattle.hem_emit.specs.Shows.{AreKids, Shows}
use Rattle.hem_emit.proofs.Tests.{at_below}
use Rattle.hem_emit.proofs.Shown.{within, are_kids, image_shows, image_exact, effect_is, effect_there}
use Rattle.hem_emit.proofs.Lost.{taken_from}
use Rattle.hem_emit.proofs.Given.{given_as_sent, own_missed, child_missed}
use Rattle.hem_emit.proofs.Registered.{registers_after}

-- what is no object of the tree is reached by no firing
out_of_tree : (tree : Tree) (f : Firing) (kind : Kind) (u : ℕ) → kind_of tree f.object.0 ≡ Some kind → (u < length tree → ⊥) → (l : Lane) (t : To) → reaches tree f t u l ≡ false
out_of_tree tree f kind u is out l t = by_lane l
  where
    other : (b : Bool) → (u == f.object.0) ≡ b → b ≡ false
    other true same = absurd (out (let equal = eqb-true u f.object.0 same in let less = within tree f.object.0 kind is in omega (arith, equal, less)))
    other false same = refl

    there : (node : Option Node) → slice_get tree u ≡ node → is_child tree u f.object.0 ≡ true → ⊥
    there None at child = let none : is_child tree u f.object.0 ≡ false = rw at refl in cc
    there (Some node) at child = out (slice_get_within tree u node at)

    apart : (b : Bool) → is_child tree u f.object.0 ≡ b → b ≡ false
    apart true child = absurd (there (slice_get tree u) refl child)
    apart false child = refl

    far : (u == f.object.0) ≡ false
    far = other (u == f.object.0) refl

    by_lane : (l : Lane) → reaches tree f t u l ≡ false
    by_lane UpRequests = own_missed tree f u far UpRequests refl t
    by_lane UpResponses = own_missed tree f u far UpResponses refl t
    by_lane Requests = own_missed tree f u far Requests refl t
    by_lane Answers = own_missed tree f u far Answers refl t
    by_lane Down = child_missed tree f u (apart (is_child tree u f.object.0) refl) t

-- a list of a line after a firing
list_now : (tree : Tree) (f : Firing) (kind : Kind) (e : Effect) (line : Line) (u : ℕ) (l : Lane) → kind_of tree f.object.0 ≡ Some kind → length line ≡ length tree → list_at (line_after tree f e line) u l ≡ list_after tree f e.outs u l (list_at line u l)
list_now tree f kind e line u l is count =
    ap (λ (c : Option Cell). option_map_or (λ cell. list_of cell l) c []) (rw zero-add at (slice_get-map_each (cell_after tree f e) 0 line u))
    ∙ by_cell (slice_get line u) refl
  where
    out : slice_get line u ≡ None → u < length tree → ⊥
    out none less = let it = at_below line u (rw count less) in let bad : None ≡ Some it.0 = sym none ∙ it.1 in cc

    by_cell : (found : Option Cell) → slice_get line u ≡ found → option_map_or (λ cell. list_of cell l) (option_map (cell_after tree f e u) found) [] ≡ list_after tree f e.outs u l (option_map_or (λ cell. list_of cell l) found [])
    by_cell (Some cell) at = list_of-after tree f e u cell l
    by_cell None at = nothing (takes tree f e.outs u l) (reaches tree f e.outs.to u l) (out_of_tree tree f kind u is (out at) l e.outs.to)
      where
        nothing : (b c : Bool) → c ≡ false → [] ≡ drop (cond b 1 0) [] ++ cond c (e.outs.message ∷ []) []
        nothing true c none = rw none refl
        nothing false c none = rw none refl

module _ (p : Protocol) (tree : Tree) (line : Line) (f : Firing) (kind : Kind) (rule : Rule) (t : TemplateName) (local : Local) (lawful : IsLawful tree) (is : kind_of tree f.object.0 ≡ Some kind) (named : rule_named p kind f.rule ≡ Some rule) (has : template_of p kind rule ≡ Ok t) (known : IsTrue (is_rule (counts_of p (part p kind)) rule)) (own_child : is_own_child tree f.object.0 f.me ≡ true) (fits : IsTrue (me_fits kind rule.take (place_of_me tree f.object.0 f.me) (length (children_of tree f.object.0)))) (count : length line ≡ length tree) (there : local_at line f.object.0 ≡ Some local) (formed : IsWellFormed p kind (length (children_of tree f.object.0)) local) where
  abbrev o : ℕ
  o = f.object.0

  abbrev me : Option ℕ
  me = place_of_me tree o f.me

  abbrev heads : Heads
  heads = heads_of tree line o f.me

  abbrev e : Effect
  e =
      let outs = outs_of p kind rule me local heads in
      record { after = local_after p kind rule me local heads; took = taken_heads outs heads; outs = outs }

  abbrev s : Held Reg Queue
  s = image tree line

  abbrev next : Line
  next = line_after tree f e line

  kids : AreKids kind (children_of tree o)
  kids = are_kids tree lawful o kind is

  shows : Shows (place_of p tree o kind) me local heads s
  shows = image_shows p tree line o kind local f.me there own_child formed.dir_count

  abbrev acts : List Action
  acts = actions_of p (place_of p tree o kind) me rule

  list_made : (lost : ℕ) (given : List Item) (takes_it : ℕ) (sent xs : List Message) → lost ≡ takes_it → given ≡ map item_of sent → drop lost (map item_of xs) ++ given ≡ map item_of (drop takes_it xs ++ sent)
  list_made lost given takes_it sent xs same_takes same_sends =
      ap (λ n. drop n (map item_of xs) ++ given) same_takes
      ∙ ap (λ g. drop takes_it (map item_of xs) ++ g) same_sends
      ∙ ap (λ ys. ys ++ map item_of sent) (drop-map item_of takes_it xs)
      ∙ sym (map-append item_of (drop takes_it xs) sent)

  queue_kept : can_fire p kind rule me local heads ≡ true → (q : Queue) → queue_after s (same_queue q) acts (s.queue q) ≡ (image tree next).queue q
  queue_kept can q =
      list_made _ _ _ _ (list_at line q.object q.lane)
      (ap (λ b. cond b 1 0) (taken_from p tree f kind rule local heads s own_child kids shows q.object rule.take refl e.outs.to e.outs.message q.lane))
      (given_as_sent p tree f kind rule t local heads s has known kids formed shows can q.object q.lane)
      ∙ sym (ap (map item_of) (list_now tree f kind e line q.object q.lane is count))

  pub led : can_fire p kind rule me local heads ≡ true → after_actions names s acts ≡ image tree next
  led can =
      λ i. record {
        reg = λ r. registers_after p tree line f kind rule t local heads has known kids there formed shows can e refl r i;
        queue = λ q. queue_kept can q i;
      }

  abbrev IsStep : Type 0
  IsStep = mod_step names s (rule_at p (place_of p tree o kind) rule me) ≡ option_map (λ e. image tree (line_after tree f e line)) (effect_of p tree line f)

  pub can_is : mod_can s (rule_at p (place_of p tree o kind) rule me) ≡ can_fire p kind rule me local heads
  can_is = image_exact p tree line f kind rule t local lawful is named has known own_child fits there formed ∙ effect_there p tree line f kind rule local is named own_child there

  pub made : (b : Bool) → can_fire p kind rule me local heads ≡ b → effect_of p tree line f ≡ cond b (Some e) None
  made b can = effect_is p tree line f kind rule local is named own_child there ∙ ap (λ b. cond b (Some e) None) can

  by_can : (b : Bool) → can_fire p kind rule me local heads ≡ b → IsStep
  by_can true can =
      ap (λ b. cond b (Some (after_actions names s acts)) None) (can_is ∙ can)
      ∙ ap Some (led can)
      ∙ sym (ap (option_map (λ e. image tree (line_after tree f e line))) (made true can))
  by_can false can =
      ap (λ b. cond b (Some (after_actions names s acts)) None) (can_is ∙ can)
      ∙ sym (ap (option_map (λ e. image tree (line_after tree f e line))) (made false can))

  pub step_exact : IsStep
  step_exact = by_can (can_fire p kind rule me local heads) refl
