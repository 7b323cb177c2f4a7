-- What a firing makes of the local states and lists of a state.
use Rattle.std.proofs.Common.{◌≡◌, ◌≢◌, refl, ap, sym, ◌∙◌, subst, ℕ, suc, ◌+◌, Bool, true, false, cond, List, [], ◌∷◌, length, Option, Some, None, ◌⊎◌, inl, inr}
use Rattle.std.specs.Prelude.{◌==◌, slice_get, option_map, option_and_then}
use Rattle.std.specs.Option.{option_map_or}
use Rattle.std.proofs.lemmas.Bool.{eq-eqb, eqb-true}
use Rattle.std.proofs.lemmas.Option.{slice_get_within}
use Rattle.hem_base.specs.declared.ids.Firing.{Firing}
use Rattle.hem_base.specs.declared.ids.Kind.{Kind}
use Rattle.hem_syntax.specs.declared.rule.Rule.{Rule}
use Rattle.hem_syntax.specs.Protocol.{Protocol, rule_named}
use Rattle.hem_object.specs.Local.{Local}
use Rattle.hem_fire.specs.OneFire.{can_fire, OneFire}
use Rattle.hem_tree.specs.Tree.{Tree, kind_of}
use Rattle.hem_system.specs.declared.lane.Lane.{Lane}
use Rattle.hem_system.specs.State.{State, Line, Cell, Effect, map_each, list_of, local_at, heads_of, is_own_child, place_of_me, own_effect, list_after, cell_after, line_after}
use Rattle.hem_system.specs.Laws.{list_in, local_in}
use Rattle.hem_system.proofs.Sets.{get_set_here, get_set_other}
use Rattle.hem_system.proofs.Own.{Came, cell_before, cell_now, list_of-after}
use Rattle.hem_invariants.proofs.Choices.{chosen, if_some, if_passed}

-- what a firing was at its object: its kind, its rule, the local state that it found, and the firing of the rule there
pub record At (p : Protocol) (tree : Tree) (old new : State) (f : Firing) (it : Came p tree old f new) : Type 0 where
  pub kind : Kind
  pub rule : Rule
  pub local : Local
  pub kind_is : kind_of tree f.object.0 ≡ Some kind
  pub rule_is : rule_named p kind f.rule ≡ Some rule
  pub child : is_own_child tree f.object.0 f.me ≡ true
  pub here : local_at it.line f.object.0 ≡ Some local
  pub fires : OneFire p kind rule (place_of_me tree f.object.0 f.me) local (heads_of tree it.line f.object.0 f.me) it.effect.after it.effect.outs

-- each firing is one of a rule at its object
pub at-object : (p : Protocol) (tree : Tree) (old new : State) (f : Firing) (it : Came p tree old f new) → At p tree old new f it
at-object p tree old new f it =
    let o = f.object.0 in
    let heads = heads_of tree it.line o f.me in
    let by_local = if_some (λ local. own_effect p tree f local heads) (local_at it.line o) it.effect it.possible in
    let by_kind = if_some _ (kind_of tree o) it.effect by_local.2 in
    let by_rule = if_some _ (rule_named p by_kind.0 f.rule) it.effect by_kind.2 in
    let by_child = if_passed (is_own_child tree o f.me) _ it.effect by_rule.2 in
    let made = chosen (can_fire p by_kind.0 by_rule.0 (place_of_me tree o f.me) by_local.0 heads) _ it.effect by_child.1 in
    record {
      kind = by_kind.0;
      rule = by_rule.0;
      local = by_local.0;
      kind_is = by_kind.1;
      rule_is = by_rule.1;
      child = by_child.0;
      here = by_local.1;
      fires = record { possible = made.0; leaves = sym (ap (λ (e : Effect). e.after) made.1); gives = sym (ap (λ (e : Effect). e.outs) made.1) };
    }

-- numbers that a test tells apart
not_number : (l m : ℕ) → (l == m) ≡ false → l ≢ m
not_number l m differs same = let is = eq-eqb l m same in cc

-- a change of each element keeps their number
pub length-map_each : {A B : Type 0} (g : ℕ → A → B) (k : ℕ) (xs : List A) → length (map_each g k xs) ≡ length xs
length-map_each g k [] = refl
length-map_each g k (x ∷ xs) = ap suc (length-map_each g (k + 1) xs)

module _ (p : Protocol) (tree : Tree) (old new : State) (f : Firing) (it : Came p tree old f new) where
  -- another line stays
  other-line : (l : ℕ) → (l == f.line.0) ≡ false → slice_get new l ≡ slice_get old l
  other-line l differs = ap (λ (s : State). slice_get s l) it.after ∙ get_set_other old f.line.0 l (line_after tree f it.effect it.line) (not_number l f.line.0 differs)

  -- a list of another line stays
  pub list-elsewhere : (l k : ℕ) (lane : Lane) → (l == f.line.0) ≡ false → list_in new l k lane ≡ list_in old l k lane
  list-elsewhere l k lane differs = ap (λ (o : Option Line). option_map_or (λ cell. list_of cell lane) (option_and_then (λ line. slice_get line k) o) []) (other-line l differs)

  -- a list of the firing's line is taken from and sent to, or its object isn't there
  pub list-here : (k : ℕ) (lane : Lane) → ((list_in new f.line.0 k lane ≡ []) × (list_in old f.line.0 k lane ≡ [])) ⊎ (list_in new f.line.0 k lane ≡ list_after tree f it.effect.outs k lane (list_in old f.line.0 k lane))
  list-here k lane = by_cell (slice_get it.line k) refl
    where
      by_cell : (found : Option Cell) → slice_get it.line k ≡ found → ((list_in new f.line.0 k lane ≡ []) × (list_in old f.line.0 k lane ≡ [])) ⊎ (list_in new f.line.0 k lane ≡ list_after tree f it.effect.outs k lane (list_in old f.line.0 k lane))
      by_cell None at =
          let now = cell_now it k ∙ ap (option_map (cell_after tree f it.effect k)) at in
          let was = cell_before it k ∙ at in
          inl (ap (λ o. option_map_or (λ cell. list_of cell lane) o []) now, ap (λ o. option_map_or (λ cell. list_of cell lane) o []) was)
      by_cell (Some cell) at =
          let now = cell_now it k ∙ ap (option_map (cell_after tree f it.effect k)) at in
          let was = cell_before it k ∙ at in
          inr (ap (λ o. option_map_or (λ cell. list_of cell lane) o []) now
          ∙ list_of-after tree f it.effect k cell lane
          ∙ sym (ap (λ o. list_after tree f it.effect.outs k lane (option_map_or (λ cell. list_of cell lane) o [])) was))

  -- so a list stays as it was, or it is on the line of the firing, which takes from it and sends to it
  pub list-next : (l k : ℕ) (lane : Lane) → (list_in new l k lane ≡ list_in old l k lane) ⊎ (list_in new l k lane ≡ list_after tree f it.effect.outs k lane (list_in old l k lane))
  list-next l k lane = by_line (l == f.line.0) refl
    where
      here : ((list_in new f.line.0 k lane ≡ []) × (list_in old f.line.0 k lane ≡ [])) ⊎ (list_in new f.line.0 k lane ≡ list_after tree f it.effect.outs k lane (list_in old f.line.0 k lane)) → (list_in new f.line.0 k lane ≡ list_in old f.line.0 k lane) ⊎ (list_in new f.line.0 k lane ≡ list_after tree f it.effect.outs k lane (list_in old f.line.0 k lane))
      here (inl none) = inl (none.0 ∙ sym none.1)
      here (inr next) = inr next

      by_line : (b : Bool) → (l == f.line.0) ≡ b → (list_in new l k lane ≡ list_in old l k lane) ⊎ (list_in new l k lane ≡ list_after tree f it.effect.outs k lane (list_in old l k lane))
      by_line false differs = inl (list-elsewhere l k lane differs)
      by_line true same = subst (λ m. (list_in new m k lane ≡ list_in old m k lane) ⊎ (list_in new m k lane ≡ list_after tree f it.effect.outs k lane (list_in old m k lane))) (sym (eqb-true l f.line.0 same)) (here (list-here k lane))

  -- a local state stays as it was, or it is the firing's own
  pub local-next : (l k : ℕ) → (local_in new l k ≡ local_in old l k) ⊎ ((l ≡ f.line.0) × (k ≡ f.object.0) × ((local : Local) → local_in new l k ≡ Some local → local ≡ it.effect.after))
  local-next l k = by_line (l == f.line.0) refl
    where
      by_object : (cell : Cell) (b : Bool) → (k == f.object.0) ≡ b → local_in new f.line.0 k ≡ Some (cond b it.effect.after cell.local) → local_in old f.line.0 k ≡ Some cell.local → (local_in new f.line.0 k ≡ local_in old f.line.0 k) ⊎ ((f.line.0 ≡ f.line.0) × (k ≡ f.object.0) × ((local : Local) → local_in new f.line.0 k ≡ Some local → local ≡ it.effect.after))
      by_object cell true same now was = inr (refl, eqb-true k f.object.0 same, (λ local is. cc))
      by_object cell false differs now was = inl (now ∙ sym was)

      by_cell : (found : Option Cell) → slice_get it.line k ≡ found → (local_in new f.line.0 k ≡ local_in old f.line.0 k) ⊎ ((f.line.0 ≡ f.line.0) × (k ≡ f.object.0) × ((local : Local) → local_in new f.line.0 k ≡ Some local → local ≡ it.effect.after))
      by_cell None at =
          let now = cell_now it k ∙ ap (option_map (cell_after tree f it.effect k)) at in
          let was = cell_before it k ∙ at in
          inl (ap (option_map (λ (c : Cell). c.local)) now ∙ sym (ap (option_map (λ (c : Cell). c.local)) was))
      by_cell (Some cell) at =
          let now = cell_now it k ∙ ap (option_map (cell_after tree f it.effect k)) at in
          let was = cell_before it k ∙ at in
          by_object cell (k == f.object.0) refl (ap (option_map (λ (c : Cell). c.local)) now) (ap (option_map (λ (c : Cell). c.local)) was)

      by_line : (b : Bool) → (l == f.line.0) ≡ b → (local_in new l k ≡ local_in old l k) ⊎ ((l ≡ f.line.0) × (k ≡ f.object.0) × ((local : Local) → local_in new l k ≡ Some local → local ≡ it.effect.after))
      by_line false differs = inl (ap (λ (o : Option Line). option_map (λ (c : Cell). c.local) (option_and_then (λ line. slice_get line k) o)) (other-line l differs))
      by_line true same = subst (λ m. (local_in new m k ≡ local_in old m k) ⊎ ((m ≡ f.line.0) × (k ≡ f.object.0) × ((local : Local) → local_in new m k ≡ Some local → local ≡ it.effect.after))) (sym (eqb-true l f.line.0 same)) (by_cell (slice_get it.line k) refl)

  -- each line keeps its number of objects
  pub sizes-next : (size : ℕ) → ((l : ℕ) (line : Line) → slice_get old l ≡ Some line → length line ≡ size) → (l : ℕ) (line : Line) → slice_get new l ≡ Some line → length line ≡ size
  sizes-next size sized l line there = by_line (l == f.line.0) refl
    where
      by_line : (b : Bool) → (l == f.line.0) ≡ b → length line ≡ size
      by_line false differs = sized l line (sym (other-line l differs) ∙ there)
      by_line true same =
          let next = line_after tree f it.effect it.line in
          let here : slice_get new l ≡ Some next = subst (λ m. slice_get new m ≡ Some next) (sym (eqb-true l f.line.0 same)) (ap (λ (s : State). slice_get s f.line.0) it.after ∙ get_set_here old f.line.0 next (slice_get_within old f.line.0 it.line it.there)) in
          let is : line ≡ next = (let both_are : Some line ≡ Some next = sym there ∙ here in cc) in
          ap length is ∙ length-map_each (cell_after tree f it.effect) 0 it.line ∙ sized f.line.0 it.line it.there
