-- A firing on a line, with all that is known of it.
use Rattle.std.proofs.Common.{◌≡◌, ◌≢◌, ℕ, ◌+◌, ◌<◌, ◌≤◌, true, false, cond, [], length, refl, sym, ap, ◌∙◌, subst, arith, Option, Some, None}
use Rattle.std.specs.Prelude.{◌==◌, slice_get, option_map, option_and_then, Ok}
use Rattle.std.specs.Option.{option_map_or}
use Rattle.std.proofs.lemmas.Option.{slice_get_within}
use Rattle.hem_base.specs.declared.ids.Firing.{Firing}
use Rattle.hem_base.specs.declared.ids.Kind.{Kind}
use Rattle.hem_syntax.specs.declared.rule.Rule.{Rule}
use Rattle.hem_template.specs.declared.template_name.TemplateName.{TemplateName}
use Rattle.hem_syntax.specs.Protocol.{Protocol, rule_named}
use Rattle.hem_object.specs.Local.{Local}
use Rattle.hem_template.specs.Template.{template_of}
use Rattle.hem_tree.specs.Tree.{Tree, Node, parent_of, is_child, place_among, IsTree}
use Rattle.hem_tree.proofs.Early.{lawful_early}
use Rattle.hem_tree.proofs.Lawful.{get_within}
use Rattle.hem_system.specs.declared.lane.Lane.{Lane}
use Rattle.hem_system.specs.declared.lane.Lane.TheVariants.{UpRequests, UpResponses, Down}
use Rattle.hem_system.specs.State.{Cell, Line, Effect, local_at, list_at, list_of, heads_of, own_effect, effect_of, line_after, place_of_me}
use Rattle.hem_system.proofs.Takers.{parent_is}
use Rattle.hem_rows.proofs.Choices.{if_some}
use Rattle.hem_law.proofs.LineParts.{list_at-after, local_at-after}
use Rattle.hem_law.proofs.OwnEffect.{own_effect-parts}
use Rattle.hem_rows.specs.Acts.{is_down_request, is_down_response}
use Rattle.hem_rows.specs.Rows.{AllHaveTemplates}
use Rattle.hem_locks.specs.Edges.{count, for_kid, for_parent, awaits, LocksHold}
use Rattle.hem_rows.proofs.Acts.{acts_by_template}
use Rattle.hem_rows.proofs.Rows.{of_row}
use Rattle.hem_numbered.specs.Numbers.{uplock_at, downlock_at}
use Rattle.hem_numbered.specs.Bounds.{AreBounded}
use Rattle.hem_numbered.specs.Firings.{IsFiring}
use Rattle.hem_locks.proofs.LockNumbers.{held-few}
use Rattle.hem_locks.proofs.Acted.{fired}

-- an object with a parent is in the tree
pub child_within : (tree : Tree) (k o : ℕ) → is_child tree k o ≡ true → k < length tree
child_within tree k o own = by_node (slice_get tree k) refl (parent_is tree k o own)
  where
    by_node : (node : Option Node) → slice_get tree k ≡ node → parent_of tree k ≡ Some o → k < length tree
    by_node None at above = absurd (let bad : None ≡ Some o = sym (ap (λ n. option_and_then (λ (node : Node). node.parent) n) at) ∙ above in cc)
    by_node (Some node) at above = slice_get_within tree k node at

-- where the invariant of locks holds, what is under way is bounded
pub bounded : (p : Protocol) (tree : Tree) (line : Line) → IsTree tree → LocksHold p tree line → AreBounded p tree line
bounded p tree line lawful holds =
    record {
      one = λ k o own.
          let it = cells k o own in
          let lower = it.0 in
          let upper = it.2 in
          let edge = (holds.edges.edge k o upper lower (parent_is tree k o own) it.3 it.1).uplock in
          let most = held-few lower.local.up in
          subst (λ n. n + count (is_down_response p) (list_at line k Down) + for_kid (place_among tree o k) (uplock_at line o) + for_kid (place_among tree o k) (downlock_at line o) ≤ 1) (sym (ap length (list_is k lower UpRequests it.1)))
          (subst (λ ms. length lower.up_requests + count (is_down_response p) ms + for_kid (place_among tree o k) (uplock_at line o) + for_kid (place_among tree o k) (downlock_at line o) ≤ 1) (sym (list_is k lower Down it.1))
          (subst (λ l. length lower.up_requests + count (is_down_response p) lower.down + for_kid (place_among tree o k) l + for_kid (place_among tree o k) (downlock_at line o) ≤ 1) (sym (up_is o upper it.3))
          (subst (λ l. length lower.up_requests + count (is_down_response p) lower.down + for_kid (place_among tree o k) upper.local.up + for_kid (place_among tree o k) l ≤ 1) (sym (down_is o upper it.3))
          (omega (arith, edge, most)))));
      two = λ k o own.
          let it = cells k o own in
          let lower = it.0 in
          let upper = it.2 in
          let edge = (holds.edges.edge k o upper lower (parent_is tree k o own) it.3 it.1).downlock in
          subst (λ ms. count (is_down_request p) ms + length (list_at line k UpResponses) + for_parent (downlock_at line k) ≤ awaits (place_among tree o k) (downlock_at line o)) (sym (list_is k lower Down it.1))
          (subst (λ n. count (is_down_request p) lower.down + n + for_parent (downlock_at line k) ≤ awaits (place_among tree o k) (downlock_at line o)) (sym (ap length (list_is k lower UpResponses it.1)))
          (subst (λ l. count (is_down_request p) lower.down + length lower.up_responses + for_parent l ≤ awaits (place_among tree o k) (downlock_at line o)) (sym (down_is k lower it.1))
          (subst (λ l. count (is_down_request p) lower.down + length lower.up_responses + for_parent lower.local.down ≤ awaits (place_among tree o k) l) (sym (down_is o upper it.3))
          (omega (arith, edge)))));
    }
  where
    cells : (k o : ℕ) → is_child tree k o ≡ true → (lower : Cell) × (slice_get line k ≡ Some lower) × (upper : Cell) × (slice_get line o ≡ Some upper)
    cells k o own =
        let in_tree = child_within tree k o own in
        let before = (lawful_early tree lawful).early k o (parent_is tree k o own) in
        let size = holds.size in
        let low = get_within line k (omega (arith, in_tree, size)) in
        let high = get_within line o (omega (arith, in_tree, size, before)) in
        (low.0, low.1, high.0, high.1)

    list_is : (k : ℕ) (cell : Cell) (lane : Lane) → slice_get line k ≡ Some cell → list_at line k lane ≡ list_of cell lane
    list_is k cell lane at = ap (λ c. option_map_or (λ cell. list_of cell lane) c []) at

    up_is : (k : ℕ) (cell : Cell) → slice_get line k ≡ Some cell → uplock_at line k ≡ cell.local.up
    up_is k cell at = ap (λ c. option_and_then (λ (local : Local). local.up) (option_map (λ (cell : Cell). cell.local) c)) at

    down_is : (k : ℕ) (cell : Cell) → slice_get line k ≡ Some cell → downlock_at line k ≡ cell.local.down
    down_is k cell at = ap (λ c. option_and_then (λ (local : Local). local.down) (option_map (λ (cell : Cell). cell.local) c)) at

-- a firing on a line: its rule, and its template
pub record FiringOf (p : Protocol) (tree : Tree) (line : Line) (f : Firing) (e : Effect) : Type 0 where
  pub t : TemplateName
  pub kind : Kind
  pub rule : Rule
  pub before : Local
  pub named : rule_named p kind f.rule ≡ Some rule
  pub template : template_of p kind rule ≡ Ok t
  pub is : IsFiring p tree f t kind rule before e.after e.outs line (line_after tree f e line)

pub firing_of : (p : Protocol) (tree : Tree) (line : Line) (f : Firing) (e : Effect) → IsTree tree → AllHaveTemplates p → LocksHold p tree line → effect_of p tree line f ≡ Some e → FiringOf p tree line f e
firing_of p tree line f e lawful templates holds possible =
    let by_local = if_some (λ local. own_effect p tree f local (heads_of tree line f.object.0 f.me)) (local_at line f.object.0) e possible in
    let local = by_local.0 in
    let heads = heads_of tree line f.object.0 f.me in
    let parts = own_effect-parts p tree f local heads e by_local.2 in
    let fires = fired p parts.kind parts.rule (place_of_me tree f.object.0 f.me) local heads e parts.effect in
    let template = templates.each parts.kind f.rule parts.rule parts.named in
    record {
      t = template.0;
      kind = parts.kind;
      rule = parts.rule;
      before = local;
      named = parts.named;
      template = template.1;
      is = record {
        lawful = lawful;
        kind_is = parts.there;
        own = parts.child;
        row = of_row p parts.kind parts.rule template.0 template.1;
        fires = fires;
        acts = acts_by_template p parts.kind parts.rule template.0 (place_of_me tree f.object.0 f.me) local heads e.after e.outs template.1 fires;
        leads = record {
          lists = λ k lane. list_at-after tree line f e local k lane holds.size by_local.1;
          here = by_local.1;
          now = local_at-after tree line f e f.object.0 ∙ ap (λ l. option_map (λ l. cond (f.object.0 == f.object.0) e.after l) l) by_local.1 ∙ (let is : (f.object.0 == f.object.0) ≡ true = grind arith in ap (λ b. Some (cond b e.after local)) is);
          others = λ k other. local_at-after tree line f e k ∙ unchanged k other (local_at line k);
        };
        bounded = bounded p tree line lawful holds;
      };
    }
  where
    unchanged : (k : ℕ) → k ≢ f.object.0 → (l : Option Local) → option_map (λ l. cond (k == f.object.0) e.after l) l ≡ l
    unchanged k other None = refl
    unchanged k other (Some l) = let is : (k == f.object.0) ≡ false = grind arith in ap (λ b. Some (cond b e.after l)) is
