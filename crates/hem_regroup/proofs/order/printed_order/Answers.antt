use Rattle.std.proofs.Common.{◌≡◌, ◌≤◌, ◌∙◌, ◌&&◌, sym, ap, subst, []}
use Rattle.std.specs.Prelude.{◌==◌, slice_index}
use Rattle.std.proofs.lemmas.Bool.{true≢false}
use Rattle.std.proofs.lemmas.Option.{get_or_from_slice_get}
use Rattle.hem_law.specs.Orders.{stands_in}
use Rattle.hem_regroup.specs.Links.{links, backwards}
use Rattle.hem_regroup.specs.Graph.{targets, AreTables}
use Rattle.hem_regroup.specs.Ready.{times, IsReleased}
use Rattle.hem_regroup.proofs.SameTurns.{same_turns}
use Rattle.hem_regroup.proofs.InTurn.{ready_at, can_release}
use Rattle.hem_regroup.proofs.OverTurns.{below_whole, waiting_start, in_turn_start, in_turn_next, in_turn_none, in_turn_end, none_ready, least_at, at_other}
use Rattle.hem_regroup.proofs.order.printed_order.Goals as goal

pub of-requires : goal.of-requires
of-requires c = below_whole c.args.count c.args.members.now c.args.left.now c.requires.below c.requires.whole

pub loop-turn-init : goal.loop-turn-init
loop-turn-init c =
    let members = c.args.members.now in
    let ls = links (backwards [] members) in
    let left = c.args.left.now in
    let counts = c.in_ok-nexts.field-0.counts.items in
    let followers = c.into_vec-followers.result.items in
    let tables = subst (λ nexts. AreTables c.args.count ls nexts counts) (sym c.into_vec-followers.ensures) c.in_ok-nexts.ensures in
    in_turn_start ls left c.in_ok-out.out.items followers counts c.in_ok-ready.ready c.in_ok-out.ensures.items
    (waiting_start c.args.count members left followers counts c.in_ok-ready.ready c.requires.whole c.requires.ascends c.requires.below tables (λ u. c.in_ok-ready.ensures u ∙ ap (λ xs. stands_in left u && slice_index xs u == 0) c.as_slice.ensures.value))

pub returns-in-None : goal.returns-in-None
returns-in-None c =
    let ls = links (backwards [] c.args.members.now) in
    let none = none_ready c.loop-turn.ready (λ some. true≢false (sym (c.in-None.ensures.variant.1 some))) in
    in_turn_none ls c.args.left.now c.loop-turn._turn c.loop-turn.out.items c.into_vec-followers.result.items c.loop-turn.counts.items c.loop-turn.ready c.loop-turn.invariant c.loop-turn-test.true none
    ∙ same_turns c.args.members.now c.args.left.now c.requires.whole

pub release-requires : goal.release-requires
release-requires c =
    let ls = links (backwards [] c.args.members.now) in
    let turn = c.loop-turn.invariant in
    let number = c.in-Some.number in
    let followers = c.into_vec-followers.result.items in
    let at = ready_at ls turn.rest followers c.loop-turn.counts.items c.loop-turn.ready number turn.waiting c.in-Some.ensures.member in
    let there = get_or_from_slice_get followers number (targets ls number) c.index.result.now (turn.waiting.nexts_are number at.0) in
    let is : c.as_slice-in-Some.result.now ≡ targets ls number = c.as_slice-in-Some.ensures ∙ c.index.ensures ∙ there in
    λ u. subst (λ us. times us u ≤ slice_index c.loop-turn.counts.items u) (sym is) (can_release ls turn.rest followers c.loop-turn.counts.items c.loop-turn.ready number turn.waiting at.0 u)

pub loop-turn-preserved : goal.loop-turn-preserved
loop-turn-preserved c =
    let ls = links (backwards [] c.args.members.now) in
    let turn = c.loop-turn.invariant in
    let number = c.in-Some.number in
    let followers = c.into_vec-followers.result.items in
    let at = ready_at ls turn.rest followers c.loop-turn.counts.items c.loop-turn.ready number turn.waiting c.in-Some.ensures.member in
    let there = get_or_from_slice_get followers number (targets ls number) c.index.result.now (turn.waiting.nexts_are number at.0) in
    let is : c.as_slice-in-Some.result.now ≡ targets ls number = c.as_slice-in-Some.ensures ∙ c.index.ensures ∙ there in
    let released = subst (λ us. IsReleased us c.loop-turn.counts.items c.pop_first.new.self c.release.new.counts.items c.release.new.ready) is c.in_ok-release-in-Some.ensures in
    let updates = c.in-Some.ensures.updates in
    in_turn_next ls c.args.left.now c.loop-turn._turn c.loop-turn.out.items c.push.new.self.items followers c.loop-turn.counts.items c.release.new.counts.items c.loop-turn.ready c.pop_first.new.self c.release.new.ready number turn c.loop-turn-test.true c.in-Some.ensures.member
    (λ u ready. least_at number u (c.in-Some.ensures.least u ready))
    updates.1
    (λ u other. updates.2 u (at_other number u other))
    c.in_ok-push-in-Some.ensures.items
    released

pub returns : goal.returns
returns c =
    let ls = links (backwards [] c.args.members.now) in
    in_turn_end ls c.args.left.now c.loop-turn._turn c.loop-turn.out.items c.into_vec-followers.result.items c.loop-turn.counts.items c.loop-turn.ready c.loop-turn.invariant c.loop-turn-test.false
    ∙ same_turns c.args.members.now c.args.left.now c.requires.whole
