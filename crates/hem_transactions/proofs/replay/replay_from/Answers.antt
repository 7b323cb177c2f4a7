use Rattle.std.proofs.Common.{◌∙◌, get_or, sym, None}
use Rattle.std.proofs.lemmas.List.{take_more}
use Rattle.hem_base.specs.declared.ids.Firing.{Firing}
use Rattle.hem_system.proofs.Runs.{Runs-snoc}
use Rattle.hem_transactions.proofs.Steps.{IsEventOf, is_event}
use Rattle.hem_transactions.proofs.Going.{goes_next}
use Rattle.hem_transactions.proofs.replay.replay_from.Goals as goal

pub loop-place-preserved : goal.loop-place-preserved
loop-place-preserved c =
    let p = c.args.p.now in
    let tree = c.args.tree.now in
    let h = c.args.history.now in
    let n = c.loop-place.place in
    let d : Firing = record { line = record { 0 = 0 }; object = record { 0 = 0 }; rule = record { 0 = 0 }; me = None } in
    let f = get_or h n d in
    let within = c.loop-place-test.true in
    let now = c.loop-place.system in
    let next = c.step.new.self in
    let it : IsEventOf p tree now f c.in-Ok.event next = is_event p tree now f c.in-Ok.event next c.in-Ok.ensures.ok c.in-Ok.ensures.event in
    record {
      size = c.in_ok-number-in-Ok.ensures.size ∙ c.loop-place.invariant.size ∙ sym it.size;
      lists = c.in_ok-number-in-Ok.ensures.lists;
      runs = rw (take_more h n d within) (Runs-snoc f c.loop-place.invariant.runs c.in-Ok.ensures.ok.leads);
      goes = goes_next p tree c.args.system h n d now next c.in-Ok.event c.in_ok-number-in-Ok.number c.loop-place.lines c.follow.new.lines c.loop-place.numbers c.push.new.self within it c.in_ok-number-in-Ok.ensures.number c.in_ok-number-in-Ok.ensures.carry c.in_ok-push-in-Ok.ensures.ok c.loop-place.invariant.goes;
    }
