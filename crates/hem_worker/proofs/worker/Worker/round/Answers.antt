use Rattle.std.proofs.Common.{ap, sym, ◌∙◌, subst}
use Rattle.std.specs.Prelude.{slice_get}
use Rattle.hem_turns.specs.OnLine.{IsSeen}
use Rattle.hem_worker.specs.Workers.{Worker, AreChanged, AreParts}
use Rattle.hem_worker.specs.Rounds.{IsRoundOf}
use Rattle.hem_worker.specs.Edges.{channels}
use Rattle.hem_worker.proofs.RoundsRun.{round-keeps, round-stuck, round-looked, round-parts}
use Rattle.hem_worker.proofs.ChannelsKept.{round-channels}
use Rattle.hem_worker.proofs.worker.Worker.round.Goals as goal

pub fire_all-fired-requires-clause-room : goal.fire_all-fired-requires-clause-room
fire_all-fired-requires-clause-room g c = λ κs within l line at. c.requires l line (sym (ap (λ (w : Worker). slice_get w.lines l) c.self.view_is) ∙ at)

pub invariant_of-self : goal.invariant_of-self
invariant_of-self g c =
    let place = c.self.inside.place in
    let round = subst (λ children. IsRoundOf c.args.p.now c.self.inside.place.kind c.self.inside.place.self_count c.self.inside.place.object children c.args.burst c.fire_all-fired.result c.self.inside.lines c.fire_all-fired.new.lines) c.as_slice.ensures c.fire_all-fired.ensures in
    round-keeps c.args.p.now place.kind place.self_count place.object c.self.inside.children c.args.burst c.fire_all-fired.result c.self.inside.lines c.fire_all-fired.new.lines round c.self.invariant

pub returns-clause-stuck : goal.returns-clause-stuck
returns-clause-stuck g c =
    let place = c.self.inside.place in
    round-stuck c.args.p.now place.kind place.self_count place.object c.as_slice.result.now c.args.burst c.fire_all-fired.result c.self.inside.lines c.fire_all-fired.new.lines c.fire_all-fired.ensures

pub returns-clause-looked : goal.returns-clause-looked
returns-clause-looked g c =
    let place = c.self.inside.place in
    λ none some. subst (λ lines. AreChanged (λ l. IsSeen) lines c.fire_all-fired.new.lines) (ap (λ (w : Worker). w.lines) c.self.view_is) (round-looked c.args.p.now place.kind place.self_count place.object c.as_slice.result.now c.args.burst c.fire_all-fired.result c.self.inside.lines c.fire_all-fired.new.lines c.fire_all-fired.ensures none some)

pub returns-clause-channels : goal.returns-clause-channels
returns-clause-channels g c =
    let place = c.self.inside.place in
    round-channels c.args.p.now place.kind place.self_count place.object c.as_slice.result.now c.args.burst c.fire_all-fired.result c.self.inside.lines c.fire_all-fired.new.lines c.fire_all-fired.ensures ∙ ap (λ (w : Worker). channels w) c.self.view_is

pub returns-clause-parts : goal.returns-clause-parts
returns-clause-parts g c =
    let place = c.self.inside.place in
    let round = subst (λ children. IsRoundOf c.args.p.now c.self.inside.place.kind c.self.inside.place.self_count c.self.inside.place.object children c.args.burst c.fire_all-fired.result c.self.inside.lines c.fire_all-fired.new.lines) c.as_slice.ensures c.fire_all-fired.ensures in
    λ tree start parts. round-parts c.args.p.now place.kind place.self_count place.object c.self.inside.children c.args.burst c.fire_all-fired.result c.self.inside.lines c.fire_all-fired.new.lines round c.part-part.ensures.lawful tree start (subst (AreParts c.args.p.now tree start) (sym c.self.view_is) parts)
