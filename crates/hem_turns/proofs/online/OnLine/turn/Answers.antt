use Rattle.std.proofs.Common.{◌≡◌, ◌<◌, ap, sym, ◌∙◌, subst, rules, Some}
use denote.Param.Send.{sendable}
use Rattle.hem_choice.specs.Choices.{chosen}
use Rattle.hem_turns.specs.OnLine.{OnLine, sight_of}
use Rattle.hem_turns.proofs.Chosen.{is-chosen}
use Rattle.hem_turns.proofs.Ready.{ready}
use Rattle.hem_turns.proofs.online.OnLine.turn.Goals as goal

pub fire-requires : goal.fire-requires
fire-requires g c =
    let p = c.args.p.now in
    let kind = c.args.place.kind in
    let seen = c.see-sight.new.self in
    let local = ap (λ (l : OnLine). l.local) c.self.view_is in
    let here = subst (λ x. chosen p kind x c.see-sight.result ≡ Some c.in-Some.choice) local (sym c.choose.ensures ∙ c.in-Some.is) in
    let choice = subst (λ s. chosen p kind seen.local s ≡ Some c.in-Some.choice) c.see-sight.ensures.seen here in
    let room = subst (λ n. 0 < n) (sym (ap (λ (l : OnLine). l.room) c.see-sight.ensures.looked.same)) c.requires.room in
    (search (rules, sendable), (search (rules, sendable), ready p kind c.args.place.self_count c.in-Some.choice seen (is-chosen p kind seen.local (sight_of c.args.place.self_count seen) c.in-Some.choice choice) room))
