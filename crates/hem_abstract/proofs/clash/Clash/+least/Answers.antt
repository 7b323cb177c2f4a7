use Rattle.std.proofs.Common.{◌≡◌, ap, sym, ◌∙◌, ◌++◌, [], ◌∷◌, ◌-◌, List, arith}
use Rattle.hem_base.specs.declared.ids.Status8.{Status8}
use Rattle.hem_abstract.specs.Abstract.{status}
use Rattle.hem_abstract.specs.Stable.{field_lists}
use Rattle.hem_abstract.specs.First.{first_with}
use Rattle.hem_abstract.specs.Search.{clash_at}
use Rattle.hem_abstract.proofs.Turns.{number-none, status-some, status-never}
use Rattle.hem_abstract.proofs.clash.Clash.+least.Goals as goal

pub returns-in-Some : goal.returns-in-Some
returns-in-Some t c =
    let more = c.args.more in
    let m = c.args.statuses in
    let fields = c.as_slice.ensures.value ∙ c.longer-fields.ensures in
    let found = sym c.in-Some.is ∙ c.least.ensures ∙ ap (λ (fs : List Status8). first_with (λ rest. clash_at c.args.self.now (fs ++ rest)) (field_lists (more - 1) m)) fields in
    status-some (clash_at c.args.self.now) c.args.first.now more m c.loop-status.status c.in-Some.found c.if-more-eq0.false c.loop-status-test.true c.loop-status.invariant found

pub loop-status-preserved : goal.loop-status-preserved
loop-status-preserved t c =
    let more = c.args.more in
    let m = c.args.statuses in
    let fields = c.as_slice.ensures.value ∙ c.longer-fields.ensures in
    let none = sym c.in_default.is ∙ c.least.ensures ∙ ap (λ (fs : List Status8). first_with (λ rest. clash_at c.args.self.now (fs ++ rest)) (field_lists (more - 1) m)) fields in
    number-none (λ s. first_with (λ rest. clash_at c.args.self.now ((c.args.first.now ++ status s ∷ []) ++ rest)) (field_lists (more - 1) m)) c.loop-status.status c.loop-status.invariant none

pub returns : goal.returns
returns t c =
    let end : c.loop-status.status ≡ c.args.statuses = omega (arith, c.loop-status-test.false, c.loop-status.auto.status-end) in
    status-never (clash_at c.args.self.now) c.args.first.now c.args.more c.args.statuses c.loop-status.status c.if-more-eq0.false end c.loop-status.invariant
