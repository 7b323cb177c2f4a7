use Rattle.std.proofs.Common.{◌≡◌, ◌<◌, ◌∙◌, sym, ap, subst}
use Rattle.std.specs.Prelude.{map}
use Rattle.hem_tree.specs.Tree.{below}
use Rattle.hem_work.specs.declared.made.Choices.{Choices}
use Rattle.hem_work.specs.Work.{Work}
use Rattle.hem_work.specs.Entries.{CanPick}
use Rattle.hem_work.specs.Lawful.{IsLawfulWork}
use Rattle.hem_work.specs.Made.{fault_with, choices_of, generated_count, request_after, table_with, made}
use Rattle.hem_work.proofs.Generated.{can_pick}
use Rattle.hem_work.proofs.MadeFits.{made_lawful}
use Rattle.hem_work.proofs.work.Work.make.Goals as goal

pub returns-in-Some-clause-refused : goal.returns-in-Some-clause-refused
returns-in-Some-clause-refused c =
    let count = c.generated_count-count.ensures ∙ ap (λ (ch : Choices). generated_count ch.ids c.args.count) c.in_ok-choices.ensures in
    ap (fault_with c.args.tree.now c.args.self.now) (sym count) ∙ sym c.fault_with.ensures ∙ c.in-Some.is

pub returns-clause-faultless : goal.returns-clause-faultless
returns-clause-faultless c =
    let count = c.generated_count-count.ensures ∙ ap (λ (ch : Choices). generated_count ch.ids c.args.count) c.in_ok-choices.ensures in
    ap (fault_with c.args.tree.now c.args.self.now) (sym count) ∙ sym c.fault_with.ensures ∙ c.in_default.is

pub rows_with-requires-clause-picks : goal.rows_with-requires-clause-picks
rows_with-requires-clause-picks c = λ some.
    let lines : c.self.inside.lines ≡ c.args.self.now.lines = ap (λ (w : Work). w.lines) c.self.view_is in
    let choices : c.in_ok-choices.choices ≡ choices_of c.args.p.now c.args.tree.now c.args.self.now.lines = c.in_ok-choices.ensures ∙ ap (choices_of c.args.p.now c.args.tree.now) lines in
    let count = c.generated_count-count.ensures ∙ ap (λ (ch : Choices). generated_count ch.ids c.args.count) choices in
    let can = can_pick c.args.p.now c.args.tree.now c.args.self.now.lines c.args.count c.objects.ensures.lawful c.requires.limits.some_line (subst (λ n. 0 < n) count some) in
    subst (λ (ch : Choices). CanPick ch c.objects.result) (sym choices) (subst (CanPick (choices_of c.args.p.now c.args.tree.now c.args.self.now.lines)) (sym c.objects.ensures.count) can)

pub returns-clause-lawful : goal.returns-clause-lawful
returns-clause-lawful c =
    let lines : c.self.inside.lines ≡ c.args.self.now.lines = ap (λ (w : Work). w.lines) c.self.view_is in
    let choices : c.in_ok-choices.choices ≡ choices_of c.args.p.now c.args.tree.now c.args.self.now.lines = c.in_ok-choices.ensures ∙ ap (choices_of c.args.p.now c.args.tree.now) lines in
    let count = c.generated_count-count.ensures ∙ ap (λ (ch : Choices). generated_count ch.ids c.args.count) choices in
    let none = ap (fault_with c.args.tree.now c.args.self.now) (sym count) ∙ sym c.fault_with.ensures ∙ c.in_default.is in
    let rows : c.in_ok-requests.requests ≡ (made c.args.p.now c.args.tree.now c.args.self.now c.args.count c.args.seed).requests =
    c.in_ok-requests.ensures ∙ (λ i. table_with c.args.self.now (map (request_after (choices i) c.args.seed) (below (count i))) (c.objects.ensures.count i)) in
    subst (IsLawfulWork c.args.p.now c.args.tree.now)
    (λ i. record { place = (sym c.self.view_is i).place; lines = (sym c.self.view_is i).lines; self_count = (sym c.self.view_is i).self_count; requests = sym rows i })
    (made_lawful c.args.p.now c.args.tree.now c.args.self.now c.args.count c.args.seed c.objects.ensures.lawful c.requires none)
