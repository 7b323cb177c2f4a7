use Rattle.std.proofs.Common.{◌≡◌, ap, sym, ◌∙◌, subst, length}
use Rattle.hem_worker.specs.Workers.{Worker, AreParts}
use Rattle.hem_worker.specs.Edges.{channels}
use Rattle.hem_worker.proofs.Settled.{uppers-still, lowers-still, still-worker, still-parts, still-lines-channels}
use Rattle.hem_worker.proofs.edge.settle_edge.Goals as goal

pub invariant_of-upper : goal.invariant_of-upper
invariant_of-upper g c =
    let size : length c.lower.inside.lines ≡ length c.upper.inside.lines = ap (λ (w : Worker). length w.lines) c.lower.view_is ∙ c.requires.lines ∙ sym (ap (λ (w : Worker). length w.lines) c.upper.view_is) in
    still-worker c.upper.inside.children c.upper.inside.lines c.settle_all.new.upper (uppers-still c.args.place c.upper.inside.lines c.settle_all.new.upper c.lower.inside.lines c.settle_all.new.lower size c.settle_all.ensures) c.upper.invariant

pub invariant_of-lower : goal.invariant_of-lower
invariant_of-lower g c =
    let size : length c.lower.inside.lines ≡ length c.upper.inside.lines = ap (λ (w : Worker). length w.lines) c.lower.view_is ∙ c.requires.lines ∙ sym (ap (λ (w : Worker). length w.lines) c.upper.view_is) in
    still-worker c.lower.inside.children c.lower.inside.lines c.settle_all.new.lower (lowers-still c.args.place c.upper.inside.lines c.settle_all.new.upper c.lower.inside.lines c.settle_all.new.lower size c.settle_all.ensures) c.lower.invariant

pub returns-clause-upper_parts : goal.returns-clause-upper_parts
returns-clause-upper_parts g c =
    let size : length c.lower.inside.lines ≡ length c.upper.inside.lines = ap (λ (w : Worker). length w.lines) c.lower.view_is ∙ c.requires.lines ∙ sym (ap (λ (w : Worker). length w.lines) c.upper.view_is) in
    λ p tree start parts. still-parts p tree start _ c.settle_all.new.upper (uppers-still c.args.place c.upper.inside.lines c.settle_all.new.upper c.lower.inside.lines c.settle_all.new.lower size c.settle_all.ensures) (subst (AreParts p tree start) (sym c.upper.view_is) parts)

pub returns-clause-lower_parts : goal.returns-clause-lower_parts
returns-clause-lower_parts g c =
    let size : length c.lower.inside.lines ≡ length c.upper.inside.lines = ap (λ (w : Worker). length w.lines) c.lower.view_is ∙ c.requires.lines ∙ sym (ap (λ (w : Worker). length w.lines) c.upper.view_is) in
    λ p tree start parts. still-parts p tree start _ c.settle_all.new.lower (lowers-still c.args.place c.upper.inside.lines c.settle_all.new.upper c.lower.inside.lines c.settle_all.new.lower size c.settle_all.ensures) (subst (AreParts p tree start) (sym c.lower.view_is) parts)

pub returns-clause-upper_channels : goal.returns-clause-upper_channels
returns-clause-upper_channels g c =
    let size : length c.lower.inside.lines ≡ length c.upper.inside.lines = ap (λ (w : Worker). length w.lines) c.lower.view_is ∙ c.requires.lines ∙ sym (ap (λ (w : Worker). length w.lines) c.upper.view_is) in
    still-lines-channels c.upper.inside.lines c.settle_all.new.upper (uppers-still c.args.place c.upper.inside.lines c.settle_all.new.upper c.lower.inside.lines c.settle_all.new.lower size c.settle_all.ensures) ∙ ap (λ (w : Worker). channels w) c.upper.view_is

pub returns-clause-lower_channels : goal.returns-clause-lower_channels
returns-clause-lower_channels g c =
    let size : length c.lower.inside.lines ≡ length c.upper.inside.lines = ap (λ (w : Worker). length w.lines) c.lower.view_is ∙ c.requires.lines ∙ sym (ap (λ (w : Worker). length w.lines) c.upper.view_is) in
    still-lines-channels c.lower.inside.lines c.settle_all.new.lower (lowers-still c.args.place c.upper.inside.lines c.settle_all.new.upper c.lower.inside.lines c.settle_all.new.lower size c.settle_all.ensures) ∙ ap (λ (w : Worker). channels w) c.lower.view_is
