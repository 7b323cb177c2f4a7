use Rattle.std.proofs.Common.{◌≡◌, ap, sym, ◌∙◌}
use Rattle.std.specs.List.{enumerate_from}
use Rattle.hem_tree.specs.Tree.{children_of}
use Rattle.hem_translate.specs.Kids.{numbers_of}
use Rattle.hem_translate.proofs.Kids.{numbers_again}
use Rattle.hem_translate.proofs.objects.site_with.Goals as goal

pub new-requires : goal.new-requires
new-requires c =
    let kids = c.requires.kids in
    kids ∙ ap (enumerate_from 0) (sym (ap numbers_of kids ∙ numbers_again (children_of c.args.tree.now c.args.o.0)))

pub returns : goal.returns
returns c kind is =
    let there = c.kind.ensures in
    let same : c.kind.result ≡ kind = cc in
    let numbers = ap numbers_of c.requires.kids ∙ numbers_again (children_of c.args.tree.now c.args.o.0) in
    c.new.ensures ∙ (λ i. record { kind = same i; object = c.args.o.0; kids = numbers i; statuses = c.status_count.ensures i })
