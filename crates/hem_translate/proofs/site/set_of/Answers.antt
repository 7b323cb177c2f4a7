use Rattle.std.proofs.Common.{ap, ◌∙◌, refl}
use Rattle.std.proofs.lemmas.Option.{slice_get_read}
use Rattle.indexmap.specs.IndexSet.{insert_key}
use Rattle.hem_translate.proofs.Apart.{one_key_more}
use Rattle.hem_translate.proofs.site.set_of.Goals as goal

pub loop-item-preserved : goal.loop-item-preserved
loop-item-preserved g c =
    let items = c.args.items.now in
    let at = c.loop-item.item-index in
    let item = c.item-item.result in
    c.in_ok-insert.ensures.keys
    ∙ ap (λ ks. insert_key g.T.PartialEq.eq ks item) c.loop-item.invariant
    ∙ one_key_more g.T.PartialEq.eq (λ a b. g.met.T.Eq.laws.symm a b) items at item c.requires (slice_get_read items _ at item refl c.loop-item-test.true c.item-item.is)
