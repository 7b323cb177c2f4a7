use Rattle.std.proofs.Common.{◌≡◌, ◌∙◌, sym, ap, ℕ, List, arith, rules}
use Rattle.std.specs.Prelude.{slice_get, option_map}
use Rattle.std.proofs.lemmas.Grind.{common_steps}
use Rattle.std.proofs.lemmas.Option.{slice_get-map, gets}
use Rattle.hem_base.specs.declared.ids.ObjectId.{ObjectId}
use Rattle.hem_transactions.proofs.line.child_at.Goals as goal

pub returns : goal.returns
returns c =
    let ids = c.children.result.now in
    let same : c.copied.result ≡ slice_get ids c.args.place = first_of (search rules, grind (arith, common_steps, gets)) in
    ap (option_map (λ (id : ObjectId). id.0)) same ∙ sym (slice_get-map (λ (id : ObjectId). id.0) ids c.args.place) ∙ ap (λ (ks : List ℕ). slice_get ks c.args.place) c.children.ensures
