use Rattle.std.proofs.Common.{◌≡◌, ◌∙◌, sym, ap, subst, true, Some}
use Rattle.std.specs.Prelude.{slice_get}
use Rattle.std.proofs.lemmas.Option.{slice_get-get_or}
use Rattle.std.specs.Str.{bytes_eq}
use Rattle.hem_syntax.specs.Names.{place_in}
use Rattle.hem_syntax.proofs.Guesses.{guess_is_right, is_below}
use Rattle.hem_syntax.proofs.names.Names.guessed.Goals as goal

pub returns-in-Some : goal.returns-in-Some
returns-in-Some c =
    let keys = c.self.inside.names.keys in
    let text = c.args.text.now in
    let place = c.from-place.result in
    let names = c.as_slice-names.result.now in
    let name = c.in-Some.name.now in
    let at : slice_get keys place ≡ Some name = rw (← c.as_slice-names.ensures.keys) (slice_get-get_or names place name (is_below place _ c.in-Some.ensures.lookup.0) ∙ ap Some (sym c.in-Some.ensures.lookup.1)) in
    let same : bytes_eq name text ≡ true = ap (λ bytes. bytes_eq bytes text) (sym c.as_bytes.ensures.bytes) ∙ sym c.are_same.ensures ∙ c.if-are_same.true in
    subst (λ those. place_in those text ≡ Some place) c.self.view_is (guess_is_right keys text place name c.as_slice-names.ensures.unique at same)
