use Rattle.std.proofs.Common.{ap, ◌∙◌, ◌^◌, ◌*◌, List, ℕ, ◌<◌, length, arith}
use Rattle.std.specs.Prelude.{◌==◌, ◌||◌, ◌/◌, ◌%◌, bit_or, slice_set}
use Rattle.std.proofs.lemmas.List.{get_or_read}
use Rattle.hem_walk.specs.Marks.{is_in}
use Rattle.hem_walk.proofs.Bits.{put_in}
use Rattle.hem_walk.proofs.marks.Marks.insert.Goals as goal

pub returns-clause-members : goal.returns-clause-members
returns-clause-members c = λ m.
    let same = c.self.view_is in
    let n = c.args.n in
    let within : n / 64 < length c.self.inside.words.items = (let less = c.requires in let long = ap length same in omega (arith, less, long)) in
    let old = get_or_read c.self.inside.words.items (n / 64) c.index_mut.result.now within c.index_mut.ensures.value 0 in
    ap (λ w. is_in (slice_set c.self.inside.words.items (n / 64) (bit_or w (1 * 2 ^ (n % 64) % 18446744073709551616))) m) old
    ∙ put_in c.self.inside.words.items n within m
    ∙ ap (λ (ws : List ℕ). m == n || is_in ws m) same
