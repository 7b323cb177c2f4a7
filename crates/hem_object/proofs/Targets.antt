-- Sets of children as numbers.
use Rattle.std.proofs.Common.{◌≡◌, refl, ℕ, ◌+◌, ◌^◌, ◌<◌, suc, zero, arith, Bool, true, false, add-one, List, length, get_or}
use Rattle.std.proofs.lemmas.Option.{slice_get-get_or}
use Rattle.std.specs.Prelude.{cond, slice_get}
use Rattle.hem_base.specs.Sets.{bits_where}
use Rattle.hem_base.specs.declared.ids.Status8.{Status8}
use Rattle.hem_base.specs.declared.ids.StatusSet.{StatusSet}
use Rattle.hem_object.specs.Guard.{has, is_in}

bits_one_more : (bits n : ℕ) (b : Bool) → bits < 2 ^ n → bits + cond b (2 ^ n) 0 < 2 ^ suc n
bits_one_more bits n true h = grind arith
bits_one_more bits n false h = grind arith

-- the bits below n make a number below 2 ^ n
pub bits_where-lt : (test : ℕ → Bool) (n : ℕ) → bits_where test n < 2 ^ n
bits_where-lt test zero = omega arith
bits_where-lt test (suc n) = bits_one_more (bits_where test n) n (test n) (bits_where-lt test n)

-- one more bit
pub bits_where-suc : (test : ℕ → Bool) (n bits more : ℕ) (b : Bool) → bits ≡ bits_where test n → more ≡ bits + cond b (2 ^ n) 0 → b ≡ test n → more ≡ bits_where test (n + 1)
bits_where-suc test n bits more b so_far one same = rw (add-one, one, so_far, same) refl

-- an entry that a loop reads is the entry at its place
pub entry_is_in : (set : StatusSet) (dir items : List Status8) (n : ℕ) (d : Status8) → items ≡ dir → n < length items → has set (get_or items n d) ≡ is_in set (slice_get dir n)
entry_is_in set dir items n d same within = rw (← same, slice_get-get_or items n d within) refl
