-- The generator of draws: a number below 65536 that steps from draw to draw.
use Rattle.std.specs.Prelude.{ℕ, zero, suc, ◌+◌, ◌*◌, ◌/◌, ◌%◌}

-- the number after this one
abbrev pub next_number : ℕ → ℕ
next_number x = (x * 25173 + 13849) % 65536

-- the number after so many steps from a seed
abbrev pub number_after : ℕ → ℕ → ℕ
number_after seed zero = seed % 65536
number_after seed (suc n) = next_number (number_after seed n)

-- the draw that a number gives
abbrev pub draw_of : ℕ → ℕ
draw_of x = x / 16

-- the draw after so many others from a seed: a step goes before each
abbrev pub draw_after : ℕ → ℕ → ℕ
draw_after seed n = draw_of (number_after seed (suc n))
