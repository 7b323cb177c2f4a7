-- What a closure did to each element.
use Rattle.std.specs.Prelude.{ℕ, ◌≡◌, ◌+◌, min, List, [], ◌∷◌}
use denote.Ref.{MutBor}
use denote.Param.Members.{Shared}

-- the sum, or the greatest number of 64 bits where the sum is past it
abbrev pub capped_sum : ℕ → ℕ → ℕ
capped_sum a b = min (a + b) 18446744073709551615

module _ {F T : Type 0} (g : Shared F (MutBor T × Unit {0}) (ℕ × (MutBor T × Unit {0}))) (f : F) where
  -- f may be called with a `&mut` to x
  abbrev pub AcceptsIt : T → Type 0
  AcceptsIt x = (p : MutBor T) → p.now ≡ x → g.pre f (p, tt)

  -- a call of f with a `&mut` to x may answer n and leave y there
  pub record TurnsInto (x : T) (n : ℕ) (y : T) : Type 0 where
    pub argument : MutBor T
    pub argument_is : argument.now ≡ x
    pub after_call : MutBor T
    pub call : g.post f (argument, tt) (n, (after_call, tt))
    pub left : after_call.now ≡ y

  -- each element of ys is what a call of f left of that of xs, and n is the sum of what the calls answered
  abbrev pub Turned : List T → List T → ℕ → Type 0
  Turned [] [] n = n ≡ 0
  Turned (x ∷ xs) (y ∷ ys) n = (r : ℕ) × ((s : ℕ) × (TurnsInto x r y × (Turned xs ys s × (n ≡ capped_sum r s))))
  Turned [] (y ∷ ys) n = ⊥
  Turned (x ∷ xs) [] n = ⊥
