-- Both halves of a slice.
use Rattle.std.proofs.Common.{◌≡◌, ℕ, ◌≤◌, List, [], ◌∷◌, ◌++◌, length, get_or, refl, ap, ◌∙◌, arith}
use Rattle.std.specs.Prelude.{slice_set}
use denote.Ref.{MutBor}
use denote.Param.Members.{Shared}
use Rattle.hem_runner.specs.Turned.{TurnsInto, Turned, capped_sum}

capped_assoc : (a b c : ℕ) → capped_sum (capped_sum a b) c ≡ capped_sum a (capped_sum b c)
capped_assoc a b c = omega arith

capped_fits : (a b : ℕ) → capped_sum a b ≤ 18446744073709551615
capped_fits a b = omega arith

capped_none : (a : ℕ) → a ≤ 18446744073709551615 → a ≡ capped_sum a 0
capped_none a fits = omega arith

capped_nothing : (a : ℕ) → a ≤ 18446744073709551615 → a ≡ capped_sum 0 a
capped_nothing a fits = omega arith

module _ {F T : Type 0} (g : Shared F (MutBor T × Unit {0}) (ℕ × (MutBor T × Unit {0}))) (f : F) where
  turned_fits : (xs ys : List T) (n : ℕ) → Turned g f xs ys n → n ≤ 18446744073709551615
  turned_fits [] [] n none = omega arith
  turned_fits (x ∷ xs) (y ∷ ys) n some = omega (arith, some.1.1.1.1, capped_fits some.0 some.1.0)
  turned_fits [] (y ∷ ys) n some = elim some [ ]
  turned_fits (x ∷ xs) [] n some = elim some [ ]

  pub turned_both : (xs ys zs ws : List T) (a b : ℕ) → Turned g f xs ys a → Turned g f zs ws b → Turned g f (xs ++ zs) (ys ++ ws) (capped_sum a b)
  turned_both [] [] zs ws a b p q = rw (p, ← capped_nothing b (turned_fits zs ws b q)) q
  turned_both (x ∷ xs) (y ∷ ys) zs ws a b p q =
      (p.0, (capped_sum p.1.0 b, (p.1.1.0, (turned_both xs ys zs ws p.1.0 b p.1.1.1.0 q, ap (λ n. capped_sum n b) p.1.1.1.1 ∙ capped_assoc p.0 p.1.0 b))))
  turned_both [] (y ∷ ys) zs ws a b p q = elim p [ ]
  turned_both (x ∷ xs) [] zs ws a b p q = elim p [ ]

  pub turned_halves : (all xs ys zs ws : List T) (a b n : ℕ) → n ≡ capped_sum a b → all ≡ xs ++ zs → Turned g f xs ys a → Turned g f zs ws b → Turned g f all (ys ++ ws) n
  turned_halves all xs ys zs ws a b n sum e p q = rw (e, sum) (turned_both xs ys zs ws a b p q)

  pub turned_one : (xs : List T) (d y : T) (n : ℕ) → length xs ≡ 1 → n ≤ 18446744073709551615 → TurnsInto g f (get_or xs 0 d) n y → Turned g f xs (slice_set xs 0 y) n
  turned_one [] d y n one fits t = absurd (omega arith)
  turned_one (x ∷ []) d y n one fits t = (n, (0, (t, (refl, capped_none n fits))))
  turned_one (x ∷ (z ∷ xs)) d y n one fits t = absurd (omega arith)
