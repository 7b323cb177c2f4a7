-- Two elements of a slice, in its two parts.
use Rattle.std.proofs.Common.{◌≡◌, ℕ, zero, suc, ◌+◌, ◌-◌, ◌<◌, List, [], ◌∷◌, ◌++◌, length, get_or, set, refl, sym, ap, ◌∙◌, arith}
use Rattle.std.proofs.Math.ListN.{get_or-append, length-set}
use Rattle.std.proofs.lemmas.List.{set-append_left, set-append_right, get_or-append-add}
use denote.Ref.{MutBor}
use denote.Param.Members.{Once}
use Rattle.hem_runner.specs.Pairs.{ChangesTwo, AtTwo}

any_default : {T : Type 0} (xs : List T) (i : ℕ) (d e : T) → i < length xs → get_or xs i d ≡ get_or xs i e
any_default [] i d e lt = absurd (omega arith)
any_default (x ∷ xs) zero d e lt = refl
any_default (x ∷ xs) (suc i) d e lt = any_default xs i d e (omega arith)

at_right : {T : Type 0} (xs ys : List T) (n : ℕ) (d : T) → length xs ≡ n → get_or (xs ++ ys) n d ≡ get_or ys 0 d
at_right xs ys n d is = let h = get_or-append-add xs ys 0 d in let e : n ≡ length xs + 0 = omega arith in rw e h

set_right : {T : Type 0} (xs ys : List T) (n : ℕ) (y : T) → length xs ≡ n → set (xs ++ ys) n y ≡ xs ++ set ys 0 y
set_right xs ys n y is = let z : n - n ≡ 0 = omega arith in set-append_right xs ys n n y is (omega arith) ∙ ap (λ (k : ℕ). xs ++ set ys k y) z

module _ {F T : Type 0} (g : Once F (MutBor T × (MutBor T × Unit {0})) (Unit {0} × (MutBor T × (MutBor T × Unit {0})))) (f : F) where
  moved : {x y a b u v : T} → x ≡ a → y ≡ b → ChangesTwo g f x y u v → ChangesTwo g f a b u v
  moved p q c = record {
    first = c.first;
    first_is = c.first_is ∙ p;
    second = c.second;
    second_is = c.second_is ∙ q;
    first_after = c.first_after;
    second_after = c.second_after;
    call = c.call;
    first_left = c.first_left;
    second_left = c.second_left;
  }

  pub at_two_parts : (all front back : List T) (upper lower : ℕ) (d e u v : T) → all ≡ front ++ back → length front ≡ lower → upper < lower → 0 < length back
      → ChangesTwo g f (get_or front upper d) (get_or back 0 e) u v → AtTwo g f all (set front upper u ++ set back 0 v) upper lower
  at_two_parts all front back upper lower d e u v is long lt some c =
      let inside : upper < length front = omega arith in
      record {
        up = u;
        low = v;
        new_is = rw (is, set-append_left front back upper u inside) (sym (set_right (set front upper u) back lower v (length-set front upper u ∙ long)));
        changed = λ a b. rw is
            (moved (any_default front upper d a inside ∙ sym (get_or-append front back a upper inside)) (any_default back 0 e b some ∙ sym (at_right front back lower b long)) c);
      }
