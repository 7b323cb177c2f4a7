-- The places of an object's children are the numbers below how many there are.
use Rattle.std.proofs.Common.{◌≡◌, refl, ap, sym, ◌∙◌, ℕ, zero, suc, ◌+◌, arith, List, [], ◌∷◌, ◌++◌, length, map, Option, Some}
use Rattle.std.specs.List.{enumerate_from}
use Rattle.std.proofs.lemmas.List.{map-append}
use Rattle.hem_syntax.specs.declared.rule.Rule.{Rule}
use Rattle.hem_syntax.specs.Protocol.{Protocol}
use Rattle.hem_tree.specs.Tree.{below}
use Rattle.hem_emit.specs.Place.{Place, kids_at}
use Rattle.hem_emit.specs.Emit.{rule_at}
use Rattle.hem_translate.specs.ByChild.{child_rule}
use Rattle.hem_translate.specs.ByPlace.{Places, rule_by_places}

-- one more at the front
pub below_first : (n : ℕ) → below (suc n) ≡ 0 ∷ map suc (below n)
below_first zero = refl
below_first (suc n) = ap (λ xs. xs ++ suc n ∷ []) (below_first n) ∙ ap (λ xs. 0 ∷ xs) (sym (map-append suc (below n) (n ∷ [])))

twice : {A : Type 0} (f : ℕ → A) (xs : List ℕ) → map f (map suc xs) ≡ map (λ i. f (suc i)) xs
twice f [] = refl
twice f (x ∷ xs) = ap (λ ys. f (suc x) ∷ ys) (twice f xs)

counted_from : {A B : Type 0} (g f : ℕ → A) (n : ℕ) (xs : List B) → ((i : ℕ) → g (n + i) ≡ f i) → map (λ k. g k.0) (enumerate_from n xs) ≡ map f (below (length xs))
counted_from g f n [] alike = refl
counted_from g f n (x ∷ xs) alike =
    let rest = counted_from g (λ i. f (suc i)) (n + 1) xs (λ i. let next : (n + 1) + i ≡ n + suc i = omega arith in ap g next ∙ alike (suc i)) in
    let here : n ≡ n + 0 = omega arith in
    let first = ap g here ∙ alike 0 in
    let many : length (x ∷ xs) ≡ suc (length xs) = omega arith in
    (λ i. first i ∷ rest i)
    ∙ ap (λ ys. f 0 ∷ ys) (sym (twice f (below (length xs))))
    ∙ sym (ap (map f) (ap below many ∙ below_first (length xs)))

-- what each child's place gives
pub by_child : {A B : Type 0} (g : Option ℕ → A) (xs : List B) → map (λ k. g (Some k.0)) (enumerate_from 0 xs) ≡ map g (map Some (below (length xs)))
by_child g xs = counted_from (λ i. g (Some i)) (λ i. g (Some i)) 0 xs (λ i. let same : 0 + i ≡ i = omega arith in ap (λ j. g (Some j)) same) ∙ fused (below (length xs))
  where
    fused : (is : List ℕ) → map (λ i. g (Some i)) is ≡ map g (map Some is)
    fused [] = refl
    fused (i ∷ is) = ap (λ ys. g (Some i) ∷ ys) (fused is)

both_maps : {A B C : Type 0} (f : B → C) (g : A → B) (xs : List A) → map (λ x. f (g x)) xs ≡ map f (map g xs)
both_maps f g [] = refl
both_maps f g (x ∷ xs) = ap (λ ys. f (g x) ∷ ys) (both_maps f g xs)

-- the rule for one child after another
pub rules_by_child : (l : Places) (p : Protocol) (at : Place) (rule : Rule) → map (child_rule l p at rule) (kids_at at) ≡ map (rule_by_places l) (map (rule_at p at rule) (map Some (below (length at.kids))))
unfolding child_rule
rules_by_child l p at rule =
    by_child (λ me. rule_by_places l (rule_at p at rule me)) at.kids ∙ both_maps (rule_by_places l) (rule_at p at rule) (map Some (below (length at.kids)))
