-- Other numbers for the transactions: the normal order and the blocks stay the same but for the numbers.
use Rattle.std.proofs.Common.{◌≡◌, refl, sym, ap, ◌∙◌, ℕ, zero, suc, ◌+◌, Bool, true, false, not, ◌&&◌, ◌||◌, cond, List, [], ◌∷◌, ◌++◌, map, length, Option, None, Some}
use Rattle.std.specs.Prelude.{◌==◌, nat_lt, filter, find, option_map}
use Rattle.std.specs.List.{list_any}
use Rattle.std.proofs.lemmas.List.{length-map, map-append}
use Rattle.hem_trace.specs.Blocks.{Block}
use Rattle.hem_regroup.specs.declared.member.Member.{Member}
use Rattle.hem_regroup.specs.declared.numbered.Numbered.{Numbered}
use Rattle.hem_regroup.specs.Members.{same_place, is_of, stands_before, precedes}
use Rattle.hem_regroup.specs.Turns.{next, without, turns}
use Rattle.hem_regroup.specs.Printed.{firings_in, block_of, blocks_of}
use Rattle.hem_regroup.specs.Normal.{member_at, top_at, upper, top_from, place_of, anchor, is_moved, held_from, with_held, normal_from, normal_members}
use Rattle.hem_regroup.proofs.SameTurns.{turns_some, turns_none}

-- numbers that are apart stay apart
abbrev pub KeepsApart : (ℕ → ℕ) → Type 0
KeepsApart f = (a b : ℕ) → (f a == f b) ≡ (a == b)

-- a firing, a member and a block with another number
abbrev pub other_number : (ℕ → ℕ) → Numbered → Numbered
other_number f x = record { number = f x.number; firing = x.firing; level = x.level; upward = x.upward }

abbrev pub other_member : (ℕ → ℕ) → Member → Member
other_member f m = record { number = f m.number; firing = m.firing }

abbrev pub other_block : (ℕ → ℕ) → Block → Block
other_block f b = record { number = f b.number; firings = b.firings }

-- the anchors
top-other : (f : ℕ → ℕ) → KeepsApart f → (k : ℕ) (xs : List Numbered) (n : ℕ) → top_from k (map (other_number f) xs) (f n) ≡ top_from k xs n
top-other f apart k [] n = refl
top-other f apart k (x ∷ xs) n = λ i. cond (apart x.number n i) (Some (upper (top-other f apart (k + 1) xs n i) (top_at k x))) (top-other f apart (k + 1) xs n i)

anchor-other : (f : ℕ → ℕ) → KeepsApart f → (all : List Numbered) (n : ℕ) → anchor (map (other_number f) all) (f n) ≡ anchor all n
anchor-other f apart all n = ap place_of (top-other f apart 0 all n)

-- the normal order
held-other : (f : ℕ → ℕ) → KeepsApart f → (all : List Numbered) (k : ℕ) (xs : List Numbered) (n : ℕ) → held_from (map (other_number f) all) k (map (other_number f) xs) (f n) ≡ map (other_member f) (held_from all k xs n)
held-other f apart all k [] n = refl
held-other f apart all k (x ∷ xs) n =
    (λ i. cond (apart x.number n i && (x.upward && nat_lt k (anchor-other f apart all x.number i))) (other_member f (member_at x) ∷ []) [] ++ held-other f apart all (k + 1) xs n i)
    ∙ by_test (x.number == n && is_moved all k x)
  where
    by_test : (b : Bool) → cond b (other_member f (member_at x) ∷ []) [] ++ map (other_member f) (held_from all (k + 1) xs n) ≡ map (other_member f) (cond b (member_at x ∷ []) [] ++ held_from all (k + 1) xs n)
    by_test true = refl
    by_test false = refl

with-other : (f : ℕ → ℕ) → KeepsApart f → (all : List Numbered) (k : ℕ) (x : Numbered) → with_held (map (other_number f) all) k (other_number f x) ≡ map (other_member f) (with_held all k x)
with-other f apart all k x =
    (λ i. cond (x.upward && nat_lt k (anchor-other f apart all x.number i)) [] (cond (k == anchor-other f apart all x.number i) (held-other f apart all 0 all x.number i) [] ++ other_member f (member_at x) ∷ []))
    ∙ by_tests (is_moved all k x) (k == anchor all x.number)
  where
    by_tests : (m a : Bool) → cond m [] (cond a (map (other_member f) (held_from all 0 all x.number)) [] ++ other_member f (member_at x) ∷ []) ≡ map (other_member f) (cond m [] (cond a (held_from all 0 all x.number) [] ++ member_at x ∷ []))
    by_tests true a = refl
    by_tests false true = sym (map-append (other_member f) (held_from all 0 all x.number) (member_at x ∷ []))
    by_tests false false = refl

normal-other : (f : ℕ → ℕ) → KeepsApart f → (all : List Numbered) (k : ℕ) (xs : List Numbered) → normal_from (map (other_number f) all) k (map (other_number f) xs) ≡ map (other_member f) (normal_from all k xs)
normal-other f apart all k [] = refl
normal-other f apart all k (x ∷ xs) =
    (λ i. with-other f apart all k x i ++ normal-other f apart all (k + 1) xs i)
    ∙ sym (map-append (other_member f) (with_held all k x) (normal_from all (k + 1) xs))

-- who precedes whom
any-of : (f : ℕ → ℕ) → KeepsApart f → (r : Member) (ms : List Member) (u : ℕ) → list_any (is_of (f u) (other_member f r)) (map (other_member f) ms) ≡ list_any (is_of u r) ms
any-of f apart r [] u = refl
any-of f apart r (m ∷ ms) u = λ i. (apart m.number u i && same_place r m) || any-of f apart r ms u i

stands-other : (f : ℕ → ℕ) → KeepsApart f → (ms : List Member) (t u : ℕ) → stands_before (map (other_member f) ms) (f t) (f u) ≡ stands_before ms t u
stands-other f apart [] t u = refl
stands-other f apart (r ∷ ms) t u = λ i. (apart r.number t i && any-of f apart r ms u i) || stands-other f apart ms t u i

precedes-other : (f : ℕ → ℕ) → KeepsApart f → (ms : List Member) (t u : ℕ) → precedes (map (other_member f) ms) (f t) (f u) ≡ precedes ms t u
precedes-other f apart ms t u = λ i. not (apart t u i) && stands-other f apart ms t u i

-- the turns
any-map : (q : ℕ → Bool) (f : ℕ → ℕ) (xs : List ℕ) → list_any q (map f xs) ≡ list_any (λ x. q (f x)) xs
any-map q f [] = refl
any-map q f (x ∷ xs) = ap (λ b. q (f x) || b) (any-map q f xs)

find-map : (q : ℕ → Bool) (f : ℕ → ℕ) (xs : List ℕ) → find q (map f xs) ≡ option_map f (find (λ x. q (f x)) xs)
find-map q f [] = refl
find-map q f (x ∷ xs) = by_test (q (f x)) (find-map q f xs)
  where
    by_test : (b : Bool) → find q (map f xs) ≡ option_map f (find (λ x. q (f x)) xs) → cond b (Some (f x)) (find q (map f xs)) ≡ option_map f (cond b (Some x) (find (λ x. q (f x)) xs))
    by_test true rest = refl
    by_test false rest = rest

next-other : (f : ℕ → ℕ) (w v : ℕ → ℕ → Bool) → ((t u : ℕ) → v (f t) (f u) ≡ w t u) → (left : List ℕ) → next v (map f left) ≡ option_map f (next w left)
next-other f w v same left =
    find-map (λ u. not (list_any (λ t. v t u) (map f left))) f left
    ∙ (λ i. option_map f (find (λ u. not (any-map (λ t. v t (f u)) f left i)) left))
    ∙ (λ i. option_map f (find (λ u. not (list_any (λ t. same t u i) left)) left))

without-other : (f : ℕ → ℕ) → KeepsApart f → (t : ℕ) (left : List ℕ) → without (f t) (map f left) ≡ map f (without t left)
without-other f apart t [] = refl
without-other f apart t (x ∷ left) =
    ap (λ b. cond (not b) (f x ∷ without (f t) (map f left)) (without (f t) (map f left))) (apart x t)
    ∙ by_test (not (x == t)) (without-other f apart t left)
  where
    by_test : (b : Bool) → without (f t) (map f left) ≡ map f (without t left) → cond b (f x ∷ without (f t) (map f left)) (without (f t) (map f left)) ≡ map f (cond b (x ∷ without t left) (without t left))
    by_test true rest = ap (λ us. f x ∷ us) rest
    by_test false rest = rest

turns-other : (f : ℕ → ℕ) → KeepsApart f → (w v : ℕ → ℕ → Bool) → ((t u : ℕ) → v (f t) (f u) ≡ w t u) → (n : ℕ) (left : List ℕ) → turns n v (map f left) ≡ map f (turns n w left)
turns-other f apart w v same zero left = refl
turns-other f apart w v same (suc n) left = by_next (next w left) refl (λ t. turns-other f apart w v same n (without t left))
  where
    by_next : (o : Option ℕ) → next w left ≡ o → ((t : ℕ) → turns n v (map f (without t left)) ≡ map f (turns n w (without t left))) → turns (suc n) v (map f left) ≡ map f (turns (suc n) w left)
    by_next None is rest = turns_none n v (map f left) (next-other f w v same left ∙ ap (option_map f) is) ∙ ap (map f) (sym (turns_none n w left is))
    by_next (Some t) is rest =
        turns_some n v (map f left) (f t) (next-other f w v same left ∙ ap (option_map f) is)
        ∙ ap (λ us. f t ∷ us) (ap (turns n v) (without-other f apart t left) ∙ rest t)
        ∙ ap (map f) (sym (turns_some n w left t is))

-- the blocks
firings-other : (f : ℕ → ℕ) → KeepsApart f → (ms : List Member) (n : ℕ) → firings_in (map (other_member f) ms) (f n) ≡ firings_in ms n
firings-other f apart [] n = refl
firings-other f apart (m ∷ ms) n =
    ap (λ b. map (λ r. r.firing) (cond b (other_member f m ∷ filter (λ r. r.number == f n) (map (other_member f) ms)) (filter (λ r. r.number == f n) (map (other_member f) ms)))) (apart m.number n)
    ∙ by_test (m.number == n) (firings-other f apart ms n)
  where
    by_test : (b : Bool) → firings_in (map (other_member f) ms) (f n) ≡ firings_in ms n → map (λ r. r.firing) (cond b (other_member f m ∷ filter (λ r. r.number == f n) (map (other_member f) ms)) (filter (λ r. r.number == f n) (map (other_member f) ms))) ≡ map (λ r. r.firing) (cond b (m ∷ filter (λ r. r.number == n) ms) (filter (λ r. r.number == n) ms))
    by_test true rest = ap (λ fs. m.firing ∷ fs) rest
    by_test false rest = rest

each-block : (f : ℕ → ℕ) → KeepsApart f → (ms : List Member) (ts : List ℕ) → map (block_of (map (other_member f) ms)) (map f ts) ≡ map (other_block f) (map (block_of ms) ts)
each-block f apart ms [] = refl
each-block f apart ms (t ∷ ts) = λ i. record { number = f t; firings = firings-other f apart ms t i } ∷ each-block f apart ms ts i

blocks-other : (f : ℕ → ℕ) → KeepsApart f → (ms : List Member) (left : List ℕ) → blocks_of (map (other_member f) ms) (map f left) ≡ map (other_block f) (blocks_of ms left)
blocks-other f apart ms left =
    ap (λ n. map (block_of (map (other_member f) ms)) (turns n (precedes (map (other_member f) ms)) (map f left))) (length-map left f)
    ∙ ap (map (block_of (map (other_member f) ms))) (turns-other f apart (precedes ms) (precedes (map (other_member f) ms)) (precedes-other f apart ms) (length left) left)
    ∙ each-block f apart ms (turns (length left) (precedes ms) left)

pub blocks-renumbered : (f : ℕ → ℕ) → KeepsApart f → (all : List Numbered) (left : List ℕ) → blocks_of (normal_members (map (other_number f) all)) (map f left) ≡ map (other_block f) (blocks_of (normal_members all) left)
blocks-renumbered f apart all left =
    ap (λ ms. blocks_of ms (map f left)) (normal-other f apart all 0 all)
    ∙ blocks-other f apart (normal_members all) left
