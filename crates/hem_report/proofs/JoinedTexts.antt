-- Texts with commas between them, as a loop makes them.
use Rattle.std.proofs.Common.{◌≡◌, refl, ℕ, ◌+◌, ◌<◌, add-one, List, [], ◌∷◌, ◌++◌, append_assoc, map, true, false, length, drop, drop-cons, get_or}
use Rattle.std.specs.List.{flat_map, enumerate_from}
use lib.Utf8.{encode}
use Rattle.std.specs.Str.{IsUtf8}
use Rattle.std.specs.Prelude.{codes, filter}
use Rattle.hem_base.specs.Sets.{has_bit}
use Rattle.hem_base.specs.declared.ids.KidSet.{KidSet}
use Rattle.hem_base.specs.declared.ids.ObjectId.{ObjectId}
use Rattle.hem_report.specs.LocalText.{numbers_of}

-- the texts of elements: before the first stands `first`, before each other a comma
abbrev pub joined_after : {A : Type 0} → (A → List ℕ) → List ℕ → List A → List ℕ
joined_after f first [] = []
joined_after f first (x ∷ xs) = first ++ (f x ++ flat_map (λ y. codes "," ++ f y) xs)

joined_comma : {A : Type 0} (f : A → List ℕ) (xs : List A) → joined_after f (codes ",") xs ≡ flat_map (λ y. codes "," ++ f y) xs
joined_comma f [] = refl
joined_comma f (x ∷ xs) = refl

-- one more element
pub joined_more : {A : Type 0} (f : A → List ℕ) (text first : List ℕ) (x : A) (xs : List A) → ((text ++ first) ++ f x) ++ joined_after f (codes ",") xs ≡ text ++ joined_after f first (x ∷ xs)
joined_more f text first x xs = rw (joined_comma f xs) (simp append_assoc)

-- the numbers of the children in the set from a place on
abbrev pub awaited_from : KidSet → ℕ → List ObjectId → List ℕ
awaited_from set k children = map (λ c. c.1) (filter (λ c. has_bit set.0 c.0) (enumerate_from k (numbers_of children)))

-- a child that is in the set
pub awaited_in : (set : KidSet) (k : ℕ) (children : List ObjectId) (d : ObjectId) → k < length children → has_bit set.0 k ≡ true → awaited_from set k (drop k children) ≡ (get_or children k d).0 ∷ awaited_from set (k + 1) (drop (k + 1) children)
awaited_in set k children d h is = rw (drop-cons children k d h, is, add-one) refl

-- a child that isn't
pub awaited_out : (set : KidSet) (k : ℕ) (children : List ObjectId) (d : ObjectId) → k < length children → has_bit set.0 k ≡ false → awaited_from set k (drop k children) ≡ awaited_from set (k + 1) (drop (k + 1) children)
awaited_out set k children d h is = rw (drop-cons children k d h, is, add-one) refl

-- a comma is text
pub comma_utf8 : IsUtf8 (codes ",")
unfolding encode
comma_utf8 = (44 ∷ [], (refl, refl))
