-- The normal order of numbered firings.
use Rattle.std.specs.Prelude.{ℕ, ◌==◌, ◌≡◌, ◌+◌, ◌<◌, ◌≤◌, nat_lt, Bool, ◌&&◌, ◌||◌, cond, List, [], ◌∷◌, ◌++◌, map, take, drop, slice_index_or, Option, None, Some}
use Rattle.std.specs.Option.{option_map_or}
use Rattle.hem_regroup.specs.declared.member.Member.{Member}
use Rattle.hem_regroup.specs.declared.numbered.Numbered.{Numbered}
use Rattle.hem_regroup.specs.declared.tops.Top.{Top}
use Rattle.hem_trace.specs.Blocks.{Each}
use Rattle.hem_trace.specs.Order.{Entry}

-- the member of a numbered firing
abbrev pub member_at : Numbered → Member
member_at x = record { number = x.number; firing = x.firing }

-- where a firing at a place stands
abbrev pub top_at : ℕ → Numbered → Top
top_at place x = record { level = x.level; object = x.firing.object.0; place = place }

-- whether one stands at an object of less level, or of the same level and of less number
abbrev pub is_above : Top → Top → Bool
is_above a b = nat_lt a.level b.level || (a.level == b.level && nat_lt a.object b.object)

-- the one above of two, and of two at the same object the first
abbrev pub upper : Option Top → Top → Top
upper None first = first
upper (Some later) first = cond (is_above later first) later first

-- the first of a transaction's firings at its highest object, of firings the first of which stands at place k
abbrev pub top_from : ℕ → List Numbered → ℕ → Option Top
top_from k [] number = None
top_from k (x ∷ xs) number = cond (x.number == number) (Some (upper (top_from (k + 1) xs number) (top_at k x))) (top_from (k + 1) xs number)

-- the place of a top, 0 without one
abbrev pub place_of : Option Top → ℕ
place_of top = option_map_or (λ t. t.place) top 0

-- the place of a transaction's anchor
abbrev pub anchor : List Numbered → ℕ → ℕ
anchor all number = place_of (top_from 0 all number)

-- whether the firing at a place is moved to its transaction's anchor
abbrev pub is_moved : List Numbered → ℕ → Numbered → Bool
is_moved all place x = x.upward && nat_lt place (anchor all x.number)

-- the members of a transaction that are moved, of firings the first of which stands at place k
abbrev pub held_from : List Numbered → ℕ → List Numbered → ℕ → List Member
held_from all k [] number = []
held_from all k (x ∷ xs) number = cond (x.number == number && is_moved all k x) (member_at x ∷ []) [] ++ held_from all (k + 1) xs number

-- what stands in a firing's place in the normal order
abbrev pub with_held : List Numbered → ℕ → Numbered → List Member
with_held all place x = cond (is_moved all place x) [] (cond (place == anchor all x.number) (held_from all 0 all x.number) [] ++ member_at x ∷ [])

-- the members of firings, the first of which stands at place k, in the normal order
abbrev pub normal_from : List Numbered → ℕ → List Numbered → List Member
normal_from all k [] = []
normal_from all k (x ∷ xs) = with_held all k x ++ normal_from all (k + 1) xs

-- all members in the normal order
abbrev pub normal_members : List Numbered → List Member
normal_members all = normal_from all 0 all

-- an entry as a numbered firing
abbrev pub numbered_of : Entry → Numbered
numbered_of e = record { number = e.number; firing = e.event.firing; level = e.level; upward = e.upward }

-- entries as numbered firings
abbrev pub all_numbered : List Entry → List Numbered
all_numbered es = map numbered_of es

-- each entry stands at its place, the first at place k
abbrev pub ArePlaced : ℕ → List Entry → Type 0
ArePlaced k [] = Unit {0}
ArePlaced k (e ∷ es) = (e.place ≡ k) × ArePlaced (k + 1) es

-- the number of each is less
abbrev pub AreBelow : ℕ → List Numbered → Type 0
AreBelow count xs = Each (λ x. x.number < count) xs

-- what stands in a firing's place, of the place of its transaction's anchor and the members that were held back
abbrev pub shown : ℕ → ℕ → Numbered → List Member → List Member
shown anchor place x held = cond (x.upward && nat_lt place anchor) [] (cond (place == anchor) held [] ++ member_at x ∷ [])

-- what a firing adds to the members that are held back
abbrev pub kept : ℕ → ℕ → Numbered → List Member
kept anchor place x = cond (x.upward && nat_lt place anchor) (member_at x ∷ []) []

-- before a place: the members in the normal order so far, and of each transaction whose anchor is still to come those held back
pub record IsPlacing (all : List Numbered) (place : ℕ) (members : List Member) (held : List (List Member)) : Type 0 where
  pub members_are : members ++ normal_from all place (drop place all) ≡ normal_members all
  pub held_are : (n : ℕ) → place ≤ anchor all n → slice_index_or held n [] ≡ held_from all 0 (take place all) n
