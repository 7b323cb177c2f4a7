-- Members of a history, and which transaction precedes which.
use Rattle.std.specs.Prelude.{ℕ, ◌==◌, ◌≡◌, ◌<◌, Bool, true, false, not, ◌&&◌, ◌||◌, List, [], ◌∷◌}
use Rattle.std.specs.List.{list_any}
use Rattle.hem_trace.specs.Blocks.{Each}
use Rattle.hem_law.specs.Orders.{stands_in}
use Rattle.hem_regroup.specs.declared.member.Member.{Member}

-- whether two members are at one object of one line
abbrev pub same_place : Member → Member → Bool
same_place a b = a.firing.line.0 == b.firing.line.0 && a.firing.object.0 == b.firing.object.0

-- whether a member of u stands at that place
abbrev pub is_of : ℕ → Member → Member → Bool
is_of u earlier later = later.number == u && same_place earlier later

-- whether a member of t stands before one of u at some place
abbrev pub stands_before : List Member → ℕ → ℕ → Bool
stands_before [] t u = false
stands_before (r ∷ members) t u = (r.number == t && list_any (is_of u r) members) || stands_before members t u

-- whether t precedes u: they are different transactions, and a member of t stands before one of u at some place
abbrev pub precedes : List Member → ℕ → ℕ → Bool
precedes members t u = not (t == u) && stands_before members t u

-- the number of each member is among these
abbrev pub IsWhole : List Member → List ℕ → Type 0
IsWhole members left = Each (λ m. stands_in left m.number ≡ true) members

-- the number of each member is less
abbrev pub IsBelow : ℕ → List Member → Type 0
IsBelow count members = Each (λ m. m.number < count) members
