-- Links as a table: where they lead from each transaction, and how many lead to each.
use Rattle.std.specs.Prelude.{ℕ, ◌==◌, ◌≡◌, ◌+◌, ◌<◌, Bool, true, ◌&&◌, cond, List, [], ◌∷◌, length, take, Option, None, Some, option_map, slice_index, slice_index_or}
use Rattle.hem_regroup.specs.declared.member.Member.{Member}
use Rattle.hem_regroup.specs.Links.{Link, last_at, links, backwards}
use Rattle.hem_regroup.specs.declared.last.LastNumbers.{LastNumbers}
use Rattle.hem_regroup.specs.Last.{number_at}

-- where the links lead from a transaction, in order
abbrev pub targets : List Link → ℕ → List ℕ
targets [] t = []
targets (l ∷ ls) t = cond (l.from == t) (l.to ∷ targets ls t) (targets ls t)

-- how many links lead to a transaction from those that pass a test
abbrev pub entering : (ℕ → Bool) → List Link → ℕ → ℕ
entering passes [] u = 0
entering passes (l ∷ ls) u = cond (l.to == u && passes l.from) 1 0 + entering passes ls u

-- any transaction
abbrev pub any_one : ℕ → Bool
any_one t = true

-- the tables of links between transactions of numbers below count
pub record AreTables (count : ℕ) (ls : List Link) (nexts : List (List ℕ)) (counts : List ℕ) : Type 0 where
  pub nexts_size : length nexts ≡ count
  pub counts_size : length counts ≡ count
  pub nexts_are : (t : ℕ) → t < count → slice_index_or nexts t [] ≡ targets ls t
  pub counts_are : (u : ℕ) → u < count → slice_index counts u ≡ entering any_one ls u

-- the link to a transaction from the last one at the object, where that is another
abbrev pub joined : Option ℕ → ℕ → List Link
joined None to = []
joined (Some from) to = cond (from == to) [] (record { from = from; to = to } ∷ [])

-- the first k members, the last one first
abbrev pub members_before : ℕ → List Member → List Member
members_before k members = backwards [] (take k members)

-- the number of the last member at a member's place
abbrev pub last_number : Member → List Member → Option ℕ
last_number member seen = option_map (λ r. r.number) (last_at member seen)

-- the tables of the links of members, with the last number at each place
pub record IsBuilt (count : ℕ) (seen : List Member) (nexts : List (List ℕ)) (counts : List ℕ) (last : LastNumbers) : Type 0 where
  pub tables : AreTables count (links seen) nexts counts
  pub last_is : (member : Member) → number_at last member ≡ last_number member seen
