-- Transactions next to each other at an object.
use Rattle.std.specs.Prelude.{ℕ, ◌==◌, Bool, ◌&&◌, cond, List, [], ◌∷◌, ◌++◌, find, Option, None, Some}
use Rattle.std.specs.List.{list_any}
use Rattle.hem_regroup.specs.declared.member.Member.{Member}
use Rattle.hem_regroup.specs.Members.{same_place}

-- a transaction and one whose member stands next after one of its members at some object
pub record Link : Type 0 where
  pub from : ℕ
  pub to : ℕ

-- the last member at a member's place, of members that stand before it, the last one first
abbrev pub last_at : Member → List Member → Option Member
last_at member seen = find (λ r. same_place r member) seen

-- the link to a member from the last one at its place, where they are of different transactions
abbrev pub link_from : Option Member → Member → List Link
link_from None member = []
link_from (Some last) member = cond (last.number == member.number) [] (record { from = last.number; to = member.number } ∷ [])

-- the links of members, of which the last one stands first
abbrev pub links : List Member → List Link
links [] = []
links (member ∷ seen) = links seen ++ link_from (last_at member seen) member

-- the members, the last one first
abbrev pub backwards : List Member → List Member → List Member
backwards seen [] = seen
backwards seen (member ∷ members) = backwards (member ∷ seen) members

-- whether a link leads from one to the other
abbrev pub is_linked : List Link → ℕ → ℕ → Bool
is_linked ls t u = list_any (λ l. l.from == t && l.to == u) ls

-- whether u follows t at some object with none between them
abbrev pub follows : List Member → ℕ → ℕ → Bool
follows members = is_linked (links (backwards [] members))
