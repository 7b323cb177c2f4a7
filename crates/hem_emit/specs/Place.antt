-- Where a rule is translated: its object and children, and for whom it works.
use Rattle.std.specs.Prelude.{ℕ, ◌==◌, ◌+◌, Bool, false, not, List, filter, Option, None, slice_index_or}
use Rattle.std.specs.List.{enumerate_from}
use Rattle.std.specs.Option.{option_map_or}
use Rattle.hem_base.specs.declared.ids.Kind.{Kind}
use Rattle.hem_syntax.specs.declared.rule.Side.{Side}
use Rattle.hem_syntax.specs.declared.rule.Side.TheVariants.{Up, Down}
use Rattle.hem_syntax.specs.declared.rule.Take.{Take}
use Rattle.hem_syntax.specs.declared.rule.Take.TheVariants as take
use Rattle.hem_object.specs.declared.state.By.{By}
use Rattle.hem_object.specs.declared.state.By.TheVariants.{Processor, Kid, Parent, Own}
use Rattle.hem_module.specs.Module as of_names
use Rattle.hem_emit.specs.Names.{Reg, Queue, lock, origin}

-- a test, a clause, an amount, a deed and an action of these registers and queues
abbrev pub Test : Type 0
Test = of_names.Test Reg Queue

abbrev pub Clause : Type 0
Clause = of_names.Clause Reg Queue

abbrev pub Amount : Type 0
Amount = of_names.Amount Reg Queue

abbrev pub Deed : Type 0
Deed = of_names.Deed Reg Queue

abbrev pub Action : Type 0
Action = of_names.Action Reg Queue

-- an object: its kind, its number, its children's numbers in order, and how many statuses there are
pub record Place : Type 0 where
  pub kind : Kind
  pub object : ℕ
  pub kids : List ℕ
  pub statuses : ℕ

-- the children: each one's place and number
abbrev pub kids_at : Place → List (ℕ × ℕ)
kids_at at = enumerate_from 0 at.kids

-- whether a place is that of the child that is named
abbrev pub is_named : Option ℕ → ℕ → Bool
is_named me k = option_map_or (λ c. c == k) me false

-- the children but the named one
abbrev pub others_at : Place → Option ℕ → List (ℕ × ℕ)
others_at at me = filter (λ k. not (is_named me k.0)) (kids_at at)

-- who the requester is: one child, or the processor where none is named; or whom a lock is held for
pub data Asker : Type 0 where
  fixed : Option ℕ → Asker
  holder : Side → Asker

-- whom a rule works for
abbrev pub asker_of : Take → Option ℕ → Asker
asker_of (take.Me id) me = fixed me
asker_of (take.Parent id) me = holder Up
asker_of (take.Kids id) me = holder Down
asker_of take.Nothing me = fixed None

-- the register of a lock's origin
abbrev pub origin_at : Place → Side → Reg
origin_at at side = lock side origin at.object

-- the origin of a lock that is held for a child
abbrev pub kid_origin : ℕ → ℕ
kid_origin c = 3 + c

-- the origin of a lock that is held
abbrev pub origin_of : List ℕ → By → ℕ
origin_of kids Own = 1
origin_of kids Parent = 2
origin_of kids Processor = 3
origin_of kids (Kid c) = kid_origin (slice_index_or kids c 0)
