-- The children that may be sent to, as the code has them.
use Rattle.std.specs.Prelude.{ℕ, List, [], ◌∷◌, ◌++◌, map, filter, Option, None, Some}
use Rattle.hem_base.specs.declared.ids.MsgId.{MsgId}
use Rattle.hem_module.specs.declared.rules.ModAtom.{ModAtom}
use Rattle.hem_module.specs.declared.rules.ModValue.{ModValue}
use Rattle.hem_module.specs.declared.rules.ModValue.TheVariants as value
use Rattle.hem_module.specs.declared.rules.Act.TheVariants as act
use Rattle.hem_module.specs.declared.rules.Action as written
use Rattle.hem_emit.specs.Names.{awaits, lock, asked}
use Rattle.hem_emit.specs.Place.{Test, Place, kids_at, origin_at, is_named, Asker, fixed, holder}
use Rattle.hem_base.specs.declared.ids.StatusSet.{StatusSet}
use Rattle.hem_syntax.specs.declared.rule.Side.{Side}
use Rattle.hem_syntax.specs.declared.rule.Side.TheVariants.{Up, Down}
use Rattle.hem_emit.specs.Clauses.{entry_in, held_for, not_held_for}
use Rattle.hem_emit.specs.Actions.{child_queue}
use Rattle.hem_translate.specs.declared.amounts.Amount as counted
use Rattle.hem_translate.specs.declared.amounts.Deed.{Deed}
use Rattle.hem_translate.specs.declared.amounts.Deed.TheVariants as deed
use Rattle.hem_translate.specs.declared.targets.Target as reached
use Rattle.hem_translate.specs.ByPlace.{Places, reg_at, queue_at, test_at}
use Rattle.hem_translate.specs.Amounts.{acted}

-- a child with the tests under which it is sent to, by places
abbrev pub target_at : Places → (ℕ × ℕ) × List Test → reached.Target
target_at l x = record { kid = x.0; tests = map (test_at l) x.1 }

-- a test, where there is one
abbrev pub given : Option ModAtom → List ModAtom
given None = []
given (Some test) = test ∷ []

-- a child that is sent to under one test, and under another before it where there is one
abbrev pub aimed : ℕ × ℕ → Option ModAtom → ModAtom → reached.Target
aimed k first test = record { kid = k; tests = given first ++ test ∷ [] }

-- a child where a lock isn't held for it, under each status of a set, by places
abbrev pub unheld_by : Places → Place → Side → StatusSet → ℕ × ℕ → List reached.Target
unheld_by l at side set k = map (target_at l) (map (λ test. (k, not_held_for at side k ∷ test ∷ [])) (entry_in at set k))

-- the children that may be the requester, each with the tests under which it is
abbrev pub requesters : Place → Asker → List ((ℕ × ℕ) × List Test)
requesters at (fixed me) = map (λ k. (k, [])) (filter (λ k. is_named me k.0) (kids_at at))
requesters at (holder side) = map (λ k. (k, held_for at side k ∷ [])) (kids_at at)

-- a child is awaited where it is sent to
abbrev pub awaited_by : Places → reached.Target → written.Action
awaited_by l x = record { cond = x.tests; act = act.Set (reg_at l (awaits x.kid.1)) (value.Number 1) }

-- the children that a lock awaits: at the downlock those that are sent to
abbrev pub awaits_by : Places → Side → List reached.Target → List written.Action
awaits_by l Up targets = []
awaits_by l Down targets = map (awaited_by l) targets

-- a lock's origin and the id of its request are written
abbrev pub begun_by : Places → Place → Side → ModValue → ModValue → List written.Action
begun_by l at side by id =
    record { cond = []; act = act.Set (reg_at l (origin_at at side)) by }
    ∷ record { cond = []; act = act.Set (reg_at l (lock side asked at.object)) id }
    ∷ []

-- that a number is sent to a child under an id
abbrev pub to_kid : Places → MsgId → ℕ × ℕ → Deed
to_kid l id k = deed.Send (queue_at l (child_queue k)) id

-- what is sent to a child, once for each amount
abbrev pub sent_to : Places → MsgId → List counted.Amount → reached.Target → List written.Action
sent_to l id amounts x = map (acted x.tests (to_kid l id x.kid)) amounts
