-- Positions, and how far one is from another.
use Rattle.std.proofs.Common.{◌≡◌, ℕ, ◌∙◌, ◌+◌, ◌-◌, ◌<◌, ◌≤◌, arith, List, length, Option, Some, None, ⊎_elim, inl, inr, ◌⊎◌, mul_comm}
use Rattle.std.specs.Prelude.{◌/◌, ◌%◌, IfSome, IfNone}
use Rattle.std.proofs.lemmas.Option.{slice_get_within}
use Rattle.std.proofs.str.Laws.{order}
use Rattle.std.proofs.lemmas.Nat.{div-mul-add, mod-mul-add, div-add-mod', div_below, mod_below, mul-add-lt}
use Rattle.std.proofs.lemmas.Bool.Decides.{nat_tests}
use Rattle.hem_base.specs.declared.ids.Firing.{Firing}
use Rattle.hem_syntax.specs.Protocol.{Protocol}
use Rattle.hem_tree.specs.Tree.{Tree, IsLawful}
use Rattle.hem_system.specs.State.{State}
use Rattle.hem_walk.specs.Walk.{positions, position, distance, IsThere, IsTurn, IsOver}
use Rattle.hem_walk.specs.Working.{NoneReady, IsFirst}

-- how far it is to a position that isn't before, and to one that is
distance_on : (n from at : ℕ) → from ≤ at → distance n from at ≡ at - from
distance_on n from at on = grind (arith, nat_tests)

distance_round : (n from at : ℕ) → at < from → distance n from at ≡ at + n - from
distance_round n from at round = grind (arith, nat_tests)

-- what is nearer than a position that isn't before
pub nearer_on : (n from a b : ℕ) → from ≤ b → b < n → distance n from a < distance n from b → (from ≤ a) × (a < b)
nearer_on n from a b on within near =
    ⊎_elim
    (λ before. absurd (let here = distance_round n from a before in let there = distance_on n from b on in omega (arith, here, there)))
    (λ past. (past, (let here = distance_on n from a past in let there = distance_on n from b on in omega (arith, here, there))))
    (order a from)

-- what is nearer than a position that is before
pub nearer_round : (n from a b : ℕ) → from ≤ n → b < from → distance n from a < distance n from b → (from ≤ a) ⊎ (a < b)
nearer_round n from a b within round near =
    ⊎_elim
    (λ before. inr (let here = distance_round n from a before in let there = distance_round n from b round in omega (arith, here, there)))
    (λ past. inl past)
    (order a from)

-- a position is below their number
pub below_all : (tree : Tree) (s : State) (l o : ℕ) → IsThere tree s l o → position tree l o < positions tree s
below_all tree s l o there = omega (arith, mul-add-lt l (length tree) o (length s) there.line there.object, mul_comm (length tree) (length s))

-- a tree has an object
pub some_object : (tree : Tree) → IsLawful tree → 0 < length tree
some_object tree lawful = slice_get_within tree 0 _ lawful.shape.root

-- a number below that is the position of an object on a line
pub there_at : (tree : Tree) (s : State) (at : ℕ) → IsLawful tree → at < positions tree s → IsThere tree s (at / length tree) (at % length tree)
there_at tree s at lawful below =
    let some = some_object tree lawful in
    record { line = div_below at (length tree) (length s) some below; object = mod_below at (length tree) some }

pub position_at : (tree : Tree) (at l o : ℕ) → l ≡ at / length tree → o ≡ at % length tree → position tree l o ≡ at
position_at tree at l o line object = (λ i. position tree (line i) (object i)) ∙ div-add-mod' at (length tree)

-- an object on a line by its position
pub same_place : (tree : Tree) (l o : ℕ) → o < length tree → (position tree l o / length tree ≡ l) × (position tree l o % length tree ≡ o)
same_place tree l o within = (div-mul-add l (length tree) o within, mod-mul-add l (length tree) o within)

-- the first from a position on, where it isn't before, is that of the turn
pub turn_on : (p : Protocol) (tree : Tree) (k : ℕ) (h : List Firing) (s : State) (from : ℕ) (f : Firing) → IsFirst p tree k h s from (positions tree s) f → IsTurn p tree k h s from f
turn_on p tree k h s from f it =
    record {
      there = it.there;
      ready = it.ready;
      first = λ l o there near.
          let parts = nearer_on (positions tree s) from (position tree l o) (position tree f.line.0 f.object.0) it.past (below_all tree s f.line.0 f.object.0 it.there) near in
          it.before.none l o there parts.0 parts.1;
    }

-- and where none is there, the first of those before
pub turn_round : (p : Protocol) (tree : Tree) (k : ℕ) (h : List Firing) (s : State) (from : ℕ) (f : Firing) → from ≤ positions tree s → NoneReady p tree k h s from (positions tree s) → IsFirst p tree k h s 0 from f → IsTurn p tree k h s from f
turn_round p tree k h s from f within none it =
    record {
      there = it.there;
      ready = it.ready;
      first = λ l o there near.
          ⊎_elim
          (λ past. none.none l o there past (below_all tree s l o there))
          (λ less. it.before.none l o there (omega arith) less)
          (nearer_round (positions tree s) from (position tree l o) (position tree f.line.0 f.object.0) within it.within near);
    }

-- where no position has one, the walk is over
pub none_left : (p : Protocol) (tree : Tree) (k : ℕ) (h : List Firing) (s : State) (from : ℕ) → NoneReady p tree k h s from (positions tree s) → NoneReady p tree k h s 0 from → IsOver p tree k h s
none_left p tree k h s from after before =
    record {
      none = λ l o there.
          ⊎_elim
          (λ less. before.none l o there (omega arith) less)
          (λ past. after.none l o there past (below_all tree s l o there))
          (order (position tree l o) from);
    }

-- the same of what was found
pub turns_round : (p : Protocol) (tree : Tree) (k : ℕ) (h : List Firing) (s : State) (from : ℕ) (r : Option Firing) → from ≤ positions tree s → NoneReady p tree k h s from (positions tree s) → IfSome r (IsFirst p tree k h s 0 from) → IfSome r (IsTurn p tree k h s from)
turns_round p tree k h s from None within none it = tt
turns_round p tree k h s from (Some f) within none it = turn_round p tree k h s from f within none it

pub nones_left : (p : Protocol) (tree : Tree) (k : ℕ) (h : List Firing) (s : State) (from : ℕ) (r : Option Firing) → NoneReady p tree k h s from (positions tree s) → IfNone r (NoneReady p tree k h s 0 from) → IfNone r (IsOver p tree k h s)
nones_left p tree k h s from None after before = none_left p tree k h s from after before
nones_left p tree k h s from (Some f) after before = tt

-- and where there is no position the walk is over
pub nowhere : (p : Protocol) (tree : Tree) (k : ℕ) (h : List Firing) (s : State) → positions tree s ≡ 0 → IsOver p tree k h s
nowhere p tree k h s none = record { none = λ l o there. absurd (let inside = below_all tree s l o there in omega (arith, inside, none)) }
