-- There is one walk from a seed.
use Rattle.std.proofs.Common.{◌≡◌, ◌∙◌, refl, sym, ap, subst, arith, ℕ, zero, suc, ◌+◌, ◌-◌, ◌/◌, ◌%◌, ◌<◌, ◌≤◌, ◌++◌, List, [], ◌∷◌, length, take, Option, Some, None, ⊎_elim, mul_comm}
use Rattle.std.specs.Prelude.{slice_get, option_and_then}
use Rattle.std.proofs.str.Laws.{order}
use Rattle.std.proofs.lemmas.Nat.{div-mul-add, mod-mul-add, mod_below, mul-add-lt}
use Rattle.std.proofs.lemmas.Bool.Decides.{nat_tests}
use Rattle.hem_base.specs.declared.ids.Firing.{Firing}
use Rattle.hem_syntax.specs.Protocol.{Protocol}
use Rattle.hem_tree.specs.Tree.{Tree}
use Rattle.hem_work.specs.Work.{Work}
use Rattle.hem_system.specs.State.{State, Runs, run, fire, start}
use Rattle.hem_work.specs.Generator.{draw_after}
use Rattle.hem_walk.specs.Walk.{positions, position, distance, ready_at, IsThere, IsTurn, AreTurns, IsWalk}
use Rattle.hem_cli.proofs.Endings.{if_some}

-- how far it is to a position that isn't before, and to one that is
distance_on : (n from at : ℕ) → from ≤ at → distance n from at ≡ at - from
distance_on n from at on = grind (arith, nat_tests)

distance_round : (n from at : ℕ) → at < from → distance n from at ≡ at + n - from
distance_round n from at round = grind (arith, nat_tests)

-- two positions that are equally far are one
equally_far : (n from a b : ℕ) → from < n → a < n → b < n → distance n from a ≡ distance n from b → a ≡ b
equally_far n from a b within first second same =
    ⊎_elim
    (λ a_before.
    ⊎_elim
    (λ b_before. omega (arith, distance_round n from a a_before, distance_round n from b b_before, same))
    (λ b_past. omega (arith, distance_round n from a a_before, distance_on n from b b_past, same))
    (order b from))
    (λ a_past.
    ⊎_elim
    (λ b_before. omega (arith, distance_on n from a a_past, distance_round n from b b_before, same))
    (λ b_past. omega (arith, distance_on n from a a_past, distance_on n from b b_past, same))
    (order b from))
    (order a from)

-- a position is below their number
below_all : (tree : Tree) (s : State) (l o : ℕ) → IsThere tree s l o → position tree l o < positions tree s
below_all tree s l o there = omega (arith, mul-add-lt l (length tree) o (length s) there.line there.object, mul_comm (length tree) (length s))

some_or_none : (o : Option Firing) (f : Firing) → o ≡ None → o ≡ Some f → ⊥
some_or_none o f none some = cc

same_firing : (a b : Option Firing) (f g : Firing) → a ≡ b → a ≡ Some f → b ≡ Some g → f ≡ g
same_firing a b f g same one other = cc

-- firings that are ready at one position are one
same_ready : (p : Protocol) (tree : Tree) (k : ℕ) (h : List Firing) (s : State) (f g : Firing) → IsThere tree s f.line.0 f.object.0 → IsThere tree s g.line.0 g.object.0
    → ready_at p tree k h s f.line.0 f.object.0 ≡ Some f → ready_at p tree k h s g.line.0 g.object.0 ≡ Some g → position tree f.line.0 f.object.0 ≡ position tree g.line.0 g.object.0 → f ≡ g
same_ready p tree k h s f g one other first second same =
    let line : f.line.0 ≡ g.line.0 = sym (div-mul-add f.line.0 (length tree) f.object.0 one.object) ∙ (ap (λ at. at / length tree) same ∙ div-mul-add g.line.0 (length tree) g.object.0 other.object) in
    let object : f.object.0 ≡ g.object.0 = sym (mod-mul-add f.line.0 (length tree) f.object.0 one.object) ∙ (ap (λ at. at % length tree) same ∙ mod-mul-add g.line.0 (length tree) g.object.0 other.object) in
    same_firing _ _ f g (λ i. ready_at p tree k h s (line i) (object i)) first second

-- a turn has one firing
turn_once : (p : Protocol) (tree : Tree) (k : ℕ) (h : List Firing) (s : State) (from : ℕ) (f g : Firing) → from < positions tree s → IsTurn p tree k h s from f → IsTurn p tree k h s from g → f ≡ g
turn_once p tree k h s from f g within a b =
    let n = positions tree s in
    let at_f = position tree f.line.0 f.object.0 in
    let at_g = position tree g.line.0 g.object.0 in
    ⊎_elim
    (λ nearer. absurd (some_or_none (ready_at p tree k h s f.line.0 f.object.0) f (b.first f.line.0 f.object.0 a.there nearer) a.ready))
    (λ not_nearer.
    ⊎_elim
    (λ nearer. absurd (some_or_none (ready_at p tree k h s g.line.0 g.object.0) g (a.first g.line.0 g.object.0 b.there nearer) b.ready))
    (λ not_farther.
    same_ready p tree k h s f g a.there b.there a.ready b.ready
    (equally_far n from at_f at_g within (below_all tree s f.line.0 f.object.0 a.there) (below_all tree s g.line.0 g.object.0 b.there) (omega (arith, not_nearer, not_farther))))
    (order (distance n from at_g) (distance n from at_f)))
    (order (distance n from at_f) (distance n from at_g))

-- one firing more at the front
take_more : (h : List Firing) (i : ℕ) (f : Firing) → slice_get h i ≡ Some f → take (suc i) h ≡ take i h ++ f ∷ []
take_more [] i f there = cc
take_more (x ∷ h) zero f there = let same : x ≡ f = cc in ap (λ y. y ∷ []) same
take_more (x ∷ h) (suc i) f there = ap (λ rest. x ∷ rest) (take_more h i f there)

take_whole : (h : List Firing) → take (length h) h ≡ h
take_whole [] = refl
take_whole (x ∷ h) = ap (λ rest. x ∷ rest) (take_whole h)

-- the firing at a place of a list
firing_at : (h : List Firing) (i : ℕ) → i < length h → (f : Firing) × (slice_get h i ≡ Some f)
firing_at [] i within = absurd (omega (arith, within))
firing_at (x ∷ h) zero within = (x, refl)
firing_at (x ∷ h) (suc i) within = firing_at h i (omega (arith, within))

-- the front of a history that runs does
front_run : (p : Protocol) (tree : Tree) (s new : State) (h : List Firing) (i : ℕ) → run p tree s h ≡ Some new → (now : State) × (run p tree s (take i h) ≡ Some now)
front_run p tree s new h zero is = (s, refl)
front_run p tree s new [] (suc i) is = (s, refl)
front_run p tree s new (f ∷ h) (suc i) is =
    let by = if_some (λ next. run p tree next h) (fire p tree s f) new is in
    let rest = front_run p tree by.0 new h i by.2 in
    (rest.0, ap (option_and_then (λ next. run p tree next (take i h))) by.1 ∙ rest.1)

-- an object on a line makes some position
some_position : (tree : Tree) (s : State) (l o : ℕ) → IsThere tree s l o → 0 < positions tree s
some_position tree s l o there = let below = below_all tree s l o there in omega (arith, below)

-- after one front of two walks the next firings are one
next_once : (p : Protocol) (tree : Tree) (work : Work) (seed : ℕ) (h g : List Firing) (i : ℕ) (now : State) (f e : Firing) → AreTurns p tree work seed h → AreTurns p tree work seed g → take i h ≡ take i g
    → Runs p tree (start p tree work) (take i h) now → slice_get h i ≡ Some f → slice_get g i ≡ Some e → f ≡ e
next_once p tree work seed h g i now f e one other same runs here there =
    let turn = one.each i f now here runs in
    let turned = other.each i e now there (subst (λ x. Runs p tree (start p tree work) x now) same runs) in
    turn_once p tree work.self_count (take i h) now (draw_after seed i % positions tree now) f e (mod_below (draw_after seed i) (positions tree now) (some_position tree now f.line.0 f.object.0 turn.there)) turn
    (subst (λ x. IsTurn p tree work.self_count x now (draw_after seed i % positions tree now) e) (sym same) turned)

-- two walks from a seed agree as far as both go
same_fronts : (p : Protocol) (tree : Tree) (work : Work) (seed : ℕ) (h g : List Firing) (s t : State) → IsWalk p tree work seed h s → IsWalk p tree work seed g t → (i : ℕ) → i ≤ length h → i ≤ length g → take i h ≡ take i g
same_fronts p tree work seed h g s t one other zero first second = refl
same_fronts p tree work seed h g s t one other (suc i) first second =
    let same = same_fronts p tree work seed h g s t one other i (omega (arith, first)) (omega (arith, second)) in
    let f = firing_at h i (omega (arith, first)) in
    let e = firing_at g i (omega (arith, second)) in
    let ran = front_run p tree (start p tree work) s h i one.runs.leads in
    let firing = next_once p tree work seed h g i ran.0 f.0 e.0 one.turns other.turns same (record { leads = ran.1 }) f.1 e.1 in
    take_more h i f.0 f.1 ∙ ((λ j. same j ++ firing j ∷ []) ∙ sym (take_more g i e.0 e.1))

-- a walk that is over isn't the front of a longer one
not_longer : (p : Protocol) (tree : Tree) (work : Work) (seed : ℕ) (h g : List Firing) (s t : State) → IsWalk p tree work seed h s → IsWalk p tree work seed g t → length h < length g → ⊥
not_longer p tree work seed h g s t one other less =
    let same : take (length h) g ≡ h = sym (same_fronts p tree work seed h g s t one other (length h) (omega arith) (omega (arith, less))) ∙ take_whole h in
    let next = firing_at g (length h) less in
    let turn = other.turns.each (length h) next.0 s next.1 (subst (λ x. Runs p tree (start p tree work) x s) (sym same) one.runs) in
    some_or_none (ready_at p tree work.self_count h s next.0.line.0 next.0.object.0) next.0 (one.over.none next.0.line.0 next.0.object.0 turn.there)
    (subst (λ x. ready_at p tree work.self_count x s next.0.line.0 next.0.object.0 ≡ Some next.0) same turn.ready)

same_state : (a b : Option State) (s t : State) → a ≡ b → a ≡ Some s → b ≡ Some t → s ≡ t
same_state a b s t same one other = cc

-- there is one walk from a seed
pub walk_once : (p : Protocol) (tree : Tree) (work : Work) (seed : ℕ) (h g : List Firing) (s t : State) → IsWalk p tree work seed h s → IsWalk p tree work seed g t → (h ≡ g) × (s ≡ t)
walk_once p tree work seed h g s t one other =
    ⊎_elim
    (λ less. absurd (not_longer p tree work seed h g s t one other less))
    (λ not_less.
    ⊎_elim
    (λ less. absurd (not_longer p tree work seed g h t s other one less))
    (λ not_more.
    let lengths : length h ≡ length g = omega (arith, not_less, not_more) in
    let same : h ≡ g = sym (take_whole h) ∙ (same_fronts p tree work seed h g s t one other (length h) (omega arith) not_more ∙ (ap (λ n. take n g) lengths ∙ take_whole g)) in
    (same, same_state _ _ s t (ap (run p tree (start p tree work)) same) one.runs.leads other.runs.leads))
    (order (length g) (length h)))
    (order (length h) (length g))
