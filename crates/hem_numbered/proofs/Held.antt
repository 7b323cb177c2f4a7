-- For whom a lock is held, and what that says of the lock.
use Rattle.std.proofs.Common.{◌≡◌, ℕ, Bool, true, false, cond, refl, sym, ap, ◌∙◌, arith, Option, Some, None, inl, inr, ◌⊎◌}
use Rattle.std.specs.Prelude.{◌==◌, slice_get}
use Rattle.std.specs.Option.{option_map_or}
use Rattle.std.proofs.lemmas.Bool.{eqb-true}
use Rattle.hem_object.specs.declared.state.By.{By}
use Rattle.hem_object.specs.declared.state.By.TheVariants.{Processor, Kid, Parent, Own}
use Rattle.hem_object.specs.declared.state.Lock.{Lock}
use Rattle.hem_tree.specs.Tree.{Tree, children_of, is_child, place_among}
use Rattle.hem_fire.specs.View.{asker, kid_asker, requester}
use Rattle.hem_system.proofs.Kids.{at_child}
use Rattle.hem_shape.specs.Progress.{Asker, child, processor, parent, itself}
use Rattle.hem_numbered.specs.Numbers.{held_for, asker_of}
use Rattle.hem_numbered.specs.Bounds.{for_kid, for_parent}

-- a lock that a transaction holds: there is one, of its number
pub held_parts : (tree : Tree) (o x n : ℕ) (lock : Option Lock) (a : Asker) → held_for tree o x n lock ≡ Some a → (l : Lock) × (lock ≡ Some l) × (n ≡ x) × (asker_of tree o l.by ≡ a)
held_parts tree o x n None a held = absurd (let bad : None ≡ Some a = held in cc)
held_parts tree o x n (Some l) a held = by_test (n == x) refl held
  where
    by_test : (b : Bool) → (n == x) ≡ b → cond b (Some (asker_of tree o l.by)) None ≡ Some a → (l' : Lock) × (Some l ≡ Some l') × (n ≡ x) × (asker_of tree o l'.by ≡ a)
    by_test true is held = (l, refl, eqb-true n x is, (let same : Some (asker_of tree o l.by) ≡ Some a = held in cc))
    by_test false is held = absurd (let bad : None ≡ Some a = held in cc)

pub held_number : (tree : Tree) (o x n : ℕ) (lock : Option Lock) (a : Asker) → held_for tree o x n lock ≡ Some a → n ≡ x
held_number tree o x n lock a held = (held_parts tree o x n lock a held).2

-- a lock of a transaction's number is held for it
pub held_is : (tree : Tree) (o x n : ℕ) (lock : Option Lock) (l : Lock) → lock ≡ Some l → n ≡ x → held_for tree o x n lock ≡ Some (asker_of tree o l.by)
held_is tree o x n lock l some same = ap (λ lock. held_for tree o x n lock) some ∙ (let is : (n == x) ≡ true = grind arith in ap (λ b. cond b (Some (asker_of tree o l.by)) None) is)

pub held_none : (tree : Tree) (o x n : ℕ) (lock : Option Lock) → lock ≡ None → held_for tree o x n lock ≡ None
held_none tree o x n lock none = ap (λ lock. held_for tree o x n lock) none

-- the asker is a child only where the child stands at that place
pub child_asks : (tree : Tree) (o k : ℕ) (by : By) → asker_of tree o by ≡ child k → (i : ℕ) × (by ≡ Kid i) × (slice_get (children_of tree o) i ≡ Some k)
child_asks tree o k Processor is = absurd (let bad : processor ≡ child k = is in cc)
child_asks tree o k (Kid i) is = (i, refl, by_child (slice_get (children_of tree o) i) refl is)
  where
    by_child : (c : Option ℕ) → slice_get (children_of tree o) i ≡ c → option_map_or child c processor ≡ child k → slice_get (children_of tree o) i ≡ Some k
    by_child None at is = absurd (let bad : processor ≡ child k = is in cc)
    by_child (Some c) at is = at ∙ (let same : child c ≡ child k = is in cc)
child_asks tree o k Parent is = absurd (let bad : parent ≡ child k = is in cc)
child_asks tree o k Own is = absurd (let bad : itself ≡ child k = is in cc)

-- a lock held for a child counts at the child's edge
pub child_counts : (tree : Tree) (o x n k : ℕ) (lock : Option Lock) → held_for tree o x n lock ≡ Some (child k) → (is_child tree k o ≡ true) × (for_kid (place_among tree o k) lock ≡ 1)
child_counts tree o x n k lock held =
    let parts = held_parts tree o x n lock (child k) held in
    let asks = child_asks tree o k parts.0.by parts.3 in
    let at = at_child tree o asks.0 k asks.2 in
    (at.0, ap (for_kid (place_among tree o k)) parts.1 ∙ ap (λ by. elim by [ Kid d ↦ cond (place_among tree o k == d) 1 0 | _ ↦ 0 ]) asks.1 ∙ (let place = at.1 in let is : (place_among tree o k == asks.0) ≡ true = grind arith in ap (λ b. cond b 1 0) is))

-- a lock held for the parent counts at the edge to the parent
parent_asks : (tree : Tree) (o : ℕ) (by : By) → asker_of tree o by ≡ parent → by ≡ Parent
parent_asks tree o Processor is = absurd (let bad : processor ≡ parent = is in cc)
parent_asks tree o (Kid i) is = absurd (by_child (slice_get (children_of tree o) i) is)
  where
    by_child : (c : Option ℕ) → option_map_or child c processor ≡ parent → ⊥
    by_child None is = let bad : processor ≡ parent = is in cc
    by_child (Some c) is = let bad : child c ≡ parent = is in cc
parent_asks tree o Parent is = refl
parent_asks tree o Own is = absurd (let bad : itself ≡ parent = is in cc)

pub parent_counts : (tree : Tree) (o x n : ℕ) (lock : Option Lock) → held_for tree o x n lock ≡ Some parent → for_parent lock ≡ 1
parent_counts tree o x n lock held =
    let parts = held_parts tree o x n lock parent held in
    ap for_parent parts.1 ∙ ap (λ by. elim by [ Parent ↦ 1 | _ ↦ 0 ]) (parent_asks tree o parts.0.by parts.3)

-- who can ask: a processor or a child
abbrev pub Asks : By → Type 0
Asks Processor = Unit {0}
Asks (Kid i) = Unit {0}
Asks _ = ⊥

pub asks_of : (lock : Option Lock) (l : Lock) → lock ≡ Some l → asker lock ≡ Some l.by → Asks l.by
asks_of lock l some is = by_by l.by (sym (ap asker some) ∙ is)
  where
    by_by : (by : By) → elim by [ Processor ↦ Some Processor | Kid c ↦ Some (Kid c) | _ ↦ None ] ≡ Some by → Asks by
    by_by Processor is = tt
    by_by (Kid i) is = tt
    by_by Parent is = let bad : None ≡ Some Parent = is in cc
    by_by Own is = let bad : None ≡ Some Own = is in cc

pub asks_requester : (me : Option ℕ) → Asks (requester me)
asks_requester None = tt
asks_requester (Some c) = tt

-- the child for which a downlock is held is its asker
pub kid_asks : (lock : Option Lock) (l : Lock) (by : By) → lock ≡ Some l → kid_asker lock ≡ Some by → by ≡ l.by
kid_asks lock l by some is = by_by l.by (sym (ap kid_asker some) ∙ is)
  where
    by_by : (held : By) → elim held [ Kid c ↦ Some (Kid c) | _ ↦ None ] ≡ Some by → by ≡ held
    by_by Processor is = let bad : None ≡ Some by = is in cc
    by_by (Kid i) is = let same : Some (Kid i) ≡ Some by = is in cc
    by_by Parent is = let bad : None ≡ Some by = is in cc
    by_by Own is = let bad : None ≡ Some by = is in cc

-- who asks is a processor or a child
pub which_asks : (tree : Tree) (o : ℕ) (by : By) → Asks by → (asker_of tree o by ≡ processor) ⊎ ((c : ℕ) × (asker_of tree o by ≡ child c))
which_asks tree o Processor asks = inl refl
which_asks tree o (Kid i) asks = by_child (slice_get (children_of tree o) i) refl
  where
    by_child : (c : Option ℕ) → slice_get (children_of tree o) i ≡ c → (asker_of tree o (Kid i) ≡ processor) ⊎ ((c : ℕ) × (asker_of tree o (Kid i) ≡ child c))
    by_child None at = inl (ap (λ c. option_map_or child c processor) at)
    by_child (Some c) at = inr (c, ap (λ c. option_map_or child c processor) at)
which_asks tree o Parent asks = absurd asks
which_asks tree o Own asks = absurd asks
