-- What a firing does to the locks, as its own transaction sees it.
use Rattle.std.proofs.Common.{◌≡◌, ◌≢◌, ℕ, true, cond, refl, sym, ap, ◌∙◌, subst, arith, Option, Some, None, ⊎_elim}
use Rattle.std.specs.Prelude.{◌==◌}
use Rattle.hem_object.specs.declared.state.Lock.{Lock}
use Rattle.hem_tree.specs.Tree.{Tree}
use Rattle.hem_shape.specs.Progress.{Asker, set_at}
use Rattle.hem_shape.proofs.Spots.{same_or_other, set_here, set_there}
use Rattle.hem_numbered.specs.Numbers.{lock_number, held_for, asker_of}

-- a lock that stays
pub lock_stays : (tree : Tree) (o n old : ℕ) (before after : Option Lock) → after ≡ before → held_for tree o n (lock_number before n old) after ≡ held_for tree o n old before
lock_stays tree o n old before after same = ap (λ l. held_for tree o n (lock_number before n old) l) same ∙ by_lock before
  where
    by_lock : (before : Option Lock) → held_for tree o n (lock_number before n old) before ≡ held_for tree o n old before
    by_lock None = refl
    by_lock (Some lock) = refl

-- a lock that is freed
pub lock_freed : (tree : Tree) (o n old : ℕ) (before after : Option Lock) → after ≡ None → held_for tree o n (lock_number before n old) after ≡ None
lock_freed tree o n old before after none = ap (λ l. held_for tree o n (lock_number before n old) l) none

-- a lock that is taken
pub lock_taken_for : (tree : Tree) (o n old : ℕ) (before after : Option Lock) (lock : Lock) → before ≡ None → after ≡ Some lock → held_for tree o n (lock_number before n old) after ≡ Some (asker_of tree o lock.by)
lock_taken_for tree o n old before after lock none some =
    ap (λ l. held_for tree o n (lock_number before n old) l) some
    ∙ ap (λ l. held_for tree o n (lock_number l n old) (Some lock)) none
    ∙ (let is : (n == n) ≡ true = grind arith in ap (λ b. cond b (Some (asker_of tree o lock.by)) None) is)

-- the locks of all objects, where one object's lock is as v says
pub locks_set : (tree : Tree) (o n now : ℕ) (numbers : ℕ → ℕ) (old new : ℕ → Option Lock) (v : Option Asker) → ((k : ℕ) → k ≢ o → new k ≡ old k) → held_for tree o n now (new o) ≡ v → (k : ℕ) → held_for tree k n (set_at o now numbers k) (new k) ≡ set_at o v (λ k. held_for tree k n (numbers k) (old k)) k
locks_set tree o n now numbers old new v others here k =
    ⊎_elim
    (λ same. subst (λ k. held_for tree k n (set_at o now numbers k) (new k) ≡ set_at o v (λ k. held_for tree k n (numbers k) (old k)) k) (sym same)
    (ap (λ a. held_for tree o n a (new o)) (set_here o now numbers o refl) ∙ here ∙ sym (set_here o v (λ k. held_for tree k n (numbers k) (old k)) o refl)))
    (λ other. ap (λ a. held_for tree k n a (new k)) (set_there o now numbers k other) ∙ ap (λ l. held_for tree k n (numbers k) l) (others k other) ∙ sym (set_there o v (λ k. held_for tree k n (numbers k) (old k)) k other))
    (same_or_other k o)

-- where nothing is set
pub set_same : {A : Type 0} (o : ℕ) (f : ℕ → A) (k : ℕ) → set_at o (f o) f k ≡ f k
set_same o f k = ⊎_elim (λ same. set_here o (f o) f k same ∙ ap f (sym same)) (λ other. set_there o (f o) f k other) (same_or_other k o)

-- a lock at one object before and after a firing, and the locks of all others, which stay
pub record LockChanges (o : ℕ) (before after : Option Lock) (old new : ℕ → Option Lock) : Type 0 where
  pub here : old o ≡ before
  pub now : new o ≡ after
  pub others : (k : ℕ) → k ≢ o → new k ≡ old k

-- the locks held for a transaction after a firing of number n at o
abbrev pub locks_after : Tree → ℕ → ℕ → Option Lock → (ℕ → ℕ) → (ℕ → Option Lock) → ℕ → Option Asker
locks_after tree o n before numbers new k = held_for tree k n (set_at o (lock_number before n (numbers o)) numbers k) (new k)

pub locks_stay : (tree : Tree) (o n : ℕ) (before after : Option Lock) (numbers : ℕ → ℕ) (old new : ℕ → Option Lock) → LockChanges o before after old new → after ≡ before → (k : ℕ) → locks_after tree o n before numbers new k ≡ held_for tree k n (numbers k) (old k)
locks_stay tree o n before after numbers old new changes same k =
    locks_set tree o n (lock_number before n (numbers o)) numbers old new (held_for tree o n (numbers o) (old o)) changes.others
    (ap (λ l. held_for tree o n (lock_number before n (numbers o)) l) changes.now ∙ lock_stays tree o n (numbers o) before after same ∙ ap (λ l. held_for tree o n (numbers o) l) (sym changes.here)) k
    ∙ set_same o (λ k. held_for tree k n (numbers k) (old k)) k

pub locks_freed : (tree : Tree) (o n : ℕ) (before after : Option Lock) (numbers : ℕ → ℕ) (old new : ℕ → Option Lock) → LockChanges o before after old new → after ≡ None → (k : ℕ) → locks_after tree o n before numbers new k ≡ set_at o None (λ k. held_for tree k n (numbers k) (old k)) k
locks_freed tree o n before after numbers old new changes none k =
    locks_set tree o n (lock_number before n (numbers o)) numbers old new None changes.others
    (ap (λ l. held_for tree o n (lock_number before n (numbers o)) l) changes.now ∙ lock_freed tree o n (numbers o) before after none) k

pub locks_taken : (tree : Tree) (o n : ℕ) (before after : Option Lock) (numbers : ℕ → ℕ) (old new : ℕ → Option Lock) (asker : Asker) (l : Lock) → LockChanges o before after old new → before ≡ None → after ≡ Some l → asker_of tree o l.by ≡ asker → (k : ℕ) → locks_after tree o n before numbers new k ≡ set_at o (Some asker) (λ k. held_for tree k n (numbers k) (old k)) k
locks_taken tree o n before after numbers old new asker l changes none some asks k =
    locks_set tree o n (lock_number before n (numbers o)) numbers old new (Some asker) changes.others
    (ap (λ l. held_for tree o n (lock_number before n (numbers o)) l) changes.now ∙ lock_taken_for tree o n (numbers o) before after l none some ∙ ap Some asks) k
