-- An abstract state is exact: a guard that names no requester holds in a state where it holds in its abstract state.
use Rattle.std.proofs.Common.{◌≡◌, ◌≢◌, refl, ap, sym, ◌∙◌, ℕ, zero, suc, ◌<◌, ◌≤◌, Bool, true, false, not, ◌&&◌, ◌||◌, List, [], ◌∷◌, map, arith, Option, Some, None, inl, inr, ◌⊎◌}
use Rattle.std.specs.Prelude.{◌==◌, option_map}
use Rattle.std.specs.List.{list_all, list_any}
use Rattle.std.specs.Option.{option_map_or}
use Rattle.std.proofs.lemmas.Bool.Decides.{eqb_tells}
use Rattle.std.proofs.lemmas.List.Folds.{list_all-append, list_all-map}
use Rattle.hem_base.specs.declared.ids.Status8.{Status8}
use Rattle.hem_base.specs.declared.ids.StatusSet.{StatusSet}
use Rattle.hem_base.specs.declared.ids.Message.{Message}
use Rattle.hem_syntax.specs.declared.rule.Atom.{Atom}
use Rattle.hem_syntax.specs.declared.rule.Atom.TheVariants as atom
use Rattle.hem_object.specs.declared.state.View.{View}
use Rattle.hem_tree.specs.Tree.{below}
use Rattle.hem_object.specs.Local.{Local}
use Rattle.hem_object.specs.Guard.{has, atom_holds, holds}
use Rattle.hem_abstract.specs.Abstract.{AreSmall, status, all_statuses, atom_at, guard_at, occurs, abstract_of}
use Rattle.hem_template.specs.Template.{reads_me}
use Rattle.hem_rows.proofs.Choices.{not_same}
use Rattle.hem_rows.proofs.Bits.{bits_where-is}

-- no status below n
all-none : (d : ℕ) (t : ℕ → Bool) (n : ℕ) → n ≤ d → list_all (λ s. not (d == s) || t s) (below n) ≡ true
all-none d t zero least = refl
all-none d t (suc n) least =
    let differ : (d == n) ≡ false = not_same d n (λ same. let less : n < d = least in omega arith) in
    let rest = all-none d t n (omega arith) in
    list_all-append (λ s. not (d == s) || t s) (below n) (n ∷ []) ∙ (rw (rest, differ) refl)

all-one : (d : ℕ) (t : ℕ → Bool) (n : ℕ) → d < n → list_all (λ s. not (d == s) || t s) (below n) ≡ t d
all-one d t zero less = absurd (omega arith)
all-one d t (suc n) less = by_place (eqb_tells d n) (λ below. all-one d t n below)
  where
    by_place : ((d == n) ≡ true) × (d ≡ n) ⊎ ((d == n) ≡ false) × (d ≢ n) → (d < n → list_all (λ s. not (d == s) || t s) (below n) ≡ t d) → list_all (λ s. not (d == s) || t s) (below (suc n)) ≡ t d
    by_place (inl same) rest =
        let none = all-none d t n (omega (arith, same.1)) in
        list_all-append (λ s. not (d == s) || t s) (below n) (n ∷ []) ∙ (rw (none, same.0) (last (t n)) ∙ ap t (sym same.1))
      where
        last : (b : Bool) → (b && true) ≡ b
        last true = refl
        last false = refl
    by_place (inr other) rest =
        let here = rest (omega (arith, less, other.1)) in
        list_all-append (λ s. not (d == s) || t s) (below n) (n ∷ []) ∙ (rw (here, other.0) (end (t d)))
      where
        end : (b : Bool) → (b && true) ≡ b
        end true = refl
        end false = refl

-- each of two tests over a list
all-both : (f g : ℕ → Bool) (xs : List ℕ) → list_all (λ s. f s && g s) xs ≡ (list_all f xs && list_all g xs)
all-both f g [] = refl
all-both f g (x ∷ xs) = rw (all-both f g xs) (four (f x) (g x) (list_all f xs) (list_all g xs))
  where
    four : (a b c d : Bool) → ((a && b) && (c && d)) ≡ ((a && c) && (b && d))
    four true true c d = refl
    four true false true d = refl
    four true false false d = refl
    four false b c d = refl

all-same : (f g : ℕ → Bool) (n : ℕ) → ((s : ℕ) → s < n → f s ≡ g s) → list_all f (below n) ≡ list_all g (below n)
all-same f g zero same = refl
all-same f g (suc n) same =
    let rest = all-same f g n (λ s less. same s (omega arith)) in
    let last = same n (omega arith) in
    list_all-append f (below n) (n ∷ []) ∙ (rw (rest, last) refl) ∙ sym (list_all-append g (below n) (n ∷ []))

-- all that occur pass a test where all entries do
all-occur : (t : ℕ → Bool) (dir : List Status8) → AreSmall dir → list_all (λ s. not (occurs dir s) || t s) (below 8) ≡ list_all (λ d. t d.0) dir
all-occur t [] small = refl
all-occur t (d ∷ dir) small =
    all-same (λ s. not (occurs (d ∷ dir) s) || t s) (λ s. (not (d.0 == s) || t s) && (not (occurs dir s) || t s)) 8 (λ s less. split (d.0 == s) (occurs dir s) (t s))
    ∙ all-both (λ s. not (d.0 == s) || t s) (λ s. not (occurs dir s) || t s) (below 8)
    ∙ (let one = all-one d.0 t 8 small.0 in let rest = all-occur t dir small.1 in rw (one, rest) refl)
  where
    split : (a b c : Bool) → (not (a || b) || c) ≡ ((not a || c) && (not b || c))
    split true true true = refl
    split true true false = refl
    split true false true = refl
    split true false false = refl
    split false true true = refl
    split false true false = refl
    split false false c = refl

-- a test of all children
pub kids_all-exact : (set : StatusSet) (local : Local) → AreSmall local.dir → list_all (λ s. not (has (abstract_of local).kids s) || has set s) all_statuses ≡ list_all (has set) local.dir
kids_all-exact set local small =
    list_all-map (λ s. not (has (abstract_of local).kids s) || has set s) status (below 8)
    ∙ all-same (λ s. not (has (abstract_of local).kids (status s)) || has set (status s)) (λ s. not (occurs local.dir s) || has set (status s)) 8 (λ s less. ap (λ b. not b || has set (status s)) (bits_where-is (occurs local.dir) 8 s less))
    ∙ all-occur (λ s. has set (status s)) local.dir small

-- one occurs that passes a test where some entry does
pub any-not : (f : ℕ → Bool) (xs : List ℕ) → list_any f xs ≡ not (list_all (λ s. not (f s)) xs)
any-not f [] = refl
any-not f (x ∷ xs) = rw (any-not f xs) (either (f x) (list_all (λ s. not (f s)) xs))
  where
    either : (a b : Bool) → (a || not b) ≡ not (not a && b)
    either true b = refl
    either false b = refl

any-entry : (t : ℕ → Bool) (dir : List Status8) → list_any (λ d. t d.0) dir ≡ not (list_all (λ d. not (t d.0)) dir)
any-entry t [] = refl
any-entry t (d ∷ dir) = rw (any-entry t dir) (either (t d.0) (list_all (λ d. not (t d.0)) dir))
  where
    either : (a b : Bool) → (a || not b) ≡ not (not a && b)
    either true b = refl
    either false b = refl

any-occur : (t : ℕ → Bool) (dir : List Status8) → AreSmall dir → list_any (λ s. occurs dir s && t s) (below 8) ≡ list_any (λ d. t d.0) dir
any-occur t dir small =
    any-not (λ s. occurs dir s && t s) (below 8)
    ∙ ap not (all-same (λ s. not (occurs dir s && t s)) (λ s. not (occurs dir s) || not (t s)) 8 (λ s less. apart (occurs dir s) (t s)) ∙ all-occur (λ s. not (t s)) dir small)
    ∙ sym (any-entry t dir)
  where
    apart : (a b : Bool) → not (a && b) ≡ (not a || not b)
    apart true b = refl
    apart false b = refl

pub any-mapped : (f : Status8 → Bool) (xs : List ℕ) → list_any f (map status xs) ≡ list_any (λ s. f (status s)) xs
any-mapped f [] = refl
any-mapped f (x ∷ xs) = ap (λ b. f (status x) || b) (any-mapped f xs)

any-same : (f g : ℕ → Bool) (n : ℕ) → ((s : ℕ) → s < n → f s ≡ g s) → list_any f (below n) ≡ list_any g (below n)
any-same f g n same = any-not f (below n) ∙ ap not (all-same (λ s. not (f s)) (λ s. not (g s)) n (λ s less. ap not (same s less))) ∙ sym (any-not g (below n))

-- a test of some child
pub kids_any-exact : (set : StatusSet) (local : Local) → AreSmall local.dir → list_any (λ s. has (abstract_of local).kids s && has set s) all_statuses ≡ list_any (has set) local.dir
kids_any-exact set local small =
    any-mapped (λ s. has (abstract_of local).kids s && has set s) (below 8)
    ∙ any-same (λ s. has (abstract_of local).kids (status s) && has set (status s)) (λ s. occurs local.dir s && has set (status s)) 8 (λ s less. ap (λ b. b && has set (status s)) (bits_where-is (occurs local.dir) 8 s less))
    ∙ any-occur (λ s. has set (status s)) local.dir small

-- a condition that reads neither the requester nor the others
pub atom-exact : (local : Local) (view : View) (a : Atom) → AreSmall local.dir → reads_me a ≡ false → atom_at (abstract_of local) (option_map (λ m. m.id) view.kept) a ≡ atom_holds local view a
atom-exact local view (atom.Field i set) small fits = refl
atom-exact local view (atom.KidsAll set) small fits = kids_all-exact set local small
atom-exact local view (atom.KidsAny set) small fits = kids_any-exact set local small
atom-exact local view (atom.Asked id) small fits = asked view.kept
  where
    asked : (kept : Option Message) → option_map_or (λ a. a.0 == id.0) (option_map (λ m. m.id) kept) false ≡ option_map_or (λ m. m.id.0 == id.0) kept false
    asked None = refl
    asked (Some m) = refl
atom-exact local view _ small fits = cc

-- a guard that reads neither holds exactly where it holds in the abstract state, for the id of the request that a lock keeps
pub guard-exact : (local : Local) (view : View) (guard : List Atom) → AreSmall local.dir → list_any reads_me guard ≡ false → guard_at guard (abstract_of local) (option_map (λ m. m.id) view.kept) ≡ holds guard local view
guard-exact local view [] small fits = refl
guard-exact local view (a ∷ guard) small fits =
    let parts = neither (reads_me a) (list_any reads_me guard) fits in
    let one = atom-exact local view a small parts.0 in
    let rest = guard-exact local view guard small parts.1 in
    rw (one, rest) refl
  where
    neither : (a b : Bool) → (a || b) ≡ false → (a ≡ false) × (b ≡ false)
    neither true b is = cc
    neither false b is = (refl, is)
