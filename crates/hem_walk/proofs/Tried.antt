-- The first ready firing of a rule, of an object on a line, and of several positions.
use Rattle.std.proofs.Common.{◌≡◌, refl, sym, ap, ◌∙◌, subst, ℕ, ◌+◌, ◌<◌, ◌≤◌, arith, Bool, true, false, cond, List, [], ◌∷◌, length, map, Option, Some, None, ⊎_elim}
use Rattle.std.specs.Prelude.{find, ◌/◌, ◌%◌}
use Rattle.std.specs.List.{flat_map}
use Rattle.std.specs.Option.{option_map_or, option_or}
use Rattle.std.proofs.str.Laws.{order}
use Rattle.std.proofs.lemmas.List.Folds.{find-append}
use Rattle.hem_base.specs.declared.ids.Kind.{Kind}
use Rattle.hem_base.specs.declared.ids.ObjectId.{ObjectId}
use Rattle.hem_base.specs.declared.ids.Firing.{Firing}
use Rattle.hem_syntax.specs.declared.rule.Rule.{Rule}
use Rattle.hem_syntax.specs.Protocol.{Protocol, part}
use Rattle.hem_tree.specs.Tree.{Tree, kind_of, children_of}
use Rattle.hem_system.specs.State.{State}
use Rattle.hem_walk.specs.Walk.{firing_of, named, firings_of_rule, rules_of, firings_at, is_ready, ready_at, position, IsThere}
use Rattle.hem_walk.specs.Working.{NoneReady, IsFirst}
use Rattle.hem_walk.proofs.Positions.{position_at, same_place}

-- the children as firings name them
kids_named : (l o : ℕ) (rule : Rule) (kids : List ObjectId) → map (firing_of l o rule) (map named (map (λ id. id.0) kids)) ≡ map (λ id. firing_of l o rule (Some id)) kids
kids_named l o rule [] = refl
kids_named l o rule (k ∷ ks) = ap (λ (fs : List Firing). firing_of l o rule (Some k) ∷ fs) (kids_named l o rule ks)

-- the firing without a child is the first
pub alone_first : (test : Firing → Bool) (tree : Tree) (l o : ℕ) (rule : Rule) → test (firing_of l o rule None) ≡ true → find test (firings_of_rule tree l o rule) ≡ Some (firing_of l o rule None)
alone_first test tree l o rule passes =
    ap (λ b. cond b (Some (firing_of l o rule None)) (find test (map (firing_of l o rule) (map named (children_of tree o))))) passes

-- the first with a child, by the children as they are kept
pub child_among : (test : Firing → Bool) (tree : Tree) (l o : ℕ) (rule : Rule) (kids : List ObjectId) (r : Option Firing) → map (λ id. id.0) kids ≡ children_of tree o → find test (map (λ id. firing_of l o rule (Some id)) kids) ≡ r → find test (map (firing_of l o rule) (map named (children_of tree o))) ≡ r
child_among test tree l o rule kids r are is =
    ap (λ ks. find test (map (firing_of l o rule) (map named ks))) (sym are)
    ∙ ap (find test) (kids_named l o rule kids)
    ∙ is

-- or else the first with a child
pub children_first : (test : Firing → Bool) (tree : Tree) (l o : ℕ) (rule : Rule) (r : Option Firing) → test (firing_of l o rule None) ≡ false → find test (map (firing_of l o rule) (map named (children_of tree o))) ≡ r → find test (firings_of_rule tree l o rule) ≡ r
children_first test tree l o rule r fails is =
    ap (λ b. cond b (Some (firing_of l o rule None)) (find test (map (firing_of l o rule) (map named (children_of tree o))))) fails
    ∙ is

-- the first of an object on a line is that of its rules
pub rules_first : (test : Firing → Bool) (p : Protocol) (tree : Tree) (l o : ℕ) (kind : Kind) (rules : List Rule) (r : Option Firing) → kind_of tree o ≡ Some kind → rules ≡ (part p kind).rules → find test (flat_map (firings_of_rule tree l o) rules) ≡ r → find test (firings_at p tree l o) ≡ r
rules_first test p tree l o kind rules r kind_is are is =
    let all : rules_of p tree o ≡ (part p kind).rules = ap (λ (k : Option Kind). option_map_or (λ kind. (part p kind).rules) k []) kind_is in
    ap (λ rs. find test (flat_map (firings_of_rule tree l o) rs)) (all ∙ sym are) ∙ is

-- what is found in a list that was mapped, and in one of several lists
mapped_found : {A B : Type 0} (test : B → Bool) (g : A → B) (xs : List A) (y : B) → find test (map g xs) ≡ Some y → (x : A) × (g x ≡ y)
mapped_found test g [] y is = cc
mapped_found {A = A} {B = B} test g (x ∷ xs) y is = by_test (test (g x)) is (mapped_found test g xs y)
  where
    by_test : (b : Bool) → cond b (Some (g x)) (find test (map g xs)) ≡ Some y → (find test (map g xs) ≡ Some y → (x : A) × (g x ≡ y)) → (x : A) × (g x ≡ y)
    by_test true is rest = (x, cc)
    by_test false is rest = rest is

flat_found : {A B : Type 0} (test : B → Bool) (g : A → List B) (xs : List A) (y : B) → find test (flat_map g xs) ≡ Some y → (x : A) × (find test (g x) ≡ Some y)
flat_found test g [] y is = cc
flat_found {A = A} {B = B} test g (x ∷ xs) y is = by_first (find test (g x)) refl (sym (find-append test (g x) (flat_map g xs)) ∙ is) (flat_found test g xs y)
  where
    by_first : (r : Option B) → find test (g x) ≡ r → option_or r (find test (flat_map g xs)) ≡ Some y → (find test (flat_map g xs) ≡ Some y → (x : A) × (find test (g x) ≡ Some y)) → (x : A) × (find test (g x) ≡ Some y)
    by_first None here is rest = rest is
    by_first (Some z) here is rest = (x, here ∙ is)

-- what is found at an object and line is a firing there
pub found_there : (test : Firing → Bool) (p : Protocol) (tree : Tree) (l o : ℕ) (f : Firing) → find test (firings_at p tree l o) ≡ Some f → (f.line.0 ≡ l) × (f.object.0 ≡ o)
found_there test p tree l o f is =
    let rule = flat_found test (firings_of_rule tree l o) (rules_of p tree o) f is in
    let me = mapped_found test (firing_of l o rule.0) (None ∷ map named (children_of tree o)) f rule.1 in
    (sym (ap (λ (f : Firing). f.line.0) me.1), sym (ap (λ (f : Firing). f.object.0) me.1))

-- the first ready firing of a position, where none is ready at those so far
pub first_here : (p : Protocol) (tree : Tree) (k : ℕ) (h : List Firing) (s : State) (from end at l o : ℕ) (f : Firing) → from ≤ at → at < end → NoneReady p tree k h s from at → IsThere tree s l o → l ≡ at / length tree → o ≡ at % length tree → ready_at p tree k h s l o ≡ Some f → IsFirst p tree k h s from end f
first_here p tree k h s from end at l o f past less none there line object ready =
    let found = found_there (is_ready p tree k h s) p tree l o f ready in
    let here : position tree f.line.0 f.object.0 ≡ at = position_at tree at f.line.0 f.object.0 (found.0 ∙ line) (found.1 ∙ object) in
    record {
      there = record { line = (let inside = there.line in let same = found.0 in omega arith); object = (let inside = there.object in let same = found.1 in omega arith) };
      past = omega arith;
      within = omega arith;
      ready = (λ i. ready_at p tree k h s (found.0 i) (found.1 i)) ∙ ready;
      before = subst (NoneReady p tree k h s from) (sym here) none;
    }

-- one position more at which none is ready
pub none_more : (p : Protocol) (tree : Tree) (k : ℕ) (h : List Firing) (s : State) (from at l o : ℕ) → NoneReady p tree k h s from at → l ≡ at / length tree → o ≡ at % length tree → ready_at p tree k h s l o ≡ None → NoneReady p tree k h s from (at + 1)
none_more p tree k h s from at l o before line object none =
    record {
      none = λ m q there past less.
          ⊎_elim
          (λ earlier. before.none m q there past earlier)
          (λ last.
          let here : position tree m q ≡ at = omega arith in
          let place = same_place tree m q there.object in
          let same_line : m ≡ l = sym place.0 ∙ ap (λ n. n / length tree) here ∙ sym line in
          let same_object : q ≡ o = sym place.1 ∙ ap (λ n. n % length tree) here ∙ sym object in
          (λ i. ready_at p tree k h s (same_line i) (same_object i)) ∙ none)
          (order (position tree m q) at);
    }

-- before the first position none is ready
pub none_yet : (p : Protocol) (tree : Tree) (k : ℕ) (h : List Firing) (s : State) (from : ℕ) → NoneReady p tree k h s from from
none_yet p tree k h s from = record { none = λ l o there past less. absurd (omega arith) }
