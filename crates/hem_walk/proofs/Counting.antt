-- The self firings that are counted at each position.
use Rattle.std.proofs.Common.{◌≡◌, refl, sym, ap, ◌∙◌, ℕ, ◌+◌, arith, Bool, true, false, ◌&&◌, cond, List, [], ◌∷◌, ◌++◌, Option, Some, None}
use Rattle.std.specs.Prelude.{◌==◌, count_by, option_and_then}
use Rattle.std.specs.Option.{option_map_or}
use Rattle.std.proofs.lemmas.List.Sums.{sum_by-append}
use Rattle.hem_base.specs.declared.ids.Firing.{Firing}
use Rattle.hem_base.specs.declared.ids.Kind.{Kind}
use Rattle.hem_syntax.specs.declared.rule.Rule.{Rule}
use Rattle.hem_syntax.specs.declared.rule.Take.{Take}
use Rattle.hem_syntax.specs.declared.rule.Take.TheVariants as take
use Rattle.hem_syntax.specs.Protocol.{Protocol, rule_named}
use Rattle.hem_tree.specs.Tree.{Tree, kind_of}
use Rattle.hem_system.specs.Ended.{takes_nothing, is_self, is_at, self_firings, Within}
use Rattle.hem_bound.specs.Starts as bound
use Rattle.hem_bound.proofs.States.{count_more}

-- the two ways of saying that a take is of nothing
take_same : (t : Take) → bound.takes_nothing t ≡ takes_nothing t
take_same (take.Me id) = refl
take_same (take.Parent id) = refl
take_same (take.Kids id) = refl
take_same take.Nothing = refl

-- and that a firing is of a self rule
self_same : (p : Protocol) (tree : Tree) (f : Firing) → bound.is_self p tree f ≡ is_self p tree f
self_same p tree f = by_kind (kind_of tree f.object.0)
  where
    by_kind : (kind : Option Kind) → option_map_or (λ (rule : Rule). bound.takes_nothing rule.take) (option_and_then (λ kind. rule_named p kind f.rule) kind) false ≡ option_map_or (λ kind. option_map_or (λ (rule : Rule). takes_nothing rule.take) (rule_named p kind f.rule) false) kind false
    by_kind None = refl
    by_kind (Some kind) = λ i. option_map_or (λ (rule : Rule). take_same rule.take i) (rule_named p kind f.rule) false

-- three tests in another order
turned : (line object self : Bool) → ((line && object) && self) ≡ ((self && line) && object)
turned true true true = refl
turned true true false = refl
turned true false true = refl
turned true false false = refl
turned false true true = refl
turned false true false = refl
turned false false true = refl
turned false false false = refl

-- so the two counts are one
pub counts_same : (p : Protocol) (tree : Tree) (h : List Firing) (l o : ℕ) → self_firings p tree h l o ≡ count_by (bound.is_self_at p tree l o) h
counts_same p tree h l o =
    let same : (f : Firing) → (is_at l o f && is_self p tree f) ≡ bound.is_self_at p tree l o f = λ f. turned (f.line.0 == l) (f.object.0 == o) (is_self p tree f) ∙ ap (λ b. (b && f.line.0 == l) && f.object.0 == o) (sym (self_same p tree f)) in
    λ i. count_by (λ f. same f i) h

pub self_is : (p : Protocol) (tree : Tree) (f : Firing) → bound.is_self p tree f ≡ true → is_self p tree f ≡ true
self_is p tree f is = sym (self_same p tree f) ∙ is

-- a history within k
pub within_is : (p : Protocol) (tree : Tree) (h : List Firing) (k : ℕ) → bound.IsWithin p tree k h → Within p tree h k
within_is p tree h k within l o = let same = counts_same p tree h l o in let few = within.few l o in omega arith

-- with one firing more
pub counted_more : (p : Protocol) (tree : Tree) (h : List Firing) (f : Firing) (l o : ℕ) → self_firings p tree (h ++ f ∷ []) l o ≡ self_firings p tree h l o + cond (is_at l o f && is_self p tree f) 1 0
counted_more p tree h f l o =
    let test = λ (g : Firing). is_at l o g && is_self p tree g in
    let split = sum_by-append (λ (g : Firing). cond (test g) 1 0) h (f ∷ []) in
    let last = count_more test f [] in
    omega (arith, split, last)

-- at its own position a self firing counts, and no other
pub counted_here : (p : Protocol) (tree : Tree) (h : List Firing) (f : Firing) → is_self p tree f ≡ true → self_firings p tree (h ++ f ∷ []) f.line.0 f.object.0 ≡ self_firings p tree h f.line.0 f.object.0 + 1
counted_here p tree h f self =
    let here : (is_at f.line.0 f.object.0 f && is_self p tree f) ≡ true = grind (arith, self) in
    counted_more p tree h f f.line.0 f.object.0 ∙ ap (λ b. self_firings p tree h f.line.0 f.object.0 + cond b 1 0) here

pub counted_elsewhere : (p : Protocol) (tree : Tree) (h : List Firing) (f : Firing) (l o : ℕ) → is_at l o f ≡ false → self_firings p tree (h ++ f ∷ []) l o ≡ self_firings p tree h l o
counted_elsewhere p tree h f l o apart =
    let more = counted_more p tree h f l o in
    let none = ap {B = ℕ} (λ b. cond (b && is_self p tree f) 1 0) apart in
    omega (arith, more, none)

pub counted_other : (p : Protocol) (tree : Tree) (h : List Firing) (f : Firing) (l o : ℕ) → is_self p tree f ≡ false → self_firings p tree (h ++ f ∷ []) l o ≡ self_firings p tree h l o
counted_other p tree h f l o other =
    let more = counted_more p tree h f l o in
    let none = ap {B = ℕ} (λ b. cond b 1 0) (never (is_at l o f) (is_self p tree f) other) in
    omega (arith, more, none)
  where
    never : (a b : Bool) → b ≡ false → (a && b) ≡ false
    never true b is = is
    never false b is = refl
