-- The child and the rule that a firing names.
use Rattle.std.proofs.Common.{◌≡◌, refl, ap, sym, ◌∙◌, subst, ℕ, zero, suc, ◌<◌, Bool, true, false, not, cond, List, [], ◌∷◌, map, length, Option, Some, None, get_or}
use Rattle.std.specs.Prelude.{◌==◌, ◌||◌, slice_get, find, option_map, is_none}
use Rattle.std.specs.List.{list_any}
use Rattle.std.specs.Option.{option_map_or}
use Rattle.std.proofs.lemmas.Bool.{eq-eqb, eqb-true}
use Rattle.std.proofs.lemmas.Option.{slice_get-map, slice_get-get_or}
use Rattle.hem_base.specs.declared.ids.Kind.{Kind}
use Rattle.hem_base.specs.declared.ids.Kind.TheVariants.{Root, Mid, Leaf}
use Rattle.hem_base.specs.declared.ids.ObjectId.{ObjectId}
use Rattle.hem_syntax.specs.declared.rule.Rule.{Rule}
use Rattle.hem_syntax.specs.Protocol.{Protocol, part, rule_named}
use Rattle.hem_syntax.specs.Lawful.{IsProtocol, named_once}
use Rattle.hem_tree.specs.Tree.{Tree, is_child, children_of, place_among}
use Rattle.hem_system.specs.State.{is_own_child, place_of_me}
use Rattle.hem_system.proofs.Kids.{child_at, at_child}
use Rattle.hem_rows.proofs.Choices.{both, not-true}
use Rattle.hem_ends.specs.Ends.{is_place}
use Rattle.hem_turns.specs.OnLine.{named_by}

-- two tests that hold together are the same
pub same-test : (a b : Bool) → (a ≡ true → b ≡ true) → (b ≡ true → a ≡ true) → a ≡ b
same-test true true one two = refl
same-test false false one two = refl
same-test true false one two = let clash : false ≡ true = one refl in cc
same-test false true one two = let clash : false ≡ true = two refl in cc

-- the child at a place is the named one
pub record IsNamed (tree : Tree) (o : ℕ) (me : Option ℕ) (named : Option ObjectId) : Type 0 where
  pub own : is_own_child tree o named ≡ true
  pub place : place_of_me tree o named ≡ me
  pub none : is_none named ≡ is_none me
  pub at : (k : ℕ) → is_child tree k o ≡ true → option_map_or (λ (child : ObjectId). child.0 == k) named false ≡ is_place me (place_among tree o k)

-- a child of the object, at its place
pub named-child : (tree : Tree) (o : ℕ) (child : ObjectId) → is_child tree child.0 o ≡ true → IsNamed tree o (Some (place_among tree o child.0)) (Some child)
named-child tree o child is =
    record {
      own = is;
      place = refl;
      none = refl;
      at = λ k own. same-test (child.0 == k) (place_among tree o child.0 == place_among tree o k)
          (λ same. eq-eqb (place_among tree o child.0) (place_among tree o k) (ap (place_among tree o) (eqb-true child.0 k same)))
          (λ same. eq-eqb child.0 k (let one : Some child.0 ≡ Some k = sym (child_at tree o child.0 is) ∙ ap (slice_get (children_of tree o)) (eqb-true (place_among tree o child.0) (place_among tree o k) same) ∙ child_at tree o k own in cc));
    }

pub is-named : (tree : Tree) (o : ℕ) (children : List ObjectId) (me : Option ℕ) → map (λ (id : ObjectId). id.0) children ≡ children_of tree o → ((k : ℕ) → me ≡ Some k → k < length children) → IsNamed tree o me (named_by children me)
is-named tree o children None are within = record { own = refl; place = refl; none = refl; at = λ k is. refl }
is-named tree o children (Some i) are within =
    let child : ObjectId = get_or children i (record { 0 = 0 }) in
    let at : slice_get children i ≡ Some child = slice_get-get_or children i (record { 0 = 0 }) (within i refl) in
    let there : slice_get (children_of tree o) i ≡ Some child.0 = ap (λ ks. slice_get ks i) (sym are) ∙ slice_get-map (λ (id : ObjectId). id.0) children i ∙ ap (option_map (λ (id : ObjectId). id.0)) at in
    subst (IsNamed tree o (Some i)) (sym at) (by_child child there)
  where
    by_child : (child : ObjectId) → slice_get (children_of tree o) i ≡ Some child.0 → IsNamed tree o (Some i) (Some child)
    by_child child there =
        let is = at_child tree o i child.0 there in
        subst (λ place. IsNamed tree o (Some place) (Some child)) is.1 (named-child tree o child is.0)

-- a rule of a list without two of one name is found by its name
named-itself : (rules : List Rule) (i : ℕ) (rule : Rule) → named_once rules ≡ true → slice_get rules i ≡ Some rule → find (λ r. r.name.0 == rule.name.0) rules ≡ Some rule
named-itself [] i rule once at = cc
named-itself (r ∷ rs) zero rule once at =
    let same : r ≡ rule = cc in
    subst (λ (x : Rule). find (λ y. y.name.0 == x.name.0) (r ∷ rs) ≡ Some x) same (ap (λ b. cond b (Some r) (find (λ (y : Rule). y.name.0 == r.name.0) rs)) (self r.name.0))
  where
    self : (n : ℕ) → (n == n) ≡ true
    self n = eq-eqb n n refl
named-itself (r ∷ rs) (suc i) rule once at =
    let parts = both (not (list_any (λ other. r.name.0 == other.name.0) rs)) (named_once rs) once in
    ap (λ b. cond b (Some r) (find (λ (y : Rule). y.name.0 == rule.name.0) rs)) (apart rs i (not-true _ parts.0) at) ∙ named-itself rs i rule parts.1 at
  where
    neither : (a b : Bool) → (a || b) ≡ false → (a ≡ false) × (b ≡ false)
    neither false b is = (refl, is)
    neither true b is = cc

    apart : (rs : List Rule) (i : ℕ) → list_any (λ (other : Rule). r.name.0 == other.name.0) rs ≡ false → slice_get rs i ≡ Some rule → (r.name.0 == rule.name.0) ≡ false
    apart [] i none at = cc
    apart (x ∷ xs) zero none at = let same : x ≡ rule = cc in ap (λ (y : Rule). r.name.0 == y.name.0) (sym same) ∙ (neither _ _ none).0
    apart (x ∷ xs) (suc i) none at = apart xs i (neither _ _ none).1 at

rules-once : (p : Protocol) (kind : Kind) → IsProtocol p → named_once (part p kind).rules ≡ true
rules-once p Root lawful = lawful.root.rules_once
rules-once p Mid lawful = lawful.mid.rules_once
rules-once p Leaf lawful = lawful.leaf.rules_once

-- so is a rule of a kind
pub rule-found : (p : Protocol) (kind : Kind) (i : ℕ) (rule : Rule) → IsProtocol p → slice_get (part p kind).rules i ≡ Some rule → rule_named p kind rule.name ≡ Some rule
rule-found p kind i rule lawful at = named-itself (part p kind).rules i rule (rules-once p kind lawful) at
