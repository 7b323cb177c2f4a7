-- A document has one first broken rule at most, and none where its tree and work are lawful.
use Rattle.std.proofs.Common.{◌≡◌, ◌∙◌, sym, ap, subst, arith, ℕ, ◌<◌, List, Option, Some, None, inl, inr}
use Rattle.std.specs.Prelude.{slice_get}
use Rattle.hem_tree.specs.declared.setup.SetupFault.{SetupFault as Fault}
use Rattle.hem_tree.specs.declared.setup.SetupCause.{SetupCause}
use Rattle.hem_tree.specs.declared.raw.RawNode.{RawNode}
use Rattle.hem_tree.specs.Tree.{Tree}
use Rattle.hem_tree.specs.Building.{IsTreeFault, IsFirstPassed, passed_at}
use Rattle.hem_tree.specs.Raw.{tree_of}
use Rattle.hem_document.specs.declared.documents.WorkDocument.{WorkDocument}
use Rattle.hem_document.specs.SetUp.{IsSetUp, IsSetupFault}

-- faults of one place and one cause are the same
fault_is : (f g : Fault) → f.place ≡ g.place → f.cause ≡ g.cause → f ≡ g
fault_is f g place cause =
    let one : f ≡ record { place = g.place; cause = f.cause } = ap (λ p. record { place = p; cause = f.cause }) place in
    one ∙ ap (λ c. record { place = g.place; cause = c }) cause

some_once : {A : Type 0} (o : Option A) (a b : A) → o ≡ Some a → o ≡ Some b → a ≡ b
some_once o a b one other = cc

some_or_none : {A : Type 0} (o : Option A) (a : A) → o ≡ Some a → o ≡ None → ⊥
some_or_none o a one other = cc

neither_before : (a b : ℕ) → (a < b → ⊥) → (b < a → ⊥) → a ≡ b
neither_before a b left right = omega arith

-- a tree has one object that is the first to pass a limit
passed_once : (tree : Tree) (j k : ℕ) (b c : SetupCause) → IsFirstPassed tree j b → IsFirstPassed tree k c → (j ≡ k) × (b ≡ c)
passed_once tree j k b c p q =
    let same = neither_before j k (λ lt. some_or_none (passed_at tree j) b p.here (q.before j lt)) (λ lt. some_or_none (passed_at tree k) c q.here (p.before k lt)) in
    (same, some_once (passed_at tree k) b c (subst (λ x. passed_at tree x ≡ Some b) same p.here) q.here)

-- nodes have one first fault
pub tree_fault_once : (nodes : List RawNode) (f g : Fault) → IsTreeFault nodes f → IsTreeFault nodes g → f ≡ g
tree_fault_once nodes f g p q =
    let same = passed_once (tree_of nodes) p.place q.place f.cause g.cause p.first q.first in
    let node = some_once (slice_get nodes q.place) p.node q.node (subst (λ x. slice_get nodes x ≡ Some p.node) same.0 p.there) q.there in
    fault_is f g (p.at_node ∙ (ap (λ (n : RawNode). n.place) node ∙ sym q.at_node)) same.1

-- a document has one first broken rule
pub setup_fault_once : (d : WorkDocument) (f g : Fault) → IsSetupFault d f → IsSetupFault d g → f ≡ g
setup_fault_once d f g (inl p) (inl q) = tree_fault_once d.tree f g p q
setup_fault_once d f g (inl p) (inr q) = absurd (p.unlawful q.tree)
setup_fault_once d f g (inr p) (inl q) = absurd (q.unlawful p.tree)
setup_fault_once d f g (inr p) (inr q) = some_once _ f g p.first q.first

-- none is broken where tree and work are lawful
pub lawful_excludes : (d : WorkDocument) (f : Fault) → IsSetUp d → IsSetupFault d f → ⊥
lawful_excludes d f lawful (inl p) = p.unlawful lawful.tree
lawful_excludes d f lawful (inr p) = some_or_none _ f p.first lawful.work
