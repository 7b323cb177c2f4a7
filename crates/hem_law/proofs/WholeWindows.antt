-- Whole windows of stable requests end ready.
use Rattle.std.proofs.Common.{◌≡◌, refl, ap, sym, ◌∙◌, subst, ℕ, true, List, [], ◌∷◌, ◌++◌, map, Option, Some, None}
use Rattle.std.specs.Prelude.{◌==◌, flat_map, option_to_list}
use Rattle.std.proofs.lemmas.List.{map-append}
use Rattle.std.proofs.lemmas.Bool.{eqb-true}
use Rattle.hem_base.specs.declared.ids.Kind.{Kind}
use Rattle.hem_syntax.specs.Protocol.{Protocol, rule_named}
use Rattle.hem_object.specs.Local.{Local}
use Rattle.hem_syntax.specs.Lawful.{IsProtocol}
use Rattle.hem_template.specs.Template.{template_of}
use Rattle.hem_tree.specs.Tree.{Tree, kind_of}
use Rattle.hem_system.specs.State.{State, local_at}
use Rattle.hem_system.specs.Events.{Event}
use Rattle.hem_trace.specs.Blocks.{Each}
use Rattle.hem_trace.specs.Order.{Entry}
use Rattle.hem_template.specs.Waiting.{is_upward_template}
use Rattle.hem_law.specs.Chains.{heads_seen, IsChain}
use Rattle.hem_law.specs.Printed.{event_of, on_line, entries_at, IsFresh, EntriesRun}
use Rattle.hem_law.specs.Windows.{Window, as_made, ArePlaced, IsWhole, EndsReady, AreWindows, HasWindows, HasWholeWindows}
use Rattle.hem_abstract.specs.Stable.{IsOfKind, IsStable}
use Rattle.hem_law.specs.Kinds.{AreOfKinds}
use Rattle.hem_law.proofs.ListFacts.{each-map, each-passes}
use Rattle.hem_law.proofs.OwnEffect.{own_effect-parts}
use Rattle.hem_law.proofs.Pending.{of-template}
use Rattle.hem_law.proofs.KindKept.{of-kind-next}
use Rattle.hem_law.proofs.WindowsReady.{stable-ready}
use Rattle.hem_law.proofs.Reordered.{entries-chain}

-- a chain of two parts
chain-split : (p : Protocol) (tree : Tree) (es fs : List Event) (a : Local) (c : Option Local) → IsChain p tree (Some a) (es ++ fs) c → (b : Local) × IsChain p tree (Some a) es (Some b) × IsChain p tree (Some b) fs c
chain-split p tree [] fs a c chain = (a, refl, chain)
chain-split p tree (e ∷ es) fs a c chain = let rest = chain-split p tree es fs chain.0 c chain.2 in (rest.0, (chain.0, chain.1, rest.1), rest.2)

-- the local states of a chain are of the kind
chain-kinds : (p : Protocol) (tree : Tree) (kind : Kind) (xs : List Entry) (a b : Local) → IsProtocol p → Each (λ x. kind_of tree x.event.firing.object.0 ≡ Some kind) xs → IsChain p tree (Some a) (map event_of xs) (Some b) → IsOfKind p kind a → IsOfKind p kind b
chain-kinds p tree kind [] a b lawful kinds chain of = let same : a ≡ b = cc in subst (IsOfKind p kind) same of
chain-kinds p tree kind (x ∷ xs) a b lawful kinds chain of = chain-kinds p tree kind xs chain.0 b lawful kinds.1 chain.2 (of-kind-next p tree kind a chain.0 x.event lawful kinds.0 chain.1 of)

-- one window
window-ready : (p : Protocol) (tree : Tree) (kind : Kind) (request : Option Entry) (others : List Entry) (a b : Local) → IsProtocol p → IsStable p → Each (λ x. kind_of tree x.event.firing.object.0 ≡ Some kind) (option_to_list request ++ others) → IsWhole p tree request others → IsOfKind p kind a → IsChain p tree (Some a) (map event_of (option_to_list request ++ others)) (Some b) → EndsReady p tree (Some a) request others b
window-ready p tree kind None others a b lawful stable kinds whole of chain = tt
window-ready p tree kind (Some u) others a b lawful stable kinds whole of chain =
    let step = chain.1 in
    let parts = own_effect-parts p tree u.event.firing step.now (heads_seen tree u.event) (record { after = chain.0; took = u.event.took; outs = u.event.outs }) step.fires in
    let kind_is : parts.kind ≡ kind = (let both : Some parts.kind ≡ Some kind = sym parts.there ∙ kinds.0 in cc) in
    let named : rule_named p kind u.event.firing.rule ≡ Some parts.rule = subst (λ k. rule_named p k u.event.firing.rule ≡ Some parts.rule) kind_is parts.named in
    let upward : is_upward_template (template_of p kind parts.rule) ≡ true = of-template p tree u.event.firing is_upward_template kind parts.rule kinds.0 named whole.0 in
    stable-ready p tree kind parts.rule a b u others lawful (stable.whole kind u.event.firing.rule parts.rule named upward) kinds.0 named whole.0 kinds.1 whole.1 of chain

-- windows one after another
windows-ready : (p : Protocol) (tree : Tree) (kind : Kind) (ws : List Window) (a : Local) (c : Option Local) → IsProtocol p → IsStable p → Each (λ x. kind_of tree x.event.firing.object.0 ≡ Some kind) (flat_map as_made ws) → Each (λ w. IsWhole p tree w.request w.others) ws → IsOfKind p kind a → IsChain p tree (Some a) (map event_of (flat_map as_made ws)) c → AreWindows p tree (Some a) ws c
windows-ready p tree kind [] a c lawful stable kinds whole of chain = chain
windows-ready p tree kind (w ∷ ws) a c lawful stable kinds whole of chain =
    let it = chain-split p tree (map event_of (as_made w)) (map event_of (flat_map as_made ws)) a c (subst (λ es. IsChain p tree (Some a) es c) (map-append event_of (as_made w) (flat_map as_made ws)) chain) in
    let mine = left (as_made w) (flat_map as_made ws) kinds in (
      it.0,
      it.1,
      window-ready p tree kind w.request w.others a it.0 lawful stable mine whole.0 of it.1,
      windows-ready p tree kind ws it.0 c lawful stable (right (as_made w) (flat_map as_made ws) kinds) whole.1 (chain-kinds p tree kind (as_made w) a it.0 lawful mine it.1 of) it.2,
    )
  where
    P : Entry → Type 0
    P x = kind_of tree x.event.firing.object.0 ≡ Some kind

    left : (xs ys : List Entry) → Each P (xs ++ ys) → Each P xs
    left [] ys all = tt
    left (x ∷ xs) ys all = (all.0, left xs ys all.1)

    right : (xs ys : List Entry) → Each P (xs ++ ys) → Each P ys
    right [] ys all = all
    right (x ∷ xs) ys all = right xs ys all.1

-- the kind of an object that fires
kind-there : (p : Protocol) (tree : Tree) (o : ℕ) (start : Option Local) (x : Entry) (xs : List Entry) (c : Option Local) → x.event.firing.object.0 ≡ o → IsChain p tree start (map event_of (x ∷ xs)) c → (kind : Kind) × (kind_of tree o ≡ Some kind)
kind-there p tree o start x xs c same chain =
    let step = chain.1 in
    let parts = own_effect-parts p tree x.event.firing step.now (heads_seen tree x.event) (record { after = chain.0; took = x.event.took; outs = x.event.outs }) step.fires in
    (parts.kind, ap (kind_of tree) (sym same) ∙ parts.there)

-- the windows of one object; where nothing happens there are none
object-windows : (p : Protocol) (tree : Tree) (es own : List Entry) (o : ℕ) (start end : Option Local) (ws : List Window) → IsProtocol p → IsStable p → ((local : Local) (kind : Kind) → start ≡ Some local → kind_of tree o ≡ Some kind → IsOfKind p kind local) → Each (λ x. x.event.firing.object.0 ≡ o) own → own ≡ flat_map as_made ws → ArePlaced es ws → Each (λ w. IsWhole p tree w.request w.others) ws → IsChain p tree start (map event_of own) end → (ws : List Window) × (own ≡ flat_map as_made ws) × ArePlaced es ws × AreWindows p tree start ws end
object-windows p tree es [] o start end ws lawful stable kinds objects made placed whole chain = ([], refl, tt, chain)
object-windows p tree es (x ∷ xs) o start end ws lawful stable kinds objects made placed whole chain =
    let kind = kind-there p tree o start x xs end objects.0 chain in
    let at = chain.1.here in
    let of = kinds chain.1.now kind.0 at kind.1 in
    let all = each-map (λ x. x.event.firing.object.0 ≡ o) (λ x. kind_of tree x.event.firing.object.0 ≡ Some kind.0) (x ∷ xs) (λ x is. ap (kind_of tree) is ∙ kind.1) objects in
    let ready = windows-ready p tree kind.0 ws chain.1.now end lawful stable
    (subst (Each (λ x. kind_of tree x.event.firing.object.0 ≡ Some kind.0)) made all) whole of
    (subst (λ ys. IsChain p tree (Some chain.1.now) (map event_of ys) end) made (subst (λ l. IsChain p tree l (map event_of (x ∷ xs)) end) at chain)) in
    (ws, made, placed, subst (λ l. AreWindows p tree l ws end) (sym at) ready)

-- whole windows of a stable protocol are windows of which each ends ready
pub whole-windows : (p : Protocol) (tree : Tree) (s : State) (es : List Entry) (new : State) → IsProtocol p → IsStable p → IsFresh tree s → AreOfKinds p tree s → EntriesRun p tree s es new → HasWholeWindows p tree es → HasWindows p tree s es new
whole-windows p tree s es new lawful stable fresh kinds entries has =
    record {
      windows = λ l o line end at to.
          let it = has.windows l o in
          object-windows p tree es (entries_at l o es) o (local_at line o) (local_at end o) it.0 lawful stable (λ local kind here there. kinds.locals l o line local kind at here there)
          (each-map (λ x. (x.event.firing.object.0 == o) ≡ true) (λ x. x.event.firing.object.0 ≡ o) (entries_at l o es) (λ x is. eqb-true x.event.firing.object.0 o is) (each-passes (λ x. x.event.firing.object.0 == o) (on_line l es)))
          it.1 it.2 it.3 (entries-chain p tree s es new fresh entries l o line end at to);
    }
