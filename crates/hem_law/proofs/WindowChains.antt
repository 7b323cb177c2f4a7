-- Windows with their requests behind are a chain from the same local state to the same.
use Rattle.std.proofs.Common.{◌≡◌, refl, sym, subst, true, List, [], ◌∷◌, ◌++◌, map, Option, Some, None}
use Rattle.std.specs.Prelude.{flat_map, option_to_list}
use Rattle.std.proofs.lemmas.List.{map-append, append-nil}
use Rattle.hem_syntax.specs.Protocol.{Protocol}
use Rattle.hem_object.specs.Local.{Local}
use Rattle.hem_tree.specs.Tree.{Tree}
use Rattle.hem_system.specs.Events.{Event}
use Rattle.hem_trace.specs.Order.{Entry}
use Rattle.hem_law.specs.Chains.{IsChain}
use Rattle.hem_law.specs.Printed.{event_of}
use Rattle.hem_trace.specs.Templates.{is_downward}
use Rattle.hem_law.specs.Windows.{Window, as_moved, EndsReady, AreWindows}
use Rattle.hem_law.proofs.TakenChannels.{each-mapped}
use Rattle.hem_law.proofs.Pending.{waits-behind}

-- a chain goes on
pub chain-append : (p : Protocol) (tree : Tree) (es fs : List Event) (a b c : Option Local) → IsChain p tree a es b → IsChain p tree b fs c → IsChain p tree a (es ++ fs) c
chain-append p tree [] fs a b c one two = subst (λ l. IsChain p tree l fs c) (sym one) two
chain-append p tree (e ∷ es) fs a b c one two = (one.0, one.1, chain-append p tree es fs (Some one.0) b c one.2 two)

-- one window
window-chain : (p : Protocol) (tree : Tree) (before : Option Local) (after : Local) (request : Option Entry) (others : List Entry) → IsChain p tree before (map event_of (option_to_list request ++ others)) (Some after) → EndsReady p tree before request others after → IsChain p tree before (map event_of (others ++ option_to_list request)) (Some after)
window-chain p tree before after None others chain ready = subst (λ xs. IsChain p tree before (map event_of xs) (Some after)) (sym (append-nil others)) chain
window-chain p tree before after (Some u) others chain ready =
    let start = chain.1 in
    let moved = waits-behind p tree start.now after u.event (map event_of others) (chain.0, record { now = start.now; here = refl; fires = start.fires }, chain.2) ready.0 (each-mapped (λ e. is_downward p tree e.firing ≡ true) event_of others ready.1) ready.2 (ready.3 start.now start.here) in
    subst (λ es. IsChain p tree before es (Some after)) (sym (map-append event_of others (u ∷ []))) (subst (λ l. IsChain p tree l (map event_of others ++ u.event ∷ []) (Some after)) (sym start.here) moved)

-- all of them
pub windows-chain : (p : Protocol) (tree : Tree) (ws : List Window) (before after : Option Local) → AreWindows p tree before ws after → IsChain p tree before (map event_of (flat_map as_moved ws)) after
windows-chain p tree [] before after are = are
windows-chain p tree (w ∷ ws) before after are =
    subst (λ es. IsChain p tree before es after) (sym (map-append event_of (as_moved w) (flat_map as_moved ws)))
    (chain-append p tree (map event_of (as_moved w)) (map event_of (flat_map as_moved ws)) before (Some are.0) after (window-chain p tree before are.0 w.request w.others are.1 are.2) (windows-chain p tree ws (Some are.0) after are.3))
