-- From its anchor on the objects that wait for a transaction are quiet.
use Rattle.std.proofs.Common.{◌≡◌, ◌≢◌, ℕ, zero, suc, ◌+◌, ◌≤◌, Bool, true, List, length, refl, sym, ap, ◌∙◌, subst, arith, Option, Some, None, ⊎_elim, inl, inr, ◌⊎◌}
use Rattle.std.specs.Prelude.{option_and_then}
use Rattle.hem_base.specs.declared.ids.Kind.{Kind}
use Rattle.hem_base.specs.declared.ids.Firing.{Firing}
use Rattle.hem_syntax.specs.declared.rule.Rule.{Rule}
use Rattle.hem_template.specs.declared.template_name.TemplateName.{TemplateName}
use Rattle.hem_object.specs.declared.state.Lock.{Lock}
use Rattle.hem_syntax.specs.Protocol.{Protocol}
use Rattle.hem_object.specs.Local.{Local}
use Rattle.hem_tree.specs.Tree.{Tree, parent_of, place_among, IsTree}
use Rattle.hem_tree.proofs.Early.{lawful_early}
use Rattle.hem_tree.proofs.Lawful.{number_is}
use Rattle.hem_fire.specs.declared.outs.Outs.{Outs}
use Rattle.hem_system.specs.declared.lane.Lane.TheVariants.{UpRequests, Down}
use Rattle.hem_system.specs.State.{Line, list_at, reaches}
use Rattle.hem_rows.specs.Acts.{is_down_request, is_down_response}
use Rattle.hem_locks.specs.Edges.{count, for_kid, awaits, held, LocksHold}
use Rattle.hem_shape.specs.Subtree.{InSubtree, steps_up}
use Rattle.hem_shape.specs.Progress.{Asker, child, processor, parent, itself, Progress}
use Rattle.hem_shape.specs.Move.{Taking, request, parent_answer, child_answers, Giving, answer, ask_up, ask_down, taken, recorded, given, progress_after, CanTake, template_name}
use Rattle.hem_shape.specs.Phases.{Made, HasPhases}
use Rattle.hem_shape.proofs.Subtrees.{below_step, not_in_child, child_in_child}
use Rattle.hem_shape.proofs.Spots.{same_or_other, set_cases, true_false}
use Rattle.hem_shape.proofs.Ready.{down_not_up, some_none, up_fired}
use Rattle.hem_shape.proofs.Phases.{asks_after}
use Rattle.hem_numbered.specs.Numbers.{Numbers, carries, held_for, uplock_at, downlock_at, progress_of, AreNumbers}
use Rattle.hem_numbered.specs.Quiet.{HasTurned, QuietAt, IsQuiet}
use Rattle.hem_system.proofs.Takers.{parent_is}
use Rattle.hem_numbered.proofs.Kept.{numbered_head}
use Rattle.hem_numbered.proofs.Carried.{carries_first}
use Rattle.hem_numbered.proofs.EdgeFacts.{EdgeAt, edge_at, response_first, counted_child}
use Rattle.hem_numbered.proofs.Held.{held_parts, held_number, held_is}
use Rattle.hem_numbered.proofs.Moves.{move_of, answer_up, request_up}
use Rattle.hem_numbered.proofs.Needs.{request_needs}
use Rattle.hem_numbered.proofs.QuietWaits.{Fired, quiet_own, asked_target, asks_free, stays_quiet, ask_number, high_number}

-- an uplock that is held after a firing that takes none was held before, and the firing didn't free it
up_was : (tree : Tree) (o : ℕ) (asker : Asker) (takes : Taking) (gives : Giving) (t : TemplateName) (at : Progress) (k : ℕ) (a : Asker) → gives ≢ ask_up → (given o asker gives (recorded o t (taken tree o asker takes at))).up k ≡ Some a → (at.up k ≡ Some a) × (k ≡ o → takes ≢ parent_answer)
up_was tree o asker request answer t at k a other waits = (sym (answer_up o asker (recorded o t (taken tree o asker request at)) k ∙ request_up tree o asker at k) ∙ waits, λ same is. let bad : request ≡ parent_answer = is in cc)
up_was tree o asker request (ask_down targets) t at k a other waits = (sym (request_up tree o asker at k) ∙ waits, λ same is. let bad : request ≡ parent_answer = is in cc)
up_was tree o asker parent_answer answer t at k a other waits =
    let locks = sym (answer_up o asker (recorded o t (taken tree o asker parent_answer at)) k) ∙ waits in
    ⊎_elim (λ freed. absurd (let bad : None ≡ Some a = freed.1 in cc)) (λ kept. (kept.1, λ same. absurd (kept.0 same))) (set_cases o None at.up k (Some a) locks)
up_was tree o asker parent_answer (ask_down targets) t at k a other waits =
    ⊎_elim (λ freed. absurd (let bad : None ≡ Some a = freed.1 in cc)) (λ kept. (kept.1, λ same. absurd (kept.0 same))) (set_cases o None at.up k (Some a) waits)
up_was tree o asker child_answers answer t at k a other waits = (sym (answer_up o asker (recorded o t (taken tree o asker child_answers at)) k) ∙ waits, λ same is. let bad : child_answers ≡ parent_answer = is in cc)
up_was tree o asker child_answers (ask_down targets) t at k a other waits = (waits, λ same is. let bad : child_answers ≡ parent_answer = is in cc)
up_was tree o asker takes ask_up t at k a other waits = absurd (other refl)

-- what holds one thing of four holds it somewhere
four : (a b c d : ℕ) → a + b + c + d ≡ 1 → (1 ≤ b) ⊎ ((1 ≤ a) ⊎ ((1 ≤ c) ⊎ (1 ≤ d)))
four a b c d sum =
    ⊎_elim (λ none_b. ⊎_elim (λ none_a. ⊎_elim (λ none_c. inr (inr (inr (omega (arith, sum, none_a, none_b, none_c))))) (λ some. inr (inr (inl some))) (split c)) (λ some. inr (inl some)) (split a)) (λ some. inl some) (split b)
  where
    split : (n : ℕ) → (n ≡ 0) ⊎ (1 ≤ n)
    split zero = inl refl
    split (suc n) = inr (omega arith)

-- an object that waits has its uplock held
held_one : (tree : Tree) (line : Line) (o x n : ℕ) (a : Asker) → held_for tree o x n (uplock_at line o) ≡ Some a → held (uplock_at line o) ≡ 1
held_one tree line o x n a waits = ap held (held_parts tree o x n (uplock_at line o) a waits).1

-- another object that waits for a transaction that has turned stays quiet
quiet_elsewhere : (p : Protocol) (tree : Tree) (f : Firing) (t : TemplateName) (kind : Kind) (rule : Rule) (before after : Local) (outs : Outs) (old new : Line) (numbers : Numbers) (is_new first : ℕ → Bool) (n x k : ℕ) (a : Asker) → Fired p tree f t kind rule before after outs old new numbers is_new first n → IsQuiet p tree old numbers x → HasTurned (progress_of p tree old numbers x) → (progress_of p tree old numbers x).up k ≡ Some a → k ≢ f.object.0 → QuietAt p new k
quiet_elsewhere p tree f t kind rule before after outs old new numbers is_new first n x k a it quiet turned waits other =
    stays_quiet p tree f outs before after old new k it.firing.leads other (quiet turned k a waits) (λ reach is. behind reach is)
  where
    answer_asker : (takes : Taking) (asker : Asker) → takes ≡ parent_answer → CanTake tree f.object.0 asker takes (progress_of p tree old numbers n) → (progress_of p tree old numbers n).up f.object.0 ≡ Some (child k) → asker ≡ child k
    answer_asker parent_answer asker is can high = let both : Some asker ≡ Some (child k) = sym can.up ∙ high in cc
    answer_asker request asker is can high = absurd (let bad : request ≡ parent_answer = is in cc)
    answer_asker child_answers asker is can high = absurd (let bad : child_answers ≡ parent_answer = is in cc)

    behind : reaches tree f outs.to k Down ≡ true → is_down_request p outs.message ≡ true → 1 ≤ count (is_down_response p) (list_at old k Down)
    behind reach is =
        let o = f.object.0 in
        let target = asked_target p tree f outs it.move.asker it.move.gives k it.move.giving it.move.can_give reach is in
        let edge = edge_at p tree old it.firing.lawful it.locks k o target.0 in
        let free = asks_free p tree f outs it.move.asker it.move.takes it.move.gives k before.down after.down it.move.giving it.move.down reach is in
        let down : downlock_at old o ≡ None = ap (λ l. option_and_then (λ (l : Local). l.down) l) it.firing.leads.here ∙ free in
        let sum = edge.uplock ∙ held_one tree old k x (numbers.up k) a waits in
        ⊎_elim (λ some. some)
        (λ rest. absurd (⊎_elim
        (λ some. true_false (ask_number p tree old numbers is_new k x a it.known waits some) (turned.no_asks k))
        (λ rest. ⊎_elim
        (λ some.
        let high = high_number p tree old numbers is_new k o x a it.known target.0 waits some in
        let own = quiet_own p tree f t kind rule before after outs old new numbers is_new first n x (child k) it high (quiet turned o (child k) high) in
        target.1 (answer_asker it.move.takes it.move.asker own.0 it.move.taking.can (subst (λ x. (progress_of p tree old numbers x).up o ≡ Some (child k)) own.1 high)))
        (λ some. let none = ap (for_kid (place_among tree o k)) down in omega (arith, some, none))
        rest) rest))
        (four (length (list_at old k UpRequests)) (count (is_down_response p) (list_at old k Down)) (for_kid (place_among tree o k) (uplock_at old o)) (for_kid (place_among tree o k) (downlock_at old o)) sum)

-- at the anchor the way down to what waits is clean
record IsClean (p : Protocol) (line : Line) (o : ℕ) : Type 0 where
  down : downlock_at line o ≡ None
  no_request : count (is_down_request p) (list_at line o Down) ≡ 0

-- below a free downlock it is clean
clean_below : (p : Protocol) (tree : Tree) (line : Line) (k o x n : ℕ) (a : Asker) → EdgeAt p tree line k o → downlock_at line o ≡ None → held_for tree k x n (uplock_at line k) ≡ Some a → IsClean p line k
clean_below p tree line k o x n a edge free waits =
    let none = edge.downlock ∙ ap (awaits (place_among tree o k)) free in
    let one = held_one tree line k x n a waits in
    let single = edge.single in
    record { down = no_lock (downlock_at line k) (omega (arith, none, one, single)); no_request = omega (arith, none) }
  where
    no_lock : (lock : Option Lock) → held lock ≡ 0 → lock ≡ None
    no_lock None is = refl
    no_lock (Some l) is = absurd (omega (arith, is))

-- down from the child that asks, through all that waits
clean_way : (p : Protocol) (tree : Tree) (line : Line) (numbers : Numbers) (is_new : ℕ → Bool) (x c o : ℕ) → IsTree tree → LocksHold p tree line → AreNumbers p tree line numbers is_new → parent_of tree c ≡ Some o → (progress_of p tree line numbers x).asks_up c ≡ true → downlock_at line o ≡ None → (steps k : ℕ) (a : Asker) → steps_up tree steps k ≡ Some c → (progress_of p tree line numbers x).up k ≡ Some a → IsClean p line k
clean_way p tree line numbers is_new x c o lawful locks known above asks free zero k a arrives waits =
    let same : k ≡ c = (let there : Some k ≡ Some c = arrives in cc) in
    clean_below p tree line k o x (numbers.up k) a (edge_at p tree line lawful locks k o (number_is (parent_of tree k) o (ap (parent_of tree) same ∙ above))) free waits
clean_way p tree line numbers is_new x c o lawful locks known above asks free (suc steps) k a arrives waits =
    let step = below_step tree steps k c arrives in
    let q = step.0 in
    let own = number_is (parent_of tree k) q step.1 in
    let edge = edge_at p tree line lawful locks k q own in
    let sum = edge.uplock ∙ held_one tree line k x (numbers.up k) a waits in
    let way = (known.shapes x).rising c asks in
    let high : (progress_of p tree line numbers x).up q ≡ Some (child k) =
    ⊎_elim
    (λ some. absurd (
    let first = response_first p (list_at line k Down) edge.order some in
    let y = numbered_head (list_at line k Down) (numbers.lists k Down) first.0 (known.lists k Down (λ bad. cc)) first.1 in
    let there = carries_first (is_down_response p) y.0 (list_at line k Down) (numbers.lists k Down) first.0 first.1 y.1 first.2 in
    let holds = (known.shapes y.0).below.answers_down k there in
    let same : y.0 ≡ x = sym (held_number tree k y.0 (numbers.up k) (uplock_at line k) holds.asker holds.held) ∙ held_number tree k x (numbers.up k) (uplock_at line k) a waits in
    true_false (subst (λ z. carries (is_down_response p) z (list_at line k Down) (numbers.lists k Down) ≡ true) same there) (way.no_answers_down k)))
    (λ rest. ⊎_elim
    (λ some. absurd (
    let same = way.only k (ask_number p tree line numbers is_new k x a known waits some) in
    not_in_child tree (lawful_early tree lawful) c q (ap (parent_of tree) (sym same) ∙ step.1) (record { steps = steps; arrives = step.2 })))
    (λ rest. ⊎_elim
    (λ some. high_number p tree line numbers is_new k q x a known own waits some)
    (λ some. absurd (
    let lock = counted_child tree q k (downlock_at line q) own some in
    let y = numbers.down q in
    let there : (progress_of p tree line numbers y).down q ≡ Some (child k) = held_is tree q y (numbers.down q) (downlock_at line q) lock.0 lock.1 refl ∙ ap Some lock.2 in
    let holds = (known.shapes y).below.down q k there in
    let same : y ≡ x = sym (held_number tree k y (numbers.up k) (uplock_at line k) holds.asker holds.held) ∙ held_number tree k x (numbers.up k) (uplock_at line k) a waits in
    let here : (progress_of p tree line numbers x).down q ≡ Some (child k) = subst (λ z. held_for tree q z (numbers.down q) (downlock_at line q) ≡ Some (child k)) same there in
    down_not_up (child k) ((progress_of p tree line numbers x).fired q) ((known.shapes x).asked q (child k) here) (way.upward q)))
    rest) rest)
    (four (length (list_at line k UpRequests)) (count (is_down_response p) (list_at line k Down)) (for_kid (place_among tree q k) (uplock_at line q)) (for_kid (place_among tree q k) (downlock_at line q)) sum) in
    let clean = clean_way p tree line numbers is_new x c o lawful locks known above asks free steps q (child k) step.2 high in
    clean_below p tree line k q x (numbers.up k) a edge clean.down waits

-- at its anchor all that waits for the transaction is quiet
quiet_at_anchor : (p : Protocol) (tree : Tree) (f : Firing) (t : TemplateName) (kind : Kind) (rule : Rule) (before after : Local) (outs : Outs) (old new : Line) (numbers : Numbers) (is_new first : ℕ → Bool) (n low k : ℕ) (a : Asker) → Fired p tree f t kind rule before after outs old new numbers is_new first n → (progress_of p tree old numbers n).asks_up low ≡ true → (progress_of p tree old numbers n).up k ≡ Some a → QuietAt p new k
quiet_at_anchor p tree f t kind rule before after outs old new numbers is_new first n low k a it asks waits = by_takes it.move.takes it.move.asker refl refl it.move.taking.can
  where
    by_takes : (takes : Taking) (asker : Asker) → it.move.takes ≡ takes → it.move.asker ≡ asker → CanTake tree f.object.0 asker takes (progress_of p tree old numbers n) → QuietAt p new k
    by_takes request (child c) is_takes is_asker can =
        let o = f.object.0 in
        let early = lawful_early tree it.firing.lawful in
        let way = (it.known.shapes n).rising c can.there in
        let above = parent_is tree c o can.own in
        let within = way.within k (up_fired a ((progress_of p tree old numbers n).fired k) ((it.known.shapes n).waits k a waits).asked) in
        let needs = request_needs p tree f t kind rule before after outs old new it.move.asker it.move.gives it.firing (ap (λ takes. template_name takes it.move.asker it.move.gives) (sym is_takes) ∙ it.move.named) in
        let free : downlock_at old o ≡ None = ap (λ l. option_and_then (λ (l : Local). l.down) l) it.firing.leads.here ∙ needs.down in
        let clean = clean_way p tree old numbers is_new n c o it.firing.lawful it.locks it.known above can.there free within.steps k a within.arrives waits in
        let other : k ≢ o = (λ same. not_in_child tree early c o above (subst (λ j. InSubtree tree j c) same within)) in
        stays_quiet p tree f outs before after old new k it.firing.leads other
        (record { down = clean.down; behind = λ some. absurd (let none = clean.no_request in omega (arith, some, none)) })
        (λ reach is. absurd (
        let target = asked_target p tree f outs it.move.asker it.move.gives k it.move.giving it.move.can_give reach is in
        let same : k ≡ c = child_in_child tree early k c o (parent_is tree k o target.0) above within in
        target.1 (is_asker ∙ ap child (sym same))))
    by_takes request parent is_takes is_asker can = absurd (true_false can.there (((it.known.shapes n).rising low asks).no_asks_down f.object.0))
    by_takes request processor is_takes is_asker can = absurd (true_false asks (can.asks_up low))
    by_takes request itself is_takes is_asker can = absurd (true_false asks (can.asks_up low))
    by_takes parent_answer asker is_takes is_asker can = absurd (true_false can.there (((it.known.shapes n).rising low asks).no_answers_down f.object.0))
    by_takes child_answers asker is_takes is_asker can =
        absurd (down_not_up asker ((progress_of p tree old numbers n).fired f.object.0) ((it.known.shapes n).asked f.object.0 asker can.down) (((it.known.shapes n).rising low asks).upward f.object.0))

-- a firing keeps all that is quiet
pub quiet_kept : (p : Protocol) (tree : Tree) (f : Firing) (t : TemplateName) (kind : Kind) (rule : Rule) (before after : Local) (outs : Outs) (old new : Line) (numbers now : Numbers) (is_new first : ℕ → Bool) (n : ℕ) (made : List Made) → (it : Fired p tree f t kind rule before after outs old new numbers is_new first n) → (progress_of p tree new now n ≡ progress_after tree (move_of it.move) t (progress_of p tree old numbers n)) → ((y : ℕ) → y ≢ n → progress_of p tree new now y ≡ progress_of p tree old numbers y) → HasPhases tree (progress_of p tree old numbers n) made → ((x : ℕ) → IsQuiet p tree old numbers x) → (x : ℕ) → IsQuiet p tree new now x
quiet_kept p tree f t kind rule before after outs old new numbers now is_new first n made it moved others phases quiet x =
    ⊎_elim
    (λ same. subst (λ x. IsQuiet p tree new now x) (sym same) own)
    (λ differs turned k a waits.
    let turned_old = subst (λ at. HasTurned at) (others x differs) turned in
    let waits_old : (progress_of p tree old numbers x).up k ≡ Some a = ap (λ (at : Progress). at.up k) (sym (others x differs)) ∙ waits in
    ⊎_elim
    (λ here. absurd (differs (quiet_own p tree f t kind rule before after outs old new numbers is_new first n x a it (subst (λ k. (progress_of p tree old numbers x).up k ≡ Some a) here waits_old) (quiet x turned_old f.object.0 a (subst (λ k. (progress_of p tree old numbers x).up k ≡ Some a) here waits_old))).1))
    (λ there. quiet_elsewhere p tree f t kind rule before after outs old new numbers is_new first n x k a it (quiet x) turned_old waits_old there)
    (same_or_other k f.object.0))
    (same_or_other x n)
  where
    turned_now : HasTurned (progress_of p tree old numbers n) → (k : ℕ) (a : Asker) → (progress_of p tree old numbers n).up k ≡ Some a → (k ≡ f.object.0 → it.move.takes ≢ parent_answer) → QuietAt p new k
    turned_now turned k a waits kept =
        ⊎_elim
        (λ here. absurd (kept here (quiet_own p tree f t kind rule before after outs old new numbers is_new first n n a it (subst (λ k. (progress_of p tree old numbers n).up k ≡ Some a) here waits) (quiet n turned f.object.0 a (subst (λ k. (progress_of p tree old numbers n).up k ≡ Some a) here waits))).0))
        (λ there. quiet_elsewhere p tree f t kind rule before after outs old new numbers is_new first n n k a it (quiet n) turned waits there)
        (same_or_other k f.object.0)

    own : IsQuiet p tree new now n
    own turned k a waits =
        let turned_after = subst (λ at. HasTurned at) moved turned in
        let waits_after : (progress_after tree (move_of it.move) t (progress_of p tree old numbers n)).up k ≡ Some a = ap (λ (at : Progress). at.up k) (sym moved) ∙ waits in
        let no_ask : it.move.gives ≢ ask_up = (λ is. true_false (asks_after tree (move_of it.move) t (progress_of p tree old numbers n) is) (turned_after.no_asks f.object.0)) in
        let was = up_was tree f.object.0 it.move.asker it.move.takes it.move.gives t (progress_of p tree old numbers n) k a no_ask waits_after in
        ⊎_elim
        (λ unbegun. absurd (some_none was.0 (unbegun.blank.up k)))
        (λ begun. ⊎_elim
        (λ rises. quiet_at_anchor p tree f t kind rule before after outs old new numbers is_new first n rises.last.object k a it rises.asks was.0)
        (λ falls. turned_now (record { no_asks = falls.no_asks; some = falls.form.anchor.object; fired = falls.some }) k a was.0 was.1)
        begun)
        phases
