-- At a quiet object only the transaction that waits there fires, by the answer for which it waits.
use Rattle.std.proofs.Common.{◌≡◌, ◌≢◌, ℕ, zero, suc, ◌+◌, ◌≤◌, Bool, true, false, cond, ◌&&◌, List, [], ◌∷◌, ◌++◌, length, drop, refl, sym, ap, ◌∙◌, subst, arith, Option, Some, None, ⊎_elim}
use Rattle.std.specs.Prelude.{slice_get, filter, option_and_then}
use Rattle.hem_base.specs.declared.ids.Kind.{Kind}
use Rattle.hem_base.specs.declared.ids.Firing.{Firing}
use Rattle.hem_base.specs.declared.ids.Message.{Message}
use Rattle.hem_syntax.specs.declared.rule.Rule.{Rule}
use Rattle.hem_template.specs.declared.template_name.TemplateName.{TemplateName}
use Rattle.hem_object.specs.declared.state.Lock.{Lock}
use Rattle.hem_syntax.specs.Protocol.{Protocol}
use Rattle.hem_object.specs.Local.{Local}
use Rattle.hem_tree.specs.Tree.{Tree, parent_of, is_child, place_among}
use Rattle.hem_tree.proofs.Lawful.{number_is}
use Rattle.hem_fire.specs.declared.outs.Outs.{Outs}
use Rattle.hem_system.specs.declared.lane.Lane.TheVariants.{UpRequests, Down}
use Rattle.hem_system.specs.State.{Line, list_at, takes, reaches, sends}
use Rattle.hem_rows.specs.Acts.{is_down_request, is_down_response}
use Rattle.hem_locks.specs.Edges.{count, for_kid, LocksHold}
use Rattle.hem_shape.specs.Progress.{Asker, child, processor, parent, itself, Progress}
use Rattle.hem_shape.specs.Move.{Taking, request, parent_answer, child_answers, Giving, answer, ask_up, ask_down, given, CanTake, CanGive, template_name}
use Rattle.hem_numbered.specs.Numbers.{Numbers, carries, is_any, held_for, uplock_at, downlock_at, progress_of, AreNumbers}
use Rattle.hem_numbered.specs.Firings.{Leads, IsFiring}
use Rattle.hem_numbered.specs.Quiet.{QuietAt}
use Rattle.hem_locks.proofs.Counts.{count-append}
use Rattle.hem_numbered.proofs.Kept.{numbered_head}
use Rattle.hem_numbered.proofs.Carried.{carries_first}
use Rattle.hem_numbered.proofs.EdgeFacts.{edge_at, no_request_first, counted_child}
use Rattle.hem_numbered.proofs.GivesAs.{GivesAs}
use Rattle.hem_numbered.proofs.Held.{held_parts, held_number, held_is}
use Rattle.hem_numbered.proofs.Moves.{DownAs, IsMove}
use Rattle.hem_numbered.proofs.Needs.{request_needs}
use Rattle.hem_numbered.proofs.TakesAs.{parent_elsewhere}

-- what is known of a firing, for what follows
pub record Fired (p : Protocol) (tree : Tree) (f : Firing) (t : TemplateName) (kind : Kind) (rule : Rule) (before after : Local) (outs : Outs) (old new : Line) (numbers : Numbers) (is_new first : ℕ → Bool) (n : ℕ) : Type 0 where
  pub firing : IsFiring p tree f t kind rule before after outs old new
  pub locks : LocksHold p tree old
  pub known : AreNumbers p tree old numbers is_new
  pub move : IsMove p tree f t before after outs old numbers first n

-- the lock of an object that a transaction waits at
pub lock_here : (line : Line) (lock : Option Lock) (l : Lock) (other : Option Lock) → lock ≡ Some l → lock ≡ other → other ≡ None → ⊥
lock_here line lock l other some same none = let bad : Some l ≡ None = sym some ∙ same ∙ none in cc

-- at a quiet object a firing takes the answer for which the object waits, and is of the transaction that waits
quiet_takes : (p : Protocol) (tree : Tree) (f : Firing) (t : TemplateName) (kind : Kind) (rule : Rule) (before after : Local) (outs : Outs) (old new : Line) (numbers : Numbers) (n x : ℕ) (a asker : Asker) (takes : Taking) (gives : Giving) → IsFiring p tree f t kind rule before after outs old new → LocksHold p tree old → (progress_of p tree old numbers x).up f.object.0 ≡ Some a → QuietAt p old f.object.0 → template_name takes asker gives ≡ Some t → CanTake tree f.object.0 asker takes (progress_of p tree old numbers n) → (takes ≡ parent_answer) × (x ≡ n)
quiet_takes p tree f t kind rule before after outs old new numbers n x a asker parent_answer gives c locks waits quiet named can =
    let o = f.object.0 in
    (refl, sym (held_number tree o x (numbers.up o) (uplock_at old o) a waits) ∙ held_number tree o n (numbers.up o) (uplock_at old o) asker can.up)
quiet_takes p tree f t kind rule before after outs old new numbers n x a asker child_answers gives c locks waits quiet named can =
    let o = f.object.0 in
    let lock = held_parts tree o n (numbers.down o) (downlock_at old o) asker can.down in
    absurd (lock_here old (downlock_at old o) lock.0 None lock.1 quiet.down refl)
quiet_takes p tree f t kind rule before after outs old new numbers n x a asker request gives c locks waits quiet named can =
    let o = f.object.0 in
    let lock = held_parts tree o x (numbers.up o) (uplock_at old o) a waits in
    let needs = request_needs p tree f t kind rule before after outs old new asker gives c named in
    absurd (⊎_elim
    (λ free. lock_here old (uplock_at old o) lock.0 before.up lock.1 (ap (λ l. option_and_then (λ (l : Local). l.up) l) c.leads.here) free)
    (λ asks.
    let edge = edge_at p tree old c.lawful locks o asks.high (number_is (parent_of tree o) asks.high asks.above) in
    no_request_first p (list_at old o Down) asks.message edge.order asks.first asks.is (quiet.behind (first_counts (is_down_request p) (list_at old o Down) asks.message asks.first asks.is)))
    needs.up)
  where
    first_counts : (test : Message → Bool) (ms : List Message) (m : Message) → slice_get ms 0 ≡ Some m → test m ≡ true → 1 ≤ count test ms
    first_counts test [] m at is = absurd (let bad : None ≡ Some m = at in cc)
    first_counts test (q ∷ ms) m at is =
        let same : q ≡ m = (let both : Some q ≡ Some m = at in cc) in
        let size : count test (q ∷ ms) ≡ suc (length (filter test ms)) = ap (λ b. length (cond b (q ∷ filter test ms) (filter test ms))) (ap test same ∙ is) in
        omega (arith, size)

pub quiet_own : (p : Protocol) (tree : Tree) (f : Firing) (t : TemplateName) (kind : Kind) (rule : Rule) (before after : Local) (outs : Outs) (old new : Line) (numbers : Numbers) (is_new first : ℕ → Bool) (n x : ℕ) (a : Asker) → (it : Fired p tree f t kind rule before after outs old new numbers is_new first n) → (progress_of p tree old numbers x).up f.object.0 ≡ Some a → QuietAt p old f.object.0 → (it.move.takes ≡ parent_answer) × (x ≡ n)
quiet_own p tree f t kind rule before after outs old new numbers is_new first n x a it waits quiet =
    quiet_takes p tree f t kind rule before after outs old new numbers n x a it.move.asker it.move.takes it.move.gives it.firing it.locks waits quiet it.move.named it.move.taking.can

-- where a request reaches a child, the firing asks down, and the child is a target
pub asked_target : (p : Protocol) (tree : Tree) (f : Firing) (outs : Outs) (asker : Asker) (gives : Giving) (k : ℕ) → GivesAs p tree f outs asker gives → CanGive tree f.object.0 asker gives → reaches tree f outs.to k Down ≡ true → is_down_request p outs.message ≡ true → (is_child tree k f.object.0 ≡ true) × (asker ≢ child k)
asked_target p tree f outs asker gives k as_given can reach is = by_gives asker gives can (sym (as_given.asks_down nothing k) ∙ ap (λ b. b && is_down_request p outs.message) reach ∙ is)
  where
    nothing : Progress
    nothing = record { asks_up = λ k. false; answers_up = λ k. false; asks_down = λ k. false; answers_down = λ k. false; up = λ k. None; down = λ k. None; fired = λ k. [] }

    by_gives : (asker : Asker) (gives : Giving) → CanGive tree f.object.0 asker gives → (given f.object.0 asker gives nothing).asks_down k ≡ true → (is_child tree k f.object.0 ≡ true) × (asker ≢ child k)
    by_gives (child c) answer can bad = absurd (let no_way : false ≡ true = bad in cc)
    by_gives processor answer can bad = absurd (let no_way : false ≡ true = bad in cc)
    by_gives parent answer can bad = absurd (let no_way : false ≡ true = bad in cc)
    by_gives itself answer can bad = absurd (let no_way : false ≡ true = bad in cc)
    by_gives asker ask_up can bad = absurd (let no_way : false ≡ true = bad in cc)
    by_gives asker (ask_down targets) can is = can k is

-- a firing that asks down had its downlock free
pub asks_free : (p : Protocol) (tree : Tree) (f : Firing) (outs : Outs) (asker : Asker) (takes : Taking) (gives : Giving) (k : ℕ) (before after : Option Lock) → GivesAs p tree f outs asker gives → DownAs tree f.object.0 asker takes gives before after → reaches tree f outs.to k Down ≡ true → is_down_request p outs.message ≡ true → before ≡ None
asks_free p tree f outs asker takes gives k before after as_given down reach is = by_gives asker gives down (sym (as_given.asks_down nothing k) ∙ ap (λ b. b && is_down_request p outs.message) reach ∙ is)
  where
    nothing : Progress
    nothing = record { asks_up = λ k. false; answers_up = λ k. false; asks_down = λ k. false; answers_down = λ k. false; up = λ k. None; down = λ k. None; fired = λ k. [] }

    by_gives : (asker : Asker) (gives : Giving) → DownAs tree f.object.0 asker takes gives before after → (given f.object.0 asker gives nothing).asks_down k ≡ true → before ≡ None
    by_gives (child c) answer down bad = absurd (let no_way : false ≡ true = bad in cc)
    by_gives processor answer down bad = absurd (let no_way : false ≡ true = bad in cc)
    by_gives parent answer down bad = absurd (let no_way : false ≡ true = bad in cc)
    by_gives itself answer down bad = absurd (let no_way : false ≡ true = bad in cc)
    by_gives asker ask_up down bad = absurd (let no_way : false ≡ true = bad in cc)
    by_gives asker (ask_down targets) down is = down.0

-- another object stays quiet, where no request comes to it alone
pub stays_quiet : (p : Protocol) (tree : Tree) (f : Firing) (outs : Outs) (before after : Local) (old new : Line) (k : ℕ) → Leads tree f outs before after old new → k ≢ f.object.0 → QuietAt p old k → (reaches tree f outs.to k Down ≡ true → is_down_request p outs.message ≡ true → 1 ≤ count (is_down_response p) (list_at old k Down)) → QuietAt p new k
stays_quiet p tree f outs before after old new k leads other quiet alone =
    let list : list_at new k Down ≡ list_at old k Down ++ sends tree f outs k Down =
    leads.lists k Down ∙ ap (λ b. drop (cond b 1 0) (list_at old k Down) ++ sends tree f outs k Down) (parent_elsewhere tree f outs k other) in
    let requests = ap (count (is_down_request p)) list ∙ count-append (is_down_request p) (list_at old k Down) (sends tree f outs k Down) in
    let responses = ap (count (is_down_response p)) list ∙ count-append (is_down_response p) (list_at old k Down) (sends tree f outs k Down) in
    record {
      down = ap (λ l. option_and_then (λ (l : Local). l.down) l) (leads.others k other) ∙ quiet.down;
      behind = λ some. by_old (count (is_down_request p) (list_at old k Down)) refl requests responses some;
    }
  where
    sent : (b : Bool) → reaches tree f outs.to k Down ≡ b → 1 ≤ count (is_down_request p) (cond b (outs.message ∷ []) []) → 1 ≤ count (is_down_response p) (list_at old k Down)
    sent false is some = absurd (omega (arith, some))
    sent true is some = by_class (is_down_request p outs.message) refl some
      where
        by_class : (c : Bool) → is_down_request p outs.message ≡ c → 1 ≤ length (cond c (outs.message ∷ []) []) → 1 ≤ count (is_down_response p) (list_at old k Down)
        by_class true asks some = alone is asks
        by_class false asks some = absurd (omega (arith, some))

    by_old : (m : ℕ) → count (is_down_request p) (list_at old k Down) ≡ m → count (is_down_request p) (list_at new k Down) ≡ count (is_down_request p) (list_at old k Down) + count (is_down_request p) (sends tree f outs k Down) → count (is_down_response p) (list_at new k Down) ≡ count (is_down_response p) (list_at old k Down) + count (is_down_response p) (sends tree f outs k Down) → 1 ≤ count (is_down_request p) (list_at new k Down) → 1 ≤ count (is_down_response p) (list_at new k Down)
    by_old zero is requests responses some = let one = sent (reaches tree f outs.to k Down) refl (omega (arith, is, requests, some)) in omega (arith, responses, one)
    by_old (suc m) is requests responses some = let one = quiet.behind (omega (arith, is)) in omega (arith, responses, one)

-- a message upward of an object carries the number of the object's uplock
pub ask_number : (p : Protocol) (tree : Tree) (line : Line) (numbers : Numbers) (is_new : ℕ → Bool) (k x : ℕ) (a : Asker) → AreNumbers p tree line numbers is_new → (progress_of p tree line numbers x).up k ≡ Some a → 1 ≤ length (list_at line k UpRequests) → (progress_of p tree line numbers x).asks_up k ≡ true
ask_number p tree line numbers is_new k x a known waits some =
    let m = one (list_at line k UpRequests) some in
    let y = numbered_head (list_at line k UpRequests) (numbers.lists k UpRequests) m.0 (known.lists k UpRequests (λ bad. cc)) m.1 in
    let there = carries_first is_any y.0 (list_at line k UpRequests) (numbers.lists k UpRequests) m.0 m.1 y.1 refl in
    let holds = (known.shapes y.0).below.asks_up k there in
    let same : y.0 ≡ x = sym (held_number tree k y.0 (numbers.up k) (uplock_at line k) holds.asker holds.held) ∙ held_number tree k x (numbers.up k) (uplock_at line k) a waits in
    subst (λ z. carries is_any z (list_at line k UpRequests) (numbers.lists k UpRequests) ≡ true) same there
  where
    one : (ms : List Message) → 1 ≤ length ms → (m : Message) × (slice_get ms 0 ≡ Some m)
    one [] some = absurd (omega (arith, some))
    one (m ∷ ms) some = (m, refl)

-- a lock of a parent that counts at a child's edge is of the transaction that waits at the child
pub high_number : (p : Protocol) (tree : Tree) (line : Line) (numbers : Numbers) (is_new : ℕ → Bool) (k o x : ℕ) (a : Asker) → AreNumbers p tree line numbers is_new → is_child tree k o ≡ true → (progress_of p tree line numbers x).up k ≡ Some a → 1 ≤ for_kid (place_among tree o k) (uplock_at line o) → (progress_of p tree line numbers x).up o ≡ Some (child k)
high_number p tree line numbers is_new k o x a known own waits some =
    let lock = counted_child tree o k (uplock_at line o) own some in
    let y = numbers.up o in
    let there : (progress_of p tree line numbers y).up o ≡ Some (child k) = held_is tree o y (numbers.up o) (uplock_at line o) lock.0 lock.1 refl ∙ ap Some lock.2 in
    let holds = (known.shapes y).below.up o k there in
    let same : y ≡ x = sym (held_number tree k y (numbers.up k) (uplock_at line k) holds.asker holds.held) ∙ held_number tree k x (numbers.up k) (uplock_at line k) a waits in
    subst (λ z. held_for tree o z (numbers.up o) (uplock_at line o) ≡ Some (child k)) same there
