-- Of each message and each held lock on a line, the number of the transaction of the firing that made it; and where each transaction stands.
use Rattle.std.specs.Prelude.{ℕ, ◌==◌, ◌≡◌, ◌≢◌, Bool, true, false, ◌&&◌, ◌||◌, cond, List, [], ◌∷◌, ◌++◌, length, drop, Option, None, Some, slice_get, option_and_then}
use Rattle.std.specs.Option.{option_map_or}
use Rattle.hem_base.specs.declared.ids.Message.{Message}
use Rattle.hem_base.specs.declared.ids.Firing.{Firing}
use Rattle.hem_template.specs.declared.template_name.TemplateName.{TemplateName}
use Rattle.hem_object.specs.declared.state.By.{By}
use Rattle.hem_object.specs.declared.state.By.TheVariants.{Processor, Kid, Parent, Own}
use Rattle.hem_object.specs.declared.state.Lock.{Lock}
use Rattle.hem_syntax.specs.Protocol.{Protocol}
use Rattle.hem_object.specs.Local.{Local}
use Rattle.hem_tree.specs.Tree.{Tree, children_of}
use Rattle.hem_fire.specs.declared.outs.Outs.{Outs}
use Rattle.hem_system.specs.declared.lane.Lane.{Lane}
use Rattle.hem_system.specs.declared.lane.Lane.TheVariants.{UpRequests, UpResponses, Down, Requests}
use Rattle.hem_system.specs.State.{Line, local_at, list_at, takes, reaches}
use Rattle.hem_rows.specs.Acts.{is_down_request, is_down_response}
use Rattle.hem_shape.specs.Progress.{Asker, child, processor, parent, itself, Progress, set_at, IsBlank}
use Rattle.hem_shape.specs.Shape.{HasShape}

-- of each list the numbers that its messages carry, of each lock the number of the firing that took it last, and of each transaction the templates that it has fired at each object
pub record Numbers : Type 0 where
  pub lists : ℕ → Lane → List ℕ
  pub up : ℕ → ℕ
  pub down : ℕ → ℕ
  pub fired : ℕ → ℕ → List TemplateName

-- nothing has been fired
abbrev pub no_numbers : Numbers
no_numbers = record { lists = λ k lane. []; up = λ k. 0; down = λ k. 0; fired = λ x k. [] }

-- the number of a lock after a firing of number n: where the lock was free before, that of the firing
abbrev pub lock_number : Option Lock → ℕ → ℕ → ℕ
lock_number None n old = n
lock_number (Some lock) n old = old

-- the numbers after a firing of number n and of that template, at an object of that local state: along the lists by the same two tests as the messages
abbrev pub numbers_after : Tree → Firing → Outs → Local → ℕ → TemplateName → Numbers → Numbers
numbers_after tree f outs before n t numbers =
    let o = f.object.0 in
    record {
      lists = λ k lane. drop (cond (takes tree f outs k lane) 1 0) (numbers.lists k lane) ++ cond (reaches tree f outs.to k lane) (n ∷ []) [];
      up = set_at o (lock_number before.up n (numbers.up o)) numbers.up;
      down = set_at o (lock_number before.down n (numbers.down o)) numbers.down;
      fired = set_at n (set_at o (numbers.fired n o ++ t ∷ []) (numbers.fired n)) numbers.fired;
    }

-- for whom a lock is held, as an object; a child that isn't there counts as a processor
abbrev pub asker_of : Tree → ℕ → By → Asker
asker_of tree o Processor = processor
asker_of tree o (Kid i) = option_map_or child (slice_get (children_of tree o) i) processor
asker_of tree o Parent = parent
asker_of tree o Own = itself

-- whether a message that passes the test carries the number
abbrev pub carries : (Message → Bool) → ℕ → List Message → List ℕ → Bool
carries test x [] ns = false
carries test x (m ∷ ms) [] = false
carries test x (m ∷ ms) (n ∷ ns) = (test m && n == x) || carries test x ms ns

-- any message
abbrev pub is_any : Message → Bool
is_any m = true

-- for whom a lock of that number is held, where it is held for transaction x
abbrev pub held_for : Tree → ℕ → ℕ → ℕ → Option Lock → Option Asker
held_for tree o x n None = None
held_for tree o x n (Some lock) = cond (n == x) (Some (asker_of tree o lock.by)) None

-- the uplock of an object on a line
abbrev pub uplock_at : Line → ℕ → Option Lock
uplock_at line k = option_and_then (λ local. local.up) (local_at line k)

-- the downlock of an object on a line
abbrev pub downlock_at : Line → ℕ → Option Lock
downlock_at line k = option_and_then (λ local. local.down) (local_at line k)

-- where transaction x stands on a line
abbrev pub progress_of : Protocol → Tree → Line → Numbers → ℕ → Progress
progress_of p tree line numbers x =
    record {
      asks_up = λ k. carries is_any x (list_at line k UpRequests) (numbers.lists k UpRequests);
      answers_up = λ k. carries is_any x (list_at line k UpResponses) (numbers.lists k UpResponses);
      asks_down = λ k. carries (is_down_request p) x (list_at line k Down) (numbers.lists k Down);
      answers_down = λ k. carries (is_down_response p) x (list_at line k Down) (numbers.lists k Down);
      up = λ k. held_for tree k x (numbers.up k) (uplock_at line k);
      down = λ k. held_for tree k x (numbers.down k) (downlock_at line k);
      fired = numbers.fired x;
    }

-- each transaction on a line has its shape, each message its number, and transactions of new numbers haven't begun
pub record AreNumbers (p : Protocol) (tree : Tree) (line : Line) (numbers : Numbers) (is_new : ℕ → Bool) : Type 0 where
  pub lists : (k : ℕ) (lane : Lane) → lane ≢ Requests → length (numbers.lists k lane) ≡ length (list_at line k lane)
  pub shapes : (x : ℕ) → HasShape tree (progress_of p tree line numbers x)
  pub fresh : (x : ℕ) → is_new x ≡ true → IsBlank (progress_of p tree line numbers x)
