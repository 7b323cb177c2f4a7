-- At the start no transaction has begun.
use Rattle.std.proofs.Common.{◌≡◌, ◌≢◌, ℕ, ◌+◌, true, List, [], length, refl, sym, ap, ◌∙◌, subst, arith, Option, Some, None, inl}
use Rattle.std.specs.Prelude.{slice_get, option_map, option_and_then}
use Rattle.std.specs.Option.{option_map_or}
use Rattle.std.proofs.lemmas.Option.{slice_get-map}
use Rattle.hem_base.specs.declared.ids.Message.{Message}
use Rattle.hem_syntax.specs.Protocol.{Protocol}
use Rattle.hem_object.specs.Local.{Local}
use Rattle.hem_tree.specs.Tree.{Tree, Node, below}
use Rattle.hem_work.specs.Work.{Work, requests_of}
use Rattle.hem_system.specs.declared.lane.Lane.{Lane}
use Rattle.hem_system.specs.declared.lane.Lane.TheVariants.{UpRequests, UpResponses, Down, Requests, Answers}
use Rattle.hem_system.specs.State.{Cell, State, Line, list_of, list_at, first_cell, first_line, start}
use Rattle.hem_rows.proofs.Choices.{if_mapped}
use Rattle.hem_rows.specs.Acts.{is_down_request, is_down_response}
use Rattle.hem_locks.specs.Edges.{AllLocksHold}
use Rattle.hem_shape.specs.Progress.{IsBlank}
use Rattle.hem_shape.proofs.Phases.{blank_shape}
use Rattle.hem_numbered.specs.Numbers.{no_numbers, carries, is_any, held_for, uplock_at, downlock_at, progress_of}
use Rattle.hem_numbered.specs.Histories.{AreKnown}
use Rattle.hem_system.proofs.Own.{slice_get-map_each}

-- a line on which no channel has a message, and no lock is held
pub record IsIdle (line : Line) : Type 0 where
  pub lists : (k : ℕ) (lane : Lane) → lane ≢ Requests → list_at line k lane ≡ []
  pub up : (k : ℕ) → uplock_at line k ≡ None
  pub down : (k : ℕ) → downlock_at line k ≡ None

first_idle : (p : Protocol) (tree : Tree) (requests : ℕ → List Message) → IsIdle (first_line p tree requests)
first_idle p tree requests =
    record {
      lists = λ k lane other. ap (λ c. option_map_or (λ cell. list_of cell lane) c []) (at k) ∙ no_list k lane other (slice_get tree k);
      up = λ k. ap (λ c. option_and_then (λ (l : Local). l.up) (option_map (λ (cell : Cell). cell.local) c)) (at k) ∙ no_up k (slice_get tree k);
      down = λ k. ap (λ c. option_and_then (λ (l : Local). l.down) (option_map (λ (cell : Cell). cell.local) c)) (at k) ∙ no_down k (slice_get tree k);
    }
  where
    at : (k : ℕ) → slice_get (first_line p tree requests) k ≡ option_map (first_cell p tree requests k) (slice_get tree k)
    at k = slice_get-map_each (first_cell p tree requests) 0 tree k ∙ ap (λ i. option_map (first_cell p tree requests i) (slice_get tree k)) (let z : 0 + k ≡ k = omega arith in z)

    no_list : (k : ℕ) (lane : Lane) → lane ≢ Requests → (node : Option Node) → option_map_or (λ cell. list_of cell lane) (option_map (first_cell p tree requests k) node) [] ≡ []
    no_list k lane other None = refl
    no_list k UpRequests other (Some node) = refl
    no_list k UpResponses other (Some node) = refl
    no_list k Down other (Some node) = refl
    no_list k Requests other (Some node) = absurd (other refl)
    no_list k Answers other (Some node) = refl

    no_up : (k : ℕ) (node : Option Node) → option_and_then (λ (l : Local). l.up) (option_map (λ (cell : Cell). cell.local) (option_map (first_cell p tree requests k) node)) ≡ None
    no_up k None = refl
    no_up k (Some node) = refl

    no_down : (k : ℕ) (node : Option Node) → option_and_then (λ (l : Local). l.down) (option_map (λ (cell : Cell). cell.local) (option_map (first_cell p tree requests k) node)) ≡ None
    no_down k None = refl
    no_down k (Some node) = refl

pub idle_blank : (p : Protocol) (tree : Tree) (line : Line) (x : ℕ) → IsIdle line → IsBlank (progress_of p tree line no_numbers x)
idle_blank p tree line x idle =
    record {
      asks_up = λ k. ap (λ ms. carries is_any x ms []) (idle.lists k UpRequests (λ bad. cc));
      answers_up = λ k. ap (λ ms. carries is_any x ms []) (idle.lists k UpResponses (λ bad. cc));
      asks_down = λ k. ap (λ ms. carries (is_down_request p) x ms []) (idle.lists k Down (λ bad. cc));
      answers_down = λ k. ap (λ ms. carries (is_down_response p) x ms []) (idle.lists k Down (λ bad. cc));
      up = λ k. ap (λ l. held_for tree k x 0 l) (idle.up k);
      down = λ k. ap (λ l. held_for tree k x 0 l) (idle.down k);
      fired = λ k. refl;
    }

-- each line of the start
pub start_idle : (p : Protocol) (tree : Tree) (work : Work) (l : ℕ) (line : Line) → slice_get (start p tree work) l ≡ Some line → IsIdle line
start_idle p tree work l line at =
    let it = if_mapped (λ l. first_line p tree (requests_of work l)) (slice_get (below work.lines) l) line (sym (slice_get-map (λ l. first_line p tree (requests_of work l)) (below work.lines) l) ∙ at) in
    subst (λ line. IsIdle line) it.2 (first_idle p tree (requests_of work it.0))

pub known_start : (p : Protocol) (tree : Tree) (owner : ℕ → ℕ) (s : State) → AllLocksHold p tree s → ((l : ℕ) (line : Line) → slice_get s l ≡ Some line → IsIdle line) → AreKnown p tree owner s (λ l. no_numbers) (λ y. true) []
known_start p tree owner s locks idle =
    record {
      locks = locks;
      numbers = λ l line at. record {
        lists = λ k lane other. sym (ap length ((idle l line at).lists k lane other));
        shapes = λ x. blank_shape tree (progress_of p tree line no_numbers x) (idle_blank p tree line x (idle l line at));
        fresh = λ x is. idle_blank p tree line x (idle l line at);
      };
      owned = λ l x line at begun. absurd (begun (idle_blank p tree line x (idle l line at)));
      phases = λ l x line at here. inl (record { blank = idle_blank p tree line x (idle l line at); none = refl });
      forms = λ x. inl (tt, tt);
    }
