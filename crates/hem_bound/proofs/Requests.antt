-- The requests of processors that are left: a firing that takes one lowers their number, and no firing raises it.
use Rattle.std.proofs.Common.{◌≡◌, refl, ap, sym, ◌∙◌, ℕ, ◌+◌, ◌≤◌, length, Bool, true, false, not, ◌&&◌, List, [], ◌∷◌, arith, Option, Some, None, zero-add, eqb-true}
use Rattle.std.specs.Prelude.{◌==◌, slice_get, option_map, is_some, is_none, count_by}
use Rattle.std.specs.Option.{option_map_or}
use Rattle.hem_base.specs.declared.ids.ObjectId.{ObjectId}
use Rattle.hem_base.specs.declared.ids.Firing.{Firing}
use Rattle.hem_syntax.specs.declared.rule.Rule.{Rule}
use Rattle.hem_syntax.specs.declared.rule.Take.{Take}
use Rattle.hem_syntax.specs.Protocol.{Protocol}
use Rattle.hem_template.specs.Template.{row_of}
use Rattle.hem_template.specs.declared.row.Taking.{Taking}
use Rattle.hem_template.specs.declared.row.Taking.TheVariants.{NothingTaken, FromRequester, ParentRequest, ParentResponse, FromKids}
use Rattle.hem_fire.specs.declared.outs.To.{To}
use Rattle.hem_fire.specs.declared.outs.To.TheVariants as to
use Rattle.hem_tree.specs.Tree.{Tree}
use Rattle.hem_system.specs.declared.lane.Lane.TheVariants.{Requests}
use Rattle.hem_system.specs.State.{Cell, Line, State, Effect, head_at, request_head, heads_of, takes, reaches, cell_after, line_after, fire, run}
use Rattle.hem_system.proofs.Changed.{is_same}
use Rattle.hem_rows.specs.Rows.{IsTaking, AllHaveTemplates}
use Rattle.hem_rows.specs.Acts.{IsThere, takes_me}
use Rattle.hem_locks.specs.Acted.{IsActed}
use Rattle.hem_locks.specs.Edges.{one_if}
use Rattle.hem_rows.proofs.Choices.{both, is_nothing, if_some}
use Rattle.hem_locks.proofs.Counts.{length-changed}
use Rattle.hem_rows.proofs.Rows.{of_row}
use Rattle.hem_locks.proofs.Places.{within}
use Rattle.hem_locks.proofs.Acted.{acted}
use Rattle.hem_locks.proofs.Lines.{head_of, me_there}
use Rattle.hem_locks.proofs.States.{made}
use Rattle.hem_bound.specs.Starts.{takes_request, is_asked, requests_on, requests_left}
use Rattle.hem_system.proofs.Own.{slice_get-map_each}
use Rattle.hem_bound.proofs.Sums.{total_adds, total_at_most, total_has}
use Rattle.hem_bound.proofs.Moved.{nothing_at}
use Rattle.hem_bound.proofs.Firings.{rule_is}
use Rattle.hem_bound.proofs.States.{sum_set, count_more}

-- whether a firing with that take takes a processor's request, by whether it names a child
abbrev asked_by : Taking → Bool → Bool
asked_by FromRequester named = not named
asked_by _ named = false

asked-taking : (p : Protocol) (taking : Taking) (rule : Rule) (me : Option ObjectId) → IsTaking p taking rule.take → takes_request rule.take me ≡ asked_by taking (is_some me)
asked-taking p NothingTaken rule me is = ap (λ (t : Take). takes_request t me) is
asked-taking p ParentRequest rule me is = ap (λ (t : Take). takes_request t me) is.1
asked-taking p ParentResponse rule me is = ap (λ (t : Take). takes_request t me) is.1
asked-taking p FromKids rule me is = ap (λ (t : Take). takes_request t me) is.1
asked-taking p FromRequester rule me is = ap (λ (t : Take). takes_request t me) is.1 ∙ by_me me
  where
    by_me : (me : Option ObjectId) → is_none me ≡ not (is_some me)
    by_me None = refl
    by_me (Some child) = refl

-- nothing is sent to a processor's requests
never_sent : (tree : Tree) (f : Firing) (t : To) (k : ℕ) → reaches tree f t k Requests ≡ false
never_sent tree f to.Nobody k = refl
never_sent tree f to.Answer k = refl
never_sent tree f (to.Kid c) k = refl
never_sent tree f to.UpRequest k = refl
never_sent tree f to.UpResponse k = refl
never_sent tree f (to.Kids set) k = refl

module _ (p : Protocol) (tree : Tree) (line : Line) (f : Firing) (e : Effect) (it : IsActed p tree line f e) where
  asked_is : is_asked p tree f ≡ asked_by (row_of it.template).taking (is_some f.me)
  asked_is =
      ap (λ (rule : Option Rule). option_map_or (λ rule. takes_request rule.take f.me) rule false) (rule_is p tree line f e it)
      ∙ asked-taking p (row_of it.template).taking it.rule f.me (of_row p it.kind it.rule it.template it.has_template).taking

  -- the request is there where it is taken
  request_there : (k : ℕ) → takes tree f e.outs k Requests ≡ true → IsThere (head_at line k Requests)
  request_there k taken =
      let parts = both (e.outs.taken_request && is_none f.me) (k == f.object.0) taken in
      let alone = both e.outs.taken_request (is_none f.me) parts.0 in
      let there = me_there p (row_of it.template).taking it.local (heads_of tree line f.object.0 f.me) (sym it.acts.taken_request ∙ alone.0) it.acts.there in
      let none : request_head line f.object.0 f.me ≡ head_at line f.object.0 Requests = ap (request_head line f.object.0) (is_nothing f.me alone.1) in
      let here : head_at line k Requests ≡ head_at line f.object.0 Requests = ap (λ n. head_at line n Requests) (eqb-true k f.object.0 parts.1) in
      (there.0, here ∙ sym none ∙ there.1)

  abbrev left_at : Line → ℕ → ℕ
  left_at l k = option_map_or (λ cell. length cell.requests) (slice_get l k) 0

  abbrev taken_at : ℕ → ℕ
  taken_at k = one_if (takes tree f e.outs k Requests)

  place_left : (k : ℕ) → left_at (line_after tree f e line) k + taken_at k ≤ left_at line k
  place_left k = by_cell (slice_get line k) refl
    where
      after : slice_get (line_after tree f e line) k ≡ option_map (cell_after tree f e (0 + k)) (slice_get line k)
      after = slice_get-map_each (cell_after tree f e) 0 line k

      by_cell : (c : Option Cell) → slice_get line k ≡ c → left_at (line_after tree f e line) k + taken_at k ≤ left_at line k
      by_cell None none =
          let gone : left_at (line_after tree f e line) k ≡ 0 = ap (λ (c : Option Cell). option_map_or (λ cell. length cell.requests) c 0) (after ∙ ap (option_map (cell_after tree f e (0 + k))) none) in
          omega (arith, gone, untaken (takes tree f e.outs k Requests) (λ taken. nothing_at p tree line f e it k Requests none (request_there k taken)))
        where
          untaken : (b : Bool) → (b ≡ true → ⊥) → one_if b ≡ 0
          untaken true never = absurd (never refl)
          untaken false never = refl
      by_cell (Some cell) at =
          let now : left_at (line_after tree f e line) k ≡ length (cell_after tree f e k cell).requests = ap (λ (c : Option Cell). option_map_or (λ cell. length cell.requests) c 0) (after ∙ ap (option_map (cell_after tree f e (0 + k))) at) ∙ ap (λ n. length (cell_after tree f e n cell).requests) (zero-add k) in
          let old : left_at line k ≡ length cell.requests = ap (λ (c : Option Cell). option_map_or (λ cell. length cell.requests) c 0) at in
          let lengths = length-changed (takes tree f e.outs k Requests) (reaches tree f e.outs.to k Requests) e.outs.message cell.requests (λ taken. let there = request_there k taken in (there.0, sym (head_of line k cell Requests at) ∙ there.1)) in
          let unsent = ap one_if (never_sent tree f e.outs.to k) in
          omega (arith, now, old, lengths, unsent)

  -- a firing that takes a processor's request takes it at its object
  own_request : one_if (is_asked p tree f) ≤ taken_at f.object.0
  own_request = let is = ap one_if asked_is in omega (arith, is, by_taking (row_of it.template).taking it.acts.taken_request)
    where
      by_me : (me : Option ObjectId) → one_if (not (is_some me)) ≤ one_if (is_none me)
      by_me None = omega arith
      by_me (Some child) = omega arith

      by_taking : (taking : Taking) → e.outs.taken_request ≡ takes_me taking → one_if (asked_by taking (is_some f.me)) ≤ taken_at f.object.0
      by_taking NothingTaken taken = omega arith
      by_taking ParentRequest taken = omega arith
      by_taking ParentResponse taken = omega arith
      by_taking FromKids taken = omega arith
      by_taking FromRequester taken =
          let here : taken_at f.object.0 ≡ one_if (is_none f.me && true) = ap (λ b. one_if (b && is_none f.me && f.object.0 == f.object.0)) taken ∙ ap (λ b. one_if (is_none f.me && b)) (is_same f.object.0) in
          omega (arith, here, and_true (is_none f.me), by_me f.me)
        where
          and_true : (b : Bool) → one_if (b && true) ≡ one_if b
          and_true true = refl
          and_true false = refl

  line_left : requests_on tree (line_after tree f e line) + one_if (is_asked p tree f) ≤ requests_on tree line
  line_left =
      let n = length tree in
      let most = total_at_most n (λ k. left_at (line_after tree f e line) k + taken_at k) (left_at line) place_left in
      omega (arith, most, total_adds n (left_at (line_after tree f e line)) taken_at, total_has n f.object.0 taken_at (within tree f.object.0 it.kind it.kind_is), own_request)

-- the requests that are left after a firing
state_left : (p : Protocol) (tree : Tree) (old new : State) (f : Firing) → AllHaveTemplates p → fire p tree old f ≡ Some new → requests_left tree new + one_if (is_asked p tree f) ≤ requests_left tree old
state_left p tree old new f templates leads =
    let it = made p tree old new f leads in
    let is = ap (requests_left tree) it.after in
    let set = sum_set (requests_on tree) old f.line.0 it.line (line_after tree f it.effect it.line) it.there in
    omega (arith, is, set, line_left p tree it.line f it.effect (acted p tree it.line f it.effect templates it.possible))

-- after a history
pub run_left : (p : Protocol) (tree : Tree) (h : List Firing) (old new : State) → AllHaveTemplates p → run p tree old h ≡ Some new → requests_left tree new + count_by (is_asked p tree) h ≤ requests_left tree old
run_left p tree [] old new templates leads = let same : old ≡ new = cc in let is = ap (requests_left tree) same in omega (arith, is)
run_left p tree (f ∷ h) old new templates leads =
    let first = if_some (λ next. run p tree next h) (fire p tree old f) new leads in
    omega (arith, run_left p tree h first.0 new templates first.2, state_left p tree old first.0 f templates first.1, count_more (is_asked p tree) f h)
