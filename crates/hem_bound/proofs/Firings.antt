-- Each firing lowers the potential of its line, but for those with which transactions start.
use Rattle.std.proofs.Common.{◌≡◌, refl, ap, sym, ◌∙◌, ℕ, ◌+◌, ◌*◌, ◌≤◌, ◌<◌, length, Bool, true, false, not, ◌||◌, cond, arith, Option, Some, None}
use Rattle.std.specs.Prelude.{◌==◌, is_some, is_none}
use Rattle.std.specs.Option.{option_map_or}
use Rattle.std.proofs.lemmas.Bool.{eqb-true}
use Rattle.hem_base.specs.Sets.{has_bit}
use Rattle.hem_base.specs.declared.ids.KidSet.{KidSet}
use Rattle.hem_base.specs.declared.ids.Kind.{Kind}
use Rattle.hem_base.specs.declared.ids.ObjectId.{ObjectId}
use Rattle.hem_base.specs.declared.ids.Firing.{Firing}
use Rattle.hem_syntax.specs.declared.rule.Rule.{Rule}
use Rattle.hem_syntax.specs.declared.rule.Take.{Take}
use Rattle.hem_syntax.specs.declared.rule.Hold.{Hold}
use Rattle.hem_syntax.specs.declared.rule.Hold.TheVariants as hold
use Rattle.hem_syntax.specs.declared.rule.Origin.{Origin}
use Rattle.hem_syntax.specs.declared.rule.Origin.TheVariants as origin
use Rattle.hem_object.specs.declared.state.Lock.{Lock}
use Rattle.hem_object.specs.declared.state.By.{By}
use Rattle.hem_object.specs.declared.state.By.TheVariants.{Processor, Kid, Parent, Own}
use Rattle.hem_syntax.specs.Protocol.{Protocol}
use Rattle.hem_object.specs.Local.{Local}
use Rattle.hem_template.specs.Template.{row_of}
use Rattle.hem_template.specs.declared.row.Row.{Row}
use Rattle.hem_template.specs.declared.row.Taking.{Taking}
use Rattle.hem_template.specs.declared.row.Sending.{Sending}
use Rattle.hem_template.specs.declared.row.Taking.TheVariants.{NothingTaken, FromRequester, ParentRequest, ParentResponse, FromKids}
use Rattle.hem_template.specs.declared.row.Sending.TheVariants.{NothingSent, ToRequester, RequestUp, ResponseUp, ToOthers, ToKids}
use Rattle.hem_fire.specs.declared.outs.To.{To}
use Rattle.hem_fire.specs.declared.outs.To.TheVariants as to
use Rattle.hem_fire.specs.View.{kid_asker}
use Rattle.hem_tree.specs.Tree.{Tree, IsTree}
use Rattle.hem_tree.proofs.Early.{lawful_early}
use Rattle.hem_system.specs.State.{Line, Effect, effect_of, line_after, place_of_me}
use Rattle.hem_rows.specs.Rows.{IsTaking, AllHaveTemplates}
use Rattle.hem_rows.specs.Acts.{IsNeeded, IsTaken, IsSent, requester_of}
use Rattle.hem_locks.specs.Acted.{IsActed}
use Rattle.hem_locks.specs.Edges.{held}
use Rattle.hem_rows.proofs.Rows.{of_row}
use Rattle.hem_locks.proofs.Acted.{acted}
use Rattle.hem_locks.proofs.Places.{within}
use Rattle.hem_locks.proofs.Laws.{has_template}
use Rattle.hem_locks.proofs.LockNumbers.{down_number-is, needed-held}
use Rattle.hem_bound.specs.Sums.{total}
use Rattle.hem_bound.specs.Sizes.{size_of, sizes_where}
use Rattle.hem_bound.specs.Potential.{up_weight, kid_size, lock_weight, potential}
use Rattle.hem_bound.specs.Changes.{request_weight, asked_size, targets_size, off, on, Changes}
use Rattle.hem_bound.specs.Starts.{rule_of, takes_nothing, takes_request, is_start}
use Rattle.hem_bound.proofs.Sizes.{sizes_fit, sizes_fit_both, size_few}
use Rattle.hem_bound.proofs.Levels.{weight_most}
use Rattle.hem_bound.proofs.ByTemplate.{starts_by, NeedsWeight, HeldFor, FitBoth, new_weight, Weighs, comes_to, Fits, outweighs}
use Rattle.hem_bound.proofs.Moved.{up_taken, down_taken, up_sent, down_sent, lock_there, line_moved, line_moved_whole}
use Rattle.hem_bound.proofs.Taken.{up_taken-is, down_taken-is, request_higher, request_heavy, lock_total, up_sent-is, down_sent-is}

-- the requester's subtree is smaller than the object's
fits_asked : (tree : Tree) (o : ℕ) (asked : Option By) → IsTree tree → o < length tree → asked_size tree o asked + 1 ≤ size_of tree o
fits_asked tree o asked lawful inside = by_asked asked
  where
    some : 1 ≤ size_of tree o
    some = let fits = sizes_fit tree (lawful_early tree lawful) o (λ d. false) inside in omega (arith, fits)

    by_asked : (asked : Option By) → asked_size tree o asked + 1 ≤ size_of tree o
    by_asked None = some
    by_asked (Some Processor) = some
    by_asked (Some (Kid c)) = sizes_fit tree (lawful_early tree lawful) o (λ d. d == c) inside
    by_asked (Some Parent) = some
    by_asked (Some Own) = some

-- so are the targets'
fits_target : (tree : Tree) (o : ℕ) (t : To) → IsTree tree → o < length tree → targets_size tree o t + 1 ≤ size_of tree o
fits_target tree o t lawful inside = by_way t
  where
    some : 1 ≤ size_of tree o
    some = let fits = sizes_fit tree (lawful_early tree lawful) o (λ d. false) inside in omega (arith, fits)

    by_way : (t : To) → targets_size tree o t + 1 ≤ size_of tree o
    by_way to.Nobody = some
    by_way to.Answer = some
    by_way (to.Kid c) = some
    by_way to.UpRequest = some
    by_way to.UpResponse = some
    by_way (to.Kids set) = sizes_fit tree (lawful_early tree lawful) o (has_bit set.0) inside

-- and so are the requester's and the targets' together, where the requester isn't among them
fit_both : (p : Protocol) (tree : Tree) (o : ℕ) (kind : Kind) (sending : Sending) (asked : Option By) (targets : KidSet) (e : Effect) → IsTree tree → o < length tree → IsSent p kind sending asked targets e.outs → FitBoth sending (asked_size tree o asked) (targets_size tree o e.outs.to) (size_of tree o)
fit_both p tree o kind NothingSent asked targets e lawful inside sent = tt
fit_both p tree o kind ToRequester asked targets e lawful inside sent = tt
fit_both p tree o kind RequestUp asked targets e lawful inside sent = tt
fit_both p tree o kind ResponseUp asked targets e lawful inside sent = tt
fit_both p tree o kind ToKids asked targets e lawful inside sent = tt
fit_both p tree o kind ToOthers asked targets e lawful inside sent =
    let is : asked_size tree o asked ≡ kid_size tree o sent.by = ap (asked_size tree o) sent.asker in
    let goes : targets_size tree o e.outs.to ≡ target = ap (targets_size tree o) sent.kids.goes in
    omega (arith, is, goes, by_holder sent.by sent.spares)
  where
    target : ℕ
    target = sizes_where tree o (has_bit targets.0)

    alone : target + 1 ≤ size_of tree o
    alone = sizes_fit tree (lawful_early tree lawful) o (has_bit targets.0) inside

    by_holder : (by : By) → ((c : ℕ) → by ≡ Kid c → has_bit targets.0 c ≡ false) → kid_size tree o by + target + 1 ≤ size_of tree o
    by_holder Processor spares = omega (arith, alone)
    by_holder (Kid c) spares = sizes_fit_both tree (lawful_early tree lawful) o (λ d. d == c) (has_bit targets.0) inside (λ d same. ap (has_bit targets.0) (eqb-true d c same) ∙ spares c refl)
    by_holder Parent spares = omega (arith, alone)
    by_holder Own spares = omega (arith, alone)

-- the requester is the child for which the downlock is held, where responses of children are taken
held_for : (tree : Tree) (o : ℕ) (taking : Taking) (me : Option ℕ) (local : Local) → HeldFor taking (asked_size tree o (requester_of taking me local)) (held local.down) (lock_weight tree o local.down)
held_for tree o NothingTaken me local = tt
held_for tree o FromRequester me local = tt
held_for tree o ParentRequest me local = tt
held_for tree o ParentResponse me local = tt
held_for tree o FromKids me local = by_lock local.down
  where
    by_holder : (by : By) → kid_size tree o by ≡ asked_size tree o (elim by as (λ b. Option By) [ Kid c ↦ Some (Kid c) | _ ↦ None ])
    by_holder Processor = refl
    by_holder (Kid c) = refl
    by_holder Parent = refl
    by_holder Own = refl

    by_lock : (lock : Option Lock) → lock_weight tree o lock ≡ held lock + 2 * asked_size tree o (kid_asker lock)
    by_lock None = refl
    by_lock (Some lock) = ap (λ x. 1 + 2 * x) (by_holder lock.by)

-- the weight of a downlock that is as a rule needs it
needed-weight : (tree : Tree) (o : ℕ) (need : Hold) (lock : Option Lock) → IsNeeded need lock → NeedsWeight need (lock_weight tree o lock)
needed-weight tree o hold.Any lock it = tt
needed-weight tree o hold.Free lock it = ap (lock_weight tree o) it
needed-weight tree o hold.Child lock it = tt
needed-weight tree o hold.Parent lock it = ap (lock_weight tree o) it.1 ∙ ap (λ (by : By). 1 + 2 * kid_size tree o by) it.2
needed-weight tree o hold.Own lock it = ap (lock_weight tree o) it.1 ∙ ap (λ (by : By). 1 + 2 * kid_size tree o by) it.2

-- the weight of a new downlock
taken-weight : (tree : Tree) (o : ℕ) (asked : Option By) (targets : KidSet) (now : Option Lock) (origin : Origin) → IsTaken origin asked targets now → lock_weight tree o now ≡ new_weight (asked_size tree o asked) origin
taken-weight tree o asked targets now origin.Child taken = ap (lock_weight tree o) taken.held ∙ sym (ap (λ (a : Option By). 1 + 2 * asked_size tree o a) taken.holder)
taken-weight tree o asked targets now origin.Parent taken = ap (lock_weight tree o) taken.held ∙ ap (λ (by : By). 1 + 2 * kid_size tree o by) taken.holder
taken-weight tree o asked targets now origin.Own taken = ap (lock_weight tree o) taken.held ∙ ap (λ (by : By). 1 + 2 * kid_size tree o by) taken.holder

-- a firing starts a transaction where its template's row says so
starts-taking : (p : Protocol) (taking : Taking) (rule : Rule) (me : Option ObjectId) → IsTaking p taking rule.take → (takes_nothing rule.take || takes_request rule.take me) ≡ starts_by taking (is_some me)
starts-taking p NothingTaken rule me is = ap (λ (t : Take). takes_nothing t || takes_request t me) is
starts-taking p ParentRequest rule me is = ap (λ (t : Take). takes_nothing t || takes_request t me) is.1
starts-taking p ParentResponse rule me is = ap (λ (t : Take). takes_nothing t || takes_request t me) is.1
starts-taking p FromKids rule me is = ap (λ (t : Take). takes_nothing t || takes_request t me) is.1
starts-taking p FromRequester rule me is = ap (λ (t : Take). takes_nothing t || takes_request t me) is.1 ∙ by_me me
  where
    by_me : (me : Option ObjectId) → is_none me ≡ not (is_some me)
    by_me None = refl
    by_me (Some child) = refl

pub rule_is : (p : Protocol) (tree : Tree) (line : Line) (f : Firing) (e : Effect) (it : IsActed p tree line f e) → rule_of p tree f ≡ Some it.rule
rule_is p tree line f e it = rw (it.kind_is, it.named) refl

pub start_is : (p : Protocol) (tree : Tree) (line : Line) (f : Firing) (e : Effect) (it : IsActed p tree line f e) → is_start p tree f ≡ starts_by (row_of it.template).taking (is_some f.me)
start_is p tree line f e it =
    ap (λ (rule : Option Rule). option_map_or (λ rule. takes_nothing rule.take) rule false || option_map_or (λ rule. takes_request rule.take f.me) rule false) (rule_is p tree line f e it)
    ∙ starts-taking p (row_of it.template).taking it.rule f.me (of_row p it.kind it.rule it.template it.has_template).taking

module _ (p : Protocol) (tree : Tree) (line : Line) (f : Firing) (e : Effect) (lawful : IsTree tree) (it : IsActed p tree line f e) where
  abbrev o : ℕ
  o = f.object.0

  abbrev row : Row
  row = row_of it.template

  abbrev asked : Option By
  asked = requester_of row.taking (place_of_me tree o f.me) it.local

  inside : o < length tree
  inside = within tree o it.kind it.kind_is

  -- what is taken and sent comes to what the template says
  change_is : total (length tree) (up_taken tree f e) + total (length tree) (down_taken tree f e) + total (length tree) (lock_there tree f it.local.down) + on tree f e it.template it.local ≡ total (length tree) (up_sent tree f e) + total (length tree) (down_sent tree f e) + total (length tree) (lock_there tree f e.after.down) + off tree f it.template it.local
  change_is =
      let numbers : Weighs row (request_weight tree f.me) (size_of tree o) (up_weight tree o) (asked_size tree o asked) (targets_size tree o e.outs.to) (held it.local.down) (lock_weight tree o it.local.down) (lock_weight tree o e.after.down) (total (length tree) (up_taken tree f e)) (total (length tree) (down_taken tree f e)) (total (length tree) (up_sent tree f e)) (total (length tree) (down_sent tree f e)) = record {
        taken_up_is = up_taken-is tree f e row.taking it.own_child it.acts.taken_request;
        taken_down_is = down_taken-is tree f e row.taking inside it.acts.taken_parent;
        needs = needed-held row.down it.local.down it.acts.down_before;
        needs_weight = needed-weight tree o row.down it.local.down it.acts.down_before;
        held_for = held_for tree o row.taking (place_of_me tree o f.me) it.local;
        new_is = down_number-is (lock_weight tree o) (new_weight (asked_size tree o asked)) row.frees row.locks asked it.acts.targets it.local.down e.after.down refl (λ origin. taken-weight tree o asked it.acts.targets e.after.down origin) it.acts.down_after;
        sent_up_is = up_sent-is p tree f e it.kind row.sending asked it.acts.targets inside it.acts.sent;
        sent_down_is = down_sent-is p tree f e it.kind row.sending asked it.acts.targets it.acts.sent;
      } in
      let table = comes_to it.template (request_weight tree f.me) (size_of tree o) (up_weight tree o) (asked_size tree o asked) (targets_size tree o e.outs.to) (held it.local.down) (lock_weight tree o it.local.down) (lock_weight tree o e.after.down) (total (length tree) (up_taken tree f e)) (total (length tree) (down_taken tree f e)) (total (length tree) (up_sent tree f e)) (total (length tree) (down_sent tree f e)) numbers in
      omega (arith, table, lock_total tree f it.local.down inside, lock_total tree f e.after.down inside)

  -- what the template says puts on less than it takes off, but for starts
  change_few : on tree f e it.template it.local + 1 ≤ off tree f it.template it.local + cond (is_start p tree f) (3 * length tree) 0
  change_few =
      let numbers : Fits row (is_some f.me) (length tree) (request_weight tree f.me) (size_of tree o) (up_weight tree o) (asked_size tree o asked) (targets_size tree o e.outs.to) = record {
        few = size_few tree o;
        most = weight_most tree o lawful inside;
        fits_asked = fits_asked tree o asked lawful inside;
        fits_target = fits_target tree o e.outs.to lawful inside;
        fit_both = fit_both p tree o it.kind row.sending asked it.acts.targets e lawful inside it.acts.sent;
        higher = request_higher tree o f.me lawful it.own_child;
        heavy = request_heavy tree o f.me lawful it.own_child;
      } in
      let fits = outweighs it.template (is_some f.me) (length tree) (request_weight tree f.me) (size_of tree o) (up_weight tree o) (asked_size tree o asked) (targets_size tree o e.outs.to) numbers in
      let start : cond (is_start p tree f) (3 * length tree) 0 ≡ cond (starts_by row.taking (is_some f.me)) (3 * length tree) 0 = ap (λ b. cond b (3 * length tree) 0) (start_is p tree line f e it) in
      omega (arith, fits, start)

  acted_after : potential tree (line_after tree f e line) + 1 ≤ potential tree line + cond (is_start p tree f) (3 * length tree) 0
  acted_after = omega (arith, change_is, change_few, line_moved p tree line f e it)

  acted_changes : length line ≡ length tree → Changes p tree line f e
  acted_changes size = record { template = it.template; of = has_template it; local = it.local; there = it.there; change = omega (arith, change_is, line_moved_whole p tree line f e it size) }

-- the potential of a line after a firing
pub potential_after : (p : Protocol) (tree : Tree) (line : Line) (f : Firing) (e : Effect) → IsTree tree → AllHaveTemplates p → effect_of p tree line f ≡ Some e → potential tree (line_after tree f e line) + 1 ≤ potential tree line + cond (is_start p tree f) (3 * length tree) 0
potential_after p tree line f e lawful templates possible = acted_after p tree line f e lawful (acted p tree line f e templates possible)

-- a firing changes the potential as its template says
pub changes : (p : Protocol) (tree : Tree) (line : Line) (f : Firing) (e : Effect) → IsTree tree → AllHaveTemplates p → length line ≡ length tree → effect_of p tree line f ≡ Some e → Changes p tree line f e
changes p tree line f e lawful templates size possible = acted_changes p tree line f e lawful (acted p tree line f e templates possible) size

-- so a firing with which no transaction starts lowers it
pub falls : (p : Protocol) (tree : Tree) (line : Line) (f : Firing) (e : Effect) → IsTree tree → AllHaveTemplates p → effect_of p tree line f ≡ Some e → is_start p tree f ≡ false → potential tree (line_after tree f e line) < potential tree line
falls p tree line f e lawful templates possible other =
    let none : cond (is_start p tree f) (3 * length tree) 0 ≡ 0 = ap (λ b. cond b (3 * length tree) 0) other in
    omega (arith, none, potential_after p tree line f e lawful templates possible)

-- and each other raises it by less than three times the objects
pub if_at_most : (b : Bool) (x : ℕ) → cond b x 0 ≤ x
if_at_most true x = omega arith
if_at_most false x = omega arith

pub rises : (p : Protocol) (tree : Tree) (line : Line) (f : Firing) (e : Effect) → IsTree tree → AllHaveTemplates p → effect_of p tree line f ≡ Some e → potential tree (line_after tree f e line) < potential tree line + 3 * length tree
rises p tree line f e lawful templates possible = omega (arith, potential_after p tree line f e lawful templates possible, if_at_most (is_start p tree f) (3 * length tree))
