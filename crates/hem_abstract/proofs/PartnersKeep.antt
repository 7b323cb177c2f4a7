-- A partner that doesn't break a waiting request in the abstract state leaves its guard and value in the local state.
use Rattle.std.proofs.Common.{◌≡◌, refl, ap, sym, ◌∙◌, subst, ℕ, zero, suc, ◌+◌, ◌<◌, Bool, true, false, not, ◌&&◌, List, [], ◌∷◌, length, arith, Option, Some, None}
use Rattle.std.specs.Prelude.{◌==◌, ◌||◌, slice_get, is_some, option_map, Ok}
use Rattle.std.specs.List.{list_any, list_all}
use Rattle.std.specs.Option.{option_map_or}
use Rattle.std.proofs.lemmas.Bool.{eqb-true, eq-eqb}
use Rattle.hem_base.specs.Sets.{has_bit, bits_where}
use Rattle.hem_base.specs.declared.ids.Status8.{Status8}
use Rattle.hem_base.specs.declared.ids.StatusSet.{StatusSet}
use Rattle.hem_base.specs.declared.ids.MsgId.{MsgId}
use Rattle.hem_base.specs.declared.ids.Message.{Message}
use Rattle.hem_base.specs.declared.ids.Kind.{Kind}
use Rattle.hem_syntax.specs.declared.rule.Rule.{Rule}
use Rattle.hem_syntax.specs.declared.rule.Atom.{Atom}
use Rattle.hem_syntax.specs.declared.rule.Atom.TheVariants as atom
use Rattle.hem_syntax.specs.declared.rule.Assign.{Assign}
use Rattle.hem_syntax.specs.declared.rule.Assign.TheVariants as assign
use Rattle.hem_syntax.specs.declared.rule.Take.TheVariants as take
use Rattle.hem_syntax.specs.declared.rule.Side.TheVariants as side
use Rattle.hem_syntax.specs.declared.rule.Origin.TheVariants as origin
use Rattle.hem_syntax.specs.declared.rule.SendTo.TheVariants as send
use Rattle.hem_template.specs.declared.template_name.TemplateName.{TemplateName}
use Rattle.hem_template.specs.declared.template_name.TemplateName.TheVariants.{ImmUp, RqDownDown, RsUpUp}
use Rattle.hem_syntax.specs.Protocol.{Protocol, class_of, is_request}
use Rattle.hem_object.specs.Local.{Local}
use Rattle.hem_object.specs.Guard.{has, is_in}
use Rattle.hem_syntax.specs.Lawful.{set_once}
use Rattle.hem_template.specs.Template.{template_of, row_of, may_name_requester, has_kept, has_rs, atom_fits, set_fits, is_leaf, reads_me, guard_sees_me}
use Rattle.hem_template.specs.declared.row.Row.{Row}
use Rattle.hem_object.specs.Targets.{targets_of}
use Rattle.hem_object.specs.Changes.{assigned, freed, locked}
use Rattle.hem_fire.specs.declared.outs.Outs.{Outs}
use Rattle.hem_fire.specs.Heads.{Heads, has_id}
use Rattle.hem_fire.specs.View.{view_of}
use Rattle.hem_fire.specs.Locks.{if_request, first_of, lock_taken, request_in_hand}
use Rattle.hem_abstract.specs.Abstract.{Abstract, all_statuses, guard_at, atom_at, abstract_of, AreSmall}
use Rattle.hem_abstract.specs.Partners.{after, Partner, alone, pair, happens, after_partner, changes_val, breaks, sends_val, taken_from_parent}
use Rattle.hem_rows.proofs.Choices.{chosen, both, not-true}
use Rattle.hem_abstract.proofs.Exact.{guard-exact, kids_any-exact}
use Rattle.hem_abstract.proofs.AfterExact.{bits-alike, after-exact, val-exact}
use Rattle.hem_abstract.specs.Exact.{is_me, is_targets, AreAwaited, StillStands}
use Rattle.hem_fire.specs.OneFire.{OneFire}
use Rattle.hem_rows.specs.Rows.{IsOfRow}
use Rattle.hem_rows.proofs.Rows.{of_row}
use Rattle.hem_rows.proofs.Bits.{bits_where-is}
use Rattle.hem_rows.proofs.Possible.{can_parts}
use Rattle.hem_abstract.proofs.OneRule.{Does, names-parts}
use Rattle.hem_abstract.proofs.DownwardFrames.{imm_up, rq_down_down, rs_up_up, request-kept}
use Rattle.hem_abstract.proofs.TemplateForms.{is-imm_up, is-rq_down_down, is-rs_up_up}

-- what a template lets its rules read
pub scope-none : (p : Protocol) (kind : Kind) (rule : Rule) (t : TemplateName) → IsOfRow p kind rule t → guard_sees_me t ≡ false → list_any reads_me rule.guard ≡ false
scope-none p kind rule t of no_sight = not-true (list_any reads_me rule.guard) (sym (ap (λ b. b || not (list_any reads_me rule.guard)) no_sight) ∙ of.scope)

no-asked : (p : Protocol) (kind : Kind) (row : Row) (guard : List Atom) (at : Abstract) (a b : Option MsgId) → has_kept row.taking ≡ false → list_all (atom_fits p kind row) guard ≡ true → guard_at guard at a ≡ guard_at guard at b
no-asked p kind row [] at a b none fits = refl
no-asked p kind row (c ∷ guard) at a b none fits =
    let parts = both (atom_fits p kind row c) (list_all (atom_fits p kind row) guard) fits in
    let rest = no-asked p kind row guard at a b none parts.1 in
    let one = one_atom c parts.0 in
    rw (one, rest) refl
  where
    one_atom : (c : Atom) → atom_fits p kind row c ≡ true → atom_at at a c ≡ atom_at at b c
    one_atom (atom.Field i set) fits = refl
    one_atom (atom.Me set) fits = refl
    one_atom (atom.KidsAll set) fits = refl
    one_atom (atom.KidsAny set) fits = refl
    one_atom (atom.OthersAll set) fits = refl
    one_atom (atom.OthersAny set) fits = refl
    one_atom (atom.Asked id) fits = let kept : has_kept row.taking ≡ true = (both (has_kept row.taking) _ fits).0 in let clash : true ≡ false = sym kept ∙ none in cc

no-me : (kind : Kind) (row : Row) (sets : List Assign) → may_name_requester row ≡ false → list_all (set_fits kind row) sets ≡ true → list_any is_me sets ≡ false
no-me kind row [] none fits = refl
no-me kind row (assign.Me s ∷ sets) none fits = let me : may_name_requester row ≡ true = (both (may_name_requester row) (not (is_leaf kind)) (both (may_name_requester row && not (is_leaf kind)) (list_all (set_fits kind row) sets) fits).0).0 in let clash : true ≡ false = sym me ∙ none in cc
no-me kind row (assign.Field i s ∷ sets) none fits = no-me kind row sets none fits
no-me kind row (assign.Val v ∷ sets) none fits = no-me kind row sets none fits
no-me kind row (assign.Targets s ∷ sets) none fits = no-me kind row sets none (both (has_rs row.taking) (list_all (set_fits kind row) sets) fits).1

no-targets : (kind : Kind) (row : Row) (sets : List Assign) → has_rs row.taking ≡ false → list_all (set_fits kind row) sets ≡ true → list_any is_targets sets ≡ false
no-targets kind row [] none fits = refl
no-targets kind row (assign.Targets s ∷ sets) none fits = let rs = (both (has_rs row.taking) (list_all (set_fits kind row) sets) fits).0 in let clash : true ≡ false = sym rs ∙ none in cc
no-targets kind row (assign.Field i s ∷ sets) none fits = no-targets kind row sets none fits
no-targets kind row (assign.Val v ∷ sets) none fits = no-targets kind row sets none fits
no-targets kind row (assign.Me s ∷ sets) none fits = no-targets kind row sets none (both (may_name_requester row && not (is_leaf kind)) (list_all (set_fits kind row) sets) fits).1

-- by a partner that happens and doesn't break it
unbroken : (u : Rule) (d : Partner) (at : Abstract) → guard_at u.guard at None ≡ true → happens d at ≡ true → breaks u d at ≡ false → (guard_at u.guard (after_partner d at) None ≡ true) × (sends_val u ≡ true → changes_val d ≡ false)
unbroken u d at guarded happen whole = by_parts (guard_at u.guard at None) (happens d at) (guard_at u.guard (after_partner d at) None) (sends_val u) (changes_val d) guarded happen whole
  where
    by_parts : (a b c e f : Bool) → a ≡ true → b ≡ true → (a && b && (not c || (e && f))) ≡ false → (c ≡ true) × (e ≡ true → f ≡ false)
    by_parts true true true true true is at whole = cc
    by_parts true true true true false is at whole = (refl, λ sends. refl)
    by_parts true true true false f is at whole = (refl, λ sends. cc)
    by_parts true true false e f is at whole = cc
    by_parts true false c e f is at whole = cc
    by_parts false b c e f is at whole = cc

-- an answer to the parent's request
pub alone-keeps : (p : Protocol) (kind : Kind) (u d : Rule) (me : Option ℕ) (local : Local) (heads : Heads) (next : Local) (outs : Outs) → IsOfRow p kind d ImmUp → set_once d.sets ≡ true → AreSmall local.dir → Does p kind d me local heads next outs → guard_at u.guard (abstract_of local) None ≡ true → breaks u (alone d) (abstract_of local) ≡ false → StillStands u local next
alone-keeps p kind u d me local heads next outs of once small does guarded whole =
    let form = is-imm_up p kind d of in
    let view = view_of (take.Parent form.0) me local heads in
    let names = names-parts p kind d (row_of ImmUp) of.names in
    let written : Does p kind (imm_up d.name form.0 d.guard d.sets form.1 form.2) me local heads next outs = subst (λ r. Does p kind r me local heads next outs) form.3 does in
    let parts = can_parts p kind (imm_up d.name form.0 d.guard d.sets form.1 form.2) me local heads written.can in
    let holds_at : guard_at d.guard (abstract_of local) None ≡ true = no-asked p kind (row_of ImmUp) d.guard (abstract_of local) None (option_map (λ m. m.id) view.kept) refl names.guard ∙ guard-exact local view d.guard small (scope-none p kind d ImmUp of refl) ∙ parts.guard in
    let kept = unbroken u (alone d) (abstract_of local) guarded holds_at whole in
    let none = no-targets kind (row_of ImmUp) d.sets refl names.sets in
    let exact = after-exact view (record { 0 = 0 }) d.sets local (no-me kind (row_of ImmUp) d.sets refl names.sets) once (λ some. let clash : true ≡ false = sym some ∙ none in cc) in
    let leaves : assigned d.sets view local ≡ next = written.leaves in
    record {
      guard = ap (λ at. guard_at u.guard at None) (sym (exact ∙ ap abstract_of leaves)) ∙ kept.0;
      value = λ sends. ap (λ (l : Local). l.val) (sym leaves) ∙ val-exact view d.sets local (kept.1 sends);
    }

-- the children that a request is sent to
sent-some : (set : StatusSet) (dir : List Status8) (n : ℕ) → list_any (has set) dir ≡ false → bits_where (λ k. is_in set (slice_get dir k)) n ≡ 0
sent-some set dir n none = bits-alike (λ k. is_in set (slice_get dir k)) (λ k. false) n (λ k less. none_in dir k none) ∙ nothing n
  where
    none_in : (dir : List Status8) (k : ℕ) → list_any (has set) dir ≡ false → is_in set (slice_get dir k) ≡ false
    none_in [] k none = refl
    none_in (d ∷ dir) zero none = (neither (has set d) (list_any (has set) dir) none).0
      where
        neither : (a b : Bool) → (a || b) ≡ false → (a ≡ false) × (b ≡ false)
        neither true b is = cc
        neither false b is = (refl, is)
    none_in (d ∷ dir) (suc k) none = none_in dir k (neither (has set d) (list_any (has set) dir) none).1
      where
        neither : (a b : Bool) → (a || b) ≡ false → (a ≡ false) × (b ≡ false)
        neither true b is = cc
        neither false b is = (refl, is)

    nothing : (n : ℕ) → bits_where (λ k. false) n ≡ 0
    nothing zero = refl
    nothing (suc n) = let rest = nothing n in omega arith

some-sent : (set : StatusSet) (dir : List Status8) (n : ℕ) → not (bits_where (λ k. is_in set (slice_get dir k)) n == 0) ≡ true → list_any (has set) dir ≡ true
some-sent set dir n some = by_test (list_any (has set) dir) refl
  where
    by_test : (b : Bool) → list_any (has set) dir ≡ b → b ≡ true
    by_test true is = refl
    by_test false is = let clash : not true ≡ true = ap not (sym (eq-eqb (bits_where (λ k. is_in set (slice_get dir k)) n) 0 (sent-some set dir n is))) ∙ some in cc

-- are those whose status is in the set
awaited-from : (set : StatusSet) (bits k : ℕ) (all dir : List Status8) → ((i : ℕ) → i < length dir → (has_bit bits (k + i) ≡ is_in set (slice_get all (k + i))) × (slice_get all (k + i) ≡ slice_get dir i)) → AreAwaited (has_bit bits) set k dir
awaited-from set bits k all [] same = tt
awaited-from set bits k all (d ∷ dir) same =
    let first = same 0 (omega arith) in
    let z : k + 0 ≡ k = omega arith in (
      ap (has_bit bits) (sym z) ∙ first.0 ∙ ap (is_in set) first.1,
      awaited-from set bits (k + 1) all dir (λ i less. let e : (k + 1) + i ≡ k + suc i = omega arith in let it = same (suc i) (omega arith) in (ap (has_bit bits) e ∙ it.0 ∙ ap (λ j. is_in set (slice_get all j)) (sym e), ap (slice_get all) e ∙ it.1)),
    )

targets-awaited : (set : StatusSet) (dir : List Status8) → AreAwaited (has_bit (bits_where (λ k. is_in set (slice_get dir k)) (length dir))) set 0 dir
targets-awaited set dir = awaited-from set (bits_where (λ k. is_in set (slice_get dir k)) (length dir)) 0 dir dir (λ i less. let z : 0 + i ≡ i = omega arith in (bits_where-is (λ k. is_in set (slice_get dir k)) (length dir) (0 + i) (omega arith), ap (slice_get dir) z))

-- the request that a lock keeps has the id that the rule takes
request-id : (p : Protocol) (id : MsgId) (head : Option Message) (m : Message) → has_id head id ≡ true → if_request p head ≡ Some m → m.id ≡ id
request-id p id None m has is = cc
request-id p id (Some x) m has is =
    let it = chosen (option_map_or is_request (class_of p x.id) false) x m is in
    let same : x.id ≡ id = ap (λ n. let i : MsgId = record { 0 = n } in i) (eqb-true x.id.0 id.0 has) in
    ap (λ (y : Message). y.id) (sym it.1) ∙ same

-- a request that is passed on, and the answer after those of the children
pub pair-keeps : (p : Protocol) (kind : Kind) (u q r : Rule) (mq mr : Option ℕ) (local : Local) (hq hr : Heads) (mid next : Local) (outs_q outs_r : Outs) → IsOfRow p kind q RqDownDown → IsOfRow p kind r RsUpUp → set_once r.sets ≡ true → AreSmall local.dir → Does p kind q mq local hq mid outs_q → Does p kind r mr mid hr next outs_r → guard_at u.guard (abstract_of local) None ≡ true → breaks u (pair q r) (abstract_of local) ≡ false → StillStands u local next
pair-keeps p kind u q r mq mr local hq hr mid next outs_q outs_r of_q of_r once small does_q does_r guarded whole =
    let fq = is-rq_down_down p kind q of_q in
    let fr = is-rs_up_up p kind r of_r in
    let id = fq.0 in
    let set = fq.1 in
    let wq : Does p kind (rq_down_down q.name id q.guard set fq.2 fq.3) mq local hq mid outs_q = subst (λ x. Does p kind x mq local hq mid outs_q) fq.5 does_q in
    let wr : Does p kind (rs_up_up r.name fr.0 r.guard r.sets fr.1 fr.2) mr mid hr next outs_r = subst (λ x. Does p kind x mr mid hr next outs_r) fr.3 does_r in
    let parts_q = can_parts p kind (rq_down_down q.name id q.guard set fq.2 fq.3) mq local hq wq.can in
    let parts_r = can_parts p kind (rs_up_up r.name fr.0 r.guard r.sets fr.1 fr.2) mr mid hr wr.can in
    let view_q = view_of (take.Parent id) mq local hq in
    let names_q = names-parts p kind q (row_of RqDownDown) of_q.names in
    let names_r = names-parts p kind r (row_of RsUpUp) of_r.names in
    -- the lock that is taken
    let taken = request-kept p id hq.parent parts_q.takes fq.4 in
    let targets = targets_of (send.Kids set fq.2 fq.3) local view_q in
    let hand : request_in_hand p (take.Parent id) (send.Kids set fq.2 fq.3) local view_q hq ≡ Some taken.0 = ap (λ m. first_of m view_q.kept) taken.1 in
    let held : option_map_or (λ l. locked l.0 l.1 local) (lock_taken (Some (side.Down, origin.Parent)) view_q (Some taken.0) targets) local ≡ mid = ap (λ m. option_map_or (λ l. locked l.0 l.1 local) (lock_taken (Some (side.Down, origin.Parent)) view_q m targets) local) (sym hand) ∙ wq.leaves in
    let asked : Some taken.0.id ≡ taken_from_parent q = ap Some (request-id p id hq.parent taken.0 parts_q.takes taken.1) ∙ sym (ap taken_from_parent fq.5) in
    let dir : mid.dir ≡ local.dir = ap (λ (l : Local). l.dir) (sym held) in
    let at : abstract_of mid ≡ abstract_of local = ap abstract_of (sym held) in
    let view_r = view_of (take.Kids fr.0) mr mid hr in
    let kept : option_map {U = MsgId} (λ m. m.id) view_r.kept ≡ Some taken.0.id = ap (λ (l : Local). option_map {U = MsgId} (λ m. m.id) (view_of (take.Kids fr.0) mr l hr).kept) (sym held) in
    -- both happen in the abstract state
    let first : guard_at q.guard (abstract_of local) None ≡ true = no-asked p kind (row_of RqDownDown) q.guard (abstract_of local) None (option_map (λ m. m.id) view_q.kept) refl names_q.guard ∙ guard-exact local view_q q.guard small (scope-none p kind q RqDownDown of_q refl) ∙ parts_q.guard in
    let some : list_any (has set) local.dir ≡ true = some-sent set local.dir (length local.dir) (both (is_some _) (not (targets.0 == 0)) parts_q.send).1 in
    let small_mid : AreSmall mid.dir = subst AreSmall (sym dir) small in
    let second : guard_at r.guard (abstract_of local) (taken_from_parent q) ≡ true =
    ap (λ a. guard_at r.guard a (taken_from_parent q)) (sym at) ∙ ap (guard_at r.guard (abstract_of mid)) (sym (kept ∙ asked)) ∙ guard-exact mid view_r r.guard small_mid (scope-none p kind r RsUpUp of_r refl) ∙ parts_r.guard in
    let middle : list_any (λ s. has set s && has (abstract_of local).kids s) all_statuses ≡ true = swap_any set (abstract_of local).kids all_statuses ∙ kids_any-exact set local small ∙ some in
    let sent : happens (pair q r) (abstract_of local) ≡ happens (pair (rq_down_down q.name id q.guard set fq.2 fq.3) r) (abstract_of local) = ap (λ (x : Rule). happens (pair x r) (abstract_of local)) fq.5 in
    let happen : happens (pair q r) (abstract_of local) ≡ true = sent ∙ three _ _ _ first middle (ap (λ x. guard_at r.guard (abstract_of local) (taken_from_parent x)) (sym fq.5) ∙ second) in
    let stands = unbroken u (pair q r) (abstract_of local) guarded happen whole in
    -- the state after both
    let awaits : AreAwaited (has_bit view_r.awaited.0) set 0 mid.dir = subst (λ (l : Local). AreAwaited (has_bit (view_of (take.Kids fr.0) mr l hr).awaited.0) set 0 l.dir) held (targets-awaited set local.dir) in
    let exact = after-exact view_r set r.sets mid (no-me kind (row_of RsUpUp) r.sets refl names_r.sets) once (λ is. (awaits, ap (list_any (has set)) dir ∙ some)) in
    let leaves : freed (Some side.Down) (assigned r.sets view_r mid) ≡ next = wr.leaves in
    let after_is : after_partner (pair q r) (abstract_of local) ≡ abstract_of next = ap (λ (x : Rule). after_partner (pair x r) (abstract_of local)) fq.5 ∙ ap (λ a. after a r.sets set) (sym at) ∙ exact ∙ ap abstract_of leaves in
    record {
      guard = ap (λ a. guard_at u.guard a None) (sym after_is) ∙ stands.0;
      value = λ sends. ap (λ (l : Local). l.val) (sym leaves) ∙ val-exact view_r r.sets mid (stands.1 sends) ∙ ap (λ (l : Local). l.val) (sym held);
    }
  where
    three : (a b c : Bool) → a ≡ true → b ≡ true → c ≡ true → (a && b && c) ≡ true
    three a b c ia ib ic = rw (ia, ib, ic) refl

    swap_any : (a b : StatusSet) (ss : List Status8) → list_any (λ s. has a s && has b s) ss ≡ list_any (λ s. has b s && has a s) ss
    swap_any a b [] = refl
    swap_any a b (s ∷ ss) = let rest = swap_any a b ss in let here = turned (has a s) (has b s) in rw (here, rest) refl
      where
        turned : (x y : Bool) → (x && y) ≡ (y && x)
        turned true true = refl
        turned true false = refl
        turned false true = refl
        turned false false = refl

-- a firing of a rule, as the definition of firings says it
does_of : (p : Protocol) (kind : Kind) (rule : Rule) (me : Option ℕ) (local : Local) (heads : Heads) (next : Local) (outs : Outs) → OneFire p kind rule me local heads next outs → Does p kind rule me local heads next outs
does_of p kind rule me local heads next outs fires = record { can = fires.possible; leaves = sym fires.leaves; gives = sym fires.gives }

-- what a partner leaves of a waiting request, by the templates of its rules
pub alone-leaves : (p : Protocol) (kind : Kind) (u d : Rule) (me : Option ℕ) (local : Local) (heads : Heads) (next : Local) (outs : Outs) → template_of p kind d ≡ Ok ImmUp → set_once d.sets ≡ true → AreSmall local.dir → OneFire p kind d me local heads next outs → guard_at u.guard (abstract_of local) None ≡ true → breaks u (alone d) (abstract_of local) ≡ false → StillStands u local next
alone-leaves p kind u d me local heads next outs template once small fires guarded whole =
    alone-keeps p kind u d me local heads next outs (of_row p kind d ImmUp template) once small (does_of p kind d me local heads next outs fires) guarded whole

pub pair-leaves : (p : Protocol) (kind : Kind) (u q r : Rule) (mq mr : Option ℕ) (local : Local) (hq hr : Heads) (mid next : Local) (outs_q outs_r : Outs) → template_of p kind q ≡ Ok RqDownDown → template_of p kind r ≡ Ok RsUpUp → set_once r.sets ≡ true → AreSmall local.dir → OneFire p kind q mq local hq mid outs_q → OneFire p kind r mr mid hr next outs_r → guard_at u.guard (abstract_of local) None ≡ true → breaks u (pair q r) (abstract_of local) ≡ false → StillStands u local next
pair-leaves p kind u q r mq mr local hq hr mid next outs_q outs_r first second once small fires_q fires_r guarded whole =
    pair-keeps p kind u q r mq mr local hq hr mid next outs_q outs_r (of_row p kind q RqDownDown first) (of_row p kind r RsUpUp second) once small (does_of p kind q mq local hq mid outs_q fires_q) (does_of p kind r mr mid hr next outs_r fires_r) guarded whole
