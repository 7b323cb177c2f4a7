-- The clauses of a rule hold exactly where the rule can fire.
use Rattle.std.proofs.Common.{◌≡◌, refl, ap, sym, ◌∙◌, ℕ, Bool, true, false, ◌&&◌, List, ◌++◌, length, Option, Some}
use Rattle.std.specs.Prelude.{IsTrue, Ok}
use Rattle.std.specs.List.{list_all, flat_map}
use Rattle.std.specs.Option.{option_map_or}
use Rattle.std.proofs.lemmas.List.Folds.{list_all-append}
use Rattle.hem_syntax.specs.declared.rule.Rule.{Rule}
use Rattle.hem_syntax.specs.declared.rule.Side.{Side}
use Rattle.hem_syntax.specs.declared.rule.Side.TheVariants.{Up, Down}
use Rattle.hem_template.specs.declared.template_name.TemplateName.{TemplateName}
use Rattle.hem_object.specs.declared.state.Lock.{Lock}
use Rattle.hem_syntax.specs.Protocol.{Protocol, part}
use Rattle.hem_object.specs.Local.{Local, IsWellFormed, IsStatus, IsOrigin}
use Rattle.hem_object.specs.Guard.{holds}
use Rattle.hem_syntax.specs.Lawful.{Counts, is_rule, counts_of, has_atom, has_assign}
use Rattle.hem_template.specs.Template.{template_of, row_of, atom_fits, set_fits, value_fits, value_sent, values_of, take_class_fits, send_class_fits}
use Rattle.hem_template.specs.Rows.{set_value_fits}
use Rattle.hem_emit.proofs.Values.{values_apart}
use Rattle.hem_object.specs.Changes.{assign_names}
use Rattle.hem_fire.specs.View.{view_of}
use Rattle.hem_fire.specs.Sends.{send_names}
use Rattle.hem_fire.specs.Heads.{takes_there}
use Rattle.hem_fire.specs.Locks.{need_holds, lock_names, request_in_hand}
use Rattle.hem_fire.specs.Heads.{Heads}
use Rattle.hem_fire.specs.OneFire.{me_fits, can_fire}
use Rattle.hem_module.specs.Step.{Held, clause_holds, mod_can}
use Rattle.hem_rows.specs.Rows.{IsOfRow}
use Rattle.hem_rows.proofs.Rows.{of_row}
use Rattle.hem_rows.proofs.Choices.{both}
use Rattle.hem_emit.specs.Names.{Reg, Queue}
use Rattle.hem_emit.specs.Place.{Place, Clause, asker_of}
use Rattle.hem_emit.specs.Clauses.{take_clauses, need_clauses, atom_clauses, send_clauses}
use Rattle.hem_emit.specs.Emit.{rule_at}
use Rattle.hem_emit.specs.Image.{lock_at}
use Rattle.hem_emit.specs.Shows.{AreKids, Shows}
use Rattle.hem_emit.proofs.Entries.{Sees, one_of_all}
use Rattle.hem_emit.proofs.Needs.{needs-are}
use Rattle.hem_emit.proofs.Takes.{takes-are}
use Rattle.hem_emit.proofs.Guards.{guard_is}
use Rattle.hem_emit.proofs.Faced.{faced}
use Rattle.hem_emit.proofs.Named.{sets_named, lock_named}
use Rattle.hem_emit.proofs.Sends.{levels, send_is}

-- a well-formed local state that is shown
pub sees_of : (p : Protocol) (at : Place) (me : Option ℕ) (local : Local) (heads : Heads) (s : Held Reg Queue) → at.statuses ≡ length p.statuses → AreKids at.kind at.kids → IsWellFormed p at.kind (length at.kids) local → Shows at me local heads s → Sees at me local heads s
sees_of p at me local heads s statuses kids formed shows =
    record {
      shows = shows;
      kids = kids;
      fields = λ i status there. let known = one_of_all (IsStatus p) local.fields i status formed.fields there in rw statuses known;
      dir = λ k status there. let known = one_of_all (IsStatus p) local.dir k status formed.dir there in rw statuses known;
      origin = origins;
    }
  where
    origins : (side : Side) (lock : Lock) → lock_at side local ≡ Some lock → IsOrigin at.kind (length at.kids) lock.by
    origins Up lock held = (formed.up lock held).0.origin
    origins Down lock held = (formed.down lock held).origin

-- the parts of a list of five
five_parts : (test : Clause → Bool) (a b c d e : List Clause) → list_all test (a ++ b ++ c ++ d ++ e) ≡ ((((list_all test a && list_all test b) && list_all test c) && list_all test d) && list_all test e)
five_parts test a b c d e =
    list_all-append test (a ++ b ++ c ++ d) e
    ∙ ap (λ x. x && list_all test e) (list_all-append test (a ++ b ++ c) d ∙ ap (λ x. x && list_all test d) (list_all-append test (a ++ b) c ∙ ap (λ x. x && list_all test c) (list_all-append test a b)))

-- where the rule can begin, its sets and its lock name what exists, and guard and send are read right
pub record Fired (sets lock guard read_guard send read_send : Bool) : Type 0 where
  pub sets_named : sets ≡ true
  pub lock_named : lock ≡ true
  pub guard_read : read_guard ≡ guard
  pub send_read : read_send ≡ send

as_one : (fits takes up down read_takes read_up read_down sets lock guard read_guard send read_send : Bool) → fits ≡ true → read_takes ≡ takes → read_up ≡ up → read_down ≡ down → ((((fits && takes) && up) && down) ≡ true → Fired sets lock guard read_guard send read_send) → ((((read_takes && read_up) && read_down) && read_guard) && read_send) ≡ ((((((((fits && takes) && up) && down) && sets) && lock) && guard) && send))
as_one fits true true true read_takes read_up read_down sets lock guard read_guard send read_send is t u d fired =
    let f = fired (rw is refl) in
    all_parts read_takes read_up read_down sets lock guard read_guard send read_send t u d f.sets_named f.lock_named f.guard_read f.send_read is
  where
    all_parts : (read_takes read_up read_down sets lock guard read_guard send read_send : Bool) → read_takes ≡ true → read_up ≡ true → read_down ≡ true → sets ≡ true → lock ≡ true → read_guard ≡ guard → read_send ≡ send → fits ≡ true → ((((read_takes && read_up) && read_down) && read_guard) && read_send) ≡ ((((((((fits && true) && true) && true) && sets) && lock) && guard) && send))
    all_parts read_takes read_up read_down sets lock guard read_guard send read_send t u d a b c e is = cc
as_one fits true true false read_takes read_up read_down sets lock guard read_guard send read_send is t u d fired = cc
as_one fits true false down read_takes read_up read_down sets lock guard read_guard send read_send is t u d fired = cc
as_one fits false up down read_takes read_up read_down sets lock guard read_guard send read_send is t u d fired = cc

-- what a declared rule names
pub record Declared (n : Counts) (rule : Rule) : Type 0 where
  pub guard : list_all (has_atom n) rule.guard ≡ true
  pub sets : list_all (has_assign n) rule.sets ≡ true

pub declared : (n : Counts) (rule : Rule) → IsTrue (is_rule n rule) → Declared n rule
declared n rule is =
    let a = both _ _ is in
    let b = both _ _ a.0 in
    let c = both _ _ b.0 in
    record { guard = (both _ _ c.1).1; sets = (both _ _ (both _ _ b.1).0).1 }

pub clauses_exact : (p : Protocol) (at : Place) (rule : Rule) (t : TemplateName) (me : Option ℕ) (local : Local) (heads : Heads) (s : Held Reg Queue) → template_of p at.kind rule ≡ Ok t → IsTrue (is_rule (counts_of p (part p at.kind)) rule) → IsTrue (me_fits at.kind rule.take me (length at.kids)) → at.statuses ≡ length p.statuses → AreKids at.kind at.kids → IsWellFormed p at.kind (length at.kids) local → Shows at me local heads s → mod_can s (rule_at p at rule me) ≡ can_fire p at.kind rule me local heads
clauses_exact p at rule t me local heads s has known fits statuses kids formed shows =
    five_parts (clause_holds s) (take_clauses at me rule.take) (need_clauses at Up rule.need.up) (need_clauses at Down rule.need.down) (flat_map (atom_clauses at (asker_of rule.take me)) rule.guard) (send_clauses at (asker_of rule.take me) rule.send)
    ∙ as_one (me_fits at.kind rule.take me (length local.dir)) (takes_there rule.take local heads) (need_holds rule.need.up local.up) (need_holds rule.need.down local.down) _ _ _
    (list_all (assign_names local (view_of rule.take me local heads)) rule.sets)
    (lock_names rule.lock (view_of rule.take me local heads) (request_in_hand p rule.take rule.send local (view_of rule.take me local heads) heads))
    (holds rule.guard local (view_of rule.take me local heads)) _
    (send_names at.kind rule.send local (view_of rule.take me local heads)) _
    fits_here (takes-are sees rule.take) (needs-are sees Up rule.need.up) (needs-are sees Down rule.need.down) fired
  where
    sees : Sees at me local heads s
    sees = sees_of p at me local heads s statuses kids formed shows

    one : IsOfRow p at.kind rule t
    one = of_row p at.kind rule t has

    names : Declared (counts_of p (part p at.kind)) rule
    names = declared (counts_of p (part p at.kind)) rule known

    fits_here : me_fits at.kind rule.take me (length local.dir) ≡ true
    fits_here = let count = shows.dir_count in rw count fits

    fields : (counts_of p (part p at.kind)).fields ≡ length local.fields
    fields = sym formed.field_count

    fired : (((me_fits at.kind rule.take me (length local.dir) && takes_there rule.take local heads) && need_holds rule.need.up local.up) && need_holds rule.need.down local.down) ≡ true → Fired (list_all (assign_names local (view_of rule.take me local heads)) rule.sets) (lock_names rule.lock (view_of rule.take me local heads) (request_in_hand p rule.take rule.send local (view_of rule.take me local heads) heads)) (holds rule.guard local (view_of rule.take me local heads)) (list_all (clause_holds s) (flat_map (atom_clauses at (asker_of rule.take me)) rule.guard)) (send_names at.kind rule.send local (view_of rule.take me local heads)) (list_all (clause_holds s) (send_clauses at (asker_of rule.take me) rule.send))
    fired begins =
        let a = both _ (need_holds rule.need.down local.down) begins in
        let b = both _ (need_holds rule.need.up local.up) a.0 in
        let c = both _ (takes_there rule.take local heads) b.0 in
        let up_is = one.up in
        let down_is = one.down in
        let up : need_holds (row_of t).up local.up ≡ true = rw up_is at b.1 in
        let down : need_holds (row_of t).down local.down ≡ true = rw down_is at a.1 in
        let face = faced sees p t rule.take one.taking c.0 c.1 up down in
        let fit = both _ (list_all (value_fits (row_of t)) (values_of rule)) one.names in
        let fit_names = both (list_all (atom_fits p at.kind (row_of t)) rule.guard) (list_all (set_fits at.kind (row_of t)) rule.sets) fit.0 in
        let values = both (list_all (set_value_fits (row_of t)) rule.sets) (option_map_or (value_fits (row_of t)) (value_sent rule.send) true) (sym (values_apart (row_of t) rule) ∙ fit.1) in
        let class = both (take_class_fits p at.kind rule.take) (send_class_fits p at.kind rule.send) one.class in
        let lock_is = one.lock in
        let locks = lock_named at me local heads s p t rule.take rule.send face one.taking one.sending class.0 c.1 values.1 in
        record {
          sets_named = sets_named face (counts_of p (part p at.kind)) fields rule.sets fit_names.1 names.sets values.0;
          lock_named = rw lock_is locks;
          guard_read = guard_is sees p (row_of t) (counts_of p (part p at.kind)) (asker_of rule.take me) (view_of rule.take me local heads) fields face.guarded rule.guard fit_names.0 names.guard;
          send_read = send_is sees p t (asker_of rule.take me) (view_of rule.take me local heads) face rule.send one.sending (levels at.kind rule one.level) values.1;
        }
