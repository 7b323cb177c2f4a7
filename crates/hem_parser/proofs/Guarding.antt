-- What the tokens of a rule's guard, sets and send keep.
use Rattle.std.proofs.Common.{◌≡◌, ◌<◌, ◌≤◌, nat_lt, Bool, true, List, [], ◌∷◌, ◌++◌, length, refl, sym, subst, ◌∙◌, arith}
use Rattle.std.specs.List.{list_any}
use Rattle.std.specs.Str.{bytes_eq}
use Rattle.hem_text.specs.Lexemes.{Lexeme}
use Rattle.hem_base.specs.declared.ids.Kind.{Kind}
use Rattle.hem_base.specs.declared.ids.Status8.{Status8}
use Rattle.hem_base.specs.declared.ids.MsgId.{MsgId}
use Rattle.hem_syntax.specs.declared.rule.Atom.{Atom}
use Rattle.hem_syntax.specs.declared.rule.Atom.TheVariants as condition
use Rattle.hem_syntax.specs.declared.rule.Assign.{Assign}
use Rattle.hem_syntax.specs.declared.rule.Assign.TheVariants as setting
use Rattle.hem_syntax.specs.declared.rule.Value.{Value}
use Rattle.hem_syntax.specs.declared.rule.Value.TheVariants as value
use Rattle.hem_syntax.specs.declared.rule.SendTo.{SendTo}
use Rattle.hem_syntax.specs.declared.rule.SendTo.TheVariants as sending_to
use Rattle.hem_grammar.specs.declared.terminals.Terminal.TheVariants as the
use Rattle.hem_grammar.specs.declared.terminals.AtomPart.TheVariants as atom
use Rattle.hem_grammar.specs.declared.terminals.AssignPart.TheVariants as assign
use Rattle.hem_grammar.specs.declared.terminals.SendPart.TheVariants as send
use Rattle.hem_syntax.specs.Lawful.{Counts, has_status, has_message, has_field, has_set, has_atom, has_assign, has_send, set_once}
use Rattle.hem_syntax.specs.Names.{set_last, last_or}
use Rattle.hem_grammar.specs.Draft.{Read, and_atom, is_among, is_field, field, message, status, no_atom, no_status, no_message, first_status, atom_with, assign_with, send_with_status, send_with_message, send_with_value, sets_field, sets_val, sets_me, sets_targets}
use Rattle.hem_text.specs.Spelling.{is_word}
use Rattle.hem_parser.proofs.Lists.{both, is_not, by_set, set_said, length_more, all_more, all_less, place_within, some_of, under, is_under}
use Rattle.hem_parser.proofs.Setting.{first_set, more_set, more_atom, set_more, set_again, alike_field, alike_val, alike_me, alike_targets, alike_with}
use Rattle.hem_parser.proofs.Claims.{Holds, inside, whole, speaking, asking, testing, valuing, choosing, sending, Guard, Open, Sets, Valued, counts}
use Rattle.hem_parser.proofs.Declaring.{Mk, has}
use Rattle.hem_parser.proofs.Ruling.{has_it}

-- a field that is used is declared
has_one : (e : Read) (t : Lexeme) → is_field e t ≡ true → nat_lt (field e t.text) (length e.fields) ≡ true
has_one e t used = place_within (λ f. bytes_eq f.0 t.text) e.fields (some_of (λ f. bytes_eq f.0 t.text) e.fields (both (is_word t) (is_among e.fields t.text) used).1)

-- one atom more that is still open
abbrev open_more : (n : Counts) (guard : List Atom) (a : Atom) → Guard n guard → length guard < 16 → Open n (guard ++ a ∷ [])
open_more n guard a good few = record { before = guard; last = a; is = refl; few = few; all = good.all }

-- the open atom is whole
closed : (n : Counts) (guard : List Atom) (f : Atom → Atom) (o : Open n guard) → has_atom n (f o.last) ≡ true → Guard n (set_last guard (f (last_or no_atom guard)))
closed n guard f o good =
    subst (Guard n) (sym (set_said no_atom f guard o.before o.last o.is)) (record { few = omega (arith, o.few, length_more o.before (f o.last)); all = all_more (has_atom n) o.before (f o.last) o.all good })

-- the last atom has a status more
wider : (n : Counts) (guard : List Atom) (s : Status8) → n.statuses ≤ 4 → has_status n s ≡ true → Guard n guard → Guard n (set_last guard (atom_with (last_or no_atom guard) s))
wider n guard s few declared good =
    by_set (Guard n) no_atom (λ a. atom_with a s) guard (λ none. record { few = omega arith; all = refl })
    (λ ys y is.
    let here : Guard n (ys ++ y ∷ []) = subst (Guard n) is good in
    let less = all_less (has_atom n) ys y here.all in
    record { few = omega (arith, here.few, length_more ys y, length_more ys (atom_with y s)); all = all_more (has_atom n) ys (atom_with y s) less.0 (more_atom n y s few declared less.1) })

-- one set more
sets_more : (n : Counts) (sets : List Assign) (a : Assign) → Sets n sets → length sets < 8 → has_assign n a ≡ true → set_once (sets ++ a ∷ []) ≡ true → Sets n (sets ++ a ∷ [])
sets_more n sets a good few one once = record { few = omega (arith, few, length_more sets a); all = all_more (has_assign n) sets a good.all one; once = once }

assigned : (n : Counts) (a : Assign) (s : Status8) → has_status n s ≡ true → has_assign n a ≡ true → has_assign n (assign_with a s) ≡ true
assigned n (setting.Field i t) s declared good = let two = both (has_field n i) (has_status n t) good in rw (two.0, declared) refl
assigned n (setting.Val v) s declared good = refl
assigned n (setting.Me t) s declared good = declared
assigned n (setting.Targets t) s declared good = declared

-- the last set has its status
settled : (n : Counts) (sets : List Assign) (s : Status8) → has_status n s ≡ true → Sets n sets → Sets n (set_last sets (assign_with (last_or (setting.Val value.Zero) sets) s))
settled n sets s declared good =
    by_set (Sets n) (setting.Val value.Zero) (λ a. assign_with a s) sets (λ none. record { few = omega arith; all = refl; once = refl })
    (λ ys y is.
    let here : Sets n (ys ++ y ∷ []) = subst (Sets n) is good in
    let less = all_less (has_assign n) ys y here.all in
    record { few = omega (arith, here.few, length_more ys y, length_more ys (assign_with y s)); all = all_more (has_assign n) ys (assign_with y s) less.0 (assigned n y s declared less.1); once = set_again ys (assign_with y s) y (alike_with y s) ∙ here.once })

-- the last set has its value
evaluated : (n : Counts) (sets : List Assign) (v : Value) → Sets n sets → Valued sets → Sets n (set_last sets (setting.Val v))
evaluated n sets v good last =
    let zero = setting.Val value.Zero in
    let here : Sets n (last.before ++ zero ∷ []) = subst (Sets n) last.is good in
    let less = all_less (has_assign n) last.before zero here.all in
    subst (Sets n) (sym (set_said zero (λ a. setting.Val v) sets last.before zero last.is))
    (record { few = omega (arith, here.few, length_more last.before zero, length_more last.before (setting.Val v)); all = all_more (has_assign n) last.before (setting.Val v) less.0 refl; once = set_again last.before (setting.Val v) zero (λ x. alike_val v x ∙ sym (alike_val value.Zero x)) ∙ here.once })

-- a send with a status more, or another value
more_send : (n : Counts) (x : SendTo) (s : Status8) (id : MsgId) → n.statuses ≤ 4 → has_status n s ≡ true → has_send n (send_with_message x id) ≡ true → has_send n (send_with_message (send_with_status x s) id) ≡ true
more_send n sending_to.Nothing s id few declared good = good
more_send n (sending_to.Me i v) s id few declared good = good
more_send n (sending_to.Parent i v) s id few declared good = good
more_send n (sending_to.Kids set i v) s id few declared good = let two = both (has_set n set) (has_message n id) good in rw (more_set n set s few declared two.0, two.1) refl
more_send n (sending_to.Others set i v) s id few declared good = let two = both (has_set n set) (has_message n id) good in rw (more_set n set s few declared two.0, two.1) refl

value_send : (n : Counts) (x : SendTo) (v : Value) → has_send n (send_with_value x v) ≡ has_send n x
value_send n sending_to.Nothing v = refl
value_send n (sending_to.Me i w) v = refl
value_send n (sending_to.Parent i w) v = refl
value_send n (sending_to.Kids set i w) v = refl
value_send n (sending_to.Others set i w) v = refl

module _ (κ : Kind) (d : Bool) where
  -- the guard
  pub when_read : Mk (the.Atom atom.When) (inside κ d whole) (inside κ d whole)
  when_read e t h spelled fresh within = h

  pub comma_read : Mk (the.Atom atom.Comma) (inside κ d whole) (inside κ d whole)
  comma_read e t h spelled fresh within = h

  -- a condition is to come
  spoken : (e : Read) → Holds (inside κ d whole) e → nat_lt (length e.rule.guard) 16 ≡ true → Holds (inside κ d speaking) e
  spoken e h within = (h.0, h.1, record { take = h.2.take; guard = (h.2.guard, under (length e.rule.guard) 16 within); sets = h.2.sets; send = h.2.send })

  -- a condition that wants its first status
  tested : (e : Read) (a : Atom) → Holds (inside κ d speaking) e → ((s : Status8) → has_status (counts e) s ≡ true → has_atom (counts e) (atom_with a s) ≡ true) → Holds (inside κ d testing) (record e { rule = and_atom e.rule a })
  tested e a h any = (h.0, h.1, record { take = h.2.take; guard = (open_more (counts e) e.rule.guard a h.2.guard.0 h.2.guard.1, record { with_any = any }); sets = h.2.sets; send = h.2.send })

  pub atom_field_read : Mk (the.Atom atom.Field) (inside κ d whole) (inside κ d testing)
  atom_field_read e t h spelled fresh within =
      tested e (condition.Field (field e t.text) no_status) (spoken e h within) (λ s declared. rw (has_one e t spelled, first_set (counts e) s h.0.declared.few declared) refl)

  pub atom_me_read : Mk (the.Atom atom.Me) (inside κ d whole) (inside κ d testing)
  atom_me_read e t h spelled fresh within = tested e (condition.Me no_status) (spoken e h within) (λ s declared. first_set (counts e) s h.0.declared.few declared)

  pub atom_kids_read : Mk (the.Atom atom.Kids) (inside κ d whole) (inside κ d speaking)
  atom_kids_read e t h spelled fresh within = spoken e h within

  pub atom_others_read : Mk (the.Atom atom.Others) (inside κ d whole) (inside κ d speaking)
  atom_others_read e t h spelled fresh within = spoken e h within

  pub asked_read : Mk (the.Atom atom.Asked) (inside κ d whole) (inside κ d asking)
  asked_read e t h spelled fresh within = (
    h.0,
    h.1,
    record {
      take = h.2.take;
      guard = open_more (counts e) e.rule.guard (condition.Asked no_message) h.2.guard (under (length e.rule.guard) 16 within);
      sets = h.2.sets;
      send = h.2.send;
    },
  )

  pub kids_all_read : Mk (the.Atom atom.KidsAll) (inside κ d speaking) (inside κ d testing)
  kids_all_read e t h spelled fresh within = tested e (condition.KidsAll no_status) h (λ s declared. first_set (counts e) s h.0.declared.few declared)

  pub kids_any_read : Mk (the.Atom atom.KidsAny) (inside κ d speaking) (inside κ d testing)
  kids_any_read e t h spelled fresh within = tested e (condition.KidsAny no_status) h (λ s declared. first_set (counts e) s h.0.declared.few declared)

  pub others_all_read : Mk (the.Atom atom.OthersAll) (inside κ d speaking) (inside κ d testing)
  others_all_read e t h spelled fresh within = tested e (condition.OthersAll no_status) h (λ s declared. first_set (counts e) s h.0.declared.few declared)

  pub others_any_read : Mk (the.Atom atom.OthersAny) (inside κ d speaking) (inside κ d testing)
  others_any_read e t h spelled fresh within = tested e (condition.OthersAny no_status) h (λ s declared. first_set (counts e) s h.0.declared.few declared)

  pub atom_status_read : Mk (the.Atom atom.Status) (inside κ d testing) (inside κ d whole)
  atom_status_read e t h spelled fresh within = (
    h.0,
    h.1,
    record {
      take = h.2.take;
      guard = closed (counts e) e.rule.guard (λ a. atom_with a (status e t.text)) h.2.guard.0 (h.2.guard.1.with_any (status e t.text) (has e t.text h.0.declared.some));
      sets = h.2.sets;
      send = h.2.send;
    },
  )

  pub atom_more_read : Mk (the.Atom atom.More) (inside κ d whole) (inside κ d whole)
  atom_more_read e t h spelled fresh within = (
    h.0,
    h.1,
    record {
      take = h.2.take;
      guard = wider (counts e) e.rule.guard (status e t.text) h.0.declared.few (has e t.text h.0.declared.some) h.2.guard;
      sets = h.2.sets;
      send = h.2.send;
    },
  )

  pub atom_message_read : Mk (the.Atom atom.Message) (inside κ d asking) (inside κ d whole)
  atom_message_read e t h spelled fresh within = (
    h.0,
    h.1,
    record {
      take = h.2.take;
      guard = closed (counts e) e.rule.guard (λ a. condition.Asked (message e t.text)) h.2.guard (has_it e t spelled);
      sets = h.2.sets;
      send = h.2.send;
    },
  )

  -- the sets
  pub set_read : Mk (the.Assign assign.Set) (inside κ d whole) (inside κ d whole)
  set_read e t h spelled fresh within = h

  pub set_comma_read : Mk (the.Assign assign.Comma) (inside κ d whole) (inside κ d whole)
  set_comma_read e t h spelled fresh within = h

  pub set_field_read : Mk (the.Assign assign.Field) (inside κ d whole) (inside κ d whole)
  set_field_read e t h spelled fresh within =
      let a = setting.Field (field e t.text) first_status in
      let first : nat_lt 0 (length e.statuses) ≡ true = is_under 0 (length e.statuses) (omega (arith, h.0.declared.some)) in
      let one : has_assign (counts e) a ≡ true = rw (has_one e t spelled, first) refl in
      let apart = is_not (list_any (sets_field (field e t.text)) e.rule.sets) fresh in (
        h.0,
        h.1,
        record {
          take = h.2.take;
          guard = h.2.guard;
          sets = sets_more (counts e) e.rule.sets a h.2.sets (under (length e.rule.sets) 8 within) one (set_more (sets_field (field e t.text)) e.rule.sets a (alike_field (field e t.text) first_status) h.2.sets.once apart);
          send = h.2.send;
        },
      )

  pub set_val_read : Mk (the.Assign assign.Val) (inside κ d whole) (inside κ d valuing)
  set_val_read e t h spelled fresh within =
      let a = setting.Val value.Zero in (
        h.0,
        h.1,
        record {
          take = h.2.take;
          guard = h.2.guard;
          sets = (
            sets_more (counts e) e.rule.sets a h.2.sets (under (length e.rule.sets) 8 within) refl (set_more sets_val e.rule.sets a (alike_val value.Zero) h.2.sets.once (is_not (list_any sets_val e.rule.sets) fresh)),
            record { before = e.rule.sets; is = refl },
          );
          send = h.2.send;
        },
      )

  pub set_me_read : Mk (the.Assign assign.Me) (inside κ d whole) (inside κ d whole)
  set_me_read e t h spelled fresh within =
      let a = setting.Me first_status in
      let first : nat_lt 0 (length e.statuses) ≡ true = is_under 0 (length e.statuses) (omega (arith, h.0.declared.some)) in (
        h.0,
        h.1,
        record {
          take = h.2.take;
          guard = h.2.guard;
          sets = sets_more (counts e) e.rule.sets a h.2.sets (under (length e.rule.sets) 8 within) first (set_more sets_me e.rule.sets a (alike_me first_status) h.2.sets.once (is_not (list_any sets_me e.rule.sets) fresh));
          send = h.2.send;
        },
      )

  pub set_targets_read : Mk (the.Assign assign.Targets) (inside κ d whole) (inside κ d whole)
  set_targets_read e t h spelled fresh within =
      let a = setting.Targets first_status in
      let first : nat_lt 0 (length e.statuses) ≡ true = is_under 0 (length e.statuses) (omega (arith, h.0.declared.some)) in (
        h.0,
        h.1,
        record {
          take = h.2.take;
          guard = h.2.guard;
          sets = sets_more (counts e) e.rule.sets a h.2.sets (under (length e.rule.sets) 8 within) first (set_more sets_targets e.rule.sets a (alike_targets first_status) h.2.sets.once (is_not (list_any sets_targets e.rule.sets) fresh));
          send = h.2.send;
        },
      )

  pub set_status_read : Mk (the.Assign assign.Status) (inside κ d whole) (inside κ d whole)
  set_status_read e t h spelled fresh within = (
    h.0,
    h.1,
    record { take = h.2.take; guard = h.2.guard; sets = settled (counts e) e.rule.sets (status e t.text) (has e t.text h.0.declared.some) h.2.sets; send = h.2.send },
  )

  pub set_value_read : (v : Value) → Mk (the.Assign (assign.Value v)) (inside κ d valuing) (inside κ d whole)
  set_value_read v e t h spelled fresh within = (
    h.0,
    h.1,
    record { take = h.2.take; guard = h.2.guard; sets = evaluated (counts e) e.rule.sets v h.2.sets.0 h.2.sets.1; send = h.2.send },
  )

  -- the send
  pub send_read : Mk (the.Send send.Send) (inside κ d whole) (inside κ d whole)
  send_read e t h spelled fresh within = h

  pub send_me_read : Mk (the.Send send.Me) (inside κ d whole) (inside κ d sending)
  send_me_read e t h spelled fresh within = (h.0, h.1, record { take = h.2.take; guard = h.2.guard; sets = h.2.sets; send = λ id there. there })

  pub send_parent_read : Mk (the.Send send.Parent) (inside κ d whole) (inside κ d sending)
  send_parent_read e t h spelled fresh within = (h.0, h.1, record { take = h.2.take; guard = h.2.guard; sets = h.2.sets; send = λ id there. there })

  pub send_kids_read : Mk (the.Send send.Kids) (inside κ d whole) (inside κ d choosing)
  send_kids_read e t h spelled fresh within = (
    h.0,
    h.1,
    record { take = h.2.take; guard = h.2.guard; sets = h.2.sets; send = λ s id declared there. rw (first_set (counts e) s h.0.declared.few declared, there) refl },
  )

  pub send_others_read : Mk (the.Send send.Others) (inside κ d whole) (inside κ d choosing)
  send_others_read e t h spelled fresh within = (
    h.0,
    h.1,
    record { take = h.2.take; guard = h.2.guard; sets = h.2.sets; send = λ s id declared there. rw (first_set (counts e) s h.0.declared.few declared, there) refl },
  )

  pub send_status_read : Mk (the.Send send.Status) (inside κ d choosing) (inside κ d sending)
  send_status_read e t h spelled fresh within = (
    h.0,
    h.1,
    record { take = h.2.take; guard = h.2.guard; sets = h.2.sets; send = λ id there. h.2.send (status e t.text) id (has e t.text h.0.declared.some) there },
  )

  pub send_more_read : Mk (the.Send send.More) (inside κ d sending) (inside κ d sending)
  send_more_read e t h spelled fresh within = (
    h.0,
    h.1,
    record {
      take = h.2.take;
      guard = h.2.guard;
      sets = h.2.sets;
      send = λ id there. more_send (counts e) e.rule.send (status e t.text) id h.0.declared.few (has e t.text h.0.declared.some) (h.2.send id there);
    },
  )

  pub send_message_read : Mk (the.Send send.Message) (inside κ d sending) (inside κ d whole)
  send_message_read e t h spelled fresh within = (
    h.0,
    h.1,
    record { take = h.2.take; guard = h.2.guard; sets = h.2.sets; send = h.2.send (message e t.text) (has_it e t spelled) },
  )

  pub send_value_read : (v : Value) → Mk (the.Send (send.Value v)) (inside κ d whole) (inside κ d whole)
  send_value_read v e t h spelled fresh within = (
    h.0,
    h.1,
    record { take = h.2.take; guard = h.2.guard; sets = h.2.sets; send = value_send (counts e) e.rule.send v ∙ h.2.send },
  )
