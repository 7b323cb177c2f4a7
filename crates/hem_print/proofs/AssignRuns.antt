-- Sets of a rule read back.
use Rattle.std.proofs.Common.{◌≡◌, ℕ, ◌+◌, ◌≤◌, Bool, true, false, not, ◌==◌, List, [], ◌∷◌, ◌++◌, length, refl, sym, ap, ◌∙◌, arith, None, append_assoc, append-nil, nat_lt}
use Rattle.std.specs.List.{list_all, list_any}
use Rattle.std.proofs.lemmas.List.Folds.{list_any-append}
use Rattle.hem_base.specs.Words.{word_bytes}
use Rattle.hem_base.specs.declared.ids.Status8.{Status8}
use Rattle.hem_base.specs.declared.words.Reserved.TheVariants as word
use Rattle.hem_base.specs.declared.words.Sign.TheVariants as sign
use Rattle.hem_text.specs.declared.symbol.Symbol.{Symbol}
use Rattle.hem_text.specs.declared.symbol.Symbol.TheVariants.{Item as Some_of, Maybe, Many}
use Rattle.hem_text.specs.Grammars.{state}
use Rattle.hem_syntax.specs.declared.rule.Value.{Value}
use Rattle.hem_syntax.specs.declared.rule.Value.TheVariants as value
use Rattle.hem_syntax.specs.declared.rule.Assign.{Assign}
use Rattle.hem_syntax.specs.declared.rule.Assign.TheVariants as setting
use Rattle.hem_syntax.specs.declared.rule.Rule.{Rule}
use Rattle.hem_grammar.specs.declared.terminals.Terminal.{Terminal}
use Rattle.hem_grammar.specs.declared.terminals.Terminal.TheVariants as the
use Rattle.hem_grammar.specs.declared.terminals.AssignPart.TheVariants as assign
use Rattle.hem_grammar.specs.declared.terminals.Item.{Item}
use Rattle.hem_grammar.specs.declared.terminals.Item.TheVariants as item
use Rattle.hem_grammar.specs.Grammar.{s}
use Rattle.hem_syntax.specs.Protocol.{Protocol, KindPart}
use Rattle.hem_syntax.specs.Lawful.{counts_of, has_assign, set_once, write_alike}
use Rattle.hem_grammar.specs.Draft.{assign_with, and_assign, first_status, set_last, sets_field, sets_val, sets_me, sets_targets}
use Rattle.hem_print.specs.Canonical.{Word, plain, named, signed, assign_words, value_word, led, field_name, status_name}
use Rattle.hem_print.proofs.Steps.{go, picks, pick}
use Rattle.hem_print.proofs.Naming.{and_left, and_right, room, room_after, not_true, not_false, or_left, or_right, or_both, cond_true, cond_false, last_snoc, set_last_snoc}
use Rattle.hem_print.proofs.SetRuns.{status_in}
use Rattle.hem_print.proofs.Around.{Around, env, AreNamed, GoesOn, Part, sets, part_word, order, pass_over, field_known, field_is, status_known, status_is, no_field}

-- a value of a set
value_run : (p : Protocol) (k : KindPart) (c : Around) (x : Rule) (rest : List (Symbol Terminal Item)) (v : Value) (tail : List Word) →
    go (state (env p k c (and_assign x (setting.Val value.Zero))) (Some_of item.AssignValue ∷ rest)) (value_word v ∷ tail) ≡ go (state (env p k c (and_assign x (setting.Val v))) rest) tail
value_run p k c x rest v tail = go_over v ∙ ap (λ (y : List Assign). go (state (env p k c (record x { sets = y })) rest) tail) (set_last_snoc x.sets (setting.Val value.Zero) (setting.Val v))
  where
    go_over : (v : Value) → go (state (env p k c (and_assign x (setting.Val value.Zero))) (Some_of item.AssignValue ∷ rest)) (value_word v ∷ tail)
        ≡ go (state (env p k c (record x { sets = set_last (x.sets ++ setting.Val value.Zero ∷ []) (setting.Val v) })) rest) tail
    go_over value.Val = refl
    go_over _ = refl

-- a status of a set
set_status_run : (p : Protocol) (k : KindPart) (c : Around) (x : Rule) → AreNamed p k → (make : Status8 → Assign) → ((t u : Status8) → assign_with (make t) u ≡ make u) → (rest : List (Symbol Terminal Item)) (t : Status8) → nat_lt t.0 (length p.statuses) ≡ true → (tail : List Word) →
    go (state (env p k c (and_assign x (make first_status))) (s assign.Status ∷ rest)) (named (status_name p t) ∷ tail) ≡ go (state (env p k c (and_assign x (make t))) rest) tail
set_status_run p k c x names make says rest t has tail =
    let start = env p k c (and_assign x (make first_status)) in
    pick start (named (status_name p t)) tail (s assign.Status) rest (the.Assign assign.Status) (cond_true _ _ _ (status_known p t has)) refl refl
    ∙ ap (λ (y : Assign). go (state (env p k c (record x { sets = set_last (x.sets ++ make first_status ∷ []) (assign_with y (status_in p.statuses (status_name p t))) })) rest) tail) (last_snoc (setting.Val value.Zero) x.sets (make first_status))
    ∙ ap (λ (y : List Assign). go (state (env p k c (record x { sets = y })) rest) tail) (set_last_snoc x.sets (make first_status) _)
    ∙ ap (λ (y : Assign). go (state (env p k c (and_assign x y)) rest) tail) (says first_status (status_in p.statuses (status_name p t)) ∙ ap make (status_is p t names.statuses has))

-- a set that writes a place that none before it writes
pub record IsNew (xs : List Assign) (y : Assign) : Type 0 where
  pub apart : list_any (λ x. write_alike x y) xs ≡ false

alike_each : (f : Assign → Bool) (y : Assign) → ((x : Assign) → write_alike x y ≡ false → f x ≡ false) → (xs : List Assign) → list_any (λ x. write_alike x y) xs ≡ false → list_any f xs ≡ false
alike_each f y one [] h = refl
alike_each f y one (x ∷ xs) h = or_both _ _ (one x (or_left _ _ h)) (alike_each f y one xs (or_right _ _ h))

alike_field : (i : ℕ) (t : Status8) (xs : List Assign) → list_any (λ x. write_alike x (setting.Field i t)) xs ≡ false → list_any (sets_field i) xs ≡ false
alike_field i t xs h = alike_each (sets_field i) (setting.Field i t) one xs h
  where
    one : (x : Assign) → write_alike x (setting.Field i t) ≡ false → sets_field i x ≡ false
    one (setting.Field j u) h = swap_eq i j h
      where
        swap_eq : (i j : ℕ) → (j == i) ≡ false → (i == j) ≡ false
        swap_eq i j h = grind arith
    one _ h = refl

alike_val : (v : Value) (xs : List Assign) → list_any (λ x. write_alike x (setting.Val v)) xs ≡ false → list_any sets_val xs ≡ false
alike_val v xs h = alike_each sets_val (setting.Val v) one xs h
  where
    one : (x : Assign) → write_alike x (setting.Val v) ≡ false → sets_val x ≡ false
    one (setting.Val w) h = h
    one _ h = refl

alike_me : (t : Status8) (xs : List Assign) → list_any (λ x. write_alike x (setting.Me t)) xs ≡ false → list_any sets_me xs ≡ false
alike_me t xs h = alike_each sets_me (setting.Me t) one xs h
  where
    one : (x : Assign) → write_alike x (setting.Me t) ≡ false → sets_me x ≡ false
    one (setting.Me u) h = h
    one _ h = refl

alike_targets : (t : Status8) (xs : List Assign) → list_any (λ x. write_alike x (setting.Targets t)) xs ≡ false → list_any sets_targets xs ≡ false
alike_targets t xs h = alike_each sets_targets (setting.Targets t) one xs h
  where
    one : (x : Assign) → write_alike x (setting.Targets t) ≡ false → sets_targets x ≡ false
    one (setting.Targets u) h = h
    one _ h = refl

-- a set of a rule and what follows it
assign_run : (p : Protocol) (k : KindPart) (c : Around) (x : Rule) → AreNamed p k → (rest : List (Symbol Terminal Item)) (y : Assign) → has_assign (counts_of p k) y ≡ true → nat_lt (length x.sets) 8 ≡ true → IsNew x.sets y → (tail : List Word) →
    go (state (env p k c x) (Some_of item.Assign ∷ rest)) (assign_words p k y ++ tail) ≡ go (state (env p k c (and_assign x y)) rest) tail
assign_run p k c x names rest (setting.Field i t) has few new tail =
    let known = and_left (nat_lt i (length k.fields)) _ has in
    pick (env p k c x) (named (field_name k i)) (signed sign.Assign ∷ named (status_name p t) ∷ tail) (Some_of item.Assign) rest (the.Assign assign.Field) (cond_true _ _ _ (field_known k i known))
    (ap (λ (j : ℕ). not (list_any (sets_field j) x.sets)) (field_is p k i names known) ∙ not_false _ (alike_field i t x.sets new.apart)) few
    ∙ ap (λ (j : ℕ). go (state (env p k c (and_assign x (setting.Field j first_status))) (s assign.Status ∷ rest)) (named (status_name p t) ∷ tail)) (field_is p k i names known)
    ∙ set_status_run p k c x names (λ u. setting.Field i u) (λ t u. refl) rest t (and_right (nat_lt i (length k.fields)) _ has) tail
assign_run p k c x names rest (setting.Val v) has few new tail =
    pick (env p k c x) (plain word.Val) (signed sign.Assign ∷ value_word v ∷ tail) (Some_of item.Assign) rest (the.Assign assign.Val) (cond_false _ _ _ (no_field p k (word_bytes word.Val) names refl))
    (not_false _ (alike_val v x.sets new.apart)) few
    ∙ value_run p k c x rest v tail
assign_run p k c x names rest (setting.Me t) has few new tail =
    pick (env p k c x) (plain word.Me) (signed sign.Assign ∷ named (status_name p t) ∷ tail) (Some_of item.Assign) rest (the.Assign assign.Me) (cond_false _ _ _ (no_field p k (word_bytes word.Me) names refl))
    (not_false _ (alike_me t x.sets new.apart)) few
    ∙ set_status_run p k c x names (λ u. setting.Me u) (λ t u. refl) rest t has tail
assign_run p k c x names rest (setting.Targets t) has few new tail =
    pick (env p k c x) (plain word.Targets) (signed sign.Assign ∷ named (status_name p t) ∷ tail) (Some_of item.Assign) rest (the.Assign assign.Targets) (cond_false _ _ _ (no_field p k (word_bytes word.Targets) names refl))
    (not_false _ (alike_targets t x.sets new.apart)) few
    ∙ set_status_run p k c x names (λ u. setting.Targets u) (λ t u. refl) rest t has tail

-- of sets of which each place is set once, each is new to those before it
once_before : (done : List Assign) (y : Assign) (ys : List Assign) → set_once (done ++ y ∷ ys) ≡ true → IsNew done y
once_before [] y ys once = record { apart = refl }
once_before (d ∷ ds) y ys once = record {
  apart = or_both _ _
      (or_left (write_alike d y) (list_any (write_alike d) ys)
      (or_right (list_any (write_alike d) ds) (list_any (write_alike d) (y ∷ ys))
      (sym (list_any-append (write_alike d) ds (y ∷ ys)) ∙ not_true _ (and_left (not (list_any (write_alike d) (ds ++ y ∷ ys))) _ once))))
      (once_before ds y ys (and_right (not (list_any (write_alike d) (ds ++ y ∷ ys))) _ once)).apart;
}

more_assigns : (p : Protocol) (k : KindPart) (c : Around) → AreNamed p k → (rest : List (Symbol Terminal Item)) (tail : List Word) → GoesOn 2 tail → (x : Rule) (ys : List Assign) → list_all (has_assign (counts_of p k)) ys ≡ true → length x.sets + length ys ≤ 8 → set_once (x.sets ++ ys) ≡ true →
    go (state (env p k c x) (Many item.MoreAssigns ∷ rest)) (led (signed sign.Comma) (assign_words p k) ys ++ tail) ≡ go (state (env p k c (record x { sets = x.sets ++ ys })) rest) tail
more_assigns p k c names rest tail on x [] has few once =
    pass_over (env p k c x) (Many item.MoreAssigns) rest 2 tail on refl (λ part late. refl)
    ∙ ap (λ (y : List Assign). go (state (env p k c (record x { sets = y })) rest) tail) (sym (append-nil x.sets))
more_assigns p k c names rest tail on x (y ∷ ys) has few once =
    ap (λ ws. go (state (env p k c x) (Some_of item.Assign ∷ Many item.MoreAssigns ∷ rest)) ws) (append_assoc (assign_words p k y) (led (signed sign.Comma) (assign_words p k) ys) tail)
    ∙ assign_run p k c x names (Many item.MoreAssigns ∷ rest) y (and_left (has_assign (counts_of p k) y) _ has) (room 8 (length x.sets) (length ys) few) (once_before x.sets y ys once) (led (signed sign.Comma) (assign_words p k) ys ++ tail)
    ∙ more_assigns p k c names rest tail on (and_assign x y) ys (and_right (has_assign (counts_of p k) y) _ has) (room_after 8 x.sets y (length ys) few) (ap set_once (append_assoc x.sets (y ∷ []) ys) ∙ once)
    ∙ ap (λ (z : List Assign). go (state (env p k c (record x { sets = z })) rest) tail) (append_assoc x.sets (y ∷ []) ys)

-- the sets of a rule and what follows them
pub sets_run : (p : Protocol) (k : KindPart) (c : Around) → AreNamed p k → (rest : List (Symbol Terminal Item)) (tail : List Word) → GoesOn 2 tail → (x : Rule) (ys : List Assign) → list_all (has_assign (counts_of p k)) ys ≡ true → length x.sets + length ys ≤ 8 → set_once (x.sets ++ ys) ≡ true →
    go (state (env p k c x) (Maybe item.Set ∷ rest)) (led (plain word.Set) (assign_words p k) ys ++ tail) ≡ go (state (env p k c (record x { sets = x.sets ++ ys })) rest) tail
sets_run p k c names rest tail on x [] has few once =
    pass_over (env p k c x) (Maybe item.Set) rest 2 tail on refl no_set
    ∙ ap (λ (y : List Assign). go (state (env p k c (record x { sets = y })) rest) tail) (sym (append-nil x.sets))
  where
    no_set : (part : Part) → 2 ≤ order part → picks (env p k c x) (plain (part_word part)) (the.Assign assign.Set ∷ []) ≡ None
    no_set sets late = absurd (omega arith)
    no_set _ late = refl
sets_run p k c names rest tail on x (y ∷ ys) has few once = more_assigns p k c names rest tail on x (y ∷ ys) has few once
