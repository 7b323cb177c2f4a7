-- Guards read back.
use Rattle.std.proofs.Common.{◌≡◌, ℕ, ◌+◌, ◌≤◌, true, false, not, ◌==◌, List, [], ◌∷◌, ◌++◌, length, refl, sym, ap, ◌∙◌, None, append_assoc, append-nil, nat_lt, ltb-true}
use Rattle.std.specs.List.{list_all}
use Rattle.hem_base.specs.Sets.{has_bit}
use Rattle.hem_base.specs.Words.{word_bytes}
use Rattle.hem_base.specs.declared.ids.Status8.{Status8}
use Rattle.hem_base.specs.declared.ids.StatusSet.{StatusSet}
use Rattle.hem_base.specs.declared.words.Reserved.TheVariants as word
use Rattle.hem_base.specs.declared.words.Sign.TheVariants as sign
use Rattle.hem_text.specs.declared.symbol.Symbol.{Symbol}
use Rattle.hem_text.specs.declared.symbol.Symbol.TheVariants.{Item as Some_of, Maybe, Many}
use Rattle.hem_text.specs.Grammars.{state}
use Rattle.hem_syntax.specs.declared.rule.Atom.{Atom}
use Rattle.hem_syntax.specs.declared.rule.Atom.TheVariants as condition
use Rattle.hem_syntax.specs.declared.rule.Rule.{Rule}
use Rattle.hem_grammar.specs.declared.terminals.Terminal.{Terminal}
use Rattle.hem_grammar.specs.declared.terminals.Terminal.TheVariants as the
use Rattle.hem_grammar.specs.declared.terminals.AtomPart.TheVariants as atom
use Rattle.hem_grammar.specs.declared.terminals.Item.{Item}
use Rattle.hem_grammar.specs.declared.terminals.Item.TheVariants as item
use Rattle.hem_grammar.specs.Grammar.{a}
use Rattle.hem_syntax.specs.Protocol.{Protocol, KindPart}
use Rattle.hem_syntax.specs.Lawful.{counts_of, has_atom, has_set}
use Rattle.hem_grammar.specs.Draft.{no_atom, atom_set, atom_with, and_atom, with_status, no_status, no_message, last_or, set_last}
use Rattle.hem_print.specs.Canonical.{Word, plain, named, signed, atom_words, set_words, led, field_name, message_name}
use Rattle.hem_print.proofs.Steps.{go, picks, pick}
use Rattle.hem_print.proofs.Naming.{and_left, and_right, room, room_after, cond_true, cond_false, last_snoc, set_last_snoc}
use Rattle.hem_print.proofs.SetRuns.{Fills, status_in, set_run}
use Rattle.hem_print.proofs.Around.{Around, env, AreNamed, IsPastSet, GoesOn, Part, sets, part_word, past_set, pass_over, field_known, field_is, message_known, message_is, no_field}

-- a kind of condition that has a set
pub record HoldsSet (make : StatusSet → Atom) : Type 0 where
  pub grows : (s : StatusSet) (t : Status8) → atom_with (make s) t ≡ make (with_status s t)
  pub has : (s : StatusSet) → atom_set (make s) ≡ s

atom_fills : (p : Protocol) (k : KindPart) (c : Around) (x : Rule) (make : StatusSet → Atom) → HoldsSet make →
    Fills p.statuses (λ s. env p k c (and_atom x (make s))) (the.Atom atom.Status) (the.Atom atom.More) item.AtomMore
atom_fills p k c x make holds = record {
  first_spelled = λ s t. refl;
  more_spelled = λ s t. refl;
  first_fresh = λ s text. refl;
  more_fresh = λ s text. ap (λ (y : Atom). not (has_bit (atom_set y).0 (status_in p.statuses text).0)) (last_snoc no_atom x.guard (make s)) ∙ ap (λ (y : StatusSet). not (has_bit y.0 (status_in p.statuses text).0)) (holds.has s);
  first_within = λ s text. refl;
  more_within = λ s text. refl;
  first_says = λ s text. says s (status_in p.statuses text);
  more_says = λ s text. says s (status_in p.statuses text);
  first_ends = refl;
  more_ends = refl;
  begins = refl;
}
  where
    says : (s : StatusSet) (t : Status8) →
        env p k c (record x { guard = set_last (x.guard ++ make s ∷ []) (atom_with (last_or no_atom (x.guard ++ make s ∷ [])) t) }) ≡ env p k c (and_atom x (make (with_status s t)))
    says s t =
        ap (λ (y : Atom). env p k c (record x { guard = set_last (x.guard ++ make s ∷ []) (atom_with y t) })) (last_snoc no_atom x.guard (make s))
        ∙ ap (λ (y : List Atom). env p k c (record x { guard = y })) (set_last_snoc x.guard (make s) (atom_with (make s) t))
        ∙ ap (λ (y : Atom). env p k c (and_atom x y)) (holds.grows s t)

pub not_zero : (s : ℕ) → not (s == 0) ≡ true → s ≡ 0 → ⊥
not_zero s h e = clash (ap (λ (n : ℕ). not (n == 0)) (sym e) ∙ h)
  where
    clash : false ≡ true → ⊥
    clash h = cc

-- the set of a condition
atom_set_run : (p : Protocol) (k : KindPart) (c : Around) (x : Rule) → AreNamed p k → (make : StatusSet → Atom) → HoldsSet make → (rest : List (Symbol Terminal Item)) (set : StatusSet) → has_set (counts_of p k) set ≡ true → (tail : List Word) → IsPastSet p tail →
    go (state (env p k c (and_atom x (make no_status))) (a atom.Status ∷ Many item.AtomMore ∷ rest)) (set_words p set ++ tail) ≡ go (state (env p k c (and_atom x (make set))) rest) tail
atom_set_run p k c x names make holds rest set has tail past =
    let body = set_run p.statuses names.statuses (λ s. env p k c (and_atom x (make s))) (the.Atom atom.Status) (the.Atom atom.More) item.AtomMore (atom_fills p k c x make holds) rest past.word past.others past.stops names.some names.few set
    (not_zero set.0 (and_left (not (set.0 == 0)) _ has)) (ltb-true _ _ (and_right (not (set.0 == 0)) _ has)) in
    ap (λ ws. go (state (env p k c (and_atom x (make no_status))) (a atom.Status ∷ Many item.AtomMore ∷ rest)) (set_words p set ++ ws)) past.is
    ∙ body
    ∙ ap (λ ws. go (state (env p k c (and_atom x (make set))) rest) ws) (sym past.is)

-- a condition and what follows it
pub atom_run : (p : Protocol) (k : KindPart) (c : Around) (x : Rule) → AreNamed p k → (rest : List (Symbol Terminal Item)) (y : Atom) → has_atom (counts_of p k) y ≡ true → nat_lt (length x.guard) 16 ≡ true → (tail : List Word) → IsPastSet p tail →
    go (state (env p k c x) (Some_of item.Atom ∷ rest)) (atom_words p k y ++ tail) ≡ go (state (env p k c (and_atom x y)) rest) tail
atom_run p k c x names rest (condition.Field i set) has few tail past =
    let known = and_left (nat_lt i (length k.fields)) _ has in
    pick (env p k c x) (named (field_name k i)) (plain word.In ∷ set_words p set ++ tail) (Some_of item.Atom) rest (the.Atom atom.Field) (cond_true _ _ _ (field_known k i known)) refl few
    ∙ ap (λ (j : ℕ). go (state (env p k c (and_atom x (condition.Field j no_status))) (a atom.Status ∷ Many item.AtomMore ∷ rest)) (set_words p set ++ tail)) (field_is p k i names known)
    ∙ atom_set_run p k c x names (λ s. condition.Field i s) (record { grows = λ s t. refl; has = λ s. refl }) rest set (and_right (nat_lt i (length k.fields)) _ has) tail past
atom_run p k c x names rest (condition.Me set) has few tail past =
    pick (env p k c x) (plain word.Me) (plain word.In ∷ set_words p set ++ tail) (Some_of item.Atom) rest (the.Atom atom.Me) (cond_false _ _ _ (no_field p k (word_bytes word.Me) names refl)) refl few
    ∙ atom_set_run p k c x names (λ s. condition.Me s) (record { grows = λ s t. refl; has = λ s. refl }) rest set has tail past
atom_run p k c x names rest (condition.KidsAll set) has few tail past =
    pick (env p k c x) (plain word.Kids) (plain word.All ∷ set_words p set ++ tail) (Some_of item.Atom) rest (the.Atom atom.Kids) (cond_false _ _ _ (no_field p k (word_bytes word.Kids) names refl)) refl few
    ∙ atom_set_run p k c x names (λ s. condition.KidsAll s) (record { grows = λ s t. refl; has = λ s. refl }) rest set has tail past
atom_run p k c x names rest (condition.KidsAny set) has few tail past =
    pick (env p k c x) (plain word.Kids) (plain word.Any ∷ set_words p set ++ tail) (Some_of item.Atom) rest (the.Atom atom.Kids) (cond_false _ _ _ (no_field p k (word_bytes word.Kids) names refl)) refl few
    ∙ atom_set_run p k c x names (λ s. condition.KidsAny s) (record { grows = λ s t. refl; has = λ s. refl }) rest set has tail past
atom_run p k c x names rest (condition.OthersAll set) has few tail past =
    pick (env p k c x) (plain word.Others) (plain word.All ∷ set_words p set ++ tail) (Some_of item.Atom) rest (the.Atom atom.Others) (cond_false _ _ _ (no_field p k (word_bytes word.Others) names refl)) refl few
    ∙ atom_set_run p k c x names (λ s. condition.OthersAll s) (record { grows = λ s t. refl; has = λ s. refl }) rest set has tail past
atom_run p k c x names rest (condition.OthersAny set) has few tail past =
    pick (env p k c x) (plain word.Others) (plain word.Any ∷ set_words p set ++ tail) (Some_of item.Atom) rest (the.Atom atom.Others) (cond_false _ _ _ (no_field p k (word_bytes word.Others) names refl)) refl few
    ∙ atom_set_run p k c x names (λ s. condition.OthersAny s) (record { grows = λ s t. refl; has = λ s. refl }) rest set has tail past
atom_run p k c x names rest (condition.Asked id) has few tail past =
    pick (env p k c x) (plain word.Asked) (named (message_name p id) ∷ tail) (Some_of item.Atom) rest (the.Atom atom.Asked) (cond_false _ _ _ (no_field p k (word_bytes word.Asked) names refl)) refl few
    ∙ pick (env p k c (and_atom x (condition.Asked no_message))) (named (message_name p id)) tail (a atom.Message) rest (the.Atom atom.Message) (cond_true _ _ _ (message_known p id has)) refl refl
    ∙ ap (λ (y : List Atom). go (state (env p k c (record x { guard = y })) rest) tail) (set_last_snoc x.guard (condition.Asked no_message) _)
    ∙ ap (λ (j : ℕ). go (state (env p k c (and_atom x (condition.Asked (record { 0 = j })))) rest) tail) (message_is p k id names has)

-- after a condition comes a comma or what follows the guard
past_atom : (p : Protocol) (k : KindPart) (from : ℕ) (tail : List Word) → AreNamed p k → GoesOn from tail → (ys : List Atom) → IsPastSet p (led (signed sign.Comma) (atom_words p k) ys ++ tail)
past_atom p k from tail names on [] = past_set p k from tail names on
past_atom p k from tail names on (y ∷ ys) = record { word = signed sign.Comma; others = (atom_words p k y ++ led (signed sign.Comma) (atom_words p k) ys) ++ tail; is = refl; stops = refl }

more_atoms : (p : Protocol) (k : KindPart) (c : Around) → AreNamed p k → (rest : List (Symbol Terminal Item)) (from : ℕ) (tail : List Word) → GoesOn from tail → (x : Rule) (ys : List Atom) → list_all (has_atom (counts_of p k)) ys ≡ true → length x.guard + length ys ≤ 16 →
    go (state (env p k c x) (Many item.MoreAtoms ∷ rest)) (led (signed sign.Comma) (atom_words p k) ys ++ tail) ≡ go (state (env p k c (record x { guard = x.guard ++ ys })) rest) tail
more_atoms p k c names rest from tail on x [] has few =
    pass_over (env p k c x) (Many item.MoreAtoms) rest from tail on refl (λ part late. refl)
    ∙ ap (λ (y : List Atom). go (state (env p k c (record x { guard = y })) rest) tail) (sym (append-nil x.guard))
more_atoms p k c names rest from tail on x (y ∷ ys) has few =
    ap (λ ws. go (state (env p k c x) (Some_of item.Atom ∷ Many item.MoreAtoms ∷ rest)) ws) (append_assoc (atom_words p k y) (led (signed sign.Comma) (atom_words p k) ys) tail)
    ∙ atom_run p k c x names (Many item.MoreAtoms ∷ rest) y (and_left (has_atom (counts_of p k) y) _ has) (room 16 (length x.guard) (length ys) few) (led (signed sign.Comma) (atom_words p k) ys ++ tail) (past_atom p k from tail names on ys)
    ∙ more_atoms p k c names rest from tail on (and_atom x y) ys (and_right (has_atom (counts_of p k) y) _ has) (room_after 16 x.guard y (length ys) few)
    ∙ ap (λ (z : List Atom). go (state (env p k c (record x { guard = z })) rest) tail) (append_assoc x.guard (y ∷ []) ys)

-- the guard and what follows it
pub guard_run : (p : Protocol) (k : KindPart) (c : Around) → AreNamed p k → (rest : List (Symbol Terminal Item)) (tail : List Word) → GoesOn 1 tail → (x : Rule) (ys : List Atom) → list_all (has_atom (counts_of p k)) ys ≡ true → length x.guard + length ys ≤ 16 →
    go (state (env p k c x) (Maybe item.When ∷ rest)) (led (plain word.When) (atom_words p k) ys ++ tail) ≡ go (state (env p k c (record x { guard = x.guard ++ ys })) rest) tail
guard_run p k c names rest tail on x [] has few =
    pass_over (env p k c x) (Maybe item.When) rest 1 tail on refl (λ part late. no_when part)
    ∙ ap (λ (y : List Atom). go (state (env p k c (record x { guard = y })) rest) tail) (sym (append-nil x.guard))
  where
    no_when : (part : Part) → picks (env p k c x) (plain (part_word part)) (the.Atom atom.When ∷ []) ≡ None
    no_when sets = refl
    no_when _ = refl
guard_run p k c names rest tail on x (y ∷ ys) has few = more_atoms p k c names rest 1 tail on x (y ∷ ys) has few
