-- Rules read back.
use Rattle.std.proofs.Common.{◌≡◌, ℕ, ◌+◌, ◌≤◌, true, ◌&&◌, List, [], ◌∷◌, ◌++◌, length, refl, ap, ◌∙◌, arith, Option, Some, None, append_assoc, nat_le, leb-true}
use Rattle.std.specs.Prelude.{flat_map}
use Rattle.std.specs.List.{list_all}
use Rattle.hem_base.specs.declared.words.Reserved.TheVariants as word
use Rattle.hem_text.specs.declared.symbol.Symbol.{Symbol}
use Rattle.hem_text.specs.declared.symbol.Symbol.TheVariants.{Item as Some_of, Maybe}
use Rattle.hem_base.specs.declared.ids.RuleId.{RuleId}
use Rattle.hem_text.specs.Grammars.{state}
use Rattle.hem_syntax.specs.declared.rule.Side.{Side}
use Rattle.hem_syntax.specs.declared.rule.Origin.{Origin}
use Rattle.hem_syntax.specs.declared.rule.SendTo.{SendTo}
use Rattle.hem_syntax.specs.declared.rule.SendTo.TheVariants as sending
use Rattle.hem_syntax.specs.declared.rule.Assign.{Assign}
use Rattle.hem_syntax.specs.declared.rule.Rule.{Rule}
use Rattle.hem_grammar.specs.declared.terminals.Terminal.{Terminal}
use Rattle.hem_grammar.specs.declared.terminals.RulePart.TheVariants as rule
use Rattle.hem_grammar.specs.declared.terminals.Item.{Item}
use Rattle.hem_grammar.specs.declared.terminals.Item.TheVariants as item
use Rattle.hem_grammar.specs.Grammar.{w, r}
use Rattle.hem_syntax.specs.Protocol.{Protocol, KindPart}
use Rattle.hem_syntax.specs.Lawful.{counts_of, has_take, has_atom, has_assign, has_send, set_once, is_rule}
use Rattle.hem_grammar.specs.Draft.{no_rule, hold_word}
use Rattle.hem_print.specs.Canonical.{Word, plain, take_words, need_words, led, atom_words, assign_words, free_words, lock_words, send_words, rule_words, Line}
use Rattle.hem_print.proofs.Steps.{go}
use Rattle.hem_print.proofs.Naming.{and_left, and_right}
use Rattle.hem_print.proofs.Around.{Around, env, AreNamed, GoesOn, sets, frees, locks, sends, ends}
use Rattle.hem_print.proofs.AtomRuns.{guard_run}
use Rattle.hem_print.proofs.AssignRuns.{sets_run}
use Rattle.hem_print.proofs.SendRuns.{take_run, up_run, down_run, free_run, lock_run, send_run}

-- the words of lines
abbrev pub words_of : List Line → List Word
words_of ls = flat_map (λ l. l.first ∷ l.others) ls

-- how a rule goes on

at_end : (ws : List Word) → GoesOn 5 (plain word.End ∷ ws)
at_end ws = record { part = ends; others = ws; is = refl; late = omega arith }

later : (n : ℕ) (ws : List Word) → GoesOn (n + 1) ws → GoesOn n ws
later n ws on = record { part = on.part; others = on.others; is = on.is; late = omega (arith, on.late) }

at_send : (p : Protocol) (y : SendTo) (tail : List Word) → GoesOn 5 tail → GoesOn 4 (send_words p y ++ tail)
at_send p sending.Nothing tail on = later 4 tail on
at_send p (sending.Me id v) tail on = record { part = sends; others = _; is = refl; late = omega arith }
at_send p (sending.Parent id v) tail on = record { part = sends; others = _; is = refl; late = omega arith }
at_send p (sending.Kids set id v) tail on = record { part = sends; others = _; is = refl; late = omega arith }
at_send p (sending.Others set id v) tail on = record { part = sends; others = _; is = refl; late = omega arith }

at_lock : (y : Option (Side × Origin)) (tail : List Word) → GoesOn 4 tail → GoesOn 3 (lock_words y ++ tail)
at_lock None tail on = later 3 tail on
at_lock (Some l) tail on = record { part = locks; others = _; is = refl; late = omega arith }

at_free : (y : Option Side) (tail : List Word) → GoesOn 3 tail → GoesOn 2 (free_words y ++ tail)
at_free None tail on = later 2 tail on
at_free (Some s) tail on = record { part = frees; others = _; is = refl; late = omega arith }

at_sets : (p : Protocol) (k : KindPart) (ys : List Assign) (tail : List Word) → GoesOn 2 tail → GoesOn 1 (led (plain word.Set) (assign_words p k) ys ++ tail)
at_sets p k [] tail on = later 1 tail on
at_sets p k (y ∷ ys) tail on = record { part = sets; others = _; is = refl; late = omega arith }

-- a rule after its name

-- what is to come in a rule after its name
abbrev pub body : List (Symbol Terminal Item)
body =
    w word.Take ∷ Some_of item.Take ∷ w word.Need ∷ w word.Up ∷ Some_of item.UpHold ∷ w word.Down ∷ Some_of item.DownHold
    ∷ Maybe item.When ∷ Maybe item.Set ∷ Maybe item.Free ∷ Maybe item.Lock ∷ Maybe item.Send ∷ r rule.EndRule ∷ []

regroup : (a b g s f l d e ws : List Word) → (a ++ b ++ g ++ s ++ f ++ l ++ d ++ e) ++ ws ≡ a ++ (b ++ (g ++ (s ++ (f ++ (l ++ (d ++ (e ++ ws)))))))
regroup a b g s f l d e ws = simp append_assoc

-- the rule with this name alone
abbrev pub only_named : RuleId → Rule
only_named id = record no_rule { name = id }

-- what a rule names is declared, part by part
pub record HasParts (p : Protocol) (k : KindPart) (y : Rule) : Type 0 where
  pub taken : has_take (counts_of p k) y.take ≡ true
  pub few_atoms : length y.guard ≤ 16
  pub atoms : list_all (has_atom (counts_of p k)) y.guard ≡ true
  pub few_sets : length y.sets ≤ 8
  pub sets : list_all (has_assign (counts_of p k)) y.sets ≡ true
  pub once : set_once y.sets ≡ true
  pub sent : has_send (counts_of p k) y.send ≡ true

pub parts_of : (p : Protocol) (k : KindPart) (y : Rule) → is_rule (counts_of p k) y ≡ true → HasParts p k y
parts_of p k y h =
    let a = has_take (counts_of p k) y.take in
    let b1 = nat_le (length y.guard) 16 in
    let b2 = list_all (has_atom (counts_of p k)) y.guard in
    let c1 = nat_le (length y.sets) 8 in
    let c2 = list_all (has_assign (counts_of p k)) y.sets in
    let c3 = set_once y.sets in
    let d = has_send (counts_of p k) y.send in
    let first : (a && (b1 && b2) && (c1 && c2 && c3)) ≡ true = and_left _ d h in
    let guard : (b1 && b2) ≡ true = and_right a _ (and_left (a && (b1 && b2)) _ first) in
    let writes : (c1 && c2 && c3) ≡ true = and_right (a && (b1 && b2)) _ first in
    record {
      taken = and_left a _ (and_left (a && (b1 && b2)) _ first);
      few_atoms = leb-is (and_left b1 b2 guard);
      atoms = and_right b1 b2 guard;
      few_sets = leb-is (and_left c1 c2 (and_left (c1 && c2) c3 writes));
      sets = and_right c1 c2 (and_left (c1 && c2) c3 writes);
      once = and_right (c1 && c2) c3 writes;
      sent = and_right _ d h;
    }
  where
    leb-is : {a b : ℕ} → nat_le a b ≡ true → a ≤ b
    leb-is h = leb-true _ _ h

pub body_run : (p : Protocol) (k : KindPart) (c : Around) → AreNamed p k → (rest : List (Symbol Terminal Item)) (y : Rule) → HasParts p k y → (ws : List Word) →
    go (state (env p k c (only_named y.name)) (body ++ rest)) (rule_words p k y ++ ws) ≡ go (state (env p k (record c { rules = c.rules ++ y ∷ [] }) no_rule) rest) ws
body_run p k c names rest y has ws =
    let t6 : List Word = plain word.End ∷ ws in
    let t5 = send_words p y.send ++ t6 in
    let t4 = lock_words y.lock ++ t5 in
    let t3 = free_words y.free ++ t4 in
    let t2 = led (plain word.Set) (assign_words p k) y.sets ++ t3 in
    let t1 = led (plain word.When) (atom_words p k) y.guard ++ t2 in
    let on4 = at_send p y.send t6 (at_end ws) in
    let on3 = at_lock y.lock t5 on4 in
    let on2 = at_free y.free t4 on3 in
    let on1 = at_sets p k y.sets t3 on2 in
    let x0 : Rule = only_named y.name in
    let x1 : Rule = record x0 { take = y.take } in
    let x2 : Rule = record x1 { need = record { up = y.need.up; down = x1.need.down } } in
    let x3 : Rule = record x1 { need = y.need } in
    let x4 : Rule = record x3 { guard = y.guard } in
    let x5 : Rule = record x4 { sets = y.sets } in
    let x6 : Rule = record x5 { free = y.free } in
    let x7 : Rule = record x6 { lock = y.lock } in
    let r5 = r rule.EndRule ∷ rest in
    let r4 = Maybe item.Send ∷ r5 in
    let r3 = Maybe item.Lock ∷ r4 in
    let r2 = Maybe item.Free ∷ r3 in
    let r1 = Maybe item.Set ∷ r2 in
    let r0 = Maybe item.When ∷ r1 in
    let rd = w word.Down ∷ Some_of item.DownHold ∷ r0 in
    let ru = w word.Up ∷ Some_of item.UpHold ∷ rd in
    ap (λ v. go (state (env p k c x0) (body ++ rest)) v)
    (regroup (plain word.Take ∷ take_words p y.take) (plain word.Need ∷ need_words y.need) (led (plain word.When) (atom_words p k) y.guard) (led (plain word.Set) (assign_words p k) y.sets) (free_words y.free) (lock_words y.lock) (send_words p y.send) (plain word.End ∷ []) ws)
    ∙ take_run p k c x0 names (w word.Need ∷ ru) y.take has.taken ((plain word.Need ∷ need_words y.need) ++ t1)
    ∙ up_run p k c x1 rd y.need.up ((plain word.Down ∷ plain (hold_word y.need.down) ∷ []) ++ t1)
    ∙ down_run p k c x2 r0 y.need.down t1
    ∙ guard_run p k c names r1 t2 on1 x3 y.guard has.atoms (omega (arith, has.few_atoms))
    ∙ sets_run p k c names r2 t3 on2 x4 y.sets has.sets (omega (arith, has.few_sets)) has.once
    ∙ free_run p k c r3 t4 on3 x5 refl y.free
    ∙ lock_run p k c r4 t5 on4 x6 refl y.lock
    ∙ send_run p k c names r5 t6 (at_end ws) x7 refl y.send has.sent
