-- What each token keeps of what has been read.
use Rattle.std.proofs.Common.{◌≡◌, ◌∙◌, refl, sym, ap, subst, ℕ, suc, ◌==◌, ◌-◌, nat_lt, arith, true, false, not, ◌||◌, List, [], ◌∷◌, ◌++◌, length, map, Option, Some, None}
use Rattle.std.specs.List.{list_any, list_all}
use Rattle.std.specs.Option.{option_map_or}
use Rattle.std.specs.Str.{bytes_eq}
use Rattle.std.proofs.lemmas.List.{append_assoc, append-nil, length-set}
use Rattle.hem_syntax.specs.Names.{is_in, is_among, with_last, last_or}
use Rattle.hem_syntax.specs.Lawful.{is_declarable, are_distinct}
use Rattle.hem_module.specs.declared.rules.ModAtom.{ModAtom}
use Rattle.hem_module.specs.declared.rules.ModAtom.TheVariants as atom
use Rattle.hem_module.specs.declared.rules.ModClause.{ModClause}
use Rattle.hem_module.specs.declared.rules.ModValue.{ModValue}
use Rattle.hem_module.specs.declared.rules.ModValue.TheVariants as value
use Rattle.hem_module.specs.declared.rules.Act.{Act}
use Rattle.hem_module.specs.declared.rules.Act.TheVariants as act
use Rattle.hem_module.specs.declared.rules.Action.{Action}
use Rattle.hem_module.specs.declared.rules.ModRule.{ModRule}
use Rattle.hem_module.specs.Lawful.{Counts, place_names, are_apart, same_rule, has_reg, has_queue, has_atom, has_clause, has_value, has_act, has_action, has_rule}
use Rattle.std.specs.Cmp.Lexicographic.{nat_list_eq_equiv}
use Rattle.hem_module.specs.Lawful.{same_child}
use Rattle.hem_modtext.specs.declared.key.RuleKey.{RuleKey}
use Rattle.hem_modtext.specs.Draft.{Read, modules_of, with_further, is_twice, finish_rule, rule_read, key_with, same_key}
use Rattle.hem_modtext.specs.Sound.{IsSound, counts_in, key_of}
use Rattle.hem_modtext.proofs.Small.{both, is_not, neither, all_more, all_both, all_parts, all_set, all_at, all_grows, any_more, any_both, any_map, map_more, length_more, distinct_more, names_of_set}

-- more registers and queues
record Grows (n m : Counts) : Type 0 where
  regs : (r : ℕ) → nat_lt r n.regs ≡ true → nat_lt r m.regs ≡ true
  queues : (q : ℕ) → nat_lt q n.queues ≡ true → nat_lt q m.queues ≡ true

module _ (n m : Counts) (grows : Grows n m) where
  atom_grows : (a : ModAtom) → has_atom n a ≡ true → has_atom m a ≡ true
  atom_grows (atom.Is r v) h = grows.regs r h
  atom_grows (atom.Not r v) h = grows.regs r h
  atom_grows (atom.Head q id) h = grows.queues q h

  value_grows : (v : ModValue) → has_value n v ≡ true → has_value m v ≡ true
  value_grows (value.Number v) h = refl
  value_grows (value.Reg r) h = grows.regs r h
  value_grows (value.Front q) h = grows.queues q h

  act_grows : (a : Act) → has_act n a ≡ true → has_act m a ≡ true
  act_grows (act.Deq q) h = grows.queues q h
  act_grows (act.Set r v) h = let two = both (has_reg n r) (has_value n v) h in rw (grows.regs r two.0) (value_grows v two.1)
  act_grows (act.Enq q id v) h = let two = both (has_queue n q) (has_value n v) h in rw (grows.queues q two.0) (value_grows v two.1)

  atoms_grow : (xs : List ModAtom) → list_all (has_atom n) xs ≡ true → list_all (has_atom m) xs ≡ true
  atoms_grow xs h = all_grows (has_atom n) (has_atom m) atom_grows xs h

  clauses_grow : (xs : List ModClause) → list_all (has_clause n) xs ≡ true → list_all (has_clause m) xs ≡ true
  clauses_grow xs h = all_grows (has_clause n) (has_clause m) (λ c. atoms_grow c.atoms) xs h

  action_grows : (a : Action) → has_action n a ≡ true → has_action m a ≡ true
  action_grows a h = let two = both (list_all (has_atom n) a.cond) (has_act n a.act) h in rw (atoms_grow a.cond two.0) (act_grows a.act two.1)

  actions_grow : (xs : List Action) → list_all (has_action n) xs ≡ true → list_all (has_action m) xs ≡ true
  actions_grow xs h = all_grows (has_action n) (has_action m) action_grows xs h

  rules_grow : (xs : List ModRule) → list_all (has_rule n) xs ≡ true → list_all (has_rule m) xs ≡ true
  rules_grow xs h = all_grows (has_rule n) (has_rule m) (λ r here. let two = both (list_all (has_clause n) r.clauses) (list_all (has_action n) r.actions) here in rw (clauses_grow r.clauses two.0) (actions_grow r.actions two.1)) xs h

  atom_there : (o : Option ModAtom) → option_map_or (has_atom n) o true ≡ true → option_map_or (has_atom m) o true ≡ true
  atom_there None h = refl
  atom_there (Some a) h = atom_grows a h

  act_there : (o : Option Act) → option_map_or (has_act n) o true ≡ true → option_map_or (has_act m) o true ≡ true
  act_there None h = refl
  act_there (Some a) h = act_grows a h

-- what has been read with other registers and queues, of which there are no fewer
with_places : (e : Read) (regs : List (List ℕ × ℕ)) (queues : List (List ℕ)) → IsSound e
    → Grows (counts_in e) (counts_in (record e { regs = regs; queues = queues }))
    → list_all is_declarable (place_names (modules_of (record e { regs = regs; queues = queues }))) ≡ true
    → are_distinct (place_names (modules_of (record e { regs = regs; queues = queues }))) ≡ true
    → IsSound (record e { regs = regs; queues = queues })
with_places e regs queues s grows names apart =
    let n = counts_in e in
    let m = counts_in (record e { regs = regs; queues = queues }) in
    record {
      modules = record {
        name = s.modules.name;
        names = names;
        names_apart = apart;
        rule_names = s.modules.rule_names;
        rules_apart = s.modules.rules_apart;
        there = rules_grow n m grows e.rules s.modules.there;
      };
      rule_name = s.rule_name;
      keys = s.keys;
      clauses = clauses_grow n m grows e.clauses s.clauses;
      actions = actions_grow n m grows e.actions s.actions;
      cond = atoms_grow n m grows e.cond s.cond;
      atom = atom_there n m grows e.atom s.atom;
      act = act_there n m grows e.act s.act;
    }

-- one more is below a number that grew
less_grows : (k n : ℕ) → nat_lt k n ≡ true → nat_lt k (suc n) ≡ true
less_grows k n h = grind (arith, h)

-- a register more
pub register_more : (e : Read) (t : List ℕ) → IsSound e → is_declarable t ≡ true → (is_among e.regs t || is_in e.queues t) ≡ false → IsSound (record e { regs = e.regs ++ (t, 0) ∷ [] })
register_more e t s may fresh =
    let apart = neither (is_among e.regs t) (is_in e.queues t) fresh in
    let names = map (λ r. r.0) e.regs in
    let here : map (λ (r : List ℕ × ℕ). r.0) (e.regs ++ (t, 0) ∷ []) ≡ names ++ t ∷ [] = map_more (λ (r : List ℕ × ℕ). r.0) e.regs (t, 0) in
    let parts = all_parts is_declarable names e.queues s.modules.names in
    with_places e (e.regs ++ (t, 0) ∷ []) e.queues s
    (record { regs = λ r h. subst (λ n. nat_lt r n ≡ true) (sym (length_more e.regs (t, 0))) (less_grows r (length e.regs) h); queues = λ q h. h })
    (ap (λ (ns : List (List ℕ)). list_all is_declarable (ns ++ e.queues)) here ∙ all_both is_declarable (names ++ t ∷ []) e.queues (all_more is_declarable names t parts.0 may) parts.1)
    (ap (λ (ns : List (List ℕ)). are_distinct (ns ++ e.queues)) here ∙ distinct_more names t e.queues s.modules.names_apart (any_map (λ n. bytes_eq n t) (λ (r : List ℕ × ℕ). r.0) e.regs ∙ apart.0) apart.1)

-- another number of the last register
pub start_set : (e : Read) (n : ℕ) → IsSound e → IsSound (record e { regs = with_last e.regs n })
start_set e n s =
    let names = names_of_set e.regs (length e.regs - 1) ([], n) n in
    let many = length-set e.regs (length e.regs - 1) ((last_or ([], n) e.regs).0, n) in
    with_places e (with_last e.regs n) e.queues s
    (record { regs = λ r h. subst (λ k. nat_lt r k ≡ true) (sym many) h; queues = λ q h. h })
    (ap (λ (ns : List (List ℕ)). list_all is_declarable (ns ++ e.queues)) names ∙ s.modules.names)
    (ap (λ (ns : List (List ℕ)). are_distinct (ns ++ e.queues)) names ∙ s.modules.names_apart)

-- a queue more
pub queue_more : (e : Read) (t : List ℕ) → IsSound e → is_declarable t ≡ true → (is_among e.regs t || is_in e.queues t) ≡ false → IsSound (record e { queues = e.queues ++ t ∷ [] })
queue_more e t s may fresh =
    let apart = neither (is_among e.regs t) (is_in e.queues t) fresh in
    let names = map (λ r. r.0) e.regs in
    let none : list_any (λ n. bytes_eq n t) (names ++ e.queues) ≡ false = any_both (λ n. bytes_eq n t) names e.queues (any_map (λ n. bytes_eq n t) (λ (r : List ℕ × ℕ). r.0) e.regs ∙ apart.0) apart.1 in
    let parts = all_parts is_declarable names e.queues s.modules.names in
    with_places e e.regs (e.queues ++ t ∷ []) s
    (record { regs = λ r h. h; queues = λ q h. subst (λ n. nat_lt q n ≡ true) (sym (length_more e.queues t)) (less_grows q (length e.queues) h) })
    (all_both is_declarable names (e.queues ++ t ∷ []) parts.0 (all_more is_declarable e.queues t parts.1 may))
    (ap are_distinct (sym (append_assoc names e.queues (t ∷ [])) ∙ sym (append-nil ((names ++ e.queues) ++ t ∷ []))) ∙ distinct_more (names ++ e.queues) t [] (ap are_distinct (append-nil (names ++ e.queues)) ∙ s.modules.names_apart) none refl)

-- another name of the modules, and of the rule that is being read
pub named : (e : Read) (t : List ℕ) → IsSound e → is_declarable t ≡ true → IsSound (record e { name = t })
named e t s may =
    record {
      modules = record { name = may; names = s.modules.names; names_apart = s.modules.names_apart; rule_names = s.modules.rule_names; rules_apart = s.modules.rules_apart; there = s.modules.there };
      rule_name = s.rule_name;
      keys = s.keys;
      clauses = s.clauses;
      actions = s.actions;
      cond = s.cond;
      atom = s.atom;
      act = s.act;
    }

pub rule_named : (e : Read) (t : List ℕ) → IsSound e → is_declarable t ≡ true → IsSound (record e { rule_name = t })
rule_named e t s may =
    record { modules = s.modules; rule_name = may; keys = s.keys; clauses = s.clauses; actions = s.actions; cond = s.cond; atom = s.atom; act = s.act }

-- another test, and another act, that are being read
pub atom_set : (e : Read) (a : Option ModAtom) → IsSound e → option_map_or (has_atom (counts_in e)) a true ≡ true → IsSound (record e { atom = a })
atom_set e a s there =
    record { modules = s.modules; rule_name = s.rule_name; keys = s.keys; clauses = s.clauses; actions = s.actions; cond = s.cond; atom = there; act = s.act }

pub act_set : (e : Read) (a : Option Act) → IsSound e → option_map_or (has_act (counts_in e)) a true ≡ true → IsSound (record e { act = a })
act_set e a s there =
    record { modules = s.modules; rule_name = s.rule_name; keys = s.keys; clauses = s.clauses; actions = s.actions; cond = s.cond; atom = s.atom; act = there }

-- a further test of the last clause
pub further : (e : Read) (a : ModAtom) → IsSound e → has_atom (counts_in e) a ≡ true → IsSound (record e { clauses = with_further e.clauses a; atom = None })
further e a s there =
    let n = counts_in e in
    let d : ModClause = record { atoms = [] } in
    let last : has_clause n (last_or d e.clauses) ≡ true = all_at (has_clause n) e.clauses (length e.clauses - 1) d s.clauses refl in
    let more : has_clause n (record { atoms = (last_or d e.clauses).atoms ++ a ∷ [] }) ≡ true = all_more (has_atom n) (last_or d e.clauses).atoms a last there in
    let all = all_set (has_clause n) e.clauses (length e.clauses - 1) (record { atoms = (last_or d e.clauses).atoms ++ a ∷ [] }) s.clauses more in
    record { modules = s.modules; rule_name = s.rule_name; keys = s.keys; clauses = all; actions = s.actions; cond = s.cond; atom = refl; act = s.act }

-- whether two rules are the same, whichever way it is asked
child_same : (a b : Option ℕ) → same_child a b ≡ same_child b a
child_same None None = refl
child_same None (Some b) = refl
child_same (Some a) None = refl
child_same (Some a) (Some b) = grind arith

rule_same : (a b : ModRule) → same_rule a b ≡ same_rule b a
rule_same a b =
    let objects : (a.object == b.object) ≡ (b.object == a.object) = grind arith in
    rw (objects, nat_list_eq_equiv.symm a.name b.name, child_same a.from b.from) refl

-- a rule more that is none of these
apart_more : (rs : List ModRule) (r : ModRule) → are_apart same_rule rs ≡ true → list_any (same_rule r) rs ≡ false → are_apart same_rule (rs ++ r ∷ []) ≡ true
apart_more [] r apart fresh = refl
apart_more (x ∷ rs) r apart fresh =
    let two = both (not (list_any (same_rule x) rs)) (are_apart same_rule rs) apart in
    let other = neither (same_rule r x) (list_any (same_rule r) rs) fresh in
    rw (any_more (same_rule x) rs r (is_not (list_any (same_rule x) rs) two.0) (rule_same x r ∙ other.0), apart_more rs r two.1 other.1) refl

-- a rule that is finished
pub finished : (e : Read) → IsSound e → is_twice e ≡ false → IsSound (finish_rule e)
finished e s fresh =
    let n = counts_in e in
    let r = rule_read e in
    let none : list_any (same_rule r) e.rules ≡ false = sym (any_map (same_key (key_with e e.from)) key_of e.rules) ∙ ap (list_any (same_key (key_with e e.from))) (sym s.keys) ∙ fresh in
    let here : has_rule n r ≡ true = rw (s.clauses) s.actions in
    record {
      modules = record {
        name = s.modules.name;
        names = s.modules.names;
        names_apart = s.modules.names_apart;
        rule_names = all_more (λ x. is_declarable x.name) e.rules r s.modules.rule_names s.rule_name;
        rules_apart = apart_more e.rules r s.modules.rules_apart none;
        there = all_more (has_rule n) e.rules r s.modules.there here;
      };
      rule_name = s.rule_name;
      keys = ap (λ (ks : List RuleKey). ks ++ key_with e e.from ∷ []) s.keys ∙ sym (map_more key_of e.rules r);
      clauses = refl;
      actions = refl;
      cond = s.cond;
      atom = s.atom;
      act = s.act;
    }
