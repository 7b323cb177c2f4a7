-- Modules over numbers: names replaced, one number for each.
use Rattle.std.specs.Prelude.{ℕ, length, slice_get, slice_index_or, option_map, Option, Some, is_some, unwrap_or, ◌==◌, ◌≡◌, Bool, true, ◌&&◌, List, [], map}
use Rattle.std.specs.List.{list_all, flat_map, enumerate_from}
use Rattle.std.specs.Option.{option_map_or}
use Rattle.hem_base.specs.declared.ids.Kind.{Kind}
use Rattle.hem_syntax.specs.declared.rule.Rule.{Rule}
use Rattle.hem_base.specs.declared.ids.LineId.{LineId}
use Rattle.hem_base.specs.declared.ids.Firing.{Firing}
use Rattle.hem_syntax.specs.Protocol.{Protocol, part, rule_named}
use Rattle.hem_fire.specs.OneFire.{me_fits}
use Rattle.hem_system.specs.State.{is_own_child, place_of_me}
use Rattle.hem_tree.specs.Tree.{Tree, kind_of, children_of}
use Rattle.hem_module.specs.Module.{Test, equals, differs, has_head, Amount, number, read, head_value, Deed, deq, put, enq, Action, ModRule}
pub use Rattle.hem_module.specs.Lawful.{are_apart, same_child}
use Rattle.hem_module.specs.Step.{Held, Names}
use Rattle.hem_emit.specs.Names.{Reg, Queue}
use Rattle.hem_emit.specs.Layout.{registers, queues, place_of_reg, place_of_queue}
use Rattle.hem_emit.specs.Emit.{named_at, place_of, rule_at}

-- a test, an amount, a deed, an action and a rule with other names of registers and queues
abbrev pub test_by : {R Q P S : Type 0} → (R → P) → (Q → S) → Test R Q → Test P S
test_by f g (equals r n) = equals (f r) n
test_by f g (differs r n) = differs (f r) n
test_by f g (has_head q n) = has_head (g q) n

abbrev pub amount_by : {R Q P S : Type 0} → (R → P) → (Q → S) → Amount R Q → Amount P S
amount_by f g (number n) = number n
amount_by f g (read r) = read (f r)
amount_by f g (head_value q) = head_value (g q)

abbrev pub deed_by : {R Q P S : Type 0} → (R → P) → (Q → S) → Deed R Q → Deed P S
deed_by f g (deq q) = deq (g q)
deed_by f g (put r a) = put (f r) (amount_by f g a)
deed_by f g (enq q id a) = enq (g q) id (amount_by f g a)

abbrev pub action_by : {R Q P S : Type 0} → (R → P) → (Q → S) → Action R Q → Action P S
action_by f g a = record { tests = map (test_by f g) a.tests; deed = deed_by f g a.deed }

abbrev pub rule_by : {R Q P S : Type 0} → (R → P) → (Q → S) → ModRule R Q → ModRule P S
rule_by f g rule =
    record {
      object = rule.object;
      name = rule.name;
      child = rule.child;
      spontaneous = rule.spontaneous;
      clauses = map (map (test_by f g)) rule.clauses;
      actions = map (action_by f g) rule.actions;
    }

-- whether only known registers and queues are named by a test, an amount, a deed, an action and a rule
abbrev pub test_known : {R Q : Type 0} → (R → Bool) → (Q → Bool) → Test R Q → Bool
test_known has hasq (equals r n) = has r
test_known has hasq (differs r n) = has r
test_known has hasq (has_head q n) = hasq q

abbrev pub amount_known : {R Q : Type 0} → (R → Bool) → (Q → Bool) → Amount R Q → Bool
amount_known has hasq (number n) = true
amount_known has hasq (read r) = has r
amount_known has hasq (head_value q) = hasq q

abbrev pub deed_known : {R Q : Type 0} → (R → Bool) → (Q → Bool) → Deed R Q → Bool
deed_known has hasq (deq q) = hasq q
deed_known has hasq (put r a) = has r && amount_known has hasq a
deed_known has hasq (enq q id a) = hasq q && amount_known has hasq a

abbrev pub action_known : {R Q : Type 0} → (R → Bool) → (Q → Bool) → Action R Q → Bool
action_known has hasq a = list_all (test_known has hasq) a.tests && deed_known has hasq a.deed

abbrev pub rule_known : {R Q : Type 0} → (R → Bool) → (Q → Bool) → ModRule R Q → Bool
rule_known has hasq rule = list_all (list_all (test_known has hasq)) rule.clauses && list_all (action_known has hasq) rule.actions

-- known names go to others one to one, as the tests of sameness tell
pub record OneToOne {R Q P S : Type 0} (names : Names R Q) (other : Names P S) (f : R → P) (g : Q → S) (has : R → Bool) (hasq : Q → Bool) : Type 0 where
  pub regs : (r q : R) → has r ≡ true → has q ≡ true → other.same_reg (f r) (f q) ≡ names.same_reg r q
  pub queues : (r q : Q) → hasq r ≡ true → hasq q ≡ true → other.same_queue (g r) (g q) ≡ names.same_queue r q

-- two states have the same in what is known, each by its names
pub record Agree {R Q P S : Type 0} (f : R → P) (g : Q → S) (has : R → Bool) (hasq : Q → Bool) (s : Held R Q) (t : Held P S) : Type 0 where
  pub regs : (r : R) → has r ≡ true → t.reg (f r) ≡ s.reg r
  pub queues : (q : Q) → hasq q ≡ true → t.queue (g q) ≡ s.queue q

-- the number of a register and of a queue, and whether they are there
abbrev pub reg_number : Protocol → Tree → Reg → ℕ
reg_number p tree r = unwrap_or (place_of_reg p tree r) 0

abbrev pub queue_number : Tree → Queue → ℕ
queue_number tree q = unwrap_or (place_of_queue tree q) 0

abbrev pub has_reg : Protocol → Tree → Reg → Bool
has_reg p tree r = is_some (place_of_reg p tree r)

abbrev pub has_queue : Tree → Queue → Bool
has_queue tree q = is_some (place_of_queue tree q)

-- a state over numbers: what the register and the queue of each place hold
abbrev pub over_numbers : Protocol → Tree → Held Reg Queue → Held ℕ ℕ
over_numbers p tree s =
    record {
      reg = λ i. option_map_or s.reg (slice_get (registers p tree) i) 0;
      queue = λ i. option_map_or s.queue (slice_get (queues tree) i) [];
    }

-- a rule at an object, with the place of the child that it names
pub record Slot : Type 0 where
  pub object : ℕ
  pub kind : Kind
  pub rule : Rule
  pub me : Option ℕ

-- the slots of an object, and all of them by object
abbrev pub slots_at : Protocol → Tree → ℕ → Kind → List Slot
slots_at p tree o kind = flat_map (λ rule. map (λ me. record { object = o; kind = kind; rule = rule; me = me }) (named_at kind rule.take (length (children_of tree o)))) (part p kind).rules

abbrev pub slots : Protocol → Tree → List Slot
slots p tree = flat_map (λ node. slots_at p tree node.0 node.1.kind) (enumerate_from 0 tree)

-- the module rule of a slot
abbrev pub rule_in : Protocol → Tree → Slot → ModRule Reg Queue
rule_in p tree s = rule_at p (place_of p tree s.object s.kind) s.rule s.me

-- what names a firing on a line: the object, the rule and the place of the child
pub record FiringName : Type 0 where
  pub object : ℕ
  pub rule : ℕ
  pub me : Option ℕ

-- whether two names are the same
abbrev pub same_name : FiringName → FiringName → Bool
same_name a b = a.object == b.object && a.rule == b.rule && same_child a.me b.me

-- the name of a slot
abbrev pub name_of : Slot → FiringName
name_of s = record { object = s.object; rule = s.rule.name.0; me = s.me }

-- the firing on a line that a slot is named after
abbrev pub firing_of : Tree → LineId → Slot → Firing
firing_of tree line s =
    record {
      line = line;
      object = record { 0 = s.object };
      rule = s.rule.name;
      me = option_map (λ k. record { 0 = slice_index_or (children_of tree s.object) k 0 }) s.me;
    }

-- a slot: its object has the kind, its rule is found by its name, and its child fits and is the one that the firing names
pub record IsSlot (p : Protocol) (tree : Tree) (s : Slot) : Type 0 where
  pub kind_is : kind_of tree s.object ≡ Some s.kind
  pub named : rule_named p s.kind s.rule.name ≡ Some s.rule
  pub fits : me_fits s.kind s.rule.take s.me (length (children_of tree s.object)) ≡ true
  pub own_child : (line : LineId) → is_own_child tree s.object (firing_of tree line s).me ≡ true
  pub place : (line : LineId) → place_of_me tree s.object (firing_of tree line s).me ≡ s.me
