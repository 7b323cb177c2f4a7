-- The canonical text of modules.
use Rattle.std.specs.Prelude.{ℕ, Bool, true, false, List, [], ◌∷◌, ◌++◌, flat_map, Option, None, Some, slice_get, unwrap_or, codes, decimal}
use Rattle.std.specs.Option.{option_map_or}
use Rattle.hem_syntax.specs.Protocol.{Text}
use Rattle.hem_module.specs.declared.rules.ModAtom.{ModAtom}
use Rattle.hem_module.specs.declared.rules.ModAtom.TheVariants as atom
use Rattle.hem_module.specs.declared.rules.ModClause.{ModClause}
use Rattle.hem_module.specs.declared.rules.ModValue.{ModValue}
use Rattle.hem_module.specs.declared.rules.ModValue.TheVariants as value
use Rattle.hem_module.specs.declared.rules.Act.{Act}
use Rattle.hem_module.specs.declared.rules.Act.TheVariants as act
use Rattle.hem_module.specs.declared.rules.Action.{Action}
use Rattle.hem_module.specs.declared.rules.ModRule.{ModRule}
use Rattle.hem_module.specs.Modules.{Modules}

-- the names of a register and of a queue
abbrev pub register_name : Modules → ℕ → Text
register_name m r = option_map_or (λ x. x.0) (slice_get m.regs r) []

abbrev pub queue_name : Modules → ℕ → Text
queue_name m q = unwrap_or (slice_get m.queues q) []

-- the texts of a list, the first led by one text and each other one by another
abbrev pub led : {A : Type 0} → Text → Text → (A → Text) → List A → Text
led first other f [] = []
led first other f (x ∷ xs) = first ++ f x ++ flat_map (λ y. other ++ f y) xs

-- a test
abbrev pub test_text : Modules → ModAtom → Text
test_text m (atom.Is r n) = register_name m r ++ codes " = " ++ decimal n
test_text m (atom.Not r n) = register_name m r ++ codes " != " ++ decimal n
test_text m (atom.Head q id) = codes "head " ++ queue_name m q ++ codes " = " ++ decimal id.0

-- the tests of a clause; one without tests never holds
abbrev pub tests_text : Modules → List ModAtom → Text
tests_text m [] = codes " never"
tests_text m (a ∷ more) = led (codes " ") (codes " | ") (test_text m) (a ∷ more)

-- the clauses of a rule
abbrev pub clauses_text : Modules → List ModClause → Text
clauses_text m clauses = led (codes " when") (codes ",") (λ c. tests_text m c.atoms) clauses

-- a value
abbrev pub value_text : Modules → ModValue → Text
value_text m (value.Number n) = decimal n
value_text m (value.Reg r) = register_name m r
value_text m (value.Front q) = codes "value " ++ queue_name m q

-- what an action does
abbrev pub act_text : Modules → Act → Text
act_text m (act.Deq q) = codes " deq " ++ queue_name m q
act_text m (act.Set r v) = codes " " ++ register_name m r ++ codes " := " ++ value_text m v
act_text m (act.Enq q id v) = codes " enq " ++ queue_name m q ++ codes " " ++ decimal id.0 ++ codes " " ++ value_text m v

-- an action: its condition, where it has one, and what it does
abbrev pub action_text : Modules → Action → Text
action_text m a = led (codes " if ") (codes " and ") (test_text m) a.cond ++ act_text m a.act

-- the actions of a rule
abbrev pub actions_text : Modules → List Action → Text
actions_text m actions = led (codes " do") (codes ",") (action_text m) actions

-- the child from which a rule takes a message
abbrev pub child_text : Option ℕ → Text
child_text None = []
child_text (Some child) = codes " from " ++ decimal child

-- whether a rule starts by itself
abbrev pub spontaneous_text : Bool → Text
spontaneous_text false = []
spontaneous_text true = codes " spontaneous"

-- the line of a rule
abbrev pub rule_text : Modules → ModRule → Text
rule_text m r =
    codes "rule " ++ decimal r.object ++ codes " " ++ r.name
    ++ child_text r.from
    ++ spontaneous_text r.spontaneous
    ++ clauses_text m r.clauses
    ++ actions_text m r.actions
    ++ codes " end\n"

-- the lines of a register and of a queue
abbrev pub register_text : List ℕ × ℕ → Text
register_text r = codes "reg " ++ r.0 ++ codes " " ++ decimal r.1 ++ codes "\n"

abbrev pub queue_text : Text → Text
queue_text q = codes "queue " ++ q ++ codes "\n"

-- the canonical text of modules: a line for the name, for each register, queue and rule, and for the end
abbrev pub modules_text : Modules → Text
modules_text m =
    codes "modules " ++ m.name ++ codes "\n"
    ++ flat_map register_text m.regs
    ++ flat_map queue_text m.queues
    ++ flat_map (rule_text m) m.rules
    ++ codes "end\n"
