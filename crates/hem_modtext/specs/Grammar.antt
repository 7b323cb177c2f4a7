-- The grammar of modules.
--   MODULES = modules NAME {reg NAME NUMBER} {queue NAME} {RULE} end
--   RULE    = rule NUMBER NAME [from NUMBER] [spontaneous] [when CLAUSE {, CLAUSE}] [do ACTION {, ACTION}] end
--   CLAUSE  = never | TEST {| TEST}
--   TEST    = REGISTER = NUMBER | REGISTER != NUMBER | head QUEUE = NUMBER
--   ACTION  = [if TEST {and TEST}] ACT
--   ACT     = deq QUEUE | REGISTER := VALUE | enq QUEUE NUMBER VALUE
--   VALUE   = NUMBER | REGISTER | value QUEUE
use Rattle.std.specs.Prelude.{List, [], ◌∷◌}
use Rattle.hem_text.specs.declared.symbol.Symbol.{Symbol}
use Rattle.hem_text.specs.declared.symbol.Symbol.TheVariants as symbol
use Rattle.hem_text.specs.declared.symbol.Stands.{Stands}
use Rattle.hem_text.specs.declared.symbol.Stands.TheVariants as stand
use Rattle.hem_modtext.specs.declared.tokens.Terminal.{Terminal}
use Rattle.hem_modtext.specs.declared.tokens.Terminal.TheVariants as the
use Rattle.hem_modtext.specs.declared.tokens.TestRole.{TestRole}
use Rattle.hem_modtext.specs.declared.tokens.TestRole.TheVariants as test
use Rattle.hem_modtext.specs.declared.tokens.ValuePart.TheVariants as value
use Rattle.hem_modtext.specs.declared.tokens.Item.{Item}
use Rattle.hem_modtext.specs.declared.tokens.Item.TheVariants as item

-- what modules begin with
abbrev pub start : List (Symbol Terminal Item)
start = symbol.One the.Modules ∷ symbol.One the.Name ∷ symbol.Many item.Register ∷ symbol.Many item.Queue ∷ symbol.Many item.Rule ∷ symbol.One the.End ∷ []

-- the tokens with which a test may begin
abbrev pub test_firsts : TestRole → List Terminal
test_firsts role = the.TestRegister role ∷ the.Head role ∷ []

-- the tokens with which an item may begin
abbrev pub firsts : Item → List Terminal
firsts item.Register = the.Register ∷ []
firsts item.Queue = the.Queue ∷ []
firsts item.Rule = the.Rule ∷ []
firsts item.Child = the.From ∷ []
firsts item.Twice = the.Twice ∷ []
firsts item.Spontaneous = the.Spontaneous ∷ []
firsts item.Clauses = the.When ∷ []
firsts item.Clause = the.Never ∷ test_firsts test.First
firsts item.NextClause = the.Comma ∷ []
firsts item.Or = the.Or ∷ []
firsts (item.Test role) = test_firsts role
firsts item.Comparison = the.Is ∷ the.Differs ∷ []
firsts item.Actions = the.Do ∷ []
firsts item.Action = the.If ∷ the.Dequeue ∷ the.WrittenRegister ∷ the.Enqueue ∷ []
firsts item.NextAction = the.NextAction ∷ []
firsts item.And = the.And ∷ []
firsts item.Act = the.Dequeue ∷ the.WrittenRegister ∷ the.Enqueue ∷ []
firsts item.Value = the.Value value.Number ∷ the.Value value.Register ∷ the.Value value.Word ∷ []

-- what must follow a test: after the first of a clause, further ones may stand
abbrev pub after_test : TestRole → List (Symbol Terminal Item)
after_test test.First = symbol.Many item.Or ∷ []
after_test _ = []

-- what must follow the register of a test, and the word that begins a test of a head
abbrev pub test_follows : TestRole → List (Symbol Terminal Item)
test_follows role = symbol.Item item.Comparison ∷ symbol.One (the.TestNumber role) ∷ after_test role

abbrev pub head_follows : TestRole → List (Symbol Terminal Item)
head_follows role = symbol.One the.HeadQueue ∷ symbol.One the.Equals ∷ symbol.One (the.HeadId role) ∷ after_test role

-- what must follow a token
abbrev pub follows : Terminal → List (Symbol Terminal Item)
follows the.Register = symbol.One the.NewRegister ∷ symbol.One the.Start ∷ []
follows the.Queue = symbol.One the.NewQueue ∷ []
follows the.Rule =
    symbol.One the.Object
    ∷ symbol.One the.RuleName
    ∷ symbol.Maybe item.Child
    ∷ symbol.Maybe item.Twice
    ∷ symbol.Maybe item.Spontaneous
    ∷ symbol.Maybe item.Clauses
    ∷ symbol.Maybe item.Actions
    ∷ symbol.One the.EndRule
    ∷ []
follows the.From = symbol.One the.Child ∷ []
follows the.When = symbol.Item item.Clause ∷ symbol.Many item.NextClause ∷ []
follows the.Comma = symbol.Item item.Clause ∷ []
follows (the.TestRegister role) = test_follows role
follows (the.Head role) = head_follows role
follows the.Or = symbol.Item (item.Test test.Further) ∷ []
follows the.Do = symbol.Item item.Action ∷ symbol.Many item.NextAction ∷ []
follows the.NextAction = symbol.Item item.Action ∷ []
follows the.If = symbol.Item (item.Test test.Condition) ∷ symbol.Many item.And ∷ symbol.Item item.Act ∷ []
follows the.And = symbol.Item (item.Test test.Condition) ∷ []
follows the.Dequeue = symbol.One the.LosingQueue ∷ []
follows the.WrittenRegister = symbol.One the.Assign ∷ symbol.Item item.Value ∷ []
follows the.Enqueue = symbol.One the.GainingQueue ∷ symbol.One the.SentId ∷ symbol.Item item.Value ∷ []
follows (the.Value value.Word) = symbol.One (the.Value value.Queue) ∷ []
follows _ = []

-- whether a token is a reserved word, a used name or something else
abbrev pub stands : Terminal → Stands
stands the.Name = stand.Other
stands the.NewRegister = stand.Other
stands the.Start = stand.Other
stands the.NewQueue = stand.Other
stands the.Object = stand.Other
stands the.RuleName = stand.Other
stands the.Child = stand.Other
stands the.Twice = stand.Other
stands the.Comma = stand.Other
stands the.NextAction = stand.Other
stands the.Or = stand.Other
stands (the.TestRegister role) = stand.Used
stands the.Is = stand.Other
stands the.Differs = stand.Other
stands (the.TestNumber role) = stand.Other
stands the.HeadQueue = stand.Used
stands the.Equals = stand.Other
stands (the.HeadId role) = stand.Other
stands the.LosingQueue = stand.Used
stands the.WrittenRegister = stand.Used
stands the.Assign = stand.Other
stands the.GainingQueue = stand.Used
stands the.SentId = stand.Other
stands (the.Value value.Number) = stand.Other
stands (the.Value value.Register) = stand.Used
stands (the.Value value.Queue) = stand.Used
stands _ = stand.Reserved
