-- The grammar of a protocol that is written out:
--   start   = protocol NAME status NAME NAME {NAME} {MESSAGE} ROOT MID LEAF end
--   MESSAGE = message NAME CLASS       CLASS = ext_req | ext_rsp | up_req | up_rsp | down_req | down_rsp
--   ROOT    = kind root {FIELD} dir init STATUS {RULE} end
--   MID     = kind mid {FIELD} dir init STATUS {RULE} end
--   LEAF    = kind leaf {FIELD} {RULE} end
--   FIELD   = field NAME init STATUS
--   RULE    = rule NAME take TAKE need up HOLD down HOLD
--             [when ATOM {, ATOM}] [set ASSIGN {, ASSIGN}] [free SIDE] [lock SIDE ORIGIN] [send SEND] end
--   TAKE    = me MSG | parent MSG | kids MSG | none
--   HOLD    = any | free | child | parent | self
--   SIDE    = up | down                ORIGIN = child | parent | self
--   ATOM    = FIELDNAME in SET | me in SET | kids all SET | kids any SET | others all SET | others any SET | asked MSG
--   SET     = STATUS {STATUS}
--   ASSIGN  = FIELDNAME := STATUS | val := VALUE | me := STATUS | targets := STATUS
--   VALUE   = val | msg | kept | rs | 0
--   SEND    = me MSG VALUE | parent MSG VALUE | kids in SET MSG VALUE | others in SET MSG VALUE
use Rattle.std.specs.Prelude.{List, [], ◌∷◌, ◌++◌}
use Rattle.hem_base.specs.declared.words.Reserved.{Reserved}
use Rattle.hem_base.specs.declared.words.Reserved.TheVariants as word
use Rattle.hem_base.specs.declared.words.Sign.TheVariants as sign
use Rattle.hem_text.specs.declared.symbol.Symbol.{Symbol}
use Rattle.hem_text.specs.declared.symbol.Symbol.TheVariants.{One, Item as Some_of, Maybe, Many}
use Rattle.hem_text.specs.declared.symbol.Stands.{Stands}
use Rattle.hem_text.specs.declared.symbol.Stands.TheVariants.{Reserved as Plain, Used, Other}
use Rattle.hem_syntax.specs.declared.rule.Class.TheVariants as class
use Rattle.hem_syntax.specs.declared.rule.Hold.TheVariants as hold
use Rattle.hem_syntax.specs.declared.rule.Side.TheVariants as side
use Rattle.hem_syntax.specs.declared.rule.Origin.TheVariants as origin
use Rattle.hem_syntax.specs.declared.rule.Value.{Value}
use Rattle.hem_syntax.specs.declared.rule.Value.TheVariants as value
use Rattle.hem_grammar.specs.declared.terminals.Terminal.{Terminal}
use Rattle.hem_grammar.specs.declared.terminals.Terminal.TheVariants as the
use Rattle.hem_grammar.specs.declared.terminals.Part.{Part}
use Rattle.hem_grammar.specs.declared.terminals.Part.TheVariants as part
use Rattle.hem_grammar.specs.declared.terminals.RulePart.{RulePart}
use Rattle.hem_grammar.specs.declared.terminals.RulePart.TheVariants as rule
use Rattle.hem_grammar.specs.declared.terminals.AtomPart.{AtomPart}
use Rattle.hem_grammar.specs.declared.terminals.AtomPart.TheVariants as atom
use Rattle.hem_grammar.specs.declared.terminals.AssignPart.{AssignPart}
use Rattle.hem_grammar.specs.declared.terminals.AssignPart.TheVariants as assign
use Rattle.hem_grammar.specs.declared.terminals.SendPart.{SendPart}
use Rattle.hem_grammar.specs.declared.terminals.SendPart.TheVariants as send
use Rattle.hem_grammar.specs.declared.terminals.Item.{Item}
use Rattle.hem_grammar.specs.declared.terminals.Item.TheVariants as item

-- a reserved word that says nothing more
abbrev pub w : Reserved → Symbol Terminal Item
w r = One (the.Word r)

-- a token of a declaration
abbrev pub p : Part → Symbol Terminal Item
p x = One (the.Part x)

-- a token of a rule
abbrev pub r : RulePart → Symbol Terminal Item
r x = One (the.Rule x)

-- a token of a guard
abbrev pub a : AtomPart → Symbol Terminal Item
a x = One (the.Atom x)

-- a token of the sets
abbrev pub s : AssignPart → Symbol Terminal Item
s x = One (the.Assign x)

-- a token of the send
abbrev pub t : SendPart → Symbol Terminal Item
t x = One (the.Send x)

-- the root's part
abbrev pub root : List (Symbol Terminal Item)
root = w word.Kind ∷ w word.Root ∷ Many item.Fields ∷ w word.Dir ∷ w word.Init ∷ p part.DirStart ∷ Many item.Rules ∷ p part.EndRoot ∷ []

-- the mids' part
abbrev pub mid : List (Symbol Terminal Item)
mid = w word.Kind ∷ w word.Mid ∷ Many item.Fields ∷ w word.Dir ∷ w word.Init ∷ p part.DirStart ∷ Many item.Rules ∷ p part.EndMid ∷ []

-- the leaves' part
abbrev pub leaf : List (Symbol Terminal Item)
leaf = w word.Kind ∷ w word.Leaf ∷ Many item.Fields ∷ Many item.Rules ∷ w word.End ∷ []

-- a protocol
abbrev pub start : List (Symbol Terminal Item)
start =
    (w word.Protocol ∷ p part.Name ∷ w word.Status ∷ p part.NewStatus ∷ p part.NewStatus ∷ Many item.MoreStatuses ∷ Many item.Messages ∷ [])
    ++ root ++ mid ++ leaf ++ (w word.End ∷ [])

-- how an item may begin
abbrev pub firsts : Item → List Terminal
firsts item.MoreStatuses = the.Part part.NewStatus ∷ []
firsts item.Messages = the.Part part.Message ∷ []
firsts item.Classes =
    the.Part (part.Class class.ExtReq) ∷ the.Part (part.Class class.ExtRsp) ∷ the.Part (part.Class class.UpReq)
    ∷ the.Part (part.Class class.UpRsp) ∷ the.Part (part.Class class.DownReq) ∷ the.Part (part.Class class.DownRsp) ∷ []
firsts item.Fields = the.Part part.Field ∷ []
firsts item.Rules = the.Rule rule.Rule ∷ []
firsts item.Take = the.Rule rule.TakeMe ∷ the.Rule rule.TakeParent ∷ the.Rule rule.TakeKids ∷ the.Rule rule.TakeNone ∷ []
firsts item.UpHold =
    the.Rule (rule.Up hold.Any) ∷ the.Rule (rule.Up hold.Free) ∷ the.Rule (rule.Up hold.Child) ∷ the.Rule (rule.Up hold.Parent) ∷ the.Rule (rule.Up hold.Own) ∷ []
firsts item.DownHold =
    the.Rule (rule.Down hold.Any) ∷ the.Rule (rule.Down hold.Free) ∷ the.Rule (rule.Down hold.Child) ∷ the.Rule (rule.Down hold.Parent) ∷ the.Rule (rule.Down hold.Own) ∷ []
firsts item.When = the.Atom atom.When ∷ []
firsts item.Atom = the.Atom atom.Field ∷ the.Atom atom.Me ∷ the.Atom atom.Kids ∷ the.Atom atom.Others ∷ the.Atom atom.Asked ∷ []
firsts item.MoreAtoms = the.Atom atom.Comma ∷ []
firsts item.KidsHow = the.Atom atom.KidsAll ∷ the.Atom atom.KidsAny ∷ []
firsts item.OthersHow = the.Atom atom.OthersAll ∷ the.Atom atom.OthersAny ∷ []
firsts item.AtomMore = the.Atom atom.More ∷ []
firsts item.Set = the.Assign assign.Set ∷ []
firsts item.Assign = the.Assign assign.Field ∷ the.Assign assign.Val ∷ the.Assign assign.Me ∷ the.Assign assign.Targets ∷ []
firsts item.MoreAssigns = the.Assign assign.Comma ∷ []
firsts item.AssignValue =
    the.Assign (assign.Value value.Val) ∷ the.Assign (assign.Value value.Msg) ∷ the.Assign (assign.Value value.Kept) ∷ the.Assign (assign.Value value.Rs) ∷ the.Assign (assign.Value value.Zero) ∷ []
firsts item.Free = the.Rule rule.Free ∷ []
firsts item.FreeSide = the.Rule (rule.FreeSide side.Up) ∷ the.Rule (rule.FreeSide side.Down) ∷ []
firsts item.Lock = the.Rule rule.Lock ∷ []
firsts item.LockSide = the.Rule (rule.LockSide side.Up) ∷ the.Rule (rule.LockSide side.Down) ∷ []
firsts item.LockOrigin = the.Rule (rule.LockOrigin origin.Child) ∷ the.Rule (rule.LockOrigin origin.Parent) ∷ the.Rule (rule.LockOrigin origin.Own) ∷ []
firsts item.Send = the.Send send.Send ∷ []
firsts item.SendTo = the.Send send.Me ∷ the.Send send.Parent ∷ the.Send send.Kids ∷ the.Send send.Others ∷ []
firsts item.SendMore = the.Send send.More ∷ []
firsts item.SendValue =
    the.Send (send.Value value.Val) ∷ the.Send (send.Value value.Msg) ∷ the.Send (send.Value value.Kept) ∷ the.Send (send.Value value.Rs) ∷ the.Send (send.Value value.Zero) ∷ []

-- what must follow a token of a declaration
abbrev pub part_follows : Part → List (Symbol Terminal Item)
part_follows part.Message = p part.NewMessage ∷ Some_of item.Classes ∷ []
part_follows part.Field = p part.NewField ∷ w word.Init ∷ p part.FieldStart ∷ []
part_follows _ = []

-- what must follow a token of a rule
abbrev pub rule_follows : RulePart → List (Symbol Terminal Item)
rule_follows rule.Rule =
    r rule.NewRule ∷ w word.Take ∷ Some_of item.Take ∷ w word.Need ∷ w word.Up ∷ Some_of item.UpHold ∷ w word.Down ∷ Some_of item.DownHold
    ∷ Maybe item.When ∷ Maybe item.Set ∷ Maybe item.Free ∷ Maybe item.Lock ∷ Maybe item.Send ∷ r rule.EndRule ∷ []
rule_follows rule.TakeMe = r rule.TakeMessage ∷ []
rule_follows rule.TakeParent = r rule.TakeMessage ∷ []
rule_follows rule.TakeKids = r rule.TakeMessage ∷ []
rule_follows rule.Free = Some_of item.FreeSide ∷ []
rule_follows rule.Lock = Some_of item.LockSide ∷ Some_of item.LockOrigin ∷ []
rule_follows _ = []

-- what must follow a token of a guard
abbrev pub atom_follows : AtomPart → List (Symbol Terminal Item)
atom_follows atom.When = Some_of item.Atom ∷ Many item.MoreAtoms ∷ []
atom_follows atom.Comma = Some_of item.Atom ∷ []
atom_follows atom.Field = w word.In ∷ a atom.Status ∷ Many item.AtomMore ∷ []
atom_follows atom.Me = w word.In ∷ a atom.Status ∷ Many item.AtomMore ∷ []
atom_follows atom.Kids = Some_of item.KidsHow ∷ a atom.Status ∷ Many item.AtomMore ∷ []
atom_follows atom.Others = Some_of item.OthersHow ∷ a atom.Status ∷ Many item.AtomMore ∷ []
atom_follows atom.Asked = a atom.Message ∷ []
atom_follows _ = []

-- what must follow a token of the sets
abbrev pub assign_follows : AssignPart → List (Symbol Terminal Item)
assign_follows assign.Set = Some_of item.Assign ∷ Many item.MoreAssigns ∷ []
assign_follows assign.Comma = Some_of item.Assign ∷ []
assign_follows assign.Field = One (the.Sign sign.Assign) ∷ s assign.Status ∷ []
assign_follows assign.Val = One (the.Sign sign.Assign) ∷ Some_of item.AssignValue ∷ []
assign_follows assign.Me = One (the.Sign sign.Assign) ∷ s assign.Status ∷ []
assign_follows assign.Targets = One (the.Sign sign.Assign) ∷ s assign.Status ∷ []
assign_follows _ = []

-- what must follow a token of the send
abbrev pub send_follows : SendPart → List (Symbol Terminal Item)
send_follows send.Send = Some_of item.SendTo ∷ []
send_follows send.Me = t send.Message ∷ Some_of item.SendValue ∷ []
send_follows send.Parent = t send.Message ∷ Some_of item.SendValue ∷ []
send_follows send.Kids = w word.In ∷ t send.Status ∷ Many item.SendMore ∷ t send.Message ∷ Some_of item.SendValue ∷ []
send_follows send.Others = w word.In ∷ t send.Status ∷ Many item.SendMore ∷ t send.Message ∷ Some_of item.SendValue ∷ []
send_follows _ = []

-- what must follow a token
abbrev pub follows : Terminal → List (Symbol Terminal Item)
follows (the.Word x) = []
follows (the.Sign x) = []
follows (the.Part x) = part_follows x
follows (the.Rule x) = rule_follows x
follows (the.Atom x) = atom_follows x
follows (the.Assign x) = assign_follows x
follows (the.Send x) = send_follows x

-- a value is a reserved word or a number
abbrev pub value_stands : Value → Stands
value_stands value.Zero = Other
value_stands _ = Plain

-- of declarations, initial statuses are used names, and what is declared is a new name
abbrev pub part_stands : Part → Stands
part_stands part.FieldStart = Used
part_stands part.DirStart = Used
part_stands part.Name = Other
part_stands part.NewStatus = Other
part_stands part.NewMessage = Other
part_stands part.NewField = Other
part_stands _ = Plain

-- of a rule, the message taken is a used name and the rule's name a new one
abbrev pub rule_stands : RulePart → Stands
rule_stands rule.TakeMessage = Used
rule_stands rule.NewRule = Other
rule_stands _ = Plain

-- of a guard, fields, statuses and messages are used names
abbrev pub atom_stands : AtomPart → Stands
atom_stands atom.Field = Used
atom_stands atom.Status = Used
atom_stands atom.More = Used
atom_stands atom.Message = Used
atom_stands atom.Comma = Other
atom_stands _ = Plain

-- of the sets, fields and statuses are used names
abbrev pub assign_stands : AssignPart → Stands
assign_stands assign.Field = Used
assign_stands assign.Status = Used
assign_stands assign.Comma = Other
assign_stands (assign.Value x) = value_stands x
assign_stands _ = Plain

-- of the send, statuses and messages are used names
abbrev pub send_stands : SendPart → Stands
send_stands send.Status = Used
send_stands send.More = Used
send_stands send.Message = Used
send_stands (send.Value x) = value_stands x
send_stands _ = Plain

-- whether a token is a reserved word, a used name or something else
abbrev pub stands : Terminal → Stands
stands (the.Word x) = Plain
stands (the.Sign x) = Other
stands (the.Part x) = part_stands x
stands (the.Rule x) = rule_stands x
stands (the.Atom x) = atom_stands x
stands (the.Assign x) = assign_stands x
stands (the.Send x) = send_stands x
