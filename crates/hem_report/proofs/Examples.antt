-- The texts of worked examples, computed.
use Rattle.std.proofs.Common.{◌≡◌, refl, ℕ, List, [], ◌∷◌, Option, None, Some, ◌++◌}
use Rattle.std.specs.Prelude.{codes}
use Rattle.std.specs.Fmt.{digits}
use Rattle.hem_base.specs.declared.ids.Message.{Message}
use Rattle.hem_base.specs.declared.ids.Firing.{Firing}
use Rattle.hem_base.specs.declared.ids.Kind.TheVariants.{Root, Mid, Leaf}
use Rattle.hem_syntax.specs.declared.rule.Class.TheVariants.{ExtReq, ExtRsp, DownReq}
use Rattle.hem_object.specs.declared.state.By.{By}
use Rattle.hem_object.specs.declared.state.By.TheVariants.{Processor, Kid, Parent, Own}
use Rattle.hem_object.specs.declared.state.Lock.{Lock}
use Rattle.hem_syntax.specs.Protocol.{Protocol, empty_part}
use Rattle.hem_object.specs.Local.{Local}
use Rattle.hem_tree.specs.Tree.{Tree}
use Rattle.hem_system.specs.State.{Cell, State}
use Rattle.hem_system.specs.declared.lane.Lane.TheVariants.{UpResponses, Answers}
use Rattle.hem_report.specs.Texts.{illegal_text}
use Rattle.hem_report.specs.BlocksText.{blocks_text}
use Rattle.hem_report.specs.LocalText.{object_line}
use Rattle.hem_report.specs.StateText.{list_line, state_text, word_of}

-- a protocol of a leaf that reads at once
abbrev one : Protocol
one =
    record {
      name = codes "one";
      statuses = codes "I" ∷ codes "S" ∷ [];
      messages = (codes "Ld", ExtReq) ∷ (codes "LdR", ExtRsp) ∷ (codes "Inv", DownReq) ∷ [];
      rule_names = codes "ld_hit" ∷ codes "gets_hit" ∷ [];
      root = empty_part;
      mid = empty_part;
      leaf = record empty_part { fields = (codes "st", record { 0 = 1 }) ∷ [] };
    }

abbrev message : ℕ → ℕ → Message
message id value = record { id = record { 0 = id }; value = value }

abbrev held : By → ℕ → ℕ → ℕ → Option Lock
held by id value awaited = Some (record { by = by; request = message id value; awaited = record { 0 = awaited } })

abbrev root_local : Local
root_local = record { fields = []; dir = record { 0 = 0 } ∷ []; val = 0; up = None; down = None }

abbrev leaf_local : Local
leaf_local = record { fields = record { 0 = 1 } ∷ []; dir = []; val = 0; up = None; down = None }

-- an object with these messages
abbrev cell : Local → List Message → List Message → List Message → Cell
cell local down requests answers =
    record { local = local; up_requests = []; up_responses = []; down = down; requests = requests; answers = answers }

-- a root and a leaf
abbrev two : Tree
two = record { kind = Root; parent = None } ∷ record { kind = Leaf; parent = Some 0 } ∷ []

abbrev firing : ℕ → Option ℕ → Firing
firing rule me =
    record {
      line = record { 0 = 0 };
      object = record { 0 = 1 };
      rule = record { 0 = rule };
      me = elim me [ None ↦ None | Some child ↦ Some (record { 0 = child }) ];
    }

-- a load that was answered
abbrev answered_state : State
answered_state = (cell root_local [] [] [] ∷ cell leaf_local [] [] (message 1 0 ∷ []) ∷ []) ∷ []

answered : word_of answered_state ++ blocks_text one (record { number = 0; firings = firing 0 None ∷ [] } ∷ []) ++ state_text one two answered_state ≡ codes "quiet\nblocks 1\nblock 0\n0 1 ld_hit\nstate\nline 0\n0 root val=0 up=free down=free dir=I\n1 leaf st=S val=0 up=free down=free\nans 1 LdR:0\nend\n"
unfolding digits
answered = refl

-- a load that waits, and an object that the tree doesn't have
abbrev waiting_state : State
waiting_state = (cell root_local [] [] [] ∷ cell leaf_local (message 2 0 ∷ []) (message 0 0 ∷ []) [] ∷ cell leaf_local [] (message 0 7 ∷ []) [] ∷ []) ∷ []

waiting : word_of waiting_state ++ state_text one two waiting_state ≡ codes "open\nstate\nline 0\n0 root val=0 up=free down=free dir=I\n1 leaf st=S val=0 up=free down=free\ndown 1 Inv:0\nreq 1 Ld:0\nreq 2 Ld:7\nend\n"
unfolding digits
waiting = refl

-- two lines without objects
lines : state_text one two ([] ∷ [] ∷ []) ≡ codes "state\nline 0\nline 1\nend\n"
unfolding digits
lines = refl

-- locks
awaiting_two : object_line one Root (8 ∷ 9 ∷ 10 ∷ []) 7 (record root_local { dir = record { 0 = 0 } ∷ record { 0 = 1 } ∷ record { 0 = 0 } ∷ []; up = held (Kid 1) 0 3 4; down = held Parent 2 0 5 }) ≡ codes "7 root val=0 up=9:Ld:3 down=parent:Inv:0:8,10 dir=I,S,I\n"
unfolding digits
awaiting_two = refl

awaiting_none : object_line one Mid (8 ∷ []) 7 (record root_local { down = held Own 2 0 0 }) ≡ codes "7 mid val=0 up=free down=self:Inv:0: dir=I\n"
unfolding digits
awaiting_none = refl

asked : object_line one Leaf [] 12 (record leaf_local { up = held Processor 0 12 0 }) ≡ codes "12 leaf st=S val=0 up=cpu:Ld:12 down=free\n"
unfolding digits
asked = refl

-- lists: head first, and no line for an empty one
two_answers : list_line one 3 Answers (message 1 5 ∷ message 1 0 ∷ []) ++ list_line one 3 UpResponses [] ≡ codes "ans 3 LdR:5 LdR:0\n"
unfolding digits
two_answers = refl

-- a firing that names a child, and one that isn't possible
named : blocks_text one (record { number = 3; firings = firing 1 (Some 2) ∷ firing 0 None ∷ [] } ∷ []) ++ illegal_text 10 ≡ codes "blocks 1\nblock 3\n0 1 gets_hit from 2\n0 1 ld_hit\nillegal 10\n"
unfolding digits
named = refl
