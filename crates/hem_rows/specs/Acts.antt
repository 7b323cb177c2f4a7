-- What a firing of a rule that has a template does to the two locks, and what it takes and sends.
use Rattle.std.specs.Prelude.{ℕ, ◌==◌, ◌≡◌, ◌<◌, Bool, true, false, length, Option, None, Some, slice_get}
use Rattle.hem_base.specs.Sets.{has_bit}
use Rattle.hem_base.specs.declared.ids.KidSet.{KidSet}
use Rattle.hem_base.specs.declared.ids.Message.{Message}
use Rattle.hem_base.specs.declared.ids.Kind.{Kind}
use Rattle.hem_base.specs.declared.ids.Kind.TheVariants.{Leaf}
use Rattle.hem_syntax.specs.declared.rule.Hold.{Hold}
use Rattle.hem_syntax.specs.declared.rule.Hold.TheVariants as hold
use Rattle.hem_syntax.specs.declared.rule.Side.{Side}
use Rattle.hem_syntax.specs.declared.rule.Side.TheVariants.{Up, Down}
use Rattle.hem_syntax.specs.declared.rule.Origin.{Origin}
use Rattle.hem_syntax.specs.declared.rule.Origin.TheVariants as origin
use Rattle.hem_object.specs.declared.state.By.{By}
use Rattle.hem_object.specs.declared.state.By.TheVariants.{Kid, Parent, Own}
use Rattle.hem_object.specs.declared.state.Lock.{Lock}
use Rattle.hem_syntax.specs.Protocol.{Protocol, has_class, is_down_req, is_down_rsp}
use Rattle.hem_object.specs.Local.{Local, nobody}
use Rattle.hem_template.specs.Template.{is_leaf}
use Rattle.hem_template.specs.declared.row.Row.{Row}
use Rattle.hem_template.specs.declared.row.Taking.{Taking}
use Rattle.hem_template.specs.declared.row.Sending.{Sending}
use Rattle.hem_template.specs.declared.row.Taking.TheVariants.{NothingTaken, FromRequester, ParentRequest, ParentResponse, FromKids}
use Rattle.hem_template.specs.declared.row.Sending.TheVariants.{NothingSent, ToRequester, RequestUp, ResponseUp, ToOthers, ToKids}
use Rattle.hem_fire.specs.declared.outs.To.{To}
use Rattle.hem_fire.specs.declared.outs.To.TheVariants as to
use Rattle.hem_fire.specs.declared.outs.Outs.{Outs}
use Rattle.hem_fire.specs.Heads.{Heads, awaited_of}
use Rattle.hem_fire.specs.View.{asker, kid_asker, requester}
use Rattle.hem_fire.specs.Sends.{has_parent, to_requester}

-- whether a message is a request of a parent to a child
abbrev pub is_down_request : Protocol → Message → Bool
is_down_request p m = has_class p m.id is_down_req

-- whether a message is a response of a parent to a child
abbrev pub is_down_response : Protocol → Message → Bool
is_down_response p m = has_class p m.id is_down_rsp

-- the lock is as it must be: free, or held for a requester, by the parent or by the object itself
abbrev pub IsNeeded : Hold → Option Lock → Type 0
IsNeeded hold.Any lock = Unit {0}
IsNeeded hold.Free lock = lock ≡ None
IsNeeded hold.Child lock = (l : Lock) × (lock ≡ Some l) × (asker lock ≡ Some l.by)
IsNeeded hold.Parent lock = (l : Lock) × (lock ≡ Some l) × (l.by ≡ Parent)
IsNeeded hold.Own lock = (l : Lock) × (lock ≡ Some l) × (l.by ≡ Own)

-- for which child or processor a firing works: the one whose request it takes, or for which the lock is held that waits for what it takes
abbrev pub requester_of : Taking → Option ℕ → Local → Option By
requester_of NothingTaken me local = None
requester_of FromRequester me local = Some (requester me)
requester_of ParentRequest me local = asker local.up
requester_of ParentResponse me local = asker local.up
requester_of FromKids me local = kid_asker local.down

-- a child is named exactly where a child's request is taken
abbrev pub IsNamed : Kind → Taking → Option ℕ → Type 0
IsNamed Leaf taking me = me ≡ None
IsNamed _ FromRequester me = (c : ℕ) × (me ≡ Some c)
IsNamed _ _ me = me ≡ None

-- the holder of a lock that a firing takes
abbrev pub IsHolder : Origin → Option By → By → Type 0
IsHolder origin.Child asked by = asked ≡ Some by
IsHolder origin.Parent asked by = by ≡ Parent
IsHolder origin.Own asked by = by ≡ Own

-- a lock that is held for an origin and awaits these children
pub record IsTaken (origin : Origin) (asked : Option By) (awaited : KidSet) (new : Option Lock) : Type 0 where
  pub lock : Lock
  pub held : new ≡ Some lock
  pub holder : IsHolder origin asked lock.by
  pub awaits : lock.awaited ≡ awaited

-- the uplock where it isn't freed
abbrev pub up_left : Option Side → Option Lock → Option Lock
up_left (Some Up) old = None
up_left _ old = old

-- the downlock where it isn't freed
abbrev pub down_left : Option Side → Option Lock → Option Lock
down_left (Some Down) old = None
down_left _ old = old

-- the uplock after a firing that frees and takes these locks
abbrev pub UpAfter : Option Side → Option (Side × Origin) → Option By → Option Lock → Option Lock → Type 0
UpAfter frees None asked old new = new ≡ up_left frees old
UpAfter frees (Some lock) asked old new = elim lock.0 [ Up ↦ IsTaken lock.1 asked nobody new | Down ↦ new ≡ up_left frees old ]

-- the downlock after it; a new one awaits those to whom the firing sends
abbrev pub DownAfter : Option Side → Option (Side × Origin) → Option By → KidSet → Option Lock → Option Lock → Type 0
DownAfter frees None asked targets old new = new ≡ down_left frees old
DownAfter frees (Some lock) asked targets old new = elim lock.0 [ Up ↦ new ≡ down_left frees old | Down ↦ IsTaken lock.1 asked targets new ]

-- whether the head of the requester's requests is taken
abbrev pub takes_me : Taking → Bool
takes_me FromRequester = true
takes_me _ = false

-- whether the head of the parent's messages is taken
abbrev pub takes_parent : Taking → Bool
takes_parent ParentRequest = true
takes_parent ParentResponse = true
takes_parent _ = false

-- the children of whose responses the heads are taken
abbrev pub takes_kids : Taking → Local → KidSet
takes_kids FromKids local = awaited_of local
takes_kids _ local = nobody

-- there is a message
abbrev pub IsThere : Option Message → Type 0
IsThere head = (m : Message) × (head ≡ Some m)

-- the heads that are taken are there, and of the class that the row takes
abbrev pub AreHeads : Protocol → Taking → Local → Heads → Type 0
AreHeads p NothingTaken local heads = Unit {0}
AreHeads p FromRequester local heads = IsThere heads.request
AreHeads p ParentRequest local heads = (m : Message) × (heads.parent ≡ Some m) × (is_down_request p m ≡ true)
AreHeads p ParentResponse local heads = (m : Message) × (heads.parent ≡ Some m) × (is_down_response p m ≡ true)
AreHeads p FromKids local heads = (k : ℕ) (head : Option Message) → has_bit (awaited_of local).0 k ≡ true → slice_get heads.kids k ≡ Some head → IsThere head

-- the message goes up, from an object that has a parent
pub record GoesUp (kind : Kind) (way : To) (outs : Outs) : Type 0 where
  pub goes : outs.to ≡ way
  pub parent : has_parent kind ≡ true

-- the message goes to the requester; to a child it is a response
pub record GoesToRequester (p : Protocol) (kind : Kind) (asked : Option By) (outs : Outs) : Type 0 where
  pub by : By
  pub asker : asked ≡ Some by
  pub goes : outs.to ≡ to_requester (Some by)
  pub response : is_leaf kind ≡ false → is_down_response p outs.message ≡ true

-- the message is a request and goes to these children, of whom there is one at least
pub record GoesToKids (p : Protocol) (targets : KidSet) (outs : Outs) : Type 0 where
  pub goes : outs.to ≡ to.Kids targets
  pub some : (targets.0 == 0) ≡ false
  pub request : is_down_request p outs.message ≡ true

-- the requester isn't among those children
pub record GoesToOthers (p : Protocol) (asked : Option By) (targets : KidSet) (outs : Outs) : Type 0 where
  pub by : By
  pub asker : asked ≡ Some by
  pub kids : GoesToKids p targets outs
  pub spares : (c : ℕ) → by ≡ Kid c → has_bit targets.0 c ≡ false

-- where the message goes, and of which class it is
abbrev pub IsSent : Protocol → Kind → Sending → Option By → KidSet → Outs → Type 0
IsSent p kind NothingSent asked targets outs = outs.to ≡ to.Nobody
IsSent p kind ToRequester asked targets outs = GoesToRequester p kind asked outs
IsSent p kind RequestUp asked targets outs = GoesUp kind to.UpRequest outs
IsSent p kind ResponseUp asked targets outs = GoesUp kind to.UpResponse outs
IsSent p kind ToOthers asked targets outs = GoesToOthers p asked targets outs
IsSent p kind ToKids asked targets outs = GoesToKids p targets outs

-- requests go to one of so many children at least
abbrev pub IsReached : Sending → KidSet → ℕ → Type 0
IsReached ToOthers targets children = (c : ℕ) × (c < children) × (has_bit targets.0 c ≡ true)
IsReached ToKids targets children = (c : ℕ) × (c < children) × (has_bit targets.0 c ≡ true)
IsReached _ targets children = Unit {0}

-- a firing acts as the row of its template says: with the row of one template each of these fields computes to what a firing of it does
pub record Acts (p : Protocol) (kind : Kind) (row : Row) (me : Option ℕ) (local : Local) (heads : Heads) (after : Local) (outs : Outs) : Type 0 where
  pub targets : KidSet
  pub named : IsNamed kind row.taking me
  pub up_before : IsNeeded row.up local.up
  pub down_before : IsNeeded row.down local.down
  pub up_after : UpAfter row.frees row.locks (requester_of row.taking me local) local.up after.up
  pub down_after : DownAfter row.frees row.locks (requester_of row.taking me local) targets local.down after.down
  pub taken_request : outs.taken_request ≡ takes_me row.taking
  pub taken_parent : outs.taken_parent ≡ takes_parent row.taking
  pub taken_kids : outs.taken_kids ≡ takes_kids row.taking local
  pub there : AreHeads p row.taking local heads
  pub sent : IsSent p kind row.sending (requester_of row.taking me local) targets outs
  pub reached : IsReached row.sending targets (length local.dir)
  pub children : length after.dir ≡ length local.dir
