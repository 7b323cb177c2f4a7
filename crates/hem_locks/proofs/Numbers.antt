-- What a firing of each template adds and takes at the edges of its object, in numbers.
use Rattle.std.proofs.Common.{◌≡◌, ℕ, ◌+◌, ◌≤◌, arith, Option, Some, None}
use Rattle.hem_syntax.specs.declared.rule.Hold.{Hold}
use Rattle.hem_syntax.specs.declared.rule.Hold.TheVariants as hold
use Rattle.hem_syntax.specs.declared.rule.Side.{Side}
use Rattle.hem_syntax.specs.declared.rule.Side.TheVariants.{Up, Down}
use Rattle.hem_syntax.specs.declared.rule.Origin.{Origin}
use Rattle.hem_syntax.specs.declared.rule.Origin.TheVariants as origin
use Rattle.hem_template.specs.declared.template_name.TemplateName.{TemplateName}
use Rattle.hem_template.specs.declared.template_name.TemplateName.TheVariants.{ImmSelf, ImmDown, ImmUp, RqUp, RqUpSelf, RqUpDown, RqDownSelf, RqDownDown, RsDown, RsDownSelf, RsDownRqDown, RsUpDown, RsUpUp, RsUpSelf}
use Rattle.hem_template.specs.Template.{row_of}
use Rattle.hem_template.specs.declared.row.Row.{Row}
use Rattle.hem_template.specs.declared.row.Taking.{Taking}
use Rattle.hem_template.specs.declared.row.Sending.{Sending}
use Rattle.hem_template.specs.declared.row.Taking.TheVariants.{NothingTaken, FromRequester, ParentRequest, ParentResponse, FromKids}
use Rattle.hem_template.specs.declared.row.Sending.TheVariants.{ToRequester, RequestUp, ResponseUp, ToOthers, ToKids}

-- a number of the uplock, and one of the downlock, where the lock isn't freed
abbrev pub up_kept : Option Side → ℕ → ℕ
up_kept (Some Up) old = 0
up_kept _ old = old

abbrev pub down_kept : Option Side → ℕ → ℕ
down_kept (Some Down) old = 0
down_kept _ old = old

-- a number of the uplock after a firing: that of a new lock, none where it is freed, or the old one
abbrev pub up_number : Option Side → Option (Side × Origin) → (Origin → ℕ) → ℕ → ℕ
up_number frees None new old = up_kept frees old
up_number frees (Some lock) new old = elim lock.0 [ Up ↦ new lock.1 | Down ↦ up_kept frees old ]

-- the same of the downlock
abbrev pub down_number : Option Side → Option (Side × Origin) → (Origin → ℕ) → ℕ → ℕ
down_number frees None new old = down_kept frees old
down_number frees (Some lock) new old = elim lock.0 [ Up ↦ down_kept frees old | Down ↦ new lock.1 ]

-- whether a new lock is for the child: as often as the child is the requester
abbrev pub new_for_kid : ℕ → Origin → ℕ
new_for_kid asked origin.Child = asked
new_for_kid asked _ = 0

abbrev pub new_for_parent : Origin → ℕ
new_for_parent origin.Parent = 1
new_for_parent _ = 0

-- what a need says of the number of a lock that is held for the child
abbrev pub NeedsKid : Hold → ℕ → Type 0
NeedsKid hold.Any n = Unit {0}
NeedsKid hold.Child n = Unit {0}
NeedsKid _ n = n ≡ 0

-- of a lock that is held for the parent
abbrev pub NeedsParent : Hold → ℕ → Type 0
NeedsParent hold.Any n = Unit {0}
NeedsParent hold.Parent n = n ≡ 1
NeedsParent _ n = n ≡ 0

-- of a lock that is held
abbrev pub NeedsHeld : Hold → ℕ → Type 0
NeedsHeld hold.Any n = Unit {0}
NeedsHeld hold.Free n = n ≡ 0
NeedsHeld _ n = n ≡ 1

-- of a lock that awaits the child
abbrev pub NeedsAwaiting : Hold → ℕ → Type 0
NeedsAwaiting hold.Free n = n ≡ 0
NeedsAwaiting _ n = Unit {0}

-- how often a child is the requester, by the lock that is held for the requester
abbrev pub Asking : Taking → ℕ → ℕ → ℕ → Type 0
Asking NothingTaken asked up down = asked ≡ 0
Asking FromRequester asked up down = Unit {0}
Asking ParentRequest asked up down = asked ≡ up
Asking ParentResponse asked up down = asked ≡ up
Asking FromKids asked up down = asked ≡ down

-- the child's requests and responses that are taken
abbrev pub requests_taken : Taking → ℕ → ℕ
requests_taken FromRequester asked = asked
requests_taken _ asked = 0

abbrev pub responses_taken : Taking → ℕ → ℕ
responses_taken FromKids awaited = awaited
responses_taken _ awaited = 0

-- the responses and requests that are sent to the child
abbrev pub answers_sent : Sending → ℕ → ℕ
answers_sent ToRequester asked = asked
answers_sent _ asked = 0

abbrev pub asks_sent : Sending → ℕ → ℕ
asks_sent ToOthers target = target
asks_sent ToKids target = target
asks_sent _ target = 0

-- the requester isn't among the others
abbrev pub Sparing : Sending → ℕ → ℕ → Type 0
Sparing ToOthers asked target = asked + target ≤ 1
Sparing _ asked target = Unit {0}

-- the numbers of an edge above which a rule of that row fires: locks for the child, the child awaited, the child as requester and as target
pub record Above (row : Row) (up down awaited asked target up' down' awaited' : ℕ) : Type 0 where
  pub up_need : NeedsKid row.up up
  pub down_need : NeedsKid row.down down
  pub awaited_need : NeedsAwaiting row.down awaited
  pub asking : Asking row.taking asked up down
  pub sparing : Sparing row.sending asked target
  pub few_asked : asked ≤ 1
  pub few_targets : target ≤ 1
  pub few_awaited : down + awaited ≤ 1
  pub up_after : up' ≡ up_number row.frees row.locks (new_for_kid asked) up
  pub down_after : down' ≡ down_number row.frees row.locks (new_for_kid asked) down
  pub awaited_after : awaited' ≡ down_number row.frees row.locks (λ o. target) awaited

-- what they come to
pub record AboveAdds (row : Row) (up down awaited asked target up' down' awaited' : ℕ) : Type 0 where
  pub uplock : answers_sent row.sending asked + up' + down' ≡ requests_taken row.taking asked + up + down
  pub downlock : asks_sent row.sending target + awaited ≡ responses_taken row.taking awaited + awaited'
  pub behind : answers_sent row.sending asked + awaited ≤ 1
  pub spared : down' + awaited' ≤ 1

pub above_adds : (t : TemplateName) (up down awaited asked target up' down' awaited' : ℕ) → Above (row_of t) up down awaited asked target up' down' awaited' → AboveAdds (row_of t) up down awaited asked target up' down' awaited'
above_adds ImmSelf up down awaited asked target up' down' awaited' it = record { uplock = omega arith; downlock = omega arith; behind = omega arith; spared = omega arith }
above_adds ImmDown up down awaited asked target up' down' awaited' it = record { uplock = omega arith; downlock = omega arith; behind = omega arith; spared = omega arith }
above_adds ImmUp up down awaited asked target up' down' awaited' it = record { uplock = omega arith; downlock = omega arith; behind = omega arith; spared = omega arith }
above_adds RqUp up down awaited asked target up' down' awaited' it = record { uplock = omega arith; downlock = omega arith; behind = omega arith; spared = omega arith }
above_adds RqUpSelf up down awaited asked target up' down' awaited' it = record { uplock = omega arith; downlock = omega arith; behind = omega arith; spared = omega arith }
above_adds RqUpDown up down awaited asked target up' down' awaited' it = record { uplock = omega arith; downlock = omega arith; behind = omega arith; spared = omega arith }
above_adds RqDownSelf up down awaited asked target up' down' awaited' it = record { uplock = omega arith; downlock = omega arith; behind = omega arith; spared = omega arith }
above_adds RqDownDown up down awaited asked target up' down' awaited' it = record { uplock = omega arith; downlock = omega arith; behind = omega arith; spared = omega arith }
above_adds RsDown up down awaited asked target up' down' awaited' it = record { uplock = omega arith; downlock = omega arith; behind = omega arith; spared = omega arith }
above_adds RsDownSelf up down awaited asked target up' down' awaited' it = record { uplock = omega arith; downlock = omega arith; behind = omega arith; spared = omega arith }
above_adds RsDownRqDown up down awaited asked target up' down' awaited' it = record { uplock = omega arith; downlock = omega arith; behind = omega arith; spared = omega arith }
above_adds RsUpDown up down awaited asked target up' down' awaited' it = record { uplock = omega arith; downlock = omega arith; behind = omega arith; spared = omega arith }
above_adds RsUpUp up down awaited asked target up' down' awaited' it = record { uplock = omega arith; downlock = omega arith; behind = omega arith; spared = omega arith }
above_adds RsUpSelf up down awaited asked target up' down' awaited' it = record { uplock = omega arith; downlock = omega arith; behind = omega arith; spared = omega arith }

-- the responses and requests of the parent that are taken
abbrev pub answers_taken : Taking → ℕ
answers_taken ParentResponse = 1
answers_taken _ = 0

abbrev pub asks_taken : Taking → ℕ
asks_taken ParentRequest = 1
asks_taken _ = 0

-- the requests and responses that go up
abbrev pub requests_sent : Sending → ℕ
requests_sent RequestUp = 1
requests_sent _ = 0

abbrev pub responses_sent : Sending → ℕ
responses_sent ResponseUp = 1
responses_sent _ = 0

-- the numbers of an edge below which a rule of that row fires: each lock held, the downlock held by the parent
pub record Below (row : Row) (up down parent up' down' parent' : ℕ) : Type 0 where
  pub up_need : NeedsHeld row.up up
  pub down_need : NeedsHeld row.down down
  pub parent_need : NeedsParent row.down parent
  pub few : up ≤ 1
  pub up_after : up' ≡ up_number row.frees row.locks (λ o. 1) up
  pub down_after : down' ≡ down_number row.frees row.locks (λ o. 1) down
  pub parent_after : parent' ≡ down_number row.frees row.locks new_for_parent parent

-- what they come to
pub record BelowAdds (row : Row) (up down parent up' down' parent' : ℕ) : Type 0 where
  pub uplock : requests_sent row.sending + up ≡ answers_taken row.taking + up'
  pub downlock : responses_sent row.sending + parent' ≡ asks_taken row.taking + parent
  pub single : up' + down' ≤ 1 + parent'

pub below_adds : (t : TemplateName) (up down parent up' down' parent' : ℕ) → Below (row_of t) up down parent up' down' parent' → BelowAdds (row_of t) up down parent up' down' parent'
below_adds ImmSelf up down parent up' down' parent' it = record { uplock = omega arith; downlock = omega arith; single = omega arith }
below_adds ImmDown up down parent up' down' parent' it = record { uplock = omega arith; downlock = omega arith; single = omega arith }
below_adds ImmUp up down parent up' down' parent' it = record { uplock = omega arith; downlock = omega arith; single = omega arith }
below_adds RqUp up down parent up' down' parent' it = record { uplock = omega arith; downlock = omega arith; single = omega arith }
below_adds RqUpSelf up down parent up' down' parent' it = record { uplock = omega arith; downlock = omega arith; single = omega arith }
below_adds RqUpDown up down parent up' down' parent' it = record { uplock = omega arith; downlock = omega arith; single = omega arith }
below_adds RqDownSelf up down parent up' down' parent' it = record { uplock = omega arith; downlock = omega arith; single = omega arith }
below_adds RqDownDown up down parent up' down' parent' it = record { uplock = omega arith; downlock = omega arith; single = omega arith }
below_adds RsDown up down parent up' down' parent' it = record { uplock = omega arith; downlock = omega arith; single = omega arith }
below_adds RsDownSelf up down parent up' down' parent' it = record { uplock = omega arith; downlock = omega arith; single = omega arith }
below_adds RsDownRqDown up down parent up' down' parent' it = record { uplock = omega arith; downlock = omega arith; single = omega arith }
below_adds RsUpDown up down parent up' down' parent' it = record { uplock = omega arith; downlock = omega arith; single = omega arith }
below_adds RsUpUp up down parent up' down' parent' it = record { uplock = omega arith; downlock = omega arith; single = omega arith }
below_adds RsUpSelf up down parent up' down' parent' it = record { uplock = omega arith; downlock = omega arith; single = omega arith }
