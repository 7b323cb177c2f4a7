-- What a firing of each template takes off the potential and puts on, in numbers.
use Rattle.std.proofs.Common.{◌≡◌, ℕ, ◌+◌, ◌*◌, ◌≤◌, Bool, true, false, not, cond, arith}
use Rattle.hem_syntax.specs.declared.rule.Hold.{Hold}
use Rattle.hem_syntax.specs.declared.rule.Hold.TheVariants as hold
use Rattle.hem_syntax.specs.declared.rule.Origin.{Origin}
use Rattle.hem_syntax.specs.declared.rule.Origin.TheVariants as origin
use Rattle.hem_template.specs.declared.template_name.TemplateName.{TemplateName}
use Rattle.hem_template.specs.declared.template_name.TemplateName.TheVariants.{ImmSelf, ImmDown, ImmUp, RqUp, RqUpSelf, RqUpDown, RqDownSelf, RqDownDown, RsDown, RsDownSelf, RsDownRqDown, RsUpDown, RsUpUp, RsUpSelf}
use Rattle.hem_template.specs.Template.{row_of}
use Rattle.hem_template.specs.declared.row.Row.{Row}
use Rattle.hem_template.specs.declared.row.Taking.{Taking}
use Rattle.hem_template.specs.declared.row.Sending.{Sending}
use Rattle.hem_template.specs.declared.row.Taking.TheVariants.{NothingTaken, FromRequester, ParentRequest, ParentResponse, FromKids}
use Rattle.hem_template.specs.declared.row.Sending.TheVariants.{ToRequester, RequestUp, ToOthers, ToKids}
use Rattle.hem_locks.proofs.Numbers.{down_number, NeedsHeld}
use Rattle.hem_bound.specs.Changes.{taken_off, put_on}

-- that much where a child's request is taken
abbrev pub if_asked : Taking → ℕ → ℕ
if_asked FromRequester x = x
if_asked _ x = 0

-- that much where a message of the parent is taken
abbrev pub if_told : Taking → ℕ → ℕ
if_told ParentRequest x = x
if_told ParentResponse x = x
if_told _ x = 0

-- that much where a request is sent up
abbrev pub if_asks : Sending → ℕ → ℕ
if_asks RequestUp x = x
if_asks _ x = 0

-- the size of those to whom messages go down: the requester or the targets
abbrev pub sent_by : Sending → ℕ → ℕ → ℕ
sent_by ToRequester asked target = asked
sent_by ToOthers asked target = target
sent_by ToKids asked target = target
sent_by _ asked target = 0

-- what a new downlock weighs
abbrev pub new_weight : ℕ → Origin → ℕ
new_weight asked origin.Child = 1 + 2 * asked
new_weight asked _ = 1

-- what a need says of the downlock's weight
abbrev pub NeedsWeight : Hold → ℕ → Type 0
NeedsWeight hold.Free old = old ≡ 0
NeedsWeight hold.Parent old = old ≡ 1
NeedsWeight hold.Own old = old ≡ 1
NeedsWeight _ old = Unit {0}

-- where the awaited children's responses are taken the requester is the child for which the downlock is held
abbrev pub HeldFor : Taking → ℕ → ℕ → ℕ → Type 0
HeldFor FromKids asked held old = old ≡ held + 2 * asked
HeldFor _ asked held old = Unit {0}

-- the numbers of a firing of a rule of that row: the weight of the child's request, the size of the object's subtree, the weight of its requests, the sizes of the requester's and of the targets' subtrees, how often the downlock is held, its weight before and after, and the weight of what is taken and sent
pub record Weighs (row : Row) (request own up asked target held old new taken_up taken_down sent_up sent_down : ℕ) : Type 0 where
  pub taken_up_is : taken_up ≡ if_asked row.taking request
  pub taken_down_is : taken_down ≡ if_told row.taking (2 * own)
  pub needs : NeedsHeld row.down held
  pub needs_weight : NeedsWeight row.down old
  pub held_for : HeldFor row.taking asked held old
  pub new_is : new ≡ down_number row.frees row.locks (new_weight asked) old
  pub sent_up_is : sent_up ≡ if_asks row.sending up
  pub sent_down_is : sent_down ≡ 2 * sent_by row.sending asked target

-- they come to what the table says
pub comes_to : (t : TemplateName) (request own up asked target held old new taken_up taken_down sent_up sent_down : ℕ) → Weighs (row_of t) request own up asked target held old new taken_up taken_down sent_up sent_down → taken_up + taken_down + old + put_on t up asked target ≡ sent_up + sent_down + new + taken_off t request own asked
comes_to ImmSelf request own up asked target held old new taken_up taken_down sent_up sent_down it = omega arith
comes_to ImmDown request own up asked target held old new taken_up taken_down sent_up sent_down it = omega arith
comes_to ImmUp request own up asked target held old new taken_up taken_down sent_up sent_down it = omega arith
comes_to RqUp request own up asked target held old new taken_up taken_down sent_up sent_down it = omega arith
comes_to RqUpSelf request own up asked target held old new taken_up taken_down sent_up sent_down it = omega arith
comes_to RqUpDown request own up asked target held old new taken_up taken_down sent_up sent_down it = omega arith
comes_to RqDownSelf request own up asked target held old new taken_up taken_down sent_up sent_down it = omega arith
comes_to RqDownDown request own up asked target held old new taken_up taken_down sent_up sent_down it = omega arith
comes_to RsDown request own up asked target held old new taken_up taken_down sent_up sent_down it = omega arith
comes_to RsDownSelf request own up asked target held old new taken_up taken_down sent_up sent_down it = omega arith
comes_to RsDownRqDown request own up asked target held old new taken_up taken_down sent_up sent_down it = omega arith
comes_to RsUpDown request own up asked target held old new taken_up taken_down sent_up sent_down it = omega arith
comes_to RsUpUp request own up asked target held old new taken_up taken_down sent_up sent_down it = omega arith
comes_to RsUpSelf request own up asked target held old new taken_up taken_down sent_up sent_down it = omega arith

-- whether a firing with that take starts a transaction, by whether it names a child
abbrev pub starts_by : Taking → Bool → Bool
starts_by NothingTaken named = true
starts_by FromRequester named = not named
starts_by _ named = false

-- where requests go to others the requester isn't among them
abbrev pub FitBoth : Sending → ℕ → ℕ → ℕ → Type 0
FitBoth ToOthers asked target own = asked + target + 1 ≤ own
FitBoth _ asked target own = Unit {0}

-- how these numbers stand to that of the objects
pub record Fits (row : Row) (named : Bool) (n request own up asked target : ℕ) : Type 0 where
  pub few : own ≤ n
  pub most : up + 2 ≤ 3 * n
  pub fits_asked : asked + 1 ≤ own
  pub fits_target : target + 1 ≤ own
  pub fit_both : FitBoth row.sending asked target own
  pub higher : cond named (up + 1) 0 ≤ request
  pub heavy : cond named (2 * n) 0 ≤ request

-- a firing takes off more than it puts on, or starts a transaction and puts on less than three times the objects
pub outweighs : (t : TemplateName) (named : Bool) (n request own up asked target : ℕ) → Fits (row_of t) named n request own up asked target → put_on t up asked target + 1 ≤ taken_off t request own asked + cond (starts_by (row_of t).taking named) (3 * n) 0
outweighs ImmSelf named n request own up asked target it = omega arith
outweighs ImmDown true n request own up asked target it = omega arith
outweighs ImmDown false n request own up asked target it = omega arith
outweighs ImmUp named n request own up asked target it = omega arith
outweighs RqUp true n request own up asked target it = omega arith
outweighs RqUp false n request own up asked target it = omega arith
outweighs RqUpSelf named n request own up asked target it = omega arith
outweighs RqUpDown true n request own up asked target it = omega arith
outweighs RqUpDown false n request own up asked target it = omega arith
outweighs RqDownSelf named n request own up asked target it = omega arith
outweighs RqDownDown named n request own up asked target it = omega arith
outweighs RsDown named n request own up asked target it = omega arith
outweighs RsDownSelf named n request own up asked target it = omega arith
outweighs RsDownRqDown named n request own up asked target it = omega arith
outweighs RsUpDown named n request own up asked target it = omega arith
outweighs RsUpUp named n request own up asked target it = omega arith
outweighs RsUpSelf named n request own up asked target it = omega arith
