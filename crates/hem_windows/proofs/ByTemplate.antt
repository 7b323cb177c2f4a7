-- What a firing at an object does by its locks, template by template.
use Rattle.std.proofs.Common.{◌≡◌, refl, ℕ, true, false, Option, Some, None}
use Rattle.hem_base.specs.declared.ids.Message.{Message}
use Rattle.hem_base.specs.declared.ids.Kind.{Kind}
use Rattle.hem_template.specs.declared.template_name.TemplateName.{TemplateName}
use Rattle.hem_template.specs.declared.template_name.TemplateName.TheVariants.{ImmSelf, ImmDown, ImmUp, RqUp, RqUpSelf, RqUpDown, RqDownSelf, RqDownDown, RsDown, RsDownSelf, RsDownRqDown, RsUpDown, RsUpUp, RsUpSelf}
use Rattle.hem_object.specs.declared.state.Lock.{Lock}
use Rattle.hem_syntax.specs.Protocol.{Protocol}
use Rattle.hem_object.specs.Local.{Local}
use Rattle.hem_template.specs.Template.{row_of}
use Rattle.hem_template.specs.declared.row.Taking.TheVariants.{ParentResponse}
use Rattle.hem_fire.specs.declared.outs.Outs.{Outs}
use Rattle.hem_fire.specs.Heads.{Heads}
use Rattle.hem_rows.specs.Acts.{is_down_request, is_down_response, Acts}

-- with the uplock held, the downlock free and no request of the parent there, only a response of the parent can be taken
held_free : (lock : Lock) (up : Option Lock) → up ≡ Some lock → up ≡ None → ⊥
held_free lock up held free = cc

free_held : (down : Option Lock) (lock : Lock) → down ≡ None → down ≡ Some lock → ⊥
free_held down lock free held = cc

no_request : (p : Protocol) (heads : Heads) → ((m : Message) → heads.parent ≡ Some m → is_down_request p m ≡ false) → (m : Message) × (heads.parent ≡ Some m) × (is_down_request p m ≡ true) → ⊥
no_request p heads none it = let not = none it.0 it.1 in let asks = it.2 in cc

pub only_response : (p : Protocol) (kind : Kind) (t : TemplateName) (me : Option ℕ) (local : Local) (heads : Heads) (after : Local) (outs : Outs) (lock : Lock) → local.up ≡ Some lock → local.down ≡ None → ((m : Message) → heads.parent ≡ Some m → is_down_request p m ≡ false) → Acts p kind (row_of t) me local heads after outs → (row_of t).taking ≡ ParentResponse
only_response p kind RsDown me local heads after outs lock held free none acts = refl
only_response p kind RsDownSelf me local heads after outs lock held free none acts = refl
only_response p kind RsDownRqDown me local heads after outs lock held free none acts = refl
only_response p kind ImmSelf me local heads after outs lock held free none acts = absurd (held_free lock local.up held acts.up_before)
only_response p kind ImmDown me local heads after outs lock held free none acts = absurd (held_free lock local.up held acts.up_before)
only_response p kind RqUp me local heads after outs lock held free none acts = absurd (held_free lock local.up held acts.up_before)
only_response p kind RqUpSelf me local heads after outs lock held free none acts = absurd (held_free lock local.up held acts.up_before)
only_response p kind RqUpDown me local heads after outs lock held free none acts = absurd (held_free lock local.up held acts.up_before)
only_response p kind RqDownSelf me local heads after outs lock held free none acts = absurd (held_free lock local.up held acts.up_before)
only_response p kind ImmUp me local heads after outs lock held free none acts = absurd (no_request p heads none acts.there)
only_response p kind RqDownDown me local heads after outs lock held free none acts = absurd (no_request p heads none acts.there)
only_response p kind RsUpDown me local heads after outs lock held free none acts = absurd (free_held local.down acts.down_before.0 free acts.down_before.1)
only_response p kind RsUpUp me local heads after outs lock held free none acts = absurd (free_held local.down acts.down_before.0 free acts.down_before.1)
only_response p kind RsUpSelf me local heads after outs lock held free none acts = absurd (free_held local.down acts.down_before.0 free acts.down_before.1)

-- a response that is taken was there
pub response_there : (p : Protocol) (kind : Kind) (t : TemplateName) (me : Option ℕ) (local : Local) (heads : Heads) (after : Local) (outs : Outs) → (row_of t).taking ≡ ParentResponse → Acts p kind (row_of t) me local heads after outs → (m : Message) × (heads.parent ≡ Some m) × (is_down_response p m ≡ true)
response_there p kind RsDown me local heads after outs is acts = acts.there
response_there p kind RsDownSelf me local heads after outs is acts = acts.there
response_there p kind RsDownRqDown me local heads after outs is acts = acts.there
response_there p kind ImmSelf me local heads after outs is acts = cc
response_there p kind ImmDown me local heads after outs is acts = cc
response_there p kind ImmUp me local heads after outs is acts = cc
response_there p kind RqUp me local heads after outs is acts = cc
response_there p kind RqUpSelf me local heads after outs is acts = cc
response_there p kind RqUpDown me local heads after outs is acts = cc
response_there p kind RqDownSelf me local heads after outs is acts = cc
response_there p kind RqDownDown me local heads after outs is acts = cc
response_there p kind RsUpDown me local heads after outs is acts = cc
response_there p kind RsUpUp me local heads after outs is acts = cc
response_there p kind RsUpSelf me local heads after outs is acts = cc

-- and the uplock is freed
pub response_frees : (p : Protocol) (kind : Kind) (t : TemplateName) (me : Option ℕ) (local : Local) (heads : Heads) (after : Local) (outs : Outs) → (row_of t).taking ≡ ParentResponse → Acts p kind (row_of t) me local heads after outs → after.up ≡ None
response_frees p kind RsDown me local heads after outs is acts = acts.up_after
response_frees p kind RsDownSelf me local heads after outs is acts = acts.up_after
response_frees p kind RsDownRqDown me local heads after outs is acts = acts.up_after
response_frees p kind ImmSelf me local heads after outs is acts = cc
response_frees p kind ImmDown me local heads after outs is acts = cc
response_frees p kind ImmUp me local heads after outs is acts = cc
response_frees p kind RqUp me local heads after outs is acts = cc
response_frees p kind RqUpSelf me local heads after outs is acts = cc
response_frees p kind RqUpDown me local heads after outs is acts = cc
response_frees p kind RqDownSelf me local heads after outs is acts = cc
response_frees p kind RqDownDown me local heads after outs is acts = cc
response_frees p kind RsUpDown me local heads after outs is acts = cc
response_frees p kind RsUpUp me local heads after outs is acts = cc
response_frees p kind RsUpSelf me local heads after outs is acts = cc

-- a firing that frees a held downlock keeps the uplock
pub down_held-keeps_up : (p : Protocol) (kind : Kind) (t : TemplateName) (me : Option ℕ) (local : Local) (heads : Heads) (after : Local) (outs : Outs) (lock : Lock) → local.down ≡ Some lock → Acts p kind (row_of t) me local heads after outs → after.up ≡ local.up
down_held-keeps_up p kind RsUpDown me local heads after outs lock held acts = acts.up_after
down_held-keeps_up p kind RsUpUp me local heads after outs lock held acts = acts.up_after
down_held-keeps_up p kind RsUpSelf me local heads after outs lock held acts = acts.up_after
down_held-keeps_up p kind ImmSelf me local heads after outs lock held acts = acts.up_after
down_held-keeps_up p kind ImmDown me local heads after outs lock held acts = acts.up_after
down_held-keeps_up p kind ImmUp me local heads after outs lock held acts = acts.up_after
down_held-keeps_up p kind RqUpDown me local heads after outs lock held acts = acts.up_after
down_held-keeps_up p kind RqDownSelf me local heads after outs lock held acts = acts.up_after
down_held-keeps_up p kind RqDownDown me local heads after outs lock held acts = acts.up_after
down_held-keeps_up p kind RqUp me local heads after outs lock held acts = absurd (free_held local.down lock acts.down_before held)
down_held-keeps_up p kind RqUpSelf me local heads after outs lock held acts = absurd (free_held local.down lock acts.down_before held)
down_held-keeps_up p kind RsDown me local heads after outs lock held acts = absurd (free_held local.down lock acts.down_before held)
down_held-keeps_up p kind RsDownSelf me local heads after outs lock held acts = absurd (free_held local.down lock acts.down_before held)
down_held-keeps_up p kind RsDownRqDown me local heads after outs lock held acts = absurd (free_held local.down lock acts.down_before held)
