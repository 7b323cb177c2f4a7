-- What the table of templates says of what a rule may name.
use Rattle.std.proofs.Common.{◌≡◌, refl, Bool, true, false, Option, Some, None}
use Rattle.hem_base.specs.declared.ids.MsgId.{MsgId}
use Rattle.hem_syntax.specs.declared.rule.Take.TheVariants as take
use Rattle.hem_syntax.specs.declared.rule.Hold.{Hold}
use Rattle.hem_syntax.specs.declared.rule.Hold.TheVariants as hold
use Rattle.hem_template.specs.declared.template_name.TemplateName.{TemplateName}
use Rattle.hem_template.specs.declared.template_name.TemplateName.TheVariants.{ImmSelf, RqUpSelf, RqDownSelf, RsDown, RsDownSelf, RsDownRqDown, RsUpDown, RsUpUp, RsUpSelf}
use Rattle.hem_object.specs.declared.state.Lock.{Lock}
use Rattle.hem_syntax.specs.Protocol.{Protocol}
use Rattle.hem_template.specs.declared.row.Taking.{Taking}
use Rattle.hem_template.specs.declared.row.Taking.TheVariants.{NothingTaken, FromRequester, ParentRequest, ParentResponse, FromKids}
use Rattle.hem_template.specs.Template.{row_of, may_name_requester, has_kept, has_rs}
use Rattle.hem_fire.specs.Locks.{need_holds}
use Rattle.hem_rows.specs.Rows.{IsTaking}
use Rattle.hem_rows.specs.Acts.{takes_me, takes_parent}

-- a need of a lock that is held
abbrev pub wants_held : Hold → Bool
wants_held hold.Child = true
wants_held hold.Parent = true
wants_held hold.Own = true
wants_held _ = false

-- whether nothing is taken
abbrev pub takes_nothing : Taking → Bool
takes_nothing NothingTaken = true
takes_nothing _ = false

pub takes_of_me : (p : Protocol) (row : Taking) (id : MsgId) → IsTaking p row (take.Me id) → takes_me row ≡ true
takes_of_me p NothingTaken id is = cc
takes_of_me p FromRequester id is = refl
takes_of_me p ParentRequest id is = let e = is.1 in cc
takes_of_me p ParentResponse id is = let e = is.1 in cc
takes_of_me p FromKids id is = let e = is.1 in cc

pub takes_of_parent : (p : Protocol) (row : Taking) (id : MsgId) → IsTaking p row (take.Parent id) → takes_parent row ≡ true
takes_of_parent p NothingTaken id is = cc
takes_of_parent p FromRequester id is = let e = is.1 in cc
takes_of_parent p ParentRequest id is = refl
takes_of_parent p ParentResponse id is = refl
takes_of_parent p FromKids id is = let e = is.1 in cc

pub takes_of_kids : (p : Protocol) (row : Taking) (id : MsgId) → IsTaking p row (take.Kids id) → has_rs row ≡ true
takes_of_kids p NothingTaken id is = cc
takes_of_kids p FromRequester id is = let e = is.1 in cc
takes_of_kids p ParentRequest id is = let e = is.1 in cc
takes_of_kids p ParentResponse id is = let e = is.1 in cc
takes_of_kids p FromKids id is = refl

pub takes_of_nothing : (p : Protocol) (row : Taking) → IsTaking p row take.Nothing → takes_nothing row ≡ true
takes_of_nothing p NothingTaken is = refl
takes_of_nothing p FromRequester is = let e = is.1 in cc
takes_of_nothing p ParentRequest is = let e = is.1 in cc
takes_of_nothing p ParentResponse is = let e = is.1 in cc
takes_of_nothing p FromKids is = let e = is.1 in cc

-- a rule that takes from the parent and names its requester wants the uplock held for it
pub parent_asks : (t : TemplateName) → takes_parent (row_of t).taking ≡ true → may_name_requester (row_of t) ≡ true → (row_of t).up ≡ hold.Child
parent_asks RsDown takes asks = refl
parent_asks RsDownRqDown takes asks = refl
parent_asks _ takes asks = cc

-- one that takes a response from the parent wants the uplock held
pub parent_keeps : (t : TemplateName) → takes_parent (row_of t).taking ≡ true → has_kept (row_of t).taking ≡ true → wants_held (row_of t).up ≡ true
parent_keeps RsDown takes keeps = refl
parent_keeps RsDownRqDown takes keeps = refl
parent_keeps RsDownSelf takes keeps = refl
parent_keeps _ takes keeps = cc

-- one that takes from children and names its requester wants the downlock held for it
pub kids_ask : (t : TemplateName) → has_rs (row_of t).taking ≡ true → may_name_requester (row_of t) ≡ true → (row_of t).down ≡ hold.Child
kids_ask RsUpDown takes asks = refl
kids_ask _ takes asks = cc

-- one that takes from children wants the downlock held
pub kids_keep : (t : TemplateName) → has_rs (row_of t).taking ≡ true → wants_held (row_of t).down ≡ true
kids_keep RsUpDown takes = refl
kids_keep RsUpUp takes = refl
kids_keep RsUpSelf takes = refl
kids_keep _ takes = cc

-- one that takes nothing names nobody
pub nobody_asks : (t : TemplateName) → takes_nothing (row_of t).taking ≡ true → may_name_requester (row_of t) ≡ false
nobody_asks ImmSelf takes = refl
nobody_asks RqUpSelf takes = refl
nobody_asks RqDownSelf takes = refl
nobody_asks _ takes = cc

-- a lock that is wanted held and is as it is needed is held
pub held_as_needed : (need : Hold) (lock : Option Lock) → wants_held need ≡ true → need_holds need lock ≡ true → (l : Lock) × (lock ≡ Some l)
held_as_needed hold.Any lock wants holds = cc
held_as_needed hold.Free lock wants holds = cc
held_as_needed need (Some l) wants holds = (l, refl)
held_as_needed hold.Child None wants holds = cc
held_as_needed hold.Parent None wants holds = cc
held_as_needed hold.Own None wants holds = cc
