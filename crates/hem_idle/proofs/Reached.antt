-- Whom a firing reaches is there: a parent, or a child.
use Rattle.std.proofs.Common.{◌≡◌, refl, ap, sym, ◌∙◌, subst, ℕ, zero, suc, ◌<◌, arith, true, false, length, Option, Some, None}
use Rattle.std.proofs.lemmas.Option.{slice_get_within}
use Rattle.hem_base.specs.declared.ids.KidSet.{KidSet}
use Rattle.hem_base.specs.declared.ids.Kind.{Kind}
use Rattle.hem_base.specs.declared.ids.Kind.TheVariants.{Root, Mid, Leaf}
use Rattle.hem_base.specs.declared.ids.ObjectId.{ObjectId}
use Rattle.hem_base.specs.declared.ids.Firing.{Firing}
use Rattle.hem_syntax.specs.Protocol.{Protocol}
use Rattle.hem_object.specs.declared.state.By.{By}
use Rattle.hem_object.specs.declared.state.By.TheVariants.{Processor, Kid, Parent, Own}
use Rattle.hem_object.specs.Local.{Local, IsOrigin, IsWellFormed}
use Rattle.hem_template.specs.Template.{row_of}
use Rattle.hem_template.specs.declared.row.Taking.{Taking}
use Rattle.hem_template.specs.declared.row.Taking.TheVariants.{NothingTaken, FromRequester, ParentRequest, ParentResponse, FromKids}
use Rattle.hem_template.specs.declared.row.Sending.{Sending}
use Rattle.hem_template.specs.declared.row.Sending.TheVariants.{NothingSent, ToRequester, RequestUp, ResponseUp, ToOthers, ToKids}
use Rattle.hem_fire.specs.declared.outs.To.TheVariants as to
use Rattle.hem_fire.specs.declared.outs.Outs.{Outs}
use Rattle.hem_fire.specs.Sends.{has_parent, to_requester}
use Rattle.hem_tree.specs.Tree.{Tree, IsTree, kind_of, parent_of, children_of, place_among}
use Rattle.hem_system.specs.State.{Line, Effect, is_own_child, place_of_me}
use Rattle.hem_system.proofs.Kids.{child_at}
use Rattle.hem_rows.specs.Acts.{requester_of, IsSent}
use Rattle.hem_locks.specs.Acted.{IsActed}
use Rattle.hem_locks.proofs.Places.{within}
use Rattle.hem_invariants.proofs.LocalLocks.{asker-by, kid_asker-by}

-- only an object with a parent sends up
sends-up : (p : Protocol) (kind : Kind) (sending : Sending) (asked : Option By) (targets : KidSet) (outs : Outs) → IsSent p kind sending asked targets outs → (outs.to ≡ to.UpRequest → has_parent kind ≡ true) × (outs.to ≡ to.UpResponse → has_parent kind ≡ true)
sends-up p kind NothingSent asked targets outs sent = ((λ is. cc), (λ is. cc))
sends-up p kind ToRequester asked targets outs sent = to_one sent.by sent.goes
  where
    to_one : (by : By) → outs.to ≡ to_requester (Some by) → (outs.to ≡ to.UpRequest → has_parent kind ≡ true) × (outs.to ≡ to.UpResponse → has_parent kind ≡ true)
    to_one Processor goes = ((λ is. cc), (λ is. cc))
    to_one (Kid c) goes = ((λ is. cc), (λ is. cc))
    to_one Parent goes = ((λ is. cc), (λ is. cc))
    to_one Own goes = ((λ is. cc), (λ is. cc))
sends-up p kind RequestUp asked targets outs sent = ((λ is. sent.parent), (λ is. sent.parent))
sends-up p kind ResponseUp asked targets outs sent = ((λ is. sent.parent), (λ is. sent.parent))
sends-up p kind ToOthers asked targets outs sent = ((λ is. let goes = sent.kids.goes in cc), (λ is. let goes = sent.kids.goes in cc))
sends-up p kind ToKids asked targets outs sent = ((λ is. let goes = sent.goes in cc), (λ is. let goes = sent.goes in cc))

parent-there : (tree : Tree) → IsTree tree → (o : ℕ) (kind : Kind) → kind_of tree o ≡ Some kind → has_parent kind ≡ true → (high : ℕ) × (parent_of tree o ≡ Some high)
parent-there tree law zero kind is has =
    let here : kind_of tree 0 ≡ Some Root = rw law.root refl in
    let both : Some kind ≡ Some Root = sym is ∙ here in
    let same : kind ≡ Root = cc in
    let clash : true ≡ false = sym has ∙ ap has_parent same in
    cc
parent-there tree law (suc o) kind is has = law.parents (suc o) (omega arith) (within tree (suc o) kind is)

module _ (p : Protocol) (tree : Tree) (line : Line) (f : Firing) (e : Effect) (law : IsTree tree) (it : IsActed p tree line f e) where
  pub request-above : e.outs.to ≡ to.UpRequest → (high : ℕ) × (parent_of tree f.object.0 ≡ Some high)
  request-above is = parent-there tree law f.object.0 it.kind it.kind_is ((sends-up p it.kind (row_of it.template).sending (requester_of (row_of it.template).taking (place_of_me tree f.object.0 f.me) it.local) it.acts.targets e.outs it.acts.sent).0 is)

  pub response-above : e.outs.to ≡ to.UpResponse → (high : ℕ) × (parent_of tree f.object.0 ≡ Some high)
  response-above is = parent-there tree law f.object.0 it.kind it.kind_is ((sends-up p it.kind (row_of it.template).sending (requester_of (row_of it.template).taking (place_of_me tree f.object.0 f.me) it.local) it.acts.targets e.outs it.acts.sent).1 is)

-- a message to one child goes to the requester
goes-down : (p : Protocol) (kind : Kind) (sending : Sending) (asked : Option By) (targets : KidSet) (outs : Outs) (c : ℕ) → IsSent p kind sending asked targets outs → outs.to ≡ to.Kid c → asked ≡ Some (Kid c)
goes-down p kind NothingSent asked targets outs c sent is = cc
goes-down p kind ToRequester asked targets outs c sent is = to_one sent.by sent.asker sent.goes
  where
    to_one : (by : By) → asked ≡ Some by → outs.to ≡ to_requester (Some by) → asked ≡ Some (Kid c)
    to_one Processor asker goes = cc
    to_one (Kid d) asker goes = cc
    to_one Parent asker goes = cc
    to_one Own asker goes = cc
goes-down p kind RequestUp asked targets outs c sent is = let goes = sent.goes in cc
goes-down p kind ResponseUp asked targets outs c sent is = let goes = sent.goes in cc
goes-down p kind ToOthers asked targets outs c sent is = let goes = sent.kids.goes in cc
goes-down p kind ToKids asked targets outs c sent is = let goes = sent.goes in cc

origin-within : (kind : Kind) (children c : ℕ) → IsOrigin kind children (Kid c) → c < children
origin-within Leaf children c is = is
origin-within Root children c is = is
origin-within Mid children c is = is

-- the requester is a child that is there: the named one, or one for which a lock is held
asked-within : (p : Protocol) (tree : Tree) (o : ℕ) (kind : Kind) (taking : Taking) (me : Option ObjectId) (local : Local) (c : ℕ) → is_own_child tree o me ≡ true → IsWellFormed p kind (length (children_of tree o)) local → requester_of taking (place_of_me tree o me) local ≡ Some (Kid c) → c < length (children_of tree o)
asked-within p tree o kind NothingTaken me local c own formed is = cc
asked-within p tree o kind FromRequester None local c own formed is = cc
asked-within p tree o kind FromRequester (Some child) local c own formed is =
    let same : place_among tree o child.0 ≡ c = cc in
    subst (λ c. c < length (children_of tree o)) same (slice_get_within (children_of tree o) (place_among tree o child.0) child.0 (child_at tree o child.0 own))
asked-within p tree o kind ParentRequest me local c own formed is =
    let lock = asker-by local.up (Kid c) is in
    origin-within kind (length (children_of tree o)) c (subst (IsOrigin kind (length (children_of tree o))) lock.2 (formed.up lock.0 lock.1).0.origin)
asked-within p tree o kind ParentResponse me local c own formed is =
    let lock = asker-by local.up (Kid c) is in
    origin-within kind (length (children_of tree o)) c (subst (IsOrigin kind (length (children_of tree o))) lock.2 (formed.up lock.0 lock.1).0.origin)
asked-within p tree o kind FromKids me local c own formed is =
    let lock = kid_asker-by local.down (Kid c) is in
    origin-within kind (length (children_of tree o)) c (subst (IsOrigin kind (length (children_of tree o))) lock.2 (formed.down lock.0 lock.1).origin)

pub kid-below : (p : Protocol) (tree : Tree) (line : Line) (f : Firing) (e : Effect) (it : IsActed p tree line f e) (c : ℕ) → IsWellFormed p it.kind (length (children_of tree f.object.0)) it.local → e.outs.to ≡ to.Kid c → c < length (children_of tree f.object.0)
kid-below p tree line f e it c formed is =
    asked-within p tree f.object.0 it.kind (row_of it.template).taking f.me it.local c it.own_child formed
    (goes-down p it.kind (row_of it.template).sending (requester_of (row_of it.template).taking (place_of_me tree f.object.0 f.me) it.local) it.acts.targets e.outs c it.acts.sent is)
