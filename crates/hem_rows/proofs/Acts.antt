-- A firing of a rule that has a template acts as the template's row says.
use Rattle.std.proofs.Common.{◌≡◌, refl, ap, sym, ◌∙◌, subst, ℕ, Option}
use Rattle.std.specs.Prelude.{Ok, length}
use Rattle.hem_base.specs.declared.ids.Kind.{Kind}
use Rattle.hem_syntax.specs.declared.rule.Rule.{Rule}
use Rattle.hem_syntax.specs.declared.rule.Take.{Take}
use Rattle.hem_template.specs.declared.template_name.TemplateName.{TemplateName}
use Rattle.hem_object.specs.declared.state.By.{By}
use Rattle.hem_syntax.specs.Protocol.{Protocol}
use Rattle.hem_object.specs.Local.{Local}
use Rattle.hem_template.specs.Template.{row_of, take_class_fits, send_class_fits, template_of}
use Rattle.hem_template.specs.declared.row.Taking.{Taking}
use Rattle.hem_template.specs.declared.row.Taking.TheVariants.{NothingTaken, FromRequester, ParentRequest, ParentResponse, FromKids}
use Rattle.hem_object.specs.Targets.{targets_of}
use Rattle.hem_fire.specs.declared.outs.Outs.{Outs}
use Rattle.hem_fire.specs.Heads.{Heads}
use Rattle.hem_fire.specs.View.{view_of}
use Rattle.hem_fire.specs.Locks.{request_in_hand}
use Rattle.hem_fire.specs.OneFire.{OneFire, outs_of}
use Rattle.hem_rows.specs.Rows.{IsTaking, IsOfRow}
use Rattle.hem_rows.specs.Acts.{requester_of, takes_me, takes_parent, takes_kids, UpAfter, DownAfter, IsSent, Acts}
use Rattle.hem_rows.proofs.Choices.{both}
use Rattle.hem_rows.proofs.Rows.{of_row}
use Rattle.hem_rows.proofs.Possible.{can_parts, needed, named_by, heads_there}
use Rattle.hem_rows.proofs.Locking.{up_after, down_after, children_after}
use Rattle.hem_rows.proofs.Sending.{sent_by, reached_by}

-- for whom a rule works
asked_by : (p : Protocol) (taking : Taking) (t : Take) (me : Option ℕ) (local : Local) (heads : Heads) → IsTaking p taking t → (view_of t me local heads).requester ≡ requester_of taking me local
asked_by p NothingTaken t me local heads is = rw is refl
asked_by p FromRequester t me local heads is = rw is.1 refl
asked_by p ParentRequest t me local heads is = rw is.1 refl
asked_by p ParentResponse t me local heads is = rw is.1 refl
asked_by p FromKids t me local heads is = rw is.1 refl

-- which heads a rule takes
record Taken (taking : Taking) (local : Local) (outs : Outs) : Type 0 where
  request : outs.taken_request ≡ takes_me taking
  parent : outs.taken_parent ≡ takes_parent taking
  kids : outs.taken_kids ≡ takes_kids taking local

taken_by : (p : Protocol) (kind : Kind) (rule : Rule) (taking : Taking) (me : Option ℕ) (local : Local) (heads : Heads) → IsTaking p taking rule.take → Taken taking local (outs_of p kind rule me local heads)
taken_by p kind rule NothingTaken me local heads is = record { request = rw is refl; parent = rw is refl; kids = rw is refl }
taken_by p kind rule FromRequester me local heads is = record { request = rw is.1 refl; parent = rw is.1 refl; kids = rw is.1 refl }
taken_by p kind rule ParentRequest me local heads is = record { request = rw is.1 refl; parent = rw is.1 refl; kids = rw is.1 refl }
taken_by p kind rule ParentResponse me local heads is = record { request = rw is.1 refl; parent = rw is.1 refl; kids = rw is.1 refl }
taken_by p kind rule FromKids me local heads is = record { request = rw is.1 refl; parent = rw is.1 refl; kids = rw is.1 refl }

-- what a firing of a rule of a row does
acts_of_row : (p : Protocol) (kind : Kind) (rule : Rule) (t : TemplateName) (me : Option ℕ) (local : Local) (heads : Heads) (after : Local) (outs : Outs) → IsOfRow p kind rule t → OneFire p kind rule me local heads after outs → Acts p kind (row_of t) me local heads after outs
acts_of_row p kind rule t me local heads after outs row fires =
    let can = can_parts p kind rule me local heads fires.possible in
    let view = view_of rule.take me local heads in
    let request = request_in_hand p rule.take rule.send local view heads in
    let targets = targets_of rule.send local view in
    let frees = (row_of t).frees in
    let locks = (row_of t).locks in
    let asked = asked_by p (row_of t).taking rule.take me local heads row.taking in
    let taken = subst (λ (o : Outs). Taken (row_of t).taking local o) (sym fires.gives) (taken_by p kind rule (row_of t).taking me local heads row.taking) in
    let up : UpAfter rule.free rule.lock view.requester local.up after.up = subst (λ (l : Local). UpAfter rule.free rule.lock view.requester local.up l.up) (sym fires.leaves) (up_after rule.free rule.lock rule.sets view request targets local can.lock) in
    let down : DownAfter rule.free rule.lock view.requester targets local.down after.down = subst (λ (l : Local). DownAfter rule.free rule.lock view.requester targets local.down l.down) (sym fires.leaves) (down_after rule.free rule.lock rule.sets view request targets local can.lock) in
    let sent : IsSent p kind (row_of t).sending view.requester targets outs = sent_by p kind (row_of t).sending rule.send local view outs row.sending (both (take_class_fits p kind rule.take) (send_class_fits p kind rule.send) row.class).1 can.send (ap (λ (o : Outs). o.to) fires.gives) (ap (λ (o : Outs). o.message) fires.gives) in
    record {
      targets = targets;
      named = named_by p kind (row_of t).taking rule.take me _ row.taking can.fits;
      up_before = needed (row_of t).up local.up (rw row.up at can.up);
      down_before = needed (row_of t).down local.down (rw row.down at can.down);
      up_after = subst (λ (x : Option By). UpAfter frees locks x local.up after.up) asked (subst (λ x. UpAfter frees x view.requester local.up after.up) row.lock (subst (λ x. UpAfter x rule.lock view.requester local.up after.up) row.free up));
      down_after = subst (λ (x : Option By). DownAfter frees locks x targets local.down after.down) asked (subst (λ x. DownAfter frees x view.requester targets local.down after.down) row.lock (subst (λ x. DownAfter x rule.lock view.requester targets local.down after.down) row.free down));
      taken_request = taken.request;
      taken_parent = taken.parent;
      taken_kids = taken.kids;
      there = heads_there p (row_of t).taking rule.take local heads row.taking can.takes;
      sent = subst (λ (x : Option By). IsSent p kind (row_of t).sending x targets outs) asked sent;
      reached = reached_by p kind (row_of t).sending rule.send local view row.sending can.send;
      children = ap (λ (l : Local). length l.dir) fires.leaves ∙ children_after rule.free rule.lock rule.sets view request targets local;
    }

-- what a firing of a rule that has a template does
pub acts_by_template : (p : Protocol) (kind : Kind) (rule : Rule) (t : TemplateName) (me : Option ℕ) (local : Local) (heads : Heads) (after : Local) (outs : Outs) → template_of p kind rule ≡ Ok t → OneFire p kind rule me local heads after outs → Acts p kind (row_of t) me local heads after outs
acts_by_template p kind rule t me local heads after outs is fires = acts_of_row p kind rule t me local heads after outs (of_row p kind rule t is) fires
