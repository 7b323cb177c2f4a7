-- What is known of a firing that was made, and of its event.
use Rattle.std.proofs.Common.{◌≡◌, sym, ap, ◌∙◌, subst, ◌<◌, true, List, ◌∷◌, length, Some}
use Rattle.std.specs.Prelude.{slice_get, option_map}
use Rattle.std.proofs.lemmas.List.{length-set}
use Rattle.std.proofs.lemmas.Option.{slice_get_within}
use Rattle.hem_base.specs.declared.ids.Firing.{Firing}
use Rattle.hem_syntax.specs.Protocol.{Protocol}
use Rattle.hem_tree.specs.Tree.{Tree, Node}
use Rattle.hem_system.specs.State.{State, Step, line_after, is_own_child, step_of, Fires}
use Rattle.hem_system.specs.Events.{Event, event_of, event_in}
use Rattle.hem_system.proofs.Own.{came}
use Rattle.hem_invariants.proofs.Choices.{if_mapped}
use Rattle.hem_invariants.proofs.Next.{at-object}
use Rattle.hem_trace.specs.History.{events}
use Rattle.hem_trace.proofs.First.{events-step}

-- the line, the object and the child of the event are there, and the events go on behind it
pub record IsEventOf (p : Protocol) (tree : Tree) (old : State) (f : Firing) (e : Event) (new : State) : Type 0 where
  pub line : e.firing.line.0 < length old
  pub object : e.firing.object.0 < length tree
  pub own : is_own_child tree e.firing.object.0 e.firing.me ≡ true
  pub size : length new ≡ length old
  pub goes_on : (h : List Firing) → events p tree old (f ∷ h) ≡ e ∷ events p tree new h

pub is_event : (p : Protocol) (tree : Tree) (old : State) (f : Firing) (e : Event) (new : State) → Fires p tree old f new → event_in p tree old f ≡ Some e → IsEventOf p tree old f e new
is_event p tree old f e new fires is =
    let made = if_mapped (λ step. event_of f step.effect) (step_of p tree old f) e is in
    let leads = sym fires.leads ∙ ap (option_map (λ (step : Step). step.next)) made.1 in
    let next : new ≡ made.0.next = (let both_are : Some new ≡ Some made.0.next = leads in cc) in
    let it = came fires in
    let at = at-object p tree old new f it in
    let node = if_mapped (λ (node : Node). node.kind) (slice_get tree f.object.0) at.kind at.kind_is in
    let same : f ≡ e.firing = ap (λ (e : Event). e.firing) made.2 in
    record {
      line = subst (λ f. f.line.0 < length old) same (slice_get_within old f.line.0 it.line it.there);
      object = subst (λ f. f.object.0 < length tree) same (slice_get_within tree f.object.0 node.0 node.1);
      own = subst (λ f. is_own_child tree f.object.0 f.me ≡ true) same at.child;
      size = ap length it.after ∙ length-set old f.line.0 (line_after tree f it.effect it.line);
      goes_on = λ h. events-step p tree old f h made.0 made.1 ∙ ap (λ e. e ∷ events p tree made.0.next h) made.2 ∙ ap (λ s. e ∷ events p tree s h) (sym next);
    }
