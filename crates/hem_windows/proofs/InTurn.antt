-- While an answer falls, the objects that wait for it fire in turn.
use Rattle.std.proofs.Common.{◌≡◌, ◌≢◌, ap, sym, ◌∙◌, subst, ℕ, true, List, [], ◌∷◌, Some, inl, inr, ◌⊎◌}
use Rattle.hem_base.specs.declared.ids.Firing.{Firing}
use Rattle.hem_template.specs.declared.template_name.TemplateName.TheVariants.{ImmDown, RqUpDown}
use Rattle.hem_syntax.specs.Protocol.{Protocol}
use Rattle.hem_tree.specs.Tree.{Tree, IsTree}
use Rattle.hem_system.specs.State.{Line, LineStep, Effect, effect_of, line_after, line_step_of, run_line}
use Rattle.hem_rows.specs.Rows.{AllHaveTemplates}
use Rattle.hem_locks.specs.Edges.{LocksHold}
use Rattle.hem_locks.specs.Allowed.{HasTemplate}
use Rattle.hem_rows.proofs.Choices.{if_some, if_mapped}
use Rattle.hem_locks.proofs.Acted.{acted}
use Rattle.hem_locks.proofs.States.{line_kept}
use Rattle.hem_locks.proofs.Laws.{has_template}
use Rattle.hem_windows.specs.Pending.{IsPending, IsOneOf, takes_of}
use Rattle.hem_windows.specs.Answering.{IsAnswering, FireInTurn}
use Rattle.hem_windows.proofs.Answering.{lows_silent, head_takes, answering_stays, answering_falls, answering_begins}

pub in_turn : (p : Protocol) (tree : Tree) (h : List Firing) (line new : Line) (high top : ℕ) (lows : List ℕ) → IsTree tree → AllHaveTemplates p → LocksHold p tree line → IsAnswering p tree line high top lows → run_line p tree line h ≡ Some new → FireInTurn p tree (top ∷ lows) h
in_turn p tree [] line new high top lows lawful templates holds answering runs = tt
in_turn p tree (f ∷ h) line new high top lows lawful templates holds answering runs =
    let step = if_some (λ (step : LineStep). run_line p tree step.next h) (line_step_of p tree line f) new runs in
    let made = if_mapped {B = LineStep} (λ e. record { effect = e; next = line_after tree f e line }) (effect_of p tree line f) step.0 step.1 in
    let e = made.0 in
    let next : run_line p tree (line_after tree f e line) h ≡ Some new = ap (λ (s : LineStep). run_line p tree s.next h) made.2 ∙ step.2 in
    let it = acted p tree line f e templates made.1 in
    let kept = line_kept p tree line f e lawful templates made.1 holds in (
      (λ own.
          let here = subst (λ k. IsAnswering p tree line high k lows) (sym own) answering in (
            record { template = it.template; of = has_template it; takes = head_takes p tree line f e high lows holds it here },
            rest lows here (λ low lows here. in_turn p tree h (line_after tree f e line) new f.object.0 low lows lawful templates kept (answering_falls p tree line f e high low lows lawful holds kept it here) next),
          )),
      (λ other.
          let silent = lows_silent p tree line f e high top lows holds it answering in (
            silent,
            in_turn p tree h (line_after tree f e line) new high top lows lawful templates kept (answering_stays p tree line f e high top lows lawful holds kept it answering (λ k one same. not_one other silent k one same)) next,
          )),
    )
  where
    rest : (lows : List ℕ) → IsAnswering p tree line high f.object.0 lows → ((low : ℕ) (lows : List ℕ) → IsAnswering p tree line high f.object.0 (low ∷ lows) → FireInTurn p tree (low ∷ lows) h) → FireInTurn p tree lows h
    rest [] here turn = tt
    rest (low ∷ lows) here turn = turn low lows here

    not_one : f.object.0 ≢ top → (IsOneOf f.object.0 lows → ⊥) → (k : ℕ) → IsOneOf k (top ∷ lows) → k ≡ f.object.0 → ⊥
    not_one other silent k (inl is) same = other (sym same ∙ is)
    not_one other silent k (inr one) same = silent (subst (λ k. IsOneOf k lows) same one)

-- from the firing on that takes the pending request and doesn't send it on
pub in_turn_from : (p : Protocol) (tree : Tree) (line new : Line) (f : Firing) (e : Effect) (top : ℕ) (lows : List ℕ) (h : List Firing) → IsTree tree → AllHaveTemplates p → LocksHold p tree line → IsPending tree line top lows → takes_of top f ≡ true → HasTemplate p tree f ImmDown ⊎ HasTemplate p tree f RqUpDown → effect_of p tree line f ≡ Some e → run_line p tree (line_after tree f e line) h ≡ Some new → FireInTurn p tree (top ∷ lows) h
in_turn_from p tree line new f e top lows h lawful templates holds pending taken has possible runs =
    let kept = line_kept p tree line f e lawful templates possible holds in
    let it = acted p tree line f e templates possible in
    in_turn p tree h (line_after tree f e line) new f.object.0 top lows lawful templates kept (answering_begins p tree line f e top lows lawful holds kept it pending taken has) runs
