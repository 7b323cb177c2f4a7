-- A role asks above or serves above, and not both.
use Rattle.std.proofs.Common.{◌≡◌, refl, sym, ap, ◌∙◌, subst, ℕ, Bool, true, false, ◌&&◌, List, [], ◌∷◌, map, Option, Some, None, inl, inr, ◌⊎◌, ⊎_elim}
use Rattle.std.specs.Prelude.{◌||◌}
use Rattle.std.specs.List.{list_any}
use Rattle.hem_base.specs.declared.ids.Firing.{Firing}
use Rattle.hem_syntax.specs.Protocol.{Protocol}
use Rattle.hem_syntax.specs.Lawful.{IsProtocol}
use Rattle.hem_template.specs.declared.template_name.TemplateName.{TemplateName}
use Rattle.hem_template.specs.declared.template_name.TemplateName.TheVariants.{ImmSelf, ImmDown, ImmUp, RqUp, RqUpSelf, RqUpDown, RqDownSelf, RqDownDown, RsDown, RsDownSelf, RsDownRqDown, RsUpDown, RsUpUp, RsUpSelf}
use Rattle.hem_tree.specs.Tree.{Tree, IsTree}
use Rattle.hem_work.specs.Work.{Work}
use Rattle.hem_system.specs.State.{State, Runs, start}
use Rattle.hem_trace.specs.Order.{entries_of}
use Rattle.hem_rows.specs.Rows.{AllHaveTemplates}
use Rattle.hem_rows.proofs.Choices.{both}
use Rattle.hem_law.proofs.Rows.{either}
use Rattle.hem_shape.specs.Roles.{begins_role, follows, goes_on, is_role}
use Rattle.hem_numbered.specs.HaveRoles.{asks_above, serves_above, GoOneWay}
use Rattle.hem_numbered.proofs.Joined.{history_roles}

-- what follows in a role takes an answer
follower : (t s : TemplateName) → follows t s ≡ true → begins_role s ≡ false
follower RqUp RsDown is = refl
follower RqUp RsDownRqDown is = refl
follower RsDownRqDown RsUpDown is = refl
follower RqUpSelf RsDownSelf is = refl
follower RqUpDown RsUpDown is = refl
follower RqDownSelf RsUpSelf is = refl
follower RqDownDown RsUpUp is = refl
follower _ _ is = cc

-- so a test that only beginnings pass fails behind the first template
behind_first : (test : Option TemplateName → Bool) → ((s : TemplateName) → test (Some s) ≡ true → begins_role s ≡ true) → (t : TemplateName) (ts : List TemplateName) → goes_on t ts ≡ true → list_any test (map Some ts) ≡ true → ⊥
behind_first test begins t [] goes is = cc
behind_first test begins t (s ∷ ts) goes is =
    let parts = both (follows t s) (goes_on s ts) goes in
    ⊎_elim
    (λ here. let clash : true ≡ false = sym (begins s here) ∙ follower t s parts.0 in cc)
    (λ later. behind_first test begins s ts parts.1 later)
    (either (test (Some s)) (list_any test (map Some ts)) is)

first_passes : (test : Option TemplateName → Bool) → ((s : TemplateName) → test (Some s) ≡ true → begins_role s ≡ true) → (t : TemplateName) (ts : List TemplateName) → goes_on t ts ≡ true → list_any test (map Some (t ∷ ts)) ≡ true → test (Some t) ≡ true
first_passes test begins t ts goes is = ⊎_elim (λ here. here) (λ later. absurd (behind_first test begins t ts goes later)) (either (test (Some t)) (list_any test (map Some ts)) is)

asking_begins : (s : TemplateName) → asks_above (Some s) ≡ true → begins_role s ≡ true
asking_begins RqUp is = refl
asking_begins RqUpSelf is = refl
asking_begins _ is = cc

serving_begins : (s : TemplateName) → serves_above (Some s) ≡ true → begins_role s ≡ true
serving_begins ImmUp is = refl
serving_begins RqDownDown is = refl
serving_begins _ is = cc

not_both : (t : TemplateName) → asks_above (Some t) ≡ true → serves_above (Some t) ≡ true → ⊥
not_both RqUp up down = cc
not_both RqUpSelf up down = cc
not_both _ up down = cc

role_one_way : (ts : List TemplateName) → is_role ts ≡ true → list_any asks_above (map Some ts) ≡ true → list_any serves_above (map Some ts) ≡ true → ⊥
role_one_way [] role up down = cc
role_one_way (t ∷ ts) role up down =
    let goes = (both (begins_role t) (goes_on t ts) role).1 in
    not_both t (first_passes asks_above asking_begins t ts goes up) (first_passes serves_above serving_begins t ts goes down)

pub one_way : (p : Protocol) (tree : Tree) (work : Work) (h : List Firing) (s : State) → IsProtocol p → IsTree tree → AllHaveTemplates p → Runs p tree (start p tree work) h s → GoOneWay p tree (entries_of p tree (start p tree work) h)
one_way p tree work h s protocol lawful templates runs l o t up down =
    let role = history_roles p tree work h s protocol lawful templates runs l o t in
    role_one_way role.0 role.2 (ap (list_any asks_above) (sym role.1) ∙ up) (ap (list_any serves_above) (sym role.1) ∙ down)
