-- A firing while a transaction's request is on its way up: the transaction's own takes the request, and no other does.
use Rattle.std.proofs.Common.{◌≡◌, ℕ, ◌≤◌, Bool, true, false, cond, ◌&&◌, ◌||◌, List, [], ◌∷◌, length, drop, refl, sym, ap, ◌∙◌, subst, arith, Option, Some, None}
use Rattle.std.specs.Prelude.{◌==◌, slice_get}
use Rattle.std.specs.Option.{option_map_or}
use Rattle.std.proofs.lemmas.Bool.{eqb-true}
use Rattle.hem_base.specs.declared.ids.Firing.{Firing}
use Rattle.hem_base.specs.declared.ids.Kind.{Kind}
use Rattle.hem_base.specs.declared.ids.Kind.TheVariants.{Root, Mid, Leaf}
use Rattle.hem_base.specs.declared.ids.Message.{Message}
use Rattle.hem_template.specs.declared.template_name.TemplateName.{TemplateName}
use Rattle.hem_template.specs.declared.template_name.TemplateName.TheVariants.{ImmDown, RqUp, RqUpDown}
use Rattle.hem_syntax.specs.Protocol.{Protocol}
use Rattle.hem_template.specs.declared.row.Taking as row
use Rattle.hem_template.specs.Template.{row_of}
use Rattle.hem_template.specs.declared.row.Taking.TheVariants.{NothingTaken, FromRequester, ParentRequest, ParentResponse, FromKids}
use Rattle.hem_tree.specs.Tree.{Tree, is_child}
use Rattle.hem_fire.specs.declared.outs.Outs.{Outs}
use Rattle.hem_system.specs.declared.lane.Lane.TheVariants.{UpRequests}
use Rattle.hem_system.specs.State.{State, Line, Effect, list_at, takes, is_own_child, place_of_me, line_after}
use Rattle.hem_trace.specs.Order.{Entry}
use Rattle.hem_rows.specs.Acts.{IsNamed, takes_me}
use Rattle.hem_windows.specs.Pending.{takes_of}
use Rattle.hem_windows.proofs.Pending.{child_named}
use Rattle.hem_shape.specs.Progress.{Asker, child, processor, parent, itself, Progress}
use Rattle.hem_shape.specs.Move.{Taking, request, parent_answer, child_answers, Giving, answer, ask_up, ask_down, template_name, taken, recorded, given, CanTake}
use Rattle.hem_shape.specs.Shape.{is_asking_up, HasShape}
use Rattle.hem_shape.proofs.Spots.{set_here, true_false}
use Rattle.hem_numbered.specs.Numbers.{Numbers, carries, is_any, progress_of}
use Rattle.hem_numbered.specs.Histories.{AreKnown}
use Rattle.hem_numbered.proofs.TakesAs.{left, TakesAs, child_here}
use Rattle.hem_numbered.proofs.Histories.{IsStep}
use Rattle.hem_shape.proofs.Ready.{down_not_up}
use Rattle.hem_rows.proofs.Choices.{both}

-- a firing that takes a child's request and sends a request up is of one template
child_up : (c : ℕ) (gives : Giving) (t : TemplateName) → template_name request (child c) gives ≡ Some t → is_asking_up t ≡ true → t ≡ RqUp
child_up c answer t named up = let is : ImmDown ≡ t = cc in let bad : false ≡ true = ap is_asking_up is ∙ up in cc
child_up c ask_up t named up = let is : RqUp ≡ t = cc in sym is
child_up c (ask_down targets) t named up = let is : RqUpDown ≡ t = cc in let bad : false ≡ true = ap is_asking_up is ∙ up in cc

-- what a firing of a transaction takes, one of whose requests is on its way up
request_taken : (p : Protocol) (tree : Tree) (f : Firing) (t : TemplateName) (outs : Outs) (line : Line) (numbers : Numbers) (n top : ℕ) (asker : Asker) (takes : Taking) (gives : Giving) → HasShape tree (progress_of p tree line numbers n) → (progress_of p tree line numbers n).asks_up top ≡ true → template_name takes asker gives ≡ Some t → CanTake tree f.object.0 asker takes (progress_of p tree line numbers n) → TakesAs p tree f outs line numbers n asker takes → (takes_of top f ≡ true) × (is_asking_up t ≡ true → t ≡ RqUp)
request_taken p tree f t outs line numbers n top (child c) request gives shape asks named can lists =
    (subst (λ k. takes_of k f ≡ true) ((shape.rising top asks).only c can.there) (by_test (takes tree f outs c UpRequests) refl), (λ up. child_up c gives t named up))
  where
    by_test : (b : Bool) → takes tree f outs c UpRequests ≡ b → takes_of c f ≡ true
    by_test true is = (both outs.taken_request (takes_of c f) (both (outs.taken_request && takes_of c f) (is_child tree c f.object.0) is).0).1
    by_test false is =
        let all : left is_any tree f outs line numbers n UpRequests c ≡ true = ap (λ b. carries is_any n (drop (cond b 1 0) (list_at line c UpRequests)) (drop (cond b 1 0) (numbers.lists c UpRequests))) is ∙ can.there in
        absurd (true_false all (lists.asks_up c ∙ set_here c false (progress_of p tree line numbers n).asks_up c refl))
request_taken p tree f t outs line numbers n top parent request gives shape asks named can lists = absurd (true_false can.there ((shape.rising top asks).no_asks_down f.object.0))
request_taken p tree f t outs line numbers n top processor request gives shape asks named can lists = absurd (true_false asks (can.asks_up top))
request_taken p tree f t outs line numbers n top itself request gives shape asks named can lists = absurd (true_false asks (can.asks_up top))
request_taken p tree f t outs line numbers n top asker parent_answer gives shape asks named can lists = absurd (true_false can.there ((shape.rising top asks).no_answers_down f.object.0))
request_taken p tree f t outs line numbers n top asker child_answers gives shape asks named can lists =
    absurd (down_not_up asker ((progress_of p tree line numbers n).fired f.object.0) (shape.asked f.object.0 asker can.down) ((shape.rising top asks).upward f.object.0))

-- a firing that names a child takes the child's request
named_takes : (kind : Kind) (taking : row.Taking) (me : Option ℕ) (c : ℕ) → me ≡ Some c → IsNamed kind taking me → takes_me taking ≡ true
named_takes kind FromRequester me c is named = refl
named_takes Leaf NothingTaken me c is named = absurd (let bad : None ≡ Some c = sym named ∙ is in cc)
named_takes Leaf ParentRequest me c is named = absurd (let bad : None ≡ Some c = sym named ∙ is in cc)
named_takes Leaf ParentResponse me c is named = absurd (let bad : None ≡ Some c = sym named ∙ is in cc)
named_takes Leaf FromKids me c is named = absurd (let bad : None ≡ Some c = sym named ∙ is in cc)
named_takes Mid NothingTaken me c is named = absurd (let bad : None ≡ Some c = sym named ∙ is in cc)
named_takes Mid ParentRequest me c is named = absurd (let bad : None ≡ Some c = sym named ∙ is in cc)
named_takes Mid ParentResponse me c is named = absurd (let bad : None ≡ Some c = sym named ∙ is in cc)
named_takes Mid FromKids me c is named = absurd (let bad : None ≡ Some c = sym named ∙ is in cc)
named_takes Root NothingTaken me c is named = absurd (let bad : None ≡ Some c = sym named ∙ is in cc)
named_takes Root ParentRequest me c is named = absurd (let bad : None ≡ Some c = sym named ∙ is in cc)
named_takes Root ParentResponse me c is named = absurd (let bad : None ≡ Some c = sym named ∙ is in cc)
named_takes Root FromKids me c is named = absurd (let bad : None ≡ Some c = sym named ∙ is in cc)

-- of one message the first number is its number
only_number : (ms : List Message) (ns : List ℕ) (x n : ℕ) → length ms ≤ 1 → carries is_any x ms ns ≡ true → slice_get ns 0 ≡ Some n → n ≡ x
only_number [] ns x n most there at = absurd (let bad : false ≡ true = there in cc)
only_number (m ∷ ms) [] x n most there at = absurd (let bad : false ≡ true = there in cc)
only_number (m ∷ []) (k ∷ ns) x n most there at =
    let is : k ≡ n = (let both : Some k ≡ Some n = at in cc) in
    let test : (k == x) ≡ true = or_none (k == x) there in
    sym is ∙ eqb-true k x test
  where
    or_none : (b : Bool) → (b || false) ≡ true → b ≡ true
    or_none true is = refl
    or_none false is = cc
only_number (m ∷ (q ∷ ms)) (k ∷ ns) x n most there at = absurd (omega (arith, most))

-- a firing of the transaction takes the request
pub own_takes : (p : Protocol) (tree : Tree) (owner : ℕ → ℕ) (s mid : State) (all : ℕ → Numbers) (is_new first : ℕ → Bool) (past : List Entry) (line : Line) (f : Firing) (e : Effect) (place n top : ℕ) → AreKnown p tree owner s all is_new past → slice_get s f.line.0 ≡ Some line → (step : IsStep p tree owner line mid all is_new past f e place n first) → (progress_of p tree line (all f.line.0) n).asks_up top ≡ true → (takes_of top f ≡ true) × (is_asking_up step.of.t ≡ true → step.of.t ≡ RqUp)
own_takes p tree owner s mid all is_new first past line f e place n top known at step asks =
    let move = step.move in
    request_taken p tree f step.of.t e.outs line (all f.line.0) n top move.asker move.takes move.gives ((known.numbers f.line.0 line at).shapes n) asks move.named move.taking.can move.taking.lists

-- and only such a firing
pub only_own_takes : (p : Protocol) (tree : Tree) (owner : ℕ → ℕ) (mid : State) (all : ℕ → Numbers) (is_new first : ℕ → Bool) (past : List Entry) (line : Line) (f : Firing) (e : Effect) (place n x top : ℕ) → (step : IsStep p tree owner line mid all is_new past f e place n first) → (progress_of p tree line (all f.line.0) x).asks_up top ≡ true → takes_of top f ≡ true → n ≡ x
only_own_takes p tree owner mid all is_new first past line f e place n x top step asks taken =
    let named = child_named tree top f f.me refl taken in
    let of = step.of in
    let own : is_child tree named.0.0 f.object.0 ≡ true = ap (is_own_child tree f.object.0) (sym named.1) ∙ of.is.own in
    let takes_it : e.outs.taken_request ≡ true = of.is.acts.taken_request ∙ named_takes of.kind (row_of of.t).taking (place_of_me tree f.object.0 f.me) _ (ap (place_of_me tree f.object.0) named.1) of.is.acts.named in
    let head = step.takes named.0.0 UpRequests (λ bad. cc) (child_here tree f e.outs named.0 named.0.0 takes_it named.1 own refl) in
    let asks_it : carries is_any x (list_at line named.0.0 UpRequests) ((all f.line.0).lists named.0.0 UpRequests) ≡ true = subst (λ k. carries is_any x (list_at line k UpRequests) ((all f.line.0).lists k UpRequests) ≡ true) (sym named.2) asks in
    only_number (list_at line named.0.0 UpRequests) ((all f.line.0).lists named.0.0 UpRequests) x n (let one = of.is.bounded.one named.0.0 f.object.0 own in omega (arith, one)) asks_it head

-- a firing that sends a request up gives it
asks_on : (takes : Taking) (asker : Asker) (gives : Giving) → option_map_or is_asking_up (template_name takes asker gives) false ≡ true → gives ≡ ask_up
asks_on takes asker ask_up up = refl
asks_on request (child c) answer up = cc
asks_on request (child c) (ask_down targets) up = cc
asks_on request processor answer up = cc
asks_on request processor (ask_down targets) up = cc
asks_on request parent answer up = cc
asks_on request parent (ask_down targets) up = cc
asks_on request itself answer up = cc
asks_on request itself (ask_down targets) up = cc
asks_on parent_answer (child c) answer up = cc
asks_on parent_answer (child c) (ask_down targets) up = cc
asks_on parent_answer processor answer up = cc
asks_on parent_answer processor (ask_down targets) up = cc
asks_on parent_answer parent answer up = cc
asks_on parent_answer parent (ask_down targets) up = cc
asks_on parent_answer itself answer up = cc
asks_on parent_answer itself (ask_down targets) up = cc
asks_on child_answers (child c) answer up = cc
asks_on child_answers (child c) (ask_down targets) up = cc
asks_on child_answers processor answer up = cc
asks_on child_answers processor (ask_down targets) up = cc
asks_on child_answers parent answer up = cc
asks_on child_answers parent (ask_down targets) up = cc
asks_on child_answers itself answer up = cc
asks_on child_answers itself (ask_down targets) up = cc

-- so its object's request is on its way up then
pub asks_next : (p : Protocol) (tree : Tree) (owner : ℕ → ℕ) (mid : State) (all : ℕ → Numbers) (is_new first : ℕ → Bool) (past : List Entry) (line : Line) (f : Firing) (e : Effect) (place n : ℕ) → (step : IsStep p tree owner line mid all is_new past f e place n first) → is_asking_up step.of.t ≡ true → (progress_of p tree (line_after tree f e line) step.now n).asks_up f.object.0 ≡ true
asks_next p tree owner mid all is_new first past line f e place n step up =
    let move = step.move in
    let at = progress_of p tree line (all f.line.0) n in
    let gives : move.gives ≡ ask_up = asks_on move.takes move.asker move.gives (ap (λ t. option_map_or is_asking_up t false) move.named ∙ up) in
    ap (λ (x : Progress). x.asks_up f.object.0) step.moved
    ∙ ap (λ g. (given f.object.0 move.asker g (recorded f.object.0 step.of.t (taken tree f.object.0 move.asker move.takes at))).asks_up f.object.0) gives
    ∙ set_here f.object.0 true (taken tree f.object.0 move.asker move.takes at).asks_up f.object.0 refl
