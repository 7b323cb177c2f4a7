-- A firing takes no message of another object exactly where a transaction starts with it.
use Rattle.std.proofs.Common.{◌≡◌, ◌≢◌, refl, ap, sym, ◌∙◌, ℕ, Bool, true, false, not, ◌&&◌, arith, Option, Some, None}
use Rattle.std.specs.Prelude.{◌==◌, is_some, slice_get}
use Rattle.std.specs.Option.{option_map_or}
use Rattle.hem_base.specs.Sets.{has_bit}
use Rattle.hem_base.specs.declared.ids.KidSet.{KidSet}
use Rattle.hem_base.specs.declared.ids.ObjectId.{ObjectId}
use Rattle.hem_base.specs.declared.ids.Firing.{Firing}
use Rattle.hem_template.specs.declared.template_name.TemplateName.{TemplateName}
use Rattle.hem_template.specs.declared.template_name.TemplateName.TheVariants.{ImmSelf, ImmDown, ImmUp, RqUp, RqUpSelf, RqUpDown, RqDownSelf, RqDownDown, RsDown, RsDownSelf, RsDownRqDown, RsUpDown, RsUpUp, RsUpSelf}
use Rattle.hem_object.specs.declared.state.Lock.{Lock}
use Rattle.hem_syntax.specs.Protocol.{Protocol}
use Rattle.hem_object.specs.Local.{Local, nobody}
use Rattle.hem_template.specs.Template.{row_of}
use Rattle.hem_template.specs.declared.row.Taking.{Taking}
use Rattle.hem_template.specs.declared.row.Taking.TheVariants.{NothingTaken, FromRequester, ParentRequest, ParentResponse, FromKids}
use Rattle.hem_fire.specs.declared.outs.Outs.{Outs}
use Rattle.hem_fire.specs.Heads.{awaited_of}
use Rattle.hem_tree.specs.Tree.{Tree, is_child, children_of, place_among}
use Rattle.hem_system.specs.declared.lane.Lane.{Lane}
use Rattle.hem_system.specs.declared.lane.Lane.TheVariants.{UpRequests, UpResponses, Down, Requests, Answers}
use Rattle.hem_system.specs.State.{Cell, Line, Effect, effect_of, takes, is_own_child}
use Rattle.hem_system.proofs.Changed.{is_same}
use Rattle.hem_system.proofs.Kids.{at_child}
use Rattle.hem_rows.specs.Acts.{IsNeeded, takes_me, takes_parent, takes_kids}
use Rattle.hem_locks.specs.Edges.{LocksHold}
use Rattle.hem_rows.proofs.Choices.{if_mapped}
use Rattle.hem_rows.specs.Rows.{AllHaveTemplates}
use Rattle.hem_locks.specs.Acted.{IsActed}
use Rattle.hem_rows.proofs.Bits.{no_bit}
use Rattle.hem_locks.proofs.Acted.{acted}
use Rattle.hem_bound.specs.Starts.{is_start, TakesMessage}
use Rattle.hem_tree.proofs.Lawful.{get_within}
use Rattle.hem_bound.proofs.ByTemplate.{starts_by}
use Rattle.hem_bound.proofs.Firings.{start_is}

-- what a start takes
record TakesNone (outs : Outs) (me : Option ObjectId) : Type 0 where
  named : (outs.taken_request && is_some me) ≡ false
  parent : outs.taken_parent ≡ false
  kids : outs.taken_kids ≡ nobody

takes_none : (taking : Taking) (me : Option ObjectId) (local : Local) (outs : Outs) → starts_by taking (is_some me) ≡ true → outs.taken_request ≡ takes_me taking → outs.taken_parent ≡ takes_parent taking → outs.taken_kids ≡ takes_kids taking local → TakesNone outs me
takes_none NothingTaken me local outs start taken parent kids = record { named = ap (λ b. b && is_some me) taken; parent = parent; kids = kids }
takes_none FromRequester None local outs start taken parent kids = record { named = ap (λ b. b && false) taken; parent = parent; kids = kids }
takes_none FromRequester (Some child) local outs start taken parent kids = absurd cc
takes_none ParentRequest me local outs start taken parent kids = absurd cc
takes_none ParentResponse me local outs start taken parent kids = absurd cc
takes_none FromKids me local outs start taken parent kids = absurd cc

-- so no head of a channel is taken
pub no_message : (p : Protocol) (tree : Tree) (line : Line) (f : Firing) (e : Effect) → AllHaveTemplates p → effect_of p tree line f ≡ Some e → is_start p tree f ≡ true → (k : ℕ) (lane : Lane) → lane ≢ Requests → takes tree f e.outs k lane ≡ false
no_message p tree line f e templates possible start k lane other = by_lane lane other
  where
    none : TakesNone e.outs f.me
    none = let it = acted p tree line f e templates possible in takes_none (row_of it.template).taking f.me it.local e.outs (sym (start_is p tree line f e it) ∙ start) it.acts.taken_request it.acts.taken_parent it.acts.taken_kids

    unnamed : (taken : Bool) (me : Option ObjectId) → (taken && is_some me) ≡ false → (taken && option_map_or (λ child. child.0 == k) me false && is_child tree k f.object.0) ≡ false
    unnamed false me is = refl
    unnamed true None is = refl
    unnamed true (Some child) is = absurd cc

    and_false : (b : Bool) → (b && false) ≡ false
    and_false true = refl
    and_false false = refl

    by_lane : (lane : Lane) → lane ≢ Requests → takes tree f e.outs k lane ≡ false
    by_lane UpRequests other = unnamed e.outs.taken_request f.me none.named
    by_lane UpResponses other =
        ap (λ (s : KidSet). is_child tree k f.object.0 && has_bit s.0 (place_among tree f.object.0 k)) none.kids
        ∙ ap (λ b. is_child tree k f.object.0 && b) (no_bit (place_among tree f.object.0 k))
        ∙ and_false (is_child tree k f.object.0)
    by_lane Down other = ap (λ b. b && k == f.object.0) none.parent
    by_lane Requests other = absurd (other refl)
    by_lane Answers other = refl

-- where responses of children are taken the downlock is held
held_down : (t : TemplateName) (lock : Option Lock) → (row_of t).taking ≡ FromKids → IsNeeded (row_of t).down lock → (l : Lock) × (lock ≡ Some l)
held_down RsUpDown lock is need = (need.0, need.1)
held_down RsUpUp lock is need = (need.0, need.1)
held_down RsUpSelf lock is need = (need.0, need.1)
held_down ImmSelf lock is need = absurd cc
held_down ImmDown lock is need = absurd cc
held_down ImmUp lock is need = absurd cc
held_down RqUp lock is need = absurd cc
held_down RqUpSelf lock is need = absurd cc
held_down RqUpDown lock is need = absurd cc
held_down RqDownSelf lock is need = absurd cc
held_down RqDownDown lock is need = absurd cc
held_down RsDown lock is need = absurd cc
held_down RsDownSelf lock is need = absurd cc
held_down RsDownRqDown lock is need = absurd cc

-- each other firing takes one, where a downlock awaits a child
pub some_message : (p : Protocol) (tree : Tree) (line : Line) (f : Firing) (e : Effect) → AllHaveTemplates p → LocksHold p tree line → effect_of p tree line f ≡ Some e → is_start p tree f ≡ false → TakesMessage tree f e.outs
some_message p tree line f e templates holds possible other = by_taking (row_of it.template).taking refl (sym (start_is p tree line f e it) ∙ other) it.acts.taken_request it.acts.taken_parent it.acts.taken_kids
  where
    it : IsActed p tree line f e
    it = acted p tree line f e templates possible

    o : ℕ
    o = f.object.0

    told : e.outs.taken_parent ≡ true → TakesMessage tree f e.outs
    told is = record { object = o; lane = Down; channel = λ same. absurd cc; takes = ap (λ b. b && o == o) is ∙ is_same o }

    asked : (me : Option ObjectId) → f.me ≡ me → not (is_some me) ≡ false → e.outs.taken_request ≡ true → TakesMessage tree f e.outs
    asked None named start is = absurd cc
    asked (Some child) named start is =
        let is_own : is_child tree child.0 o ≡ true = sym (ap (is_own_child tree o) named) ∙ it.own_child in
        let same : option_map_or (λ c. c.0 == child.0) f.me false ≡ true = ap (λ (me : Option ObjectId). option_map_or (λ c. c.0 == child.0) me false) named ∙ is_same child.0 in
        record { object = child.0; lane = UpRequests; channel = λ same. absurd cc; takes = rw (is, same, is_own) refl }

    answered : (row_of it.template).taking ≡ FromKids → e.outs.taken_kids ≡ awaited_of it.local → TakesMessage tree f e.outs
    answered taking is =
        let lock = held_down it.template it.local.down taking it.acts.down_before in
        let cell = if_mapped (λ (c : Cell). c.local) (slice_get line o) it.local it.there in
        let object = holds.objects.object o cell.0 cell.1 in
        let down : cell.0.local.down ≡ Some lock.0 = ap (λ (l : Local). l.down) cell.2 ∙ lock.1 in
        let one = object.awaits lock.0 down in
        let inside = one.there in
        let child = get_within (children_of tree o) one.kid (omega (arith, inside, object.children)) in
        let at = at_child tree o one.kid child.0 child.1 in
        let kids : e.outs.taken_kids ≡ lock.0.awaited = is ∙ ap (λ (l : Option Lock). option_map_or (λ lock. lock.awaited) l nobody) lock.1 in
        let bit : has_bit e.outs.taken_kids.0 (place_among tree o child.0) ≡ true = ap (λ (s : KidSet). has_bit s.0 (place_among tree o child.0)) kids ∙ ap (has_bit lock.0.awaited.0) at.1 ∙ one.awaited in
        record { object = child.0; lane = UpResponses; channel = λ same. absurd cc; takes = rw (at.0, bit) refl }

    by_taking : (taking : Taking) → (row_of it.template).taking ≡ taking → starts_by taking (is_some f.me) ≡ false → e.outs.taken_request ≡ takes_me taking → e.outs.taken_parent ≡ takes_parent taking → e.outs.taken_kids ≡ takes_kids taking it.local → TakesMessage tree f e.outs
    by_taking NothingTaken is start me parent kids = absurd cc
    by_taking FromRequester is start me parent kids = asked f.me refl start me
    by_taking ParentRequest is start me parent kids = told parent
    by_taking ParentResponse is start me parent kids = told parent
    by_taking FromKids is start me parent kids = answered is kids
