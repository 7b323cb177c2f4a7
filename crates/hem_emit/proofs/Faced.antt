-- What a rule that has a template may name is there, and its guard may be read, where it can begin.
use Rattle.std.proofs.Common.{◌≡◌, refl, ap, sym, ◌∙◌, ℕ, ◌+◌, ◌<◌, Bool, true, false, not, ◌&&◌, List, [], ◌∷◌, length, arith, Option, Some, None}
use Rattle.std.specs.Prelude.{◌==◌, nat_lt, slice_get, filter, is_some, option_and_then}
use Rattle.std.specs.List.{list_all, enumerate_from}
use Rattle.hem_base.specs.Sets.{has_bit}
use Rattle.hem_base.specs.declared.ids.KidSet.{KidSet}
use Rattle.hem_base.specs.declared.ids.Message.{Message}
use Rattle.hem_base.specs.declared.ids.MsgId.{MsgId}
use Rattle.hem_base.specs.declared.ids.Kind.{Kind}
use Rattle.hem_base.specs.declared.ids.Kind.TheVariants.{Root, Mid, Leaf}
use Rattle.hem_syntax.specs.declared.rule.Take.{Take}
use Rattle.hem_syntax.specs.declared.rule.Take.TheVariants as take
use Rattle.hem_syntax.specs.declared.rule.Hold.TheVariants as hold
use Rattle.hem_syntax.specs.declared.rule.Side.TheVariants.{Up, Down}
use Rattle.hem_template.specs.declared.template_name.TemplateName.{TemplateName}
use Rattle.hem_object.specs.declared.state.By.{By}
use Rattle.hem_object.specs.declared.state.By.TheVariants.{Processor, Kid, Parent, Own}
use Rattle.hem_object.specs.declared.state.Lock.{Lock}
use Rattle.hem_object.specs.declared.state.View.{View}
use Rattle.hem_syntax.specs.Protocol.{Protocol}
use Rattle.hem_object.specs.Local.{Local, IsOrigin}
use Rattle.hem_object.specs.Guard.{is_requester, has_requester}
use Rattle.hem_template.specs.declared.row.Row.{Row}
use Rattle.hem_template.specs.declared.row.Taking.{Taking}
use Rattle.hem_template.specs.declared.row.Taking.TheVariants.{NothingTaken, FromRequester, ParentRequest, ParentResponse, FromKids}
use Rattle.hem_template.specs.Template.{row_of, may_name_requester, has_kept, has_msg, has_rs, is_leaf}
use Rattle.hem_fire.specs.Heads.{Heads, has_id, awaited_of, awaited_heads, takes_there}
use Rattle.hem_fire.specs.View.{asker, kid_asker, requester, request_of, value_in, view_of}
use Rattle.hem_fire.specs.Locks.{need_holds}
use Rattle.hem_fire.specs.OneFire.{me_fits}
use Rattle.hem_module.specs.Step.{Held}
use Rattle.hem_rows.specs.Rows.{IsTaking}
use Rattle.hem_rows.specs.Acts.{takes_me, takes_parent}
use Rattle.hem_rows.proofs.Choices.{both}
use Rattle.hem_rows.proofs.Bits.{no_bit}
use Rattle.hem_emit.specs.Names.{Reg, Queue}
use Rattle.hem_emit.specs.Place.{Place, Asker, fixed, asker_of, is_named}
use Rattle.hem_emit.proofs.Places.{requester-is, origin_child}
use Rattle.hem_emit.proofs.Entries.{Sees}
use Rattle.hem_emit.proofs.Needs.{held_by}
use Rattle.hem_emit.proofs.Rows.{takes_nothing, takes_of_me, takes_of_parent, takes_of_kids, takes_of_nothing, parent_asks, parent_keeps, kids_ask, kids_keep, nobody_asks, held_as_needed}
use Rattle.hem_emit.proofs.Guards.{Guarded, guarded_fixed, guarded_held}

-- the guard may be read, and each name that the row allows stands for something
pub record Faced (at : Place) (s : Held Reg Queue) (who : Asker) (local : Local) (view : View) (row : Row) : Type 0 where
  pub guarded : Guarded at s who local view (may_name_requester row && not (is_leaf at.kind)) (has_kept row.taking)
  pub requester : may_name_requester row ≡ true → has_requester view ≡ true
  pub kid : (may_name_requester row && not (is_leaf at.kind)) ≡ true → (j : ℕ) × (j < length local.dir) × (view.requester ≡ Some (Kid j))
  pub msg : has_msg row.taking ≡ true → is_some view.msg ≡ true
  pub kept : has_kept row.taking ≡ true → is_some view.kept ≡ true
  pub rs : has_rs row.taking ≡ true → is_some view.rs ≡ true
  pub awaited : has_rs row.taking ≡ true → not (view.awaited.0 == 0) ≡ true

-- kinds that have children
not_leaf : (kind : Kind) → not (is_leaf kind) ≡ true → kind ≡ Leaf → ⊥
not_leaf Root inner is = cc
not_leaf Mid inner is = cc
not_leaf Leaf inner is = cc

is_inner : (kind : Kind) → (kind ≡ Leaf → ⊥) → not (is_leaf kind) ≡ true
is_inner Root inner = refl
is_inner Mid inner = refl
is_inner Leaf inner = absurd (inner refl)

-- the children of an inner object alone hold locks for requesters there
of_holder : (kind : Kind) (children : ℕ) (by : By) (request : Message) (awaited : KidSet) → (kind ≡ Leaf → ⊥) → IsOrigin kind children by → need_holds hold.Child (held_by by request awaited) ≡ true → (j : ℕ) × (by ≡ Kid j)
of_holder kind children Own request awaited inner is holds = cc
of_holder kind children Parent request awaited inner is holds = cc
of_holder Root children Processor request awaited inner is holds = absurd is
of_holder Mid children Processor request awaited inner is holds = absurd is
of_holder Leaf children Processor request awaited inner is holds = absurd (inner refl)
of_holder kind children (Kid j) request awaited inner is holds = (j, refl)

kid_of_need : (kind : Kind) (children : ℕ) (lock : Option Lock) → (kind ≡ Leaf → ⊥) → ((l : Lock) → lock ≡ Some l → IsOrigin kind children l.by) → need_holds hold.Child lock ≡ true → (l : Lock) × (j : ℕ) × (lock ≡ Some l) × (l.by ≡ Kid j)
kid_of_need kind children None inner is holds = cc
kid_of_need kind children (Some l) inner is holds =
    let it = of_holder kind children l.by l.request l.awaited inner (is l refl) holds in
    (l, it.0, refl, it.1)

asker_of_kid : (lock : Option Lock) (l : Lock) (j : ℕ) → lock ≡ Some l → l.by ≡ Kid j → asker lock ≡ Some (Kid j)
asker_of_kid lock l j held by = ap asker held ∙ of_by
  where
    of_by : asker (Some l) ≡ Some (Kid j)
    of_by = rw by refl

kid_asker_of_kid : (lock : Option Lock) (l : Lock) (j : ℕ) → lock ≡ Some l → l.by ≡ Kid j → kid_asker lock ≡ Some (Kid j)
kid_asker_of_kid lock l j held by = ap kid_asker held ∙ of_by
  where
    of_by : kid_asker (Some l) ≡ Some (Kid j)
    of_by = rw by refl

-- the child that a rule names is the requester
named_by : (me : Option ℕ) (view : View) (k : ℕ) → view.requester ≡ Some (requester me) → is_named me k ≡ is_requester view k
named_by None view k is = sym (requester-is view (Some Processor) k is)
named_by (Some c) view k is = sym (requester-is view (Some (Kid c)) k is)

named_kid : (kind : Kind) (id : MsgId) (me : Option ℕ) (n : ℕ) → not (is_leaf kind) ≡ true → me_fits kind (take.Me id) me n ≡ true → (j : ℕ) × (j < n) × (Some (requester me) ≡ Some (Kid j))
named_kid Leaf id me n inner fits = cc
named_kid Root id None n inner fits = cc
named_kid Root id (Some c) n inner fits = (c, less c n fits, refl)
  where
    less : (c n : ℕ) → nat_lt c n ≡ true → c < n
    less c n is = grind arith
named_kid Mid id None n inner fits = cc
named_kid Mid id (Some c) n inner fits = (c, less c n fits, refl)
  where
    less : (c n : ℕ) → nat_lt c n ≡ true → c < n
    less c n is = grind arith

value_there : (head : Option Message) (id : MsgId) → has_id head id ≡ true → is_some (value_in head) ≡ true
value_there None id has = cc
value_there (Some m) id has = refl

kept_there : (lock : Option Lock) (l : Lock) → lock ≡ Some l → is_some (request_of lock) ≡ true
kept_there lock l held = rw held refl

-- the first of the awaited responses
first_there : (xs : List (ℕ × Option Message)) (id : MsgId) → (nat_lt 0 (length xs) && list_all (λ k. has_id k.1 id) xs) ≡ true → is_some (option_and_then (λ k. value_in k.1) (slice_get xs 0)) ≡ true
first_there [] id all = cc
first_there (x ∷ xs) id all =
    let parts = both (nat_lt 0 (length (x ∷ xs))) (list_all (λ k. has_id k.1 id) (x ∷ xs)) all in
    value_there x.1 id (both (has_id x.1 id) _ parts.1).0

-- nobody is awaited where the set is empty
nobody_of : {A : Type 0} (i : ℕ) (xs : List A) → filter (λ k. has_bit 0 k.0) (enumerate_from i xs) ≡ []
nobody_of i [] = refl
nobody_of i (x ∷ xs) = rw (no_bit i) (nobody_of (i + 1) xs)

somebody : (set : ℕ) (heads : List (Option Message)) (b : Bool) → (set == 0) ≡ b → nat_lt 0 (length (filter (λ k. has_bit set k.0) (enumerate_from 0 heads))) ≡ true → not b ≡ true
somebody set heads false is some = refl
somebody set heads true is some =
    let zero_it_is : set ≡ 0 = grind arith in
    let none : filter (λ k. has_bit set k.0) (enumerate_from 0 heads) ≡ [] = rw zero_it_is (nobody_of 0 heads) in
    let bad : nat_lt 0 0 ≡ true = (ap (λ (xs : List (ℕ × Option Message)). nat_lt 0 (length xs)) (sym none) ∙ some) in
    cc

-- nothing is taken from the children of a leaf
no_heads : (set : ℕ) (heads : List (Option Message)) → length heads ≡ 0 → nat_lt 0 (length (filter (λ k. has_bit set k.0) (enumerate_from 0 heads))) ≡ true → ⊥
no_heads set [] none some = cc
no_heads set (x ∷ xs) none some = absurd (omega (arith, none))

-- what each taking rules out
pub me_alone : (row : Taking) → takes_me row ≡ true → (has_kept row ≡ false) × (has_rs row ≡ false)
me_alone FromRequester is = (refl, refl)
me_alone _ is = cc

pub parent_alone : (row : Taking) → takes_parent row ≡ true → has_rs row ≡ false
parent_alone ParentRequest is = refl
parent_alone ParentResponse is = refl
parent_alone _ is = cc

kids_alone : (row : Taking) → has_rs row ≡ true → has_msg row ≡ false
kids_alone FromKids is = refl
kids_alone _ is = cc

pub nothing_alone : (row : Taking) → takes_nothing row ≡ true → (has_kept row ≡ false) × (has_rs row ≡ false) × (has_msg row ≡ false)
nothing_alone NothingTaken is = (refl, refl, refl)
nothing_alone _ is = cc

module _ {at : Place} {me : Option ℕ} {local : Local} {heads : Heads} {s : Held Reg Queue} (sees : Sees at me local heads s) (p : Protocol) (t : TemplateName) where
  faced_me : (id : MsgId) → takes_me (row_of t).taking ≡ true → me_fits at.kind (take.Me id) me (length local.dir) ≡ true → has_id heads.request id ≡ true → Faced at s (fixed me) local (view_of (take.Me id) me local heads) (row_of t)
  faced_me id takes fits there =
      let alone = me_alone (row_of t).taking takes in
      let view = view_of (take.Me id) me local heads in
      record {
        guarded = guarded_fixed sees view me _ _ (λ may k. named_by me view k refl) (λ may. refl) alone.0;
        requester = λ may. refl;
        kid = λ may. named_kid at.kind id me (length local.dir) (both (may_name_requester (row_of t)) _ may).1 fits;
        msg = λ may. value_there heads.request id there;
        kept = λ may. let none = alone.0 in cc;
        rs = λ may. let none = alone.1 in cc;
        awaited = λ may. let none = alone.1 in cc;
      }

  faced_parent : (id : MsgId) → takes_parent (row_of t).taking ≡ true → has_id heads.parent id ≡ true → need_holds (row_of t).up local.up ≡ true → Faced at s (asker_of (take.Parent id) me) local (view_of (take.Parent id) me local heads) (row_of t)
  faced_parent id takes there up =
      let view = view_of (take.Parent id) me local heads in
      record {
        guarded = guarded_held sees view Up _ _ (λ may. let h = for_kid may in record { kid = h.1; lock = h.0; held = h.2; by = h.3; asks = asker_of_kid local.up h.0 h.1 h.2 h.3 }) (λ may. let k = keeps may in record { lock = k.0; held = k.1; kept = ap request_of k.1 });
        requester = λ may. child may;
        kid = λ may. let h = for_kid may in (h.1, within h.0 h.1 h.2 h.3, asker_of_kid local.up h.0 h.1 h.2 h.3);
        msg = λ may. value_there heads.parent id there;
        kept = λ may. let k = keeps may in kept_there local.up k.0 k.1;
        rs = λ may. let none = parent_alone (row_of t).taking takes in cc;
        awaited = λ may. let none = parent_alone (row_of t).taking takes in cc;
      }
    where
      child : may_name_requester (row_of t) ≡ true → need_holds hold.Child local.up ≡ true
      child may = let is = parent_asks t takes may in rw is at up

      for_kid : (may_name_requester (row_of t) && not (is_leaf at.kind)) ≡ true → (l : Lock) × (j : ℕ) × (local.up ≡ Some l) × (l.by ≡ Kid j)
      for_kid may = let parts = both (may_name_requester (row_of t)) _ may in kid_of_need at.kind (length at.kids) local.up (not_leaf at.kind parts.1) (sees.origin Up) (child parts.0)

      keeps : has_kept (row_of t).taking ≡ true → (l : Lock) × (local.up ≡ Some l)
      keeps may = held_as_needed (row_of t).up local.up (parent_keeps t takes may) up

      within : (l : Lock) (j : ℕ) → local.up ≡ Some l → l.by ≡ Kid j → j < length local.dir
      within l j held by = let less = origin_child at.kind at.kids l.by j (sees.origin Up l held) by in let count = sees.shows.dir_count in rw count less

  faced_kids : (id : MsgId) → has_rs (row_of t).taking ≡ true → takes_there (take.Kids id) local heads ≡ true → need_holds (row_of t).down local.down ≡ true → Faced at s (asker_of (take.Kids id) me) local (view_of (take.Kids id) me local heads) (row_of t)
  faced_kids id takes there down =
      let view = view_of (take.Kids id) me local heads in
      record {
        guarded = guarded_held sees view Down _ _ (λ may. let h = for_kid (both (may_name_requester (row_of t)) _ may).0 in record { kid = h.1; lock = h.0; held = h.2; by = h.3; asks = kid_asker_of_kid local.down h.0 h.1 h.2 h.3 }) (λ may. record { lock = keeps.0; held = keeps.1; kept = ap request_of keeps.1 });
        requester = λ may. let h = for_kid may in ap is_some (kid_asker_of_kid local.down h.0 h.1 h.2 h.3);
        kid = λ may. let h = for_kid (both (may_name_requester (row_of t)) _ may).0 in (h.1, within h.0 h.1 h.2 h.3, kid_asker_of_kid local.down h.0 h.1 h.2 h.3);
        msg = λ may. let none = kids_alone (row_of t).taking takes in cc;
        kept = λ may. kept_there local.down keeps.0 keeps.1;
        rs = λ may. first_there (awaited_heads local heads) id there;
        awaited = λ may. somebody (awaited_of local).0 heads.kids _ refl some;
      }
    where
      some : nat_lt 0 (length (awaited_heads local heads)) ≡ true
      some = (both (nat_lt 0 (length (awaited_heads local heads))) (list_all (λ k. has_id k.1 id) (awaited_heads local heads)) there).0

      inner : at.kind ≡ Leaf → ⊥
      inner is = no_heads (awaited_of local).0 heads.kids (sees.shows.head_count ∙ ap length (sees.kids.of_leaf is)) some

      for_kid : may_name_requester (row_of t) ≡ true → (l : Lock) × (j : ℕ) × (local.down ≡ Some l) × (l.by ≡ Kid j)
      for_kid may = let is = kids_ask t takes may in kid_of_need at.kind (length at.kids) local.down inner (sees.origin Down) (rw is at down)

      keeps : (l : Lock) × (local.down ≡ Some l)
      keeps = held_as_needed (row_of t).down local.down (kids_keep t takes) down

      within : (l : Lock) (j : ℕ) → local.down ≡ Some l → l.by ≡ Kid j → j < length local.dir
      within l j held by = let less = origin_child at.kind at.kids l.by j (sees.origin Down l held) by in let count = sees.shows.dir_count in rw count less

  faced_nothing : takes_nothing (row_of t).taking ≡ true → Faced at s (asker_of take.Nothing me) local (view_of take.Nothing me local heads) (row_of t)
  faced_nothing takes =
      let alone = nothing_alone (row_of t).taking takes in
      let view = view_of take.Nothing me local heads in
      record {
        guarded = guarded_fixed sees view None _ _ (λ may k. absurd (nobody (both (may_name_requester (row_of t)) _ may).0)) (λ may. absurd (nobody (both (may_name_requester (row_of t)) _ may).0)) alone.0;
        requester = λ may. absurd (nobody may);
        kid = λ may. absurd (nobody (both (may_name_requester (row_of t)) _ may).0);
        msg = λ may. let none = alone.2 in cc;
        kept = λ may. let none = alone.0 in cc;
        rs = λ may. let none = alone.1 in cc;
        awaited = λ may. let none = alone.1 in cc;
      }
    where
      nobody : may_name_requester (row_of t) ≡ true → ⊥
      nobody may = let none = nobody_asks t takes in cc

  pub faced : (tk : Take) → IsTaking p (row_of t).taking tk → me_fits at.kind tk me (length local.dir) ≡ true → takes_there tk local heads ≡ true → need_holds (row_of t).up local.up ≡ true → need_holds (row_of t).down local.down ≡ true → Faced at s (asker_of tk me) local (view_of tk me local heads) (row_of t)
  faced (take.Me id) is fits there up down = faced_me id (takes_of_me p (row_of t).taking id is) fits there
  faced (take.Parent id) is fits there up down = faced_parent id (takes_of_parent p (row_of t).taking id is) there up
  faced (take.Kids id) is fits there up down = faced_kids id (takes_of_kids p (row_of t).taking id is) there down
  faced take.Nothing is fits there up down = faced_nothing (takes_of_nothing p (row_of t).taking is)
