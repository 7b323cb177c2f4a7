-- What a firing sees of the heads that it does not take.
use Rattle.std.proofs.Common.{◌≡◌, ◌∙◌, refl, sym, ap, subst, ℕ, ◌+◌, Bool, true, false, cond, List, [], ◌∷◌, Option, Some, None}
use Rattle.std.specs.Prelude.{filter, option_and_then}
use Rattle.std.specs.List.{enumerate_from}
use Rattle.hem_base.specs.Sets.{has_bit}
use Rattle.hem_base.specs.declared.ids.KidSet.{KidSet}
use Rattle.hem_base.specs.declared.ids.Message.{Message}
use Rattle.hem_base.specs.declared.ids.Firing.{Firing}
use Rattle.hem_base.specs.declared.ids.Kind.{Kind}
use Rattle.hem_syntax.specs.declared.rule.Rule.{Rule}
use Rattle.hem_syntax.specs.declared.rule.Take.{Take}
use Rattle.hem_syntax.specs.declared.rule.Take.TheVariants as take
use Rattle.hem_syntax.specs.Protocol.{Protocol, rule_named}
use Rattle.hem_object.specs.Local.{Local}
use Rattle.hem_fire.specs.declared.outs.Outs.{Outs}
use Rattle.hem_fire.specs.Heads.{awaited_of, awaited_heads}
use Rattle.hem_fire.specs.OneFire.{Heads, can_fire, local_after, outs_of}
use Rattle.hem_tree.specs.Tree.{Tree, kind_of}
use Rattle.hem_system.specs.State.{Effect, map_each, taken_heads, is_own_child, place_of_me, rule_effect, own_effect}
use Rattle.hem_fire.specs.View.{view_of}
use Rattle.hem_system.specs.Steps.{heads_taken}

-- an effect of its parts
abbrev pub effect_with : Heads → Local → Outs → Effect
effect_with heads after outs = record { after = after; took = taken_heads outs heads; outs = outs }

-- the heads that a take looks at are the same
abbrev pub Alike : Take → Local → Heads → Heads → Type 0
Alike (take.Me id) local a b = b.request ≡ a.request
Alike (take.Parent id) local a b = b.parent ≡ a.parent
Alike (take.Kids id) local a b = awaited_heads local b ≡ awaited_heads local a
Alike take.Nothing local a b = Unit {0}

-- then so is what a firing does
pub record Same (p : Protocol) (kind : Kind) (rule : Rule) (me : Option ℕ) (local : Local) (a b : Heads) : Type 0 where
  pub can : can_fire p kind rule me local b ≡ can_fire p kind rule me local a
  pub after : local_after p kind rule me local b ≡ local_after p kind rule me local a
  pub outs : outs_of p kind rule me local b ≡ outs_of p kind rule me local a

pub same_by : (p : Protocol) (kind : Kind) (rule : Rule) (me : Option ℕ) (local : Local) (a b : Heads) (t : Take) → rule.take ≡ t → Alike t local a b → Same p kind rule me local a b
same_by p kind rule me local a b (take.Me id) is same = record { can = rw (is, same) refl; after = rw (is, same) refl; outs = rw (is, same) refl }
same_by p kind rule me local a b (take.Parent id) is same = record { can = rw (is, same) refl; after = rw (is, same) refl; outs = rw (is, same) refl }
same_by p kind rule me local a b (take.Kids id) is same = record { can = rw (is, same) refl; after = rw (is, same) refl; outs = rw (is, same) refl }
same_by p kind rule me local a b take.Nothing is same = record { can = rw is refl; after = rw is refl; outs = rw is refl }

one_more : (k : ℕ) (x y : Option Message) (xs ys : List (ℕ × Option Message)) (b : Bool) → cond b x None ≡ cond b y None → xs ≡ ys → cond b ((k, x) ∷ xs) xs ≡ cond b ((k, y) ∷ ys) ys
one_more k x y xs ys true head tail = rw (head, tail) refl
one_more k x y xs ys false head tail = tail

-- lists of heads that agree at some children's places have the same heads there
some_heads : (set : KidSet) (k : ℕ) (xs ys : List (Option Message)) → map_each (λ k head. cond (has_bit set.0 k) head None) k xs ≡ map_each (λ k head. cond (has_bit set.0 k) head None) k ys → filter (λ p. has_bit set.0 p.0) (enumerate_from k xs) ≡ filter (λ p. has_bit set.0 p.0) (enumerate_from k ys)
some_heads set k [] [] same = refl
some_heads set k [] (y ∷ ys) same = cc
some_heads set k (x ∷ xs) [] same = cc
some_heads set k (x ∷ xs) (y ∷ ys) same =
    let head : cond (has_bit set.0 k) x None ≡ cond (has_bit set.0 k) y None = cc in
    let tail : map_each (λ k head. cond (has_bit set.0 k) head None) (k + 1) xs ≡ map_each (λ k head. cond (has_bit set.0 k) head None) (k + 1) ys = cc in
    one_more k x y (filter (λ p. has_bit set.0 p.0) (enumerate_from (k + 1) xs)) (filter (λ p. has_bit set.0 p.0) (enumerate_from (k + 1) ys)) (has_bit set.0 k) head (some_heads set (k + 1) xs ys tail)

-- heads that agree where a firing takes are the same to it
alike_by : (p : Protocol) (kind : Kind) (rule : Rule) (me : Option ℕ) (local : Local) (a b : Heads) (t : Take) → rule.take ≡ t → taken_heads (outs_of p kind rule me local a) b ≡ taken_heads (outs_of p kind rule me local a) a → Alike t local a b
alike_by p kind rule me local a b (take.Me id) is same = rw is at (ap (λ (h : Heads). h.request) same)
alike_by p kind rule me local a b (take.Parent id) is same = rw is at (ap (λ (h : Heads). h.parent) same)
alike_by p kind rule me local a b (take.Kids id) is same =
    let awaited : (view_of rule.take me local a).awaited ≡ awaited_of local = ap (λ (t : Take). (view_of t me local a).awaited) is in
    let kids = ap (λ (h : Heads). h.kids) same in
    some_heads (awaited_of local) 0 b.kids a.kids
    (subst (λ (s : KidSet). map_each (λ k head. cond (has_bit s.0 k) head None) 0 b.kids ≡ map_each (λ k head. cond (has_bit s.0 k) head None) 0 a.kids) awaited kids)
alike_by p kind rule me local a b take.Nothing is same = tt

some_of : {A : Type 0} (b : Bool) (x y : A) → cond b (Some x) None ≡ Some y → (b ≡ true) × (x ≡ y)
some_of true x y is = (refl, cc)
some_of false x y is = cc

-- the effect of a rule with heads that agree where it takes
rule_effect-enough : (p : Protocol) (kind : Kind) (rule : Rule) (me : Option ℕ) (local : Local) (a b : Heads) (e : Effect) → rule_effect p kind rule me local a ≡ Some e → taken_heads e.outs b ≡ e.took → rule_effect p kind rule me local b ≡ Some e
rule_effect-enough p kind rule me local a b e is took =
    let after = local_after p kind rule me local a in
    let outs = outs_of p kind rule me local a in
    let made = some_of (can_fire p kind rule me local a) (effect_with a after outs) e is in
    let agree : taken_heads outs b ≡ taken_heads outs a = subst (λ (x : Effect). taken_heads x.outs b ≡ x.took) (sym made.1) took in
    let same = same_by p kind rule me local a b rule.take refl (alike_by p kind rule me local a b rule.take refl agree) in
    let can : can_fire p kind rule me local b ≡ true = same.can ∙ made.0 in
    ap (λ (c : Bool). cond c (Some (effect_with b (local_after p kind rule me local b) (outs_of p kind rule me local b))) None) can
    ∙ ap (λ (l : Local). Some (effect_with b l (outs_of p kind rule me local b))) same.after
    ∙ ap (λ (o : Outs). Some (effect_with b after o)) same.outs
    ∙ ap (λ (h : Heads). let x : Effect = record { after = after; took = h; outs = outs } in Some x) agree
    ∙ ap Some made.1

and_then_same : {X Y : Type 0} (g h : X → Option Y) (o : Option X) (y : Y) → ((x : X) → g x ≡ Some y → h x ≡ Some y) → option_and_then g o ≡ Some y → option_and_then h o ≡ Some y
and_then_same g h None y same is = is
and_then_same g h (Some x) y same is = same x is

cond_same : {Y : Type 0} (c : Bool) (u v : Option Y) (y : Y) → (u ≡ Some y → v ≡ Some y) → cond c u None ≡ Some y → cond c v None ≡ Some y
cond_same true u v y same is = same is
cond_same false u v y same is = is

-- a firing has the same effect with heads that agree where it takes
pub own_effect-enough : (p : Protocol) (tree : Tree) (f : Firing) (local : Local) (a b : Heads) (e : Effect) → own_effect p tree f local a ≡ Some e → taken_heads e.outs b ≡ e.took → own_effect p tree f local b ≡ Some e
own_effect-enough p tree f local a b e is took =
    let o = f.object.0 in
    let of_rule = λ (heads : Heads) (kind : Kind) (rule : Rule). cond (is_own_child tree o f.me) (rule_effect p kind rule (place_of_me tree o f.me) local heads) None in
    let of_kind = λ (heads : Heads) (kind : Kind). option_and_then (of_rule heads kind) (rule_named p kind f.rule) in
    and_then_same (of_kind a) (of_kind b) (kind_of tree o) e
    (λ kind. and_then_same (of_rule a kind) (of_rule b kind) (rule_named p kind f.rule) e
    (λ rule. cond_same (is_own_child tree o f.me) (rule_effect p kind rule (place_of_me tree o f.me) local a) (rule_effect p kind rule (place_of_me tree o f.me) local b) e
    (λ one. rule_effect-enough p kind rule (place_of_me tree o f.me) local a b e one took)))
    is

kept_twice : (b : Bool) (x : Option Message) → cond b (cond b x None) None ≡ cond b x None
kept_twice true x = refl
kept_twice false x = refl

-- the heads that a set of children keeps are its heads in the whole list
kept_heads : (set : KidSet) (k : ℕ) (xs : List (Option Message)) → filter (λ p. has_bit set.0 p.0) (enumerate_from k (map_each (λ k head. cond (has_bit set.0 k) head None) k xs)) ≡ filter (λ p. has_bit set.0 p.0) (enumerate_from k xs)
kept_heads set k [] = refl
kept_heads set k (x ∷ xs) =
    one_more k (cond (has_bit set.0 k) x None) x (filter (λ p. has_bit set.0 p.0) (enumerate_from (k + 1) (map_each (λ k head. cond (has_bit set.0 k) head None) (k + 1) xs))) (filter (λ p. has_bit set.0 p.0) (enumerate_from (k + 1) xs)) (has_bit set.0 k)
    (kept_twice (has_bit set.0 k) x) (kept_heads set (k + 1) xs)

-- the heads that a rule takes are to it as all heads
pub alike_taken : (t : Take) (local : Local) (heads : Heads) → Alike t local heads (heads_taken t local heads)
alike_taken (take.Me id) local heads = refl
alike_taken (take.Parent id) local heads = refl
alike_taken (take.Kids id) local heads = kept_heads (awaited_of local) 0 heads.kids
alike_taken take.Nothing local heads = tt

-- the heads that a firing takes are those that its rule takes
pub taken_by_rule : (p : Protocol) (kind : Kind) (rule : Rule) (me : Option ℕ) (local : Local) (heads : Heads) (t : Take) → rule.take ≡ t → taken_heads (outs_of p kind rule me local heads) heads ≡ heads_taken t local heads
taken_by_rule p kind rule me local heads (take.Me id) is = rw is refl
taken_by_rule p kind rule me local heads (take.Parent id) is = rw is refl
taken_by_rule p kind rule me local heads (take.Kids id) is = rw is refl
taken_by_rule p kind rule me local heads take.Nothing is = rw is refl
