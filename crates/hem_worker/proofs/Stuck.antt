-- A line on which nothing is chosen: each firing that is possible with what waits is hindered.
use Rattle.std.proofs.Common.{◌≡◌, refl, ap, sym, ◌∙◌, subst, ℕ, zero, suc, ◌<◌, ◌≤◌, arith, Bool, true, false, not, ◌&&◌, cond, List, [], ◌∷◌, ◌++◌, map, length, Option, Some, None, ◌⊎◌, inl, inr, ⊎_elim}
use Rattle.std.specs.Prelude.{nat_lt, slice_get, find, option_and_then}
use Rattle.std.specs.Option.{option_or, option_map_or}
use Rattle.std.proofs.str.Laws.{order}
use Rattle.std.proofs.lemmas.List.{length-map}
use Rattle.std.proofs.lemmas.Option.{slice_get_within}
use Rattle.hem_base.specs.declared.ids.Kind.{Kind}
use Rattle.hem_base.specs.declared.ids.ObjectId.{ObjectId}
use Rattle.hem_base.specs.declared.ids.Firing.{Firing}
use Rattle.hem_syntax.specs.declared.rule.Rule.{Rule}
use Rattle.hem_syntax.specs.Protocol.{Protocol, part, rule_named}
use Rattle.hem_object.specs.Local.{Local}
use Rattle.hem_fire.specs.Heads.{Heads}
use Rattle.hem_fire.specs.OneFire.{can_fire, outs_of}
use Rattle.hem_fire.specs.Plans.{planned, plan_of}
use Rattle.hem_tree.specs.Tree.{Tree, below, children_of, place_among}
use Rattle.hem_tree.proofs.Lawful.{length_below}
use Rattle.hem_system.specs.State.{Effect, rule_effect, is_own_child, place_of_me}
use Rattle.hem_system.specs.Ended.{takes_nothing, is_self}
use Rattle.hem_rows.proofs.Choices.{both, chosen}
use Rattle.hem_abstract.specs.First.{first_with}
use Rattle.hem_law.proofs.OwnEffect.{IsOwnEffect, own_effect-parts}
use Rattle.hem_parts.specs.Steps.{heads_from}
use Rattle.hem_ends.specs.Ends.{kid_look}
use Rattle.hem_choice.specs.Choices.{Sight, greatest_stamp, heads_of, may_send, is_spent, stamp_after, choice_by, choice_with, choice_below, choice_of}
use Rattle.hem_turns.specs.OnLine.{OnLine, asked, sight_of}
use Rattle.hem_worker.specs.LineParts.{Stands, known_by}
use Rattle.hem_worker.specs.Workers.{IsLineStuck}
use Rattle.hem_worker.specs.Hindered.{effect_there, IsHindered}
use Rattle.hem_worker.proofs.Named.{IsNamed, named-child}
use Rattle.hem_worker.proofs.Waiting.{heads-same, kid-there}

-- where the first that is given is none, none is given
none-first : {A B : Type 0} (give : A → Option B) (xs : List A) (i : ℕ) (x : A) → first_with give xs ≡ None → slice_get xs i ≡ Some x → give x ≡ None
none-first give [] i x none at = cc
none-first {A = A} {B = B} give (y ∷ xs) i x none at = by_first (give y) refl none i at (none-first give xs)
  where
    by_first : (o : Option B) → give y ≡ o → option_or o (first_with give xs) ≡ None → (i : ℕ) → slice_get (y ∷ xs) i ≡ Some x → ((i : ℕ) (z : A) → first_with give xs ≡ None → slice_get xs i ≡ Some z → give z ≡ None) → give x ≡ None
    by_first (Some z) is none i at rest = cc
    by_first None is none zero at rest = let same : y ≡ x = cc in subst (λ z. give z ≡ None) same is
    by_first None is none (suc i) at rest = rest i x none at

or-none : {A : Type 0} (a b : Option A) → option_or a b ≡ None → (a ≡ None) × (b ≡ None)
or-none None b none = (refl, none)
or-none (Some x) b none = cc

-- what is found stands at a place
found-at : {A : Type 0} (test : A → Bool) (xs : List A) (x : A) → find test xs ≡ Some x → (i : ℕ) × (slice_get xs i ≡ Some x)
found-at test [] x is = cc
found-at {A = A} test (y ∷ xs) x is = by_test (test y) is (found-at test xs x)
  where
    by_test : (b : Bool) → cond b (Some y) (find test xs) ≡ Some x → (find test xs ≡ Some x → (i : ℕ) × (slice_get xs i ≡ Some x)) → (i : ℕ) × (slice_get (y ∷ xs) i ≡ Some x)
    by_test true is rest = (0, is)
    by_test false is rest = let it = rest is in (suc it.0, it.1)

-- a number stands among those below a bound at its own place
left-of : (xs : List ℕ) (y i k : ℕ) → slice_get xs i ≡ Some k → slice_get (xs ++ y ∷ []) i ≡ Some k
left-of [] y i k at = cc
left-of (x ∷ xs) y zero k at = at
left-of (x ∷ xs) y (suc i) k at = left-of xs y i k at

end-of : (xs : List ℕ) (y : ℕ) → slice_get (xs ++ y ∷ []) (length xs) ≡ Some y
end-of [] y = refl
end-of (x ∷ xs) y = end-of xs y

below-at : (n k : ℕ) → k < n → slice_get (below n) k ≡ Some k
below-at zero k less = absurd (omega (arith, less))
below-at (suc n) k less =
    ⊎_elim
    (λ before. left-of (below n) n k k (below-at n k before))
    (λ past. (let same : k ≡ n = omega (arith, less, past) in let size : length (below n) ≡ k = length_below n ∙ sym same in ap (slice_get (below n ++ n ∷ [])) (sym size) ∙ end-of (below n) n ∙ ap Some (sym same)))
    (order k n)

-- a firing that isn't chosen though its rule can fire
all-made : (selfs k : ℕ) → not (nat_lt selfs k) ≡ true → k ≤ selfs
all-made selfs k is = grind arith

past-bound : (stamp : ℕ) → not (nat_lt greatest_stamp stamp) ≡ false → greatest_stamp < stamp
past-bound stamp is = grind arith

either-false : (a b : Bool) → (a && b) ≡ false → (a ≡ false) ⊎ (b ≡ false)
either-false true b is = inr is
either-false false b is = inl refl

not-chosen : {A : Type 0} (b : Bool) (x : A) → cond b (Some x) None ≡ None → b ≡ false
not-chosen true x none = cc
not-chosen false x none = refl

with-none : (p : Protocol) (kind : Kind) (local : Local) (sight : Sight) (rule : Rule) (me : Option ℕ) (heads : Heads) (e : Effect) → heads_of sight me ≡ heads → choice_with p kind local sight rule me ≡ None → rule_effect p kind rule me local heads ≡ Some e → (is_spent sight rule.take ≡ true) ⊎ (may_send sight.look e.outs.to ≡ false) ⊎ (greatest_stamp < stamp_after sight.last sight.look me e.outs)
with-none p kind local sight rule me heads e same none effect = by_spent (is_spent sight rule.take) refl none
  where
    of_test : (may_send sight.look e.outs.to ≡ false) ⊎ (not (nat_lt greatest_stamp (stamp_after sight.last sight.look me e.outs)) ≡ false) → (is_spent sight rule.take ≡ true) ⊎ (may_send sight.look e.outs.to ≡ false) ⊎ (greatest_stamp < stamp_after sight.last sight.look me e.outs)
    of_test (inl full) = inr (inl full)
    of_test (inr past) = inr (inr (past-bound (stamp_after sight.last sight.look me e.outs) past))

    by_spent : (b : Bool) → is_spent sight rule.take ≡ b → cond b None (option_and_then (choice_by sight rule me) (plan_of p kind rule me local (heads_of sight me))) ≡ None → (is_spent sight rule.take ≡ true) ⊎ (may_send sight.look e.outs.to ≡ false) ⊎ (greatest_stamp < stamp_after sight.last sight.look me e.outs)
    by_spent true spent none = inl spent
    by_spent false spent none =
        let it = chosen (can_fire p kind rule me local heads) _ e effect in
        let plan : plan_of p kind rule me local (heads_of sight me) ≡ Some (planned p kind rule me local heads) = ap (plan_of p kind rule me local) same ∙ ap (λ b. cond b (Some (planned p kind rule me local heads)) None) it.0 in
        let outs : outs_of p kind rule me local heads ≡ e.outs = ap (λ (x : Effect). x.outs) it.1 in
        let test = not-chosen _ _ (sym (ap (option_and_then (choice_by sight rule me)) plan) ∙ none) in
        of_test (either-false (may_send sight.look e.outs.to) (not (nat_lt greatest_stamp (stamp_after sight.last sight.look me e.outs))) (sym (ap (λ outs. may_send sight.look outs.to && not (nat_lt greatest_stamp (stamp_after sight.last sight.look me outs))) outs) ∙ test))

pub stuck-hindered : (p : Protocol) (tree : Tree) (kind : Kind) (self_count : ℕ) (children : List ObjectId) (line : OnLine) (f : Firing) (e : Effect) → Stands tree f.object kind children → length line.ends.kids ≡ length (children_of tree f.object.0) → IsLineStuck p kind self_count line → effect_there p tree line f ≡ Some e → IsHindered p tree self_count line f e
stuck-hindered p tree kind self_count children line f e stands count stuck effect = by_parts parts.kind parts.rule (let one : Some parts.kind ≡ Some kind = sym parts.there ∙ stands.kind_is in cc) parts.named parts.effect
  where
    heads : Heads
    heads = heads_from tree (asked line) (known_by tree f.object.0 line.ends) f.object.0 f.me

    parts : IsOwnEffect p tree f line.local heads e
    parts = own_effect-parts p tree f line.local heads e effect

    -- the firing names none, or a child at its place
    named : IsNamed tree f.object.0 (place_of_me tree f.object.0 f.me) f.me
    named = by_me f.me parts.child
      where
        by_me : (me : Option ObjectId) → is_own_child tree f.object.0 me ≡ true → IsNamed tree f.object.0 (place_of_me tree f.object.0 me) me
        by_me None own = record { own = own; place = refl; none = refl; at = λ k is. refl }
        by_me (Some child) own = named-child tree f.object.0 child own

    rule-none : (rule : Rule) → rule_named p kind f.rule ≡ Some rule → choice_with p kind line.local (sight_of self_count line) rule (place_of_me tree f.object.0 f.me) ≡ None
    rule-none rule is =
        let at = found-at _ (part p kind).rules rule is in
        let none = or-none _ _ (none-first (choice_of p kind line.local (sight_of self_count line)) (part p kind).rules at.0 rule stuck.none at.1) in
        by_me f.me parts.child none.0 none.1
      where
        by_me : (me : Option ObjectId) → is_own_child tree f.object.0 me ≡ true → choice_with p kind line.local (sight_of self_count line) rule None ≡ None → choice_below p kind line.local (sight_of self_count line) rule ≡ None → choice_with p kind line.local (sight_of self_count line) rule (place_of_me tree f.object.0 me) ≡ None
        by_me None own none rest = none
        by_me (Some child) own none rest =
            let place = place_among tree f.object.0 child.0 in
            let kid = kid-there tree f.object.0 line.ends.kids child.0 count own in
            let less : place < length (map kid_look line.ends.kids) = (let within = slice_get_within line.ends.kids place kid.0 kid.1 in let size = length-map line.ends.kids kid_look in omega (arith, within, size)) in
            none-first (λ place. choice_with p kind line.local (sight_of self_count line) rule (Some place)) (below (length (map kid_look line.ends.kids))) place place rest (below-at (length (map kid_look line.ends.kids)) place less)

    by_parts : (found : Kind) (rule : Rule) → found ≡ kind → rule_named p found f.rule ≡ Some rule → rule_effect p found rule (place_of_me tree f.object.0 f.me) line.local heads ≡ Some e → IsHindered p tree self_count line f e
    by_parts found rule same is effect =
        let here = subst (λ kind. rule_named p kind f.rule ≡ Some rule) same is in
        let made = subst (λ kind. rule_effect p kind rule (place_of_me tree f.object.0 f.me) line.local heads ≡ Some e) same effect in
        let seen = heads-same tree self_count line f.object.0 (place_of_me tree f.object.0 f.me) f.me count named in
        let self : is_self p tree f ≡ takes_nothing rule.take =
        ap (λ o. option_map_or (λ kind. option_map_or (λ (rule : Rule). takes_nothing rule.take) (rule_named p kind f.rule) false) o false) stands.kind_is
        ∙ ap (λ o. option_map_or (λ (rule : Rule). takes_nothing rule.take) o false) here in
        elim (with-none p kind line.local (sight_of self_count line) rule (place_of_me tree f.object.0 f.me) heads e seen (rule-none rule here) made) [
          | inl spent ↦ (let two = both (not (nat_lt line.selfs self_count)) (takes_nothing rule.take) spent in inl (self ∙ two.1, all-made line.selfs self_count two.0))
          | inr rest ↦ inr rest
        ]
