-- What a firing takes is there, and it sees it.
use Rattle.std.proofs.Common.{◌≡◌, refl, ap, ◌∙◌, subst, ℕ, zero, suc, ◌+◌, Bool, true, false, cond, List, [], ◌∷◌, map, arith, add-zero, Option, Some, None}
use Rattle.std.specs.Prelude.{filter, slice_get, option_map}
use Rattle.std.specs.List.{list_all, enumerate_from}
use Rattle.std.proofs.lemmas.Option.{slice_get-map}
use Rattle.hem_base.specs.Sets.{has_bit}
use Rattle.hem_base.specs.declared.ids.Message.{Message}
use Rattle.hem_base.specs.declared.ids.MsgId.{MsgId}
use Rattle.hem_base.specs.declared.ids.Kind.{Kind}
use Rattle.hem_base.specs.declared.ids.Firing.{Firing}
use Rattle.hem_syntax.specs.declared.rule.Rule.{Rule}
use Rattle.hem_syntax.specs.declared.rule.Take.{Take}
use Rattle.hem_syntax.specs.declared.rule.Take.TheVariants as take
use Rattle.hem_fire.specs.declared.outs.Outs.{Outs}
use Rattle.hem_syntax.specs.Protocol.{Protocol}
use Rattle.hem_tree.specs.Tree.{Tree, is_child, children_of, place_among}
use Rattle.hem_object.specs.Local.{Local}
use Rattle.hem_fire.specs.Heads.{has_id, awaited_of, takes_there}
use Rattle.hem_fire.specs.OneFire.{Heads, can_fire, outs_of}
use Rattle.hem_system.specs.State.{Effect, own_effect, place_of_me}
use Rattle.hem_system.proofs.Kids.{child_at}
use Rattle.hem_rows.proofs.Choices.{chosen, both}
use Rattle.hem_law.proofs.OwnEffect.{own_effect-parts}

-- a message is there
abbrev pub HasMessage : Option Message → Type 0
HasMessage head = (m : Message) × (head ≡ Some m)

-- the heads that are taken are there
pub record TakesThere (outs : Outs) (heads : Heads) : Type 0 where
  pub request : outs.taken_request ≡ true → HasMessage heads.request
  pub parent : outs.taken_parent ≡ true → HasMessage heads.parent
  pub kids : (j : ℕ) (head : Option Message) → has_bit outs.taken_kids.0 j ≡ true → slice_get heads.kids j ≡ Some head → HasMessage head

-- a head with an id is there
has-message : (head : Option Message) (id : MsgId) → has_id head id ≡ true → HasMessage head
has-message None id has = cc
has-message (Some m) id has = (m, refl)

no_bit : (j : ℕ) → has_bit 0 j ≡ true → ⊥
no_bit j has = grind arith

-- each awaited head has the id
awaited-has : (set i : ℕ) (id : MsgId) (heads : List (Option Message)) (j : ℕ) (head : Option Message) → list_all (λ k. has_id k.1 id) (filter (λ k. has_bit set k.0) (enumerate_from i heads)) ≡ true → has_bit set (i + j) ≡ true → slice_get heads j ≡ Some head → has_id head id ≡ true
awaited-has set i id [] j head all has at = cc
awaited-has set i id (x ∷ heads) zero head all has at =
    let bit : has_bit set i ≡ true = rw add-zero at has in
    let it : x ≡ head = cc in
    subst (λ x. has_id x id ≡ true) it (both (has_id x id) _ (rw bit at all)).0
awaited-has set i id (x ∷ heads) (suc j) head all has at =
    let e : i + suc j ≡ (i + 1) + j = omega arith in
    awaited-has set (i + 1) id heads j head (rest (has_bit set i) all) (rw e at has) at
  where
    rest : (b : Bool) → list_all (λ k. has_id k.1 id) (cond b ((i, x) ∷ filter (λ k. has_bit set k.0) (enumerate_from (i + 1) heads)) (filter (λ k. has_bit set k.0) (enumerate_from (i + 1) heads))) ≡ true → list_all (λ k. has_id k.1 id) (filter (λ k. has_bit set k.0) (enumerate_from (i + 1) heads)) ≡ true
    rest true all = (both (has_id x id) _ all).1
    rest false all = all

takes-there-taking : (t : Take) (p : Protocol) (kind : Kind) (rule : Rule) (me : Option ℕ) (local : Local) (heads : Heads) → rule.take ≡ t → takes_there t local heads ≡ true → TakesThere (outs_of p kind rule me local heads) heads
takes-there-taking (take.Me id) p kind rule me local heads is there =
    record {
      request = λ taken. has-message heads.request id there;
      parent = λ taken. let no : false ≡ true = rw is at taken in cc;
      kids = λ j head bit at. absurd (no_bit j (rw is at bit));
    }
takes-there-taking (take.Parent id) p kind rule me local heads is there =
    record {
      request = λ taken. let no : false ≡ true = rw is at taken in cc;
      parent = λ taken. has-message heads.parent id there;
      kids = λ j head bit at. absurd (no_bit j (rw is at bit));
    }
takes-there-taking (take.Kids id) p kind rule me local heads is there =
    record {
      request = λ taken. let no : false ≡ true = rw is at taken in cc;
      parent = λ taken. let no : false ≡ true = rw is at taken in cc;
      kids = λ j head bit at. has-message head id (awaited-has (awaited_of local).0 0 id heads.kids j head (both _ _ there).1 (let e : 0 + j ≡ j = omega arith in rw e (rw is at bit)) at);
    }
takes-there-taking take.Nothing p kind rule me local heads is there =
    record {
      request = λ taken. let no : false ≡ true = rw is at taken in cc;
      parent = λ taken. let no : false ≡ true = rw is at taken in cc;
      kids = λ j head bit at. absurd (no_bit j (rw is at bit));
    }

-- what a firing takes is there
pub takes-there : (p : Protocol) (tree : Tree) (f : Firing) (local : Local) (heads : Heads) (e : Effect) → own_effect p tree f local heads ≡ Some e → TakesThere e.outs heads
takes-there p tree f local heads e is =
    let parts = own_effect-parts p tree f local heads e is in
    let it = chosen (can_fire p parts.kind parts.rule (place_of_me tree f.object.0 f.me) local heads) _ e parts.effect in
    let there = (both _ _ (both _ _ (both _ _ (both _ _ (both _ _ (both _ _ (both _ _ it.0).0).0).0).0).0).0).1 in
    subst (λ x. TakesThere x heads) (ap (λ x. x.outs) it.1) (takes-there-taking parts.rule.take p parts.kind parts.rule (place_of_me tree f.object.0 f.me) local heads refl there)

-- what a child has stands at the child's place among what all children have
pub kid-at : (tree : Tree) (o k : ℕ) (F : ℕ → Option Message) → is_child tree k o ≡ true → slice_get (map F (children_of tree o)) (place_among tree o k) ≡ Some (F k)
kid-at tree o k F child = slice_get-map F (children_of tree o) (place_among tree o k) ∙ ap (option_map F) (child_at tree o k child)
