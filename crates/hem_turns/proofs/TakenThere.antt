-- The heads that a plan takes are there.
use Rattle.std.proofs.Common.{◌≡◌, refl, subst, ℕ, zero, suc, ◌+◌, Bool, true, false, cond, List, [], ◌∷◌, arith, add-zero, Option, Some, None}
use Rattle.std.specs.Prelude.{filter, slice_get}
use Rattle.std.specs.List.{list_all, enumerate_from}
use Rattle.hem_base.specs.Sets.{has_bit}
use Rattle.hem_base.specs.declared.ids.Kind.{Kind}
use Rattle.hem_base.specs.declared.ids.MsgId.{MsgId}
use Rattle.hem_base.specs.declared.ids.Message.{Message}
use Rattle.hem_syntax.specs.declared.rule.Rule.{Rule}
use Rattle.hem_syntax.specs.declared.rule.Take.{Take}
use Rattle.hem_syntax.specs.declared.rule.Take.TheVariants as take
use Rattle.hem_syntax.specs.Protocol.{Protocol}
use Rattle.hem_object.specs.Local.{Local}
use Rattle.hem_fire.specs.Heads.{Heads, has_id, awaited_of, takes_there}
use Rattle.hem_fire.specs.OneFire.{outs_of, me_fits}
use Rattle.hem_base.specs.declared.ids.Kind.TheVariants.{Root, Mid, Leaf}
use Rattle.hem_rows.proofs.Choices.{both}
use Rattle.hem_law.proofs.Taken.{HasMessage, TakesThere}

-- a head with an id is there
has-message : (head : Option Message) (id : MsgId) → has_id head id ≡ true → HasMessage head
has-message None id has = cc
has-message (Some m) id has = (m, refl)

no_bit : (j : ℕ) → has_bit 0 j ≡ true → ⊥
no_bit j has = grind arith

-- each awaited head has the id
awaited-has : (set i : ℕ) (id : MsgId) (heads : List (Option Message)) (j : ℕ) (head : Option Message) → list_all (λ k. has_id k.1 id) (filter (λ k. has_bit set k.0) (enumerate_from i heads)) ≡ true → has_bit set (i + j) ≡ true → slice_get heads j ≡ Some head → has_id head id ≡ true
awaited-has set i id [] j head all has at = cc
awaited-has set i id (x ∷ heads) zero head all has at =
    let bit : has_bit set i ≡ true = rw add-zero at has in
    let it : x ≡ head = cc in
    subst (λ x. has_id x id ≡ true) it (both (has_id x id) _ (rw bit at all)).0
awaited-has set i id (x ∷ heads) (suc j) head all has at =
    let e : i + suc j ≡ (i + 1) + j = omega arith in
    awaited-has set (i + 1) id heads j head (rest (has_bit set i) all) (rw e at has) at
  where
    rest : (b : Bool) → list_all (λ k. has_id k.1 id) (cond b ((i, x) ∷ filter (λ k. has_bit set k.0) (enumerate_from (i + 1) heads)) (filter (λ k. has_bit set k.0) (enumerate_from (i + 1) heads))) ≡ true → list_all (λ k. has_id k.1 id) (filter (λ k. has_bit set k.0) (enumerate_from (i + 1) heads)) ≡ true
    rest true all = (both (has_id x id) _ all).1
    rest false all = all

pub takes-there-taking : (t : Take) (p : Protocol) (kind : Kind) (rule : Rule) (me : Option ℕ) (local : Local) (heads : Heads) → rule.take ≡ t → takes_there t local heads ≡ true → TakesThere (outs_of p kind rule me local heads) heads
takes-there-taking (take.Me id) p kind rule me local heads is there =
    record {
      request = λ taken. has-message heads.request id there;
      parent = λ taken. let no : false ≡ true = rw is at taken in cc;
      kids = λ j head bit at. absurd (no_bit j (rw is at bit));
    }
takes-there-taking (take.Parent id) p kind rule me local heads is there =
    record {
      request = λ taken. let no : false ≡ true = rw is at taken in cc;
      parent = λ taken. has-message heads.parent id there;
      kids = λ j head bit at. absurd (no_bit j (rw is at bit));
    }
takes-there-taking (take.Kids id) p kind rule me local heads is there =
    record {
      request = λ taken. let no : false ≡ true = rw is at taken in cc;
      parent = λ taken. let no : false ≡ true = rw is at taken in cc;
      kids = λ j head bit at. has-message head id (awaited-has (awaited_of local).0 0 id heads.kids j head (both _ _ there).1 (let e : 0 + j ≡ j = omega arith in rw e (rw is at bit)) at);
    }
takes-there-taking take.Nothing p kind rule me local heads is there =
    record {
      request = λ taken. let no : false ≡ true = rw is at taken in cc;
      parent = λ taken. let no : false ≡ true = rw is at taken in cc;
      kids = λ j head bit at. absurd (no_bit j (rw is at bit));
    }

-- a child is named only where its request is taken
pub named-taken : (p : Protocol) (kind : Kind) (rule : Rule) (t : Take) (place children : ℕ) → rule.take ≡ t → me_fits kind t (Some place) children ≡ true → (local : Local) (heads : Heads) → (outs_of p kind rule (Some place) local heads).taken_request ≡ true
named-taken p kind rule (take.Me id) place children is fits local heads = rw is refl
named-taken p Leaf rule (take.Parent id) place children is fits local heads = cc
named-taken p Root rule (take.Parent id) place children is fits local heads = cc
named-taken p Mid rule (take.Parent id) place children is fits local heads = cc
named-taken p Leaf rule (take.Kids id) place children is fits local heads = cc
named-taken p Root rule (take.Kids id) place children is fits local heads = cc
named-taken p Mid rule (take.Kids id) place children is fits local heads = cc
named-taken p Leaf rule take.Nothing place children is fits local heads = cc
named-taken p Root rule take.Nothing place children is fits local heads = cc
named-taken p Mid rule take.Nothing place children is fits local heads = cc
