-- A slot is named after a firing.
use Rattle.std.proofs.Common.{◌≡◌, refl, ap, sym, ◌∙◌, subst, ℕ, zero, suc, ◌+◌, ◌<◌, arith, true, List, [], ◌∷◌, ◌++◌, length, map, inl, inr, ◌⊎◌, ⊎_elim, Option, Some, None}
use Rattle.std.specs.Prelude.{nat_lt, slice_get, slice_index_or, option_map}
use Rattle.std.specs.List.{flat_map, enumerate_from}
use Rattle.std.proofs.lemmas.Option.{slice_get-map}
use Rattle.hem_base.specs.declared.ids.Kind.{Kind}
use Rattle.hem_base.specs.declared.ids.Kind.TheVariants.{Root, Mid, Leaf}
use Rattle.hem_base.specs.declared.ids.LineId.{LineId}
use Rattle.hem_base.specs.declared.ids.ObjectId.{ObjectId}
use Rattle.hem_syntax.specs.declared.rule.Rule.{Rule}
use Rattle.hem_syntax.specs.declared.rule.Take.{Take}
use Rattle.hem_syntax.specs.declared.rule.Take.TheVariants as take
use Rattle.hem_syntax.specs.Protocol.{Protocol, part}
use Rattle.hem_syntax.specs.Lawful.{IsProtocol}
use Rattle.hem_fire.specs.OneFire.{me_fits}
use Rattle.hem_tree.specs.Tree.{Tree, Node, kind_of, children_of}
use Rattle.hem_system.specs.State.{is_own_child, place_of_me}
use Rattle.hem_system.proofs.Kids.{at_child}
use Rattle.hem_rows.proofs.Choices.{if_mapped}
use Rattle.hem_emit.specs.Emit.{named_at}
use Rattle.hem_emit.specs.Numbering.{Slot, slots_at, slots, IsSlot, firing_of}
use Rattle.hem_emit.proofs.Tests.{at_below}
use Rattle.hem_emit.proofs.Places.{element_or}
use Rattle.hem_emit.proofs.Rules.{named_fit, passes_there, found_by_name, part_is}

-- where an element of lists in a row stands
pub from_append : {A : Type 0} (xs ys : List A) (i : ℕ) (y : A) → slice_get (xs ++ ys) i ≡ Some y → ((k : ℕ) × (slice_get xs k ≡ Some y)) ⊎ ((k : ℕ) × (slice_get ys k ≡ Some y))
from_append [] ys i y at = inr (i, at)
from_append (x ∷ xs) ys zero y at = inl (0, at)
from_append (x ∷ xs) ys (suc i) y at = ⊎_elim (λ h. inl (suc h.0, h.1)) (λ h. inr h) (from_append xs ys i y at)

pub from_flat : {A B : Type 0} (f : A → List B) (xs : List A) (i : ℕ) (y : B) → slice_get (flat_map f xs) i ≡ Some y → (x : A) × (j : ℕ) × (k : ℕ) × (slice_get xs j ≡ Some x) × (slice_get (f x) k ≡ Some y)
from_flat f [] i y at = cc
from_flat f (x ∷ xs) i y at =
    ⊎_elim (λ h. (x, 0, h.0, refl, h.1)) (λ h. let it = from_flat f xs h.0 y h.1 in (it.0, suc it.1, it.2, it.3, it.4)) (from_append (f x) (flat_map f xs) i y at)

pub from_map : {A B : Type 0} (f : A → B) (xs : List A) (i : ℕ) (y : B) → slice_get (map f xs) i ≡ Some y → (x : A) × (slice_get xs i ≡ Some x) × (f x ≡ y)
from_map f xs i y at = if_mapped f (slice_get xs i) y (sym (slice_get-map f xs i) ∙ at)

pub from_places : {A : Type 0} (n : ℕ) (xs : List A) (i : ℕ) (x : ℕ × A) → slice_get (enumerate_from n xs) i ≡ Some x → (x.0 ≡ n + i) × (slice_get xs i ≡ Some x.1)
from_places n [] i x at = cc
from_places n (a ∷ xs) zero x at = let same : (n, a) ≡ x = cc in let number : n ≡ x.0 = ap (λ (x : ℕ × _). x.0) same in (omega (arith, number), ap Some (ap (λ (x : ℕ × _). x.1) same))
from_places n (a ∷ xs) (suc i) x at = let it = from_places (n + 1) xs i x at in let number = it.0 in (omega (arith, number), it.1)

less_of : (a b : ℕ) → nat_lt a b ≡ true → a < b
less_of a b less = grind arith

module _ (p : Protocol) (tree : Tree) (lawful : IsProtocol p) where
  abbrev place_is : Slot → Type 0
  place_is s = (line : LineId) → (is_own_child tree s.object (firing_of tree line s).me ≡ true) × (place_of_me tree s.object (firing_of tree line s).me ≡ s.me)

  child_is : (o k : ℕ) → nat_lt k (length (children_of tree o)) ≡ true → (is_own_child tree o (Some (record { 0 = slice_index_or (children_of tree o) k 0 })) ≡ true) × (place_of_me tree o (Some (record { 0 = slice_index_or (children_of tree o) k 0 })) ≡ Some k)
  child_is o k less =
      let kid = at_below (children_of tree o) k (less_of k (length (children_of tree o)) less) in
      let same = element_or (children_of tree o) k 0 kid.0 kid.1 in
      let child = at_child tree o k kid.0 kid.1 in
      (ap (λ n. is_own_child tree o (Some (let c : ObjectId = record { 0 = n } in c))) same ∙ child.0, ap (λ n. place_of_me tree o (Some (let c : ObjectId = record { 0 = n } in c))) same ∙ ap Some child.1)

  places : (s : Slot) → me_fits s.kind s.rule.take s.me (length (children_of tree s.object)) ≡ true → place_is s
  places s fits = by_me s.kind s.rule.take s.me refl fits
    where
      by_me : (kind : Kind) (t : Take) (me : Option ℕ) → s.me ≡ me → me_fits kind t me (length (children_of tree s.object)) ≡ true → place_is s
      by_me kind t None same fits line = (ap (λ (m : Option ℕ). is_own_child tree s.object (option_map (λ k. let c : ObjectId = record { 0 = slice_index_or (children_of tree s.object) k 0 } in c) m)) same, ap (λ (m : Option ℕ). place_of_me tree s.object (option_map (λ k. let c : ObjectId = record { 0 = slice_index_or (children_of tree s.object) k 0 } in c) m)) same ∙ sym same)
      by_me Leaf t (Some k) same fits line = cc
      by_me Root (take.Me id) (Some k) same fits line = here k same (child_is s.object k fits) line
        where
          here : (k : ℕ) → s.me ≡ Some k → (is_own_child tree s.object (Some (record { 0 = slice_index_or (children_of tree s.object) k 0 })) ≡ true) × (place_of_me tree s.object (Some (record { 0 = slice_index_or (children_of tree s.object) k 0 })) ≡ Some k) → place_is s
          here k same it line = (ap (λ (m : Option ℕ). is_own_child tree s.object (option_map (λ k. let c : ObjectId = record { 0 = slice_index_or (children_of tree s.object) k 0 } in c) m)) same ∙ it.0, ap (λ (m : Option ℕ). place_of_me tree s.object (option_map (λ k. let c : ObjectId = record { 0 = slice_index_or (children_of tree s.object) k 0 } in c) m)) same ∙ it.1 ∙ sym same)
      by_me Mid (take.Me id) (Some k) same fits line = here k same (child_is s.object k fits) line
        where
          here : (k : ℕ) → s.me ≡ Some k → (is_own_child tree s.object (Some (record { 0 = slice_index_or (children_of tree s.object) k 0 })) ≡ true) × (place_of_me tree s.object (Some (record { 0 = slice_index_or (children_of tree s.object) k 0 })) ≡ Some k) → place_is s
          here k same it line = (ap (λ (m : Option ℕ). is_own_child tree s.object (option_map (λ k. let c : ObjectId = record { 0 = slice_index_or (children_of tree s.object) k 0 } in c) m)) same ∙ it.0, ap (λ (m : Option ℕ). place_of_me tree s.object (option_map (λ k. let c : ObjectId = record { 0 = slice_index_or (children_of tree s.object) k 0 } in c) m)) same ∙ it.1 ∙ sym same)
      by_me Root (take.Parent id) (Some k) same fits line = cc
      by_me Root (take.Kids id) (Some k) same fits line = cc
      by_me Root take.Nothing (Some k) same fits line = cc
      by_me Mid (take.Parent id) (Some k) same fits line = cc
      by_me Mid (take.Kids id) (Some k) same fits line = cc
      by_me Mid take.Nothing (Some k) same fits line = cc

  slot_by : (o : ℕ) (kind : Kind) (rule : Rule) (me : Option ℕ) (j k : ℕ) → kind_of tree o ≡ Some kind → slice_get (part p kind).rules j ≡ Some rule → slice_get (named_at kind rule.take (length (children_of tree o))) k ≡ Some me → IsSlot p tree (record { object = o; kind = kind; rule = rule; me = me })
  slot_by o kind rule me j k is at named =
      let s : Slot = record { object = o; kind = kind; rule = rule; me = me } in
      let fits = passes_there (λ me. me_fits kind rule.take me (length (children_of tree o))) (named_at kind rule.take (length (children_of tree o))) k me (named_fit kind rule.take (length (children_of tree o))) named in
      record {
        kind_is = is;
        named = found_by_name (part p kind).rules j rule (part_is p lawful kind).rules_once at;
        fits = fits;
        own_child = λ line. (places s fits line).0;
        place = λ line. (places s fits line).1;
      }

  pub slot_is : (i : ℕ) (s : Slot) → slice_get (slots p tree) i ≡ Some s → IsSlot p tree s
  slot_is i s at =
      let node = from_flat (λ (node : ℕ × Node). slots_at p tree node.0 node.1.kind) (enumerate_from 0 tree) i s at in
      let here = from_places 0 tree node.1 node.0 node.3 in
      let number : node.0.0 ≡ node.1 = let e = here.0 in omega (arith, e) in
      let kind : kind_of tree node.0.0 ≡ Some node.0.1.kind = ap (kind_of tree) number ∙ ap (option_map (λ (n : Node). n.kind)) here.1 in
      let rule = from_flat (λ rule. map (λ me. let s : Slot = record { object = node.0.0; kind = node.0.1.kind; rule = rule; me = me } in s) (named_at node.0.1.kind rule.take (length (children_of tree node.0.0)))) (part p node.0.1.kind).rules node.2 s node.4 in
      let me = from_map (λ me. let s : Slot = record { object = node.0.0; kind = node.0.1.kind; rule = rule.0; me = me } in s) (named_at node.0.1.kind rule.0.take (length (children_of tree node.0.0))) rule.2 s rule.4 in
      subst (IsSlot p tree) me.2 (slot_by node.0.0 node.0.1.kind rule.0 me.0 rule.1 rule.2 kind rule.3 me.1)
