-- The modules of a protocol may be written.
use Rattle.std.proofs.Common.{◌≡◌, refl, ap, sym, ◌∙◌, ℕ, suc, ◌<◌, ◌≤◌, arith, Bool, true, false, not, ◌&&◌, ◌||◌, List, [], ◌∷◌, ◌++◌, length, map, Some}
use Rattle.std.specs.Prelude.{nat_lt, slice_get}
use Rattle.std.specs.List.{list_all, list_any, flat_map, enumerate_from}
use Rattle.std.specs.Str.{bytes_eq}
use Rattle.std.proofs.lemmas.List.{map-append}
use Rattle.std.proofs.lemmas.List.Folds.{list_all-map, list_all-append, list_any-append}
use Rattle.std.proofs.lemmas.Slice.Eq.{bytes_eq-Decides}
use Rattle.hem_base.specs.declared.ids.Kind.{Kind}
use Rattle.hem_base.specs.declared.ids.Kind.TheVariants.{Root, Mid, Leaf}
use Rattle.hem_syntax.specs.declared.rule.Side.TheVariants.{Up, Down}
use Rattle.hem_syntax.specs.Protocol.{Protocol, part}
use Rattle.hem_syntax.specs.Lawful.{IsProtocol, is_declarable, are_distinct}
use Rattle.hem_rows.proofs.Choices.{both}
use Rattle.hem_tree.specs.Tree.{Tree, Node, IsLawful, below, is_child, children_of}
use Rattle.hem_module.specs.Lawful.{are_apart, place_names}
use Rattle.hem_emit.specs.Names.{Reg, field, val, entry, awaits, same_reg, same_queue}
use Rattle.hem_emit.specs.Layout.{lock_registers, registers_at, registers, queues_at, queues}
use Rattle.hem_emit.specs.Written.{name_of_queue, written_register, modules_of}
use Rattle.hem_emit.proofs.Tests.{list_any-map, list_all-flat_map, below_at}
use Rattle.hem_emit.proofs.Named.{and_both}
use Rattle.hem_emit.proofs.Spread.{all_imply, all_kept}
use Rattle.hem_emit.proofs.NumberingRules.{map_map}
use Rattle.hem_emit.proofs.NumberingTwice.{registers_apart, queues_apart}
use Rattle.hem_emit.proofs.NumberingPlaces.{same_reg_self, same_queue_self}
use Rattle.hem_emit.proofs.Rules.{below_less, passes_there, all_places}
use Rattle.hem_emit.proofs.Slots.{from_places}
use Rattle.hem_emit.proofs.Texts.{Named, of_reg, of_queue, text_of, is_small, text_declarable, text_tells}

pub bytes_same : (s t : List ℕ) → bytes_eq s t ≡ true → s ≡ t
bytes_same s t same = (bytes_eq-Decides s t).0 same

pub not_false : (b : Bool) → b ≡ false → not b ≡ true
not_false b is = rw is refl

pub is_false : (b : Bool) → not b ≡ true → b ≡ false
is_false true is = cc
is_false false is = refl

-- lists apart stay apart under a function by whose sameness the elements are the same
none_same : {A B : Type 0} (same : A → A → Bool) (other : B → B → Bool) (f : A → B) (a : A) (xs : List A) → ((j : ℕ) (b : A) → slice_get xs j ≡ Some b → other (f a) (f b) ≡ true → same a b ≡ true) → list_any (same a) xs ≡ false → list_any (other (f a)) (map f xs) ≡ false
none_same same other f a [] each none = refl
none_same same other f a (x ∷ xs) each none = by_head (other (f a) (f x)) refl (same a x) refl none (λ rest. none_same same other f a xs (λ j b at. each (suc j) b at) rest)
  where
    by_head : (b : Bool) → other (f a) (f x) ≡ b → (c : Bool) → same a x ≡ c → (c || list_any (same a) xs) ≡ false → (list_any (same a) xs ≡ false → list_any (other (f a)) (map f xs) ≡ false) → (other (f a) (f x) || list_any (other (f a)) (map f xs)) ≡ false
    by_head true is c here none rest = let head = each 0 x refl is in let c_is : c ≡ true = sym here ∙ head in cc
    by_head false is true here none rest = cc
    by_head false is false here none rest = ap (λ b. b || list_any (other (f a)) (map f xs)) is ∙ rest none

pub apart_as : {A B : Type 0} (same : A → A → Bool) (other : B → B → Bool) (f : A → B) (xs : List A) → ((i j : ℕ) (a b : A) → slice_get xs i ≡ Some a → slice_get xs j ≡ Some b → other (f a) (f b) ≡ true → same a b ≡ true) → are_apart same xs ≡ true → are_apart other (map f xs) ≡ true
apart_as same other f [] each apart = refl
apart_as same other f (x ∷ xs) each apart =
    let parts = both (not (list_any (same x) xs)) (are_apart same xs) apart in
    and_both _ _ (not_false _ (none_same same other f x xs (λ j b at. each 0 (suc j) x b refl at) (is_false _ parts.0)))
    (apart_as same other f xs (λ i j a b at_a at_b. each (suc i) (suc j) a b at_a at_b) parts.1)

pub apart_of_map : {A B : Type 0} (same : B → B → Bool) (f : A → B) (xs : List A) → are_apart same (map f xs) ≡ are_apart (λ a b. same (f a) (f b)) xs
apart_of_map same f [] = refl
apart_of_map same f (x ∷ xs) = let head = list_any-map (same (f x)) f xs in let tail = apart_of_map same f xs in rw (head, tail) refl

apart_both : {A : Type 0} (same : A → A → Bool) (xs ys : List A) → are_apart same xs ≡ true → are_apart same ys ≡ true → list_all (λ x. not (list_any (same x) ys)) xs ≡ true → are_apart same (xs ++ ys) ≡ true
apart_both same [] ys one other cross = other
apart_both same (x ∷ xs) ys one other cross =
    let parts = both (not (list_any (same x) xs)) (are_apart same xs) one in
    let far = both (not (list_any (same x) ys)) _ cross in
    let none : list_any (same x) (xs ++ ys) ≡ false = list_any-append (same x) xs ys ∙ neither _ _ (is_false _ parts.0) (is_false _ far.0) in
    and_both _ _ (not_false _ none) (apart_both same xs ys parts.1 other far.1)
  where
    neither : (a b : Bool) → a ≡ false → b ≡ false → (a || b) ≡ false
    neither a b one two = rw (one, two) refl

-- texts that are distinct are apart
pub apart_distinct : (xs : List (List ℕ)) → are_distinct xs ≡ are_apart bytes_eq xs
apart_distinct [] = refl
apart_distinct (x ∷ xs) = ap (λ b. not (list_any (bytes_eq x) xs) && b) (apart_distinct xs)

-- whether two names are of one register or of one queue
abbrev same_named : Named → Named → Bool
same_named (of_reg a) (of_reg b) = same_reg a b
same_named (of_queue a) (of_queue b) = same_queue a b
same_named _ _ = false

named_self : (x : Named) → same_named x x ≡ true
named_self (of_reg r) = same_reg_self r
named_self (of_queue q) = same_queue_self q

lt_is : (a b : ℕ) → a < b → nat_lt a b ≡ true
lt_is a b less = grind arith

less_of : (a b : ℕ) → nat_lt a b ≡ true → a < b
less_of a b less = grind arith

module _ (p : Protocol) (tree : Tree) (lawful : IsProtocol p) (tree_is : IsLawful tree) where
  abbrev all_named : List Named
  all_named = map of_reg (registers p tree) ++ map of_queue (queues tree)

  abbrev small_reg : Reg → Bool
  small_reg r = is_small (of_reg r)

  small_number : (o : ℕ) → o < length tree → nat_lt o 64 ≡ true
  small_number o less = let few = tree_is.objects in lt_is o 64 (omega (arith, less, few))

  few_fields : (kind : Kind) → length (part p kind).fields ≤ 3
  few_fields Root = lawful.root.few_fields
  few_fields Mid = lawful.mid.few_fields
  few_fields Leaf = lawful.leaf.few_fields

  small_kids : (o : ℕ) → list_all (λ c. nat_lt c 64) (children_of tree o) ≡ true
  small_kids o =
      all_kept (λ c. nat_lt c 64) (λ k. is_child tree k o) (below (length tree))
      (all_imply (λ c. nat_lt c (length tree)) (λ c. nat_lt c 64) (below (length tree)) (λ c less. small_number c (less_of c (length tree) less)) (below_less (length tree) (length tree) (omega arith)))

  small_at : (o : ℕ) (kind : Kind) → nat_lt o 64 ≡ true → list_all small_reg (registers_at p tree o kind) ≡ true
  small_at o kind less =
      let fields = map (λ i. field i o) (below (length (part p kind).fields)) in
      let kids = flat_map (λ c. entry c ∷ awaits c ∷ []) (children_of tree o) in
      joined (fields ++ val o ∷ [] ++ lock_registers o Up ++ lock_registers o Down) kids
      (joined (fields ++ val o ∷ [] ++ lock_registers o Up) (lock_registers o Down)
      (joined (fields ++ val o ∷ []) (lock_registers o Up)
      (joined fields (val o ∷ [])
      (list_all-map small_reg (λ i. field i o) (below (length (part p kind).fields)) ∙ all_imply (λ i. nat_lt i 3) (λ i. nat_lt i 3 && nat_lt o 64) (below (length (part p kind).fields)) (λ i few. and_both _ _ few less) (below_less 3 (length (part p kind).fields) (few_fields kind)))
      (rw less refl))
      (rw less refl))
      (rw less refl))
      (list_all-flat_map small_reg (λ c. entry c ∷ awaits c ∷ []) (children_of tree o) ∙ all_imply (λ c. nat_lt c 64) (λ c. nat_lt c 64 && (nat_lt c 64 && true)) (children_of tree o) (λ c few. rw few refl) (small_kids o))
    where
      joined : (xs ys : List Reg) → list_all small_reg xs ≡ true → list_all small_reg ys ≡ true → list_all small_reg (xs ++ ys) ≡ true
      joined xs ys one other = list_all-append small_reg xs ys ∙ and_both _ _ one other

  small_queues_at : (kind : Kind) (o : ℕ) → nat_lt o 64 ≡ true → list_all (λ q. is_small (of_queue q)) (queues_at kind o) ≡ true
  small_queues_at Root o less = refl
  small_queues_at Mid o less = rw less refl
  small_queues_at Leaf o less = rw less refl

  of_nodes : {A : Type 0} (test : A → Bool) (f : ℕ × Node → List A) → ((node : ℕ × Node) → nat_lt node.0 64 ≡ true → list_all test (f node) ≡ true) → list_all test (flat_map f (enumerate_from 0 tree)) ≡ true
  of_nodes test f each =
      list_all-flat_map test f (enumerate_from 0 tree)
      ∙ all_places (λ node. list_all test (f node)) (enumerate_from 0 tree)
      (λ j node at. let here = from_places 0 tree j node at in let number = here.0 in let less = below_at tree j node.1 here.1 in each node (small_number node.0 (omega (arith, number, less))))

  all_small : list_all is_small all_named ≡ true
  all_small =
      list_all-append is_small (map of_reg (registers p tree)) (map of_queue (queues tree))
      ∙ and_both _ _
      (list_all-map is_small of_reg (registers p tree) ∙ of_nodes small_reg (λ (node : ℕ × Node). registers_at p tree node.0 node.1.kind) (λ node less. small_at node.0 node.1.kind less))
      (list_all-map is_small of_queue (queues tree) ∙ of_nodes (λ q. is_small (of_queue q)) (λ (node : ℕ × Node). queues_at node.1.kind node.0) (λ node less. small_queues_at node.1.kind node.0 less))

  names_are : place_names (modules_of p tree) ≡ map text_of all_named
  names_are =
      (let regs : map (λ (r : List ℕ × ℕ). r.0) (map (written_register p tree) (registers p tree)) ≡ map text_of (map of_reg (registers p tree)) = map_map (λ (r : List ℕ × ℕ). r.0) (written_register p tree) (registers p tree) ∙ sym (map_map text_of of_reg (registers p tree)) in
      let rest : map name_of_queue (queues tree) ≡ map text_of (map of_queue (queues tree)) = sym (map_map text_of of_queue (queues tree)) in
      λ i. regs i ++ rest i)
      ∙ sym (map-append text_of (map of_reg (registers p tree)) (map of_queue (queues tree)))

  all_apart : are_apart same_named all_named ≡ true
  all_apart =
      apart_both same_named (map of_reg (registers p tree)) (map of_queue (queues tree))
      (apart_of_map same_named of_reg (registers p tree) ∙ registers_apart p tree)
      (apart_of_map same_named of_queue (queues tree) ∙ queues_apart tree)
      (list_all-map (λ x. not (list_any (same_named x) (map of_queue (queues tree)))) of_reg (registers p tree)
      ∙ all_places (λ r. not (list_any (same_named (of_reg r)) (map of_queue (queues tree)))) (registers p tree) (λ j r at. not_false _ (list_any-map (same_named (of_reg r)) of_queue (queues tree) ∙ never (queues tree))))
    where
      never : {A : Type 0} (xs : List A) → list_any (λ x. false) xs ≡ false
      never [] = refl
      never (x ∷ xs) = never xs

  pub names_declarable : list_all is_declarable (place_names (modules_of p tree)) ≡ true
  names_declarable =
      ap (list_all is_declarable) names_are
      ∙ list_all-map is_declarable text_of all_named
      ∙ all_imply is_small (λ x. is_declarable (text_of x)) all_named text_declarable all_small

  pub names_apart : are_distinct (place_names (modules_of p tree)) ≡ true
  names_apart =
      ap are_distinct names_are
      ∙ apart_distinct (map text_of all_named)
      ∙ apart_as same_named bytes_eq text_of all_named
      (λ i j a b at_a at_b same. ap (same_named a) (sym (text_tells a b (passes_there is_small all_named i a all_small at_a) (passes_there is_small all_named j b all_small at_b) (bytes_same _ _ same))) ∙ named_self a)
      all_apart
