-- The registers and queues of an object and of its children are there.
use Rattle.std.proofs.Common.{◌≡◌, refl, ap, sym, ◌∙◌, subst, ℕ, ◌<◌, arith, Bool, true, false, not, ◌&&◌, ◌||◌, List, [], ◌∷◌, ◌++◌, length, map, Option, Some, None}
use Rattle.std.specs.Prelude.{◌==◌, IsTrue, Ok, nat_lt, slice_get, position, is_some, option_map}
use Rattle.std.specs.List.{list_any, flat_map, enumerate_from}
use Rattle.std.proofs.lemmas.List.Folds.{list_any-append}
use Rattle.hem_base.specs.declared.ids.Kind.{Kind}
use Rattle.hem_base.specs.declared.ids.Kind.TheVariants.{Root, Mid, Leaf}
use Rattle.hem_base.specs.declared.ids.MsgId.{MsgId}
use Rattle.hem_syntax.proofs.Tables.{has_place}
use Rattle.hem_syntax.specs.declared.rule.Rule.{Rule}
use Rattle.hem_syntax.specs.declared.rule.Take.TheVariants as take
use Rattle.hem_syntax.specs.declared.rule.SendTo.TheVariants as send
use Rattle.hem_syntax.specs.declared.rule.Side.{Side}
use Rattle.hem_syntax.specs.declared.rule.Side.TheVariants.{Up, Down}
use Rattle.hem_syntax.specs.declared.rule.Value.{Value}
use Rattle.hem_syntax.specs.Protocol.{Protocol, part}
use Rattle.hem_syntax.specs.Lawful.{counts_of, is_rule}
use Rattle.hem_template.specs.declared.template_name.TemplateName.{TemplateName}
use Rattle.hem_template.specs.Template.{template_of, level_fits}
use Rattle.hem_fire.specs.OneFire.{me_fits}
use Rattle.hem_fire.specs.Sends.{has_parent}
use Rattle.hem_tree.specs.Tree.{Tree, Node, IsLawful, below, kind_of, parent_of, is_child, children_of}
use Rattle.hem_system.specs.declared.lane.Lane.{Lane}
use Rattle.hem_system.specs.declared.lane.Lane.TheVariants as lane
use Rattle.hem_system.proofs.Kids.{at_child}
use Rattle.hem_system.proofs.Takers.{parent_is}
use Rattle.hem_rows.proofs.Rows.{of_row}
use Rattle.hem_rows.proofs.Choices.{both}
use Rattle.hem_emit.specs.Names.{Part, origin, asked, kept, Reg, field, val, lock, entry, awaits, Queue, same_reg, same_queue}
use Rattle.hem_emit.specs.Place.{Place}
use Rattle.hem_emit.specs.Clauses.{requests_of}
use Rattle.hem_emit.specs.Emit.{place_of, rule_at}
use Rattle.hem_emit.specs.Layout.{lock_registers, registers_at, registers, queues_at, queues}
use Rattle.hem_emit.specs.Numbering.{has_reg, has_queue, rule_known}
use Rattle.hem_emit.proofs.Tests.{same_number, list_any-map, list_any-flat_map, any_at, any_elements, among_below, at_below}
use Rattle.hem_emit.proofs.Places.{element_or}
use Rattle.hem_emit.proofs.Named.{and_both}
use Rattle.hem_emit.proofs.NumberingThere.{any_weaker}
use Rattle.hem_emit.proofs.Whole.{declared}
use Rattle.hem_emit.proofs.Known.{AllThere, rule_is_known}

-- what is there has a place
pub placed : {A : Type 0} (test : A → Bool) (xs : List A) → list_any test xs ≡ true → is_some (position test xs) ≡ true
placed test xs some = has_place test xs ∙ some

left : {A : Type 0} (test : A → Bool) (xs ys : List A) → list_any test xs ≡ true → list_any test (xs ++ ys) ≡ true
left test xs ys some = list_any-append test xs ys ∙ ap (λ b. b || list_any test ys) some

right : {A : Type 0} (test : A → Bool) (xs ys : List A) → list_any test ys ≡ true → list_any test (xs ++ ys) ≡ true
right test xs ys some = list_any-append test xs ys ∙ ap (λ b. list_any test xs || b) some ∙ or_true (list_any test xs)
  where
    or_true : (b : Bool) → (b || true) ≡ true
    or_true true = refl
    or_true false = refl

-- an element that passes, by its place
pub any_there : {A : Type 0} (f : ℕ × A → Bool) (j : ℕ) (xs : List A) (x : A) → slice_get xs j ≡ Some x → f (j, x) ≡ true → list_any f (enumerate_from 0 xs) ≡ true
any_there f j xs x at is = any_weaker (λ k. j == k.0 && f k) f (λ k both_are. (both (j == k.0) (f k) both_are).1) (enumerate_from 0 xs) (any_at f j xs x at ∙ is)

pub element_there : {A : Type 0} (f : A → Bool) (xs : List A) (j : ℕ) (x : A) → slice_get xs j ≡ Some x → f x ≡ true → list_any f xs ≡ true
element_there f xs j x at is = sym (any_elements f 0 xs) ∙ any_there (λ k. f k.1) j xs x at is

node_of : (tree : Tree) (o : ℕ) (kind : Kind) (found : Option Node) → slice_get tree o ≡ found → option_map (λ (node : Node). node.kind) found ≡ Some kind → (node : Node) × (slice_get tree o ≡ Some node) × (node.kind ≡ kind)
node_of tree o kind None at is = cc
node_of tree o kind (Some node) at is = (node, at, cc)

module _ (p : Protocol) (tree : Tree) (o : ℕ) (kind : Kind) (is : kind_of tree o ≡ Some kind) where
  reg_there : (r : Reg) → list_any (same_reg r) (registers_at p tree o kind) ≡ true → has_reg p tree r ≡ true
  reg_there r some =
      let node = node_of tree o kind (slice_get tree o) refl is in
      placed (same_reg r) (registers p tree)
      (list_any-flat_map (same_reg r) (λ (node : ℕ × Node). registers_at p tree node.0 node.1.kind) (enumerate_from 0 tree)
      ∙ any_there (λ (x : ℕ × Node). list_any (same_reg r) (registers_at p tree x.0 x.1.kind)) o tree node.0 node.1 (ap (λ k. list_any (same_reg r) (registers_at p tree o k)) node.2 ∙ some))

  pub queue_there : (q : Queue) → list_any (same_queue q) (queues_at kind o) ≡ true → has_queue tree q ≡ true
  queue_there q some =
      let node = node_of tree o kind (slice_get tree o) refl is in
      placed (same_queue q) (queues tree)
      (list_any-flat_map (same_queue q) (λ (node : ℕ × Node). queues_at node.1.kind node.0) (enumerate_from 0 tree)
      ∙ any_there (λ (x : ℕ × Node). list_any (same_queue q) (queues_at x.1.kind x.0)) o tree node.0 node.1 (ap (λ k. list_any (same_queue q) (queues_at k o)) node.2 ∙ some))

  abbrev fields : List Reg
  fields = map (λ i. field i o) (below (length (part p kind).fields))

  abbrev kids_list : List Reg
  kids_list = flat_map (λ c. entry c ∷ awaits c ∷ []) (children_of tree o)

  pub field_there : (i : ℕ) → nat_lt i (length (part p kind).fields) ≡ true → has_reg p tree (field i o) ≡ true
  field_there i less =
      reg_there (field i o)
      (left _ (fields ++ val o ∷ [] ++ lock_registers o Up ++ lock_registers o Down) kids_list
      (left _ (fields ++ val o ∷ [] ++ lock_registers o Up) (lock_registers o Down)
      (left _ (fields ++ val o ∷ []) (lock_registers o Up)
      (left _ fields (val o ∷ [])
      (list_any-map (same_reg (field i o)) (λ i. field i o) (below (length (part p kind).fields))
      ∙ any_weaker (λ n. true && i == n) (λ j. i == j && o == o) (λ j same. and_both _ _ same (same_number o o refl)) (below (length (part p kind).fields)) (among_below (λ n. true) i (length (part p kind).fields) ∙ less))))))

  pub value_there : has_reg p tree (val o) ≡ true
  value_there =
      reg_there (val o)
      (left _ (fields ++ val o ∷ [] ++ lock_registers o Up ++ lock_registers o Down) kids_list
      (left _ (fields ++ val o ∷ [] ++ lock_registers o Up) (lock_registers o Down)
      (left _ (fields ++ val o ∷ []) (lock_registers o Up)
      (right _ fields (val o ∷ []) (rw (same_number o o refl) refl)))))

  lock_of : (side : Side) (part_is : Part) → list_any (same_reg (lock side part_is o)) (lock_registers o side) ≡ true
  lock_of Up origin = rw (same_number o o refl) refl
  lock_of Up asked = rw (same_number o o refl) refl
  lock_of Up kept = rw (same_number o o refl) refl
  lock_of Down origin = rw (same_number o o refl) refl
  lock_of Down asked = rw (same_number o o refl) refl
  lock_of Down kept = rw (same_number o o refl) refl

  pub lock_there : (side : Side) (part_is : Part) → has_reg p tree (lock side part_is o) ≡ true
  lock_there Up part_is =
      reg_there (lock Up part_is o)
      (left _ (fields ++ val o ∷ [] ++ lock_registers o Up ++ lock_registers o Down) kids_list
      (left _ (fields ++ val o ∷ [] ++ lock_registers o Up) (lock_registers o Down)
      (right _ (fields ++ val o ∷ []) (lock_registers o Up) (lock_of Up part_is))))
  lock_there Down part_is =
      reg_there (lock Down part_is o)
      (left _ (fields ++ val o ∷ [] ++ lock_registers o Up ++ lock_registers o Down) kids_list
      (right _ (fields ++ val o ∷ [] ++ lock_registers o Up) (lock_registers o Down) (lock_of Down part_is)))

  kid_register : (r : Reg) (k c : ℕ) → slice_get (children_of tree o) k ≡ Some c → list_any (same_reg r) (entry c ∷ awaits c ∷ []) ≡ true → has_reg p tree r ≡ true
  kid_register r k c kid some =
      reg_there r
      (right _ (fields ++ val o ∷ [] ++ lock_registers o Up ++ lock_registers o Down) kids_list
      (list_any-flat_map (same_reg r) (λ c. entry c ∷ awaits c ∷ []) (children_of tree o)
      ∙ element_there (λ c. list_any (same_reg r) (entry c ∷ awaits c ∷ [])) (children_of tree o) k c kid some))

  pub entry_there : (k c : ℕ) → slice_get (children_of tree o) k ≡ Some c → has_reg p tree (entry c) ≡ true
  entry_there k c kid = kid_register (entry c) k c kid (rw (same_number c c refl) refl)

  pub awaits_there : (k c : ℕ) → slice_get (children_of tree o) k ≡ Some c → has_reg p tree (awaits c) ≡ true
  awaits_there k c kid = kid_register (awaits c) k c kid (rw (same_number c c refl) refl)

-- the lists of an edge to a parent
abbrev is_edge : Lane → Bool
is_edge lane.UpRequests = true
is_edge lane.UpResponses = true
is_edge lane.Down = true
is_edge lane.Requests = false
is_edge lane.Answers = false

edge_queue : (kind : Kind) (u : ℕ) (l : Lane) → has_parent kind ≡ true → is_edge l ≡ true → list_any (same_queue (record { object = u; lane = l })) (queues_at kind u) ≡ true
edge_queue Root u l low edge = cc
edge_queue Mid u lane.UpRequests low edge = rw (same_number u u refl) refl
edge_queue Mid u lane.UpResponses low edge = rw (same_number u u refl) refl
edge_queue Mid u lane.Down low edge = rw (same_number u u refl) refl
edge_queue Leaf u lane.UpRequests low edge = rw (same_number u u refl) refl
edge_queue Leaf u lane.UpResponses low edge = rw (same_number u u refl) refl
edge_queue Leaf u lane.Down low edge = rw (same_number u u refl) refl
edge_queue Mid u lane.Requests low edge = cc
edge_queue Mid u lane.Answers low edge = cc
edge_queue Leaf u lane.Requests low edge = cc
edge_queue Leaf u lane.Answers low edge = cc

-- a child has a kind, and that is not the root's
child_kind : (tree : Tree) → IsLawful tree → (o c : ℕ) → is_child tree c o ≡ true → (kind : Kind) × (kind_of tree c ≡ Some kind) × (has_parent kind ≡ true)
child_kind tree lawful o c child = by_node (slice_get tree c) refl
  where
    parent : parent_of tree c ≡ Some o
    parent = parent_is tree c o child

    not_root : (kind : Kind) → kind_of tree c ≡ Some kind → has_parent kind ≡ true
    not_root Mid is = refl
    not_root Leaf is = refl
    not_root Root is =
        let first : c ≡ 0 = lawful.shape.one_root c is in
        let root = lawful.shape.root in
        let none : parent_of tree 0 ≡ None = rw root refl in
        let bad : None ≡ Some o = sym none ∙ sym (ap (parent_of tree) first) ∙ parent in
        cc

    by_node : (found : Option Node) → slice_get tree c ≡ found → (kind : Kind) × (kind_of tree c ≡ Some kind) × (has_parent kind ≡ true)
    by_node None at = let none : parent_of tree c ≡ None = rw at refl in let bad : None ≡ Some o = sym none ∙ parent in cc
    by_node (Some node) at = let kind_is : kind_of tree c ≡ Some node.kind = rw at refl in (node.kind, kind_is, not_root node.kind kind_is)

-- a rule that takes from the parent or sends to it has a parent
low_take : (kind : Kind) (rule : Rule) (id : MsgId) → level_fits kind rule ≡ true → rule.take ≡ take.Parent id → has_parent kind ≡ true
low_take Mid rule id level is = refl
low_take Leaf rule id level is = refl
low_take Root rule id level is = let first = both (not (elim rule.take as (λ t. Bool) [ take.Parent id ↦ true | _ ↦ false ])) _ level in let clash : false ≡ true = rw is at first.0 in cc

low_send : (kind : Kind) (rule : Rule) (id : MsgId) (v : Value) → level_fits kind rule ≡ true → rule.send ≡ send.Parent id v → has_parent kind ≡ true
low_send Mid rule id v level is = refl
low_send Leaf rule id v level is = refl
low_send Root rule id v level is = let parts = both (not (elim rule.take as (λ t. Bool) [ take.Parent id ↦ true | _ ↦ false ])) _ level in let clash : false ≡ true = rw is at parts.1 in cc

module _ (p : Protocol) (tree : Tree) (o : ℕ) (kind : Kind) (rule : Rule) (me : Option ℕ) (lawful : IsLawful tree) (is : kind_of tree o ≡ Some kind) (level : level_fits kind rule ≡ true) (fits : me_fits kind rule.take me (length (children_of tree o)) ≡ true) where
  abbrev at : Place
  at = place_of p tree o kind

  child_queue_there : (k c : ℕ) (l : Lane) → slice_get (children_of tree o) k ≡ Some c → is_edge l ≡ true → has_queue tree (record { object = c; lane = l }) ≡ true
  child_queue_there k c l kid edge =
      let low = child_kind tree lawful o c (at_child tree o k c kid).0 in
      queue_there p tree c low.0 low.1 (record { object = c; lane = l }) (edge_queue low.0 c l low.2 edge)

  leaf_queue : (l : Lane) → list_any (same_queue (record { object = o; lane = l })) (queues_at Leaf o) ≡ true
  leaf_queue lane.UpRequests = rw (same_number o o refl) refl
  leaf_queue lane.UpResponses = rw (same_number o o refl) refl
  leaf_queue lane.Down = rw (same_number o o refl) refl
  leaf_queue lane.Requests = rw (same_number o o refl) refl
  leaf_queue lane.Answers = rw (same_number o o refl) refl

  of_leaf : (l : Lane) → kind ≡ Leaf → has_queue tree (record { object = o; lane = l }) ≡ true
  of_leaf l leaf = queue_there p tree o Leaf (is ∙ ap Some leaf) (record { object = o; lane = l }) (leaf_queue l)

  named_child : (c : ℕ) → nat_lt c (length (children_of tree o)) ≡ true → has_queue tree (requests_of at (Some c)) ≡ true
  named_child c less =
      let kid = at_below (children_of tree o) c (lt_of c (length (children_of tree o)) less) in
      ap (λ n. has_queue tree (record { object = n; lane = lane.UpRequests })) (element_or (children_of tree o) c 0 kid.0 kid.1)
      ∙ child_queue_there c kid.0 lane.UpRequests kid.1 refl
    where
      lt_of : (a b : ℕ) → nat_lt a b ≡ true → a < b
      lt_of a b less = grind arith

  requests_there : (k : Kind) → kind ≡ k → (m : Option ℕ) (id : MsgId) → me_fits k (take.Me id) m (length (children_of tree o)) ≡ true → has_queue tree (requests_of at m) ≡ true
  requests_there Leaf same None id fit = of_leaf lane.Requests same
  requests_there Leaf same (Some c) id fit = cc
  requests_there Root same None id fit = cc
  requests_there Root same (Some c) id fit = named_child c fit
  requests_there Mid same None id fit = cc
  requests_there Mid same (Some c) id fit = named_child c fit

  edge_there : (l : Lane) → has_parent kind ≡ true → is_edge l ≡ true → has_queue tree (record { object = o; lane = l }) ≡ true
  edge_there l low edge = queue_there p tree o kind is (record { object = o; lane = l }) (edge_queue kind o l low edge)

  all_there : AllThere (has_reg p tree) (has_queue tree) (counts_of p (part p kind)) at me rule.take rule.send
  all_there =
      record {
        fields = field_there p tree o kind is;
        value = value_there p tree o kind is;
        locks = lock_there p tree o kind is;
        entries = entry_there p tree o kind is;
        awaited = awaits_there p tree o kind is;
        responses = λ k c kid. child_queue_there k c lane.UpResponses kid refl;
        downs = λ k c kid. child_queue_there k c lane.Down kid refl;
        requests = λ id takes. requests_there kind refl me id (subst (λ t. me_fits kind t me (length (children_of tree o)) ≡ true) takes fits);
        parent = λ id takes. edge_there lane.Down (low_take kind rule id level takes) refl;
        up_requests = λ id v sends. edge_there lane.UpRequests (low_send kind rule id v level sends) refl;
        up_responses = λ id v sends. edge_there lane.UpResponses (low_send kind rule id v level sends) refl;
        answers = of_leaf lane.Answers;
      }

-- a rule that is translated names only what is there
pub rule_there : (p : Protocol) (tree : Tree) (o : ℕ) (kind : Kind) (rule : Rule) (t : TemplateName) (me : Option ℕ) → IsLawful tree → kind_of tree o ≡ Some kind → template_of p kind rule ≡ Ok t → IsTrue (is_rule (counts_of p (part p kind)) rule) → IsTrue (me_fits kind rule.take me (length (children_of tree o))) → rule_known (has_reg p tree) (has_queue tree) (rule_at p (place_of p tree o kind) rule me) ≡ true
rule_there p tree o kind rule t me lawful is has known fits =
    let level = (of_row p kind rule t has).level in
    let names = declared (counts_of p (part p kind)) rule known in
    rule_is_known (has_reg p tree) (has_queue tree) (counts_of p (part p kind)) p (place_of p tree o kind) me rule.take rule.send (all_there p tree o kind rule me lawful is level fits) rule refl refl names.guard names.sets
