-- What is read of a line of a state.
use Rattle.std.proofs.Common.{◌≡◌, refl, ap, sym, ◌∙◌, ℕ, zero, suc, ◌<◌, ◌≤◌, arith, Bool, true, false, List, [], ◌∷◌, length, map, Option, Some, None, Result, Ok, Err, IfOk}
use Rattle.std.specs.Prelude.{◌==◌, nat_lt, slice_get, slice_index_or, option_map, option_and_then, position, filter, cond}
use Rattle.std.specs.List.{position_or_len}
use Rattle.std.specs.Option.{option_map_or}
use Rattle.std.proofs.lemmas.Bool.{eqb-true}
use Rattle.std.proofs.lemmas.Option.{slice_get-map, slice_get_within, slice_get-get_or, slice_get_past}
use Rattle.hem_base.specs.declared.ids.ObjectId.{ObjectId}
use Rattle.hem_base.specs.declared.ids.Message.{Message}
use Rattle.hem_object.specs.Local.{Local}
use Rattle.hem_tree.specs.Tree.{Tree, Node, IsTree, IsLawful, below, is_number, is_child, parent_of, children_of, place_among}
use Rattle.hem_tree.proofs.Early.{lawful_early}
use Rattle.hem_tree.proofs.Lawful.{is_number_true}
use Rattle.hem_system.specs.declared.lane.Lane.{Lane}
use Rattle.hem_system.specs.State.{Cell, Line, State, list_of, cell_at, local_at, list_at}
use Rattle.hem_system.proofs.Kids.{child_at, at_child}
use Rattle.hem_module.specs.States.{State as Held}
use Rattle.hem_translate.specs.Lines.{line_at}

-- the number of the child at a place
pub number_there : (ids : List ObjectId) (k : ℕ) → option_map_or (λ id. id.0) (slice_get ids k) 0 ≡ slice_index_or (map (λ id. id.0) ids) k 0
number_there [] k = refl
number_there (id ∷ ids) zero = refl
number_there (id ∷ ids) (suc k) = number_there ids k

-- the first that passes stands where the only one that passes does
only_place : {A : Type 0} (test : A → Bool) (xs : List A) (i : ℕ) (x : A) → slice_get xs i ≡ Some x → test x ≡ true → ((j : ℕ) (y : A) → slice_get xs j ≡ Some y → test y ≡ true → j ≡ i) → position_or_len test xs ≡ i
only_place test [] i x at passes only = cc
only_place test (y ∷ ys) zero x at passes only = let same : y ≡ x = cc in rw (same, passes) refl
only_place test (y ∷ ys) (suc i) x at passes only =
    by_first (test y) refl (only_place test ys i x at passes (λ j z at_z is_z. let e = only (suc j) z at_z is_z in omega (arith, e)))
  where
    by_first : (b : Bool) → test y ≡ b → position_or_len test ys ≡ i → position_or_len test (y ∷ ys) ≡ suc i
    by_first true is rest = let e = only 0 y refl is in absurd (omega (arith, e))
    by_first false is rest = rw (is, rest) (omega arith)

same_is : (a b : ℕ) → a ≡ b → (a == b) ≡ true
same_is a b same = grind arith

lt_is : (a b : ℕ) → a < b → nat_lt a b ≡ true
lt_is a b less = grind arith

kid_at : (ids : List ObjectId) (xs : List ℕ) (j : ℕ) → map (λ id. id.0) ids ≡ xs → option_map (λ (id : ObjectId). id.0) (slice_get ids j) ≡ slice_get xs j
kid_at ids xs j are = sym (slice_get-map (λ (id : ObjectId). id.0) ids j) ∙ ap (λ (xs : List ℕ). slice_get xs j) are

found_by : (tree : Tree) (high c k : ℕ) (ids : List ObjectId) → map (λ id. id.0) ids ≡ children_of tree high → slice_get (children_of tree high) k ≡ Some c → place_among tree high c ≡ k → (found : Option ObjectId) → slice_get ids k ≡ found → position (λ id. id.0 == c) ids ≡ Some k
found_by tree high c k ids are there place None is = let none : None ≡ Some c = sym (ap (option_map (λ (id : ObjectId). id.0)) is) ∙ kid_at ids (children_of tree high) k are ∙ there in cc
found_by tree high c k ids are there place (Some id) is =
    let number : Some id.0 ≡ Some c = sym (ap (option_map (λ (id : ObjectId). id.0)) is) ∙ kid_at ids (children_of tree high) k are ∙ there in
    let here : id.0 ≡ c = cc number in
    let first = only_place (λ (id : ObjectId). id.0 == c) ids k id is (same_is id.0 c here) (λ j y at passes. sym (at_child tree high j c (sym (kid_at ids (children_of tree high) j are) ∙ ap (option_map (λ (id : ObjectId). id.0)) at ∙ ap Some (eqb-true y.0 c passes))).1 ∙ place) in
    let within = lt_is k (length ids) (slice_get_within ids k id is) in
    rw (first, within) refl

-- a child is found at its place among the children
pub place_found : (tree : Tree) (high c : ℕ) (ids : List ObjectId) → map (λ id. id.0) ids ≡ children_of tree high → is_child tree c high ≡ true → position (λ id. id.0 == c) ids ≡ Some (place_among tree high c)
place_found tree high c ids are child = found_by tree high c (place_among tree high c) ids are (child_at tree high c child) refl (slice_get ids (place_among tree high c)) refl

-- an object of a line of a state
cell_there : (s : State) (l o : ℕ) → l < length s → cell_at s l o ≡ slice_get (line_at s l) o
cell_there s l o less = ap (λ (line : Option Line). option_and_then (λ line. slice_get line o) line) (slice_get-get_or s l [] less)

pub local_there : (s : State) (l o : ℕ) (local : Local) → l < length s → option_map (λ cell. cell.local) (cell_at s l o) ≡ Some local → Some local ≡ local_at (line_at s l) o
local_there s l o local less at = sym at ∙ ap (option_map (λ (cell : Cell). cell.local)) (cell_there s l o less)

pub no_local : (line : Line) (o : ℕ) → length line ≤ o → None ≡ local_at line o
no_local line o past = sym (ap (option_map (λ (cell : Cell). cell.local)) (slice_get_past line o past))

pub list_there : (s : State) (l o : ℕ) (lane : Lane) (messages : List Message) → l < length s → option_map (λ cell. list_of cell lane) (cell_at s l o) ≡ Some messages → messages ≡ list_at (line_at s l) o lane
list_there s l o lane messages less at =
    ap (λ (m : Option (List Message)). option_map_or (λ m. m) m []) (sym at ∙ ap (option_map (λ (cell : Cell). list_of cell lane)) (cell_there s l o less))
    ∙ by_cell (slice_get (line_at s l) o)
  where
    by_cell : (cell : Option Cell) → option_map_or (λ m. m) (option_map (λ cell. list_of cell lane) cell) [] ≡ option_map_or (λ cell. list_of cell lane) cell []
    by_cell None = refl
    by_cell (Some cell) = refl

pub no_list : (line : Line) (o : ℕ) (lane : Lane) → length line ≤ o → [] ≡ list_at line o lane
no_list line o lane past = sym (ap (λ (cell : Option Cell). option_map_or (λ cell. list_of cell lane) cell []) (slice_get_past line o past))

-- a parent and its child are objects of the tree, and the parent comes first
child_within : (tree : Tree) (c o : ℕ) → IsTree tree → is_child tree c o ≡ true → o < length tree
child_within tree c o law child = by_node (slice_get tree c) refl
  where
    above : parent_of tree c ≡ Some o
    above = is_number_true (parent_of tree c) o child

    by_node : (node : Option Node) → slice_get tree c ≡ node → o < length tree
    by_node None is = let none : None ≡ Some o = sym (ap (option_and_then (λ (node : Node). node.parent)) is) ∙ above in cc
    by_node (Some node) is = let before = (lawful_early tree law).early c o above in let within = slice_get_within tree c node is in omega (arith, before, within)

-- where none passes none is left
none_pass : (test : ℕ → Bool) (xs : List ℕ) → ((k : ℕ) → test k ≡ true → ⊥) → [] ≡ filter test xs
none_pass test [] none = refl
none_pass test (x ∷ xs) none = by_first (test x) refl (none_pass test xs none)
  where
    by_first : (b : Bool) → test x ≡ b → [] ≡ filter test xs → [] ≡ cond b (x ∷ filter test xs) (filter test xs)
    by_first true is rest = absurd (none x is)
    by_first false is rest = rest

-- what is no object of the tree has no children
pub no_children : (tree : Tree) (o : ℕ) → IsLawful tree → length tree ≤ o → [] ≡ children_of tree o
no_children tree o lawful past = none_pass (λ k. is_child tree k o) (below (length tree)) (λ k child. let within = child_within tree k o lawful.shape child in omega (arith, within, past))

-- a parent has the child
pub child_of : (tree : Tree) (c : ℕ) (high : ObjectId) → option_map (λ id. id.0) (Some high) ≡ parent_of tree c → is_child tree c high.0 ≡ true
child_of tree c high is = ap (λ (parent : Option ℕ). is_number parent high.0) (sym is) ∙ same_is high.0 high.0 refl

-- a state by its parts
pub parts_are : {E : Type 0} (r : Result Held E) (xs us : List ℕ) (ys vs : List (List Message)) → IfOk r (λ m. m.regs ≡ xs) → IfOk r (λ m. m.queues ≡ ys) → xs ≡ us → ys ≡ vs → IfOk r (λ m. m ≡ record { regs = us; queues = vs })
parts_are (Ok m) xs us ys vs regs queues one other = let first = regs ∙ one in let rest = queues ∙ other in λ i. record { regs = first i; queues = rest i }
parts_are (Err e) xs us ys vs regs queues one other = tt
