-- The state at the start, object by object and line by line.
use Rattle.std.proofs.Common.{◌≡◌, ◌∙◌, refl, sym, ap, ℕ, ◌+◌, ◌<◌, arith, List, [], ◌∷◌, ◌++◌, length, take, map, Some, None, Option, get_or, add-one, add-zero, zero-add}
use Rattle.std.specs.Prelude.{slice_get, option_map}
use Rattle.std.proofs.lemmas.List.{take_more, map-append, length-take-le}
use Rattle.std.proofs.lemmas.Option.{slice_get-get_or}
use Rattle.hem_base.specs.declared.ids.Kind.{Kind}
use Rattle.hem_base.specs.declared.ids.Kind.TheVariants.{Root}
use Rattle.hem_base.specs.declared.ids.Message.{Message}
use Rattle.hem_syntax.specs.Protocol.{Protocol}
use Rattle.hem_object.specs.Local.{Local}
use Rattle.hem_object.specs.Start.{first_local}
use Rattle.hem_tree.specs.Tree.{Tree, Node, kind_of, children_of, below}
use Rattle.hem_system.specs.declared.cell.Cell.{Cell as Kept}
use Rattle.hem_system.specs.State.{Cell, Line, map_each, first_cell, first_line}
use Rattle.hem_system.specs.Cells.{seen, line_of, state_of, quiet_cell}

-- an object at the start, by its node
by_node : (p : Protocol) (tree : Tree) (requests : ℕ → List Message) (o : ℕ) (kind : Kind) (node : Option Node) → option_map (λ node. node.kind) node ≡ Some kind → option_map (first_cell p tree requests o) node ≡ Some (quiet_cell (first_local p kind (length (children_of tree o))) (requests o))
by_node p tree requests o kind None is = cc
by_node p tree requests o kind (Some node) is = let same : node.kind ≡ kind = cc is in ap (λ (k : Kind). Some (quiet_cell (first_local p k (length (children_of tree o))) (requests o))) same

-- an object at the start, of its parts
pub first_cell-is : (p : Protocol) (tree : Tree) (requests : ℕ → List Message) (o children : ℕ) (kind : Kind) (local : Local) (asked : List Message) (cell : Kept) → kind_of tree o ≡ Some kind → children ≡ length (children_of tree o) → local ≡ first_local p kind children → asked ≡ requests o → seen cell ≡ quiet_cell local asked → option_map (first_cell p tree requests o) (slice_get tree o) ≡ Some (seen cell)
first_cell-is p tree requests o children kind local asked cell kind_is children_is local_is asked_is cell_is =
    by_node p tree requests o kind (slice_get tree o) kind_is
    ∙ ap (λ (n : ℕ). Some (quiet_cell (first_local p kind n) (requests o))) (sym children_is)
    ∙ ap (λ (l : Local). Some (quiet_cell l (requests o))) (sym local_is)
    ∙ ap (λ (ms : List Message). Some (quiet_cell local ms)) (sym asked_is)
    ∙ ap Some (sym cell_is)

-- a change of each element of a longer list
pub map_each-snoc : {A B : Type 0} (f : ℕ → A → B) (k : ℕ) (xs : List A) (x : A) → map_each f k (xs ++ x ∷ []) ≡ map_each f k xs ++ f (k + length xs) x ∷ []
map_each-snoc f k [] x = rw add-zero refl
map_each-snoc f k (y ∷ xs) x =
    let e : (k + 1) + length xs ≡ k + length (y ∷ xs) = omega arith in
    rw (map_each-snoc f (k + 1) xs x, e) refl

-- one object more at the start
pub first_line-more : (p : Protocol) (tree : Tree) (requests : ℕ → List Message) (o : ℕ) (old new : List Kept) (cell : Kept) → o < length tree → line_of old ≡ map_each (first_cell p tree requests) 0 (take o tree) → option_map (first_cell p tree requests o) (slice_get tree o) ≡ Some (seen cell) → new ≡ old ++ cell ∷ [] → line_of new ≡ map_each (first_cell p tree requests) 0 (take (o + 1) tree)
first_line-more p tree requests o old new cell within so_far first is =
    let f = first_cell p tree requests in
    let node : Node = record { kind = Root; parent = None } in
    let x = get_or tree o node in
    let there : slice_get tree o ≡ Some x = slice_get-get_or tree o node within in
    let both : Some (f o x) ≡ Some (seen cell) = rw there at first in
    let same : f o x ≡ seen cell = cc in
    let size : 0 + length (take o tree) ≡ o = zero-add (length (take o tree)) ∙ length-take-le o tree (omega arith) in
    ap line_of is
    ∙ map-append seen old (cell ∷ [])
    ∙ ap (λ (line : Line). line ++ seen cell ∷ []) so_far
    ∙ ap (λ (c : Cell). map_each f 0 (take o tree) ++ c ∷ []) (sym same ∙ ap (λ (n : ℕ). f n x) (sym size))
    ∙ sym (ap (map_each f 0) (take_more tree o node within) ∙ map_each-snoc f 0 (take o tree) x)

-- one line more at the start
pub first_lines-more : (p : Protocol) (tree : Tree) (requests : ℕ → ℕ → List Message) (n : ℕ) (old new : List (List Kept)) (cells : List Kept) → state_of old ≡ map (λ l. first_line p tree (requests l)) (below n) → line_of cells ≡ first_line p tree (requests n) → new ≡ old ++ cells ∷ [] → state_of new ≡ map (λ l. first_line p tree (requests l)) (below (n + 1))
first_lines-more p tree requests n old new cells so_far first is =
    let g = λ (l : ℕ). first_line p tree (requests l) in
    ap state_of is ∙ map-append line_of old (cells ∷ []) ∙ ap (λ (s : List Line). s ++ line_of cells ∷ []) so_far ∙ ap (λ (l : Line). map g (below n) ++ l ∷ []) first ∙ sym (rw add-one (map-append g (below n) (n ∷ [])))
