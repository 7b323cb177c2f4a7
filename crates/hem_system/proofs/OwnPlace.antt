-- The place of a child among the children.
use Rattle.std.proofs.Common.{◌≡◌, ◌∙◌, refl, sym, ap, ℕ, Bool, true, false, cond, ◌<◌, ◌+◌, ◌≢◌, arith, ⊎_elim, List, length, map, get_or, Option, Some, None}
use Rattle.std.specs.Prelude.{slice_get, option_map}
use Rattle.std.proofs.str.Laws.{order}
use Rattle.std.proofs.lemmas.List.{length-map}
use Rattle.std.proofs.lemmas.Option.{slice_get-map, slice_get-get_or}
use Rattle.hem_base.specs.declared.ids.ObjectId.{ObjectId}
use Rattle.hem_tree.specs.Tree.{Tree, is_child, children_of, place_among}
use Rattle.hem_system.specs.State.{is_own_child, place_of_me}
use Rattle.hem_system.specs.Found.{IsPlace}
use Rattle.hem_system.proofs.Kids.{child_at, at_child}

-- a child by its id and its place
pub child_with_id : (tree : Tree) (o i : ℕ) (ids : List ObjectId) (id : ObjectId) → map (λ id. id.0) ids ≡ children_of tree o → slice_get ids i ≡ Some id → slice_get (children_of tree o) i ≡ Some id.0
child_with_id tree o i ids id all there = ap (λ (ks : List ℕ). slice_get ks i) (sym all) ∙ slice_get-map (λ (id : ObjectId). id.0) ids i ∙ ap (option_map (λ (id : ObjectId). id.0)) there

id_of : (ids : List ObjectId) (i k : ℕ) (found : Option ObjectId) → slice_get ids i ≡ found → option_map (λ id. id.0) found ≡ Some k → (id : ObjectId) × (slice_get ids i ≡ Some id) × (id.0 ≡ k)
id_of ids i k None is at = cc
id_of ids i k (Some id) is at = (id, is, cc)

-- there are as many ids as children
pub child_count : (tree : Tree) (o : ℕ) (ids : List ObjectId) → map (λ id. id.0) ids ≡ children_of tree o → length ids ≡ length (children_of tree o)
child_count tree o ids all = rw length-map at (ap length all)

-- a child that a loop reads
pub child_here : (tree : Tree) (o n : ℕ) (ids : List ObjectId) (d : ObjectId) → map (λ id. id.0) ids ≡ children_of tree o → n < length ids → slice_get (children_of tree o) n ≡ Some (get_or ids n d).0
child_here tree o n ids d all within = child_with_id tree o n ids (get_or ids n d) all (slice_get-get_or ids n d within)

-- a child that is not found is not a child
absent : (tree : Tree) (o k : ℕ) (ids : List ObjectId) (b : Bool) → map (λ id. id.0) ids ≡ children_of tree o → IsPlace ids k None → is_child tree k o ≡ b → b ≡ false
absent tree o k ids true all none is =
    let at = child_at tree o k is in
    let found = id_of ids (place_among tree o k) k (slice_get ids (place_among tree o k)) refl (sym (slice_get-map (λ (id : ObjectId). id.0) ids (place_among tree o k)) ∙ ap (λ (ks : List ℕ). slice_get ks (place_among tree o k)) all ∙ at) in
    absurd (none (place_among tree o k) found.0 found.1 found.2)
absent tree o k ids false all none is = refl

-- the place that was found of a named child, or none
pub own_place-is : (tree : Tree) (o : ℕ) (ids : List ObjectId) (child : ObjectId) (place : Option ℕ) → map (λ id. id.0) ids ≡ children_of tree o → IsPlace ids child.0 place
    → option_map {U = Option ℕ} (λ i. Some i) place ≡ cond (is_own_child tree o (Some child)) (Some (place_of_me tree o (Some child))) None
own_place-is tree o ids child None all is = rw (absent tree o child.0 ids (is_child tree child.0 o) all is refl) refl
own_place-is tree o ids child (Some i) all is =
    let there : slice_get (children_of tree o) i ≡ Some child.0 = child_with_id tree o i ids is.0 all is.1 ∙ ap Some is.2 in
    let it = at_child tree o i child.0 there in
    rw (it.0, it.1) refl

-- one object more is another
pub none_more : (ids : List ObjectId) (k n : ℕ) (d : ObjectId) → n < length ids → (get_or ids n d).0 ≢ k → ((i : ℕ) (id : ObjectId) → i < n → slice_get ids i ≡ Some id → id.0 ≢ k) → (i : ℕ) (id : ObjectId) → i < n + 1 → slice_get ids i ≡ Some id → id.0 ≢ k
none_more ids k n d within other before i id low there =
    ⊎_elim (λ less. before i id less there)
    (λ le.
    let same : i ≡ n = omega arith in
    let both : Some id ≡ Some (get_or ids n d) = sym there ∙ ap (slice_get ids) same ∙ slice_get-get_or ids n d within in
    let it : id ≡ get_or ids n d = cc in
    λ is. other (sym (ap (λ (x : ObjectId). x.0) it) ∙ is))
    (order i n)
