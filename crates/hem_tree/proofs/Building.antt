-- The objects of a tree, as far as they are made.
use Rattle.std.proofs.Common.{◌≡◌, ℕ, zero, suc, ◌+◌, ◌<◌, ◌≤◌, Bool, true, false, List, [], ◌∷◌, ◌++◌, length, get_or, refl, sym, ap, ◌∙◌, subst, arith, Option, None, Some, ⊎_elim}
use Rattle.std.specs.Prelude.{map, filter, count_by, slice_get}
use Rattle.std.proofs.str.Laws.{order}
use Rattle.std.proofs.lemmas.List.{map-append, length_push}
use Rattle.std.proofs.lemmas.List.Elements.{filter-append, filter_agree}
use Rattle.std.proofs.lemmas.Option.{slice_get-get_or, slice_get_past, slice_get_within, slice_get-map}
use Rattle.hem_base.specs.declared.ids.ObjectId.{ObjectId}
use Rattle.hem_tree.specs.declared.setup.SetupCause.{SetupCause}
use Rattle.hem_tree.specs.declared.raw.RawNode.{RawNode}
use Rattle.hem_tree.specs.declared.objects.Object.{Object}
use Rattle.hem_tree.specs.Limits.{most_objects}
use Rattle.hem_tree.specs.Tree.{Tree, Node, IsLawful, below, is_number, is_child, parent_of, level_of}
use Rattle.hem_tree.specs.Raw.{IsRawTree, parent_in, tree_of}
use Rattle.hem_tree.specs.Building.{elders_of, limit_passed, passed_at, IsFirstPassed, IsTreeFault}
use Rattle.hem_tree.specs.Objects.{number_of, number_at, elders_in, AreParents, node_of, described, IsObjectOf, IsMade}
use Rattle.hem_tree.proofs.Lawful.{get_tree, one_if, count_more, count_same, get_within, length_tree, parent_at, parent_past, level_is, level_of_node}
use Rattle.hem_tree.proofs.Refused.{within_at, elders_at, elders_none, lawful, unlawful}
use Rattle.hem_tree.proofs.TreesOfTokens.{get_push}

-- whether an object is a child of high
abbrev is_under : List (Option ObjectId) → ℕ → ℕ → Bool
is_under parents high k = is_number (number_at parents k) high

under_at : (parents : List (Option ObjectId)) (high k : ℕ) (b : Bool) → k < length parents → b ≡ is_number (number_of (get_or parents k None)) high → is_under parents high k ≡ b
under_at parents high k b lt h = rw (slice_get-get_or parents k None lt) (sym h)

-- one more object counted
pub count_step : (parents : List (Option ObjectId)) (high k n m : ℕ) (b : Bool) → k < length parents → b ≡ is_number (number_of (get_or parents k None)) high
    → n ≡ count_by (is_under parents high) (below k) → m ≡ n + one_if b → m ≡ count_by (is_under parents high) (below (k + 1))
count_step parents high k n m b lt h so_far more =
    let next : k + 1 ≡ suc k = omega arith in
    let c = count_more (is_under parents high) k in
    let one = ap one_if (under_at parents high k b lt h) in
    let e : count_by (is_under parents high) (below (k + 1)) ≡ count_by (is_under parents high) (below (suc k)) = ap (λ i. count_by (is_under parents high) (below i)) next in
    omega arith

-- the child, where it is one
abbrev pub child_if : Bool → ℕ → List ObjectId
child_if true k = record { 0 = k } ∷ []
child_if false k = []

abbrev pub numbers : List ObjectId → List ℕ
numbers ids = map (λ id. id.0) ids

kept_one : (test : ℕ → Bool) (k : ℕ) (b : Bool) → test k ≡ b → filter test (k ∷ []) ≡ numbers (child_if b k)
kept_one test k true h = rw h refl
kept_one test k false h = rw h refl

-- one more child found
pub children_step : (parents : List (Option ObjectId)) (high k : ℕ) (cs ds : List ObjectId) (b : Bool) → k < length parents → b ≡ is_number (number_of (get_or parents k None)) high
    → numbers cs ≡ filter (is_under parents high) (below k) → ds ≡ cs ++ child_if b k → numbers ds ≡ filter (is_under parents high) (below (k + 1))
children_step parents high k cs ds b lt h so_far more =
    let next : k + 1 ≡ suc k = omega arith in
    ap numbers more ∙ map-append (λ (id : ObjectId). id.0) cs (child_if b k)
    ∙ ap (λ l. l ++ numbers (child_if b k)) so_far
    ∙ ap (λ l. filter (is_under parents high) (below k) ++ l) (sym (kept_one (is_under parents high) k b (under_at parents high k b lt h)))
    ∙ sym (filter-append (is_under parents high) (below k) (k ∷ []))
    ∙ ap (λ i. filter (is_under parents high) (below i)) (sym next)

-- the parents of the first k nodes, none of which passes a limit
pub record ParentsSoFar (nodes : List RawNode) (k : ℕ) (parents : List (Option ObjectId)) : Type 0 where
  pub long : length parents ≡ k
  pub few : k ≤ most_objects
  pub each : (j : ℕ) → j < k → number_at parents j ≡ parent_of (tree_of nodes) j
  pub none_passed : (j : ℕ) → j < k → passed_at (tree_of nodes) j ≡ None

number_push : (parents : List (Option ObjectId)) (p : Option ObjectId) (j : ℕ) → j < length parents → number_at (parents ++ p ∷ []) j ≡ number_at parents j
number_push [] p j lt = absurd (omega arith)
number_push (q ∷ qs) p zero lt = refl
number_push (q ∷ qs) p (suc j) lt = number_push qs p j (omega arith)

number_last : (parents : List (Option ObjectId)) (p : Option ObjectId) → number_at (parents ++ p ∷ []) (length parents) ≡ number_of p
number_last [] p = refl
number_last (q ∷ qs) p = number_last qs p

module _ (nodes : List RawNode) (raw : IsRawTree nodes) (k : ℕ) (parents : List (Option ObjectId)) (so_far : ParentsSoFar nodes k parents) (n : RawNode) (here : slice_get nodes k ≡ Some n) (lt : k < length nodes)
    (parent : Option ObjectId) (nearest : number_of parent ≡ parent_in nodes k n.level) where
  parent_found : number_of parent ≡ parent_of (tree_of nodes) k
  parent_found = nearest ∙ sym (parent_at nodes k n here)

  elders : elders_in parents parent ≡ elders_of (tree_of nodes) k
  elders = go parent parent_found
    where
      go : (p : Option ObjectId) → number_of p ≡ parent_of (tree_of nodes) k → elders_in parents p ≡ elders_of (tree_of nodes) k
      go None e = sym (elders_none (tree_of nodes) k (sym e))
      go (Some high) e =
          let long : below (length parents) ≡ below k = ap below so_far.long in
          ap (λ l. count_by (is_under parents high.0) l) long
          ∙ count_same (is_under parents high.0) (λ j. is_child (tree_of nodes) j high.0) k (λ j less. ap (λ o. is_number o high.0) (so_far.each j less))
          ∙ sym (elders_at (tree_of nodes) k high.0 (sym e))

  -- the limit that the next node passes
  pub passed_here : limit_passed (length parents) (elders_in parents parent) n.level ≡ passed_at (tree_of nodes) k
  passed_here =
      let level : n.level ≡ level_of (tree_of nodes) k = sym (level_is nodes k n here) ∙ sym (level_of_node nodes raw k lt) in
      rw (so_far.long, elders, level) refl

  pub fault_here : (cause : SetupCause) → limit_passed (length parents) (elders_in parents parent) n.level ≡ Some cause → IsTreeFault nodes (record { place = n.place; cause = cause })
  fault_here cause h =
      let first : IsFirstPassed (tree_of nodes) k cause = record { within = omega (arith, length_tree nodes); here = sym passed_here ∙ h; before = so_far.none_passed } in
      record { place = k; node = n; there = here; at_node = refl; first = first; unlawful = unlawful nodes raw k cause first }

  pub parents_more : (more : List (Option ObjectId)) → limit_passed (length parents) (elders_in parents parent) n.level ≡ None → more ≡ parents ++ parent ∷ [] → ParentsSoFar nodes (k + 1) more
  parents_more more none is = rw is (record {
    long = length_push parents parent ∙ (let l = so_far.long in omega arith);
    few = let w = within_at (tree_of nodes) k (sym passed_here ∙ none) in omega (arith, w.objects);
    each = each;
    none_passed = λ j less. ⊎_elim (λ low. so_far.none_passed j low) (λ ge. let same : k ≡ j = omega arith in ap (passed_at (tree_of nodes)) (sym same) ∙ sym passed_here ∙ none) (order j k);
  })
    where
      each : (j : ℕ) → j < k + 1 → number_at (parents ++ parent ∷ []) j ≡ parent_of (tree_of nodes) j
      each j less =
          ⊎_elim
          (λ low. number_push parents parent j (omega (arith, so_far.long)) ∙ so_far.each j low)
          (λ ge. let same : j ≡ length parents = omega (arith, so_far.long) in let same' : k ≡ j = omega arith in ap (number_at (parents ++ parent ∷ [])) same ∙ number_last parents parent ∙ parent_found ∙ ap (parent_of (tree_of nodes)) same')
          (order j k)

pub no_parents : (nodes : List RawNode) → ParentsSoFar nodes 0 []
no_parents nodes = record {
  long = refl;
  few = omega arith;
  each = λ j lt. absurd (omega arith);
  none_passed = λ j lt. absurd (omega arith);
}

pub all_parents : (nodes : List RawNode) (k : ℕ) (parents : List (Option ObjectId)) → length nodes ≤ k → k ≤ length nodes → ParentsSoFar nodes k parents → AreParents (tree_of nodes) parents
all_parents nodes k parents end within so_far = record {
  all = omega (arith, so_far.long, length_tree nodes);
  few = omega (arith, so_far.few, length_tree nodes);
  each = λ j. ⊎_elim (λ lt. so_far.each j lt) (λ ge. past j ge) (order j k);
  none_passed = λ j lt. so_far.none_passed j (omega (arith, length_tree nodes));
}
  where
    past : (j : ℕ) → k ≤ j → number_at parents j ≡ parent_of (tree_of nodes) j
    past j ge = rw (slice_get_past parents j (omega (arith, so_far.long))) (sym (parent_past nodes j (omega arith)))

-- what is kept of the first k objects
pub record ObjectsSoFar (tree : Tree) (k : ℕ) (objects : List Object) : Type 0 where
  pub long : length objects ≡ k
  pub each : (j : ℕ) (o : Object) → slice_get objects j ≡ Some o → IsObjectOf tree j o

pub no_objects : (tree : Tree) → ObjectsSoFar tree 0 []
no_objects tree = record { long = refl; each = λ j o h. absurd cc }

pub objects_more : (tree : Tree) (k : ℕ) (objects more : List Object) (o : Object) → ObjectsSoFar tree k objects → IsObjectOf tree k o → more ≡ objects ++ o ∷ [] → ObjectsSoFar tree (k + 1) more
objects_more tree k objects more o so_far last is = rw is (record {
  long = length_push objects o ∙ (let l = so_far.long in omega arith);
  each = λ j p h. ⊎_elim (λ a. so_far.each j p a.1) (λ b. let same : k ≡ j = omega (arith, b.0, so_far.long) in subst (λ q. IsObjectOf tree j q) b.1 (subst (λ i. IsObjectOf tree i o) same last)) (get_push objects o j p h);
})

pub object_made : (nodes : List RawNode) (raw : IsRawTree nodes) (k : ℕ) (n : RawNode) (here : slice_get nodes k ≡ Some n) (parents : List (Option ObjectId)) (are : AreParents (tree_of nodes) parents) (parent : Option ObjectId) (children : List ObjectId)
    → slice_get parents k ≡ Some parent → numbers children ≡ filter (is_under parents k) (below (length parents))
    → IsObjectOf (tree_of nodes) k (record { kind = n.kind; parent = parent; depth = n.level; children = children })
object_made nodes raw k n here parents are parent children there found = record {
  node = get_tree nodes k ∙ rw here (ap (λ p. Some (node p)) above);
  depth = sym (level_is nodes k n here) ∙ sym (level_of_node nodes raw k (slice_get_within nodes k n here));
  children = found ∙ ap (λ i. filter (is_under parents k) (below i)) are.all ∙ filter_agree (is_under parents k) (λ j. is_child (tree_of nodes) j k) (λ j. ap (λ o. is_number o k) (are.each j)) (below (length (tree_of nodes)));
}
  where
    node : Option ℕ → Node
    node p = record { kind = n.kind; parent = p }

    above : parent_in nodes k n.level ≡ number_of parent
    above = sym (parent_at nodes k n here) ∙ sym (are.each k) ∙ rw there refl

same_gets : {X : Type 0} (xs ys : List X) → ((k : ℕ) → slice_get xs k ≡ slice_get ys k) → xs ≡ ys
same_gets [] [] same = refl
same_gets [] (y ∷ ys) same = absurd (let e = same 0 in cc)
same_gets (x ∷ xs) [] same = absurd (let e = same 0 in cc)
same_gets (x ∷ xs) (y ∷ ys) same = let head : x ≡ y = let e = same 0 in cc in let rest = same_gets xs ys (λ k. same (suc k)) in cc

described_is : (tree : Tree) (objects : List Object) → ObjectsSoFar tree (length tree) objects → described objects ≡ tree
described_is tree objects so_far = same_gets (described objects) tree (λ k. ⊎_elim (there k) (past k) (order k (length tree)))
  where
    there : (k : ℕ) → k < length tree → slice_get (described objects) k ≡ slice_get tree k
    there k lt = let o = get_within objects k (omega (arith, so_far.long)) in slice_get-map node_of objects k ∙ rw o.1 (sym (so_far.each k o.0 o.1).node)

    past : (k : ℕ) → length tree ≤ k → slice_get (described objects) k ≡ slice_get tree k
    past k le = slice_get-map node_of objects k ∙ rw (slice_get_past objects k (omega (arith, so_far.long)), slice_get_past tree k le) refl

pub lawful_tree : (nodes : List RawNode) (raw : IsRawTree nodes) (parents : List (Option ObjectId)) → AreParents (tree_of nodes) parents → IsLawful (tree_of nodes)
lawful_tree nodes raw parents are = lawful nodes raw (λ j lt. are.none_passed j (omega (arith, length_tree nodes)))

pub all_made : (nodes : List RawNode) (raw : IsRawTree nodes) (parents : List (Option ObjectId)) → AreParents (tree_of nodes) parents → (k : ℕ) (objects : List Object) → length nodes ≤ k → k ≤ length nodes → ObjectsSoFar (tree_of nodes) k objects
    → IsMade (tree_of nodes) objects
all_made nodes raw parents are k objects end within so_far =
    let same : k ≡ length (tree_of nodes) = omega (arith, length_tree nodes) in
    let all = subst (λ i. ObjectsSoFar (tree_of nodes) i objects) same so_far in
    let e = described_is (tree_of nodes) objects all in
    record {
      described = e;
      kept = record {
        lawful = subst IsLawful (sym e) (lawful_tree nodes raw parents are);
        each = λ j o h. subst (λ t. IsObjectOf t j o) (sym e) (all.each j o h);
      };
    }
