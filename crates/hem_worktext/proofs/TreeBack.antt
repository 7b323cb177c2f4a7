-- The canonical text of a tree reads as that tree.
use Rattle.std.proofs.Common.{◌≡◌, ℕ, zero, suc, ◌+◌, ◌-◌, ◌<◌, Bool, true, false, eqb, List, [], ◌++◌, length, get_or, map, refl, sym, ap, ◌∙◌, subst, arith, Option, Some, None}
use Rattle.std.specs.Prelude.{fold, codes, slice_get, option_map, option_and_then}
use Rattle.std.proofs.lemmas.Bool.{eqb-true, eq-eqb}
use Rattle.std.proofs.lemmas.List.{ext_get_or, length-map}
use Rattle.std.proofs.lemmas.Option.{slice_get-map, slice_get-get_or, get_or_from_slice_get}
use Rattle.hem_base.specs.declared.ids.Kind.{Kind}
use Rattle.hem_base.specs.declared.ids.Kind.TheVariants.{Leaf}
use Rattle.hem_text.specs.declared.text.Place.{Place}
use Rattle.hem_text.specs.Tokens.{advance}
use Rattle.hem_text.specs.Grammars.{state}
use Rattle.hem_tree.specs.declared.raw.RawNode.{RawNode}
use Rattle.hem_tree.specs.Grammar.{grammar, start, nothing as nothing_read}
use Rattle.hem_tree.specs.Raw.{IsRawTree, level_at, tree_of}
use Rattle.hem_tree.specs.Tree.{Tree, Node, below, kind_of, parent_of, level_of, IsLawful}
use Rattle.hem_tree.proofs.Early.{lawful_early}
use Rattle.hem_tree.proofs.Lawful.{get_within, length_tree, level_is, kind_is, parent_by_level}
use Rattle.hem_tree.proofs.Nearest.{is_above, last_is}
use Rattle.hem_tree.proofs.Paths.{level_step}
use Rattle.hem_tree.proofs.TreesOfTokens.{reads_tree}
use Rattle.hem_work.proofs.Tables.{get_map_below, length_map_below}
use Rattle.hem_worktext.specs.TreeText.{level_after, tree_text}
use Rattle.hem_worktext.specs.ReadsBack.{TreeReadsBack}
use Rattle.hem_worktext.proofs.Leads.{Leads, then, feed, part}
use Rattle.hem_worktext.proofs.TreeShape.{root_parent, some_object, lower, under_between}
use Rattle.hem_worktext.proofs.TreeRuns.{plain, plain_at, read, before, is_inner, text_to, read_to, ended}

-- nodes with the kinds and the levels of a lawful tree are that tree
module _ (tree : Tree) (lawful : IsLawful tree) (nodes : List RawNode) (raw : IsRawTree nodes) (are : map plain nodes ≡ map (plain_at tree) (below (length tree))) where
  long : length nodes ≡ length tree
  long = sym (length-map nodes plain) ∙ ap length are ∙ length_map_below (plain_at tree) (length tree)

  record NodeOf (o : ℕ) : Type 0 where
    node : RawNode
    there : slice_get nodes o ≡ Some node
    kind : kind_of tree o ≡ Some node.kind
    level : level_of tree o ≡ node.level

  node_of : (o : ℕ) → o < length tree → NodeOf o
  node_of o lt =
      let here = get_within nodes o (omega (arith, lt, long)) in
      let there : o < length (map (plain_at tree) (below (length tree))) = omega (arith, lt, length_map_below (plain_at tree) (length tree)) in
      let same : Some (plain here.0) ≡ Some (plain_at tree o) =
      ap (option_map plain) (sym here.1)
      ∙ sym (slice_get-map plain nodes o)
      ∙ ap (λ l. slice_get l o) are
      ∙ slice_get-get_or (map (plain_at tree) (below (length tree))) o (None, 0) there
      ∙ ap Some (get_map_below (plain_at tree) (length tree) o (None, 0) lt) in
      let pair : plain here.0 ≡ plain_at tree o = (let e = same in cc) in
      record { node = here.0; there = here.1; kind = sym (ap (λ (q : Option Kind × ℕ). q.0) pair); level = sym (ap (λ (q : Option Kind × ℕ). q.1) pair) }

  level_same : (o : ℕ) → o < length tree → level_at nodes o ≡ level_of tree o
  level_same o lt = let n = node_of o lt in level_is nodes o n.node n.there ∙ sym n.level

  parent_same : (o : ℕ) → o < length tree → parent_of (tree_of nodes) o ≡ parent_of tree o
  parent_same zero lt = parent_by_level nodes raw zero (omega (arith, lt, long)) ∙ sym (root_parent tree lawful)
  parent_same (suc k) lt =
      let o : ℕ = suc k in
      let parent = lawful.shape.parents o (omega arith) lt in
      let m : ℕ = parent.0 in
      let early : m < o = (lawful_early tree lawful.shape).early o m parent.1 in
      let one = level_step tree (lawful_early tree lawful.shape) o m parent.1 in
      let here = level_same o lt in
      let up = level_same m (omega (arith, early, lt)) in
      parent_by_level nodes raw o (omega (arith, lt, long))
      ∙ last_is (is_above (level_at nodes) (level_at nodes o)) o m (record {
        below = early;
        passes = eq-eqb (level_at nodes m + 1) (level_at nodes o) (omega (arith, one, here, up));
        later = λ j low high.
            let under = under_between tree lawful o m j parent.1 low (omega (arith, high)) in
            let deeper = lower tree lawful j m under in
            let level = level_same j (omega (arith, high, lt)) in
            apart (level_at nodes j + 1) (level_at nodes o) (omega (arith, deeper, level, one, here));
      })
      ∙ sym parent.1
    where
      apart : (a b : ℕ) → b < a → eqb a b ≡ false
      apart a b lt = go (eqb a b) refl
        where
          go : (t : Bool) → eqb a b ≡ t → t ≡ false
          go false h = refl
          go true h = absurd (let same = eqb-true a b h in omega (arith, same, lt))

  kind_same : (o : ℕ) → o < length tree → kind_of (tree_of nodes) o ≡ kind_of tree o
  kind_same o lt = let n = node_of o lt in kind_is nodes o n.node n.there ∙ sym n.kind

  pub tree_same : tree_of nodes ≡ tree
  tree_same =
      let size : length (tree_of nodes) ≡ length tree = length_tree nodes ∙ long in
      ext_get_or (record { kind = Leaf; parent = None }) (tree_of nodes) tree size
      (λ o lt. at o (omega (arith, lt, size)) (get_within (tree_of nodes) o lt) (get_within tree o (omega (arith, lt, size))))
    where
      at : (o : ℕ) → o < length tree → ((s : Node) × (slice_get (tree_of nodes) o ≡ Some s)) → ((t : Node) × (slice_get tree o ≡ Some t)) → get_or (tree_of nodes) o (record { kind = Leaf; parent = None }) ≡ get_or tree o (record { kind = Leaf; parent = None })
      at o lt some other =
          let kinds : Some some.0.kind ≡ Some other.0.kind = ap (option_map (λ (n : Node). n.kind)) (sym some.1) ∙ kind_same o lt ∙ ap (option_map (λ (n : Node). n.kind)) other.1 in
          let parents : some.0.parent ≡ other.0.parent = ap (option_and_then (λ (n : Node). n.parent)) (sym some.1) ∙ parent_same o lt ∙ ap (option_and_then (λ (n : Node). n.parent)) other.1 in
          let kind : some.0.kind ≡ other.0.kind = cc in
          get_or_from_slice_get (tree_of nodes) o some.0 (record { kind = Leaf; parent = None }) some.1
          ∙ (λ i. record { kind = kind i; parent = parents i })
          ∙ sym (get_or_from_slice_get tree o other.0 (record { kind = Leaf; parent = None }) other.1)

-- the text of all objects leads to the end
pub tree_back : (tree : Tree) → IsLawful tree → (place : Place) (tail : List ℕ) → TreeReadsBack tree place tail
tree_back tree lawful place tail =
    let some = some_object tree lawful in
    let k : ℕ = length tree - 1 in
    let all : suc k ≡ length tree = omega (arith, some) in
    let objects = read_to tree lawful k (omega (arith, some)) place (codes "\n" ++ tail) in
    let end = ended tree lawful k all in
    let leads : Leads grammar place (text_to tree (length tree)) (codes "\n" ++ tail) (state nothing_read start) (state (read objects.nodes 1) []) =
    subst (λ s. Leads grammar place (text_to tree (length tree)) (codes "\n" ++ tail) (state nothing_read start) s) (λ i. state (read objects.nodes (end.0 i)) (before (end.1 i) (end.0 i - 1)))
    (subst (λ n. Leads grammar place (text_to tree n) (codes "\n" ++ tail) (state nothing_read start) (state (read objects.nodes (level_after tree k)) (before (is_inner tree k) (level_after tree k - 1)))) all objects.leads) in
    let whole : Leads grammar place (tree_text tree) tail (state nothing_read start) (state (read objects.nodes 1) []) =
    then grammar place (text_to tree (length tree)) (codes "\n") tail _ _ _ leads (feed grammar (fold advance place (text_to tree (length tree))) tail (state (read objects.nodes 1) [])) in
    let reads = reads_tree _ _ nothing_read (read objects.nodes 1) start refl refl (part grammar place (tree_text tree) tail (state nothing_read start) (read objects.nodes 1) whole) in
    record {
      nodes = objects.nodes;
      reads = reads;
      says = tree_same tree lawful objects.nodes reads.tree (objects.are ∙ ap (λ n. map (plain_at tree) (below n)) all);
    }
