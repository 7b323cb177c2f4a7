-- At the start each object's local state is one that its kind may have.
use Rattle.std.proofs.Common.{◌≡◌, ◌≢◌, refl, ap, sym, ◌∙◌, subst, ℕ, zero, suc, ◌+◌, ◌<◌, true, false, List, [], ◌∷◌, length, map, arith, ltb-true, Option, Some, None}
use Rattle.std.specs.Prelude.{nat_lt, slice_get, option_map, replicate}
use Rattle.std.specs.List.{list_all}
use Rattle.std.specs.Option.{option_map_or}
use Rattle.std.proofs.lemmas.List.{length-map}
use Rattle.std.proofs.lemmas.Option.{slice_get-map, slice_get_within}
use Rattle.hem_base.specs.declared.ids.Message.{Message}
use Rattle.hem_base.specs.declared.ids.Status8.{Status8}
use Rattle.hem_base.specs.declared.ids.Kind.{Kind}
use Rattle.hem_base.specs.declared.ids.Kind.TheVariants.{Root, Mid, Leaf}
use Rattle.hem_syntax.specs.Protocol.{Protocol, Text}
use Rattle.hem_object.specs.Local.{Local, IsStatus}
use Rattle.hem_syntax.specs.Lawful.{IsProtocol}
use Rattle.hem_tree.specs.Tree.{Tree, Node, below, kind_of, children_of, IsTree}
use Rattle.hem_work.specs.Work.{Work, requests_of}
use Rattle.hem_object.specs.Start.{first_local}
use Rattle.hem_system.specs.State.{Line, Cell, local_at, first_cell, first_line, start}
use Rattle.hem_trace.specs.Blocks.{Each}
use Rattle.hem_abstract.specs.Stable.{IsOfKind}
use Rattle.hem_law.specs.Kinds.{AreOfKinds}
use Rattle.hem_rows.proofs.Choices.{both, if_mapped}
use Rattle.hem_system.proofs.Own.{slice_get-map_each}

-- the statuses at the start are declared
starts-declared : (p : Protocol) (fields : List (Text × Status8)) → list_all (λ (f : Text × Status8). nat_lt f.1.0 (length p.statuses)) fields ≡ true → Each (IsStatus p) (map (λ (f : Text × Status8). f.1) fields)
starts-declared p [] all = tt
starts-declared p (f ∷ fields) all =
    let parts = both (nat_lt f.1.0 (length p.statuses)) (list_all (λ (f : Text × Status8). nat_lt f.1.0 (length p.statuses)) fields) all in
    (ltb-true f.1.0 (length p.statuses) parts.0, starts-declared p fields parts.1)

each-same : (P : Status8 → Type 0) (n : ℕ) (s : Status8) → P s → Each P (replicate n s)
each-same P zero s it = tt
each-same P (suc n) s it = (it, each-same P n s it)

some-same : (n : ℕ) (s : Status8) → n ≢ 0 → replicate n s ≢ []
some-same zero s some none = some refl
some-same (suc n) s some none = cc

-- a directory at the start
dir-declared : (p : Protocol) (n : ℕ) (dir : Option Status8) → option_map_or (λ (s : Status8). nat_lt s.0 (length p.statuses)) dir false ≡ true → Each (IsStatus p) (option_map_or (λ s. replicate n s) dir [])
dir-declared p n None has = cc
dir-declared p n (Some s) has = each-same (IsStatus p) n s (ltb-true s.0 (length p.statuses) has)

dir-some : (p : Protocol) (n : ℕ) (dir : Option Status8) → option_map_or (λ (s : Status8). nat_lt s.0 (length p.statuses)) dir false ≡ true → n ≢ 0 → option_map_or (λ s. replicate n s) dir [] ≢ []
dir-some p n None has some = cc
dir-some p n (Some s) has some = some-same n s some

first-of : (p : Protocol) (kind : Kind) (n : ℕ) → IsProtocol p → (kind ≢ Leaf → n ≢ 0) → IsOfKind p kind (first_local p kind n)
first-of p Root n lawful some =
    record {
      field_count = length-map p.root.fields (λ f. f.1);
      fields = starts-declared p p.root.fields lawful.root.starts;
      dir = dir-declared p n p.root.dir lawful.root_dir;
      leaf = λ is. cc;
      inner = λ other. dir-some p n p.root.dir lawful.root_dir (some other);
      few = (let few = lawful.few_statuses in omega arith);
    }
first-of p Mid n lawful some =
    record {
      field_count = length-map p.mid.fields (λ f. f.1);
      fields = starts-declared p p.mid.fields lawful.mid.starts;
      dir = dir-declared p n p.mid.dir lawful.mid_dir;
      leaf = λ is. cc;
      inner = λ other. dir-some p n p.mid.dir lawful.mid_dir (some other);
      few = (let few = lawful.few_statuses in omega arith);
    }
first-of p Leaf n lawful some =
    let none : option_map_or (λ s. replicate n s) p.leaf.dir [] ≡ [] = ap (λ (d : Option Status8). option_map_or (λ s. replicate n s) d []) lawful.leaf_dir in
    record {
      field_count = length-map p.leaf.fields (λ f. f.1);
      fields = starts-declared p p.leaf.fields lawful.leaf.starts;
      dir = subst (Each (IsStatus p)) (sym none) tt;
      leaf = λ is. none;
      inner = λ other. absurd (other refl);
      few = (let few = lawful.few_statuses in omega arith);
    }

-- what is not a leaf has children
has-children : (tree : Tree) (o : ℕ) (kind : Kind) → IsTree tree → o < length tree → kind_of tree o ≡ Some kind → kind ≢ Leaf → length (children_of tree o) ≢ 0
has-children tree o kind lawful within is other none =
    let leaf = (lawful.leaves o within).1 (empty (children_of tree o) none) in
    let both : Some kind ≡ Some Leaf = sym is ∙ leaf in
    other (let same : kind ≡ Leaf = cc in same)
  where
    empty : (xs : List ℕ) → length xs ≡ 0 → xs ≡ []
    empty [] is = refl
    empty (x ∷ xs) is = absurd (omega arith)

-- an object at the start
first-at : (p : Protocol) (tree : Tree) (requests : ℕ → List Message) (o : ℕ) (local : Local) → local_at (first_line p tree requests) o ≡ Some local → (node : Node) × (slice_get tree o ≡ Some node) × (first_local p node.kind (length (children_of tree o)) ≡ local)
first-at p tree requests o local at =
    let z : 0 + o ≡ o = omega arith in
    let cell = if_mapped (λ (c : Cell). c.local) (slice_get (first_line p tree requests) o) local at in
    let node = if_mapped (first_cell p tree requests (0 + o)) (slice_get tree o) cell.0 (sym (slice_get-map_each (first_cell p tree requests) 0 tree o) ∙ cell.1) in
    (node.0, node.1, ap (λ k. first_local p node.0.kind (length (children_of tree k))) (sym z) ∙ ap (λ (c : Cell). c.local) node.2 ∙ cell.2)

pub start-kinds : (p : Protocol) (tree : Tree) (work : Work) → IsProtocol p → IsTree tree → AreOfKinds p tree (start p tree work)
start-kinds p tree work lawful tree_is =
    record {
      locals = λ l o line local kind at here there.
          let it = first l line at in
          let node = first-at p tree (requests_of work it.0) o local (ap (λ (x : Line). local_at x o) it.1 ∙ here) in
          let same : node.0.kind ≡ kind = (let both : Some node.0.kind ≡ Some kind = sym (ap (option_map (λ (n : Node). n.kind)) node.1) ∙ there in cc) in
          subst (IsOfKind p kind) node.2 (subst (λ k. IsOfKind p kind (first_local p k (length (children_of tree o)))) (sym same) (first-of p kind (length (children_of tree o)) lawful (has-children tree o kind tree_is (slice_get_within tree o node.0 node.1) there)));
    }
  where
    first : (l : ℕ) (line : Line) → slice_get (start p tree work) l ≡ Some line → (m : ℕ) × (first_line p tree (requests_of work m) ≡ line)
    first l line at =
        let it = if_mapped (λ m. first_line p tree (requests_of work m)) (slice_get (below work.lines) l) line (sym (slice_get-map (λ m. first_line p tree (requests_of work m)) (below work.lines) l) ∙ at) in
        (it.0, it.2)
