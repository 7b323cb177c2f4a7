-- The state at the start is well formed.
use Rattle.std.proofs.Common.{◌≡◌, refl, ap, sym, ◌∙◌, subst, ℕ, ◌+◌, true, false, List, [], ◌∷◌, length, map, ltb-true, Option, Some, None, zero-add}
use Rattle.std.specs.Prelude.{nat_lt, slice_get, option_map, replicate, All}
use Rattle.std.specs.List.{list_all}
use Rattle.std.specs.Option.{option_map_or}
use Rattle.std.proofs.lemmas.List.{length-map, length-replicate}
use Rattle.std.proofs.lemmas.List.Elements.{All-nil, All-cons, All-replicate, All-weaker}
use Rattle.std.proofs.lemmas.Option.{slice_get-map, slice_get_within}
use Rattle.hem_base.specs.declared.ids.Message.{Message}
use Rattle.hem_base.specs.declared.ids.Status8.{Status8}
use Rattle.hem_base.specs.declared.ids.Kind.{Kind}
use Rattle.hem_base.specs.declared.ids.Kind.TheVariants.{Root, Mid, Leaf}
use Rattle.hem_syntax.specs.declared.rule.Class.{Class}
use Rattle.hem_syntax.specs.declared.rule.Class.TheVariants.{ExtReq}
use Rattle.hem_syntax.specs.Protocol.{Protocol, Text, part}
use Rattle.hem_syntax.specs.Lawful.{IsProtocol}
use Rattle.hem_object.specs.Local.{IsStatus, IsWellFormed}
use Rattle.hem_object.specs.Start.{first_local}
use Rattle.hem_tree.specs.Tree.{Tree, Node, below, kind_of, children_of, IsTree}
use Rattle.hem_work.specs.Work.{Work, requests_of}
use Rattle.hem_work.specs.Lawful.{IsExternal, IsLawfulWork}
use Rattle.hem_system.specs.declared.lane.Lane.{Lane}
use Rattle.hem_system.specs.declared.lane.Lane.TheVariants.{UpRequests, UpResponses, Down, Requests, Answers}
use Rattle.hem_system.specs.State.{Line, Cell, list_of, cell_at, first_cell, first_line, start}
use Rattle.hem_system.proofs.Own.{slice_get-map_each}
use Rattle.hem_invariants.specs.Declared.{IsDeclared}
use Rattle.hem_invariants.specs.Formed.{IsFormed}
use Rattle.hem_invariants.proofs.Choices.{both, if_some, if_mapped}
use Rattle.hem_invariants.proofs.Next.{length-map_each}

-- the statuses of fields at the start are declared
fields-declared : (p : Protocol) (fields : List (Text × Status8)) → list_all (λ (f : Text × Status8). nat_lt f.1.0 (length p.statuses)) fields ≡ true → All (IsStatus p) (map (λ (f : Text × Status8). f.1) fields)
fields-declared p [] all = All-nil (IsStatus p)
fields-declared p (f ∷ fields) all =
    let parts = both (nat_lt f.1.0 (length p.statuses)) (list_all (λ (f : Text × Status8). nat_lt f.1.0 (length p.statuses)) fields) all in
    All-cons (IsStatus p) f.1 (map (λ (f : Text × Status8). f.1) fields) (ltb-true f.1.0 (length p.statuses) parts.0) (fields-declared p fields parts.1)

-- a directory at the start
record IsFirstDir (p : Protocol) (children : ℕ) (dir : List Status8) : Type 0 where
  size : length dir ≡ children
  declared : All (IsStatus p) dir

-- it has an entry for each child
first-dir : (p : Protocol) (children : ℕ) (dir : Option Status8) → option_map_or (λ (s : Status8). nat_lt s.0 (length p.statuses)) dir false ≡ true → IsFirstDir p children (option_map_or (λ s. replicate children s) dir [])
first-dir p children None has = cc
first-dir p children (Some s) has = record { size = length-replicate children s; declared = All-replicate (IsStatus p) children s (ltb-true s.0 (length p.statuses) has) }

-- a leaf has no entry, and no child
no-dir : (p : Protocol) (children : ℕ) (dir : Option Status8) → dir ≡ None → children ≡ 0 → IsFirstDir p children (option_map_or (λ s. replicate children s) dir [])
no-dir p children dir is none = subst (λ d. IsFirstDir p children (option_map_or (λ s. replicate children s) d [])) (sym is) (record { size = sym none; declared = All-nil (IsStatus p) })

-- of each kind
dir-of : (p : Protocol) (kind : Kind) (children : ℕ) → IsProtocol p → (kind ≡ Leaf → children ≡ 0) → IsFirstDir p children (option_map_or (λ s. replicate children s) (part p kind).dir [])
dir-of p Root children lawful none = first-dir p children p.root.dir lawful.root_dir
dir-of p Mid children lawful none = first-dir p children p.mid.dir lawful.mid_dir
dir-of p Leaf children lawful none = no-dir p children p.leaf.dir lawful.leaf_dir (none refl)

-- of each kind the first statuses are declared
starts-of : (p : Protocol) (kind : Kind) → IsProtocol p → list_all (λ (f : Text × Status8). nat_lt f.1.0 (length p.statuses)) (part p kind).fields ≡ true
starts-of p Root lawful = lawful.root.starts
starts-of p Mid lawful = lawful.mid.starts
starts-of p Leaf lawful = lawful.leaf.starts

-- a local state at the start is well formed
first-formed : (p : Protocol) (kind : Kind) (children : ℕ) → IsProtocol p → (kind ≡ Leaf → children ≡ 0) → IsWellFormed p kind children (first_local p kind children)
first-formed p kind children lawful none =
    let dir = dir-of p kind children lawful none in
    record {
      field_count = length-map (part p kind).fields (λ f. f.1);
      dir_count = dir.size;
      fields = fields-declared p (part p kind).fields (starts-of p kind lawful);
      dir = dir.declared;
      up = λ lock is. cc;
      down = λ lock is. cc;
    }

-- a leaf has no child
leaf-childless : (tree : Tree) (o : ℕ) (node : Node) → IsTree tree → slice_get tree o ≡ Some node → node.kind ≡ Leaf → length (children_of tree o) ≡ 0
leaf-childless tree o node lawful at is =
    let kind_is : kind_of tree o ≡ Some Leaf = ap (option_map (λ (n : Node). n.kind)) at ∙ ap Some is in
    ap length ((lawful.leaves o (slice_get_within tree o node at)).0 kind_is)

-- an object at the start: its line and its node
pub record First (p : Protocol) (tree : Tree) (work : Work) (o : ℕ) (cell : Cell) : Type 0 where
  pub line : ℕ
  pub node : Node
  pub there : slice_get tree o ≡ Some node
  pub is : first_cell p tree (requests_of work line) o node ≡ cell

-- a line at the start
first-line-at : (p : Protocol) (tree : Tree) (work : Work) (l : ℕ) (line : Line) → slice_get (start p tree work) l ≡ Some line → (m : ℕ) × (first_line p tree (requests_of work m) ≡ line)
first-line-at p tree work l line at =
    let it = if_mapped (λ m. first_line p tree (requests_of work m)) (slice_get (below work.lines) l) line (sym (slice_get-map (λ m. first_line p tree (requests_of work m)) (below work.lines) l) ∙ at) in
    (it.0, it.2)

-- an object at the start is one of a node of the tree
pub first-at : (p : Protocol) (tree : Tree) (work : Work) (l o : ℕ) (cell : Cell) → cell_at (start p tree work) l o ≡ Some cell → First p tree work o cell
first-at p tree work l o cell at =
    let line = if_some (λ line. slice_get line o) (slice_get (start p tree work) l) cell at in
    let it = first-line-at p tree work l line.0 line.1 in
    let found : slice_get (first_line p tree (requests_of work it.0)) o ≡ Some cell = ap (λ (x : Line). slice_get x o) it.1 ∙ line.2 in
    let node = if_mapped (first_cell p tree (requests_of work it.0) (0 + o)) (slice_get tree o) cell (sym (slice_get-map_each (first_cell p tree (requests_of work it.0)) 0 tree o) ∙ found) in
    record { line = it.0; node = node.0; there = node.1; is = ap (λ k. first_cell p tree (requests_of work it.0) k node.0) (sym (zero-add o)) ∙ node.2 }

-- a processor's request is declared
external-declared : (p : Protocol) (m : Message) → IsExternal p m → IsDeclared p m
external-declared p m is =
    let it = if_mapped (λ (d : Text × Class). d.1) (slice_get p.messages m.id.0) ExtReq is in
    slice_get_within p.messages m.id.0 it.0 it.1

-- each list at the start has declared messages
first-declared : (p : Protocol) (tree : Tree) (work : Work) (line o : ℕ) (node : Node) (lane : Lane) → IsLawfulWork p tree work → All (IsDeclared p) (list_of (first_cell p tree (requests_of work line) o node) lane)
first-declared p tree work line o node UpRequests lawful = All-nil (IsDeclared p)
first-declared p tree work line o node UpResponses lawful = All-nil (IsDeclared p)
first-declared p tree work line o node Down lawful = All-nil (IsDeclared p)
first-declared p tree work line o node Requests lawful = All-weaker (IsExternal p) (IsDeclared p) (external-declared p) (requests_of work line o) (lawful.external line o)
first-declared p tree work line o node Answers lawful = All-nil (IsDeclared p)

-- the state at the start is well formed
pub start-formed : (p : Protocol) (tree : Tree) (work : Work) → IsProtocol p → IsTree tree → IsLawfulWork p tree work → IsFormed p tree (start p tree work)
start-formed p tree work lawful tree_lawful work_lawful =
    record {
      objects = λ l line at.
          let it = first-line-at p tree work l line at in
          ap length (sym it.1) ∙ length-map_each (first_cell p tree (requests_of work it.0)) 0 tree;
      locals = λ l o kind local kind_is here.
          let cell = if_mapped (λ (c : Cell). c.local) (cell_at (start p tree work) l o) local here in
          let it = first-at p tree work l o cell.0 cell.1 in
          let same : it.node.kind ≡ kind = (let both_are : Some it.node.kind ≡ Some kind = sym (ap (option_map (λ (n : Node). n.kind)) it.there) ∙ kind_is in cc) in
          subst (IsWellFormed p kind (length (children_of tree o))) (ap (λ (c : Cell). c.local) it.is ∙ cell.2)
          (subst (λ k. IsWellFormed p k (length (children_of tree o)) (first_local p it.node.kind (length (children_of tree o)))) same
          (first-formed p it.node.kind (length (children_of tree o)) lawful (λ leaf. leaf-childless tree o it.node tree_lawful it.there leaf)));
      messages = λ l o lane. by_cell l o lane (cell_at (start p tree work) l o) refl;
    }
  where
    by_cell : (l o : ℕ) (lane : Lane) (found : Option Cell) → cell_at (start p tree work) l o ≡ found → All (IsDeclared p) (option_map_or (λ cell. list_of cell lane) found [])
    by_cell l o lane None at = All-nil (IsDeclared p)
    by_cell l o lane (Some cell) at =
        let it = first-at p tree work l o cell at in
        subst (λ (c : Cell). All (IsDeclared p) (list_of c lane)) it.is (first-declared p tree work it.line o it.node lane work_lawful)
