-- The nodes that are read are a tree of the grammar.
use Rattle.std.proofs.Common.{◌≡◌, ◌≢◌, ℕ, zero, suc, ◌+◌, ◌<◌, ◌≤◌, List, [], ◌∷◌, ◌++◌, length, take, refl, sym, ap, ◌∙◌, subst, arith, Some, ⊎_elim, inl, inr, ◌⊎◌}
use Rattle.std.specs.Prelude.{slice_get}
use Rattle.std.proofs.lemmas.List.{length_push}
use Rattle.hem_base.specs.declared.ids.Kind.{Kind}
use Rattle.hem_base.specs.declared.ids.Kind.TheVariants.{Root, Mid, Leaf}
use Rattle.hem_text.specs.declared.symbol.Symbol.{Symbol}
use Rattle.hem_text.specs.declared.symbol.Symbol.TheVariants.{One, Item as One_of, Many}
use Rattle.hem_text.specs.Lexemes.{Lexeme}
use Rattle.hem_text.specs.Grammars.{State, Way, full, ways, state, Reads}
use Rattle.hem_text.specs.Parts.{IsPart}
use Rattle.hem_tree.specs.declared.raw.RawNode.{RawNode}
use Rattle.hem_tree.specs.declared.draft.Terminal.{Terminal}
use Rattle.hem_tree.specs.declared.draft.Terminal.TheVariants as the
use Rattle.hem_tree.specs.declared.draft.Item.{Item}
use Rattle.hem_tree.specs.declared.draft.Item.TheVariants as item
use Rattle.hem_tree.specs.declared.draft.TreeDraft.{TreeDraft}
use Rattle.hem_tree.specs.Grammar.{grammar, start, nothing, nest, after}
use Rattle.hem_tree.specs.Raw.{IsRawTree, IsLevelAfter}
use Rattle.hem_tree.specs.TreeReading.{ReadsTree}
use Rattle.hem_tree.proofs.Kept.{Each, run_keeps}

-- nodes that begin a tree, of which the last has this kind and this level
record Begun (nodes : List RawNode) (kind : Kind) (level : ℕ) : Type 0 where
  first : (n : RawNode) × (slice_get nodes 0 ≡ Some n) × (n.kind ≡ Root) × (n.level ≡ 1)
  others : (k : ℕ) (n : RawNode) → slice_get nodes (k + 1) ≡ Some n → (n.kind ≢ Root) × (2 ≤ n.level)
  levels : (k : ℕ) (n next : RawNode) → slice_get nodes k ≡ Some n → slice_get nodes (k + 1) ≡ Some next → IsLevelAfter n.kind n.level next.level
  end : (k : ℕ) (n : RawNode) → k + 1 ≡ length nodes → slice_get nodes k ≡ Some n → (n.kind ≡ kind) × (n.level ≡ level)

pub get_push : {X : Type 0} (xs : List X) (y : X) (k : ℕ) (x : X) → slice_get (xs ++ y ∷ []) k ≡ Some x → ((k < length xs) × (slice_get xs k ≡ Some x)) ⊎ ((k ≡ length xs) × (y ≡ x))
get_push [] y zero x h = inr (refl, cc)
get_push [] y (suc k) x h = absurd cc
get_push (z ∷ zs) y zero x h = inl (omega arith, h)
get_push (z ∷ zs) y (suc k) x h = ⊎_elim (λ a. inl (omega (arith, a.0), a.1)) (λ b. inr (ap suc b.0, b.1)) (get_push zs y k x h)

get_one : {X : Type 0} (y : X) (k : ℕ) (x : X) → slice_get (y ∷ []) (k + 1) ≡ Some x → ⊥
get_one y k x h = let n : k + 1 ≡ suc k = omega arith in let e = ap (λ i. slice_get (y ∷ []) i) n in cc

begun_one : (n : RawNode) → n.kind ≡ Root → n.level ≡ 1 → Begun (n ∷ []) Root 1
begun_one n kind level = record {
  first = (n, refl, kind, level);
  others = λ k m h. absurd (get_one n k m h);
  levels = λ k m next h h'. absurd (get_one n k next h');
  end = λ k m is h. let z : k ≡ 0 = omega arith in let same : n ≡ m = let e = ap (λ i. slice_get (n ∷ []) i) z in cc in (ap (λ v. v.kind) (sym same) ∙ kind, ap (λ v. v.level) (sym same) ∙ level);
}

module _ (nodes : List RawNode) (kind : Kind) (level : ℕ) (begun : Begun nodes kind level) (m : RawNode) (child : m.kind ≢ Root) (low : 2 ≤ m.level) (fits : IsLevelAfter kind level m.level) where
  first_more : (xs : List RawNode) (n : RawNode) → slice_get xs 0 ≡ Some n → slice_get (xs ++ m ∷ []) 0 ≡ Some n
  first_more [] n h = absurd cc
  first_more (x ∷ xs) n h = h

  begun_more : Begun (nodes ++ m ∷ []) m.kind m.level
  begun_more = record {
    first = (begun.first.0, first_more nodes begun.first.0 begun.first.1, begun.first.2, begun.first.3);
    others = λ k n h. ⊎_elim (λ a. begun.others k n a.1) (λ b. let P : RawNode → Type 0 = λ v. (v.kind ≢ Root) × (2 ≤ v.level) in subst P b.1 (child, low)) (get_push nodes m (k + 1) n h);
    levels = λ k n next h h'. ⊎_elim (λ a. levels_before k n next h h' a) (λ b. last_level k n next h b) (get_push nodes m (k + 1) next h');
    end = λ k n is h. ⊎_elim (λ a. absurd (omega (arith, is, a.0, length_more))) (λ b. (ap (λ v. v.kind) (sym b.1), ap (λ v. v.level) (sym b.1))) (get_push nodes m k n h);
  }
    where
      length_more : length (nodes ++ m ∷ []) ≡ length nodes + 1
      length_more = length_push nodes m

      levels_before : (k : ℕ) (n next : RawNode) → slice_get (nodes ++ m ∷ []) k ≡ Some n → slice_get (nodes ++ m ∷ []) (k + 1) ≡ Some next → (k + 1 < length nodes) × (slice_get nodes (k + 1) ≡ Some next) → IsLevelAfter n.kind n.level next.level
      levels_before k n next h h' a = ⊎_elim (λ b. begun.levels k n next b.1 a.1) (λ b. absurd (omega (arith, a.0, b.0))) (get_push nodes m k n h)

      last_level : (k : ℕ) (n next : RawNode) → slice_get (nodes ++ m ∷ []) k ≡ Some n → (k + 1 ≡ length nodes) × (m ≡ next) → IsLevelAfter n.kind n.level next.level
      last_level k n next h b =
          ⊎_elim (λ a. let last = begun.end k n b.0 a.1 in rw (last.0, last.1) (let P : RawNode → Type 0 = λ v. IsLevelAfter kind level v.level in subst P b.1 fits)) (λ a. absurd (omega (arith, a.0, b.0))) (get_push nodes m k n h)

-- so many parentheses that are still to be closed
abbrev closes : ℕ → List (Symbol Terminal Item)
closes zero = []
closes (suc d) = Many item.Node ∷ One the.Close ∷ closes d

-- what is still to come fits the nodes that are read
data Fits (s : State TreeDraft Terminal Item) : Type 0 where
  unread : s.env ≡ nothing → s.stack ≡ start → Fits s
  at_root : s.env ≡ nothing → s.stack ≡ One (the.Node Root) ∷ [] → Fits s
  opening : (d : ℕ) (kind : Kind) → kind ≢ Leaf → Begun s.env.nodes kind (d + 1) → s.env.level ≡ d + 1 → s.stack ≡ nest ++ closes d → Fits s
  opened : (d : ℕ) (kind : Kind) → kind ≢ Leaf → Begun s.env.nodes kind (d + 1) → s.env.level ≡ d + 2 → s.stack ≡ One_of item.Node ∷ closes (suc d) → Fits s
  closing : (d level : ℕ) → Begun s.env.nodes Leaf level → d + 1 ≤ level → s.env.level ≡ d + 1 → s.stack ≡ closes d → Fits s

abbrev Next : State TreeDraft Terminal Item → Lexeme → Way Terminal Item → Type 0
Next s t w = Fits (state (after s.env w.terminal t) w.stack)

fits_after : (kind : Kind) (d level : ℕ) → kind ≢ Leaf → level ≡ d + 2 → IsLevelAfter kind (d + 1) level
fits_after Root d level not e = omega arith
fits_after Mid d level not e = omega arith
fits_after Leaf d level not e = absurd (not refl)

abbrev node : Kind → ℕ → Lexeme → RawNode
node kind level t = record { kind = kind; level = level; place = t.place }

step : (s : State TreeDraft Terminal Item) (t : Lexeme) → Fits s → Each (Next s t) (ways grammar s.stack)
step s t (unread e is) = rw is (at_root e refl, tt)
step s t (at_root e is) =
    rw (is, e) (opening 0 Root (λ h. cc) (begun_one (node Root 1 t) refl refl) refl refl, tt)
step s t (opening d kind inner begun level is) = rw is (opened d kind inner begun (omega arith) refl, tt)
step s t (opened d kind inner begun level is) =
    rw is (
      closing (suc d) s.env.level (begun_more s.env.nodes kind (d + 1) begun (node Leaf s.env.level t) (λ h. cc) (omega arith) (fits_after kind d s.env.level inner level)) (omega arith) (omega arith) refl,
      (
        opening (suc d) Mid (λ h. cc) (let e : s.env.level ≡ suc d + 1 = omega arith in subst (Begun (s.env.nodes ++ node Mid s.env.level t ∷ []) Mid) e (begun_more s.env.nodes kind (d + 1) begun (node Mid s.env.level t) (λ h. cc) (omega arith) (fits_after kind d s.env.level inner level))) (omega arith) refl,
        tt,
      ),
    )
step s t (closing zero deep begun low level is) = rw is tt
step s t (closing (suc d) deep begun low level is) =
    rw is (
      closing (suc d) s.env.level (begun_more s.env.nodes Leaf deep begun (node Leaf s.env.level t) (λ h. cc) (omega arith) (omega arith)) (omega arith) (omega arith) refl,
      (
        opening (suc d) Mid (λ h. cc) (let e : s.env.level ≡ suc d + 1 = omega arith in subst (Begun (s.env.nodes ++ node Mid s.env.level t ∷ []) Mid) e (begun_more s.env.nodes Leaf deep begun (node Mid s.env.level t) (λ h. cc) (omega arith) (omega arith))) (omega arith) refl,
        (
          closing d deep begun (omega arith) (omega arith) refl,
          tt,
        ),
      ),
    )

-- at the end all parentheses are closed
pub record IsWhole (e : TreeDraft) : Type 0 where
  pub level : e.level ≡ 1
  pub tree : IsRawTree e.nodes

whole : (s : State TreeDraft Terminal Item) → s.stack ≡ [] → Fits s → IsWhole s.env
whole s end (unread e is) = absurd cc
whole s end (at_root e is) = absurd cc
whole s end (opening d kind inner begun level is) = absurd cc
whole s end (opened d kind inner begun level is) = absurd cc
whole s end (closing (suc d) deep begun low level is) = absurd cc
whole s end (closing zero deep begun low level is) =
    record {
      level = omega arith;
      tree = record { first = begun.first; others = begun.others; levels = begun.levels; last = λ k n last h. (begun.end k n last h).0 };
    }

pub reads_whole : (ts : List Lexeme) (n : ℕ) (e : TreeDraft) → Reads grammar (state nothing start) ts n e → IsWhole e
reads_whole ts n e reads = whole (state e []) refl (run_keeps full grammar Fits step (state nothing start) (take n ts) (state e []) (unread refl refl) reads.runs)

abbrev one_level : List RawNode → ℕ → TreeDraft
one_level nodes level = record { nodes = nodes; level = level }

-- a part of the grammar is a tree
pub reads_tree : (ts rest : List Lexeme) (begin e : TreeDraft) (stack : List (Symbol Terminal Item)) → begin ≡ nothing → stack ≡ start → IsPart grammar (state begin stack) ts rest e → ReadsTree ts rest e.nodes
reads_tree ts rest begin e stack fresh all part =
    let same : state begin stack ≡ state nothing start = cc in
    let here = subst (λ s. IsPart grammar s ts rest e) same part in
    let whole = reads_whole ts here.count e here.reads in
    record {
      part = subst (λ v. IsPart grammar (state nothing start) ts rest v) (ap (one_level e.nodes) whole.level) here;
      tree = whole.tree;
    }
