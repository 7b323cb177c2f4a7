-- The grammar of trees goes over the canonical text of a tree.
use Rattle.std.proofs.Common.{◌≡◌, ℕ, zero, suc, ◌+◌, ◌-◌, ◌<◌, ◌≤◌, Bool, true, false, List, [], ◌∷◌, ◌++◌, length, map, refl, sym, ap, ◌∙◌, subst, arith, append-nil, append_assoc, Option, Some, ⊎_elim}
use Rattle.std.specs.Prelude.{fold, flat_map, codes, replicate, option_map}
use Rattle.std.specs.Option.{option_map_or}
use Rattle.std.proofs.str.Laws.{order}
use Rattle.std.proofs.lemmas.Bool.{le-leb}
use Rattle.std.proofs.lemmas.Grind.{flat_map-append}
use Rattle.std.proofs.lemmas.List.{map-append}
use Rattle.hem_base.specs.declared.ids.Kind.{Kind}
use Rattle.hem_base.specs.declared.ids.Kind.TheVariants.{Root, Mid, Leaf}
use Rattle.hem_text.specs.declared.text.TokenKind.TheVariants as kind
use Rattle.hem_text.specs.declared.text.Place.{Place}
use Rattle.hem_text.specs.declared.symbol.Symbol.{Symbol}
use Rattle.hem_text.specs.declared.symbol.Symbol.TheVariants.{One, Item as One_of, Many}
use Rattle.hem_text.specs.Tokens.{advance}
use Rattle.hem_text.specs.Grammars.{State, full, state, next}
use Rattle.hem_tree.specs.declared.draft.Terminal.{Terminal}
use Rattle.hem_tree.specs.declared.draft.Terminal.TheVariants as the
use Rattle.hem_tree.specs.declared.draft.Item.{Item}
use Rattle.hem_tree.specs.declared.draft.Item.TheVariants as item
use Rattle.hem_tree.specs.declared.draft.TreeDraft.{TreeDraft}
use Rattle.hem_tree.specs.declared.raw.RawNode.{RawNode}
use Rattle.hem_tree.specs.Grammar.{grammar, start, nothing as nothing_read}
use Rattle.hem_tree.specs.Tree.{Tree, below, kind_of, level_of, IsLawful}
use Rattle.hem_tree.proofs.Lawful.{get_within}
use Rattle.hem_worktext.specs.TreeText.{level_after, gap_after, after_word, object_text}
use Rattle.hem_worktext.proofs.Leads.{Leads, at, nothing, then, space, word, opening, closing, is_apart}
use Rattle.hem_worktext.proofs.TreeShape.{root_level, some_object, deep, after_leaf, after_inner}
use Rattle.hem_worktext.proofs.Steps.{not_lt}

-- what has been read of a tree
abbrev pub read : List RawNode → ℕ → TreeDraft
read nodes level = record { nodes = nodes; level = level }

-- so many families that are begun
abbrev pub families : ℕ → List (Symbol Terminal Item)
families zero = []
families (suc m) = Many item.Node ∷ One the.Close ∷ families m

-- before an object of one of them: the first of its family, or a later one
abbrev pub before : Bool → ℕ → List (Symbol Terminal Item)
before true m = One_of item.Node ∷ families m
before false m = families m

-- a node as the text gives it
abbrev pub node : Kind → ℕ → Place → RawNode
node kind level place = record { kind = kind; level = level; place = place }

-- the words

leaf_next : (b : Bool) (m level : ℕ) (nodes : List RawNode) (place : Place) → next full grammar (state (read nodes level) (before b (suc m))) (at kind.Word (codes "leaf") place) ≡ Some (state (read (nodes ++ node Leaf level place ∷ []) level) (families (suc m)))
leaf_next true m level nodes place = refl
leaf_next false m level nodes place = refl

mid_next : (b : Bool) (m level : ℕ) (nodes : List RawNode) (place : Place)
    → next full grammar (state (read nodes level) (before b (suc m))) (at kind.Word (codes "mid") place) ≡ Some (state (read (nodes ++ node Mid level place ∷ []) level) (One the.Open ∷ before true (suc (suc m))))
mid_next true m level nodes place = refl
mid_next false m level nodes place = refl

-- families are closed

abbrev over : ℕ → List (Symbol Terminal Item) → List (Symbol Terminal Item)
over zero rest = rest
over (suc c) rest = Many item.Node ∷ One the.Close ∷ over c rest

abbrev raised : ℕ → ℕ → ℕ
raised zero level = level
raised (suc c) level = suc (raised c level)

close_next : (rest : List (Symbol Terminal Item)) (nodes : List RawNode) (level : ℕ) (place : Place) → next full grammar (state (read nodes (suc level)) (Many item.Node ∷ One the.Close ∷ rest)) (at kind.Sign (codes ")") place) ≡ Some (state (read nodes level) rest)
close_next rest nodes level place = let e : suc level - 1 ≡ level = omega arith in ap (λ n. Some (state (read nodes n) rest)) e

closes_read : (c level : ℕ) (rest : List (Symbol Terminal Item)) (nodes : List RawNode) (place : Place) (tail : List ℕ) → Leads grammar place (replicate c 41) tail (state (read nodes (raised c level)) (over c rest)) (state (read nodes level) rest)
closes_read zero level rest nodes place tail = nothing grammar place tail _
closes_read (suc c) level rest nodes place tail =
    then grammar place (codes ")") (replicate c 41) tail _ _ _
    (closing grammar place (replicate c 41 ++ tail) _ _ (close_next (over c rest) nodes (raised c level) place))
    (closes_read c level rest nodes (advance place 41) tail)

raised_is : (c level : ℕ) → raised c level ≡ c + level
raised_is zero level = omega arith
raised_is (suc c) level = let rest = raised_is c level in omega (arith, rest)

over_is : (c m : ℕ) → over c (families m) ≡ families (c + m)
over_is zero m = let e : m ≡ zero + m = omega arith in ap families e
over_is (suc c) m = let e : suc (c + m) ≡ suc c + m = omega arith in ap (λ l. Many item.Node ∷ One the.Close ∷ l) (over_is c m) ∙ ap families e

-- a leaf, which closes c families and leaves n
leaf_read : (b : Bool) (c n m : ℕ) (nodes : List RawNode) (gap : List ℕ) (place : Place) (tail : List ℕ)
    → c + n ≡ suc m → ((s : State TreeDraft Terminal Item) (place : Place) → Leads grammar place gap tail s s) → is_apart ((replicate c 41 ++ gap) ++ tail) ≡ true
    → Leads grammar place (codes "leaf" ++ (replicate c 41 ++ gap)) tail (state (read nodes (c + suc n)) (before b (suc m))) (state (read (nodes ++ node Leaf (c + suc n) place ∷ []) (suc n)) (families n))
leaf_read b c n m nodes gap place tail some spaced apart =
    then grammar place (codes "leaf") (replicate c 41 ++ gap) tail _ _ _
    (word grammar place (codes "leaf") ((replicate c 41 ++ gap) ++ tail) _ _ refl apart (leaf_next b m (c + suc n) nodes place))
    (then grammar (fold advance place (codes "leaf")) (replicate c 41) gap tail _ _ _
    (subst (λ s. Leads grammar (fold advance place (codes "leaf")) (replicate c 41) (gap ++ tail) s (state (read (nodes ++ node Leaf (c + suc n) place ∷ []) (suc n)) (families n)))
    (λ i. state (read (nodes ++ node Leaf (c + suc n) place ∷ []) (raised_is c (suc n) i)) (stack i))
    (closes_read c (suc n) (families n) (nodes ++ node Leaf (c + suc n) place ∷ []) (fold advance place (codes "leaf")) (gap ++ tail)))
    (spaced (state (read (nodes ++ node Leaf (c + suc n) place ∷ []) (suc n)) (families n)) _))
  where
    stack : over c (families n) ≡ families (suc m)
    stack = over_is c n ∙ ap families some

-- a mid, which begins a family
mid_read : (b : Bool) (m level : ℕ) (nodes : List RawNode) (place : Place) (tail : List ℕ)
    → Leads grammar place (codes "mid" ++ codes "(") tail (state (read nodes level) (before b (suc m))) (state (read (nodes ++ node Mid level place ∷ []) (level + 1)) (before true (suc (suc m))))
mid_read b m level nodes place tail =
    then grammar place (codes "mid") (codes "(") tail _ _ _
    (word grammar place (codes "mid") (codes "(" ++ tail) _ _ refl refl (mid_next b m level nodes place))
    (opening grammar _ tail _ _ refl)

-- the root
root_read : (place : Place) (tail : List ℕ) → Leads grammar place (codes "root" ++ codes "(") tail (state (read [] 1) (One (the.Node Root) ∷ [])) (state (read (node Root 1 place ∷ []) 2) (before true 1))
root_read place tail =
    then grammar place (codes "root") (codes "(") tail _ _ _
    (word grammar place (codes "root") (codes "(" ++ tail) _ (state (read (node Root 1 place ∷ []) 1) (One the.Open ∷ before true 1)) refl refl refl)
    (opening grammar _ tail _ _ refl)

tree_word : (place : Place) (tail : List ℕ) → Leads grammar place (codes "tree ") tail (state nothing_read start) (state (read [] 1) (One (the.Node Root) ∷ []))
tree_word place tail =
    then grammar place (codes "tree") (codes " ") tail _ _ _
    (word grammar place (codes "tree") (codes " " ++ tail) (state nothing_read start) (state (read [] 1) (One (the.Node Root) ∷ [])) refl refl refl)
    (space grammar _ tail _)

-- an object as the text gives it: its kind and its level
abbrev pub plain : RawNode → Option Kind × ℕ
plain n = (Some n.kind, n.level)

abbrev pub plain_at : Tree → ℕ → Option Kind × ℕ
plain_at tree o = (kind_of tree o, level_of tree o)

abbrev inner_kind : Kind → Bool
inner_kind Leaf = false
inner_kind _ = true

-- whether an object has children
abbrev pub is_inner : Tree → ℕ → Bool
is_inner tree o = option_map_or inner_kind (kind_of tree o) false

abbrev pub text_to : Tree → ℕ → List ℕ
text_to tree n = codes "tree " ++ flat_map (object_text tree) (below n)

-- the objects through k lead to the state before the next one
pub record ReadTo (tree : Tree) (k : ℕ) (place : Place) (tail : List ℕ) : Type 0 where
  pub nodes : List RawNode
  pub are : map plain nodes ≡ map (plain_at tree) (below (suc k))
  pub leads : Leads grammar place (text_to tree (suc k)) tail (state nothing_read start) (state (read nodes (level_after tree k)) (before (is_inner tree k) (level_after tree k - 1)))

module _ (tree : Tree) (lawful : IsLawful tree) where
  level_next : (k : ℕ) → k + 1 < length tree → level_after tree k ≡ level_of tree (k + 1)
  level_next k lt = rw (le-leb (suc (k + 1)) (length tree) lt) refl

  level_last : (k : ℕ) → length tree ≤ k + 1 → level_after tree k ≡ 1
  level_last k le = rw (not_lt (k + 1) (length tree) le) refl

  gap_next : (k : ℕ) → k + 1 < length tree → gap_after tree k ≡ codes " "
  gap_next k lt = rw (le-leb (suc (k + 1)) (length tree) lt) refl

  gap_last : (k : ℕ) → length tree ≤ k + 1 → gap_after tree k ≡ []
  gap_last k le = rw (not_lt (k + 1) (length tree) le) refl

  -- the text through one more object
  text_more : (n : ℕ) (t : List ℕ) → object_text tree n ≡ t → text_to tree (suc n) ≡ text_to tree n ++ t
  text_more n t is =
      ap (λ l. codes "tree " ++ l) (flat_map-append (object_text tree) (below n) (n ∷ []) ∙ ap (λ l. flat_map (object_text tree) (below n) ++ l) (append-nil (object_text tree n) ∙ is))
      ∙ sym (append_assoc (codes "tree ") (flat_map (object_text tree) (below n)) t)

  plain_more : (n : ℕ) (nodes : List RawNode) (x : RawNode) → map plain nodes ≡ map (plain_at tree) (below n) → plain x ≡ plain_at tree n → map plain (nodes ++ x ∷ []) ≡ map (plain_at tree) (below (suc n))
  plain_more n nodes x are is =
      map-append plain nodes (x ∷ [])
      ∙ (λ i. are i ++ is i ∷ [])
      ∙ sym (map-append (plain_at tree) (below n) (n ∷ []))

  -- one more object, where it leads from the state before it to the state after it
  add : (k : ℕ) (x : Place → RawNode) (t : List ℕ)
      → object_text tree (suc k) ≡ t
      → ((place : Place) → plain (x place) ≡ plain_at tree (suc k))
      → ((nodes : List RawNode) (place : Place) (tail : List ℕ) → Leads grammar place t tail (state (read nodes (level_after tree k)) (before (is_inner tree k) (level_after tree k - 1)))
      (state (read (nodes ++ x place ∷ []) (level_after tree (suc k))) (before (is_inner tree (suc k)) (level_after tree (suc k) - 1))))
      → (place : Place) (tail : List ℕ) → ReadTo tree k place (t ++ tail) → ReadTo tree (suc k) place tail
  add k x t text is step place tail so_far =
      let here = fold advance place (text_to tree (suc k)) in
      record {
        nodes = so_far.nodes ++ x here ∷ [];
        are = plain_more (suc k) so_far.nodes (x here) so_far.are (is here);
        leads = subst (λ l. Leads grammar place l tail (state nothing_read start) (state (read (so_far.nodes ++ x here ∷ []) (level_after tree (suc k))) (before (is_inner tree (suc k)) (level_after tree (suc k) - 1))))
            (sym (text_more (suc k) t text))
            (then grammar place (text_to tree (suc k)) t tail _ _ _ so_far.leads (step so_far.nodes here tail));
      }

  -- the root
  root_kind : kind_of tree 0 ≡ Some Root
  root_kind = rw lawful.shape.root refl

  not_leaf : (o : ℕ) (kind : Kind) → kind_of tree o ≡ Some kind → inner_kind kind ≡ true → kind_of tree o ≡ Some Leaf → ⊥
  not_leaf o kind is inner leaf = let same : kind ≡ Leaf = (let both : Some kind ≡ Some Leaf = sym is ∙ leaf in cc) in let no = ap inner_kind same in absurd cc

  first_read : (place : Place) (tail : List ℕ) → ReadTo tree 0 place tail
  first_read place tail =
      let next = after_inner tree lawful 0 (some_object tree lawful) (not_leaf 0 Root root_kind refl) in
      let level : level_after tree 0 ≡ 2 = level_next 0 next.0 ∙ next.1 ∙ ap (λ n. n + 1) (root_level tree lawful) in
      let here = fold advance place (codes "tree ") in
      record {
        nodes = node Root 1 here ∷ [];
        are = λ i. (sym root_kind i, sym (root_level tree lawful) i) ∷ [];
        leads = subst (λ l. Leads grammar place l tail (state nothing_read start) (state (read (node Root 1 here ∷ []) (level_after tree 0)) (before (is_inner tree 0) (level_after tree 0 - 1))))
            (sym (text_more 0 (codes "root" ++ codes "(") (rw root_kind refl)))
            (subst (λ s. Leads grammar place (codes "tree " ++ (codes "root" ++ codes "(")) tail (state nothing_read start) s)
            (λ i. state (read (node Root 1 here ∷ []) (sym level i)) (before (inner i) (sym level i - 1)))
            (then grammar place (codes "tree ") (codes "root" ++ codes "(") tail _ _ _ (tree_word place ((codes "root" ++ codes "(") ++ tail)) (root_read here tail)));
      }
    where
      inner : true ≡ is_inner tree 0
      inner = rw root_kind refl

  -- a mid
  mid_added : (k : ℕ) → suc k < length tree → kind_of tree (suc k) ≡ Some Mid → (place : Place) (tail : List ℕ) → ReadTo tree k place ((codes "mid" ++ codes "(") ++ tail) → ReadTo tree (suc k) place tail
  mid_added k lt is =
      let one : k + 1 ≡ suc k = omega arith in
      let here : level_after tree k ≡ level_of tree (suc k) = level_next k (omega (arith, lt)) ∙ ap (level_of tree) one in
      let low = deep tree lawful (suc k) (omega arith) lt in
      let next = after_inner tree lawful (suc k) lt (not_leaf (suc k) Mid is refl) in
      let after : level_after tree (suc k) ≡ level_of tree (suc k) + 1 = level_next (suc k) next.0 ∙ next.1 in
      let m : ℕ = level_of tree (suc k) - 2 in
      let m_is : level_after tree k - 1 ≡ suc m = omega (arith, here, low) in
      let m_next : suc (suc m) ≡ level_after tree (suc k) - 1 = omega (arith, after, low) in
      let level : level_after tree k + 1 ≡ level_after tree (suc k) = omega (arith, here, after) in
      add k (λ place. node Mid (level_of tree (suc k)) place) (codes "mid" ++ codes "(") (rw is refl) (λ place i. (sym is i, level_of tree (suc k)))
      (λ nodes place tail.
      subst (λ s. Leads grammar place (codes "mid" ++ codes "(") tail (state (read nodes (level_after tree k)) (before (is_inner tree k) (level_after tree k - 1))) s)
      (λ i. state (read (nodes ++ node Mid (here i) place ∷ []) (level i)) (before (inner i) (m_next i)))
      (subst (λ s. Leads grammar place (codes "mid" ++ codes "(") tail s (state (read (nodes ++ node Mid (level_after tree k) place ∷ []) (level_after tree k + 1)) (before true (suc (suc m)))))
      (λ i. state (read nodes (level_after tree k)) (before (is_inner tree k) (sym m_is i)))
      (mid_read (is_inner tree k) m (level_after tree k) nodes place tail)))
    where
      inner : true ≡ is_inner tree (suc k)
      inner = rw is refl

  -- what stands after a leaf
  record AfterLeaf (o : ℕ) : Type 0 where
    low : 1 ≤ level_after tree o
    high : level_after tree o ≤ level_of tree o
    spaced : (s : State TreeDraft Terminal Item) (place : Place) (tail : List ℕ) → Leads grammar place (gap_after tree o) tail s s
    apart : (tail : List ℕ) → is_apart ((replicate (level_of tree o - level_after tree o) 41 ++ gap_after tree o) ++ tail) ≡ true

  after_a_leaf : (o : ℕ) → 0 < o → o < length tree → kind_of tree o ≡ Some Leaf → AfterLeaf o
  after_a_leaf o some there leaf = ⊎_elim later last (order (o + 1) (length tree))
    where
      later : o + 1 < length tree → AfterLeaf o
      later lt =
          let level = level_next o lt in
          record {
            low = (let two = deep tree lawful (o + 1) (omega arith) lt in omega (arith, level, two));
            high = (let le = after_leaf tree lawful o leaf lt in omega (arith, level, le));
            spaced = λ s place tail. subst (λ gap. Leads grammar place gap tail s s) (sym (gap_next o lt)) (space grammar place tail s);
            apart = λ tail. subst (λ gap. is_apart ((replicate (level_of tree o - level_after tree o) 41 ++ gap) ++ tail) ≡ true) (sym (gap_next o lt)) (go (level_of tree o - level_after tree o) tail);
          }
        where
          go : (c : ℕ) (tail : List ℕ) → is_apart ((replicate c 41 ++ codes " ") ++ tail) ≡ true
          go zero tail = refl
          go (suc c) tail = refl

      last : length tree ≤ o + 1 → AfterLeaf o
      last le =
          let level = level_last o le in
          let two = deep tree lawful o some there in
          record {
            low = omega (arith, level);
            high = omega (arith, level, two);
            spaced = λ s place tail. subst (λ gap. Leads grammar place gap tail s s) (sym (gap_last o le)) (nothing grammar place tail s);
            apart = λ tail. go (level_of tree o - level_after tree o) (gap_after tree o) tail (omega (arith, level, two));
          }
        where
          go : (c : ℕ) (gap tail : List ℕ) → 1 ≤ c → is_apart ((replicate c 41 ++ gap) ++ tail) ≡ true
          go zero gap tail one = absurd (omega arith)
          go (suc c) gap tail one = refl

  leaf_added : (k : ℕ) → suc k < length tree → kind_of tree (suc k) ≡ Some Leaf → (place : Place) (tail : List ℕ) → ReadTo tree k place ((codes "leaf" ++ after_word tree (suc k) Leaf) ++ tail) → ReadTo tree (suc k) place tail
  leaf_added k lt is =
      let o : ℕ = suc k in
      let one : k + 1 ≡ o = omega arith in
      let here : level_after tree k ≡ level_of tree o = level_next k (omega (arith, lt)) ∙ ap (level_of tree) one in
      let low = deep tree lawful o (omega arith) lt in
      let after = after_a_leaf o (omega arith) lt is in
      let c : ℕ = level_of tree o - level_after tree o in
      let n : ℕ = level_after tree o - 1 in
      let m : ℕ = level_of tree o - 2 in
      let all : c + suc n ≡ level_after tree k = omega (arith, here, after.low, after.high) in
      let all_of : c + suc n ≡ level_of tree o = omega (arith, after.low, after.high) in
      let rest : suc n ≡ level_after tree o = omega (arith, after.low) in
      let m_is : suc m ≡ level_after tree k - 1 = omega (arith, here, low) in
      let begun : c + n ≡ suc m = omega (arith, low, after.low, after.high) in
      add k (λ place. node Leaf (level_of tree o) place) (codes "leaf" ++ after_word tree o Leaf) (rw is refl) (λ place i. (sym is i, level_of tree o))
      (λ nodes place tail.
      subst (λ s. Leads grammar place (codes "leaf" ++ after_word tree o Leaf) tail (state (read nodes (level_after tree k)) (before (is_inner tree k) (level_after tree k - 1))) s)
      (λ i. state (read (nodes ++ node Leaf (all_of i) place ∷ []) (rest i)) (before (inner i) n))
      (subst (λ s. Leads grammar place (codes "leaf" ++ after_word tree o Leaf) tail s (state (read (nodes ++ node Leaf (c + suc n) place ∷ []) (suc n)) (families n)))
      (λ i. state (read nodes (all i)) (before (is_inner tree k) (m_is i)))
      (leaf_read (is_inner tree k) c n m nodes (gap_after tree o) place tail begun (λ s at. after.spaced s at tail) (after.apart tail))))
    where
      inner : false ≡ is_inner tree (suc k)
      inner = rw is refl

  some_kind : (o : ℕ) → o < length tree → (kind : Kind) × (kind_of tree o ≡ Some kind)
  some_kind o lt = let there = get_within tree o lt in (there.0.kind, ap (option_map (λ n. n.kind)) there.1)

  pub read_to : (k : ℕ) → k < length tree → (place : Place) (tail : List ℕ) → ReadTo tree k place tail
  read_to zero lt place tail = first_read place tail
  read_to (suc k) lt place tail = go (some_kind (suc k) lt).0 (some_kind (suc k) lt).1 (λ tail. read_to k (omega arith) place tail)
    where
      go : (kind : Kind) → kind_of tree (suc k) ≡ Some kind → ((tail : List ℕ) → ReadTo tree k place tail) → ReadTo tree (suc k) place tail
      go Root is so_far = absurd (let zeroth = lawful.shape.one_root (suc k) is in omega (arith, zeroth))
      go Mid is so_far = mid_added k lt is place tail (so_far ((codes "mid" ++ codes "(") ++ tail))
      go Leaf is so_far = leaf_added k lt is place tail (so_far ((codes "leaf" ++ after_word tree (suc k) Leaf) ++ tail))

  -- after the last object all families are closed
  pub ended : (k : ℕ) → suc k ≡ length tree → (level_after tree k ≡ 1) × (is_inner tree k ≡ false)
  ended k all = (level_last k (omega (arith, all)), go (some_kind k (omega (arith, all))).0 (some_kind k (omega (arith, all))).1)
    where
      go : (kind : Kind) → kind_of tree k ≡ Some kind → is_inner tree k ≡ false
      go Leaf is = rw is refl
      go Root is = absurd (let next = after_inner tree lawful k (omega (arith, all)) (not_leaf k Root is refl) in let lt = next.0 in omega (arith, all, lt))
      go Mid is = absurd (let next = after_inner tree lawful k (omega (arith, all)) (not_leaf k Mid is refl) in let lt = next.0 in omega (arith, all, lt))
