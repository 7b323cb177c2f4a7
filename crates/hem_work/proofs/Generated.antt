-- Generated requests: what they are picked from, and the rows with them.
use Rattle.std.proofs.Common.{◌≡◌, ◌≢◌, ℕ, zero, suc, ◌+◌, ◌*◌, ◌-◌, ◌<◌, ◌≤◌, ◌%◌, Bool, true, false, eqb, List, [], ◌∷◌, ◌++◌, length, get_or, set, refl, sym, ap, ◌∙◌, subst, arith, Some, append-nil, append_assoc}
use Rattle.std.specs.Prelude.{map, filter, All}
use Rattle.std.proofs.Math.Nat.{mod-lt}
use Rattle.std.proofs.lemmas.Bool.{eq-eqb}
use Rattle.std.proofs.lemmas.List.{map-append}
use Rattle.std.proofs.lemmas.List.Elements.{filter-append, All-nil, All-cons, All-append}
use Rattle.std.proofs.lemmas.Option.{slice_get_within}
use Rattle.hem_base.specs.declared.ids.Kind.TheVariants.{Leaf}
use Rattle.hem_base.specs.declared.ids.Message.{Message}
use Rattle.hem_syntax.specs.Protocol.{Protocol}
use Rattle.hem_tree.specs.Tree.{Tree, below, kind_of, parent_of, is_child, IsLawful}
use Rattle.hem_tree.proofs.Lawful.{below_more, filter_none, filter_some, is_number_true}
use Rattle.hem_tree.proofs.Early.{lawful_early}
use Rattle.hem_work.specs.declared.made.Choices.{Choices}
use Rattle.hem_work.specs.declared.made.LeafRequest.{LeafRequest}
use Rattle.hem_work.specs.Work.{Work, requests_of}
use Rattle.hem_work.specs.Building.{is_leaf}
use Rattle.hem_work.specs.Entries.{number_if, with_request, own_table, CanPick}
use Rattle.hem_work.specs.Generator.{number_after, next_number, draw_of, draw_after}
use Rattle.hem_work.specs.Made.{leaves_of, external_ids, picked, request_by, request_after, choices_of, generated_count, is_for, messages_at, table_with}
use Rattle.hem_work.proofs.Tables.{get_map_below, set_map_below, map_same, length_map_below, eqb_other, and_false}

kept_one : (test : ℕ → Bool) (n : ℕ) (b : Bool) → test n ≡ b → filter test (n ∷ []) ≡ number_if b n
kept_one test n true h = rw h refl
kept_one test n false h = rw h refl

-- one more number that a test keeps, or not
pub kept_more : (test : ℕ → Bool) (n : ℕ) (b : Bool) (old new : List ℕ) → b ≡ test n → old ≡ filter test (below n) → new ≡ old ++ number_if b n → new ≡ filter test (below (n + 1))
kept_more test n b old new is so_far more =
    more
    ∙ ap (λ l. l ++ number_if b n) so_far
    ∙ ap (λ l. filter test (below n) ++ l) (sym (kept_one test n b (sym is)))
    ∙ sym (filter-append test (below n) (n ∷ []))
    ∙ ap (filter test) (sym (below_more n))

-- what holds of each number that passes a test holds of those that it keeps
pub all_kept : (test : ℕ → Bool) (P : ℕ → Type 0) (n : ℕ) → ((k : ℕ) → k < n → test k ≡ true → P k) → All P (filter test (below n))
all_kept test P zero each = All-nil P
all_kept test P (suc n) each =
    subst (λ l. All P l) (sym (filter-append test (below n) (n ∷ [])))
    (All-append P (filter test (below n)) (filter test (n ∷ [])) (all_kept test P n (λ k lt is. each k (omega arith) is)) (last (test n) refl))
  where
    last : (b : Bool) → test n ≡ b → All P (filter test (n ∷ []))
    last true h = subst (λ l. All P l) (sym (kept_one test n true h)) (All-cons P n [] (each n (omega arith) h) (All-nil P))
    last false h = subst (λ l. All P l) (sym (kept_one test n false h)) (All-nil P)

-- what a draw picks is one of the list
pub picked_is : (P : ℕ → Type 0) (xs : List ℕ) (draw : ℕ) → All P xs → 0 < length xs → P (picked xs draw)
picked_is P xs draw all some = all (draw % length xs) 0 (mod-lt draw some)

-- the last object of a lawful tree is a leaf
module _ (tree : Tree) (lawful : IsLawful tree) where
  abbrev last : ℕ
  last = length tree - 1

  last_there : last < length tree
  last_there = let some = slice_get_within tree 0 _ lawful.shape.root in omega (arith, some)

  no_child : (k : ℕ) → k < length tree → is_child tree k last ≡ false
  no_child k lt = go (is_child tree k last) refl
    where
      go : (b : Bool) → is_child tree k last ≡ b → b ≡ false
      go false h = refl
      go true h = absurd (let before = (lawful_early tree lawful.shape).early k last (is_number_true (parent_of tree k) last h) in omega (arith, before, lt))

  last_leaf : kind_of tree last ≡ Some Leaf
  last_leaf = (lawful.shape.leaves last last_there).1 (filter_none (λ k. is_child tree k last) (length tree) no_child)

  pub some_leaf : 0 < length (leaves_of tree)
  some_leaf = go (leaves_of tree) refl
    where
      go : (xs : List ℕ) → leaves_of tree ≡ xs → 0 < length xs
      go [] none = absurd (filter_some (is_leaf tree) (length tree) last last_there (rw last_leaf refl) none)
      go (x ∷ xs) some = omega arith

-- where requests are generated there is something to pick from
pub can_pick : (p : Protocol) (tree : Tree) (lines count : ℕ) → IsLawful tree → 1 ≤ lines → 0 < generated_count (external_ids p) count → CanPick (choices_of p tree lines) (length tree)
can_pick p tree lines count lawful some more = record {
  some_leaf = some_leaf tree lawful;
  some_line = omega arith;
  some_id = go (external_ids p) more;
  leaves = all_kept (is_leaf tree) (λ o. o < length tree) (length tree) (λ o lt is. lt);
}
  where
    go : (ids : List ℕ) → 0 < generated_count ids count → 0 < length ids
    go [] h = absurd (omega arith)
    go (id ∷ ids) h = omega arith

-- no requests after the own ones
pub own_is : (work : Work) (objects : ℕ) → own_table work objects ≡ table_with work [] objects
own_is work objects = λ i. map (λ line. map (λ o. append-nil-back (requests_of work line o) i) (below objects)) (below work.lines)
  where
    append-nil-back : (xs : List Message) → xs ≡ xs ++ []
    append-nil-back xs = sym (append-nil xs)

-- one more request after those of the work
module _ (work : Work) (rs : List LeafRequest) (r : LeafRequest) (objects : ℕ) (line_there : r.line < work.lines) (leaf_there : r.leaf < objects) where
  abbrev at : List LeafRequest → ℕ → ℕ → List Message
  at more line o = requests_of work line o ++ messages_at more line o

  abbrev row : List LeafRequest → ℕ → List (List Message)
  row more line = map (at more line) (below objects)

  more_at : (line o : ℕ) → messages_at (rs ++ r ∷ []) line o ≡ messages_at rs line o ++ messages_at (r ∷ []) line o
  more_at line o = ap (map (λ (q : LeafRequest). q.message)) (filter-append (is_for line o) rs (r ∷ [])) ∙ map-append (λ (q : LeafRequest). q.message) (filter (is_for line o) rs) (filter (is_for line o) (r ∷ []))

  here : messages_at (r ∷ []) r.line r.leaf ≡ r.message ∷ []
  here = rw (eq-eqb r.line r.line refl, eq-eqb r.leaf r.leaf refl) refl

  other_line : (line o : ℕ) → line ≢ r.line → messages_at (r ∷ []) line o ≡ []
  other_line line o other = rw (eqb_other r.line line other) refl

  other_leaf : (line o : ℕ) → o ≢ r.leaf → messages_at (r ∷ []) line o ≡ []
  other_leaf line o other = rw (eqb_other r.leaf o other, and_false (eqb r.line line)) refl

  kept : (line o : ℕ) → messages_at (r ∷ []) line o ≡ [] → at rs line o ≡ at (rs ++ r ∷ []) line o
  kept line o none = ap (λ l. requests_of work line o ++ l) (sym (more_at line o ∙ ap (λ l. messages_at rs line o ++ l) none ∙ append-nil (messages_at rs line o)))

  longer : at rs r.line r.leaf ++ r.message ∷ [] ≡ at (rs ++ r ∷ []) r.line r.leaf
  longer =
      append_assoc (requests_of work r.line r.leaf) (messages_at rs r.line r.leaf) (r.message ∷ [])
      ∙ ap (λ l. requests_of work r.line r.leaf ++ l) (ap (λ l. messages_at rs r.line r.leaf ++ l) (sym here) ∙ sym (more_at r.line r.leaf))

  old_row : get_or (table_with work rs objects) r.line [] ≡ row rs r.line
  old_row = get_map_below (row rs) work.lines r.line [] line_there

  pub row_long : length (get_or (table_with work rs objects) r.line []) ≡ objects
  row_long = ap length old_row ∙ length_map_below (at rs r.line) objects

  new_row : set (row rs r.line) r.leaf (at rs r.line r.leaf ++ r.message ∷ []) ≡ row (rs ++ r ∷ []) r.line
  new_row =
      ap (λ l. set (row rs r.line) r.leaf l) longer
      ∙ set_map_below (at rs r.line) (at (rs ++ r ∷ []) r.line) objects r.leaf leaf_there (λ o other. kept r.line o (other_leaf r.line o other))

  pub table_longer : with_request (table_with work rs objects) r ≡ table_with work (rs ++ r ∷ []) objects
  table_longer =
      ap (λ l. set (table_with work rs objects) r.line (set l r.leaf (get_or l r.leaf [] ++ r.message ∷ []))) old_row
      ∙ ap (λ l. set (table_with work rs objects) r.line (set (row rs r.line) r.leaf (l ++ r.message ∷ []))) (get_map_below (at rs r.line) objects r.leaf [] leaf_there)
      ∙ ap (λ l. set (table_with work rs objects) r.line l) new_row
      ∙ set_map_below (row rs) (row (rs ++ r ∷ [])) work.lines r.line line_there (λ line other. map_same (at rs line) (at (rs ++ r ∷ []) line) objects (λ o lt. kept line o (other_line line o other)))

pub table_length : (work : Work) (rs : List LeafRequest) (objects : ℕ) → length (table_with work rs objects) ≡ work.lines
table_length work rs objects = length_map_below (λ line. map (λ o. requests_of work line o ++ messages_at rs line o) (below objects)) work.lines

-- the rows after one more generated request
module _ (work : Work) (choices : Choices) (seed k objects : ℕ) (can : CanPick choices objects) (lines : choices.lines ≡ work.lines) where
  abbrev pub request : LeafRequest
  request = request_after choices seed k

  pub line_is : request.line < work.lines
  line_is = subst (λ n. request.line < n) lines (mod-lt (draw_after seed (3 * k + 1)) can.some_line)

  pub leaf_is : request.leaf < objects
  leaf_is = picked_is (λ o. o < objects) choices.leaves (draw_after seed (3 * k)) can.leaves can.some_leaf

  abbrev pub so_far : List LeafRequest
  so_far = map (request_after choices seed) (below k)

  pub row_is : (rows : List (List (List Message))) → rows ≡ table_with work so_far objects → length (get_or rows request.line []) ≡ objects
  row_is rows is = ap (λ t. length (get_or t request.line [])) is ∙ row_long work so_far request objects line_is leaf_is

  pub rows_longer : (rows new : List (List (List Message))) → rows ≡ table_with work so_far objects → new ≡ with_request rows request → new ≡ table_with work (map (request_after choices seed) (below (k + 1))) objects
  rows_longer rows new is more =
      more
      ∙ ap (λ t. with_request t request) is
      ∙ table_longer work so_far request objects line_is leaf_is
      ∙ ap (λ l. table_with work l objects) (sym (map-append (request_after choices seed) (below k) (k ∷ [])) ∙ ap (map (request_after choices seed)) (sym (below_more k)))

-- the three draws of a request
three : (seed k : ℕ) → number_after seed (3 * (k + 1)) ≡ next_number (next_number (next_number (number_after seed (3 * k))))
three seed k = let e : 3 * (k + 1) ≡ suc (suc (suc (3 * k))) = omega arith in ap (number_after seed) e

pub request_is : (choices : Choices) (seed k number then value : ℕ) (r : LeafRequest) → number ≡ number_after seed (3 * k) → then ≡ next_number (next_number (next_number number)) → value ≡ k + 1
    → r ≡ request_by choices (draw_of (next_number number)) (draw_of (next_number (next_number number))) (draw_of then) value → r ≡ request_after choices seed k
request_is choices seed k number then value r is steps counted here =
    let second : suc (suc (3 * k)) ≡ suc (3 * k + 1) = omega arith in
    let third : suc (suc (suc (3 * k))) ≡ suc (3 * k + 2) = omega arith in
    here
    ∙ ap (λ v. request_by choices (draw_of (next_number number)) (draw_of (next_number (next_number number))) (draw_of then) v) counted
    ∙ ap (λ n. request_by choices (draw_of (next_number number)) (draw_of (next_number (next_number number))) (draw_of n) (k + 1)) steps
    ∙ ap (λ x. request_by choices (draw_of (next_number x)) (draw_of (next_number (next_number x))) (draw_of (next_number (next_number (next_number x)))) (k + 1)) is
    ∙ ap (λ n. request_by choices (draw_after seed (3 * k)) (draw_of (number_after seed n)) (draw_of (number_after seed (suc (suc (suc (3 * k)))))) (k + 1)) second
    ∙ ap (λ n. request_by choices (draw_after seed (3 * k)) (draw_after seed (3 * k + 1)) (draw_of (number_after seed n)) (k + 1)) third

pub number_is : (seed k number then : ℕ) → number ≡ number_after seed (3 * k) → then ≡ next_number (next_number (next_number number)) → then ≡ number_after seed (3 * (k + 1))
number_is seed k number then is steps = steps ∙ ap (λ x. next_number (next_number (next_number x))) is ∙ sym (three seed k)
