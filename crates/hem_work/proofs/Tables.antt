-- The requests of each line and object, entry by entry.
use Rattle.std.proofs.Common.{◌≡◌, ◌≢◌, ℕ, zero, suc, ◌+◌, ◌<◌, Bool, true, false, eqb, ◌&&◌, List, [], ◌∷◌, ◌++◌, length, get_or, set, take, refl, sym, ap, ◌∙◌, arith, ⊎_elim, append-nil, append_assoc}
use Rattle.std.specs.Prelude.{map, slice_get, None}
use Rattle.std.proofs.str.Laws.{order}
use Rattle.std.proofs.lemmas.Bool.{eqb-true, eq-eqb}
use Rattle.std.proofs.lemmas.List.{take_more, map-append, length-map, set-append_left, set_at, get_or_append_left, get_or_at}
use Rattle.hem_base.specs.declared.ids.Message.{Message}
use Rattle.hem_tree.specs.Tree.{below}
use Rattle.hem_tree.proofs.Lawful.{length_below, below_more}
use Rattle.hem_work.specs.declared.raw.RawEntry.{RawEntry}
use Rattle.hem_work.specs.Building.{messages_if, messages_for, requests_in, row_of, table_of}
use Rattle.hem_work.specs.Entries.{with_entry, IsPlaced}

map_below : {X : Type 0} (f : ℕ → X) (n : ℕ) → map f (below (suc n)) ≡ map f (below n) ++ f n ∷ []
map_below f n = map-append f (below n) (n ∷ [])

pub map_below_more : {X : Type 0} (f : ℕ → X) (n : ℕ) → map f (below (n + 1)) ≡ map f (below n) ++ f n ∷ []
map_below_more f n = ap (map f) (below_more n) ∙ map-append f (below n) (n ∷ [])

pub length_map_below : {X : Type 0} (f : ℕ → X) (n : ℕ) → length (map f (below n)) ≡ n
length_map_below f n = length-map (below n) f ∙ length_below n

pub get_map_below : {X : Type 0} (f : ℕ → X) (n i : ℕ) (d : X) → i < n → get_or (map f (below n)) i d ≡ f i
get_map_below f zero i d lt = absurd (omega arith)
get_map_below f (suc n) i d lt =
    ap (λ l. get_or l i d) (map_below f n)
    ∙ ⊎_elim
    (λ low. get_or_append_left (map f (below n)) (f n ∷ []) d i (omega (arith, length_map_below f n)) ∙ get_map_below f n i d low)
    (λ high. let same : n ≡ i = omega arith in get_or_at (map f (below n)) (f n) [] d i (length_map_below f n ∙ same) ∙ ap f same)
    (order i n)

pub map_same : {X : Type 0} (f g : ℕ → X) (n : ℕ) → ((j : ℕ) → j < n → f j ≡ g j) → map f (below n) ≡ map g (below n)
map_same f g zero same = refl
map_same f g (suc n) same =
    map_below f n
    ∙ ap (λ l. l ++ f n ∷ []) (map_same f g n (λ j lt. same j (omega arith)))
    ∙ ap (λ x. map g (below n) ++ x ∷ []) (same n (omega arith))
    ∙ sym (map_below g n)

-- a function changed at one place
pub set_map_below : {X : Type 0} (f g : ℕ → X) (n i : ℕ) → i < n → ((j : ℕ) → j ≢ i → f j ≡ g j) → set (map f (below n)) i (g i) ≡ map g (below n)
set_map_below f g zero i lt same = absurd (omega arith)
set_map_below f g (suc n) i lt same =
    ap (λ l. set l i (g i)) (map_below f n)
    ∙ ⊎_elim
    (λ low.
    set-append_left (map f (below n)) (f n ∷ []) i (g i) (omega (arith, length_map_below f n))
    ∙ ap (λ l. l ++ f n ∷ []) (set_map_below f g n i low same)
    ∙ ap (λ x. map g (below n) ++ x ∷ []) (same n (omega arith)))
    (λ high.
    let here : n ≡ i = omega arith in
    set_at (map f (below n)) (f n) [] (g i) i (length_map_below f n ∙ here)
    ∙ ap (λ l. l ++ g i ∷ []) (map_same f g n (λ j less. same j (omega arith)))
    ∙ ap (λ k. map g (below n) ++ g k ∷ []) (sym here))
    (order i n)
    ∙ sym (map_below g n)

-- one more entry
requests_more : (es : List RawEntry) (e : RawEntry) (line object : ℕ) → requests_in (es ++ e ∷ []) line object ≡ requests_in es line object ++ messages_for line object e
requests_more [] e line object = append-nil (messages_for line object e)
requests_more (x ∷ xs) e line object =
    ap (λ l. messages_for line object x ++ l) (requests_more xs e line object)
    ∙ sym (append_assoc (messages_for line object x) (requests_in xs line object) (messages_for line object e))

pub eqb_other : (a b : ℕ) → b ≢ a → eqb a b ≡ false
eqb_other a b other = go (eqb a b) refl
  where
    go : (t : Bool) → eqb a b ≡ t → t ≡ false
    go true h = absurd (other (sym (eqb-true a b h)))
    go false h = refl

other_line : (e : RawEntry) (line object : ℕ) → line ≢ e.line.0 → messages_for line object e ≡ []
other_line e line object other = rw (eqb_other e.line.0 line other) refl

pub and_false : (b : Bool) → (b && false) ≡ false
and_false true = refl
and_false false = refl

other_object : (e : RawEntry) (line object : ℕ) → object ≢ e.object.0 → messages_for line object e ≡ []
other_object e line object other = ap (λ t. messages_if t e) (ap (λ t. eqb e.line.0 line && t) (eqb_other e.object.0 object other) ∙ and_false (eqb e.line.0 line))

own_messages : (e : RawEntry) → messages_for e.line.0 e.object.0 e ≡ map (λ r. r.0) e.requests
own_messages e = ap (λ t. messages_if t e) (ap (λ t. t && eqb e.object.0 e.object.0) (eq-eqb e.line.0 e.line.0 refl) ∙ eq-eqb e.object.0 e.object.0 refl)

module _ (es : List RawEntry) (e : RawEntry) (lines objects : ℕ) (placed : IsPlaced lines objects e) where
  row_more : set (row_of es objects e.line.0) e.object.0 (requests_in es e.line.0 e.object.0 ++ map (λ r. r.0) e.requests) ≡ row_of (es ++ e ∷ []) objects e.line.0
  row_more =
      ap (λ l. set (row_of es objects e.line.0) e.object.0 (requests_in es e.line.0 e.object.0 ++ l)) (sym (own_messages e))
      ∙ ap (λ l. set (row_of es objects e.line.0) e.object.0 l) (sym (requests_more es e e.line.0 e.object.0))
      ∙ set_map_below (requests_in es e.line.0) (requests_in (es ++ e ∷ []) e.line.0) objects e.object.0 placed.object
      (λ j other. sym (requests_more es e e.line.0 j ∙ ap (λ l. requests_in es e.line.0 j ++ l) (other_object e e.line.0 j other) ∙ append-nil (requests_in es e.line.0 j)))

  other_row : (line : ℕ) → line ≢ e.line.0 → row_of es objects line ≡ row_of (es ++ e ∷ []) objects line
  other_row line other =
      map_same (requests_in es line) (requests_in (es ++ e ∷ []) line) objects
      (λ j lt. sym (requests_more es e line j ∙ ap (λ l. requests_in es line j ++ l) (other_line e line j other) ∙ append-nil (requests_in es line j)))

  old_row : get_or (table_of es lines objects) e.line.0 [] ≡ row_of es objects e.line.0
  old_row = get_map_below (row_of es objects) lines e.line.0 [] placed.line

  pub row_length : length (get_or (table_of es lines objects) e.line.0 []) ≡ objects
  row_length = ap length old_row ∙ length_map_below (requests_in es e.line.0) objects

  pub table_more : with_entry (table_of es lines objects) e ≡ table_of (es ++ e ∷ []) lines objects
  table_more =
      ap (λ row. set (table_of es lines objects) e.line.0 (set row e.object.0 (get_or row e.object.0 [] ++ map (λ r. r.0) e.requests))) old_row
      ∙ ap (λ l. set (table_of es lines objects) e.line.0 (set (row_of es objects e.line.0) e.object.0 (l ++ map (λ r. r.0) e.requests))) (get_map_below (requests_in es e.line.0) objects e.object.0 [] placed.object)
      ∙ ap (λ row. set (table_of es lines objects) e.line.0 row) row_more
      ∙ set_map_below (row_of es objects) (row_of (es ++ e ∷ []) objects) lines e.line.0 placed.line (λ j other. other_row j other)

pub table_length : (es : List RawEntry) (lines objects : ℕ) → length (table_of es lines objects) ≡ lines
table_length es lines objects = length_map_below (row_of es objects) lines

pub row_length_of : (es : List RawEntry) (objects line : ℕ) → length (row_of es objects line) ≡ objects
row_length_of es objects line = length_map_below (requests_in es line) objects

-- nothing stands at a place that isn't there
pub none_there : {X : Type 0} (xs : List X) (k : ℕ) (d : X) → slice_get xs k ≡ None → get_or xs k d ≡ d
none_there [] k d h = refl
none_there (x ∷ xs) zero d h = absurd cc
none_there (x ∷ xs) (suc k) d h = none_there xs k d h

-- the rows after one more entry of the text
pub rows_more : (es : List RawEntry) (k : ℕ) (e : RawEntry) (rows more : List (List (List Message))) (lines objects : ℕ) → k < length es → e ≡ get_or es k e → IsPlaced lines objects e
    → rows ≡ table_of (take k es) lines objects → more ≡ with_entry rows e → more ≡ table_of (take (k + 1) es) lines objects
rows_more es k e rows more lines objects lt is placed so_far added =
    added
    ∙ ap (λ r. with_entry r e) so_far
    ∙ table_more (take k es) e lines objects placed
    ∙ ap (λ l. table_of l lines objects) (sym (take_more es k e lt ∙ ap (λ x. take k es ++ x ∷ []) (sym is)))
