-- The canonical text of a work reads as that work.
use Rattle.std.proofs.Common.{◌≡◌, ◌≢◌, ℕ, zero, suc, ◌+◌, ◌*◌, ◌<◌, ◌≤◌, ◌^◌, Bool, true, false, cond, eqb, not, ◌&&◌, List, [], ◌∷◌, ◌++◌, length, map, refl, sym, ap, ◌∙◌, subst, arith, append-nil, Option, Some, None, ⊎_elim}
use Rattle.std.specs.Prelude.{fold, flat_map, codes, nat_le, nat_lt, sum_by, slice_get, option_map, All}
use Rattle.std.specs.Option.{option_or}
use Rattle.std.proofs.str.Laws.{order}
use Rattle.std.proofs.lemmas.Bool.{le-leb, eq-eqb}
use Rattle.std.proofs.lemmas.Grind.{flat_map-append}
use Rattle.std.proofs.lemmas.List.{length-map}
use Rattle.std.proofs.lemmas.List.Elements.{All-nil, All-cons, All-append, All-head, All-tail}
use Rattle.std.proofs.lemmas.List.Sums.{sum_by-cons, sum_by-append}
use Rattle.std.proofs.lemmas.Option.{slice_get_within}
use Rattle.hem_base.specs.declared.ids.Message.{Message}
use Rattle.hem_text.specs.declared.text.Place.{Place}
use Rattle.hem_text.specs.Tokens.{advance}
use Rattle.hem_text.specs.Grammars.{state}
use Rattle.hem_tree.specs.declared.setup.SetupCause.{SetupCause}
use Rattle.hem_tree.specs.declared.setup.SetupCause.TheVariants.{Lines, SelfCount, Object, Line, Request, Requests, Starts}
use Rattle.hem_syntax.specs.declared.rule.Class.{Class}
use Rattle.hem_syntax.specs.declared.rule.Class.TheVariants.{ExtReq}
use Rattle.hem_syntax.specs.Protocol.{Protocol, has_class, is_ext_req}
use Rattle.hem_syntax.specs.Lawful.{IsProtocol}
use Rattle.hem_tree.specs.Tree.{Tree, below, IsLawful}
use Rattle.hem_work.specs.declared.raw.RawEntry.{RawEntry}
use Rattle.hem_work.specs.declared.raw.RawWork.{RawWork}
use Rattle.hem_work.specs.Limits.{most_lines, most_self, most_requests, most_starts, most_number}
use Rattle.hem_work.specs.Work.{Work, requests_of, requests_in_all}
use Rattle.hem_work.specs.Grammar.{grammar, start, nothing as nothing_read, nowhere}
use Rattle.hem_work.specs.WorkReading.{raw_of}
use Rattle.hem_work.specs.Building.{messages_if, requests_in, row_of, table_of, fault_if, request_count, starts_of, is_leaf, request_fault, requests_fault, heading_fault, entry_fault, entries_fault, counts_fault, starts_fault, first_fault}
use Rattle.hem_work.specs.Lawful.{IsExternal, IsLawfulWork}
use Rattle.hem_work.proofs.Tables.{map_same, eqb_other, and_false}
use Rattle.hem_work.proofs.Totals.{sum_map, sum_plus, sum_zero}
use Rattle.hem_work.proofs.MadeFits.{counts, own_rows, own_count}
use Rattle.hem_worktext.specs.WorkText.{entry_if_any, entries_of, head_text, objects_of, work_text}
use Rattle.hem_worktext.specs.ReadsBack.{HasNumbers, WorkReadsBack}
use Rattle.hem_worktext.proofs.Leads.{Leads, then, part}
use Rattle.hem_worktext.proofs.Steps.{not_le, not_lt}
use Rattle.hem_worktext.proofs.WorkRuns.{Plain, plain, IsPlain, Gives, gives_none, gives_all, entry_read, end_read, head_read, env}

-- lists of numbers below a number

pub all_below : (P : ℕ → Type 0) (n : ℕ) → ((k : ℕ) → k < n → P k) → All P (below n)
all_below P zero each = All-nil P
all_below P (suc n) each = All-append P (below n) (n ∷ []) (all_below P n (λ k lt. each k (omega arith))) (All-cons P n [] (each n (omega arith)) (All-nil P))

flat_last : {A : Type 0} (g : ℕ → List A) (n : ℕ) → flat_map g (below (suc n)) ≡ flat_map g (below n) ++ g n
flat_last g n = flat_map-append g (below n) (n ∷ []) ∙ ap (λ l. flat_map g (below n) ++ l) (append-nil (g n))

none_below : {A : Type 0} (g : ℕ → List A) (n : ℕ) → ((j : ℕ) → j < n → g j ≡ []) → flat_map g (below n) ≡ []
none_below g zero none = refl
none_below g (suc n) none = flat_last g n ∙ (λ i. none_below g n (λ j lt. none j (omega arith)) i ++ none n (omega arith) i)

only_below : {A : Type 0} (g : ℕ → List A) (n i : ℕ) → i < n → ((j : ℕ) → j ≢ i → g j ≡ []) → flat_map g (below n) ≡ g i
only_below g zero i lt others = absurd (omega arith)
only_below g (suc n) i lt others =
    flat_last g n
    ∙ ⊎_elim
    (λ low. ap (λ l. flat_map g (below n) ++ l) (others n (omega arith)) ∙ append-nil (flat_map g (below n)) ∙ only_below g n i low others)
    (λ high. let same : n ≡ i = omega arith in ap (λ l. l ++ g n) (none_below g n (λ j less. others j (omega arith))) ∙ ap g same)
    (order i n)

flat_flat : {X Y Z : Type 0} (h : Y → List Z) (f : X → List Y) (xs : List X) → flat_map h (flat_map f xs) ≡ flat_map (λ x. flat_map h (f x)) xs
flat_flat h f [] = refl
flat_flat h f (x ∷ xs) = flat_map-append h (f x) (flat_map f xs) ∙ ap (λ l. flat_map h (f x) ++ l) (flat_flat h f xs)

all_flat : {X Y : Type 0} (P : Y → Type 0) (f : X → List Y) (xs : List X) → All (λ x. All P (f x)) xs → All P (flat_map f xs)
all_flat P f [] all = All-nil P
all_flat P f (x ∷ xs) all = All-append P (f x) (flat_map f xs) (All-head (λ x. All P (f x)) x xs all) (all_flat P f xs (All-tail (λ x. All P (f x)) x xs all))

sum_flat : {X Y : Type 0} (h : Y → ℕ) (f : X → List Y) (xs : List X) → sum_by h (flat_map f xs) ≡ sum_by (λ x. sum_by h (f x)) xs
sum_flat h f [] = refl
sum_flat h f (x ∷ xs) =
    let all = sum_by-append h (f x) (flat_map f xs) in
    let rest = sum_flat h f xs in
    let first = sum_by-cons (λ x. sum_by h (f x)) x xs in
    omega (arith, all, rest, first)

sums_turned : (f : ℕ → ℕ → ℕ) (xs ys : List ℕ) → sum_by (λ x. sum_by (λ y. f x y) ys) xs ≡ sum_by (λ y. sum_by (λ x. f x y) xs) ys
sums_turned f [] ys = sym (sum_zero ys)
sums_turned f (x ∷ xs) ys =
    let first = sum_by-cons (λ x. sum_by (λ y. f x y) ys) x xs in
    let rest = sums_turned f xs ys in
    let both = sum_plus (λ y. f x y) (λ y. sum_by (λ x. f x y) xs) ys in
    let each : sum_by (λ y. sum_by (λ x. f x y) (x ∷ xs)) ys ≡ sum_by (λ y. f x y + sum_by (λ x. f x y) xs) ys = λ i. sum_by (λ y. sum_by-cons (λ x. f x y) x xs i) ys in
    omega (arith, first, rest, both, each)

-- the entry of an object and a line, where there are requests
abbrev plain_if : ℕ → ℕ → List Message → List Plain
plain_if o line [] = []
plain_if o line (m ∷ ms) = record { object = o; line = line; requests = m ∷ ms } ∷ []

-- the requests of an entry, where it is one of this line and object
abbrev of_plain : ℕ → ℕ → Plain → List Message
of_plain line o q = cond (eqb q.line line && eqb q.object o) q.requests []

requests_plain : (es : List RawEntry) (line o : ℕ) → requests_in es line o ≡ flat_map (of_plain line o) (map plain es)
requests_plain [] line o = refl
requests_plain (e ∷ es) line o = λ i. go (eqb e.line.0 line && eqb e.object.0 o) i ++ requests_plain es line o i
  where
    go : (b : Bool) → messages_if b e ≡ cond b (map (λ r. r.0) e.requests) []
    go true = refl
    go false = refl

cell_plain : (line o line' o' : ℕ) (ms : List Message) → flat_map (of_plain line o) (plain_if o' line' ms) ≡ cond (eqb line' line && eqb o' o) ms []
cell_plain line o line' o' [] = sym (nothing (eqb line' line && eqb o' o))
  where
    nothing : (b : Bool) → cond {A = List Message} b [] [] ≡ []
    nothing true = refl
    nothing false = refl
cell_plain line o line' o' (m ∷ ms) = append-nil (cond (eqb line' line && eqb o' o) (m ∷ ms) [])

-- an entry that keeps the rules
pub record FitsPlain (p : Protocol) (tree : Tree) (lines : ℕ) (q : Plain) : Type 0 where
  pub leaf : is_leaf tree q.object ≡ true
  pub line : q.line < lines
  pub external : All (IsExternal p) q.requests

-- tests that fail

no_fault_if : (b : Bool) (cause : SetupCause) (place : Place) → b ≡ false → fault_if b cause place ≡ None
no_fault_if b cause place h = rw h refl

neither_one : {X : Type 0} (a b : Option X) → a ≡ None → b ≡ None → option_or a b ≡ None
neither_one a b h k = rw (h, k) refl

is_external : (p : Protocol) (m : Message) → IsExternal p m → not (has_class p m.id is_ext_req) ≡ false
is_external p m h = rw h refl

requests_kept : (p : Protocol) (n : ℕ) (rs : List (Message × Place)) → All (IsExternal p) (map (λ r. r.0) rs) → n + length rs ≤ most_requests → requests_fault p n rs ≡ None
requests_kept p n [] all few = refl
requests_kept p n (r ∷ rs) all few =
    neither_one (request_fault p n r) (requests_fault p (n + 1) rs)
    (neither_one (fault_if (not (has_class p r.0.id is_ext_req)) Request r.1) (fault_if (nat_le most_requests n) Requests r.1)
    (no_fault_if _ Request r.1 (is_external p r.0 (All-head (IsExternal p) r.0 (map (λ r. r.0) rs) all)))
    (no_fault_if _ Requests r.1 (not_le most_requests n (omega (arith, few)))))
    (requests_kept p (n + 1) rs (All-tail (IsExternal p) r.0 (map (λ r. r.0) rs) all) (omega (arith, few)))

entries_kept : (p : Protocol) (tree : Tree) (lines n : ℕ) (es : List RawEntry) → All (FitsPlain p tree lines) (map plain es) → n + request_count es ≤ most_requests → entries_fault p tree lines n es ≡ None
entries_kept p tree lines n [] all few = refl
entries_kept p tree lines n (e ∷ es) all few =
    let here = All-head (FitsPlain p tree lines) (plain e) (map plain es) all in
    let count = sum_by-cons (λ (x : RawEntry). length x.requests) e es in
    neither_one (entry_fault p tree lines n e) (entries_fault p tree lines (n + length e.requests) es)
    (neither_one (heading_fault tree lines e) (requests_fault p n e.requests)
    (neither_one (fault_if (not (is_leaf tree e.object.0)) Object e.object.1) (fault_if (nat_le lines e.line.0) Line e.line.1)
    (no_fault_if _ Object e.object.1 (ap not here.leaf))
    (no_fault_if _ Line e.line.1 (not_le lines e.line.0 here.line)))
    (requests_kept p n e.requests here.external (omega (arith, few, count))))
    (entries_kept p tree lines (n + length e.requests) es (All-tail (FitsPlain p tree lines) (plain e) (map plain es) all) (omega (arith, few, count)))

module _ (p : Protocol) (tree : Tree) (work : Work) (good : IsProtocol p) (tree_good : IsLawful tree) (lawful : IsLawfulWork p tree work) (values : (o : ℕ) → o < objects_of work → HasNumbers work o) where
  abbrev n : ℕ
  n = objects_of work

  all_objects : n ≡ length tree
  all_objects = lawful.each_object 0 lawful.limits.some_line

  -- the entries of the work without places, by object and then by line
  abbrev of_object : ℕ → List Plain
  of_object o = flat_map (λ line. plain_if o line (requests_of work line o)) (below work.lines)

  abbrev expected : List Plain
  expected = flat_map of_object (below n)

  declared : (m : Message) → IsExternal p m → m.id.0 < length p.messages
  declared m is = go (slice_get p.messages m.id.0) refl is
    where
      go : (o : Option (List ℕ × Class)) → slice_get p.messages m.id.0 ≡ o → option_map (λ (m : List ℕ × Class). m.1) o ≡ Some ExtReq → m.id.0 < length p.messages
      go None e h = absurd cc
      go (Some c) e h = slice_get_within p.messages m.id.0 c e

  all_plain : (ms : List Message) → All (IsExternal p) ms → All (λ m. m.value < 2 ^ 64) ms → All (IsPlain p) ms
  all_plain [] external small = All-nil (IsPlain p)
  all_plain (m ∷ ms) external small =
      All-cons (IsPlain p) m ms
      (record { id = declared m (All-head (IsExternal p) m ms external); value = All-head (λ m. m.value < 2 ^ 64) m ms small })
      (all_plain ms (All-tail (IsExternal p) m ms external) (All-tail (λ m. m.value < 2 ^ 64) m ms small))

  module _ (pl : Place) (lines selfs : ℕ × Place) where
    entry_gives : (o line : ℕ) (ms : List Message) → o ≤ most_number → line ≤ most_number → All (IsPlain p) ms → Gives p good pl lines selfs (entry_if_any p o line ms) (plain_if o line ms)
    entry_gives o line [] few_objects few_lines all = gives_none p good pl lines selfs
    entry_gives o line (m ∷ ms) few_objects few_lines all = record { read = λ es b object message place tail. entry_read p good pl lines selfs es b object message o line (m ∷ ms) place tail few_objects few_lines all }

    entries_give : Gives p good pl lines selfs (flat_map (entries_of p work) (below n)) expected
    entries_give =
        gives_all p good pl lines selfs (entries_of p work) of_object (below n)
        (all_below (λ o. Gives p good pl lines selfs (entries_of p work o) (of_object o)) n
        (λ o there.
        gives_all p good pl lines selfs (λ line. entry_if_any p o line (requests_of work line o)) (λ line. plain_if o line (requests_of work line o)) (below work.lines)
        (all_below (λ line. Gives p good pl lines selfs (entry_if_any p o line (requests_of work line o)) (plain_if o line (requests_of work line o))) work.lines
        (λ line lt. entry_gives o line (requests_of work line o) (few_objects o there) (few_lines line lt) (all_plain (requests_of work line o) (lawful.external line o) (values o there line lt))))))
      where
        few_objects : (o : ℕ) → o < n → o ≤ most_number
        few_objects o lt = let few = tree_good.objects in omega (arith, lt, few, all_objects)

        few_lines : (line : ℕ) → line < work.lines → line ≤ most_number
        few_lines line lt = let few = lawful.limits.few_lines in omega (arith, lt, few)

  -- each entry keeps the rules

  cell_fits : (o line : ℕ) → line < work.lines → All (FitsPlain p tree work.lines) (plain_if o line (requests_of work line o))
  cell_fits o line lt = go (requests_of work line o) refl
    where
      go : (ms : List Message) → requests_of work line o ≡ ms → All (FitsPlain p tree work.lines) (plain_if o line ms)
      go [] is = All-nil (FitsPlain p tree work.lines)
      go (m ∷ ms) is =
          let some : requests_of work line o ≢ [] = λ none. (let clash : (m ∷ ms) ≡ [] = sym is ∙ none in cc) in
          All-cons (FitsPlain p tree work.lines) (record { object = o; line = line; requests = m ∷ ms }) []
          (record { leaf = rw (lawful.leaves line o some) refl; line = lt; external = subst (λ (l : List Message). All (IsExternal p) l) is (lawful.external line o) })
          (All-nil (FitsPlain p tree work.lines))

  all_fit : All (FitsPlain p tree work.lines) expected
  all_fit =
      all_flat (FitsPlain p tree work.lines) of_object (below n)
      (all_below (λ o. All (FitsPlain p tree work.lines) (of_object o)) n
      (λ o there. all_flat (FitsPlain p tree work.lines) (λ line. plain_if o line (requests_of work line o)) (below work.lines) (all_below (λ line. All (FitsPlain p tree work.lines) (plain_if o line (requests_of work line o))) work.lines (λ line lt. cell_fits o line lt))))

  -- the requests of an object and a line are found again

  in_object : (line o o' : ℕ) → flat_map (of_plain line o) (of_object o') ≡ flat_map (λ line'. cond (eqb line' line && eqb o' o) (requests_of work line' o') []) (below work.lines)
  in_object line o o' =
      flat_flat (of_plain line o) (λ line'. plain_if o' line' (requests_of work line' o')) (below work.lines)
      ∙ (λ i. flat_map (λ line'. cell_plain line o line' o' (requests_of work line' o') i) (below work.lines))

  other_object : (line o o' : ℕ) → o' ≢ o → flat_map (of_plain line o) (of_object o') ≡ []
  other_object line o o' other =
      in_object line o o'
      ∙ none_below (λ line'. cond (eqb line' line && eqb o' o) (requests_of work line' o') []) work.lines
      (λ line' lt. ap (λ b. cond (eqb line' line && b) (requests_of work line' o') []) (eqb_other o' o (λ same. other (sym same))) ∙ ap (λ b. cond b (requests_of work line' o') []) (and_false (eqb line' line)))

  same_object : (line o : ℕ) → line < work.lines → flat_map (of_plain line o) (of_object o) ≡ requests_of work line o
  same_object line o lt =
      in_object line o o
      ∙ only_below (λ line'. cond (eqb line' line && eqb o o) (requests_of work line' o) []) work.lines line lt
      (λ line' other. ap (λ b. cond (b && eqb o o) (requests_of work line' o) []) (eqb_other line' line (λ same. other (sym same))))
      ∙ (λ i. cond (eq-eqb line line refl i && eq-eqb o o refl i) (requests_of work line o) [])

  requests_back : (es : List RawEntry) → map plain es ≡ expected → (line o : ℕ) → line < work.lines → o < n → requests_in es line o ≡ requests_of work line o
  requests_back es are line o lt there =
      requests_plain es line o
      ∙ ap (flat_map (of_plain line o)) are
      ∙ flat_flat (of_plain line o) of_object (below n)
      ∙ only_below (λ o'. flat_map (of_plain line o) (of_object o')) n o there (λ o' other. other_object line o o' other)
      ∙ same_object line o lt

  table_back : (es : List RawEntry) → map plain es ≡ expected → table_of es work.lines (length tree) ≡ work.requests
  table_back es are =
      map_same (row_of es (length tree)) (λ line. map (requests_of work line) (below (length tree))) work.lines
      (λ line lt. map_same (requests_in es line) (requests_of work line) (length tree) (λ o there. requests_back es are line o lt (omega (arith, there, all_objects))))
      ∙ own_rows p tree work lawful

  -- there are as many requests

  cell_count : (o line : ℕ) (ms : List Message) → sum_by (λ (q : Plain). length q.requests) (plain_if o line ms) ≡ length ms
  cell_count o line [] = refl
  cell_count o line (m ∷ ms) = let one = sum_by-cons (λ (q : Plain). length q.requests) (record { object = o; line = line; requests = m ∷ ms }) [] in omega (arith, one)

  count_plain : (es : List RawEntry) → request_count es ≡ sum_by (λ (q : Plain). length q.requests) (map plain es)
  count_plain es =
      (λ i. sum_by (λ (e : RawEntry). sym (length-map e.requests (λ r. r.0)) i) es)
      ∙ sym (sum_map (λ (q : Plain). length q.requests) plain es)

  count_back : (es : List RawEntry) → map plain es ≡ expected → request_count es ≡ requests_in_all work
  count_back es are =
      count_plain es
      ∙ ap (sum_by (λ (q : Plain). length q.requests)) are
      ∙ sum_flat (λ (q : Plain). length q.requests) of_object (below n)
      ∙ (λ i. sum_by (λ o. sum_flat (λ (q : Plain). length q.requests) (λ line. plain_if o line (requests_of work line o)) (below work.lines) i) (below n))
      ∙ (λ i. sum_by (λ o. sum_by (λ line. cell_count o line (requests_of work line o) i) (below work.lines)) (below n))
      ∙ sums_turned (λ o line. length (requests_of work line o)) (below n) (below work.lines)
      ∙ ap (λ m. counts (requests_of work) work.lines m) all_objects
      ∙ own_count p tree work lawful

  -- a text of these numbers and entries has no fault
  module _ (raw : RawWork) (lines : raw.lines.0 ≡ work.lines) (selfs : raw.self_count.0 ≡ work.self_count) (are : map plain raw.entries ≡ expected) where
    counts_kept : counts_fault raw ≡ None
    counts_kept =
        let limits = lawful.limits in
        let some : 1 ≤ raw.lines.0 = omega (arith, limits.some_line, lines) in
        let few : raw.lines.0 ≤ most_lines = omega (arith, limits.few_lines, lines) in
        let tests : not (nat_le 1 raw.lines.0 && nat_le raw.lines.0 most_lines) ≡ false = rw (le-leb 1 raw.lines.0 some, le-leb raw.lines.0 most_lines few) refl in
        neither_one (fault_if (not (nat_le 1 raw.lines.0 && nat_le raw.lines.0 most_lines)) Lines raw.lines.1) (fault_if (nat_lt most_self raw.self_count.0) SelfCount raw.self_count.1)
        (no_fault_if _ Lines raw.lines.1 tests)
        (no_fault_if _ SelfCount raw.self_count.1 (not_lt most_self raw.self_count.0 (omega (arith, limits.few_self, selfs))))

    all_kept : entries_fault p tree raw.lines.0 0 raw.entries ≡ None
    all_kept =
        let few = lawful.limits.few_requests in
        let count = count_back raw.entries are in
        subst (λ m. entries_fault p tree m 0 raw.entries ≡ None) (sym lines)
        (entries_kept p tree work.lines 0 raw.entries (subst (λ (l : List Plain). All (FitsPlain p tree work.lines) l) (sym are) all_fit) (omega (arith, few, count)))

    starts_kept : starts_fault raw (length tree) ≡ None
    starts_kept =
        let few = lawful.limits.few_starts in
        let same : starts_of raw (length tree) ≡ requests_in_all work + work.self_count * length tree * work.lines = λ i. count_back raw.entries are i + selfs i * length tree * lines i in
        no_fault_if _ Starts raw.place (not_lt most_starts (starts_of raw (length tree)) (omega (arith, few, same)))

    pub faultless : first_fault raw p tree ≡ None
    faultless =
        neither_one (counts_fault raw) (option_or (entries_fault p tree raw.lines.0 0 raw.entries) (starts_fault raw (length tree))) counts_kept
        (neither_one (entries_fault p tree raw.lines.0 0 raw.entries) (starts_fault raw (length tree)) all_kept starts_kept)

  pub work_back : (place : Place) (tail : List ℕ) → WorkReadsBack p tree work place tail
  work_back place tail =
      let few_lines : work.lines ≤ most_number = (let few = lawful.limits.few_lines in omega (arith, few)) in
      let few_self : work.self_count ≤ most_number = (let few = lawful.limits.few_self in omega (arith, few)) in
      let text = flat_map (entries_of p work) (below n) in
      let head = head_read p good work place (text ++ (codes "end\n" ++ tail)) few_lines few_self in
      let lines : ℕ × Place = (work.lines, head.lines) in
      let selfs : ℕ × Place = (work.self_count, head.selfs) in
      let entries = (entries_give head.word lines selfs).read [] false (0, nowhere) (record { 0 = 0 }, nowhere) (fold advance place (head_text work)) (codes "end\n" ++ tail) in
      let ended = end_read p good head.word lines selfs entries.new entries.inner entries.object_after entries.message_after (fold advance place (head_text work ++ text)) tail in
      let last = env p head.word lines selfs entries.new entries.object_after entries.message_after in
      let whole : Leads grammar place (work_text p work) tail (state (nothing_read p) start) (state last []) =
      then grammar place (head_text work ++ text) (codes "end\n") tail _ _ _
      (then grammar place (head_text work) text (codes "end\n" ++ tail) _ _ _ head.leads entries.leads)
      ended in
      record {
        raw = raw_of last;
        reads = record { read = last; part = part grammar place (work_text p work) tail (state (nothing_read p) start) last whole; says = refl };
        faultless = faultless (raw_of last) refl refl entries.are;
        says = λ i. record { place = head.word; lines = work.lines; self_count = work.self_count; requests = table_back entries.new entries.are i };
      }
