-- How many requests a work has in all.
use Rattle.std.proofs.Common.{◌≡◌, ℕ, zero, suc, ◌+◌, ◌*◌, ◌≤◌, Bool, true, false, cond, eqb, not, ◌&&◌, List, [], ◌∷◌, length, get_or, refl, sym, ap, ◌∙◌, subst, arith, None, length-append}
use Rattle.std.specs.Prelude.{map, sum_by, nat_le, nat_lt}
use Rattle.std.specs.Option.{option_or}
use Rattle.std.proofs.lemmas.Bool.{eqb-true, leb-false, ltb-false}
use Rattle.std.proofs.lemmas.List.{length-map}
use Rattle.std.proofs.lemmas.List.Sums.{sum_by-cons, sum_by_push}
use Rattle.hem_base.specs.declared.ids.Message.{Message}
use Rattle.hem_text.specs.declared.text.Place.{Place}
use Rattle.hem_tree.specs.declared.setup.SetupCause.TheVariants.{Request, Requests, Starts}
use Rattle.hem_syntax.specs.Protocol.{Protocol, has_class, is_ext_req}
use Rattle.hem_tree.specs.Tree.{Tree, below}
use Rattle.hem_work.specs.declared.raw.RawEntry.{RawEntry}
use Rattle.hem_work.specs.declared.raw.RawWork.{RawWork}
use Rattle.hem_work.specs.Limits.{most_requests, most_starts}
use Rattle.hem_work.specs.Work.{requests_of, requests_on, requests_in_all}
use Rattle.hem_work.specs.Building.{messages_if, messages_for, requests_in, row_of, table_of, work_of, fault_if, request_count, starts_of, request_fault, requests_fault, heading_fault, entry_fault, entries_fault, counts_fault, starts_fault, first_fault}
use Rattle.hem_work.proofs.FirstFault.{neither, no_fault}

pub sum_map : {X Y : Type 0} (g : Y → ℕ) (f : X → Y) (xs : List X) → sum_by g (map f xs) ≡ sum_by (λ x. g (f x)) xs
sum_map g f [] = refl
sum_map g f (x ∷ xs) = sum_by-cons g (f x) (map f xs) ∙ ap (λ n. g (f x) + n) (sum_map g f xs) ∙ sym (sum_by-cons (λ y. g (f y)) x xs)

pub sum_plus : (f g : ℕ → ℕ) (xs : List ℕ) → sum_by (λ k. f k + g k) xs ≡ sum_by f xs + sum_by g xs
sum_plus f g [] = refl
sum_plus f g (x ∷ xs) =
    let here = sum_by-cons (λ k. f k + g k) x xs in
    let left = sum_by-cons f x xs in
    let right = sum_by-cons g x xs in
    let rest = sum_plus f g xs in
    omega (arith, here, left, right, rest)

sum_le : (f g : ℕ → ℕ) (xs : List ℕ) → ((k : ℕ) → f k ≤ g k) → sum_by f xs ≤ sum_by g xs
sum_le f g [] less = omega arith
sum_le f g (x ∷ xs) less =
    let left = sum_by-cons f x xs in
    let right = sum_by-cons g x xs in
    let rest = sum_le f g xs less in
    let here = less x in
    omega (arith, left, right, rest, here)

pub sum_zero : (xs : List ℕ) → sum_by (λ k. 0) xs ≡ 0
sum_zero [] = refl
sum_zero (x ∷ xs) = let here = sum_by-cons (λ k. 0) x xs in let rest = sum_zero xs in omega (arith, here, rest)

-- m at one place and nothing elsewhere
abbrev spot : ℕ → ℕ → ℕ → ℕ
spot i m k = cond (eqb i k) m 0

none_before : (i m n : ℕ) → n ≤ i → sum_by (spot i m) (below n) ≡ 0
none_before i m zero le = refl
none_before i m (suc n) le = sum_by_push (spot i m) (below n) n ∙ go (none_before i m n (omega arith)) (eqb i n) refl
  where
    go : sum_by (spot i m) (below n) ≡ 0 → (b : Bool) → eqb i n ≡ b → sum_by (spot i m) (below n) + cond b m 0 ≡ 0
    go before true h = absurd (let same = eqb-true i n h in omega (arith, same, le))
    go before false h = omega (arith, before)

sum_spot : (i m n : ℕ) → sum_by (spot i m) (below n) ≤ m
sum_spot i m zero = omega arith
sum_spot i m (suc n) = subst (λ s. s ≤ m) (sym (sum_by_push (spot i m) (below n) n)) (go (sum_spot i m n) (eqb i n) refl)
  where
    go : sum_by (spot i m) (below n) ≤ m → (b : Bool) → eqb i n ≡ b → sum_by (spot i m) (below n) + cond b m 0 ≤ m
    go before true h = let same = eqb-true i n h in let none = none_before i m n (omega (arith, same)) in omega (arith, none)
    go before false h = omega (arith, before)

-- how many requests an entry has at a line and an object
abbrev own : RawEntry → ℕ → ℕ → ℕ
own e line o = length (messages_for line o e)

length_if : (b : Bool) (e : RawEntry) → length (messages_if b e) ≡ cond b (length e.requests) 0
length_if true e = length-map e.requests (λ r. r.0)
length_if false e = refl

own_on : (e : RawEntry) (objects line : ℕ) → sum_by (own e line) (below objects) ≤ spot e.line.0 (length e.requests) line
own_on e objects line = go (eqb e.line.0 line)
  where
    go : (b : Bool) → sum_by (λ o. length (messages_if (b && eqb e.object.0 o) e)) (below objects) ≤ cond b (length e.requests) 0
    go true =
        let less = sum_le (λ o. length (messages_if (eqb e.object.0 o) e)) (spot e.object.0 (length e.requests)) (below objects) (λ o. let is = length_if (eqb e.object.0 o) e in omega (arith, is)) in
        let most = sum_spot e.object.0 (length e.requests) objects in
        omega (arith, less, most)
    go false = let none = sum_zero (below objects) in omega (arith, none)

own_in_all : (e : RawEntry) (lines objects : ℕ) → sum_by (λ line. sum_by (own e line) (below objects)) (below lines) ≤ length e.requests
own_in_all e lines objects =
    let less = sum_le (λ line. sum_by (own e line) (below objects)) (spot e.line.0 (length e.requests)) (below lines) (own_on e objects) in
    let most = sum_spot e.line.0 (length e.requests) lines in
    omega (arith, less, most)

-- how many requests entries have on the lines and objects
abbrev pub counted : List RawEntry → ℕ → ℕ → ℕ
counted es lines objects = sum_by (λ line. sum_by (λ o. length (requests_in es line o)) (below objects)) (below lines)

counted_none : (lines objects : ℕ) → counted [] lines objects ≡ 0
counted_none lines objects = (λ i. sum_by (λ line. sum_zero (below objects) i) (below lines)) ∙ sum_zero (below lines)

counted_more : (e : RawEntry) (es : List RawEntry) (lines objects : ℕ)
    → counted (e ∷ es) lines objects ≡ sum_by (λ line. sum_by (own e line) (below objects)) (below lines) + counted es lines objects
counted_more e es lines objects =
    (λ i. sum_by (λ line. sum_by (λ o. length-append (messages_for line o e) (requests_in es line o) i) (below objects)) (below lines))
    ∙ (λ i. sum_by (λ line. sum_plus (own e line) (λ o. length (requests_in es line o)) (below objects) i) (below lines))
    ∙ sum_plus (λ line. sum_by (own e line) (below objects)) (λ line. sum_by (λ o. length (requests_in es line o)) (below objects)) (below lines)

pub counted_le : (es : List RawEntry) (lines objects : ℕ) → counted es lines objects ≤ request_count es
counted_le [] lines objects = let none = counted_none lines objects in omega (arith, none)
counted_le (e ∷ es) lines objects =
    let more = counted_more e es lines objects in
    let here = own_in_all e lines objects in
    let rest = counted_le es lines objects in
    let all = sum_by-cons (λ (x : RawEntry). length x.requests) e es in
    omega (arith, more, here, rest, all)

-- the lists of a table have in all no more requests than its entries
table_le : (es : List RawEntry) (lines objects : ℕ) → sum_by requests_on (table_of es lines objects) ≤ request_count es
table_le es lines objects =
    let rows = sum_map requests_on (row_of es objects) (below lines) in
    let each : sum_by (λ line. requests_on (row_of es objects line)) (below lines) ≡ counted es lines objects = λ i. sum_by (λ line. sum_map (λ (l : List Message). length l) (requests_in es line) (below objects) i) (below lines) in
    let le = counted_le es lines objects in
    omega (arith, rows, each, le)

-- what one element counts is no more than what all count
pub one_of_all : {X : Type 0} (f : X → ℕ) (xs : List X) (i : ℕ) (d : X) → f d ≡ 0 → f (get_or xs i d) ≤ sum_by f xs
one_of_all f [] i d none = omega (arith, none)
one_of_all f (x ∷ xs) zero d none = let all = sum_by-cons f x xs in omega (arith, all)
one_of_all f (x ∷ xs) (suc i) d none = let all = sum_by-cons f x xs in let rest = one_of_all f xs i d none in omega (arith, all, rest)

requests_fit : (p : Protocol) (n : ℕ) (rs : List (Message × Place)) → n ≤ most_requests → requests_fault p n rs ≡ None → n + length rs ≤ most_requests
requests_fit p n [] le h = omega arith
requests_fit p n (r ∷ rs) le h =
    let parts = neither (request_fault p n r) (requests_fault p (n + 1) rs) h in
    let own = neither (fault_if (not (has_class p r.0.id is_ext_req)) Request r.1) (fault_if (nat_le most_requests n) Requests r.1) parts.0 in
    let few = leb-false most_requests n (no_fault (nat_le most_requests n) Requests r.1 own.1) in
    let rest = requests_fit p (n + 1) rs (omega (arith, few)) parts.1 in
    omega (arith, rest)

entries_fit : (p : Protocol) (tree : Tree) (lines n : ℕ) (es : List RawEntry) → n ≤ most_requests → entries_fault p tree lines n es ≡ None → n + request_count es ≤ most_requests
entries_fit p tree lines n [] le h = omega arith
entries_fit p tree lines n (e ∷ es) le h =
    let parts = neither (entry_fault p tree lines n e) (entries_fault p tree lines (n + length e.requests) es) h in
    let own = neither (heading_fault tree lines e) (requests_fault p n e.requests) parts.0 in
    let here = requests_fit p n e.requests le own.1 in
    let rest = entries_fit p tree lines (n + length e.requests) es here parts.1 in
    let all = sum_by-cons (λ (x : RawEntry). length x.requests) e es in
    omega (arith, rest, all)

-- what a work without a fault counts
pub record Counts (raw : RawWork) (objects : ℕ) : Type 0 where
  pub requests : requests_in_all (work_of raw objects) ≤ most_requests
  pub each : (line o : ℕ) → length (requests_of (work_of raw objects) line o) ≤ most_requests
  pub starts : requests_in_all (work_of raw objects) + raw.self_count.0 * objects * raw.lines.0 ≤ most_starts

within : (t c x m n : ℕ) → t ≤ c → 0 + c ≤ m → c + x ≤ n → (t ≤ m) × (t + x ≤ n)
within t c x m n le few all = (omega arith, omega arith)

pub le_trans : (a b c m : ℕ) → a ≤ b → b ≤ c → c ≤ m → a ≤ m
le_trans a b c m ab bc cm = omega arith

pub counts : (raw : RawWork) (p : Protocol) (tree : Tree) → first_fault raw p tree ≡ None → Counts raw (length tree)
counts raw p tree h =
    let rest = (neither (counts_fault raw) (option_or (entries_fault p tree raw.lines.0 0 raw.entries) (starts_fault raw (length tree))) h).1 in
    let parts = neither (entries_fault p tree raw.lines.0 0 raw.entries) (starts_fault raw (length tree)) rest in
    let few = entries_fit p tree raw.lines.0 0 raw.entries (omega arith) parts.0 in
    let starts = ltb-false most_starts (starts_of raw (length tree)) (no_fault (nat_lt most_starts (starts_of raw (length tree))) Starts raw.place parts.1) in
    let all = table_le raw.entries raw.lines.0 (length tree) in
    let both = within (requests_in_all (work_of raw (length tree))) (request_count raw.entries) (raw.self_count.0 * length tree * raw.lines.0) most_requests most_starts all few starts in
    record {
      requests = both.0;
      each = λ line o. le_trans
          (length (requests_of (work_of raw (length tree)) line o))
          (requests_on (get_or (table_of raw.entries raw.lines.0 (length tree)) line []))
          (requests_in_all (work_of raw (length tree)))
          most_requests
          (one_of_all (λ (l : List Message). length l) (get_or (table_of raw.entries raw.lines.0 (length tree)) line []) o [] refl)
          (one_of_all requests_on (table_of raw.entries raw.lines.0 (length tree)) line [] refl)
          both.0;
      starts = both.1;
    }
