-- The first fault, rule by rule.
use Rattle.std.proofs.Common.{◌≡◌, ℕ, ◌+◌, ◌<◌, ◌≤◌, Bool, true, false, not, List, [], ◌∷◌, length, get_or, drop, take, refl, sym, ap, ◌∙◌, arith, Option, Some, None}
use Rattle.std.specs.Prelude.{slice_get, nat_le, All}
use Rattle.std.specs.Option.{option_or}
use Rattle.std.proofs.lemmas.Bool.{leb-false}
use Rattle.std.proofs.lemmas.List.{drop_more, drop_all}
use Rattle.std.proofs.lemmas.List.Elements.{All-nil, All-cons}
use Rattle.std.proofs.lemmas.List.Sums.{sum_by_more}
use Rattle.std.proofs.lemmas.Option.{slice_get_within}
use Rattle.hem_base.specs.declared.ids.Message.{Message}
use Rattle.hem_text.specs.declared.text.Place.{Place}
use Rattle.hem_tree.specs.declared.setup.SetupFault.{SetupFault as Fault}
use Rattle.hem_tree.specs.declared.setup.SetupCause.{SetupCause}
use Rattle.hem_tree.specs.declared.setup.SetupCause.TheVariants.{Object, Line}
use Rattle.hem_syntax.specs.Protocol.{Protocol}
use Rattle.hem_tree.specs.Tree.{Tree, Node}
use Rattle.hem_work.specs.declared.raw.RawEntry.{RawEntry}
use Rattle.hem_work.specs.declared.raw.RawWork.{RawWork}
use Rattle.hem_work.specs.Building.{fault_if, is_leaf, request_count, request_fault, requests_fault, heading_fault, entry_fault, entries_fault, counts_fault, starts_fault, first_fault}
use Rattle.hem_work.specs.Entries.{IsPlaced}

-- the first of two is there
pub or_first : {X : Type 0} (a b : Option X) (x : X) → a ≡ Some x → option_or a b ≡ Some x
or_first a b x h = rw h refl

pub or_second : {X : Type 0} (a b : Option X) → a ≡ None → option_or a b ≡ b
or_second a b h = rw h refl

pub neither : {X : Type 0} (a b : Option X) → option_or a b ≡ None → (a ≡ None) × (b ≡ None)
neither None b h = (refl, h)
neither (Some x) b h = absurd cc

-- one more request without a fault
pub request_step : (p : Protocol) (before k : ℕ) (rs : List (Message × Place)) (d : Message × Place) → k < length rs → request_fault p (before + k) (get_or rs k d) ≡ None
    → requests_fault p (before + k) (drop k rs) ≡ requests_fault p before rs → requests_fault p (before + (k + 1)) (drop (k + 1) rs) ≡ requests_fault p before rs
request_step p before k rs d lt none so_far =
    let next : before + (k + 1) ≡ before + k + 1 = omega arith in
    ap (λ n. requests_fault p n (drop (k + 1) rs)) next
    ∙ sym (or_second (request_fault p (before + k) (get_or rs k d)) (requests_fault p (before + k + 1) (drop (k + 1) rs)) none)
    ∙ sym (ap (requests_fault p (before + k)) (drop_more rs k d lt))
    ∙ so_far

pub request_found : (p : Protocol) (before k : ℕ) (rs : List (Message × Place)) (d : Message × Place) (f : Fault) → k < length rs → request_fault p (before + k) (get_or rs k d) ≡ Some f
    → requests_fault p (before + k) (drop k rs) ≡ requests_fault p before rs → Some f ≡ requests_fault p before rs
request_found p before k rs d f lt some so_far =
    sym (or_first (request_fault p (before + k) (get_or rs k d)) (requests_fault p (before + k + 1) (drop (k + 1) rs)) f some)
    ∙ sym (ap (requests_fault p (before + k)) (drop_more rs k d lt))
    ∙ so_far

pub requests_end : (p : Protocol) (before k : ℕ) (rs : List (Message × Place)) → length rs ≤ k → requests_fault p (before + k) (drop k rs) ≡ requests_fault p before rs → None ≡ requests_fault p before rs
requests_end p before k rs le so_far = sym (ap (requests_fault p (before + k)) (drop_all k rs le)) ∙ so_far

-- one more entry without a fault
module _ (p : Protocol) (tree : Tree) (lines k n : ℕ) (es : List RawEntry) (d : RawEntry) where
  pub entry_step : k < length es → entry_fault p tree lines n (get_or es k d) ≡ None → entries_fault p tree lines n (drop k es) ≡ entries_fault p tree lines 0 es
      → entries_fault p tree lines (n + length (get_or es k d).requests) (drop (k + 1) es) ≡ entries_fault p tree lines 0 es
  entry_step lt none so_far =
      sym (or_second (entry_fault p tree lines n (get_or es k d)) (entries_fault p tree lines (n + length (get_or es k d).requests) (drop (k + 1) es)) none)
      ∙ sym (ap (entries_fault p tree lines n) (drop_more es k d lt))
      ∙ so_far

  pub entry_found : (f : Fault) → k < length es → entry_fault p tree lines n (get_or es k d) ≡ Some f → entries_fault p tree lines n (drop k es) ≡ entries_fault p tree lines 0 es → Some f ≡ entries_fault p tree lines 0 es
  entry_found f lt some so_far =
      sym (or_first (entry_fault p tree lines n (get_or es k d)) (entries_fault p tree lines (n + length (get_or es k d).requests) (drop (k + 1) es)) f some)
      ∙ sym (ap (entries_fault p tree lines n) (drop_more es k d lt))
      ∙ so_far

  pub count_step : k < length es → n ≡ request_count (take k es) → n + length (get_or es k d).requests ≡ request_count (take (k + 1) es)
  count_step lt is = ap (λ m. m + length (get_or es k d).requests) is ∙ sym (sum_by_more (λ e. length e.requests) es k d lt)

pub entries_end : (p : Protocol) (tree : Tree) (lines k n : ℕ) (es : List RawEntry) → length es ≤ k → entries_fault p tree lines n (drop k es) ≡ entries_fault p tree lines 0 es → None ≡ entries_fault p tree lines 0 es
entries_end p tree lines k n es le so_far = sym (ap (entries_fault p tree lines n) (drop_all k es le)) ∙ so_far

-- entries without a fault have a line and an object that are there
pub no_fault : (b : Bool) (cause : SetupCause) (place : Place) → fault_if b cause place ≡ None → b ≡ false
no_fault true cause place h = absurd cc
no_fault false cause place h = refl

pub not_false : (b : Bool) → not b ≡ false → b ≡ true
not_false true h = refl
not_false false h = absurd cc

leaf_within : (tree : Tree) (o : ℕ) → is_leaf tree o ≡ true → o < length tree
leaf_within tree o h = go (slice_get tree o) refl
  where
    go : (n : Option Node) → slice_get tree o ≡ n → o < length tree
    go None e = let none : is_leaf tree o ≡ false = rw e refl in absurd cc
    go (Some n) e = slice_get_within tree o n e

pub placed_entry : (p : Protocol) (tree : Tree) (lines n : ℕ) (e : RawEntry) → entry_fault p tree lines n e ≡ None → IsPlaced lines (length tree) e
placed_entry p tree lines n e h =
    let heading = (neither (heading_fault tree lines e) (requests_fault p n e.requests) h).0 in
    let parts = neither (fault_if (not (is_leaf tree e.object.0)) Object e.object.1) (fault_if (nat_le lines e.line.0) Line e.line.1) heading in
    record {
      line = leb-false lines e.line.0 (no_fault (nat_le lines e.line.0) Line e.line.1 parts.1);
      object = leaf_within tree e.object.0 (not_false (is_leaf tree e.object.0) (no_fault (not (is_leaf tree e.object.0)) Object e.object.1 parts.0));
    }

placed_entries : (p : Protocol) (tree : Tree) (lines n : ℕ) (es : List RawEntry) → entries_fault p tree lines n es ≡ None → All (IsPlaced lines (length tree)) es
placed_entries p tree lines n [] h = All-nil (IsPlaced lines (length tree))
placed_entries p tree lines n (e ∷ es) h =
    let parts = neither (entry_fault p tree lines n e) (entries_fault p tree lines (n + length e.requests) es) h in
    All-cons (IsPlaced lines (length tree)) e es (placed_entry p tree lines n e parts.0) (placed_entries p tree lines (n + length e.requests) es parts.1)

pub all_placed : (raw : RawWork) (p : Protocol) (tree : Tree) → first_fault raw p tree ≡ None → All (IsPlaced raw.lines.0 (length tree)) raw.entries
all_placed raw p tree h =
    let rest = (neither (counts_fault raw) (option_or (entries_fault p tree raw.lines.0 0 raw.entries) (starts_fault raw (length tree))) h).1 in
    placed_entries p tree raw.lines.0 0 raw.entries (neither (entries_fault p tree raw.lines.0 0 raw.entries) (starts_fault raw (length tree)) rest).0
