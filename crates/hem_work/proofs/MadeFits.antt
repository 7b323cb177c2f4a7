-- A lawful work stays lawful with generated requests.
use Rattle.std.proofs.Common.{◌≡◌, ◌≢◌, ℕ, zero, suc, ◌+◌, ◌*◌, ◌<◌, ◌≤◌, Bool, true, false, eqb, ◌&&◌, List, [], ◌∷◌, ◌++◌, length, get_or, refl, sym, ap, ◌∙◌, subst, arith, Some, None, ⊎_elim, inl, inr, ◌⊎◌, length-append}
use Rattle.std.specs.Prelude.{map, sum_by, nat_lt, All}
use Rattle.std.proofs.str.Laws.{order}
use Rattle.std.proofs.lemmas.Bool.{ltb-false}
use Rattle.std.proofs.lemmas.List.{get_or_past, ext_get_or}
use Rattle.std.proofs.lemmas.List.Elements.{All-nil, All-cons, All-append}
use Rattle.std.proofs.lemmas.List.Sums.{sum_by-cons}
use Rattle.hem_base.specs.declared.ids.Kind.TheVariants.{Leaf}
use Rattle.hem_base.specs.declared.ids.Message.{Message}
use Rattle.hem_tree.specs.declared.setup.SetupCause.TheVariants.{Requests, Starts}
use Rattle.hem_syntax.specs.Protocol.{Protocol}
use Rattle.hem_tree.specs.Tree.{Tree, below, kind_of, IsLawful}
use Rattle.hem_work.specs.declared.raw.RawEntry.{RawEntry}
use Rattle.hem_work.specs.declared.made.LeafRequest.{LeafRequest}
use Rattle.hem_work.specs.Grammar.{nowhere}
use Rattle.hem_work.specs.Limits.{most_requests, most_starts}
use Rattle.hem_work.specs.Work.{Work, requests_of, requests_on, requests_in_all}
use Rattle.hem_work.specs.Building.{messages_if, requests_in, request_count, is_leaf, fault_if}
use Rattle.hem_work.specs.Lawful.{IsExternal, IsLawfulWork}
use Rattle.hem_work.specs.Entries.{own_table, CanPick}
use Rattle.hem_work.specs.Made.{leaves_of, is_external_id, external_ids, request_after, choices_of, generated_count, generated, messages_at, table_with, made, made_fault}
use Rattle.hem_work.specs.Generator.{draw_after}
use Rattle.hem_work.proofs.Tables.{get_map_below, length_map_below}
use Rattle.hem_work.proofs.FirstFault.{neither, no_fault}
use Rattle.hem_work.proofs.Totals.{sum_map, sum_plus, counted, counted_le, one_of_all, le_trans}
use Rattle.hem_work.proofs.Fits.{FitsEntry, external_in, leaf_in, leaf_of, external_class}
use Rattle.hem_work.proofs.Generated.{all_kept, picked_is, can_pick, table_length}

-- a generated request, as an entry of a text would have it
abbrev entry_of : LeafRequest → RawEntry
entry_of r = record { object = (r.leaf, nowhere); line = (r.line, nowhere); requests = (r.message, nowhere) ∷ [] }

abbrev entries : List LeafRequest → List RawEntry
entries rs = map entry_of rs

messages_are : (rs : List LeafRequest) (line o : ℕ) → messages_at rs line o ≡ requests_in (entries rs) line o
messages_are [] line o = refl
messages_are (r ∷ rs) line o = go (eqb r.line line && eqb r.leaf o) refl (messages_are rs line o)
  where
    go : (b : Bool) → (eqb r.line line && eqb r.leaf o) ≡ b → messages_at rs line o ≡ requests_in (entries rs) line o → messages_at (r ∷ rs) line o ≡ messages_if (eqb r.line line && eqb r.leaf o) (entry_of r) ++ requests_in (entries rs) line o
    go true h rest = rw h (ap (λ (l : List Message). r.message ∷ l) rest)
    go false h rest = rw h rest

count_is : (rs : List LeafRequest) → request_count (entries rs) ≡ length rs
count_is [] = refl
count_is (r ∷ rs) = let all = sum_by-cons (λ (e : RawEntry). length e.requests) (entry_of r) (entries rs) in let rest = count_is rs in omega (arith, all, rest)

-- the lists of a table over so many lines and objects
abbrev tabled : (ℕ → ℕ → List Message) → ℕ → ℕ → List (List (List Message))
tabled f lines objects = map (λ line. map (f line) (below objects)) (below lines)

abbrev pub counts : (ℕ → ℕ → List Message) → ℕ → ℕ → ℕ
counts f lines objects = sum_by (λ line. sum_by (λ o. length (f line o)) (below objects)) (below lines)

tabled_count : (f : ℕ → ℕ → List Message) (lines objects : ℕ) → sum_by requests_on (tabled f lines objects) ≡ counts f lines objects
tabled_count f lines objects =
    sum_map requests_on (λ line. map (f line) (below objects)) (below lines)
    ∙ (λ i. sum_by (λ line. sum_map (λ (l : List Message). length l) (f line) (below objects) i) (below lines))

counts_both : (f g : ℕ → ℕ → List Message) (lines objects : ℕ) → counts (λ line o. f line o ++ g line o) lines objects ≡ counts f lines objects + counts g lines objects
counts_both f g lines objects =
    (λ i. sum_by (λ line. sum_by (λ o. length-append (f line o) (g line o) i) (below objects)) (below lines))
    ∙ (λ i. sum_by (λ line. sum_plus (λ o. length (f line o)) (λ o. length (g line o)) (below objects) i) (below lines))
    ∙ sum_plus (λ line. sum_by (λ o. length (f line o)) (below objects)) (λ line. sum_by (λ o. length (g line o)) (below objects)) (below lines)

-- a list by its places
by_place : {X : Type 0} (xs : List X) (d : X) (n : ℕ) → length xs ≡ n → map (λ i. get_or xs i d) (below n) ≡ xs
by_place xs d n long =
    ext_get_or d (map (λ i. get_or xs i d) (below n)) xs (length_map_below (λ i. get_or xs i d) n ∙ sym long)
    (λ i lt. get_map_below (λ j. get_or xs j d) n i d (omega (arith, length_map_below (λ j. get_or xs j d) n)))

module _ (p : Protocol) (tree : Tree) (work : Work) (lawful : IsLawfulWork p tree work) where
  pub own_rows : own_table work (length tree) ≡ work.requests
  own_rows =
      ext_get_or [] (own_table work (length tree)) work.requests (length_map_below (λ line. map (requests_of work line) (below (length tree))) work.lines ∙ sym lawful.each_line)
      (λ line lt.
      let there : line < work.lines = omega (arith, length_map_below (λ line. map (requests_of work line) (below (length tree))) work.lines) in
      get_map_below (λ line. map (requests_of work line) (below (length tree))) work.lines line [] there
      ∙ by_place (get_or work.requests line []) [] (length tree) (lawful.each_object line there))

  pub own_count : counts (requests_of work) work.lines (length tree) ≡ requests_in_all work
  own_count = sym (tabled_count (requests_of work) work.lines (length tree)) ∙ ap (sum_by requests_on) own_rows

  module _ (rs : List LeafRequest) (fit : All (FitsEntry p tree) (entries rs)) where
    abbrev with_them : Work
    with_them = record work { requests = table_with work rs (length tree) }

    abbrev both : ℕ → ℕ → List Message
    both line o = requests_of work line o ++ messages_at rs line o

    total : requests_in_all with_them ≤ requests_in_all work + length rs
    total =
        let all = tabled_count both work.lines (length tree) ∙ counts_both (requests_of work) (messages_at rs) work.lines (length tree) in
        let same : counts (messages_at rs) work.lines (length tree) ≡ counted (entries rs) work.lines (length tree) = λ i. sum_by (λ line. sum_by (λ o. length (messages_are rs line o i)) (below (length tree))) (below work.lines) in
        let few = counted_le (entries rs) work.lines (length tree) in
        omega (arith, all, own_count, same, few, count_is rs)

    -- the requests at a place, or none past the lines and objects
    cases : (line o : ℕ) → (requests_of with_them line o ≡ both line o) ⊎ (requests_of with_them line o ≡ [])
    cases line o = ⊎_elim inner (λ past. inr (ap (λ row. get_or row o []) (get_or_past (table_with work rs (length tree)) line [] (omega (arith, table_length work rs (length tree)))))) (order line work.lines)
      where
        row : line < work.lines → get_or (table_with work rs (length tree)) line [] ≡ map (both line) (below (length tree))
        row lt = get_map_below (λ line. map (both line) (below (length tree))) work.lines line [] lt

        inner : line < work.lines → (requests_of with_them line o ≡ both line o) ⊎ (requests_of with_them line o ≡ [])
        inner lt =
            ⊎_elim
            (λ less. inl (ap (λ l. get_or l o []) (row lt) ∙ get_map_below (both line) (length tree) o [] less))
            (λ past. inr (ap (λ l. get_or l o []) (row lt) ∙ get_or_past (map (both line) (below (length tree))) o [] (omega (arith, length_map_below (both line) (length tree)))))
            (order o (length tree))

    leaf_at : (line o : ℕ) → both line o ≢ [] → kind_of tree o ≡ Some Leaf
    leaf_at line o some = go (requests_of work line o) refl some
      where
        go : (own : List Message) → requests_of work line o ≡ own → (own ++ messages_at rs line o) ≢ [] → kind_of tree o ≡ Some Leaf
        go [] none more = leaf_in p tree line o (entries rs) fit (subst (λ (l : List Message). l ≢ []) (messages_are rs line o) more)
        go (m ∷ ms) own more = lawful.leaves line o (λ none. let clash = sym own ∙ none in cc)

    external_at : (line o : ℕ) → All (IsExternal p) (both line o)
    external_at line o =
        All-append (IsExternal p) (requests_of work line o) (messages_at rs line o) (lawful.external line o)
        (subst (λ (l : List Message). All (IsExternal p) l) (sym (messages_are rs line o)) (external_in p tree line o (entries rs) fit))

    pub stays_lawful : requests_in_all work + length rs ≤ most_requests → requests_in_all work + length rs + work.self_count * length tree * work.lines ≤ most_starts → IsLawfulWork p tree with_them
    stays_lawful few starts = record {
      limits = record {
        some_line = lawful.limits.some_line;
        few_lines = lawful.limits.few_lines;
        few_self = lawful.limits.few_self;
        few_requests = omega (arith, total);
        few_of_each = λ line o. le_trans
            (length (requests_of with_them line o))
            (requests_on (get_or with_them.requests line []))
            (requests_in_all with_them)
            most_requests
            (one_of_all (λ (l : List Message). length l) (get_or with_them.requests line []) o [] refl)
            (one_of_all requests_on with_them.requests line [] refl)
            (omega (arith, total));
        few_starts = less (requests_in_all with_them) (requests_in_all work + length rs) (work.self_count * length tree * work.lines) most_starts total starts;
      };
      each_line = table_length work rs (length tree);
      each_object = λ line lt. ap length (get_map_below (λ line. map (both line) (below (length tree))) work.lines line [] lt) ∙ length_map_below (both line) (length tree);
      leaves = λ line o some. ⊎_elim (λ is. leaf_at line o (λ empty. some (is ∙ empty))) (λ empty. absurd (some empty)) (cases line o);
      external = λ line o. ⊎_elim (λ is. subst (λ l. All (IsExternal p) l) (sym is) (external_at line o)) (λ empty. subst (λ l. All (IsExternal p) l) (sym empty) (All-nil (IsExternal p))) (cases line o);
    }
      where
        less : (a b x m : ℕ) → a ≤ b → b + x ≤ m → a + x ≤ m
        less a b x m le all = omega arith

-- each generated request is one of a leaf, with an id of a processor
fits_after : (p : Protocol) (tree : Tree) (lines seed k : ℕ) → CanPick (choices_of p tree lines) (length tree) → FitsEntry p tree (entry_of (request_after (choices_of p tree lines) seed k))
fits_after p tree lines seed k can = record {
  leaf = picked_is (λ o. kind_of tree o ≡ Some Leaf) (leaves_of tree) (draw_after seed (3 * k)) (all_kept (is_leaf tree) (λ o. kind_of tree o ≡ Some Leaf) (length tree) (λ o lt is. leaf_of tree o is)) can.some_leaf;
  external =
      All-cons (λ r. IsExternal p r.0) ((request_after (choices_of p tree lines) seed k).message, nowhere) []
      (picked_is (λ id. IsExternal p (record { id = record { 0 = id }; value = k + 1 })) (external_ids p) (draw_after seed (3 * k + 2))
      (all_kept (is_external_id p) (λ id. IsExternal p (record { id = record { 0 = id }; value = k + 1 })) (length p.messages) (λ id lt is. external_class p (record { 0 = id }) is)) can.some_id)
      (All-nil (λ r. IsExternal p r.0));
}

fits_all : (p : Protocol) (tree : Tree) (lines seed : ℕ) (ks : List ℕ) → CanPick (choices_of p tree lines) (length tree) → All (FitsEntry p tree) (entries (map (request_after (choices_of p tree lines) seed) ks))
fits_all p tree lines seed [] can = All-nil (FitsEntry p tree)
fits_all p tree lines seed (k ∷ ks) can = All-cons (FitsEntry p tree) (entry_of (request_after (choices_of p tree lines) seed k)) (entries (map (request_after (choices_of p tree lines) seed) ks)) (fits_after p tree lines seed k can) (fits_all p tree lines seed ks can)

fits : (p : Protocol) (tree : Tree) (lines count seed : ℕ) → IsLawful tree → 1 ≤ lines → All (FitsEntry p tree) (entries (generated p tree lines count seed))
fits p tree lines count seed lawful some = go (generated_count (external_ids p) count) (can_pick p tree lines count lawful some)
  where
    go : (n : ℕ) → (0 < n → CanPick (choices_of p tree lines) (length tree)) → All (FitsEntry p tree) (entries (map (request_after (choices_of p tree lines) seed) (below n)))
    go zero can = All-nil (FitsEntry p tree)
    go (suc n) can = fits_all p tree lines seed (below (suc n)) (can (omega arith))

-- a work that meets the limits with generated requests is lawful with them
pub made_lawful : (p : Protocol) (tree : Tree) (work : Work) (count seed : ℕ) → IsLawful tree → IsLawfulWork p tree work → made_fault p tree work count ≡ None → IsLawfulWork p tree (made p tree work count seed)
made_lawful p tree work count seed good lawful none =
    let n = generated_count (external_ids p) count in
    let gs = generated p tree work.lines count seed in
    let long : length gs ≡ n = length_map_below (request_after (choices_of p tree work.lines) seed) n in
    let parts = neither (fault_if (nat_lt most_requests (requests_in_all work + n)) Requests work.place) (fault_if (nat_lt most_starts (requests_in_all work + n + work.self_count * length tree * work.lines)) Starts work.place) none in
    let few = ltb-false most_requests (requests_in_all work + n) (no_fault (nat_lt most_requests (requests_in_all work + n)) Requests work.place parts.0) in
    let starts = ltb-false most_starts (requests_in_all work + n + work.self_count * length tree * work.lines) (no_fault (nat_lt most_starts (requests_in_all work + n + work.self_count * length tree * work.lines)) Starts work.place parts.1) in
    stays_lawful p tree work lawful gs (fits p tree work.lines count seed good lawful.limits.some_line)
    (subst (λ m. requests_in_all work + m ≤ most_requests) (sym long) few)
    (subst (λ m. requests_in_all work + m + work.self_count * length tree * work.lines ≤ most_starts) (sym long) starts)
