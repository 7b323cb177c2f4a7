-- A work without a fault fits its protocol and its tree.
use Rattle.std.proofs.Common.{◌≡◌, ◌≢◌, ℕ, ◌+◌, ◌<◌, Bool, true, false, eqb, not, ◌&&◌, List, [], ◌∷◌, ◌++◌, length, get_or, refl, sym, ap, ◌∙◌, subst, arith, Option, Some, None, ⊎_elim, inl, inr, ◌⊎◌}
use Rattle.std.specs.Prelude.{nat_le, nat_lt, All}
use Rattle.std.specs.Option.{option_or, option_map_or}
use Rattle.std.proofs.str.Laws.{order}
use Rattle.std.proofs.lemmas.Bool.{eqb-true, leb-true, ltb-false}
use Rattle.std.proofs.lemmas.List.{get_or_past}
use Rattle.std.proofs.lemmas.List.Elements.{All-nil, All-cons, All-append, All-map, All-head, All-tail}
use Rattle.hem_base.specs.declared.ids.Kind.{Kind}
use Rattle.hem_base.specs.declared.ids.Kind.TheVariants.{Root, Mid, Leaf}
use Rattle.hem_base.specs.declared.ids.Message.{Message}
use Rattle.hem_base.specs.declared.ids.MsgId.{MsgId}
use Rattle.hem_text.specs.declared.text.Place.{Place}
use Rattle.hem_tree.specs.declared.setup.SetupCause.TheVariants.{Lines, SelfCount, Object, Line, Request, Requests}
use Rattle.hem_syntax.specs.Protocol.{Protocol, class_of}
use Rattle.hem_syntax.specs.Protocol.{has_class, is_ext_req}
use Rattle.hem_syntax.specs.declared.rule.Class.{Class}
use Rattle.hem_syntax.specs.declared.rule.Class.TheVariants.{ExtReq, ExtRsp, UpReq, UpRsp, DownReq, DownRsp}
use Rattle.hem_tree.specs.Tree.{Tree, kind_of}
use Rattle.hem_work.specs.declared.raw.RawEntry.{RawEntry}
use Rattle.hem_work.specs.declared.raw.RawWork.{RawWork}
use Rattle.hem_work.specs.Work.{requests_of}
use Rattle.hem_work.specs.Limits.{most_lines, most_self, most_requests}
use Rattle.hem_work.specs.Building.{messages_if, messages_for, requests_in, row_of, table_of, work_of, fault_if, is_leaf_kind, is_leaf, request_fault, requests_fault, heading_fault, entry_fault, entries_fault, counts_fault, starts_fault, first_fault}
use Rattle.hem_work.specs.Lawful.{IsExternal, IsWithinLimits, IsLawfulWork}
use Rattle.hem_work.proofs.Tables.{get_map_below, table_length, row_length_of}
use Rattle.hem_work.proofs.FirstFault.{neither, no_fault, not_false}
use Rattle.hem_work.proofs.Totals.{counts as in_all}

ext_req_alone : (c : Class) → is_ext_req c ≡ true → c ≡ ExtReq
ext_req_alone ExtReq h = refl
ext_req_alone ExtRsp h = absurd cc
ext_req_alone UpReq h = absurd cc
ext_req_alone UpRsp h = absurd cc
ext_req_alone DownReq h = absurd cc
ext_req_alone DownRsp h = absurd cc

pub external_class : (p : Protocol) (id : MsgId) → has_class p id is_ext_req ≡ true → class_of p id ≡ Some ExtReq
external_class p id h = go (class_of p id) h
  where
    go : (o : Option Class) → option_map_or is_ext_req o false ≡ true → o ≡ Some ExtReq
    go None k = absurd cc
    go (Some c) k = ap Some (ext_req_alone c k)

leaf_alone : (k : Kind) → is_leaf_kind k ≡ true → k ≡ Leaf
leaf_alone Leaf h = refl
leaf_alone Root h = absurd cc
leaf_alone Mid h = absurd cc

pub leaf_of : (tree : Tree) (o : ℕ) → is_leaf tree o ≡ true → kind_of tree o ≡ Some Leaf
leaf_of tree o h = go (kind_of tree o) h
  where
    go : (k : Option Kind) → option_map_or is_leaf_kind k false ≡ true → k ≡ Some Leaf
    go None e = absurd cc
    go (Some k) e = ap Some (leaf_alone k e)

-- an entry of a leaf, with requests of processors alone
pub record FitsEntry (p : Protocol) (tree : Tree) (e : RawEntry) : Type 0 where
  pub leaf : kind_of tree e.object.0 ≡ Some Leaf
  pub external : All (λ r. IsExternal p r.0) e.requests

fits_requests : (p : Protocol) (n : ℕ) (rs : List (Message × Place)) → requests_fault p n rs ≡ None → All (λ r. IsExternal p r.0) rs
fits_requests p n [] h = All-nil (λ (r : Message × Place). IsExternal p r.0)
fits_requests p n (r ∷ rs) h =
    let parts = neither (request_fault p n r) (requests_fault p (n + 1) rs) h in
    let own = neither (fault_if (not (has_class p r.0.id is_ext_req)) Request r.1) (fault_if (nat_le most_requests n) Requests r.1) parts.0 in
    All-cons (λ (q : Message × Place). IsExternal p q.0) r rs
    (external_class p r.0.id (not_false (has_class p r.0.id is_ext_req) (no_fault (not (has_class p r.0.id is_ext_req)) Request r.1 own.0)))
    (fits_requests p (n + 1) rs parts.1)

fits_entry : (p : Protocol) (tree : Tree) (lines n : ℕ) (e : RawEntry) → entry_fault p tree lines n e ≡ None → FitsEntry p tree e
fits_entry p tree lines n e h =
    let parts = neither (heading_fault tree lines e) (requests_fault p n e.requests) h in
    let heading = neither (fault_if (not (is_leaf tree e.object.0)) Object e.object.1) (fault_if (nat_le lines e.line.0) Line e.line.1) parts.0 in
    record {
      leaf = leaf_of tree e.object.0 (not_false (is_leaf tree e.object.0) (no_fault (not (is_leaf tree e.object.0)) Object e.object.1 heading.0));
      external = fits_requests p n e.requests parts.1;
    }

fits_entries : (p : Protocol) (tree : Tree) (lines n : ℕ) (es : List RawEntry) → entries_fault p tree lines n es ≡ None → All (FitsEntry p tree) es
fits_entries p tree lines n [] h = All-nil (FitsEntry p tree)
fits_entries p tree lines n (e ∷ es) h =
    let parts = neither (entry_fault p tree lines n e) (entries_fault p tree lines (n + length e.requests) es) h in
    All-cons (FitsEntry p tree) e es (fits_entry p tree lines n e parts.0) (fits_entries p tree lines (n + length e.requests) es parts.1)

external_if : (p : Protocol) (tree : Tree) (b : Bool) (e : RawEntry) → FitsEntry p tree e → All (IsExternal p) (messages_if b e)
external_if p tree true e fits = All-map (IsExternal p) (λ (r : Message × Place). r.0) e.requests fits.external
external_if p tree false e fits = All-nil (IsExternal p)

pub external_in : (p : Protocol) (tree : Tree) (line o : ℕ) (es : List RawEntry) → All (FitsEntry p tree) es → All (IsExternal p) (requests_in es line o)
external_in p tree line o [] fits = All-nil (IsExternal p)
external_in p tree line o (e ∷ es) fits =
    All-append (IsExternal p) (messages_for line o e) (requests_in es line o)
    (external_if p tree (eqb e.line.0 line && eqb e.object.0 o) e (All-head (FitsEntry p tree) e es fits))
    (external_in p tree line o es (All-tail (FitsEntry p tree) e es fits))

and_second : (a b : Bool) → (a && b) ≡ true → b ≡ true
and_second true b h = h
and_second false b h = absurd cc

-- requests stand at leaves alone
pub leaf_in : (p : Protocol) (tree : Tree) (line o : ℕ) (es : List RawEntry) → All (FitsEntry p tree) es → requests_in es line o ≢ [] → kind_of tree o ≡ Some Leaf
leaf_in p tree line o [] fits some = absurd (some refl)
leaf_in p tree line o (e ∷ es) fits some = go (leaf_in p tree line o es (All-tail (FitsEntry p tree) e es fits)) (eqb e.line.0 line && eqb e.object.0 o) refl some
  where
    go : (requests_in es line o ≢ [] → kind_of tree o ≡ Some Leaf) → (b : Bool) → (eqb e.line.0 line && eqb e.object.0 o) ≡ b → (messages_if b e ++ requests_in es line o) ≢ [] → kind_of tree o ≡ Some Leaf
    go rest false h more = rest more
    go rest true h more =
        let same = eqb-true e.object.0 o (and_second (eqb e.line.0 line) (eqb e.object.0 o) h) in
        ap (kind_of tree) (sym same) ∙ (All-head (FitsEntry p tree) e es fits).leaf

both : (a b : Bool) → (a && b) ≡ true → (a ≡ true) × (b ≡ true)
both true true h = (refl, refl)
both true false h = absurd cc
both false b h = absurd cc

module _ (raw : RawWork) (p : Protocol) (tree : Tree) (none : first_fault raw p tree ≡ None) where
  counts : (fault_if (not (nat_le 1 raw.lines.0 && nat_le raw.lines.0 most_lines)) Lines raw.lines.1 ≡ None) × (fault_if (nat_lt most_self raw.self_count.0) SelfCount raw.self_count.1 ≡ None)
  counts = neither (fault_if (not (nat_le 1 raw.lines.0 && nat_le raw.lines.0 most_lines)) Lines raw.lines.1) (fault_if (nat_lt most_self raw.self_count.0) SelfCount raw.self_count.1) (neither (counts_fault raw) (option_or (entries_fault p tree raw.lines.0 0 raw.entries) (starts_fault raw (length tree))) none).0

  lines_fit : (nat_le 1 raw.lines.0 ≡ true) × (nat_le raw.lines.0 most_lines ≡ true)
  lines_fit = both (nat_le 1 raw.lines.0) (nat_le raw.lines.0 most_lines) (not_false (nat_le 1 raw.lines.0 && nat_le raw.lines.0 most_lines) (no_fault (not (nat_le 1 raw.lines.0 && nat_le raw.lines.0 most_lines)) Lines raw.lines.1 counts.0))

  entries_fit : All (FitsEntry p tree) raw.entries
  entries_fit =
      let rest = (neither (counts_fault raw) (option_or (entries_fault p tree raw.lines.0 0 raw.entries) (starts_fault raw (length tree))) none).1 in
      fits_entries p tree raw.lines.0 0 raw.entries (neither (entries_fault p tree raw.lines.0 0 raw.entries) (starts_fault raw (length tree)) rest).0

  -- the requests of the work, or none past its lines and objects
  requests_cases : (line o : ℕ) → (requests_of (work_of raw (length tree)) line o ≡ requests_in raw.entries line o) ⊎ (requests_of (work_of raw (length tree)) line o ≡ [])
  requests_cases line o = ⊎_elim inner (λ past. inr (ap (λ row. get_or row o []) (get_or_past (table_of raw.entries raw.lines.0 (length tree)) line [] (omega (arith, table_length raw.entries raw.lines.0 (length tree)))))) (order line raw.lines.0)
    where
      row : line < raw.lines.0 → get_or (table_of raw.entries raw.lines.0 (length tree)) line [] ≡ row_of raw.entries (length tree) line
      row lt = get_map_below (row_of raw.entries (length tree)) raw.lines.0 line [] lt

      inner : line < raw.lines.0 → (requests_of (work_of raw (length tree)) line o ≡ requests_in raw.entries line o) ⊎ (requests_of (work_of raw (length tree)) line o ≡ [])
      inner lt =
          ⊎_elim
          (λ less. inl (ap (λ l. get_or l o []) (row lt) ∙ get_map_below (requests_in raw.entries line) (length tree) o [] less))
          (λ past. inr (ap (λ l. get_or l o []) (row lt) ∙ get_or_past (row_of raw.entries (length tree) line) o [] (omega (arith, row_length_of raw.entries (length tree) line))))
          (order o (length tree))

  within : IsWithinLimits (length tree) (work_of raw (length tree))
  within =
      let all = in_all raw p tree none in
      record {
        some_line = leb-true 1 raw.lines.0 lines_fit.0;
        few_lines = leb-true raw.lines.0 most_lines lines_fit.1;
        few_self = ltb-false most_self raw.self_count.0 (no_fault (nat_lt most_self raw.self_count.0) SelfCount raw.self_count.1 counts.1);
        few_requests = all.requests;
        few_of_each = all.each;
        few_starts = all.starts;
      }

  pub lawful_work : IsLawfulWork p tree (work_of raw (length tree))
  lawful_work = record {
    limits = within;
    each_line = table_length raw.entries raw.lines.0 (length tree);
    each_object = λ line lt. ap length (get_map_below (row_of raw.entries (length tree)) raw.lines.0 line [] lt) ∙ row_length_of raw.entries (length tree) line;
    leaves = λ line o some. ⊎_elim (λ is. leaf_in p tree line o raw.entries entries_fit (λ empty. some (is ∙ empty))) (λ empty. absurd (some empty)) (requests_cases line o);
    external = λ line o. ⊎_elim (λ is. subst (λ l. All (IsExternal p) l) (sym is) (external_in p tree line o raw.entries entries_fit)) (λ empty. subst (λ l. All (IsExternal p) l) (sym empty) (All-nil (IsExternal p))) (requests_cases line o);
  }
