-- The values of requests have 64 bits at most: in a work that is read, and in one with generated requests.
use Rattle.std.proofs.Common.{◌≡◌, refl, ℕ, ◌+◌, ◌-◌, ◌*◌, ◌<◌, ◌≤◌, ◌^◌, Bool, true, false, cond, List, [], ◌∷◌, ◌++◌, map, length, get_or, take, sym, subst, arith, Option, Some, None, ⊎_elim}
use Rattle.std.specs.Prelude.{◌==◌, ◌&&◌, nat_lt, filter, slice_get, All}
use Rattle.std.proofs.str.Laws.{order}
use Rattle.std.proofs.lemmas.Bool.{leb-true, ltb-false}
use Rattle.std.proofs.lemmas.List.{get_or_past}
use Rattle.std.proofs.lemmas.List.Elements.{All-nil, All-head, All-tail, All-append, All-push, All-set, All-map, All-filter}
use Rattle.std.proofs.lemmas.Option.{option_and_then_some, get_or_from_slice_get, slice_get_within}
use Rattle.hem_base.specs.declared.ids.Message.{Message}
use Rattle.hem_text.specs.declared.text.Place.{Place}
use Rattle.hem_text.specs.Lexemes.{Lexeme}
use Rattle.hem_text.specs.Numbers.{number_of}
use Rattle.hem_text.specs.Grammars.{State, Way, full, state, goes, way_at, next, run}
use Rattle.hem_syntax.specs.Protocol.{Protocol}
use Rattle.hem_tree.specs.Tree.{Tree, below}
use Rattle.hem_tree.specs.declared.setup.SetupCause.TheVariants.{Requests, Starts}
use Rattle.hem_work.specs.declared.draft.Terminal.{Terminal}
use Rattle.hem_work.specs.declared.draft.Terminal.TheVariants as the
use Rattle.hem_work.specs.declared.draft.Item.{Item}
use Rattle.hem_work.specs.declared.raw.RawEntry.{RawEntry}
use Rattle.hem_work.specs.declared.raw.RawWork.{RawWork}
use Rattle.hem_work.specs.declared.made.LeafRequest.{LeafRequest}
use Rattle.hem_work.specs.Grammar.{Read, grammar, start, nothing, is_within, after, with_request}
use Rattle.hem_work.specs.Limits.{most_requests, most_starts, most_value}
use Rattle.hem_work.specs.Work.{Work, requests_of, requests_in_all}
use Rattle.hem_work.specs.WorkReading.{ReadsWork}
use Rattle.hem_work.specs.Building.{messages_if, messages_for, requests_in, work_of, fault_if}
use Rattle.hem_work.specs.Made.{is_for, messages_at, choices_of, request_after, external_ids, generated_count, generated, made, made_fault}
use Rattle.hem_work.proofs.FirstFault.{neither, no_fault}
use Rattle.hem_work.proofs.Tables.{get_map_below, length_map_below}
use Rattle.hem_worktext.proofs.WorkBack.{all_below}
use Rattle.hem_madetext.specs.ReadsBack.{HasAllNumbers}

abbrev IsNumber : Message → Type 0
IsNumber m = m.value < 2 ^ 64

abbrev IsRequest : Message × Place → Type 0
IsRequest r = IsNumber r.0

abbrev IsEntry : RawEntry → Type 0
IsEntry e = All IsRequest e.requests

-- each token of a work keeps it

with_one : (entries : List RawEntry) (last : Option RawEntry) (r : Message × Place) → All IsEntry entries → ((e : RawEntry) → last ≡ Some e → IsEntry e) → IsRequest r → All IsEntry (with_request entries last r)
with_one entries None r all is number = all
with_one entries (Some e) r all is number =
    All-set IsEntry entries (length entries - 1) (record e { requests = e.requests ++ r ∷ [] }) (All-push IsRequest e.requests r (is e refl) number) all

token_keeps : (e : Read) (x : Terminal) (t : Lexeme) → is_within e x t ≡ true → All IsEntry e.entries → All IsEntry (after e x t).entries
token_keeps e the.Line t h all = All-push IsEntry e.entries (record { object = e.object; line = (number_of t.text, t.place); requests = [] }) all (All-nil IsRequest)
token_keeps e the.Value t h all =
    let few = leb-true (number_of t.text) most_value h in
    let r : Message × Place = (record { id = e.message.0; value = number_of t.text }, e.message.1) in
    let k : ℕ = length e.entries - 1 in
    with_one e.entries (slice_get e.entries k) r all
    (λ x is. subst IsEntry (get_or_from_slice_get e.entries k x x is) (all k x (slice_get_within e.entries k x is)))
    (omega (arith, few))
token_keeps e _ t h all = all

way_keeps : (e : Read) (t : Lexeme) (w : Way Terminal Item) (u : State Read Terminal Item) → All IsEntry e.entries → goes full grammar e t w ≡ Some u → All IsEntry u.env.entries
way_keeps e t w u all h = go (is_within e w.terminal t) refl h
  where
    go : (b : Bool) → is_within e w.terminal t ≡ b → cond b (Some (state (after e w.terminal t) w.stack)) None ≡ Some u → All IsEntry u.env.entries
    go true within k = let same : state (after e w.terminal t) w.stack ≡ u = cc in subst (λ (s : State Read Terminal Item). All IsEntry s.env.entries) same (token_keeps e w.terminal t within all)
    go false within k = absurd cc

run_keeps : (s : State Read Terminal Item) (ts : List Lexeme) (u : State Read Terminal Item) → All IsEntry s.env.entries → run full grammar s ts ≡ Some u → All IsEntry u.env.entries
run_keeps s [] u all h = let same : s ≡ u = cc in subst (λ (v : State Read Terminal Item). All IsEntry v.env.entries) same all
run_keeps s (t ∷ ts) u all h =
    option_and_then_some (λ v. run full grammar v ts) (next full grammar s t) u h
    (λ v is k. run_keeps v ts u (option_and_then_some (goes full grammar s.env t) (way_at grammar s t) v is (λ w found goes. way_keeps s.env t w v all goes)) k)

read_entries : (p : Protocol) (ts rest : List Lexeme) (raw : RawWork) → ReadsWork p ts rest raw → All IsEntry raw.entries
read_entries p ts rest raw reads =
    subst (λ (r : RawWork). All IsEntry r.entries) (sym reads.says)
    (run_keeps (state (nothing p) start) (take reads.part.count ts) (state reads.read []) (All-nil IsEntry) reads.part.reads.runs)

-- by line and object

requests_numbers : (es : List RawEntry) (line o : ℕ) → All IsEntry es → All IsNumber (requests_in es line o)
requests_numbers [] line o all = All-nil IsNumber
requests_numbers (e ∷ es) line o all =
    All-append IsNumber (messages_for line o e) (requests_in es line o) (go (e.line.0 == line && e.object.0 == o)) (requests_numbers es line o (All-tail IsEntry e es all))
  where
    go : (b : Bool) → All IsNumber (messages_if b e)
    go true = All-map IsNumber (λ r. r.0) e.requests (All-head IsEntry e es all)
    go false = All-nil IsNumber

-- a table's list at a line and an object
table_numbers : (f : ℕ → ℕ → List Message) (lines objects line o : ℕ) → line < lines → All IsNumber (f line o) → All IsNumber (get_or (get_or (map (λ l. map (f l) (below objects)) (below lines)) line []) o [])
table_numbers f lines objects line o lt all =
    subst (λ row. All IsNumber (get_or row o [])) (sym (get_map_below (λ l. map (f l) (below objects)) lines line [] lt))
    (⊎_elim
    (λ less. subst (All IsNumber) (sym (get_map_below (f line) objects o [] less)) all)
    (λ past. subst (All IsNumber) (sym (get_or_past (map (f line) (below objects)) o [] (omega (arith, length_map_below (f line) objects)))) (All-nil IsNumber))
    (order o objects))

pub read_numbers : (p : Protocol) (ts rest : List Lexeme) (raw : RawWork) (objects : ℕ) → ReadsWork p ts rest raw → HasAllNumbers (work_of raw objects)
read_numbers p ts rest raw objects reads = λ o line lt. table_numbers (requests_in raw.entries) raw.lines.0 objects line o lt (requests_numbers raw.entries line o (read_entries p ts rest raw reads))

-- generated requests are numbered from 1

generated_few : (p : Protocol) (tree : Tree) (work : Work) (count : ℕ) → made_fault p tree work count ≡ None → generated_count (external_ids p) count ≤ most_requests
generated_few p tree work count none =
    let n = generated_count (external_ids p) count in
    let parts = neither (fault_if (nat_lt most_requests (requests_in_all work + n)) Requests work.place) (fault_if (nat_lt most_starts (requests_in_all work + n + work.self_count * length tree * work.lines)) Starts work.place) none in
    let few = ltb-false most_requests (requests_in_all work + n) (no_fault (nat_lt most_requests (requests_in_all work + n)) Requests work.place parts.0) in
    omega (arith, few)

generated_numbers : (p : Protocol) (tree : Tree) (lines count seed line o : ℕ) → generated_count (external_ids p) count ≤ most_requests → All IsNumber (messages_at (generated p tree lines count seed) line o)
generated_numbers p tree lines count seed line o few =
    let n = generated_count (external_ids p) count in
    let gs : List LeafRequest = generated p tree lines count seed in
    let OfRequest : LeafRequest → Type 0 = λ r. IsNumber r.message in
    All-map IsNumber (λ (r : LeafRequest). r.message) (filter (is_for line o) gs)
    (All-filter (is_for line o) OfRequest gs
    (All-map OfRequest (request_after (choices_of p tree lines) seed) (below n) (all_below (λ k. k + 1 < 2 ^ 64) n (λ k lt. omega (arith, lt, few)))))

pub made_numbers : (p : Protocol) (tree : Tree) (work : Work) (count seed : ℕ) → HasAllNumbers work → made_fault p tree work count ≡ None → HasAllNumbers (made p tree work count seed)
made_numbers p tree work count seed numbers none = λ o line lt.
    table_numbers (λ l o. requests_of work l o ++ messages_at (generated p tree work.lines count seed) l o) work.lines (length tree) line o lt
    (All-append IsNumber (requests_of work line o) (messages_at (generated p tree work.lines count seed) line o) (numbers o line lt)
    (generated_numbers p tree work.lines count seed line o (generated_few p tree work count none)))
