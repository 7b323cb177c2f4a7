-- The grammar of works goes over the canonical text of a work.
use Rattle.std.proofs.Common.{◌≡◌, ℕ, suc, ◌-◌, ◌<◌, ◌≤◌, ◌^◌, Bool, true, false, cond, List, [], ◌∷◌, ◌++◌, length, set, map, refl, sym, ap, ◌∙◌, subst, arith, append-nil, append_assoc, Option, Some, None}
use Rattle.std.specs.Prelude.{fold, flat_map, codes, decimal, nat_le, slice_get, option_map, All}
use Rattle.std.proofs.lemmas.Bool.{le-leb}
use Rattle.std.proofs.lemmas.List.{set_at, map-append}
use Rattle.std.proofs.lemmas.List.Elements.{All-head, All-tail}
use Rattle.hem_base.specs.declared.ids.MsgId.{MsgId}
use Rattle.hem_base.specs.declared.ids.Message.{Message}
use Rattle.hem_base.specs.Words.{is_word_text, is_reserved}
use Rattle.hem_text.specs.declared.text.TokenKind.TheVariants as kind
use Rattle.hem_text.specs.declared.text.Place.{Place}
use Rattle.hem_text.specs.declared.symbol.Symbol.{Symbol}
use Rattle.hem_text.specs.declared.symbol.Symbol.TheVariants.{One, Many}
use Rattle.hem_text.specs.Tokens.{advance}
use Rattle.hem_text.specs.Grammars.{full, state, next}
use Rattle.hem_syntax.specs.Protocol.{Protocol}
use Rattle.hem_syntax.specs.declared.rule.Class.{Class}
use Rattle.hem_syntax.specs.Lawful.{IsProtocol}
use Rattle.hem_syntax.specs.Names.{is_among}
use Rattle.hem_syntax.proofs.DeclaredNames.{messages_declarable, pair_word}
use Rattle.hem_print.specs.Canonical.{message_name}
use Rattle.hem_print.proofs.Naming.{among_is, not_word, get_some}
use Rattle.hem_print.proofs.Around.{message_known, message_is}
use Rattle.hem_print.proofs.ProtocolRuns.{kind_read}
use Rattle.hem_work.specs.declared.draft.Terminal.{Terminal}
use Rattle.hem_work.specs.declared.draft.Terminal.TheVariants as the
use Rattle.hem_work.specs.declared.draft.Item.{Item}
use Rattle.hem_work.specs.declared.draft.Item.TheVariants as item
use Rattle.hem_work.specs.declared.raw.RawEntry.{RawEntry}
use Rattle.hem_work.specs.Limits.{most_number, most_value}
use Rattle.hem_work.specs.Grammar.{Read, grammar, nothing as nothing_read, nowhere, start, with_request}
use Rattle.hem_worktext.specs.WorkText.{request_text, entry_text, head_text}
use Rattle.hem_work.specs.Work.{Work}
use Rattle.hem_worktext.proofs.Leads.{Leads, at, nothing, then, space, feed, word, number, number_back, is_apart}

-- what has been read of a work
abbrev pub env : Protocol → Place → ℕ × Place → ℕ × Place → List RawEntry → ℕ × Place → MsgId × Place → Read
env p place lines selfs entries object message = record {
  messages = p.messages;
  place = place;
  lines = lines;
  self_count = selfs;
  entries = entries;
  object = object;
  message = message;
}

-- what is to come after the head, and inside of an entry
abbrev pub before : List (Symbol Terminal Item)
before = Many item.Entry ∷ One the.End ∷ []

abbrev pub inside : List (Symbol Terminal Item)
inside = Many item.Request ∷ before

abbrev pub stack_of : Bool → List (Symbol Terminal Item)
stack_of true = inside
stack_of false = before

-- an entry without its places: an object, a line and requests
pub record Plain : Type 0 where
  pub object : ℕ
  pub line : ℕ
  pub requests : List Message

abbrev pub plain : RawEntry → Plain
plain e = record { object = e.object.0; line = e.line.0; requests = map (λ r. r.0) e.requests }

-- a request that can be printed: its id is declared, and its value has 64 bits at most
pub record IsPlain (p : Protocol) (m : Message) : Type 0 where
  pub id : m.id.0 < length p.messages
  pub value : m.value < 2 ^ 64

-- the last entry has one more request
last_more : (es : List RawEntry) (x : RawEntry) (r : Message × Place) → with_request (es ++ x ∷ []) (slice_get (es ++ x ∷ []) (length (es ++ x ∷ []) - 1)) r ≡ es ++ record x { requests = x.requests ++ r ∷ [] } ∷ []
last_more es x r =
    ap (λ n. with_request (es ++ x ∷ []) (slice_get (es ++ x ∷ []) n) r) (last es x)
    ∙ ap (λ o. with_request (es ++ x ∷ []) o r) (there es x)
    ∙ ap (λ n. set (es ++ x ∷ []) n (record x { requests = x.requests ++ r ∷ [] })) (last es x)
    ∙ set_at es x [] (record x { requests = x.requests ++ r ∷ [] }) (length es) refl
  where
    last : (es : List RawEntry) (x : RawEntry) → length (es ++ x ∷ []) - 1 ≡ length es
    last [] x = refl
    last (e ∷ es) x = let rest = last es x in let long = some es x in omega (arith, rest, long)
      where
        some : (es : List RawEntry) (x : RawEntry) → 1 ≤ length (es ++ x ∷ [])
        some [] x = omega arith
        some (e ∷ es) x = omega arith

    there : (es : List RawEntry) (x : RawEntry) → slice_get (es ++ x ∷ []) (length es) ≡ Some x
    there [] x = refl
    there (e ∷ es) x = there es x

-- numbers within their limits

if_within : {A : Type 0} (n m : ℕ) (x y : A) → n ≤ m → cond (nat_le n m) x y ≡ x
if_within n m x y le = rw (le-leb n m le) refl

module _ (p : Protocol) (good : IsProtocol p) where
  -- a reserved word is no message
  no_message : (text : List ℕ) → is_reserved text ≡ true → is_among p.messages text ≡ false
  no_message text reserved = among_is p.messages text ∙ not_word (map (λ m. m.0) p.messages) text (messages_declarable p good) reserved

  -- the head

  lines_next : (w : Place) (n : ℕ) (place : Place) → n ≤ most_number → n < 2 ^ 64
      → next full grammar (state (env p w (0, nowhere) (0, nowhere) [] (0, nowhere) (record { 0 = 0 }, nowhere)) (One the.LinesNumber ∷ One the.SelfWord ∷ One the.SelfNumber ∷ before)) (at kind.Number (decimal n) place)
      ≡ Some (state (env p w (n, place) (0, nowhere) [] (0, nowhere) (record { 0 = 0 }, nowhere)) (One the.SelfWord ∷ One the.SelfNumber ∷ before))
  lines_next w n place le lt =
      ap (λ m. cond (nat_le m most_number) (Some (state (env p w (m, place) (0, nowhere) [] (0, nowhere) (record { 0 = 0 }, nowhere)) (One the.SelfWord ∷ One the.SelfNumber ∷ before))) None) (number_back n lt)
      ∙ if_within n most_number _ _ le

  self_next : (w : Place) (lines : ℕ × Place) (n : ℕ) (place : Place) → n ≤ most_number → n < 2 ^ 64
      → next full grammar (state (env p w lines (0, nowhere) [] (0, nowhere) (record { 0 = 0 }, nowhere)) (One the.SelfNumber ∷ before)) (at kind.Number (decimal n) place)
      ≡ Some (state (env p w lines (n, place) [] (0, nowhere) (record { 0 = 0 }, nowhere)) before)
  self_next w lines n place le lt =
      ap (λ m. cond (nat_le m most_number) (Some (state (env p w lines (m, place) [] (0, nowhere) (record { 0 = 0 }, nowhere)) before)) None) (number_back n lt)
      ∙ if_within n most_number _ _ le

  -- the head leads to before the entries
  pub record HeadRead (work : Work) (place : Place) (tail : List ℕ) : Type 0 where
    pub word : Place
    pub lines : Place
    pub selfs : Place
    pub leads : Leads grammar place (head_text work) tail (state (nothing_read p) start) (state (env p word (work.lines, lines) (work.self_count, selfs) [] (0, nowhere) (record { 0 = 0 }, nowhere)) before)

  module _ (work : Work) (place : Place) (tail : List ℕ) (few_lines : work.lines ≤ most_number) (few_self : work.self_count ≤ most_number) where
    -- the head up to the first number, up to the second, and all of it
    abbrev to_lines : List ℕ
    to_lines = codes "work lines "

    abbrev to_self : List ℕ
    to_self = codes "work lines " ++ decimal work.lines ++ codes " self "

    abbrev tail_1 : List ℕ
    tail_1 = decimal work.self_count ++ (codes "\n" ++ tail)

    abbrev tail_2 : List ℕ
    tail_2 = decimal work.lines ++ (codes " self " ++ tail_1)

    -- the states before each number and after it
    abbrev head_env : ℕ × Place → ℕ × Place → Read
    head_env lines selfs = env p place lines selfs [] (0, nowhere) (record { 0 = 0 }, nowhere)

    abbrev lines_at : ℕ × Place
    lines_at = (work.lines, fold advance place to_lines)

    abbrev self_at : ℕ × Place
    self_at = (work.self_count, fold advance place to_self)

    abbrev to_come : List (Symbol Terminal Item)
    to_come = One the.SelfWord ∷ One the.SelfNumber ∷ before

    words : Leads grammar place to_lines tail_2 (state (nothing_read p) start) (state (head_env (0, nowhere) (0, nowhere)) (One the.LinesNumber ∷ to_come))
    words =
        then grammar place (codes "work") (codes " lines ") tail_2 _ _ _
        (word grammar place (codes "work") (codes " lines " ++ tail_2) (state (nothing_read p) start) _ refl refl refl)
        (then grammar _ (codes " ") (codes "lines ") tail_2 _ _ _
        (space grammar _ (codes "lines " ++ tail_2) _)
        (then grammar _ (codes "lines") (codes " ") tail_2 _ _ _
        (word grammar _ (codes "lines") (codes " " ++ tail_2) _ _ refl refl refl)
        (space grammar _ tail_2 _)))

    first_number : Leads grammar (fold advance place to_lines) (decimal work.lines) (codes " self " ++ tail_1) (state (head_env (0, nowhere) (0, nowhere)) (One the.LinesNumber ∷ to_come)) (state (head_env lines_at (0, nowhere)) to_come)
    first_number = number grammar _ work.lines (codes " self " ++ tail_1) _ _ (omega (arith, few_lines)) refl (lines_next place work.lines _ few_lines (omega (arith, few_lines)))

    between : Leads grammar (fold advance place (to_lines ++ decimal work.lines)) (codes " self ") tail_1 (state (head_env lines_at (0, nowhere)) to_come) (state (head_env lines_at (0, nowhere)) (One the.SelfNumber ∷ before))
    between =
        then grammar _ (codes " ") (codes "self ") tail_1 _ _ _
        (space grammar _ (codes "self " ++ tail_1) _)
        (then grammar _ (codes "self") (codes " ") tail_1 _ _ _
        (word grammar _ (codes "self") (codes " " ++ tail_1) _ _ refl refl refl)
        (space grammar _ tail_1 _))

    second_number : Leads grammar (fold advance place to_self) (decimal work.self_count) (codes "\n" ++ tail) (state (head_env lines_at (0, nowhere)) (One the.SelfNumber ∷ before)) (state (head_env lines_at self_at) before)
    second_number = number grammar _ work.self_count (codes "\n" ++ tail) _ _ (omega (arith, few_self)) refl (self_next place lines_at work.self_count _ few_self (omega (arith, few_self)))

    pub head_read : HeadRead work place tail
    head_read = record {
      word = place;
      lines = fold advance place to_lines;
      selfs = fold advance place to_self;
      leads =
          then grammar place (to_self ++ decimal work.self_count) (codes "\n") tail _ _ _
          (then grammar place to_self (decimal work.self_count) (codes "\n" ++ tail) _ _ _
          (then grammar place (to_lines ++ decimal work.lines) (codes " self ") tail_1 _ _ _
          (then grammar place to_lines (decimal work.lines) (codes " self " ++ tail_1) _ _ _ words first_number)
          between)
          second_number)
          (feed grammar _ tail _);
    }

  -- requests

  module _ (pl : Place) (lines selfs : ℕ × Place) where
    abbrev reading : List RawEntry → ℕ × Place → MsgId × Place → Read
    reading es object message = env p pl lines selfs es object message

    name_next : (es : List RawEntry) (object : ℕ × Place) (message : MsgId × Place) (id : MsgId) (place : Place) → id.0 < length p.messages
        → next full grammar (state (reading es object message) inside) (at kind.Word (message_name p id) place) ≡ Some (state (reading es object (id, place)) (One the.Value ∷ inside))
    name_next es object message id place lt =
        let names = (kind_read p p.root good good.root).names in
        rw (message_known p id (le-leb (suc id.0) (length p.messages) lt))
        (ap (λ (n : ℕ). Some (state (reading es object (record { 0 = n }, place)) (One the.Value ∷ inside))) (message_is p p.root id names (le-leb (suc id.0) (length p.messages) lt)))

    value_next : (es : List RawEntry) (x : RawEntry) (object : ℕ × Place) (message : MsgId × Place) (v : ℕ) (place : Place) → v < 2 ^ 64
        → next full grammar (state (reading (es ++ x ∷ []) object message) (One the.Value ∷ inside)) (at kind.Number (decimal v) place)
        ≡ Some (state (reading (es ++ record x { requests = x.requests ++ (record { id = message.0; value = v }, message.1) ∷ [] } ∷ []) object message) inside)
    value_next es x object message v place lt =
        ap (λ m. cond (nat_le m most_value) (Some (state (reading (with_request (es ++ x ∷ []) (slice_get (es ++ x ∷ []) (length (es ++ x ∷ []) - 1)) (record { id = message.0; value = m }, message.1)) object message) inside)) None) (number_back v lt)
        ∙ if_within v most_value _ _ (omega (arith, lt))
        ∙ ap (λ l. Some (state (reading l object message) inside)) (last_more es x (record { id = message.0; value = v }, message.1))

    name_word : (id : MsgId) → id.0 < length p.messages → is_word_text (message_name p id) ≡ true
    name_word id lt = go (slice_get p.messages id.0) refl (get_some p.messages id.0 lt)
      where
        go : (o : Option (List ℕ × Class)) → slice_get p.messages id.0 ≡ o → ((m : List ℕ × Class) × (slice_get p.messages id.0 ≡ Some m)) → is_word_text (message_name p id) ≡ true
        go o is some = rw some.1 (pair_word p.messages id.0 some.0.0 (messages_declarable p good) (sym (ap (option_map (λ (m : List ℕ × Class). m.0)) some.1)))

    -- the requests lead to an entry that has them
    pub record RequestsRead (es : List RawEntry) (x : RawEntry) (object : ℕ × Place) (message : MsgId × Place) (ms : List Message) (place : Place) (tail : List ℕ) : Type 0 where
      pub placed : List (Message × Place)
      pub last : MsgId × Place
      pub are : map (λ r. r.0) placed ≡ ms
      pub leads : Leads grammar place (flat_map (request_text p) ms) tail (state (reading (es ++ x ∷ []) object message) inside) (state (reading (es ++ record x { requests = x.requests ++ placed } ∷ []) object last) inside)

    apart_requests : (ms : List Message) (tail : List ℕ) → is_apart tail ≡ true → is_apart (flat_map (request_text p) ms ++ tail) ≡ true
    apart_requests [] tail apart = apart
    apart_requests (m ∷ ms) tail apart = refl

    request_read : (es : List RawEntry) (x : RawEntry) (object : ℕ × Place) (message : MsgId × Place) (m : Message) (place : Place) (tail : List ℕ) → IsPlain p m → is_apart tail ≡ true
        → Leads grammar place (request_text p m) tail (state (reading (es ++ x ∷ []) object message) inside)
        (state (reading (es ++ record x { requests = x.requests ++ (m, fold advance place (codes " ")) ∷ [] } ∷ []) object (m.id, fold advance place (codes " "))) inside)
    request_read es x object message m place tail plain apart =
        then grammar place (codes " " ++ message_name p m.id ++ codes " ") (decimal m.value) tail _ _ _
        (then grammar place (codes " " ++ message_name p m.id) (codes " ") (decimal m.value ++ tail) _ _ _
        (then grammar place (codes " ") (message_name p m.id) (codes " " ++ (decimal m.value ++ tail)) _ _ _
        (space grammar place (message_name p m.id ++ (codes " " ++ (decimal m.value ++ tail))) (state (reading (es ++ x ∷ []) object message) inside))
        (word grammar _ (message_name p m.id) (codes " " ++ (decimal m.value ++ tail)) _ _ (name_word m.id plain.id) refl (name_next (es ++ x ∷ []) object message m.id (fold advance place (codes " ")) plain.id)))
        (space grammar _ (decimal m.value ++ tail) _))
        (number grammar _ m.value tail _ _ plain.value apart (value_next es x object (m.id, fold advance place (codes " ")) m.value (fold advance place (codes " " ++ message_name p m.id ++ codes " ")) plain.value))

    pub requests_read : (es : List RawEntry) (x : RawEntry) (object : ℕ × Place) (message : MsgId × Place) (ms : List Message) (place : Place) (tail : List ℕ) → All (IsPlain p) ms → is_apart tail ≡ true
        → RequestsRead es x object message ms place tail
    requests_read es x object message [] place tail plain apart = record {
      placed = [];
      last = message;
      are = refl;
      leads = subst (λ (l : List (Message × Place)). Leads grammar place [] tail (state (reading (es ++ x ∷ []) object message) inside) (state (reading (es ++ record x { requests = l } ∷ []) object message) inside)) (sym (append-nil x.requests)) (nothing grammar place tail _);
    }
    requests_read es x object message (m ∷ ms) place tail plain apart =
        let here = fold advance place (codes " ") in
        let first = request_read es x object message m place (flat_map (request_text p) ms ++ tail) (All-head (IsPlain p) m ms plain) (apart_requests ms tail apart) in
        let rest = requests_read es (record x { requests = x.requests ++ (m, here) ∷ [] }) object (m.id, here) ms (fold advance place (request_text p m)) tail (All-tail (IsPlain p) m ms plain) apart in
        record {
          placed = (m, here) ∷ rest.placed;
          last = rest.last;
          are = ap (λ (l : List Message). m ∷ l) rest.are;
          leads = subst (λ (l : List (Message × Place)). Leads grammar place (flat_map (request_text p) (m ∷ ms)) tail (state (reading (es ++ x ∷ []) object message) inside) (state (reading (es ++ record x { requests = l } ∷ []) object rest.last) inside))
              (append_assoc x.requests ((m, here) ∷ []) rest.placed)
              (then grammar place (request_text p m) (flat_map (request_text p) ms) tail _ _ _ first rest.leads);
        }

    -- entries

    -- the end of an entry's head is read: it has no requests yet
    abbrev headed : ℕ × Place → ℕ × Place → RawEntry
    headed object line = record { object = object; line = line; requests = [] }

    abbrev object_to_come : List (Symbol Terminal Item)
    object_to_come = One the.Object ∷ One the.LineWord ∷ One the.Line ∷ inside

    at_next : (b : Bool) (es : List RawEntry) (object : ℕ × Place) (message : MsgId × Place) (place : Place)
        → next full grammar (state (reading es object message) (stack_of b)) (at kind.Word (codes "at") place) ≡ Some (state (reading es object message) object_to_come)
    at_next true es object message place = rw (no_message (codes "at") refl) refl
    at_next false es object message place = refl

    end_next : (b : Bool) (es : List RawEntry) (object : ℕ × Place) (message : MsgId × Place) (place : Place)
        → next full grammar (state (reading es object message) (stack_of b)) (at kind.Word (codes "end") place) ≡ Some (state (reading es object message) [])
    end_next true es object message place = rw (no_message (codes "end") refl) refl
    end_next false es object message place = refl

    object_next : (es : List RawEntry) (object : ℕ × Place) (message : MsgId × Place) (n : ℕ) (place : Place) → n ≤ most_number
        → next full grammar (state (reading es object message) object_to_come) (at kind.Number (decimal n) place) ≡ Some (state (reading es (n, place) message) (One the.LineWord ∷ One the.Line ∷ inside))
    object_next es object message n place le =
        ap (λ m. cond (nat_le m most_number) (Some (state (reading es (m, place) message) (One the.LineWord ∷ One the.Line ∷ inside))) None) (number_back n (omega (arith, le)))
        ∙ if_within n most_number _ _ le

    line_next : (es : List RawEntry) (object : ℕ × Place) (message : MsgId × Place) (n : ℕ) (place : Place) → n ≤ most_number
        → next full grammar (state (reading es object message) (One the.Line ∷ inside)) (at kind.Number (decimal n) place) ≡ Some (state (reading (es ++ headed object (n, place) ∷ []) object message) inside)
    line_next es object message n place le =
        ap (λ m. cond (nat_le m most_number) (Some (state (reading (es ++ headed object (m, place) ∷ []) object message) inside)) None) (number_back n (omega (arith, le)))
        ∙ if_within n most_number _ _ le

    -- a text leads to more entries, which are these without their places
    pub record EntriesRead (es : List RawEntry) (b : Bool) (object : ℕ × Place) (message : MsgId × Place) (place : Place) (text tail : List ℕ) (expected : List Plain) : Type 0 where
      pub new : List RawEntry
      pub inner : Bool
      pub object_after : ℕ × Place
      pub message_after : MsgId × Place
      pub are : map plain new ≡ expected
      pub leads : Leads grammar place text tail (state (reading es object message) (stack_of b)) (state (reading (es ++ new) object_after message_after) (stack_of inner))

    module _ (es : List RawEntry) (b : Bool) (object : ℕ × Place) (message : MsgId × Place) (o line : ℕ) (ms : List Message) (place : Place) (tail : List ℕ) (few_objects : o ≤ most_number) (few_lines : line ≤ most_number) (good_ones : All (IsPlain p) ms) where
      abbrev to_object : List ℕ
      to_object = codes "at "

      abbrev to_line : List ℕ
      to_line = codes "at " ++ decimal o ++ codes " line "

      abbrev to_requests : List ℕ
      to_requests = codes "at " ++ decimal o ++ codes " line " ++ decimal line

      abbrev tail_requests : List ℕ
      tail_requests = flat_map (request_text p) ms ++ (codes "\n" ++ tail)

      abbrev tail_line : List ℕ
      tail_line = decimal line ++ tail_requests

      abbrev tail_object : List ℕ
      tail_object = decimal o ++ (codes " line " ++ tail_line)

      abbrev object_at : ℕ × Place
      object_at = (o, fold advance place to_object)

      abbrev line_at : ℕ × Place
      line_at = (line, fold advance place to_line)

      at_word : Leads grammar place to_object tail_object (state (reading es object message) (stack_of b)) (state (reading es object message) object_to_come)
      at_word =
          then grammar place (codes "at") (codes " ") tail_object _ _ _
          (word grammar place (codes "at") (codes " " ++ tail_object) _ _ refl refl (at_next b es object message place))
          (space grammar _ tail_object _)

      object_number : Leads grammar (fold advance place to_object) (decimal o) (codes " line " ++ tail_line) (state (reading es object message) object_to_come) (state (reading es object_at message) (One the.LineWord ∷ One the.Line ∷ inside))
      object_number = number grammar _ o (codes " line " ++ tail_line) _ _ (omega (arith, few_objects)) refl (object_next es object message o (fold advance place to_object) few_objects)

      line_word : Leads grammar (fold advance place (to_object ++ decimal o)) (codes " line ") tail_line (state (reading es object_at message) (One the.LineWord ∷ One the.Line ∷ inside)) (state (reading es object_at message) (One the.Line ∷ inside))
      line_word =
          then grammar _ (codes " ") (codes "line ") tail_line _ _ _
          (space grammar _ (codes "line " ++ tail_line) _)
          (then grammar _ (codes "line") (codes " ") tail_line _ _ _
          (word grammar _ (codes "line") (codes " " ++ tail_line) _ _ refl refl refl)
          (space grammar _ tail_line _))

      line_number : Leads grammar (fold advance place to_line) (decimal line) tail_requests (state (reading es object_at message) (One the.Line ∷ inside)) (state (reading (es ++ headed object_at line_at ∷ []) object_at message) inside)
      line_number = number grammar _ line tail_requests _ _ (omega (arith, few_lines)) (apart_requests ms (codes "\n" ++ tail) refl) (line_next es object_at message line (fold advance place to_line) few_lines)

      its_requests : RequestsRead es (headed object_at line_at) object_at message ms (fold advance place to_requests) (codes "\n" ++ tail)
      its_requests = requests_read es (headed object_at line_at) object_at message ms (fold advance place to_requests) (codes "\n" ++ tail) good_ones refl

      pub entry_read : EntriesRead es b object message place (entry_text p o line ms) tail (record { object = o; line = line; requests = ms } ∷ [])
      entry_read = record {
        new = record { object = object_at; line = line_at; requests = its_requests.placed } ∷ [];
        inner = true;
        object_after = object_at;
        message_after = its_requests.last;
        are = ap (λ (l : List Message). record { object = o; line = line; requests = l } ∷ []) its_requests.are;
        leads =
            then grammar place (to_requests ++ flat_map (request_text p) ms) (codes "\n") tail _ _ _
            (then grammar place to_requests (flat_map (request_text p) ms) (codes "\n" ++ tail) _ _ _
            (then grammar place to_line (decimal line) tail_requests _ _ _
            (then grammar place (to_object ++ decimal o) (codes " line ") tail_line _ _ _
            (then grammar place to_object (decimal o) (codes " line " ++ tail_line) _ _ _ at_word object_number)
            line_word)
            line_number)
            its_requests.leads)
            (feed grammar _ tail _);
      }

    -- a text that leads to entries, wherever it stands
    pub record Gives (text : List ℕ) (expected : List Plain) : Type 0 where
      pub read : (es : List RawEntry) (b : Bool) (object : ℕ × Place) (message : MsgId × Place) (place : Place) (tail : List ℕ) → EntriesRead es b object message place text tail expected

    pub gives_none : Gives [] []
    gives_none = record {
      read = λ es b object message place tail. record {
        new = [];
        inner = b;
        object_after = object;
        message_after = message;
        are = refl;
        leads = subst (λ (l : List RawEntry). Leads grammar place [] tail (state (reading es object message) (stack_of b)) (state (reading l object message) (stack_of b))) (sym (append-nil es)) (nothing grammar place tail _);
      };
    }

    gives_both : (a c : List ℕ) (xs ys : List Plain) → Gives a xs → Gives c ys → Gives (a ++ c) (xs ++ ys)
    gives_both a c xs ys first second = record { read = λ es b object message place tail. go es b object message place tail }
      where
        go : (es : List RawEntry) (b : Bool) (object : ℕ × Place) (message : MsgId × Place) (place : Place) (tail : List ℕ) → EntriesRead es b object message place (a ++ c) tail (xs ++ ys)
        go es b object message place tail =
            let one = first.read es b object message place (c ++ tail) in
            let two = second.read (es ++ one.new) one.inner one.object_after one.message_after (fold advance place a) tail in
            record {
              new = one.new ++ two.new;
              inner = two.inner;
              object_after = two.object_after;
              message_after = two.message_after;
              are = map-append plain one.new two.new ∙ (λ i. one.are i ++ two.are i);
              leads = subst (λ (l : List RawEntry). Leads grammar place (a ++ c) tail (state (reading es object message) (stack_of b)) (state (reading l two.object_after two.message_after) (stack_of two.inner)))
                  (append_assoc es one.new two.new)
                  (then grammar place a c tail _ _ _ one.leads two.leads);
            }

    pub gives_all : {X : Type 0} (f : X → List ℕ) (g : X → List Plain) (xs : List X) → All (λ x. Gives (f x) (g x)) xs → Gives (flat_map f xs) (flat_map g xs)
    gives_all f g [] all = gives_none
    gives_all f g (x ∷ xs) all =
        gives_both (f x) (flat_map f xs) (g x) (flat_map g xs) (All-head (λ x. Gives (f x) (g x)) x xs all) (gives_all f g xs (All-tail (λ x. Gives (f x) (g x)) x xs all))

    pub end_read : (es : List RawEntry) (b : Bool) (object : ℕ × Place) (message : MsgId × Place) (place : Place) (tail : List ℕ)
        → Leads grammar place (codes "end\n") tail (state (reading es object message) (stack_of b)) (state (reading es object message) [])
    end_read es b object message place tail =
        then grammar place (codes "end") (codes "\n") tail _ _ _
        (word grammar place (codes "end") (codes "\n" ++ tail) _ _ refl refl (end_next b es object message place))
        (feed grammar _ tail _)
