-- What rules take, need, free, lock and send, read back.
use Rattle.std.proofs.Common.{◌≡◌, ℕ, ◌≤◌, true, not, ◌==◌, ◌&&◌, List, [], ◌∷◌, ◌++◌, length, refl, ap, ◌∙◌, arith, Option, Some, None, append_assoc, nat_lt, ltb-true}
use Rattle.hem_base.specs.declared.ids.MsgId.{MsgId}
use Rattle.hem_base.specs.declared.ids.StatusSet.{StatusSet}
use Rattle.hem_base.specs.declared.words.Reserved.TheVariants as word
use Rattle.hem_text.specs.declared.symbol.Symbol.{Symbol}
use Rattle.hem_text.specs.declared.symbol.Symbol.TheVariants.{Item as Some_of, Maybe, Many}
use Rattle.hem_text.specs.Grammars.{state}
use Rattle.hem_syntax.specs.declared.rule.Hold.{Hold}
use Rattle.hem_syntax.specs.declared.rule.Hold.TheVariants as hold
use Rattle.hem_syntax.specs.declared.rule.Side.{Side}
use Rattle.hem_syntax.specs.declared.rule.Side.TheVariants as side
use Rattle.hem_syntax.specs.declared.rule.Origin.{Origin}
use Rattle.hem_syntax.specs.declared.rule.Origin.TheVariants as origin
use Rattle.hem_syntax.specs.declared.rule.Value.{Value}
use Rattle.hem_syntax.specs.declared.rule.Value.TheVariants as value
use Rattle.hem_syntax.specs.declared.rule.Take.{Take}
use Rattle.hem_syntax.specs.declared.rule.Take.TheVariants as take
use Rattle.hem_syntax.specs.declared.rule.SendTo.{SendTo}
use Rattle.hem_syntax.specs.declared.rule.SendTo.TheVariants as sending
use Rattle.hem_syntax.specs.declared.rule.Rule.{Rule}
use Rattle.hem_grammar.specs.declared.terminals.Terminal.{Terminal}
use Rattle.hem_grammar.specs.declared.terminals.Terminal.TheVariants as the
use Rattle.hem_grammar.specs.declared.terminals.RulePart.TheVariants as rule
use Rattle.hem_grammar.specs.declared.terminals.SendPart.TheVariants as send
use Rattle.hem_grammar.specs.declared.terminals.Item.{Item}
use Rattle.hem_grammar.specs.declared.terminals.Item.TheVariants as item
use Rattle.hem_grammar.specs.Grammar.{w, r, t}
use Rattle.hem_syntax.specs.Protocol.{Protocol, KindPart}
use Rattle.hem_syntax.specs.Lawful.{counts_of, has_take, has_send, has_set}
use Rattle.hem_grammar.specs.Draft.{no_message, no_status, send_with_message, send_with_value, hold_word, side_word, origin_word}
use Rattle.hem_print.specs.Canonical.{Word, plain, named, value_word, take_words, free_words, lock_words, message_words, send_words, set_words, message_name}
use Rattle.hem_print.proofs.Steps.{go, picks, pick}
use Rattle.hem_print.proofs.Naming.{and_left, and_right, cond_true}
use Rattle.hem_print.proofs.SetRuns.{Fills, set_run}
use Rattle.hem_print.proofs.AtomRuns.{not_zero}
use Rattle.hem_print.proofs.Around.{Around, env, AreNamed, GoesOn, Part, sets, frees, locks, sends, ends, part_word, order, pass_over, message_known, message_is, message_no_status}

-- what a rule takes
pub take_run : (p : Protocol) (k : KindPart) (c : Around) (x : Rule) → AreNamed p k → (rest : List (Symbol Terminal Item)) (y : Take) → has_take (counts_of p k) y ≡ true → (tail : List Word) →
    go (state (env p k c x) (Some_of item.Take ∷ rest)) (take_words p y ++ tail) ≡ go (state (env p k c (record x { take = y })) rest) tail
take_run p k c x names rest (take.Me id) has tail =
    pick (env p k c (record x { take = take.Me no_message })) (named (message_name p id)) tail (r rule.TakeMessage) rest (the.Rule rule.TakeMessage) (cond_true _ _ _ (message_known p id has)) refl refl
    ∙ ap (λ (j : ℕ). go (state (env p k c (record x { take = take.Me (record { 0 = j }) })) rest) tail) (message_is p k id names has)
take_run p k c x names rest (take.Parent id) has tail =
    pick (env p k c (record x { take = take.Parent no_message })) (named (message_name p id)) tail (r rule.TakeMessage) rest (the.Rule rule.TakeMessage) (cond_true _ _ _ (message_known p id has)) refl refl
    ∙ ap (λ (j : ℕ). go (state (env p k c (record x { take = take.Parent (record { 0 = j }) })) rest) tail) (message_is p k id names has)
take_run p k c x names rest (take.Kids id) has tail =
    pick (env p k c (record x { take = take.Kids no_message })) (named (message_name p id)) tail (r rule.TakeMessage) rest (the.Rule rule.TakeMessage) (cond_true _ _ _ (message_known p id has)) refl refl
    ∙ ap (λ (j : ℕ). go (state (env p k c (record x { take = take.Kids (record { 0 = j }) })) rest) tail) (message_is p k id names has)
take_run p k c x names rest take.Nothing has tail = refl

-- what it needs of the lock to the parent
pub up_run : (p : Protocol) (k : KindPart) (c : Around) (x : Rule) (rest : List (Symbol Terminal Item)) (h : Hold) (tail : List Word) →
    go (state (env p k c x) (w word.Up ∷ Some_of item.UpHold ∷ rest)) (plain word.Up ∷ plain (hold_word h) ∷ tail) ≡ go (state (env p k c (record x { need = record { up = h; down = x.need.down } })) rest) tail
up_run p k c x rest hold.Any tail = refl
up_run p k c x rest _ tail = refl

-- what it needs of the lock to the children
pub down_run : (p : Protocol) (k : KindPart) (c : Around) (x : Rule) (rest : List (Symbol Terminal Item)) (h : Hold) (tail : List Word) →
    go (state (env p k c x) (w word.Down ∷ Some_of item.DownHold ∷ rest)) (plain word.Down ∷ plain (hold_word h) ∷ tail) ≡ go (state (env p k c (record x { need = record { up = x.need.up; down = h } })) rest) tail
down_run p k c x rest hold.Any tail = refl
down_run p k c x rest _ tail = refl

-- the lock that a rule frees
pub free_run : (p : Protocol) (k : KindPart) (c : Around) (rest : List (Symbol Terminal Item)) (tail : List Word) → GoesOn 3 tail → (x : Rule) → x.free ≡ None → (y : Option Side) →
    go (state (env p k c x) (Maybe item.Free ∷ rest)) (free_words y ++ tail) ≡ go (state (env p k c (record x { free = y })) rest) tail
free_run p k c rest tail on x none None =
    pass_over (env p k c x) (Maybe item.Free) rest 3 tail on refl no_free
    ∙ ap (λ (y : Option Side). go (state (env p k c (record x { free = y })) rest) tail) none
  where
    no_free : (part : Part) → 3 ≤ order part → picks (env p k c x) (plain (part_word part)) (the.Rule rule.Free ∷ []) ≡ None
    no_free sets late = absurd (omega arith)
    no_free frees late = absurd (omega arith)
    no_free _ late = refl
free_run p k c rest tail on x none (Some side.Up) = refl
free_run p k c rest tail on x none (Some side.Down) = refl

-- the lock that a rule takes
pub lock_run : (p : Protocol) (k : KindPart) (c : Around) (rest : List (Symbol Terminal Item)) (tail : List Word) → GoesOn 4 tail → (x : Rule) → x.lock ≡ None → (y : Option (Side × Origin)) →
    go (state (env p k c x) (Maybe item.Lock ∷ rest)) (lock_words y ++ tail) ≡ go (state (env p k c (record x { lock = y })) rest) tail
lock_run p k c rest tail on x none None =
    pass_over (env p k c x) (Maybe item.Lock) rest 4 tail on refl no_lock
    ∙ ap (λ (y : Option (Side × Origin)). go (state (env p k c (record x { lock = y })) rest) tail) none
  where
    no_lock : (part : Part) → 4 ≤ order part → picks (env p k c x) (plain (part_word part)) (the.Rule rule.Lock ∷ []) ≡ None
    no_lock sets late = absurd (omega arith)
    no_lock frees late = absurd (omega arith)
    no_lock locks late = absurd (omega arith)
    no_lock _ late = refl
lock_run p k c rest tail on x none (Some l) = one l.0 l.1
  where
    one : (s : Side) (o : Origin) → go (state (env p k c x) (Maybe item.Lock ∷ rest)) (plain word.Lock ∷ plain (side_word s) ∷ plain (origin_word o) ∷ tail) ≡ go (state (env p k c (record x { lock = Some (s, o) })) rest) tail
    one side.Up origin.Child = refl
    one side.Up _ = refl
    one side.Down origin.Child = refl
    one side.Down _ = refl

-- the value of a message
value_run : (p : Protocol) (k : KindPart) (c : Around) (x : Rule) (y : SendTo) (rest : List (Symbol Terminal Item)) (v : Value) (tail : List Word) →
    go (state (env p k c (record x { send = y })) (Some_of item.SendValue ∷ rest)) (value_word v ∷ tail) ≡ go (state (env p k c (record x { send = send_with_value y v })) rest) tail
value_run p k c x y rest value.Val tail = refl
value_run p k c x y rest _ tail = refl

-- a message and its value
message_run : (p : Protocol) (k : KindPart) (c : Around) (x : Rule) → AreNamed p k → (y : SendTo) (rest : List (Symbol Terminal Item)) (id : MsgId) (v : Value) → nat_lt id.0 (length p.messages) ≡ true → (tail : List Word) →
    go (state (env p k c (record x { send = y })) (t send.Message ∷ Some_of item.SendValue ∷ rest)) (message_words p id v ++ tail) ≡ go (state (env p k c (record x { send = send_with_value (send_with_message y id) v })) rest) tail
message_run p k c x names y rest id v has tail =
    pick (env p k c (record x { send = y })) (named (message_name p id)) (value_word v ∷ tail) (t send.Message) (Some_of item.SendValue ∷ rest) (the.Send send.Message) (cond_true _ _ _ (message_known p id has)) refl refl
    ∙ ap (λ (j : ℕ). go (state (env p k c (record x { send = send_with_message y (record { 0 = j }) })) (Some_of item.SendValue ∷ rest)) (value_word v ∷ tail)) (message_is p k id names has)
    ∙ value_run p k c x (send_with_message y id) rest v tail

kids_fills : (p : Protocol) (k : KindPart) (c : Around) (x : Rule) → Fills p.statuses (λ s. env p k c (record x { send = sending.Kids s no_message value.Zero })) (the.Send send.Status) (the.Send send.More) item.SendMore
kids_fills p k c x = record {
  first_spelled = λ s t. refl;
  more_spelled = λ s t. refl;
  first_fresh = λ s text. refl;
  more_fresh = λ s text. refl;
  first_within = λ s text. refl;
  more_within = λ s text. refl;
  first_says = λ s text. refl;
  more_says = λ s text. refl;
  first_ends = refl;
  more_ends = refl;
  begins = refl;
}

others_fills : (p : Protocol) (k : KindPart) (c : Around) (x : Rule) → Fills p.statuses (λ s. env p k c (record x { send = sending.Others s no_message value.Zero })) (the.Send send.Status) (the.Send send.More) item.SendMore
others_fills p k c x = record {
  first_spelled = λ s t. refl;
  more_spelled = λ s t. refl;
  first_fresh = λ s text. refl;
  more_fresh = λ s text. refl;
  first_within = λ s text. refl;
  more_within = λ s text. refl;
  first_says = λ s text. refl;
  more_says = λ s text. refl;
  first_ends = refl;
  more_ends = refl;
  begins = refl;
}

-- what a rule sends to those of a set
sent_to : (p : Protocol) (k : KindPart) (c : Around) → AreNamed p k → (rest : List (Symbol Terminal Item)) (tail : List Word) (x : Rule) (make : StatusSet → SendTo) →
    Fills p.statuses (λ s. env p k c (record x { send = make s })) (the.Send send.Status) (the.Send send.More) item.SendMore → (set : StatusSet) (id : MsgId) (v : Value) → (has_set (counts_of p k) set && nat_lt id.0 (length p.messages)) ≡ true →
    go (state (env p k c (record x { send = make no_status })) (t send.Status ∷ Many item.SendMore ∷ t send.Message ∷ Some_of item.SendValue ∷ rest)) ((set_words p set ++ message_words p id v) ++ tail)
    ≡ go (state (env p k c (record x { send = send_with_value (send_with_message (make set) id) v })) rest) tail
sent_to p k c names rest tail x make fills set id v has =
    let has_id = and_right (has_set (counts_of p k) set) _ has in
    let has_statuses = and_left (has_set (counts_of p k) set) _ has in
    ap (λ ws. go (state (env p k c (record x { send = make no_status })) (t send.Status ∷ Many item.SendMore ∷ t send.Message ∷ Some_of item.SendValue ∷ rest)) ws) (append_assoc (set_words p set) (message_words p id v) tail)
    ∙ set_run p.statuses names.statuses (λ s. env p k c (record x { send = make s })) (the.Send send.Status) (the.Send send.More) item.SendMore fills
    (t send.Message ∷ Some_of item.SendValue ∷ rest) (named (message_name p id)) (value_word v ∷ tail) (message_no_status p k id names has_id) names.some names.few set
    (not_zero set.0 (and_left (not (set.0 == 0)) _ has_statuses)) (ltb-true _ _ (and_right (not (set.0 == 0)) _ has_statuses))
    ∙ message_run p k c x names (make set) rest id v has_id tail

-- what a rule sends
pub send_run : (p : Protocol) (k : KindPart) (c : Around) → AreNamed p k → (rest : List (Symbol Terminal Item)) (tail : List Word) → GoesOn 5 tail → (x : Rule) → x.send ≡ sending.Nothing → (y : SendTo) → has_send (counts_of p k) y ≡ true →
    go (state (env p k c x) (Maybe item.Send ∷ rest)) (send_words p y ++ tail) ≡ go (state (env p k c (record x { send = y })) rest) tail
send_run p k c names rest tail on x none sending.Nothing has =
    pass_over (env p k c x) (Maybe item.Send) rest 5 tail on refl no_send
    ∙ ap (λ (y : SendTo). go (state (env p k c (record x { send = y })) rest) tail) none
  where
    no_send : (part : Part) → 5 ≤ order part → picks (env p k c x) (plain (part_word part)) (the.Send send.Send ∷ []) ≡ None
    no_send sets late = absurd (omega arith)
    no_send frees late = absurd (omega arith)
    no_send locks late = absurd (omega arith)
    no_send sends late = absurd (omega arith)
    no_send ends late = refl
send_run p k c names rest tail on x none (sending.Me id v) has = message_run p k c x names (sending.Me no_message value.Zero) rest id v has tail
send_run p k c names rest tail on x none (sending.Parent id v) has = message_run p k c x names (sending.Parent no_message value.Zero) rest id v has tail
send_run p k c names rest tail on x none (sending.Kids set id v) has = sent_to p k c names rest tail x (λ s. sending.Kids s no_message value.Zero) (kids_fills p k c x) set id v has
send_run p k c names rest tail on x none (sending.Others set id v) has = sent_to p k c names rest tail x (λ s. sending.Others s no_message value.Zero) (others_fills p k c x) set id v has
