-- What the reader of protocols answers where a protocol is named, and where it is written out.
use Rattle.std.proofs.Common.{◌≡◌, ◌≢◌, ℕ, true, false, IsTrue, List, [], drop, refl, sym, ap, subst, ◌∙◌, Option, Some, None}
use Rattle.std.specs.Prelude.{slice_get, IfSome, IfOk, IfErr, Result, Ok, Err}
use Rattle.std.proofs.lemmas.List.{drop-drop}
use Rattle.hem_text.specs.Lexemes.{Lexeme}
use Rattle.hem_text.specs.Unread.{Unread}
use Rattle.hem_text.specs.declared.text.Place.{Place}
use Rattle.hem_text.specs.declared.text.Cause.{Cause}
use Rattle.hem_text.specs.declared.text.Cause.TheVariants.{Expected}
use Rattle.hem_text.specs.declared.symbol.Symbol.{Symbol}
use Rattle.hem_text.specs.Grammars.{state}
use Rattle.hem_text.specs.Tokens.{tokens_of}
use Rattle.hem_text.specs.Spelling.{is_name}
use Rattle.hem_text.specs.Parts.{IsPart}
use Rattle.hem_text.specs.Faults.{IsFirstFault, place_at, place_in}
use Rattle.hem_text.specs.declared.reader.TextError.{TextError}
use Rattle.hem_text.specs.declared.reader.TextError.TheVariants.{Text, OutOfMemory}
use Rattle.hem_text.specs.declared.reader.TextFault.{TextFault}
use Rattle.hem_text.proofs.FirstFaults.{slice_get-drop}
use Rattle.hem_shipped.specs.Texts.{text_of}
use Rattle.hem_syntax.specs.Protocol.{Protocol}
use Rattle.hem_grammar.specs.declared.terminals.Terminal.{Terminal}
use Rattle.hem_grammar.specs.declared.terminals.Item.{Item}
use Rattle.hem_grammar.specs.Grammar.{start}
use Rattle.hem_grammar.specs.Draft.{Read, grammar, nothing, protocol_of}
use Rattle.hem_parser.specs.ProtocolReading.{begin, IsWritten, IsWhole, IsShipped, IsProtocolOf, IsShippedAs, IsUsedAs, IsUse, IsUseFault, Says, Fails, IsOnlyFault, ReadsWritten, ReadsProtocol, IsFirstProtocolFault, begins_use, use_cause}

-- the text of a shipped protocol
pub not_whole : (bytes : List ℕ) (rest : List Lexeme) (p : Protocol) → ReadsWritten (tokens_of bytes) rest p → rest ≢ [] → IsProtocolOf bytes None
not_whole bytes rest p reads more = record { some = tt; only = λ q w. absurd (more (sym (reads.only [] q w).0)) }

pub not_read : (bytes : List ℕ) (end : Place) (f : TextFault) → IsFirstFault grammar begin (tokens_of bytes) end (Text f) → IsProtocolOf bytes None
not_read bytes end f fault = record { some = tt; only = λ q w. absurd (fault.3 w.count w.read w.reads) }

pub read_whole : (bytes : List ℕ) (rest : List Lexeme) (p : Protocol) → ReadsWritten (tokens_of bytes) rest p → rest ≡ [] → IsProtocolOf bytes (Some p)
read_whole bytes rest p reads all = record { some = subst (λ (ts : List Lexeme). IsWritten (tokens_of bytes) ts p) all reads.reads; only = λ q w. ap Some (sym (reads.only [] q w).1) }

-- a fact for the value, and for the error
pub if_ok : {A E : Type 0} (P Q : A → Type 0) (r : Result A E) → ((x : A) → P x → Q x) → IfOk r P → IfOk r Q
if_ok P Q (Ok x) f h = f x h
if_ok P Q (Err e) f h = tt

pub if_err : {A E : Type 0} (P Q : E → Type 0) (r : Result A E) → ((e : E) → P e → Q e) → IfErr r P → IfErr r Q
if_err P Q (Ok x) f h = tt
if_err P Q (Err e) f h = f e h

-- the text of that name
pub shipped_as : (name text : List ℕ) (o : Option Protocol) → text_of name ≡ Some text → IsProtocolOf text o → IsShippedAs name o
shipped_as name text o is reads = record { some = go o reads.some; only = λ p s. reads.only p (subst (λ (t : List ℕ). IsWhole t p) (same s) s.whole) }
  where
    same : {p : Protocol} (s : IsShipped name p) → s.text ≡ text
    same s = let both = sym s.there ∙ is in cc

    go : (o : Option Protocol) → IfSome o (IsWhole text) → IfSome o (IsShipped name)
    go None h = tt
    go (Some p) h = record { text = text; there = is; whole = h }

pub used_as : (name : Lexeme) (o : Option Protocol) → is_name name ≡ true → IsShippedAs name.text o → IsUsedAs name o
used_as name o word ships = record { some = go o ships.some; only = λ p w s. ships.only p s }
  where
    go : (o : Option Protocol) → IfSome o (IsShipped name.text) → IfSome o (λ p. IsTrue (is_name name) × IsShipped name.text p)
    go None h = tt
    go (Some p) h = (word, h)

-- a cursor one token on, and two
pub second : (begin one : Unread) (o : Option Lexeme) → one ≡ record begin { tokens = drop 1 begin.tokens } → o ≡ slice_get one.tokens 0 → o ≡ slice_get begin.tokens 1
second begin one o moved is = is ∙ ap (λ u. slice_get u.tokens 0) moved ∙ slice_get-drop 1 begin.tokens

pub behind : (begin one two : Unread) → one ≡ record begin { tokens = drop 1 begin.tokens } → two ≡ record one { tokens = drop 1 one.tokens } → two ≡ record begin { tokens = drop 2 begin.tokens }
behind begin one two first next = next ∙ ap {A = Unread} {B = Unread} (λ u. record u { tokens = drop 1 u.tokens }) first ∙ ap {B = Unread} (λ ts. record begin { tokens = ts }) (drop-drop 1 1 begin.tokens)

some_once : {X : Type 0} (x y : X) → Some x ≡ Some y → y ≡ x
some_once x y e = cc

module _ (ts : List Lexeme) (begins : begins_use ts ≡ true) where
  named_once : (name : Lexeme) (o : Option Protocol) (rest : List Lexeme) (q : Protocol) → Some name ≡ slice_get ts 1 → IsUsedAs name o → IsUse ts rest q → o ≡ Some q
  named_once name o rest q is used named =
      let same : named.name ≡ name = some_once name named.name (is ∙ named.there) in
      used.only q (subst (λ (t : Lexeme). IsTrue (is_name t)) same named.word) (subst (λ (t : Lexeme). IsShipped t.text q) same named.shipped)

  -- the shipped protocol alone is named
  pub reads_used : (t : Lexeme) (rest : List Lexeme) (p : Protocol) → Some t ≡ slice_get ts 1 → rest ≡ drop 2 ts → IsUsedAs t (Some p) → ReadsProtocol ts rest p
  reads_used t rest p is behind used =
      let named : IsUse ts rest p = record { name = t; there = sym is; word = used.some.0; shipped = used.some.1; others = behind } in
      record {
        reads = subst (λ b. Says b ts rest p) (sym begins) named;
        only = λ others q says. let other : IsUse ts others q = subst (λ b. Says b ts others q) begins says in (other.others ∙ sym behind, some_once p q (named_once t (Some p) others q is used other));
        faultless = λ k cause fails. let fault : IsUseFault ts k cause = subst (λ b. Fails b ts k cause) begins fails in fault.unread rest p named;
      }

  -- nothing shipped is named
  only_fault : (cause : Cause) → ((rest : List Lexeme) (q : Protocol) → IsUse ts rest q → ⊥) → cause ≡ use_cause (slice_get ts 1) → IsOnlyFault ts 1 cause
  only_fault cause unread why = record {
    fault = subst (λ b. Fails b ts 1 cause) (sym begins) (record { one = refl; unread = unread; why = why });
    unread = λ rest q says. unread rest q (subst (λ b. Says b ts rest q) begins says);
    once = λ j other fails. let fault : IsUseFault ts j other = subst (λ b. Fails b ts j other) begins fails in (fault.one, fault.why ∙ sym why);
  }

  pub fails_used : (t : Lexeme) (end : Place) (cause : Cause) → Some t ≡ slice_get ts 1 → IsUsedAs t None → cause ≡ use_cause (Some t) → (k : ℕ) × IsOnlyFault ts k cause × (t.place ≡ place_at ts end k)
  fails_used t end cause is used why = (1, only_fault cause (λ rest q named. let none = named_once t None rest q is used named in absurd cc) (why ∙ ap use_cause is), ap (place_in end) is)

  pub ends_used : (end : Place) → None ≡ slice_get ts 1 → (k : ℕ) × IsOnlyFault ts k Expected × (end ≡ place_at ts end k)
  ends_used end is = (1, only_fault Expected (λ rest q named. let both = is ∙ named.there in absurd cc) (ap use_cause is), ap (place_in end) is)

-- a protocol that is written out doesn't begin with `use`
module _ (ts : List Lexeme) (begins : begins_use ts ≡ false) where
  pub reads_written : (rest : List Lexeme) (p : Protocol) → ReadsWritten ts rest p → ReadsProtocol ts rest p
  reads_written rest p reads = record {
    reads = subst (λ b. Says b ts rest p) (sym begins) reads.reads;
    only = λ others q says. reads.only others q (subst (λ b. Says b ts others q) begins says);
    faultless = λ k cause fails. reads.faultless k cause (subst (λ b. Fails b ts k cause) begins fails);
  }

  pub fails_written : (end : Place) (e : TextError) → IsFirstFault grammar begin ts end e → IsFirstProtocolFault ts end e
  fails_written end OutOfMemory h = tt
  fails_written end (Text f) h = (
    h.0,
    record {
      fault = subst (λ b. Fails b ts h.0 f.cause) (sym begins) h.1;
      unread = λ rest q says. let w : IsWritten ts rest q = subst (λ b. Says b ts rest q) begins says in h.3 w.count w.read w.reads;
      once = λ j other fails. h.4 j other (subst (λ b. Fails b ts j other) begins fails);
    },
    h.2,
  )

-- what the machine answers is what the reader of a written protocol does
written_out : (ts rest : List Lexeme) (e : Read) (p : Protocol) → IsPart grammar begin ts rest e → p ≡ protocol_of e → ReadsWritten ts rest p
written_out ts rest e p part says = record {
  reads = record { count = part.count; read = e; reads = part.reads; others = part.others; says = says };
  only = λ others q w.
      let one = part.only.once w.count w.read w.reads in
      (w.others ∙ ap (λ n. drop n ts) one.0 ∙ sym part.others, w.says ∙ ap protocol_of one.1 ∙ sym says);
  faultless = part.only.faultless;
}

pub read_out : (first : Read) (stack : List (Symbol Terminal Item)) → first ≡ nothing → stack ≡ start → (ts rest : List Lexeme) (e : Read) (p : Protocol) → IsPart grammar (state first stack) ts rest e → p ≡ protocol_of e → ReadsWritten ts rest p
read_out first stack fresh all ts rest e p part says =
    let same : state first stack ≡ begin = cc in
    written_out ts rest e p (subst (λ s. IsPart grammar s ts rest e) same part) says
