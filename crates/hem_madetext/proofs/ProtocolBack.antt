-- The protocol of a made document reads as the protocol of the document that it was made from.
use Rattle.std.proofs.Common.{◌≡◌, ◌≤◌, Bool, true, false, ◌&&◌, List, [], ◌∷◌, ◌++◌, map, drop, length, take_all, refl, sym, ap, ◌∙◌, subst, arith, append_assoc, append-nil, Some, None}
use Rattle.std.specs.Prelude.{fold, flat_map, codes, not, slice_get}
use Rattle.std.specs.List.{list_all}
use Rattle.std.specs.Option.{option_map_or}
use Rattle.std.proofs.lemmas.Grind.{flat_map-append}
use Rattle.hem_base.specs.declared.words.Reserved.TheVariants as word
use Rattle.hem_base.specs.Words.{is_word_text, is_reserved}
use Rattle.hem_text.specs.Lexemes.{Lexeme}
use Rattle.hem_text.specs.Tokens.{advance, tokens_from, tokens_of, start_place}
use Rattle.hem_text.specs.Spelling.{is_word, is_name, is_the_word}
use Rattle.hem_text.specs.Grammars.{full, run, state}
use Rattle.hem_text.specs.Parts.{IsPart}
use Rattle.hem_syntax.specs.Protocol.{Text, Protocol}
use Rattle.hem_syntax.specs.Lawful.{IsProtocol}
use Rattle.hem_grammar.specs.Draft.{Read, grammar, protocol_of}
use Rattle.hem_parser.specs.ProtocolReading.{begin, begins_use, Says, Fails, IsWritten, IsShipped, IsUse, IsUseFault, ReadsProtocol}
use Rattle.hem_print.specs.Canonical.{Word, plain, named, Line, line, line_text, lines_text, end_line, declaration_lines, kind_lines, protocol_text}
use Rattle.hem_print.proofs.Steps.{lex, bare}
use Rattle.hem_print.proofs.Lexing.{is_good, tokens_are}
use Rattle.hem_print.proofs.Reading.{reads_back}
use Rattle.hem_worktext.proofs.Leads.{Leads, part}
use Rattle.hem_cli.specs.Making.{used_name, use_line, protocol_part}
use Rattle.hem_madetext.proofs.LineFeeds.{EndsLine, parted}

-- a protocol that is written out

written_out : (ts rest : List Lexeme) (e : Read) (p : Protocol) → begins_use ts ≡ false → IsPart grammar begin ts rest e → p ≡ protocol_of e → ReadsProtocol ts rest p
written_out ts rest e p begins part says =
    let written : IsWritten ts rest p = record { count = part.count; read = e; reads = part.reads; others = part.others; says = says } in
    record {
      reads = subst (λ b. Says b ts rest p) (sym begins) written;
      only = λ others q other.
          let w : IsWritten ts others q = subst (λ b. Says b ts others q) begins other in
          let one = part.only.once w.count w.read w.reads in
          (w.others ∙ ap (λ n. drop n ts) one.0 ∙ sym part.others, w.says ∙ ap protocol_of one.1 ∙ sym says);
      faultless = λ k cause fails. part.only.faultless k cause (subst (λ b. Fails b ts k cause) begins fails);
    }

protocol_ends : (p : Protocol) → EndsLine (protocol_text p)
protocol_ends p =
    let front : List Line = declaration_lines p ++ kind_lines p word.Root p.root ++ kind_lines p word.Mid p.mid ++ kind_lines p word.Leaf p.leaf in
    record {
      before = flat_map line_text front ++ codes "end";
      is = flat_map-append line_text front (end_line ∷ []) ∙ sym (append_assoc (flat_map line_text front) (codes "end") (10 ∷ []));
    }

no_use : (p : Protocol) (tail : Text) → begins_use (tokens_of (protocol_text p ++ tail)) ≡ false
no_use p tail = refl

written_back : (p : Protocol) → IsProtocol p → (tail : Text) → ReadsProtocol (tokens_of (protocol_text p ++ tail)) (tokens_from 0 (fold advance start_place (protocol_text p)) tail) p
written_back p good tail =
    let back = reads_back p good in
    let ts : List Lexeme = tokens_of (protocol_text p) in
    let le : length ts ≤ length ts = omega arith in
    let leads : Leads grammar start_place (protocol_text p) tail begin (state back.env []) = record {
      tokens = ts;
      lexed = parted (protocol_text p) (protocol_ends p) start_place tail;
      runs = ap (run full grammar begin) (sym (take_all (length ts) ts le)) ∙ back.reads.runs;
    } in
    let whole = part grammar start_place (protocol_text p) tail begin back.env leads in
    written_out _ _ back.env p (no_use p tail) whole (sym back.says)

-- a shipped protocol that is named

some_once : {X : Type 0} (x y : X) → Some x ≡ Some y → y ≡ x
some_once x y e = cc

use_read : (x y : Lexeme) (rest : List Lexeme) (p : Protocol) → is_the_word word.Use x ≡ true → is_name y ≡ true → IsShipped y.text p → ((q : Protocol) → IsShipped y.text q → q ≡ p) → ReadsProtocol (x ∷ y ∷ rest) rest p
use_read x y rest p begins name shipped once =
    let ts : List Lexeme = x ∷ y ∷ rest in
    let used : IsUse ts rest p = record { name = y; there = refl; word = name; shipped = shipped; others = refl } in
    record {
      reads = subst (λ b. Says b ts rest p) (sym begins) used;
      only = λ others q says.
          let other : IsUse ts others q = subst (λ b. Says b ts others q) begins says in
          let same : other.name ≡ y = some_once y other.name other.there in
          (other.others, once q (subst (λ (t : Lexeme). IsShipped t.text q) same other.shipped));
      faultless = λ k cause fails. let fault : IsUseFault ts k cause = subst (λ b. Fails b ts k cause) begins fails in fault.unread rest p used;
    }

-- tokens that are two words
record AreTwo (ts : List Lexeme) (v w : Word) : Type 0 where
  first : Lexeme
  second : Lexeme
  are : ts ≡ first ∷ second ∷ []
  first_is : bare first ≡ lex v
  second_is : bare second ≡ lex w

two : (ts : List Lexeme) (v w : Word) → map bare ts ≡ lex v ∷ lex w ∷ [] → AreTwo ts v w
two [] v w e = absurd cc
two (x ∷ []) v w e = absurd cc
two (x ∷ y ∷ []) v w e = record { first = x; second = y; are = refl; first_is = cc; second_is = cc }
two (x ∷ y ∷ z ∷ zs) v w e = absurd cc

line_words : (n : Text) → is_word_text n ≡ true → map bare (tokens_of (use_line n)) ≡ lex (plain word.Use) ∷ lex (named n) ∷ []
line_words n is =
    let l : Line = line (plain word.Use) (named n ∷ []) in
    let text : lines_text (l ∷ []) ≡ use_line n = ap (λ t. codes "use " ++ t) (append-nil ((n ++ []) ++ codes "\n") ∙ ap (λ m. m ++ codes "\n") (append-nil n)) in
    let good : list_all is_good (plain word.Use ∷ named n ∷ []) ≡ true = rw is refl in
    ap (λ t. map bare (tokens_of t)) (sym text) ∙ tokens_are (l ∷ []) good

both : (a b : Bool) → (a && b) ≡ true → (a ≡ true) × (b ≡ true)
both true true h = (refl, refl)
both true false h = absurd cc
both false b h = absurd cc

used_back : (name : Lexeme) (p : Protocol) → is_name name ≡ true → IsShipped name.text p → ((q : Protocol) → IsShipped name.text q → q ≡ p) → (tail : Text)
    → ReadsProtocol (tokens_of (use_line name.text ++ tail)) (tokens_from 0 (fold advance start_place (use_line name.text)) tail) p
used_back name p is shipped once tail =
    let n : Text = name.text in
    let parts = both (is_word name && is_word_text n) (not (is_reserved n)) is in
    let spelled = both (is_word name) (is_word_text n) parts.0 in
    let found = two (tokens_of (use_line n)) (plain word.Use) (named n) (line_words n spelled.1) in
    let rest : List Lexeme = tokens_from 0 (fold advance start_place (use_line n)) tail in
    let all : tokens_of (use_line n ++ tail) ≡ found.first ∷ found.second ∷ rest =
    parted (use_line n) (record { before = codes "use " ++ n; is = refl }) start_place tail ∙ ap (λ ts. ts ++ rest) found.are in
    let text : n ≡ found.second.text = sym (ap (λ (l : Lexeme). l.text) found.second_is) in
    let good : is_name (lex (named n)) ≡ true = rw (spelled.1, parts.1) refl in
    subst (λ ts. ReadsProtocol ts rest p) (sym all)
    (use_read found.first found.second rest p (ap (is_the_word word.Use) found.first_is) (ap is_name found.second_is ∙ good)
    (subst (λ t. IsShipped t p) text shipped) (λ q other. once q (subst (λ t. IsShipped t q) (sym text) other)))

-- the name that is used

is_used : (ts : List Lexeme) (name : Lexeme) → begins_use ts ≡ true → slice_get ts 1 ≡ Some name → used_name ts ≡ Some name.text
is_used [] name begins there = absurd cc
is_used (t ∷ []) name begins there = absurd cc
is_used (t ∷ u ∷ us) name begins there = let same : u ≡ name = some_once name u (sym there) in rw begins (ap (λ (l : Lexeme). Some l.text) same)

not_used : (ts : List Lexeme) → begins_use ts ≡ false → used_name ts ≡ None
not_used [] begins = refl
not_used (t ∷ []) begins = refl
not_used (t ∷ u ∷ us) begins = rw begins refl

-- the part of the protocol, before any other text
pub protocol_back : (bytes : Text) (rest : List Lexeme) (p : Protocol) → ReadsProtocol (tokens_of bytes) rest p → IsProtocol p → (tail : Text)
    → ReadsProtocol (tokens_of (protocol_part bytes p ++ tail)) (tokens_from 0 (fold advance start_place (protocol_part bytes p)) tail) p
protocol_back bytes rest p reads good tail = go (begins_use (tokens_of bytes)) refl
  where
    ts : List Lexeme
    ts = tokens_of bytes

    Back : Text → Type 0
    Back text = ReadsProtocol (tokens_of (text ++ tail)) (tokens_from 0 (fold advance start_place text) tail) p

    go : (b : Bool) → begins_use ts ≡ b → Back (protocol_part bytes p)
    go false begins = subst Back (sym (ap (λ o. option_map_or use_line o (protocol_text p)) (not_used ts begins))) (written_back p good tail)
    go true begins =
        let used : IsUse ts rest p = subst (λ b. Says b ts rest p) begins reads.reads in
        let once : (q : Protocol) → IsShipped used.name.text q → q ≡ p = λ q shipped.
        (reads.only (drop 2 ts) q (subst (λ b. Says b ts (drop 2 ts) q) (sym begins) (record { name = used.name; there = used.there; word = used.word; shipped = shipped; others = refl }))).1 in
        subst Back (sym (ap (λ o. option_map_or use_line o (protocol_text p)) (is_used ts used.name begins used.there))) (used_back used.name p used.word used.shipped once tail)
