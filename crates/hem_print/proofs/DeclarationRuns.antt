-- Declarations read back.
use Rattle.std.proofs.Common.{◌≡◌, ◌+◌, ◌≤◌, true, false, ◌||◌, List, [], ◌∷◌, ◌++◌, map, length, refl, sym, ap, ◌∙◌, arith, None, append_assoc, append-nil, nat_lt}
use Rattle.std.specs.List.{list_all}
use Rattle.std.specs.Str.{bytes_eq}
use Rattle.std.proofs.lemmas.List.{map-append}
use Rattle.std.proofs.lemmas.List.Folds.{list_any-append}
use Rattle.hem_base.specs.declared.words.Reserved.{Reserved}
use Rattle.hem_base.specs.declared.words.Reserved.TheVariants as word
use Rattle.hem_text.specs.declared.symbol.Symbol.{Symbol}
use Rattle.hem_text.specs.declared.symbol.Symbol.TheVariants.{Item as Some_of, Many}
use Rattle.hem_text.specs.Grammars.{state}
use Rattle.hem_syntax.specs.declared.rule.Class.{Class}
use Rattle.hem_syntax.specs.declared.rule.Class.TheVariants as class
use Rattle.hem_grammar.specs.declared.terminals.Terminal.{Terminal}
use Rattle.hem_grammar.specs.declared.terminals.Terminal.TheVariants as the
use Rattle.hem_grammar.specs.declared.terminals.Part.TheVariants as part
use Rattle.hem_grammar.specs.declared.terminals.Item.{Item}
use Rattle.hem_grammar.specs.declared.terminals.Item.TheVariants as item
use Rattle.hem_grammar.specs.Grammar.{p as d}
use Rattle.hem_syntax.specs.Protocol.{Text}
use Rattle.hem_syntax.specs.Lawful.{is_declarable, are_distinct}
use Rattle.hem_grammar.specs.Draft.{Read, nothing, is_in, is_among, set_last, class_word, with_class}
use Rattle.hem_print.specs.Canonical.{Word, plain, named, message_line}
use Rattle.hem_print.proofs.Steps.{go, picks, pick, skip}
use Rattle.hem_print.proofs.Naming.{and_left, and_right, both, room, room_after, not_false, or_left, or_right, or_both, cond_true, among_is, last_snoc, set_last_snoc}
use Rattle.hem_print.proofs.RuleRuns.{words_of}
use Rattle.hem_print.proofs.RulesRuns.{new_name}
use Rattle.hem_print.proofs.KindRuns.{new_before}

-- the name, these statuses and these messages are read
abbrev pub declared : Text → List Text → List (Text × Class) → Read
declared name ss ms = record nothing { name = name; statuses = ss; messages = ms }

-- one of the first two statuses
first_status_run : (name : Text) (rest : List (Symbol Terminal Item)) (done : List Text) (n : Text) → is_declarable n ≡ true → is_in done n ≡ false → nat_lt (length done) 4 ≡ true → (tail : List Word) →
    go (state (declared name done []) (d part.NewStatus ∷ rest)) (named n ∷ tail) ≡ go (state (declared name (done ++ n ∷ []) []) rest) tail
first_status_run name rest done n good fresh few tail =
    pick (declared name done []) (named n) tail (d part.NewStatus) rest (the.Part part.NewStatus) (cond_true _ _ _ (new_name n good).spelled) (not_false _ (or_both _ _ fresh refl)) (both (new_name n good).short few)

-- a later status
more_status_run : (name : Text) (rest : List (Symbol Terminal Item)) (done : List Text) (n : Text) → is_declarable n ≡ true → is_in done n ≡ false → nat_lt (length done) 4 ≡ true → (tail : List Word) →
    go (state (declared name done []) (Many item.MoreStatuses ∷ rest)) (named n ∷ tail) ≡ go (state (declared name (done ++ n ∷ []) []) (Many item.MoreStatuses ∷ rest)) tail
more_status_run name rest done n good fresh few tail =
    pick (declared name done []) (named n) tail (Many item.MoreStatuses) rest (the.Part part.NewStatus) (cond_true _ _ _ (new_name n good).spelled) (not_false _ (or_both _ _ fresh refl)) (both (new_name n good).short few)

-- the later statuses, and the word after them
more_statuses : (name : Text) (rest : List (Symbol Terminal Item)) (after : Reserved) (ws : List Word) → ((ss : List Text) → picks (declared name ss []) (plain after) (the.Part part.NewStatus ∷ []) ≡ None) →
    (done ns : List Text) → list_all is_declarable ns ≡ true → are_distinct (done ++ ns) ≡ true → length done + length ns ≤ 4 →
    go (state (declared name done []) (Many item.MoreStatuses ∷ rest)) (map (λ n. named n) ns ++ plain after ∷ ws) ≡ go (state (declared name (done ++ ns) []) rest) (plain after ∷ ws)
more_statuses name rest after ws other done [] good apart few =
    skip (declared name done []) (plain after) ws (Many item.MoreStatuses) rest refl (other done)
    ∙ ap (λ (l : List Text). go (state (declared name l []) rest) (plain after ∷ ws)) (sym (append-nil done))
more_statuses name rest after ws other done (n ∷ ns) good apart few =
    more_status_run name rest done n (and_left (is_declarable n) _ good) (new_before done n ns apart) (room 4 (length done) (length ns) few) (map (λ n. named n) ns ++ plain after ∷ ws)
    ∙ more_statuses name rest after ws other (done ++ n ∷ []) ns (and_right (is_declarable n) _ good) (ap are_distinct (append_assoc done (n ∷ []) ns) ∙ apart) (room_after 4 done n (length ns) few)
    ∙ ap (λ (l : List Text). go (state (declared name l []) rest) (plain after ∷ ws)) (append_assoc done (n ∷ []) ns)

-- a message
message_run : (name : Text) (ss : List Text) (rest : List (Symbol Terminal Item)) (done : List (Text × Class)) (m : Text × Class) → is_declarable m.0 ≡ true → is_in ss m.0 ≡ false → is_among done m.0 ≡ false → nat_lt (length done) 64 ≡ true → (tail : List Word) →
    go (state (declared name ss done) (Many item.Messages ∷ rest)) (plain word.Message ∷ named m.0 ∷ plain (class_word m.1) ∷ tail) ≡ go (state (declared name ss (done ++ m ∷ [])) (Many item.Messages ∷ rest)) tail
message_run name ss rest done m good apart fresh few tail =
    let next = Many item.Messages ∷ rest in
    pick (declared name ss done) (plain word.Message) (named m.0 ∷ plain (class_word m.1) ∷ tail) (Many item.Messages) rest (the.Part part.Message) refl refl few
    ∙ pick (declared name ss done) (named m.0) (plain (class_word m.1) ∷ tail) (d part.NewMessage) (Some_of item.Classes ∷ next) (the.Part part.NewMessage) (cond_true _ _ _ (new_name m.0 good).spelled) (not_false _ (or_both _ _ apart fresh)) (both (new_name m.0 good).short few)
    ∙ classed m.1
    ∙ ap (λ (l : Text × Class). go (state (declared name ss (set_last (done ++ (m.0, class.ExtReq) ∷ []) (l.0, m.1))) next) tail) (last_snoc ([], m.1) done (m.0, class.ExtReq))
    ∙ ap (λ (l : List (Text × Class)). go (state (declared name ss l) next) tail) (set_last_snoc done (m.0, class.ExtReq) (m.0, m.1))
  where
    classed : (c : Class) → go (state (declared name ss (done ++ (m.0, class.ExtReq) ∷ [])) (Some_of item.Classes ∷ Many item.Messages ∷ rest)) (plain (class_word c) ∷ tail)
        ≡ go (state (declared name ss (with_class (done ++ (m.0, class.ExtReq) ∷ []) c)) (Many item.Messages ∷ rest)) tail
    classed class.ExtReq = refl
    classed _ = refl

-- the messages, and the word after them
messages_run : (name : Text) (ss : List Text) (rest : List (Symbol Terminal Item)) (ws : List Word) (done ms : List (Text × Class)) → list_all is_declarable (map (λ m. m.0) ms) ≡ true → are_distinct (ss ++ map (λ m. m.0) (done ++ ms)) ≡ true → length done + length ms ≤ 64 →
    go (state (declared name ss done) (Many item.Messages ∷ rest)) (words_of (map message_line ms) ++ plain word.Kind ∷ ws) ≡ go (state (declared name ss (done ++ ms)) rest) (plain word.Kind ∷ ws)
messages_run name ss rest ws done [] good apart few =
    skip (declared name ss done) (plain word.Kind) ws (Many item.Messages) rest refl refl
    ∙ ap (λ (l : List (Text × Class)). go (state (declared name ss l) rest) (plain word.Kind ∷ ws)) (sym (append-nil done))
messages_run name ss rest ws done (m ∷ ms) good apart few =
    message_run name ss rest done m (and_left (is_declarable m.0) _ good) (or_left _ _ (fresh apart)) (among_is done m.0 ∙ or_right (is_in ss m.0) _ (fresh apart)) (room 64 (length done) (length ms) few) (words_of (map message_line ms) ++ plain word.Kind ∷ ws)
    ∙ messages_run name ss rest ws (done ++ m ∷ []) ms (and_right (is_declarable m.0) _ good) (ap (λ (l : List (Text × Class)). are_distinct (ss ++ map (λ x. x.0) l)) (append_assoc done (m ∷ []) ms) ∙ apart) (room_after 64 done m (length ms) few)
    ∙ ap (λ (l : List (Text × Class)). go (state (declared name ss l) rest) (plain word.Kind ∷ ws)) (append_assoc done (m ∷ []) ms)
  where
    fresh : are_distinct (ss ++ map (λ x. x.0) (done ++ m ∷ ms)) ≡ true → (is_in ss m.0 || is_in (map (λ x. x.0) done) m.0) ≡ false
    fresh apart =
        sym (list_any-append (λ n. bytes_eq n m.0) ss (map (λ x. x.0) done))
        ∙ new_before (ss ++ map (λ x. x.0) done) m.0 (map (λ x. x.0) ms)
        (ap are_distinct (append_assoc ss (map (λ x. x.0) done) (m.0 ∷ map (λ x. x.0) ms) ∙ ap (λ l. ss ++ l) (sym (map-append (λ x. x.0) done (m ∷ ms)))) ∙ apart)

-- the statuses and the messages
pub declarations_run : (name : Text) (ss : List Text) (ms : List (Text × Class)) (rest : List (Symbol Terminal Item)) (ws : List Word) → 2 ≤ length ss → length ss ≤ 4 → length ms ≤ 64 → list_all is_declarable ss ≡ true → list_all is_declarable (map (λ m. m.0) ms) ≡ true → are_distinct ss ≡ true → are_distinct (ss ++ map (λ m. m.0) ms) ≡ true →
    go (state (declared name [] []) (d part.NewStatus ∷ d part.NewStatus ∷ Many item.MoreStatuses ∷ Many item.Messages ∷ rest)) (map (λ n. named n) ss ++ (words_of (map message_line ms) ++ plain word.Kind ∷ ws))
    ≡ go (state (declared name ss ms) rest) (plain word.Kind ∷ ws)
declarations_run name [] ms rest ws some few few_ms good_ss good_ms once apart = absurd (omega arith)
declarations_run name (a ∷ []) ms rest ws some few few_ms good_ss good_ms once apart = absurd (omega arith)
declarations_run name (a ∷ b ∷ ss) ms rest ws some few few_ms good_ss good_ms once apart =
    let good_b = and_right (is_declarable a) _ good_ss in
    first_status_run name (d part.NewStatus ∷ Many item.MoreStatuses ∷ Many item.Messages ∷ rest) [] a (and_left (is_declarable a) _ good_ss) refl refl (named b ∷ (map (λ n. named n) ss ++ (words_of (map message_line ms) ++ plain word.Kind ∷ ws)))
    ∙ first_status_run name (Many item.MoreStatuses ∷ Many item.Messages ∷ rest) (a ∷ []) b (and_left (is_declarable b) _ good_b) (new_before (a ∷ []) b ss once) refl (map (λ n. named n) ss ++ (words_of (map message_line ms) ++ plain word.Kind ∷ ws))
    ∙ later ms
    ∙ messages_run name (a ∷ b ∷ ss) rest ws [] ms good_ms apart (omega (arith, few_ms))
  where
    later : (ys : List (Text × Class)) →
        go (state (declared name (a ∷ b ∷ []) []) (Many item.MoreStatuses ∷ Many item.Messages ∷ rest)) (map (λ n. named n) ss ++ (words_of (map message_line ys) ++ plain word.Kind ∷ ws))
        ≡ go (state (declared name (a ∷ b ∷ ss) []) (Many item.Messages ∷ rest)) (words_of (map message_line ys) ++ plain word.Kind ∷ ws)
    later [] = more_statuses name (Many item.Messages ∷ rest) word.Kind ws (λ l. refl) (a ∷ b ∷ []) ss (and_right (is_declarable b) _ (and_right (is_declarable a) _ good_ss)) once (omega (arith, few))
    later (y ∷ ys) = more_statuses name (Many item.Messages ∷ rest) word.Message (named y.0 ∷ plain (class_word y.1) ∷ (words_of (map message_line ys) ++ plain word.Kind ∷ ws)) (λ l. refl) (a ∷ b ∷ []) ss (and_right (is_declarable b) _ (and_right (is_declarable a) _ good_ss)) once (omega (arith, few))
