-- The words of a protocol can be read.
use Rattle.std.proofs.Common.{◌≡◌, ℕ, ◌+◌, ◌<◌, ◌≤◌, Bool, true, false, cond, ◌&&◌, List, [], ◌∷◌, ◌++◌, map, length, refl, sym, ap, ◌∙◌, arith, Option, Some, None, nat_lt, nat_eq, ltb-true, lt-ltb, eqb-true}
use Rattle.std.specs.List.{list_all}
use Rattle.std.proofs.lemmas.List.Folds.{list_all-append}
use Rattle.std.proofs.lemmas.Grind.{flat_map-append}
use Rattle.hem_base.specs.Sets.{has_bit}
use Rattle.hem_base.specs.Words.{is_word_text}
use Rattle.hem_base.specs.declared.ids.Status8.{Status8}
use Rattle.hem_base.specs.declared.ids.StatusSet.{StatusSet}
use Rattle.hem_base.specs.declared.ids.MsgId.{MsgId}
use Rattle.hem_base.specs.declared.words.Reserved.{Reserved}
use Rattle.hem_base.specs.declared.words.Reserved.TheVariants as word
use Rattle.hem_base.specs.declared.words.Sign.TheVariants as sign
use Rattle.hem_syntax.specs.declared.rule.Class.{Class}
use Rattle.hem_syntax.specs.declared.rule.Side.{Side}
use Rattle.hem_syntax.specs.declared.rule.Origin.{Origin}
use Rattle.hem_syntax.specs.declared.rule.Value.{Value}
use Rattle.hem_syntax.specs.declared.rule.Value.TheVariants as value
use Rattle.hem_syntax.specs.declared.rule.Take.{Take}
use Rattle.hem_syntax.specs.declared.rule.Take.TheVariants as take
use Rattle.hem_syntax.specs.declared.rule.Atom.{Atom}
use Rattle.hem_syntax.specs.declared.rule.Atom.TheVariants as atom
use Rattle.hem_syntax.specs.declared.rule.Assign.{Assign}
use Rattle.hem_syntax.specs.declared.rule.Assign.TheVariants as assign
use Rattle.hem_syntax.specs.declared.rule.SendTo.{SendTo}
use Rattle.hem_syntax.specs.declared.rule.SendTo.TheVariants as send
use Rattle.hem_syntax.specs.declared.rule.Rule.{Rule}
use Rattle.hem_syntax.specs.Protocol.{Text, Protocol, KindPart}
use Rattle.hem_syntax.specs.Lawful.{is_declarable, counts_of, has_take, has_atom, has_assign, has_send, has_set, is_rule, names_after, IsProtocol}
use Rattle.hem_print.specs.Canonical.{Word, plain, named, signed, Line, line, status_name, message_name, field_name, rule_name, names_in, set_words, led, value_word, take_words, atom_words, assign_words, free_words, lock_words, message_words, send_words, rule_words, rule_line, field_line, dir_lines, end_line, kind_lines, message_line, declaration_lines, protocol_lines}
use Rattle.hem_print.proofs.Naming.{and_left, and_right, both, name_at, pair_name, length_names}
use Rattle.hem_print.proofs.Around.{AreNamed}
use Rattle.hem_print.proofs.RuleNames.{names_grow}
use Rattle.hem_print.proofs.RuleRuns.{words_of, parts_of}
use Rattle.hem_print.proofs.RulesRuns.{new_name, declarable_at}
use Rattle.hem_print.proofs.KindRuns.{IsRead}
use Rattle.hem_print.proofs.ProtocolRuns.{kind_read, Dir, dir_of, names_of}
use Rattle.hem_print.proofs.Lexing.{is_good}

-- all of these words can be read
pub record AreGood (ws : List Word) : Type 0 where
  pub is : list_all is_good ws ≡ true

nothing : AreGood []
nothing = record { is = refl }

more : (w : Word) (ws : List Word) → is_good w ≡ true → AreGood ws → AreGood (w ∷ ws)
more w ws h rest = record { is = rw (h, rest.is) refl }

joined : (xs ys : List Word) → AreGood xs → AreGood ys → AreGood (xs ++ ys)
joined xs ys a b = record { is = list_all-append is_good xs ys ∙ both a.is b.is }

lines_joined : (xs ys : List Line) → AreGood (words_of xs) → AreGood (words_of ys) → AreGood (words_of (xs ++ ys))
lines_joined xs ys a b = record { is = ap (list_all is_good) (flat_map-append (λ l. l.first ∷ l.others) xs ys) ∙ (joined (words_of xs) (words_of ys) a b).is }

each : {A : Type 0} (f : A → Line) (q : A → Bool) → ((x : A) → q x ≡ true → AreGood ((f x).first ∷ (f x).others)) → (xs : List A) → list_all q xs ≡ true → AreGood (words_of (map f xs))
each f q one [] h = nothing
each f q one (x ∷ xs) h = joined ((f x).first ∷ (f x).others) (words_of (map f xs)) (one x (and_left (q x) _ h)) (each f q one xs (and_right (q x) _ h))

leds : {A : Type 0} (w : Word) (f : A → List Word) (q : A → Bool) → is_good w ≡ true → ((x : A) → q x ≡ true → AreGood (f x)) → (xs : List A) → list_all q xs ≡ true → AreGood (led w f xs)
leds w f q good one [] h = nothing
leds w f q good one (x ∷ xs) h = more w (f x ++ led (signed sign.Comma) f xs) good (joined (f x) (led (signed sign.Comma) f xs) (one x (and_left (q x) _ h)) (leds (signed sign.Comma) f q refl one xs (and_right (q x) _ h)))

-- names

name_good : (names : List Text) (i : ℕ) → list_all is_declarable names ≡ true → i < length names → is_word_text (name_at names i) ≡ true
name_good names i h lt = and_left (is_word_text (name_at names i)) _ (declarable_at names i h lt).spelled

pair_good : {A : Type 0} (names : List (Text × A)) (i : ℕ) → list_all is_declarable (map (λ n. n.0) names) ≡ true → nat_lt i (length names) ≡ true → is_word_text (name_at (map (λ n. n.0) names) i) ≡ true
pair_good names i h lt = name_good (map (λ n. n.0) names) i h (rw (length_names names) (ltb-true _ _ lt))

status_good : (p : Protocol) (k : KindPart) (s : Status8) → AreNamed p k → nat_lt s.0 (length p.statuses) ≡ true → is_word_text (status_name p s) ≡ true
status_good p k s names lt = name_good p.statuses s.0 names.status_words (ltb-true _ _ lt)

message_good : (p : Protocol) (k : KindPart) (id : MsgId) → AreNamed p k → nat_lt id.0 (length p.messages) ≡ true → is_word_text (message_name p id) ≡ true
message_good p k id names lt = ap is_word_text (pair_name p.messages id.0) ∙ pair_good p.messages id.0 names.message_words lt

field_good : (p : Protocol) (k : KindPart) (i : ℕ) → AreNamed p k → nat_lt i (length k.fields) ≡ true → is_word_text (field_name k i) ≡ true
field_good p k i names lt = ap is_word_text (pair_name k.fields i) ∙ pair_good k.fields i names.field_words lt

set_good : (set : StatusSet) (i : ℕ) (ns : List Text) → list_all is_declarable ns ≡ true → AreGood (names_in set i ns)
set_good set i [] h = nothing
set_good set i (n ∷ ns) h = at (has_bit set.0 i) (set_good set (i + 1) ns (and_right (is_declarable n) _ h))
  where
    at : (b : Bool) → AreGood (names_in set (i + 1) ns) → AreGood (cond b (named n ∷ []) [] ++ names_in set (i + 1) ns)
    at true rest = more (named n) (names_in set (i + 1) ns) (and_left (is_word_text n) _ (new_name n (and_left (is_declarable n) _ h)).spelled) rest
    at false rest = rest

value_good : (v : Value) → is_good (value_word v) ≡ true
value_good value.Val = refl
value_good value.Msg = refl
value_good value.Kept = refl
value_good value.Rs = refl
value_good value.Zero = refl

-- parts of rules

take_good : (p : Protocol) (k : KindPart) → AreNamed p k → (y : Take) → has_take (counts_of p k) y ≡ true → AreGood (take_words p y)
take_good p k names (take.Me id) has = more _ _ refl (more _ _ (message_good p k id names has) nothing)
take_good p k names (take.Parent id) has = more _ _ refl (more _ _ (message_good p k id names has) nothing)
take_good p k names (take.Kids id) has = more _ _ refl (more _ _ (message_good p k id names has) nothing)
take_good p k names take.Nothing has = record { is = refl }

atom_good : (p : Protocol) (k : KindPart) → AreNamed p k → (y : Atom) → has_atom (counts_of p k) y ≡ true → AreGood (atom_words p k y)
atom_good p k names (atom.Field i set) has = more _ _ (field_good p k i names (and_left (nat_lt i (length k.fields)) _ has)) (more _ _ refl (set_good set 0 p.statuses names.status_words))
atom_good p k names (atom.Me set) has = more _ _ refl (more _ _ refl (set_good set 0 p.statuses names.status_words))
atom_good p k names (atom.KidsAll set) has = more _ _ refl (more _ _ refl (set_good set 0 p.statuses names.status_words))
atom_good p k names (atom.KidsAny set) has = more _ _ refl (more _ _ refl (set_good set 0 p.statuses names.status_words))
atom_good p k names (atom.OthersAll set) has = more _ _ refl (more _ _ refl (set_good set 0 p.statuses names.status_words))
atom_good p k names (atom.OthersAny set) has = more _ _ refl (more _ _ refl (set_good set 0 p.statuses names.status_words))
atom_good p k names (atom.Asked id) has = more _ _ refl (more _ _ (message_good p k id names has) nothing)

assign_good : (p : Protocol) (k : KindPart) → AreNamed p k → (y : Assign) → has_assign (counts_of p k) y ≡ true → AreGood (assign_words p k y)
assign_good p k names (assign.Field i t) has = more _ _ (field_good p k i names (and_left (nat_lt i (length k.fields)) _ has)) (more _ _ refl (more _ _ (status_good p k t names (and_right (nat_lt i (length k.fields)) _ has)) nothing))
assign_good p k names (assign.Val v) has = more _ _ refl (more _ _ refl (more _ _ (value_good v) nothing))
assign_good p k names (assign.Me t) has = more _ _ refl (more _ _ refl (more _ _ (status_good p k t names has) nothing))
assign_good p k names (assign.Targets t) has = more _ _ refl (more _ _ refl (more _ _ (status_good p k t names has) nothing))

free_good : (y : Option Side) → AreGood (free_words y)
free_good None = nothing
free_good (Some s) = record { is = refl }

lock_good : (y : Option (Side × Origin)) → AreGood (lock_words y)
lock_good None = nothing
lock_good (Some l) = record { is = refl }

sent_good : (p : Protocol) (k : KindPart) → AreNamed p k → (id : MsgId) (v : Value) → nat_lt id.0 (length p.messages) ≡ true → AreGood (message_words p id v)
sent_good p k names id v has = more _ _ (message_good p k id names has) (more _ _ (value_good v) nothing)

send_good : (p : Protocol) (k : KindPart) → AreNamed p k → (y : SendTo) → has_send (counts_of p k) y ≡ true → AreGood (send_words p y)
send_good p k names send.Nothing has = nothing
send_good p k names (send.Me id v) has = more _ _ refl (more _ _ refl (sent_good p k names id v has))
send_good p k names (send.Parent id v) has = more _ _ refl (more _ _ refl (sent_good p k names id v has))
send_good p k names (send.Kids set id v) has = more _ _ refl (more _ _ refl (more _ _ refl (joined (set_words p set) (message_words p id v) (set_good set 0 p.statuses names.status_words) (sent_good p k names id v (and_right (has_set (counts_of p k) set) _ has)))))
send_good p k names (send.Others set id v) has = more _ _ refl (more _ _ refl (more _ _ refl (joined (set_words p set) (message_words p id v) (set_good set 0 p.statuses names.status_words) (sent_good p k names id v (and_right (has_set (counts_of p k) set) _ has)))))

rule_good : (p : Protocol) (k : KindPart) → AreNamed p k → (y : Rule) → is_rule (counts_of p k) y ≡ true → AreGood (rule_words p k y)
rule_good p k names y has =
    let parts = parts_of p k y has in
    joined _ _ (joined _ _ (joined _ _ (joined _ _ (joined _ _ (joined _ _ (joined _ _
    (more _ _ refl (take_good p k names y.take parts.taken))
    (record { is = refl }))
    (leds (plain word.When) (atom_words p k) (has_atom (counts_of p k)) refl (λ z h. atom_good p k names z h) y.guard parts.atoms))
    (leds (plain word.Set) (assign_words p k) (has_assign (counts_of p k)) refl (λ z h. assign_good p k names z h) y.sets parts.sets))
    (free_good y.free))
    (lock_good y.lock))
    (send_good p k names y.send parts.sent))
    (record { is = refl })

-- kinds

-- of rules whose names come in order each has a name that is declared
named_rules : (few : ℕ) (m : ℕ) (rs : List Rule) (m' : ℕ) → names_after m rs ≡ Some m' → m' ≤ few → list_all (λ r. nat_lt r.name.0 few) rs ≡ true
named_rules few m [] m' after le = refl
named_rules few m (r ∷ rs) m' after le = at (nat_lt r.name.0 m) (nat_eq r.name.0 m) refl refl after (λ n h. named_rules few n rs m' h le) (λ n h. names_grow n rs m' h)
  where
    at : (a b : Bool) → nat_lt r.name.0 m ≡ a → nat_eq r.name.0 m ≡ b → cond a (names_after m rs) (cond b (names_after (m + 1) rs) None) ≡ Some m'
        → ((n : ℕ) → names_after n rs ≡ Some m' → list_all (λ r. nat_lt r.name.0 few) rs ≡ true) → ((n : ℕ) → names_after n rs ≡ Some m' → n ≤ m')
        → list_all (λ r. nat_lt r.name.0 few) (r ∷ rs) ≡ true
    at true b is other h later grow =
        let below = ltb-true _ _ is in
        let le' = grow m h in
        rw (lt-ltb r.name.0 few (omega arith), later m h) refl
    at false true is other h later grow =
        let same : r.name.0 ≡ m = eqb-true _ _ other in
        let le' = grow (m + 1) h in
        rw (lt-ltb r.name.0 few (omega arith), later (m + 1) h) refl
    at false false is other h later grow = absurd cc

both_tests : {A : Type 0} (q s : A → Bool) (xs : List A) → list_all q xs ≡ true → list_all s xs ≡ true → list_all (λ x. q x && s x) xs ≡ true
both_tests q s [] a b = refl
both_tests q s (x ∷ xs) a b = rw (and_left (q x) _ a, and_left (s x) _ b, both_tests q s xs (and_right (q x) _ a) (and_right (s x) _ b)) refl

fields_good : (p : Protocol) (k : KindPart) → AreNamed p k → (fs : List (Text × Status8)) → list_all is_declarable (map (λ f. f.0) fs) ≡ true → list_all (λ f. nat_lt f.1.0 (length p.statuses)) fs ≡ true → AreGood (words_of (map (field_line p) fs))
fields_good p k names [] good has = nothing
fields_good p k names (f ∷ fs) good has =
    more _ _ refl (more _ _ (and_left (is_word_text f.0) _ (new_name f.0 (and_left (is_declarable f.0) _ good)).spelled)
    (more _ _ refl (more _ _ (status_good p k f.1 names (and_left (nat_lt f.1.0 (length p.statuses)) _ has))
    (fields_good p k names fs (and_right (is_declarable f.0) _ good) (and_right (nat_lt f.1.0 (length p.statuses)) _ has)))))

dir_good : (p : Protocol) (k : KindPart) → AreNamed p k → (dir : Option Status8) → ((s : Status8) → dir ≡ Some s → nat_lt s.0 (length p.statuses) ≡ true) → AreGood (words_of (dir_lines p dir))
dir_good p k names None h = nothing
dir_good p k names (Some s) h = more _ _ refl (more _ _ refl (more _ _ (status_good p k s names (h s refl)) nothing))

kind_good : (p : Protocol) (w : Reserved) (k : KindPart) → IsRead p k → ((s : Status8) → k.dir ≡ Some s → nat_lt s.0 (length p.statuses) ≡ true) → (m m' : ℕ) → names_after m k.rules ≡ Some m' → m' ≤ length p.rule_names → AreGood (words_of (kind_lines p w k))
kind_good p w k read dir m m' after le =
    let head : List Line = line (plain word.Kind) (plain w ∷ []) ∷ map (field_line p) k.fields in
    let dirs : List Line = dir_lines p k.dir in
    let rules : List Line = map (rule_line p k) k.rules in
    let last : List Line = end_line ∷ [] in
    let fields : AreGood (words_of (map (field_line p) k.fields)) = fields_good p k read.names k.fields read.names.field_words read.starts in
    let good_rules : AreGood (words_of rules) =
    each (rule_line p k) (λ r. nat_lt r.name.0 (length p.rule_names) && is_rule (counts_of p k) r)
    (λ r h. more (plain word.Rule) (named (rule_name p r.name) ∷ rule_words p k r) refl (more (named (rule_name p r.name)) (rule_words p k r) (name_good p.rule_names r.name.0 read.rule_words (ltb-true _ _ (and_left (nat_lt r.name.0 (length p.rule_names)) _ h))) (rule_good p k read.names r (and_right (nat_lt r.name.0 (length p.rule_names)) _ h))))
    k.rules (both_tests (λ r. nat_lt r.name.0 (length p.rule_names)) (is_rule (counts_of p k)) k.rules (named_rules (length p.rule_names) m k.rules m' after le) read.rules) in
    lines_joined (head ++ dirs ++ rules) last
    (lines_joined (head ++ dirs) rules
    (lines_joined head dirs
    (more (plain word.Kind) (plain w ∷ words_of (map (field_line p) k.fields)) refl (more (plain w) (words_of (map (field_line p) k.fields)) refl fields))
    (dir_good p k read.names k.dir dir))
    good_rules)
    (record { is = refl })

-- the whole protocol

statuses_good : (ss : List Text) → list_all is_declarable ss ≡ true → AreGood (map (λ s. named s) ss)
statuses_good [] h = nothing
statuses_good (s ∷ ss) h = more _ _ (and_left (is_word_text s) _ (new_name s (and_left (is_declarable s) _ h)).spelled) (statuses_good ss (and_right (is_declarable s) _ h))

messages_good : (ms : List (Text × Class)) → list_all is_declarable (map (λ m. m.0) ms) ≡ true → AreGood (words_of (map message_line ms))
messages_good [] h = nothing
messages_good (m ∷ ms) h = more _ _ refl (more _ _ (and_left (is_word_text m.0) _ (new_name m.0 (and_left (is_declarable m.0) _ h)).spelled) (more _ _ refl (messages_good ms (and_right (is_declarable m.0) _ h))))

dir_at : (p : Protocol) (dir : Option Status8) → Dir p dir → (s : Status8) → dir ≡ Some s → nat_lt s.0 (length p.statuses) ≡ true
dir_at p dir there s is = let same : there.status ≡ s = some_alike (sym there.is ∙ is) in ap (λ (t : Status8). nat_lt t.0 (length p.statuses)) (sym same) ∙ there.has
  where
    some_alike : {a b : Status8} → Some a ≡ Some b → a ≡ b
    some_alike e = cc

no_dir : (p : Protocol) (dir : Option Status8) → dir ≡ None → (s : Status8) → dir ≡ Some s → nat_lt s.0 (length p.statuses) ≡ true
no_dir p dir none s is = absurd cc

pub protocol_good : (p : Protocol) → IsProtocol p → AreGood (words_of (protocol_lines p))
protocol_good p good =
    let read_root = kind_read p p.root good good.root in
    let read_mid = kind_read p p.mid good good.mid in
    let read_leaf = kind_read p p.leaf good good.leaf in
    let names = names_of p good in
    let head : List Line = declaration_lines p in
    let roots : List Line = kind_lines p word.Root p.root in
    let mids : List Line = kind_lines p word.Mid p.mid in
    let leaves : List Line = kind_lines p word.Leaf p.leaf in
    let last : List Line = end_line ∷ [] in
    let statuses = map (λ s. named s) p.statuses in
    let messages = words_of (map message_line p.messages) in
    let declarations : AreGood (words_of head) =
    more (plain word.Protocol) (named p.name ∷ plain word.Status ∷ (statuses ++ messages)) refl
    (more (named p.name) (plain word.Status ∷ (statuses ++ messages)) (and_left (is_word_text p.name) _ (new_name p.name good.name).spelled)
    (more (plain word.Status) (statuses ++ messages) refl
    (joined statuses messages (statuses_good p.statuses read_root.names.status_words) (messages_good p.messages read_root.names.message_words)))) in
    let few : length p.rule_names ≤ length p.rule_names = omega arith in
    lines_joined (head ++ roots ++ mids ++ leaves) last
    (lines_joined (head ++ roots ++ mids) leaves
    (lines_joined (head ++ roots) mids
    (lines_joined head roots declarations
    (kind_good p word.Root p.root read_root (dir_at p p.root.dir (dir_of p (length p.root.fields) p.root.dir good.root_dir)) 0 names.first names.root names.first_few))
    (kind_good p word.Mid p.mid read_mid (dir_at p p.mid.dir (dir_of p (length p.mid.fields) p.mid.dir good.mid_dir)) names.first names.second names.mid names.second_few))
    (kind_good p word.Leaf p.leaf read_leaf (no_dir p p.leaf.dir good.leaf_dir) names.second (length p.rule_names) names.leaf few))
    (record { is = refl })
