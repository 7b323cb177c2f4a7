-- The names of a protocol are words.
use Rattle.std.proofs.Common.{◌≡◌, refl, sym, ap, ◌∙◌, ℕ, ◌<◌, zero, suc, List, [], ◌∷◌, map, Bool, true, false, Some, length, get_or}
use Rattle.std.proofs.lemmas.List.Folds.{list_all-append}
use Rattle.std.proofs.lemmas.Option.{slice_get-map, slice_get-get_or}
use Rattle.std.specs.Prelude.{IsTrue, slice_get, ◌&&◌, nat_le, option_map}
use Rattle.std.specs.List.{list_all}
use Rattle.hem_base.specs.Words.{is_word_text}
use Rattle.hem_base.specs.declared.ids.Kind.{Kind}
use Rattle.hem_base.specs.declared.ids.Kind.TheVariants.{Root, Mid, Leaf}
use Rattle.hem_syntax.specs.Lawful.{is_declarable, IsProtocol}
use Rattle.hem_syntax.specs.Protocol.{Protocol, Text, part}

-- both tests hold
first_of : (a b : Bool) → (a && b) ≡ true → a ≡ true
first_of true b h = refl
first_of false b h = h

second_of : (a b : Bool) → (a && b) ≡ true → b ≡ true
second_of true b h = h
second_of false b h = cc

-- an element of a list of which all pass a test
passes_at : {A : Type 0} (f : A → Bool) (xs : List A) (k : ℕ) (x : A) → list_all f xs ≡ true → slice_get xs k ≡ Some x → f x ≡ true
passes_at f [] k x h is = cc
passes_at f (y ∷ ys) zero x h is =
    let same : y ≡ x = cc in
    rw (← same) (first_of (f y) _ h)
passes_at f (y ∷ ys) (suc k) x h is = passes_at f ys k x (second_of (f y) _ h) is

-- a name that may be declared is a word
pub declarable_word : (text : Text) → IsTrue (is_declarable text) → IsTrue (is_word_text text)
declarable_word text h = second_of (nat_le 1 (length text) && nat_le (length text) 32) _ (first_of (nat_le 1 (length text) && nat_le (length text) 32 && is_word_text text) _ h)

-- a name at a place of names that may be declared
named_word : (names : List Text) (k : ℕ) (n : Text) → IsTrue (list_all is_declarable names) → Some n ≡ slice_get names k → IsTrue (is_word_text n)
named_word names k n h is = declarable_word n (passes_at is_declarable names k n h (sym is))

-- a name that stands with something
pub pair_word : {A : Type 0} (names : List (Text × A)) (k : ℕ) (n : Text) → IsTrue (list_all is_declarable (map (λ m. m.0) names)) → Some n ≡ option_map (λ m. m.0) (slice_get names k) → IsTrue (is_word_text n)
pair_word names k n h is = named_word (map (λ m. m.0) names) k n h (is ∙ sym (slice_get-map (λ m. m.0) names k))

-- the element of a loop over names, and over names with something
pub item_word : (names : List Text) (k : ℕ) (n : Text) → IsTrue (list_all is_declarable names) → k < length names → get_or names k n ≡ n → IsTrue (is_word_text n)
item_word names k n h lt is = named_word names k n h (sym (slice_get-get_or names k n lt ∙ ap Some is))

pub item_pair_word : {A : Type 0} (names : List (Text × A)) (k : ℕ) (m : Text × A) → IsTrue (list_all is_declarable (map (λ m. m.0) names)) → k < length names → get_or names k m ≡ m → IsTrue (is_word_text m.0)
item_pair_word names k m h lt is = pair_word names k m.0 h (ap (option_map (λ m. m.0)) (sym (slice_get-get_or names k m lt ∙ ap Some is)))

-- the statuses
pub statuses_declarable : (p : Protocol) → IsProtocol p → IsTrue (list_all is_declarable p.statuses)
statuses_declarable p lawful = first_of _ _ (rw (list_all-append is_declarable p.statuses (map (λ m. m.0) p.messages)) at lawful.names)

-- the message ids
pub messages_declarable : (p : Protocol) → IsProtocol p → IsTrue (list_all is_declarable (map (λ m. m.0) p.messages))
messages_declarable p lawful = second_of (list_all is_declarable p.statuses) _ (rw (list_all-append is_declarable p.statuses (map (λ m. m.0) p.messages)) at lawful.names)

-- the fields of a kind
pub fields_declarable : (p : Protocol) (kind : Kind) → IsProtocol p → IsTrue (list_all is_declarable (map (λ f. f.0) (part p kind).fields))
fields_declarable p Root lawful = lawful.root.field_names
fields_declarable p Mid lawful = lawful.mid.field_names
fields_declarable p Leaf lawful = lawful.leaf.field_names

-- the name of a status
pub status_word : (p : Protocol) (k : ℕ) (n : Text) → IsProtocol p → Some n ≡ slice_get p.statuses k → IsTrue (is_word_text n)
status_word p k n lawful is = named_word p.statuses k n (statuses_declarable p lawful) is

-- the name of a rule
pub rule_word : (p : Protocol) (k : ℕ) (n : Text) → IsProtocol p → Some n ≡ slice_get p.rule_names k → IsTrue (is_word_text n)
rule_word p k n lawful is = named_word p.rule_names k n lawful.rule_names is

-- the name of a message id
pub message_word : (p : Protocol) (k : ℕ) (n : Text) → IsProtocol p → Some n ≡ option_map (λ m. m.0) (slice_get p.messages k) → IsTrue (is_word_text n)
message_word p k n lawful is = pair_word p.messages k n (messages_declarable p lawful) is

-- the name of a field
pub field_word : (p : Protocol) (kind : Kind) (k : ℕ) (n : Text) → IsProtocol p → Some n ≡ option_map (λ f. f.0) (slice_get (part p kind).fields k) → IsTrue (is_word_text n)
field_word p kind k n lawful is = pair_word (part p kind).fields k n (fields_declarable p kind lawful) is
