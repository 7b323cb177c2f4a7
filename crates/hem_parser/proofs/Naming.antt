-- Names that may be declared, one name more, and the order in which rules have their names.
use Rattle.std.proofs.Common.{◌≡◌, ℕ, ◌+◌, ◌==◌, nat_lt, nat_le, Bool, true, false, cond, not, ◌&&◌, List, [], ◌∷◌, ◌++◌, length, refl, ap, ◌∙◌, Option, Some, None, is_some, suc, arith}
use Rattle.std.specs.Prelude.{unwrap_or, if◌then◌else◌}
use Rattle.std.specs.List.{list_any}
use Rattle.std.specs.Str.{bytes_eq}
use Rattle.hem_text.specs.Lexemes.{Lexeme}
use Rattle.hem_text.specs.Spelling.{is_name, is_word}
use Rattle.hem_base.specs.Words.{is_word_text, is_reserved}
use Rattle.hem_syntax.specs.declared.rule.Rule.{Rule}
use Rattle.hem_syntax.specs.Protocol.{Text}
use Rattle.hem_syntax.specs.Lawful.{is_declarable, are_distinct, named_once, names_after}
use Rattle.hem_grammar.specs.Draft.{is_short, is_in, place_in, with_rule_name}
use Rattle.hem_syntax.proofs.Tables.{has_place, no_place}
use Rattle.hem_parser.proofs.Lists.{both, neither, is_not, all_more, any_more, length_more, place_within, some_of}
use Rattle.hem_parser.proofs.Claims.{Names, name_after}

-- a word that isn't reserved and has the length of a name
pub declarable : (t : Lexeme) → is_name t ≡ true → is_short t.text ≡ true → is_declarable t.text ≡ true
declarable t name short =
    let two = both (nat_le 1 (length t.text)) (nat_le (length t.text) 32) short in
    let named = both (is_word t && is_word_text t.text) (not (is_reserved t.text)) name in
    rw (two.0, two.1, (both (is_word t) (is_word_text t.text) named.0).1) named.1

once_more : (ns : List Text) (t : Text) → are_distinct ns ≡ true → is_in ns t ≡ false → are_distinct (ns ++ t ∷ []) ≡ true
once_more [] t once fresh = refl
once_more (n ∷ ns) t once fresh =
    let two = both (not (list_any (bytes_eq n) ns)) (are_distinct ns) once in
    let apart = neither (bytes_eq n t) (is_in ns t) fresh in
    rw (any_more (bytes_eq n) ns t (is_not (list_any (bytes_eq n) ns) two.0) apart.0, once_more ns t two.1 apart.1) refl

pub names_more : (ns : List Text) (t : Text) → Names ns → is_declarable t ≡ true → is_in ns t ≡ false → Names (ns ++ t ∷ [])
names_more ns t names may fresh = record { declarable = all_more is_declarable ns t names.declarable may; once = once_more ns t names.once fresh }

-- one rule more
pub named_more : (rs : List Rule) (r : Rule) → named_once rs ≡ true → list_any (λ x. x.name.0 == r.name.0) rs ≡ false → named_once (rs ++ r ∷ []) ≡ true
named_more [] r once fresh = refl
named_more (x ∷ xs) r once fresh =
    let two = both (not (list_any (λ other. x.name.0 == other.name.0) xs)) (named_once xs) once in
    let apart = neither (x.name.0 == r.name.0) (list_any (λ y. y.name.0 == r.name.0) xs) fresh in
    rw (any_more (λ (other : Rule). x.name.0 == other.name.0) xs r (is_not (list_any (λ other. x.name.0 == other.name.0) xs) two.0) apart.0, named_more xs r two.1 apart.1) refl

pub order_more : (n : ℕ) (rs : List Rule) (r : Rule) (k : ℕ) → names_after n rs ≡ Some k → names_after n (rs ++ r ∷ []) ≡ name_after k r.name
order_more n [] r k h = let same : n ≡ k = cc in ap (λ i. name_after i r.name) same
order_more n (x ∷ xs) r k h = go (nat_lt x.name.0 n) (x.name.0 == n) (order_more n xs r k) (order_more (n + 1) xs r k) h
  where
    go : (a b : Bool) → (names_after n xs ≡ Some k → names_after n (xs ++ r ∷ []) ≡ name_after k r.name) → (names_after (n + 1) xs ≡ Some k → names_after (n + 1) (xs ++ r ∷ []) ≡ name_after k r.name)
        → cond a (names_after n xs) (cond b (names_after (n + 1) xs) None) ≡ Some k → cond a (names_after n (xs ++ r ∷ [])) (cond b (names_after (n + 1) (xs ++ r ∷ [])) None) ≡ name_after k r.name
    go true b same next h = same h
    go false true same next h = next h
    go false false same next h = absurd cc

next_name : (n m : ℕ) → m ≡ suc n → name_after n (record { 0 = n }) ≡ Some m
next_name n m is =
    let less : nat_lt n n ≡ false = grind arith in
    let same : (n == n) ≡ true = grind arith in
    let more : n + 1 ≡ m = omega arith in
    rw (less, same) (ap Some more)

-- a rule's name is known, or the next one
module _ (ns : List Text) (text : Text) where
  known : is_in ns text ≡ true → nat_lt (unwrap_or (place_in ns text) (length ns)) (length ns) ≡ true
  known there = same (place_in ns text) (place_within (λ n. bytes_eq n text) ns (some_of (λ n. bytes_eq n text) ns there)) (has_place (λ n. bytes_eq n text) ns ∙ there)
    where
      same : (o : Option ℕ) → nat_lt (unwrap_or o 0) (length ns) ≡ true → is_some o ≡ true → nat_lt (unwrap_or o (length ns)) (length ns) ≡ true
      same None h some = absurd cc
      same (Some k) h some = h

  pub id_after : name_after (length ns) (record { 0 = unwrap_or (place_in ns text) (length ns) }) ≡ Some (length (with_rule_name ns text))
  id_after = go (is_in ns text) refl
    where
      go : (b : Bool) → is_in ns text ≡ b → name_after (length ns) (record { 0 = unwrap_or (place_in ns text) (length ns) }) ≡ Some (length (if b then ns else ns ++ text ∷ []))
      go true is = rw (known is) refl
      go false is = rw (no_place (λ n. bytes_eq n text) ns is) (next_name (length ns) (length (ns ++ text ∷ [])) (length_more ns text))

  pub known_names : Names ns → is_declarable text ≡ true → Names (with_rule_name ns text)
  known_names names may = go (is_in ns text) refl
    where
      go : (b : Bool) → is_in ns text ≡ b → Names (if b then ns else ns ++ text ∷ [])
      go true is = names
      go false is = names_more ns text names may is
