-- Names of registers and queues that are there, as the reader of modules finds them.
use Rattle.std.proofs.Common.{◌≡◌, refl, sym, ap, ◌∙◌, ℕ, ◌<◌, Bool, true, false, not, ◌&&◌, List, [], ◌∷◌, ◌++◌, map, length, Some, nat_lt, nat_le, ltb-true}
use Rattle.std.specs.List.{list_any, list_all}
use Rattle.std.specs.Str.{bytes_eq}
use Rattle.hem_base.specs.Words.{is_word_text, is_reserved}
use Rattle.hem_syntax.specs.Protocol.{Text}
use Rattle.hem_syntax.specs.Lawful.{is_declarable, are_distinct}
use Rattle.hem_syntax.specs.Names.{place_in, place_among, is_in, is_among}
use Rattle.hem_print.proofs.Naming.{and_left, and_right, not_true, or_left, or_right, bytes_same, all_at, get_some, name_at, place_of_name, name_known, not_word, among_is, place_among_is, pair_name, length_names}
use Rattle.hem_module.specs.Modules.{Modules}
use Rattle.hem_module.specs.Lawful.{IsModules}
use Rattle.hem_modprint.specs.ModulesText.{register_name, queue_name}
use Rattle.hem_modprint.proofs.Words.{registers_declarable, queues_declarable}

-- a word that isn't reserved, of 1 to 32 bytes
pub record IsPlainName (t : Text) : Type 0 where
  pub some : nat_le 1 (length t) ≡ true
  pub few : nat_le (length t) 32 ≡ true
  pub word : is_word_text t ≡ true
  pub free : is_reserved t ≡ false

pub plain_name : (t : Text) → is_declarable t ≡ true → IsPlainName t
plain_name t h =
    let begin = and_left (nat_le 1 (length t) && nat_le (length t) 32 && is_word_text t) (not (is_reserved t)) h in
    let long = and_left (nat_le 1 (length t) && nat_le (length t) 32) (is_word_text t) begin in
    record {
      some = and_left (nat_le 1 (length t)) (nat_le (length t) 32) long;
      few = and_right (nat_le 1 (length t)) (nat_le (length t) 32) long;
      word = and_right (nat_le 1 (length t) && nat_le (length t) 32) (is_word_text t) begin;
      free = not_true (is_reserved t) (and_right (nat_le 1 (length t) && nat_le (length t) 32 && is_word_text t) (not (is_reserved t)) h);
    }

clash : {b : Bool} → b ≡ true → b ≡ false → ⊥
clash h k = cc

false_if : (b : Bool) → (b ≡ true → ⊥) → b ≡ false
false_if true h = absurd (h refl)
false_if false h = refl

-- a name is no reserved word
pub not_the : (w t : Text) → is_reserved w ≡ true → is_reserved t ≡ false → bytes_eq w t ≡ false
not_the w t reserved free = false_if (bytes_eq w t) (λ same. clash (ap is_reserved (sym (bytes_same w t same)) ∙ reserved) free)

any_parts : (n : Text) (xs ys : List Text) → list_any (bytes_eq n) (xs ++ ys) ≡ false → (list_any (bytes_eq n) xs ≡ false) × (list_any (bytes_eq n) ys ≡ false)
any_parts n [] ys none = (refl, none)
any_parts n (x ∷ xs) ys none =
    let rest = any_parts n xs ys (or_right (bytes_eq n x) _ none) in
    (rw (or_left (bytes_eq n x) _ none, rest.0) refl, rest.1)

-- names told apart, in two parts
pub distinct_parts : (xs ys : List Text) → are_distinct (xs ++ ys) ≡ true → (are_distinct xs ≡ true) × (are_distinct ys ≡ true)
distinct_parts [] ys h = (refl, h)
distinct_parts (x ∷ xs) ys h =
    let none = not_true _ (and_left (not (list_any (bytes_eq x) (xs ++ ys))) (are_distinct (xs ++ ys)) h) in
    let rest = distinct_parts xs ys (and_right (not (list_any (bytes_eq x) (xs ++ ys))) (are_distinct (xs ++ ys)) h) in
    (rw ((any_parts x xs ys none).0, rest.0) refl, rest.1)

name_plain : (names : List Text) (k : ℕ) → list_all is_declarable names ≡ true → k < length names → IsPlainName (name_at names k)
name_plain names k good lt = let at = get_some names k lt in rw at.1 (plain_name at.0 (all_at is_declarable names k at.0 at.1 good))

-- a register that is there
pub record KnownRegister (regs : List (Text × ℕ)) (t : Text) (r : ℕ) : Type 0 where
  pub plain : IsPlainName t
  pub among : is_among regs t ≡ true
  pub place : place_among regs t ≡ Some r

-- a queue that is there
pub record KnownQueue (queues : List Text) (t : Text) (q : ℕ) : Type 0 where
  pub plain : IsPlainName t
  pub within : is_in queues t ≡ true
  pub place : place_in queues t ≡ Some q

module _ (m : Modules) (good : IsModules m) where
  pub register_known : (r : ℕ) → nat_lt r (length m.regs) ≡ true → KnownRegister m.regs (register_name m r) r
  register_known r lt =
      let names : List Text = map (λ (n : Text × ℕ). n.0) m.regs in
      let there : r < length names = rw (length_names m.regs) (ltb-true _ _ lt) in
      let once = (distinct_parts names m.queues good.names_apart).0 in
      rw (pair_name m.regs r) (record {
        plain = name_plain names r (registers_declarable m good) there;
        among = among_is m.regs (name_at names r) ∙ name_known names r there;
        place = place_among_is m.regs (name_at names r) ∙ place_of_name names r once there;
      })

  pub queue_known : (q : ℕ) → nat_lt q (length m.queues) ≡ true → KnownQueue m.queues (queue_name m q) q
  queue_known q lt =
      let there : q < length m.queues = ltb-true _ _ lt in
      record {
        plain = name_plain m.queues q (queues_declarable m good) there;
        within = name_known m.queues q there;
        place = place_of_name m.queues q (distinct_parts (map (λ (n : Text × ℕ). n.0) m.regs) m.queues good.names_apart).1 there;
      }

  -- a reserved word is no register and no queue
  pub no_register : (t : Text) → is_reserved t ≡ true → is_among m.regs t ≡ false
  no_register t reserved = among_is m.regs t ∙ not_word (map (λ (n : Text × ℕ). n.0) m.regs) t (registers_declarable m good) reserved
