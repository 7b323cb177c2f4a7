-- The names of modules are words, and lists as loops write them.
use Rattle.std.proofs.Common.{Bool, ◌&&◌, ◌≡◌, refl, sym, ap, ◌∙◌, ℕ, zero, suc, ◌+◌, ◌<◌, arith, List, [], ◌∷◌, ◌++◌, Some, map, drop, option_to_list, append_assoc, length, get_or}
use Rattle.std.specs.Prelude.{IsTrue, slice_get, flat_map}
use Rattle.std.specs.List.{list_all}
use Rattle.std.specs.Option.{option_map}
use Rattle.std.proofs.lemmas.List.Folds.{list_all-append}
use Rattle.std.proofs.lemmas.Grind.{flat_map-append}
use Rattle.std.proofs.lemmas.Option.{slice_get-get_or}
use Rattle.hem_base.specs.Words.{is_word_text}
use Rattle.hem_syntax.specs.Protocol.{Text}
use Rattle.hem_syntax.specs.Lawful.{is_declarable}
use Rattle.hem_syntax.proofs.DeclaredNames.{declarable_word, pair_word}
use Rattle.hem_print.proofs.Naming.{and_left, and_right, all_at}
use Rattle.hem_module.specs.Modules.{Modules}
use Rattle.hem_module.specs.declared.rules.ModRule.{ModRule}
use Rattle.hem_module.specs.Lawful.{IsModules}

-- the names of registers, and those of queues
pub registers_declarable : (m : Modules) → IsModules m → IsTrue (list_all is_declarable (map (λ r. r.0) m.regs))
registers_declarable m good = and_left _ _ (rw (list_all-append is_declarable (map (λ r. r.0) m.regs) m.queues) at good.names)

pub queues_declarable : (m : Modules) → IsModules m → IsTrue (list_all is_declarable m.queues)
queues_declarable m good = and_right (list_all is_declarable (map (λ r. r.0) m.regs)) _ (rw (list_all-append is_declarable (map (λ r. r.0) m.regs) m.queues) at good.names)

-- the name of a register that is there, and of a queue
pub register_word : (m : Modules) (regs : List (Text × ℕ)) (k : ℕ) (n : Text) → IsModules m → regs ≡ m.regs → Some n ≡ option_map (λ r. r.0) (slice_get regs k) → IsTrue (is_word_text n)
register_word m regs k n good same is = pair_word m.regs k n (registers_declarable m good) (is ∙ ap (λ (l : List (Text × ℕ)). option_map (λ r. r.0) (slice_get l k)) same)

pub queue_word : (m : Modules) (queues : List Text) (k : ℕ) (n : Text) → IsModules m → queues ≡ m.queues → Some n ≡ slice_get queues k → IsTrue (is_word_text n)
queue_word m queues k n good same is = declarable_word n (all_at is_declarable m.queues k n (sym (is ∙ ap (λ (l : List Text). slice_get l k) same)) (queues_declarable m good))

-- the element at a place, if any, and those after it
cut : {A : Type 0} (xs : List A) (i : ℕ) → option_to_list (slice_get xs i) ++ drop (i + 1) xs ≡ drop i xs
cut [] zero = refl
cut [] (suc i) = let n : suc i + 1 ≡ suc (i + 1) = omega arith in rw n refl
cut (x ∷ xs) zero = refl
cut (x ∷ xs) (suc i) = let n : suc i + 1 ≡ suc (i + 1) = omega arith in rw n (cut xs i)

-- the text of the element at a place, if any
pub text_at : {A : Type 0} (f : A → Text) (all text text' : Text) (xs : List A) (i : ℕ) → text' ≡ text ++ flat_map f (option_to_list (slice_get xs i)) → text ++ flat_map f (drop i xs) ≡ all → text' ++ flat_map f (drop (i + 1) xs) ≡ all
text_at f all text text' xs i e so_far = rw (e, append_assoc) (ap (λ (t : Text). text ++ t) (sym (flat_map-append f (option_to_list (slice_get xs i)) (drop (i + 1) xs)) ∙ ap (flat_map f) (cut xs i)) ∙ so_far)

-- the name of a loop's rule
pub rule_word : (rules : List ModRule) (k : ℕ) (r : ModRule) → IsTrue (list_all (λ (r : ModRule). is_declarable r.name) rules) → k < length rules → get_or rules k r ≡ r → IsTrue (is_word_text r.name)
rule_word rules k r good lt is = declarable_word r.name (all_at (λ (r : ModRule). is_declarable r.name) rules k r (slice_get-get_or rules k r lt ∙ ap Some is) good)

-- a test of what is left, where the element at a place, if any, passes it
pub all_at_place : {A : Type 0} (f : A → Bool) (xs : List A) (i : ℕ) → IsTrue (list_all f (option_to_list (slice_get xs i))) → list_all f (drop i xs) ≡ list_all f xs → list_all f (drop (i + 1) xs) ≡ list_all f xs
all_at_place f xs i here so_far =
    ap (λ b. b && list_all f (drop (i + 1) xs)) (sym here)
    ∙ sym (list_all-append f (option_to_list (slice_get xs i)) (drop (i + 1) xs))
    ∙ ap (list_all f) (cut xs i)
    ∙ so_far
