-- A test of all values that a rule sets or sends, by the sets and by the send.
use Rattle.std.proofs.Common.{◌≡◌, refl, ◌∙◌, Bool, true, false, ◌&&◌, List, [], ◌∷◌, ◌++◌, Option, None, Some}
use Rattle.std.specs.Prelude.{filter_map, option_to_list}
use Rattle.std.specs.List.{list_all}
use Rattle.std.specs.Option.{option_map_or}
use Rattle.hem_syntax.specs.declared.rule.Assign.{Assign}
use Rattle.hem_syntax.specs.declared.rule.Assign.TheVariants as assign
use Rattle.hem_syntax.specs.declared.rule.Rule.{Rule}
use Rattle.hem_syntax.specs.declared.rule.Value.{Value}
use Rattle.hem_template.specs.Template.{value_fits, value_sent, values_of}
use Rattle.hem_template.specs.declared.row.Row.{Row}
use Rattle.hem_template.specs.Rows.{set_value_fits}

and_nested : (a b c : Bool) → (a && (b && c)) ≡ ((a && b) && c)
and_nested true b c = refl
and_nested false b c = refl

-- a test of what the elements of a list give
all_given : {A B : Type 0} (test : B → Bool) (give : A → Option B) (each : A → Bool) (rest : List B) → ((x : A) → each x ≡ option_map_or test (give x) true) → (xs : List A) → list_all test (filter_map give xs ++ rest) ≡ (list_all each xs && list_all test rest)
all_given test give each rest same [] = refl
all_given {A = A} {B = B} test give each rest same (x ∷ xs) = at (give x) refl (each x) (same x) (all_given test give each rest same xs)
  where
    at : (o : Option B) → give x ≡ o → (b : Bool) → b ≡ option_map_or test (give x) true → list_all test (filter_map give xs ++ rest) ≡ (list_all each xs && list_all test rest) → list_all test (filter_map give (x ∷ xs) ++ rest) ≡ ((b && list_all each xs) && list_all test rest)
    at None gives b is more = rw (is, gives) more
    at (Some y) gives b is more = rw (is, gives, more) (and_nested (test y) (list_all each xs) (list_all test rest))

-- a test of what is given once
one_given : {B : Type 0} (test : B → Bool) (o : Option B) → list_all test (option_to_list o) ≡ option_map_or test o true
one_given test None = refl
one_given test (Some y) = by_test (test y)
  where
    by_test : (b : Bool) → (b && true) ≡ b
    by_test true = refl
    by_test false = refl

set_given : (row : Row) (set : Assign) → set_value_fits row set ≡ option_map_or (value_fits row) (elim set as (λ x. Option Value) [ assign.Val v ↦ Some v | _ ↦ None ]) true
set_given row (assign.Val v) = refl
set_given row (assign.Field i s) = refl
set_given row (assign.Me s) = refl
set_given row (assign.Targets s) = refl

pub values_apart : (row : Row) (rule : Rule) → list_all (value_fits row) (values_of rule) ≡ (list_all (set_value_fits row) rule.sets && option_map_or (value_fits row) (value_sent rule.send) true)
values_apart row rule =
    all_given (value_fits row) (λ set. elim set as (λ x. Option Value) [ assign.Val v ↦ Some v | _ ↦ None ]) (set_value_fits row) (option_to_list (value_sent rule.send)) (set_given row) rule.sets
    ∙ rw (one_given (value_fits row) (value_sent rule.send)) refl
