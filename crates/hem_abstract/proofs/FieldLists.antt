-- Lists of fields that pass conditions: what is kept by a condition, and what is led to by a set.
use Rattle.std.proofs.Common.{◌≡◌, refl, ap, sym, ◌∙◌, ℕ, zero, suc, ◌≤◌, Bool, true, false, not, ◌&&◌, cond, List, [], ◌∷◌, length, arith, Option, Some, None, length-set}
use Rattle.std.specs.Prelude.{◌==◌, slice_get, slice_set}
use Rattle.std.specs.Option.{option_map_or}
use Rattle.std.proofs.lemmas.List.{set_past}
use Rattle.hem_base.specs.declared.ids.Status8.{Status8}
use Rattle.hem_base.specs.declared.ids.StatusSet.{StatusSet}
use Rattle.hem_base.specs.declared.ids.MsgId.{MsgId}
use Rattle.hem_syntax.specs.declared.rule.Assign.{Assign}
use Rattle.hem_syntax.specs.declared.rule.Assign.TheVariants as assign
use Rattle.hem_syntax.specs.declared.rule.Atom.{Atom}
use Rattle.hem_syntax.specs.declared.rule.Atom.TheVariants as atom
use Rattle.hem_object.specs.Guard.{has, is_in}
use Rattle.hem_abstract.specs.Parts.{fields_meet, fields_hold, field_after, fields_after}
use Rattle.hem_abstract.specs.FieldSets.{FieldSets, passes, all_pass, allows, any_fields, none_of, narrowed, kept_in, kept_by, kept_by_all, led_by_field, led_by, led_by_all}
use Rattle.hem_abstract.proofs.BitSets.{has_both}
use Rattle.hem_abstract.proofs.Split.{and-true}

and-false : (b : Bool) → (b && false) ≡ false
and-false true = refl
and-false false = refl

and-assoc : (a b c : Bool) → (a && (b && c)) ≡ ((a && b) && c)
and-assoc true b c = refl
and-assoc false b c = refl

and-last : (a b c : Bool) → ((a && b) && c) ≡ ((a && c) && b)
and-last true true c = sym (and-true c)
and-last true false true = refl
and-last true false false = refl
and-last false b c = refl

narrowed-has : (old : Option StatusSet) (set : StatusSet) (s : Status8) → has (narrowed old set) s ≡ (passes old s && has set s)
narrowed-has None set s = refl
narrowed-has (Some old) set s = has_both old.0 set.0 s.0

-- a field with fewer statuses
all-narrowed : (sets : List (Option StatusSet)) (fields : List Status8) (i : ℕ) (old : Option StatusSet) (set : StatusSet) → slice_get sets i ≡ Some old → length sets ≡ length fields → all_pass (slice_set sets i (Some (narrowed old set))) fields ≡ (all_pass sets fields && is_in set (slice_get fields i))
all-narrowed [] fields i old set there same = cc
all-narrowed (x ∷ sets) [] i old set there same = cc
all-narrowed (x ∷ sets) (s ∷ fields) zero old set there same =
    let is : x ≡ old = cc in
    ap (λ b. b && all_pass sets fields) (ap (λ (o : Option StatusSet). has (narrowed o set) s) (sym is) ∙ narrowed-has x set s)
    ∙ and-last (passes x s) (has set s) (all_pass sets fields)
all-narrowed (x ∷ sets) (s ∷ fields) (suc i) old set there same =
    let less : length sets ≡ length fields = omega (arith, same) in
    ap (λ b. passes x s && b) (all-narrowed sets fields i old set there less)
    ∙ and-assoc (passes x s) (all_pass sets fields) (is_in set (slice_get fields i))

-- a field that is set to a status that it may have
all-led : (sets : List (Option StatusSet)) (fields : List Status8) (i : ℕ) (old : Option StatusSet) (s : Status8) → slice_get sets i ≡ Some old → length sets ≡ length fields → passes old s ≡ true → all_pass (slice_set sets i None) fields ≡ all_pass sets (slice_set fields i s)
all-led [] fields i old s there same may = cc
all-led (x ∷ sets) [] i old s there same may = cc
all-led (x ∷ sets) (t ∷ fields) zero old s there same may =
    let is : x ≡ old = cc in
    ap (λ b. b && all_pass sets fields) (sym (ap (λ (o : Option StatusSet). passes o s) is ∙ may))
all-led (x ∷ sets) (t ∷ fields) (suc i) old s there same may =
    let less : length sets ≡ length fields = omega (arith, same) in
    ap (λ b. passes x t && b) (all-led sets fields i old s there less may)

-- a field that is set to a status that it may not have
all-lost : (sets : List (Option StatusSet)) (fields : List Status8) (i : ℕ) (old : Option StatusSet) (s : Status8) → slice_get sets i ≡ Some old → length sets ≡ length fields → passes old s ≡ false → all_pass sets (slice_set fields i s) ≡ false
all-lost [] fields i old s there same may = cc
all-lost (x ∷ sets) [] i old s there same may = cc
all-lost (x ∷ sets) (t ∷ fields) zero old s there same may =
    let is : x ≡ old = cc in
    ap (λ b. b && all_pass sets fields) (ap (λ (o : Option StatusSet). passes o s) is ∙ may)
all-lost (x ∷ sets) (t ∷ fields) (suc i) old s there same may =
    let less : length sets ≡ length fields = omega (arith, same) in
    ap (λ b. passes x t && b) (all-lost sets fields i old s there less may) ∙ and-false (passes x t)

past : {A : Type 0} (xs : List A) (i : ℕ) → slice_get xs i ≡ None → length xs ≤ i
past [] i none = omega arith
past (x ∷ xs) zero none = cc
past (x ∷ xs) (suc i) none = let rest = past xs i none in omega (arith, rest)

get-past : {A : Type 0} (xs : List A) (i : ℕ) → length xs ≤ i → slice_get xs i ≡ None
get-past [] i le = refl
get-past (x ∷ xs) zero le = absurd (omega (arith, le))
get-past (x ∷ xs) (suc i) le = get-past xs i (omega (arith, le))

-- no list
none-allows : (those : FieldSets) (fields : List Status8) → allows (none_of those) fields ≡ false
none-allows those fields = refl

-- what is kept by a condition on a field
kept-in : (i : ℕ) (set : StatusSet) (those : FieldSets) (fields : List Status8) → length those.sets ≡ length fields → allows (kept_in i set those) fields ≡ (allows those fields && is_in set (slice_get fields i))
kept-in i set those fields same = by_place (slice_get those.sets i) refl
  where
    by_place : (o : Option (Option StatusSet)) → slice_get those.sets i ≡ o → allows (elim o as (λ o. FieldSets) [ Some old ↦ record those { sets = slice_set those.sets i (Some (narrowed old set)) } | None ↦ none_of those ]) fields ≡ (allows those fields && is_in set (slice_get fields i))
    by_place None is =
        let none : slice_get fields i ≡ None = get-past fields i (let le = past those.sets i is in omega (arith, le, same)) in
        sym (ap (λ (o : Option Status8). allows those fields && is_in set o) none ∙ and-false (allows those fields))
    by_place (Some old) is =
        ap (λ b. not those.empty && b) (all-narrowed those.sets fields i old set is same)
        ∙ and-assoc (not those.empty) (all_pass those.sets fields) (is_in set (slice_get fields i))

-- what is kept by a condition
kept-by : (asked : Option MsgId) (a : Atom) (those : FieldSets) (fields : List Status8) → length those.sets ≡ length fields → allows (kept_by asked a those) fields ≡ (allows those fields && fields_meet fields asked a)
kept-by asked (atom.Field i set) those fields same = kept-in i set those fields same
kept-by asked (atom.Asked id) those fields same = by_test (option_map_or (λ a. a.0 == id.0) asked false)
  where
    by_test : (b : Bool) → allows (cond b those (none_of those)) fields ≡ (allows those fields && b)
    by_test true = sym (and-true (allows those fields))
    by_test false = sym (and-false (allows those fields))
kept-by asked (atom.KidsAll set) those fields same = sym (and-true (allows those fields))
kept-by asked (atom.KidsAny set) those fields same = sym (and-true (allows those fields))
kept-by asked _ those fields same = sym (and-false (allows those fields))

-- as many fields as before
kept-length : (asked : Option MsgId) (a : Atom) (those : FieldSets) → length (kept_by asked a those).sets ≡ length those.sets
kept-length asked (atom.Field i set) those = by_place (slice_get those.sets i)
  where
    by_place : (o : Option (Option StatusSet)) → length (elim o as (λ o. FieldSets) [ Some old ↦ record those { sets = slice_set those.sets i (Some (narrowed old set)) } | None ↦ none_of those ]).sets ≡ length those.sets
    by_place None = refl
    by_place (Some old) = length-set those.sets i (Some (narrowed old set))
kept-length asked (atom.Asked id) those = by_test (option_map_or (λ a. a.0 == id.0) asked false)
  where
    by_test : (b : Bool) → length (cond b those (none_of those)).sets ≡ length those.sets
    by_test true = refl
    by_test false = refl
kept-length asked _ those = refl

pub all-length : (asked : Option MsgId) (guard : List Atom) (those : FieldSets) → length (kept_by_all asked guard those).sets ≡ length those.sets
all-length asked [] those = refl
all-length asked (a ∷ guard) those = all-length asked guard (kept_by asked a those) ∙ kept-length asked a those

-- what is kept by a guard
pub kept-by-all : (asked : Option MsgId) (guard : List Atom) (those : FieldSets) (fields : List Status8) → length those.sets ≡ length fields → allows (kept_by_all asked guard those) fields ≡ (allows those fields && fields_hold guard asked fields)
kept-by-all asked [] those fields same = sym (and-true (allows those fields))
kept-by-all asked (a ∷ guard) those fields same =
    kept-by-all asked guard (kept_by asked a those) fields (kept-length asked a those ∙ same)
    ∙ ap (λ b. b && fields_hold guard asked fields) (kept-by asked a those fields same)
    ∙ sym (and-assoc (allows those fields) (fields_meet fields asked a) (fields_hold guard asked fields))

-- all lists
pub any-length : (n : ℕ) → length (any_fields n).sets ≡ n
any-length zero = refl
any-length (suc n) = ap suc (any-length n)

pub any-allows : (n : ℕ) (fields : List Status8) → allows (any_fields n) fields ≡ true
any-allows zero fields = refl
any-allows (suc n) [] = refl
any-allows (suc n) (s ∷ fields) = any-allows n fields

-- what leads to these by a set of a field
led-by-field : (i : ℕ) (s : Status8) (those : FieldSets) (fields : List Status8) → length those.sets ≡ length fields → allows (led_by_field i s those) fields ≡ allows those (slice_set fields i s)
led-by-field i s those fields same = by_place (slice_get those.sets i) refl
  where
    by_test : (old : Option StatusSet) → slice_get those.sets i ≡ Some old → (b : Bool) → passes old s ≡ b → allows (cond b (record those { sets = slice_set those.sets i None }) (none_of those)) fields ≡ allows those (slice_set fields i s)
    by_test old is true may = ap (λ b. not those.empty && b) (all-led those.sets fields i old s is same may)
    by_test old is false may = sym (ap (λ b. not those.empty && b) (all-lost those.sets fields i old s is same may) ∙ and-false (not those.empty))

    by_place : (o : Option (Option StatusSet)) → slice_get those.sets i ≡ o → allows (elim o as (λ o. FieldSets) [ Some old ↦ cond (passes old s) (record those { sets = slice_set those.sets i None }) (none_of those) | None ↦ those ]) fields ≡ allows those (slice_set fields i s)
    by_place None is = ap (allows those) (sym (set_past fields i s (let le = past those.sets i is in omega (arith, le, same))))
    by_place (Some old) is = by_test old is (passes old s) refl

led-by : (a : Assign) (those : FieldSets) (fields : List Status8) → length those.sets ≡ length fields → allows (led_by a those) fields ≡ allows those (field_after a fields)
led-by (assign.Field i s) those fields same = led-by-field i s those fields same
led-by _ those fields same = refl

led-length : (a : Assign) (those : FieldSets) → length (led_by a those).sets ≡ length those.sets
led-length (assign.Field i s) those = by_place (slice_get those.sets i)
  where
    by_test : (b : Bool) → length (cond b (let some : FieldSets = record those { sets = slice_set those.sets i None } in some) (none_of those)).sets ≡ length those.sets
    by_test true = length-set those.sets i None
    by_test false = refl

    by_place : (o : Option (Option StatusSet)) → length (elim o as (λ o. FieldSets) [ Some old ↦ cond (passes old s) (record those { sets = slice_set those.sets i None }) (none_of those) | None ↦ those ]).sets ≡ length those.sets
    by_place None = refl
    by_place (Some old) = by_test (passes old s)
led-length _ those = refl

led-all-length : (sets : List Assign) (those : FieldSets) → length (led_by_all sets those).sets ≡ length those.sets
led-all-length [] those = refl
led-all-length (a ∷ sets) those = led-length a (led_by_all sets those) ∙ led-all-length sets those

field-length : (a : Assign) (fields : List Status8) → length (field_after a fields) ≡ length fields
field-length (assign.Field i s) fields = length-set fields i s
field-length _ fields = refl

-- what leads to these by a rule's sets
pub led-by-all : (sets : List Assign) (those : FieldSets) (fields : List Status8) → length those.sets ≡ length fields → allows (led_by_all sets those) fields ≡ allows those (fields_after sets fields)
led-by-all [] those fields same = refl
led-by-all (a ∷ sets) those fields same =
    led-by a (led_by_all sets those) fields (led-all-length sets those ∙ same)
    ∙ led-by-all sets those (field_after a fields) (same ∙ sym (field-length a fields))

pub after-length : (sets : List Assign) (fields : List Status8) → length (fields_after sets fields) ≡ length fields
after-length [] fields = refl
after-length (a ∷ sets) fields = after-length sets (field_after a fields) ∙ field-length a fields
