-- The search by fields and children apart finds the least abstract state in which a partner breaks a request.
use Rattle.std.proofs.Common.{◌≡◌, refl, ap, sym, ◌∙◌, ℕ, zero, suc, Bool, true, false, not, ◌&&◌, ◌||◌, cond, List, [], ◌∷◌, ◌++◌, length, map, Option, Some, None}
use Rattle.std.specs.Prelude.{find, flat_map, option_map}
use Rattle.std.specs.List.{list_any}
use Rattle.std.specs.Option.{option_or}
use Rattle.std.proofs.lemmas.List.Folds.{find-append}
use Rattle.hem_base.specs.declared.ids.Kind.{Kind}
use Rattle.hem_base.specs.declared.ids.Status8.{Status8}
use Rattle.hem_base.specs.declared.ids.StatusSet.{StatusSet}
use Rattle.hem_syntax.specs.declared.rule.Rule.{Rule}
use Rattle.hem_syntax.specs.Protocol.{Protocol, part}
use Rattle.hem_tree.specs.Tree.{below}
use Rattle.hem_abstract.specs.Abstract.{Abstract, status, guard_at}
use Rattle.hem_abstract.specs.Partners.{Partner, alone, pair, after, sends_val, is_new_val, breaks}
use Rattle.hem_abstract.specs.Stable.{field_lists, kid_sets, abstract_states}
use Rattle.hem_abstract.specs.First.{first_with}
use Rattle.hem_abstract.specs.Parts.{Turn, turn_of, kids_hold, fields_hold, fields_after, kids_after, some_kid_in, kids_clash, kids_stay}
use Rattle.hem_abstract.specs.FieldSets.{allows, any_fields, kept_by_all, led_by_all}
use Rattle.hem_abstract.specs.Search.{turn_breaks, clash_of, clash_kids, clash_at}
use Rattle.hem_abstract.proofs.Split.{and-true, guard-apart, after-apart}
use Rattle.hem_abstract.proofs.FieldLists.{all-length, kept-by-all, any-length, any-allows, led-by-all, after-length}

-- ---- the first of lists
pub or-none : {A : Type 0} (o : Option A) → option_or o None ≡ o
or-none None = refl
or-none (Some x) = refl

or-assoc : {A : Type 0} (a b c : Option A) → option_or (option_or a b) c ≡ option_or a (option_or b c)
or-assoc None b c = refl
or-assoc (Some x) b c = refl

pub with-append : {A B : Type 0} (give : A → Option B) (xs ys : List A) → first_with give (xs ++ ys) ≡ option_or (first_with give xs) (first_with give ys)
with-append give [] ys = refl
with-append give (x ∷ xs) ys = ap (option_or (give x)) (with-append give xs ys) ∙ sym (or-assoc (give x) (first_with give xs) (first_with give ys))

with-map : {A B C : Type 0} (give : B → Option C) (f : A → B) (xs : List A) → first_with give (map f xs) ≡ first_with (λ x. give (f x)) xs
with-map give f [] = refl
with-map give f (x ∷ xs) = ap (option_or (give (f x))) (with-map give f xs)

with-flat_map : {A B C : Type 0} (give : B → Option C) (f : A → List B) (xs : List A) → first_with give (flat_map f xs) ≡ first_with (λ x. first_with give (f x)) xs
with-flat_map give f [] = refl
with-flat_map give f (x ∷ xs) = with-append give (f x) (flat_map f xs) ∙ ap (option_or (first_with give (f x))) (with-flat_map give f xs)

find-map : {A B : Type 0} (test : B → Bool) (f : A → B) (xs : List A) → find test (map f xs) ≡ option_map f (find (λ x. test (f x)) xs)
find-map test f [] = refl
find-map {A = A} {B = B} test f (x ∷ xs) = by_test (test (f x)) (find-map test f xs)
  where
    by_test : (b : Bool) → find test (map f xs) ≡ option_map f (find (λ x. test (f x)) xs) → cond b (Some (f x)) (find test (map f xs)) ≡ option_map f (cond b (Some x) (find (λ x. test (f x)) xs))
    by_test true rest = refl
    by_test false rest = rest

find-flat_map : {A B : Type 0} (test : B → Bool) (f : A → List B) (xs : List A) → find test (flat_map f xs) ≡ first_with (λ x. find test (f x)) xs
find-flat_map test f [] = refl
find-flat_map test f (x ∷ xs) = find-append test (f x) (flat_map f xs) ∙ ap (option_or (find test (f x))) (find-flat_map test f xs)

-- ---- lists of fields
-- with the first field apart
pub by-field : {B : Type 0} (give : List Status8 → Option B) (n m : ℕ) → first_with give (field_lists (suc n) m) ≡ first_with (λ s. first_with (λ rest. give (status s ∷ rest)) (field_lists n m)) (below m)
by-field give n m =
    with-flat_map give (λ s. map (λ rest. status s ∷ rest) (field_lists n m)) (below m)
    ∙ (λ i. first_with (λ s. with-map give (λ rest. status s ∷ rest) (field_lists n m) i) (below m))

-- the same for all lists of that length
same-lists : {B : Type 0} (n m : ℕ) (give other : List Status8 → Option B) → ((fields : List Status8) → length fields ≡ n → give fields ≡ other fields) → first_with give (field_lists n m) ≡ first_with other (field_lists n m)
same-lists zero m give other same = ap (λ o. option_or o None) (same [] refl)
same-lists (suc n) m give other same =
    by-field give n m
    ∙ (λ i. first_with (λ s. same-lists n m (λ rest. give (status s ∷ rest)) (λ rest. other (status s ∷ rest)) (λ rest is. same (status s ∷ rest) (ap suc is)) i) (below m))
    ∙ sym (by-field other n m)

-- ---- fields and children apart
or-turned : (a b : Bool) → (a || b) ≡ (b || a)
or-turned true true = refl
or-turned true false = refl
or-turned false true = refl
or-turned false false = refl

regroup : (uf uk f1 k1 p f2 k2 : Bool) (rest : Bool) → (((uf && uk) && (((f1 && k1) && p) && (f2 && k2))) && rest) ≡ ((((uf && f1) && f2) && (((uk && k1) && p) && k2)) && rest)
regroup false uk f1 k1 p f2 k2 rest = refl
regroup true false false k1 p f2 k2 rest = refl
regroup true false true k1 p false k2 rest = refl
regroup true false true k1 p true k2 rest = refl
regroup true true false k1 p f2 k2 rest = refl
regroup true true true false p false k2 rest = refl
regroup true true true false p true k2 rest = refl
regroup true true true true false false k2 rest = refl
regroup true true true true false true k2 rest = refl
regroup true true true true true false k2 rest = refl
regroup true true true true true true false rest = refl
regroup true true true true true true true rest = refl

-- a search among statuses of children, where the fields are decided
find-none : (ks : List StatusSet) → find (λ k. false) ks ≡ None
find-none [] = refl
find-none (k ∷ ks) = find-none ks

by-kids : (f c s : Bool) (kids stay : StatusSet → Bool) (ks : List StatusSet) → find (λ k. (f && kids k) && (c || not (s && stay k))) ks ≡ cond f (cond (c || not s) (find (λ k. kids k && not (false && stay k)) ks) (find (λ k. kids k && not (true && stay k)) ks)) None
by-kids false c s kids stay ks = find-none ks
by-kids true true s kids stay ks = refl
by-kids true false true kids stay ks = refl
by-kids true false false kids stay ks = refl

breaks-apart : (u : Rule) (turn : Turn) (kind : Kind) (m : ℕ) (fields : List Status8) (kids : StatusSet) →
    let clash = clash_of u turn kind (length fields) m in
    turn_breaks u turn (record { fields = fields; kids = kids }) ≡ ((allows clash.both fields && kids_clash u.guard turn kids) && (clash.new_val || not (allows clash.stays fields && kids_stay u.guard turn kids)))
breaks-apart u turn kind m fields kids =
    let n = length fields in
    let at : Abstract = record { fields = fields; kids = kids } in
    let waits = kept_by_all None u.guard (any_fields n) in
    let one = kept_by_all None turn.first waits in
    let uf = fields_hold u.guard None fields in
    let f1 = fields_hold turn.first None fields in
    let f2 = fields_hold turn.second turn.asked fields in
    let uk = kids_hold u.guard kids in
    let k1 = kids_hold turn.first kids in
    let k2 = kids_hold turn.second kids in
    let p = not turn.passes_on || some_kid_in turn.targets kids in
    let new_val = sends_val u && list_any is_new_val turn.sets in
    let stay = kids_stay u.guard turn kids in
    let many : length (any_fields n).sets ≡ n = any-length n in
    let many_waits : length waits.sets ≡ n = all-length None u.guard (any_fields n) ∙ many in
    let many_one : length one.sets ≡ n = all-length None turn.first waits ∙ many_waits in
    let waits_is : (fs : List Status8) → length fs ≡ n → allows waits fs ≡ fields_hold u.guard None fs = λ fs is. kept-by-all None u.guard (any_fields n) fs (many ∙ sym is) ∙ ap (λ b. b && fields_hold u.guard None fs) (any-allows n fs) in
    let both_is : allows (kept_by_all turn.asked turn.second one) fields ≡ ((uf && f1) && f2) =
    kept-by-all turn.asked turn.second one fields many_one
    ∙ ap (λ b. b && f2) (kept-by-all None turn.first waits fields many_waits ∙ ap (λ b. b && f1) (waits_is fields refl)) in
    let later = fields_after turn.sets fields in
    let stays_is : allows (led_by_all turn.sets waits) fields ≡ fields_hold u.guard None later =
    led-by-all turn.sets waits fields many_waits ∙ waits_is later (after-length turn.sets fields) in
    let guard_after : guard_at u.guard (after at turn.sets turn.targets) None ≡ (fields_hold u.guard None later && stay) =
    ap (λ (now : Abstract). guard_at u.guard now None) (after-apart turn.sets turn.targets at) ∙ guard-apart u.guard (record { fields = later; kids = kids_after turn.targets turn.sets kids }) None in
    (λ i. (guard-apart u.guard at None i && ((guard-apart turn.first at None i && p) && guard-apart turn.second at turn.asked i)) && (not (guard_after i) || new_val))
    ∙ regroup uf uk f1 k1 p f2 k2 (not (fields_hold u.guard None later && stay) || new_val)
    ∙ (λ i. (sym both_is i && (((uk && k1) && p) && k2)) && or-turned (not (sym stays_is i && stay)) new_val i)

clash-is : (u : Rule) (turn : Turn) (kind : Kind) (n m : ℕ) (fields : List Status8) → length fields ≡ n → find (λ kids. turn_breaks u turn (record { fields = fields; kids = kids })) (kid_sets kind m) ≡ clash_kids (clash_of u turn kind n m) fields
clash-is u turn kind n m fields is =
    let clash = clash_of u turn kind (length fields) m in
    (λ i. find (λ kids. breaks-apart u turn kind m fields kids i) (kid_sets kind m))
    ∙ by-kids (allows clash.both fields) clash.new_val (allows clash.stays fields) (kids_clash u.guard turn) (kids_stay u.guard turn) (kid_sets kind m)
    ∙ ap (λ n. clash_kids (clash_of u turn kind n m) fields) is

-- the least abstract state that a turn breaks
pub least-is : (p : Protocol) (kind : Kind) (u : Rule) (turn : Turn) → first_with (clash_at (clash_of u turn kind (length (part p kind).fields) (length p.statuses))) (field_lists (length (part p kind).fields) (length p.statuses)) ≡ find (turn_breaks u turn) (abstract_states p kind)
least-is p kind u turn =
    let n = length (part p kind).fields in
    let m = length p.statuses in
    let with_kids : List Status8 → StatusSet → Abstract = λ fields kids. record { fields = fields; kids = kids } in
    sym (
    find-flat_map (turn_breaks u turn) (λ fields. map (with_kids fields) (kid_sets kind m)) (field_lists n m)
    ∙ (λ i. first_with (λ fields. find-map (turn_breaks u turn) (with_kids fields) (kid_sets kind m) i) (field_lists n m))
    ∙ same-lists n m (λ fields. option_map (with_kids fields) (find (λ kids. turn_breaks u turn (with_kids fields kids)) (kid_sets kind m))) (clash_at (clash_of u turn kind n m)) (λ fields is. ap (option_map (with_kids fields)) (clash-is u turn kind n m fields is)))

-- a partner breaks as its turn does
pub breaks-turn : (u : Rule) (d : Partner) (at : Abstract) → breaks u d at ≡ turn_breaks u (turn_of d) at
breaks-turn u (alone d) at =
    let done = not (guard_at u.guard (after at d.sets (record { 0 = 0 })) None) || (sends_val u && list_any is_new_val d.sets) in
    ap (λ b. (guard_at u.guard at None && b) && done) (sym (and-true (guard_at d.guard at None && true) ∙ and-true (guard_at d.guard at None)))
breaks-turn u (pair q r) at = refl
