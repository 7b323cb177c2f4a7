-- The entries of a transaction at an object, with one entry more.
use Rattle.std.proofs.Common.{◌≡◌, ◌≢◌, ℕ, ◌≤◌, Bool, true, false, cond, List, [], ◌∷◌, ◌++◌, length, map, refl, sym, ap, ◌∙◌, subst, Some, inl, inr, ◌⊎◌}
use Rattle.std.specs.Prelude.{◌==◌, filter, option_and_then, Ok}
use Rattle.std.proofs.lemmas.List.{length-map}
use Rattle.std.proofs.lemmas.List.Elements.{filter-append}
use Rattle.std.proofs.lemmas.Bool.{eq-eqb}
use Rattle.hem_base.specs.declared.ids.Firing.{Firing}
use Rattle.hem_base.specs.declared.ids.Kind.{Kind}
use Rattle.hem_syntax.specs.declared.rule.Rule.{Rule}
use Rattle.hem_template.specs.declared.template_name.TemplateName.{TemplateName}
use Rattle.hem_syntax.specs.Protocol.{Protocol, rule_named}
use Rattle.hem_template.specs.Template.{template_of}
use Rattle.hem_tree.specs.Tree.{Tree, kind_of}
use Rattle.hem_trace.specs.Order.{Entry}
use Rattle.hem_law.specs.Printed.{entries_at, rows_of}
use Rattle.hem_template.specs.Waiting.{template_if}
use Rattle.hem_trace.specs.Templates.{template_at}
use Rattle.hem_law.proofs.Filters.{filter-map}
use Rattle.hem_shape.proofs.RolesKept.{at_most_three}
use Rattle.hem_numbered.specs.HaveRoles.{fired_at, HaveRoles}
use Rattle.hem_rows.proofs.Choices.{not_same}

-- a filter of a list with one element more
filter_passes : (test : Entry → Bool) (xs : List Entry) (x : Entry) → test x ≡ true → filter test (xs ++ x ∷ []) ≡ filter test xs ++ x ∷ []
filter_passes test xs x is = filter-append test xs (x ∷ []) ∙ ap (λ b. filter test xs ++ cond b (x ∷ []) []) is

filter_drops : (test : Entry → Bool) (xs : List Entry) (x : Entry) → test x ≡ false → filter test (xs ++ x ∷ []) ≡ filter test xs
filter_drops test xs x is = filter-append test xs (x ∷ []) ∙ ap (λ b. filter test xs ++ cond b (x ∷ []) []) is ∙ append_none (filter test xs)
  where
    append_none : (xs : List Entry) → xs ++ [] ≡ xs
    append_none [] = refl
    append_none (x ∷ xs) = ap (λ l. x ∷ l) (append_none xs)

-- three filters at once
all_pass : (a b c : Entry → Bool) (xs : List Entry) (x : Entry) → c x ≡ true → b x ≡ true → a x ≡ true → filter a (filter b (filter c (xs ++ x ∷ []))) ≡ filter a (filter b (filter c xs)) ++ x ∷ []
all_pass a b c xs x one two three =
    ap (λ ys. filter a (filter b ys)) (filter_passes c xs x one) ∙ ap (filter a) (filter_passes b (filter c xs) x two) ∙ filter_passes a (filter b (filter c xs)) x three

one_drops : (a b c : Entry → Bool) (xs : List Entry) (x : Entry) → (c x ≡ false) ⊎ ((b x ≡ false) ⊎ (a x ≡ false)) → filter a (filter b (filter c (xs ++ x ∷ []))) ≡ filter a (filter b (filter c xs))
one_drops a b c xs x (inl one) = ap (λ ys. filter a (filter b ys)) (filter_drops c xs x one)
one_drops a b c xs x (inr (inl two)) = by_line (c x) refl
  where
    by_line : (on : Bool) → c x ≡ on → filter a (filter b (filter c (xs ++ x ∷ []))) ≡ filter a (filter b (filter c xs))
    by_line false is = ap (λ ys. filter a (filter b ys)) (filter_drops c xs x is)
    by_line true is = ap (λ ys. filter a (filter b ys)) (filter_passes c xs x is) ∙ ap (filter a) (filter_drops b (filter c xs) x two)
one_drops a b c xs x (inr (inr three)) = by_line (c x) refl
  where
    by_object : (ys : List Entry) (at : Bool) → b x ≡ at → filter a (filter b (ys ++ x ∷ [])) ≡ filter a (filter b ys)
    by_object ys false is = ap (filter a) (filter_drops b ys x is)
    by_object ys true is = ap (filter a) (filter_passes b ys x is) ∙ filter_drops a (filter b ys) x three

    by_line : (on : Bool) → c x ≡ on → filter a (filter b (filter c (xs ++ x ∷ []))) ≡ filter a (filter b (filter c xs))
    by_line false is = ap (λ ys. filter a (filter b ys)) (filter_drops c xs x is)
    by_line true is = ap (λ ys. filter a (filter b ys)) (filter_passes c xs x is) ∙ by_object (filter c xs) (b x) refl

-- the entry is of the transaction, at the object and on the line
pub fired_here : (past : List Entry) (x : Entry) (l o t : ℕ) → x.event.firing.line.0 ≡ l → x.event.firing.object.0 ≡ o → x.number ≡ t → fired_at l o t (past ++ x ∷ []) ≡ fired_at l o t past ++ x ∷ []
fired_here past x l o t line object number =
    all_pass (λ e. e.number == t) (λ e. e.event.firing.object.0 == o) (λ e. e.event.firing.line.0 == l) past x
    (eq-eqb x.event.firing.line.0 l line) (eq-eqb x.event.firing.object.0 o object) (eq-eqb x.number t number)

-- or it is not
pub fired_elsewhere : (past : List Entry) (x : Entry) (l o t : ℕ) → (x.event.firing.line.0 ≢ l) ⊎ ((x.event.firing.object.0 ≢ o) ⊎ (x.number ≢ t)) → fired_at l o t (past ++ x ∷ []) ≡ fired_at l o t past
fired_elsewhere past x l o t differs = one_drops (λ e. e.number == t) (λ e. e.event.firing.object.0 == o) (λ e. e.event.firing.line.0 == l) past x (tests differs)
  where
    tests : (x.event.firing.line.0 ≢ l) ⊎ ((x.event.firing.object.0 ≢ o) ⊎ (x.number ≢ t)) → ((x.event.firing.line.0 == l) ≡ false) ⊎ (((x.event.firing.object.0 == o) ≡ false) ⊎ ((x.number == t) ≡ false))
    tests (inl line) = inl (not_same x.event.firing.line.0 l line)
    tests (inr (inl object)) = inr (inl (not_same x.event.firing.object.0 o object))
    tests (inr (inr number)) = inr (inr (not_same x.number t number))

-- a firing's template
pub template_is : (p : Protocol) (tree : Tree) (f : Firing) (kind : Kind) (rule : Rule) (t : TemplateName) → kind_of tree f.object.0 ≡ Some kind → rule_named p kind f.rule ≡ Some rule → template_of p kind rule ≡ Ok t → template_at p tree f ≡ Some t
template_is p tree f kind rule t there named is =
    ap (λ kind. option_and_then (λ kind. option_and_then (λ rule. template_if (template_of p kind rule)) (rule_named p kind f.rule)) kind) there
    ∙ ap (λ rule. option_and_then (λ rule. template_if (template_of p kind rule)) rule) named
    ∙ ap template_if is

pub map_end : {A B : Type 0} (f : A → B) (xs : List A) (x : A) → map f (xs ++ x ∷ []) ≡ map f xs ++ f x ∷ []
map_end f [] x = refl
map_end f (y ∷ xs) x = ap (λ l. f y ∷ l) (map_end f xs x)

-- a transaction stands in a row as often as it has fired there, and so three times at most
pub role_thrice : (p : Protocol) (tree : Tree) (es : List Entry) → HaveRoles p tree es → (l o t : ℕ) → length (filter (λ n. n == t) (rows_of es l o)) ≤ 3
role_thrice p tree es roles l o t =
    let role = roles l o t in
    let size : length (filter (λ n. n == t) (rows_of es l o)) ≡ length role.0 =
    ap length (filter-map (λ n. n == t) (λ x. x.number) (entries_at l o es))
    ∙ length-map (fired_at l o t es) (λ x. x.number)
    ∙ sym (length-map (fired_at l o t es) (λ x. template_at p tree x.event.firing))
    ∙ ap length role.1
    ∙ length-map role.0 Some in
    subst (λ n. n ≤ 3) (sym size) (at_most_three role.0 role.2)
