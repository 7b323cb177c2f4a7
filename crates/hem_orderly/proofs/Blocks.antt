-- Templates that are whole downward blocks make entries that are.
use Rattle.std.proofs.Common.{◌≡◌, ℕ, Bool, true, false, cond, List, [], ◌∷◌, refl, sym, ap, ◌∙◌, Option, Some, None, ⊎_elim, inl, inr, ◌⊎◌}
use Rattle.std.specs.Prelude.{◌==◌, filter, filter_map, option_and_then, Result, Ok, Err}
use Rattle.std.specs.Option.{option_map_or}
use Rattle.hem_base.specs.declared.ids.Firing.{Firing}
use Rattle.hem_base.specs.declared.ids.Kind.{Kind}
use Rattle.hem_syntax.specs.declared.rule.Rule.{Rule}
use Rattle.hem_template.specs.declared.clause.Clause.{Clause}
use Rattle.hem_template.specs.declared.template_name.TemplateName.{TemplateName}
use Rattle.hem_template.specs.declared.template_name.TemplateName.TheVariants.{ImmSelf, ImmDown, ImmUp, RqUp, RqUpSelf, RqUpDown, RqDownSelf, RqDownDown, RsDown, RsDownSelf, RsDownRqDown, RsUpDown, RsUpUp, RsUpSelf}
use Rattle.hem_syntax.specs.Protocol.{Protocol, rule_named}
use Rattle.hem_template.specs.Template.{template_of}
use Rattle.hem_tree.specs.Tree.{Tree, kind_of}
use Rattle.hem_trace.specs.Blocks.{Each}
use Rattle.hem_trace.specs.Order.{Entry, is_upward}
use Rattle.hem_template.specs.Waiting.{is_upward_template, template_if}
use Rattle.hem_law.specs.Lines.{line_firings}
use Rattle.hem_law.specs.Printed.{firings_in, on_line, entries_at}
use Rattle.hem_trace.specs.Templates.{template_at}
use Rattle.hem_law.specs.Windows.{AreWholeBlocks}
use Rattle.hem_law.proofs.ListFacts.{each-filter}
use Rattle.hem_windows.specs.Blocks.{templates_at, are_blocks}
use Rattle.hem_orderly.specs.Climbs.{IsTemplated}
use Rattle.hem_windows.proofs.Windows.{filter_map-some, filter_map-none}

-- the template of an entry
abbrev entry_template : Protocol → Tree → Entry → Option TemplateName
entry_template p tree x = template_at p tree x.event.firing

-- what an object of a line fires, by the entries there
templates_are : (p : Protocol) (tree : Tree) (l o : ℕ) (xs : List Entry) → Each (IsTemplated p tree) xs → templates_at p tree o (line_firings l (firings_in xs)) ≡ filter_map (entry_template p tree) (entries_at l o xs)
templates_are p tree l o [] templated = refl
templates_are p tree l o (x ∷ xs) templated = by_line (x.event.firing.line.0 == l) (templates_are p tree l o xs templated.1)
  where
    f : Firing
    f = x.event.firing

    h : List Firing
    h = line_firings l (firings_in xs)

    by_object : (b : Bool) → (f.object.0 == o) ≡ b → templates_at p tree o h ≡ filter_map (entry_template p tree) (entries_at l o xs) → templates_at p tree o (f ∷ h) ≡ filter_map (entry_template p tree) (cond b (x ∷ entries_at l o xs) (entries_at l o xs))
    by_object false is rest = filter_map-none (λ f. cond (f.object.0 == o) (template_at p tree f) None) f h (ap (λ b. cond b (template_at p tree f) None) is) ∙ rest
    by_object true is rest =
        filter_map-some (λ f. cond (f.object.0 == o) (template_at p tree f) None) f h templated.0.0 (ap (λ b. cond b (template_at p tree f) None) is ∙ templated.0.1)
        ∙ ap (λ ts. templated.0.0 ∷ ts) rest
        ∙ sym (filter_map-some (entry_template p tree) x (entries_at l o xs) templated.0.0 templated.0.1)

    by_line : (b : Bool) → templates_at p tree o h ≡ filter_map (entry_template p tree) (entries_at l o xs) → templates_at p tree o (cond b (f ∷ h) h) ≡ filter_map (entry_template p tree) (filter (λ y. y.event.firing.object.0 == o) (cond b (x ∷ on_line l xs) (on_line l xs)))
    by_line false rest = rest
    by_line true rest = by_object (f.object.0 == o) refl rest

-- the first template of whole blocks, and the second of a block that isn't over
first_of : (t : TemplateName) (ts : List TemplateName) → are_blocks false (t ∷ ts) ≡ true → ((t ≡ ImmUp) × (are_blocks false ts ≡ true)) ⊎ ((t ≡ RqDownDown) × (are_blocks true ts ≡ true))
first_of ImmSelf ts blocks = cc
first_of ImmDown ts blocks = cc
first_of ImmUp ts blocks = inl (refl, blocks)
first_of RqUp ts blocks = cc
first_of RqUpSelf ts blocks = cc
first_of RqUpDown ts blocks = cc
first_of RqDownSelf ts blocks = cc
first_of RqDownDown ts blocks = inr (refl, blocks)
first_of RsDown ts blocks = cc
first_of RsDownSelf ts blocks = cc
first_of RsDownRqDown ts blocks = cc
first_of RsUpDown ts blocks = cc
first_of RsUpUp ts blocks = cc
first_of RsUpSelf ts blocks = cc

second_of : (t : TemplateName) (ts : List TemplateName) → are_blocks true (t ∷ ts) ≡ true → (t ≡ RsUpUp) × (are_blocks false ts ≡ true)
second_of ImmSelf ts blocks = cc
second_of ImmDown ts blocks = cc
second_of ImmUp ts blocks = cc
second_of RqUp ts blocks = cc
second_of RqUpSelf ts blocks = cc
second_of RqUpDown ts blocks = cc
second_of RqDownSelf ts blocks = cc
second_of RqDownDown ts blocks = cc
second_of RsDown ts blocks = cc
second_of RsDownSelf ts blocks = cc
second_of RsDownRqDown ts blocks = cc
second_of RsUpDown ts blocks = cc
second_of RsUpUp ts blocks = (refl, blocks)
second_of RsUpSelf ts blocks = cc

-- entries of such templates are whole blocks
entries_whole : (p : Protocol) (tree : Tree) (xs : List Entry) → Each (IsTemplated p tree) xs → are_blocks false (filter_map (entry_template p tree) xs) ≡ true → AreWholeBlocks p tree xs
entries_whole p tree [] templated blocks = tt
entries_whole p tree (x ∷ []) templated blocks =
    ⊎_elim
    (λ one. templated.0.1 ∙ ap Some one.0)
    (λ two. absurd (let bad : false ≡ true = two.1 in cc))
    (first_of templated.0.0 [] (ap (are_blocks false) (sym (filter_map-some (entry_template p tree) x [] templated.0.0 templated.0.1)) ∙ blocks))
entries_whole p tree (x ∷ (y ∷ xs)) templated blocks =
    by_first (entries_whole p tree (y ∷ xs) templated.1) (entries_whole p tree xs templated.1.1)
    (first_of templated.0.0 (filter_map (entry_template p tree) (y ∷ xs)) (ap (are_blocks false) (sym (filter_map-some (entry_template p tree) x (y ∷ xs) templated.0.0 templated.0.1)) ∙ blocks))
  where
    by_first : (are_blocks false (filter_map (entry_template p tree) (y ∷ xs)) ≡ true → AreWholeBlocks p tree (y ∷ xs)) → (are_blocks false (filter_map (entry_template p tree) xs) ≡ true → AreWholeBlocks p tree xs)
        → ((templated.0.0 ≡ ImmUp) × (are_blocks false (filter_map (entry_template p tree) (y ∷ xs)) ≡ true)) ⊎ ((templated.0.0 ≡ RqDownDown) × (are_blocks true (filter_map (entry_template p tree) (y ∷ xs)) ≡ true))
        → AreWholeBlocks p tree (x ∷ (y ∷ xs))
    by_first rest after (inl one) = inl (templated.0.1 ∙ ap Some one.0, rest one.1)
    by_first rest after (inr two) =
        let it = second_of templated.1.0.0 (filter_map (entry_template p tree) xs) (ap (are_blocks true) (sym (filter_map-some (entry_template p tree) y xs templated.1.0.0 templated.1.0.1)) ∙ two.1) in
        inr (templated.0.1 ∙ ap Some two.0, templated.1.0.1 ∙ ap Some it.0, after it.1)

-- so an object's entries of a line are whole blocks where its templates are
pub whole_blocks : (p : Protocol) (tree : Tree) (l o : ℕ) (xs : List Entry) → Each (IsTemplated p tree) xs → are_blocks false (templates_at p tree o (line_firings l (firings_in xs))) ≡ true → AreWholeBlocks p tree (entries_at l o xs)
whole_blocks p tree l o xs templated blocks =
    entries_whole p tree (entries_at l o xs)
    (each-filter (IsTemplated p tree) (λ x. x.event.firing.object.0 == o) (on_line l xs) (each-filter (IsTemplated p tree) (λ x. x.event.firing.line.0 == l) xs templated))
    (ap (are_blocks false) (sym (templates_are p tree l o xs templated)) ∙ blocks)

-- whether a firing sends a request up and waits, by its template
upward_by : (p : Protocol) (tree : Tree) (f : Firing) (t : TemplateName) → template_at p tree f ≡ Some t → is_upward p tree f ≡ is_upward_template (Ok t)
upward_by p tree f t is = same (kind_of tree f.object.0) ∙ ap (λ t. option_map_or (λ t. is_upward_template (Ok t)) t false) is
  where
    by_result : (r : Result TemplateName Clause) → is_upward_template r ≡ option_map_or (λ t. is_upward_template (Ok t)) (template_if r) false
    by_result (Ok t) = refl
    by_result (Err c) = refl

    by_rule : (kind : Kind) (rule : Option Rule) → option_map_or (λ rule. is_upward_template (template_of p kind rule)) rule false ≡ option_map_or (λ t. is_upward_template (Ok t)) (option_and_then (λ rule. template_if (template_of p kind rule)) rule) false
    by_rule kind None = refl
    by_rule kind (Some rule) = by_result (template_of p kind rule)

    same : (kind : Option Kind) → option_map_or (λ kind. option_map_or (λ rule. is_upward_template (template_of p kind rule)) (rule_named p kind f.rule) false) kind false ≡ option_map_or (λ t. is_upward_template (Ok t)) (option_and_then (λ kind. option_and_then (λ rule. template_if (template_of p kind rule)) (rule_named p kind f.rule)) kind) false
    same None = refl
    same (Some kind) = by_rule kind (rule_named p kind f.rule)

-- whole blocks have no request upward
pub none_upward : (p : Protocol) (tree : Tree) (xs : List Entry) → AreWholeBlocks p tree xs → Each (λ x. is_upward p tree x.event.firing ≡ false) xs
none_upward p tree [] whole = tt
none_upward p tree (x ∷ []) whole = (upward_by p tree x.event.firing ImmUp whole, tt)
none_upward p tree (x ∷ (y ∷ xs)) whole = by_first (none_upward p tree (y ∷ xs)) (none_upward p tree xs) whole
  where
    by_first : (AreWholeBlocks p tree (y ∷ xs) → Each (λ x. is_upward p tree x.event.firing ≡ false) (y ∷ xs)) → (AreWholeBlocks p tree xs → Each (λ x. is_upward p tree x.event.firing ≡ false) xs) → AreWholeBlocks p tree (x ∷ (y ∷ xs)) → Each (λ x. is_upward p tree x.event.firing ≡ false) (x ∷ (y ∷ xs))
    by_first rest after (inl one) = (upward_by p tree x.event.firing ImmUp one.0, rest one.1)
    by_first rest after (inr two) = (upward_by p tree x.event.firing RqDownDown two.0, (upward_by p tree y.event.firing RsUpUp two.1, after two.2))
