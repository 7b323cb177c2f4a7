-- A transaction's firings at an object are those of its role there, and so three at most.
use Rattle.std.proofs.Common.{◌≡◌, refl, sym, ap, ◌∙◌, subst, ℕ, suc, ◌+◌, ◌≤◌, Bool, true, false, ◌&&◌, cond, List, [], ◌∷◌, length, map, Some}
use Rattle.std.specs.Prelude.{◌==◌, filter}
use Rattle.std.specs.List.{zip}
use Rattle.std.proofs.lemmas.List.{length-map}
use Rattle.std.proofs.lemmas.List.Sums.{length-filter}
use Rattle.hem_base.specs.declared.ids.Firing.{Firing}
use Rattle.hem_syntax.specs.Protocol.{Protocol}
use Rattle.hem_tree.specs.Tree.{Tree}
use Rattle.hem_work.specs.Work.{Work}
use Rattle.hem_system.specs.State.{State, start}
use Rattle.hem_system.specs.Ended.{is_at}
use Rattle.hem_system.specs.Events.{Event}
use Rattle.hem_trace.specs.History.{events}
use Rattle.hem_trace.specs.Tags.{numbers_of}
use Rattle.hem_trace.specs.Order.{Entry, entries_from, entries_of}
use Rattle.hem_law.proofs.AllLines.{all-firings}
use Rattle.hem_shape.proofs.RolesKept.{at_most_three}
use Rattle.hem_numbered.specs.HaveRoles.{fired_at}
use Rattle.hem_numbered.proofs.Joined.{history_roles}
use Rattle.hem_trace.specs.Templates.{template_at}
use Rattle.hem_check.proofs.Clauses.{templated}
use Rattle.hem_serial.specs.Histories.{IsHistory}
use Rattle.hem_transactions.specs.Transactions.{firings_at, FireAtMostThrice}

-- three filters are one
one_filter : (a b c : Entry → Bool) (xs : List Entry) → filter a (filter b (filter c xs)) ≡ filter (λ x. c x && b x && a x) xs
one_filter a b c [] = refl
one_filter a b c (x ∷ xs) = by_tests (c x) (b x) refl (one_filter a b c xs)
  where
    by_tests : (one two : Bool) → b x ≡ two → filter a (filter b (filter c xs)) ≡ filter (λ x. c x && b x && a x) xs → filter a (filter b (cond one (x ∷ filter c xs) (filter c xs))) ≡ cond (one && two && a x) (x ∷ filter (λ x. c x && b x && a x) xs) (filter (λ x. c x && b x && a x) xs)
    by_tests false two is rest = rest
    by_tests true true is rest = ap (λ t. filter a (cond t (x ∷ filter b (filter c xs)) (filter b (filter c xs)))) is ∙ ap (λ ys. cond (a x) (x ∷ ys) ys) rest
    by_tests true false is rest = ap (λ t. filter a (cond t (x ∷ filter b (filter c xs)) (filter b (filter c xs)))) is ∙ rest

-- entries counted as firings with their numbers
counted : (p : Protocol) (tree : Tree) (k l o t : ℕ) (es : List Event) (numbers : List ℕ) → length (filter (λ x. is_at l o x.event.firing && x.number == t) (entries_from p tree k es numbers)) ≡ length (filter (λ x. is_at l o x.0 && x.1 == t) (zip (map (λ e. e.firing) es) numbers))
counted p tree k l o t [] numbers = refl
counted p tree k l o t (e ∷ es) [] = refl
counted p tree k l o t (e ∷ es) (n ∷ numbers) = one_more (is_at l o e.firing && n == t) _ _ _ _ (counted p tree (k + 1) l o t es numbers)
  where
    one_more : (b : Bool) (x : Entry) (y : Firing × ℕ) (xs : List Entry) (ys : List (Firing × ℕ)) → length xs ≡ length ys → length (cond b (x ∷ xs) xs) ≡ length (cond b (y ∷ ys) ys)
    one_more true x y xs ys same = ap suc same
    one_more false x y xs ys same = same

pub few_firings : (p : Protocol) (tree : Tree) (work : Work) (h : List Firing) (s : State) → IsHistory p tree work h s → FireAtMostThrice h (numbers_of tree (events p tree (start p tree work) h))
few_firings p tree work h s it =
    let first = start p tree work in
    let es = events p tree first h in
    let numbers = numbers_of tree es in
    let roles = history_roles p tree work h s it.protocol it.shape (templated p it.disciplined) it.runs in
    record {
      few = λ l o t.
          let role = roles l o t in
          let fired = fired_at l o t (entries_of p tree first h) in
          let size : length fired ≡ length role.0 = sym (length-map fired (λ x. template_at p tree x.event.firing)) ∙ ap length role.1 ∙ length-map role.0 Some in
          let same : length fired ≡ firings_at h numbers l o t =
          ap length (one_filter (λ x. x.number == t) (λ x. x.event.firing.object.0 == o) (λ x. x.event.firing.line.0 == l) (entries_of p tree first h))
          ∙ counted p tree 0 l o t es numbers
          ∙ length-filter (λ x. is_at l o x.0 && x.1 == t) (zip (map (λ e. e.firing) es) numbers)
          ∙ ap (λ fs. firings_at fs numbers l o t) (all-firings p tree first h s it.runs.leads) in
          subst (λ n. n ≤ 3) (sym size ∙ same) (at_most_three role.0 role.2);
    }
