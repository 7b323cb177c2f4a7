-- The blocks in the printed order, from members.
use Rattle.std.proofs.Common.{◌≡◌, refl, sym, ap, ◌∙◌, ℕ, zero, suc, Bool, true, false, not, ◌&&◌, ◌||◌, cond, List, [], ◌∷◌, map, length, Option, None, Some}
use Rattle.std.specs.Prelude.{◌==◌, filter}
use Rattle.std.specs.List.{list_any}
use Rattle.hem_trace.specs.Order.{Entry, is_before, same_object, stands_before as stood, next_out, printed_from, printed, transactions_of, normal, block_of as entry_block}
use Rattle.hem_regroup.specs.Members.{is_of, stands_before, precedes}
use Rattle.hem_regroup.specs.Turns.{without, turns}
use Rattle.hem_regroup.specs.Printed.{member_of, members_of, block_of, blocks_of}
use Rattle.hem_regroup.proofs.SameTurns.{turns_some, turns_none}

any-members : (u : ℕ) (e : Entry) (es : List Entry) → list_any (λ later. later.number == u && same_object e later) es ≡ list_any (is_of u (member_of e)) (members_of es)
any-members u e [] = refl
any-members u e (x ∷ es) = ap (λ b. (x.number == u && same_object e x) || b) (any-members u e es)

stands-members : (es : List Entry) (t u : ℕ) → stood es t u ≡ stands_before (members_of es) t u
stands-members [] t u = refl
stands-members (e ∷ es) t u =
    ap (λ b. (e.number == t && b) || stood es t u) (any-members u e es)
    ∙ ap (λ b. (e.number == t && list_any (is_of u (member_of e)) (members_of es)) || b) (stands-members es t u)

before-members : (es : List Entry) (t u : ℕ) → is_before es t u ≡ precedes (members_of es) t u
before-members es t u = ap (λ b. not (t == u) && b) (stands-members es t u)

firings-members : (es : List Entry) (number : ℕ) → map (λ e. e.event.firing) (filter (λ e. e.number == number) es) ≡ map (λ r. r.firing) (filter (λ r. r.number == number) (members_of es))
firings-members [] number = refl
firings-members (e ∷ es) number = by_test (e.number == number) (firings-members es number)
  where
    by_test : (b : Bool) → map (λ e. e.event.firing) (filter (λ e. e.number == number) es) ≡ map (λ r. r.firing) (filter (λ r. r.number == number) (members_of es)) → map (λ e. e.event.firing) (cond b (e ∷ filter (λ e. e.number == number) es) (filter (λ e. e.number == number) es)) ≡ map (λ r. r.firing) (cond b (member_of e ∷ filter (λ r. r.number == number) (members_of es)) (filter (λ r. r.number == number) (members_of es)))
    by_test true rest = ap (λ fs. e.event.firing ∷ fs) rest
    by_test false rest = rest

block-members : (es : List Entry) (number : ℕ) → entry_block es number ≡ block_of (members_of es) number
block-members es number = ap (λ fs. record { number = number; firings = fs }) (firings-members es number)

printed_some : (n : ℕ) (es : List Entry) (left : List ℕ) (t : ℕ) → next_out es left ≡ Some t → printed_from (suc n) es left ≡ entry_block es t ∷ printed_from n es (without t left)
printed_some n es left t is = rw (is, printed_from) refl

printed_none : (n : ℕ) (es : List Entry) (left : List ℕ) → next_out es left ≡ None → printed_from (suc n) es left ≡ []
printed_none n es left is = rw (is, printed_from) refl

printed-turns : (n : ℕ) (es : List Entry) (left : List ℕ) → printed_from n es left ≡ map (entry_block es) (turns n (is_before es) left)
printed-turns zero es left = refl
printed-turns (suc n) es left = by_next (next_out es left) refl (λ t. printed-turns n es (without t left))
  where
    by_next : (out : Option ℕ) → next_out es left ≡ out → ((t : ℕ) → printed_from n es (without t left) ≡ map (entry_block es) (turns n (is_before es) (without t left))) → printed_from (suc n) es left ≡ map (entry_block es) (turns (suc n) (is_before es) left)
    by_next None is rest = printed_none n es left is ∙ ap (map (entry_block es)) (sym (turns_none n (is_before es) left is))
    by_next (Some t) is rest =
        printed_some n es left t is
        ∙ ap (λ bs. entry_block es t ∷ bs) (rest t)
        ∙ ap (map (entry_block es)) (sym (turns_some n (is_before es) left t is))

-- the printed blocks are those of the members in the normal order
pub printed-members : (es : List Entry) → printed es ≡ blocks_of (members_of (normal es)) (transactions_of es)
printed-members es =
    let left = transactions_of es in
    printed-turns (length left) (normal es) left
    ∙ (λ i. map (λ t. block-members (normal es) t i) (turns (length left) (λ t u. before-members (normal es) t u i) left))
