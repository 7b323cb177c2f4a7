-- Modules with a feed have one play.
use Rattle.std.proofs.Common.{◌≡◌, ◌∙◌, refl, sym, ap, subst, arith, ℕ, zero, suc, ◌<◌, ◌≤◌, false, List, [], ◌∷◌, length, Some}
use Rattle.std.specs.Prelude.{is_none, slice_set}
use Rattle.hem_module.specs.declared.turns.Played.{Played}
use Rattle.hem_module.specs.Modules.{Modules}
use Rattle.hem_module.specs.States.{State, stepped}
use Rattle.hem_module.specs.Turns.{first_rule, turns, IsPlayed}
use Rattle.hem_modtext.specs.declared.feed.Fed.{Fed}
use Rattle.hem_modprint.specs.PlayText.{play_text}
use Rattle.hem_document.specs.declared.documents.PlayDocument.{PlayDocument}
use Rattle.hem_cli.specs.Playing.{fed_one, fed_start, IsPlay, IsPlayReply}
use Rattle.hem_cli.specs.declared.status.Status.TheVariants.{Done}
use Rattle.hem_cli.proofs.Endings.{if_some}
use Rattle.hem_cli.proofs.Ways.{IsOnce, Same, status_once}

-- a write past the end of a list
set_past : {A : Type 0} (xs : List A) (i : ℕ) (x : A) → length xs ≤ i → slice_set xs i x ≡ xs
set_past [] i x past = refl
set_past (y ∷ ys) zero x past = absurd (omega (arith, past))
set_past (y ∷ ys) (suc i) x past = ap (λ zs. y ∷ zs) (set_past ys i x (omega (arith, past)))

-- a queue that isn't there is fed nothing
pub fed_nowhere : (s : State) (f : Fed) → length s.queues ≤ f.queue → s ≡ fed_one s f
fed_nowhere s f past = sym (ap (λ queues. record s { queues = queues }) (set_past s.queues f.queue _ past))

some_is : {A : Type 0} (x y : A) → Some x ≡ Some y → x ≡ y
some_is x y is = cc

-- where more turns are possible a rule is left
more_left : (m : Modules) (a b : ℕ) (s x y : State) → a < b → turns a m s ≡ Some x → turns b m s ≡ Some y → is_none (first_rule m x) ≡ false
more_left m zero zero s x y less one other = absurd (omega (arith, less))
more_left m zero (suc b) s x y less one other =
    let by = if_some (λ rule. turns b m (stepped s rule)) (first_rule m s) y other in
    subst (λ z. is_none (first_rule m z) ≡ false) (some_is s x one) (ap is_none by.1)
more_left m (suc a) zero s x y less one other = absurd (omega (arith, less))
more_left m (suc a) (suc b) s x y less one other =
    let by = if_some (λ rule. turns a m (stepped s rule)) (first_rule m s) x one in
    let also = if_some (λ rule. turns b m (stepped s rule)) (first_rule m s) y other in
    let same : also.0 ≡ by.0 = some_is also.0 by.0 (sym also.1 ∙ by.1) in
    more_left m a b (stepped s by.0) x y (omega (arith, less)) by.2 (subst (λ r. turns b m (stepped s r) ≡ Some y) same also.2)

-- of two plays none is shorter
none_shorter : (m : Modules) (s x y : State) (most : ℕ) (a b : Played) → IsPlayed m s most x a → IsPlayed m s most y b → a.fired < b.fired → ⊥
none_shorter m s x y most a b one other less =
    let all = one.all (one.stuck ∙ more_left m a.fired b.fired s x y less one.turns other.turns) in
    omega (arith, all, other.few, less)

neither : (a b : ℕ) → (a < b → ⊥) → (b < a → ⊥) → a ≡ b
neither a b left right = omega arith

-- a play ends once, in one state
played_once : (m : Modules) (s x y : State) (most : ℕ) (a b : Played) → IsPlayed m s most x a → IsPlayed m s most y b → (x ≡ y) × (a ≡ b)
played_once m s x y most a b one other =
    let fired = neither a.fired b.fired (none_shorter m s x y most a b one other) (none_shorter m s y x most b a other one) in
    let state = some_is x y (sym one.turns ∙ (ap (λ n. turns n m s) fired ∙ other.turns)) in
    let stuck : a.stuck ≡ b.stuck = one.stuck ∙ (ap (λ z. is_none (first_rule m z)) state ∙ sym other.stuck) in
    (state, λ i. record { fired = fired i; stuck = stuck i })

-- modules with a feed have one text of a play
play_text_once : (d : PlayDocument) (most : ℕ) (x y : List ℕ) → IsPlay d.modules d.feed most x → IsPlay d.modules d.feed most y → x ≡ y
play_text_once d most x y one other =
    let same = played_once d.modules (fed_start d.modules d.feed) one.end other.end most one.played other.played one.is other.is in
    one.says ∙ ((λ i. play_text d.modules (same.0 i) (same.1 i)) ∙ sym other.says)

-- a document has one reply
pub play_once : (most : ℕ) (d : PlayDocument) → IsOnce (IsPlayReply most d)
play_once most d = status_once Same Done (IsPlay d.modules d.feed most) (play_text_once d most)
