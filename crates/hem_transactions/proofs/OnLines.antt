-- The numbers on all lines after an event on one of them.
use Rattle.std.proofs.Common.{◌≡◌, ◌≢◌, sym, ap, ◌∙◌, subst, ℕ, zero, suc, List, [], ◌∷◌, ◌++◌, Some, ⊎_elim}
use Rattle.std.specs.Prelude.{slice_get, slice_set}
use Rattle.std.proofs.lemmas.Bool.{cases_eq}
use Rattle.std.proofs.lemmas.Option.{slice_get_within, same_Some}
use Rattle.hem_tree.specs.Tree.{Tree}
use Rattle.hem_system.specs.Events.{Event}
use Rattle.hem_system.proofs.Sets.{get_set_here, get_set_other}
use Rattle.hem_trace.specs.Tags.{Tags, tags_after}
use Rattle.hem_transactions.specs.declared.line.LineNumbers.{LineNumbers}
use Rattle.hem_transactions.specs.Carried.{HasLists, CarriesOn, HaveLists, Carry}
use Rattle.hem_transactions.proofs.Lanes.{stays_elsewhere}

-- a fact of each line, where the line that was set has it
set_keeps : (P : ℕ → LineNumbers → Type 0) (lines : List LineNumbers) (l : ℕ) (old new : LineNumbers) → slice_get lines l ≡ Some old → P l new → ((m : ℕ) (line : LineNumbers) → m ≢ l → slice_get lines m ≡ Some line → P m line) → (m : ℕ) (line : LineNumbers) → slice_get (slice_set lines l new) m ≡ Some line → P m line
set_keeps P lines l old new at now others m line there =
    ⊎_elim
    (λ (same : m ≡ l).
    let it : new ≡ line = same_Some new line (sym (get_set_here lines l new (slice_get_within lines l old at)) ∙ ap (slice_get (slice_set lines l new)) (sym same) ∙ there) in
    subst (λ line. P m line) it (subst (λ m. P m new) (sym same) now))
    (λ (differ : m ≢ l). others m line differ (sym (get_set_other lines l m new differ) ∙ there))
    (cases_eq m l)

pub lists_kept : (tree : Tree) (lines after : List LineNumbers) (l : ℕ) (old new : LineNumbers) → slice_get lines l ≡ Some old → after ≡ slice_set lines l new → HaveLists tree lines → HasLists tree new → HaveLists tree after
lists_kept tree lines after l old new at is have has =
    record { on = λ m line there. set_keeps (λ m line. HasLists tree line) lines l old new at has (λ m line differ there. have.on m line there) m line (ap (λ xs. slice_get xs m) (sym is) ∙ there) }

pub carry_next : (tree : Tree) (tags : Tags) (e : Event) (n : ℕ) (lines after : List LineNumbers) (old new : LineNumbers) → slice_get lines e.firing.line.0 ≡ Some old → after ≡ slice_set lines e.firing.line.0 new → (CarriesOn tags e.firing.line.0 old → CarriesOn (tags_after tree tags e n) e.firing.line.0 new) → Carry tags lines → Carry (tags_after tree tags e n) after
carry_next tree tags e n lines after old new at is goes are =
    record {
      on = λ m line there.
          set_keeps (CarriesOn (tags_after tree tags e n)) lines e.firing.line.0 old new at (goes (are.on e.firing.line.0 old at))
          (λ m line differ there. stays_elsewhere tree tags e n m line differ (are.on m line there))
          m line (ap (λ xs. slice_get xs m) (sym is) ∙ there);
    }

-- one more line, as the others
more_lines : (P : ℕ → LineNumbers → Type 0) (lines : List LineNumbers) (new : LineNumbers) → ((l : ℕ) (line : LineNumbers) → slice_get lines l ≡ Some line → P l line) → ((l : ℕ) → P l new) → (l : ℕ) (line : LineNumbers) → slice_get (lines ++ new ∷ []) l ≡ Some line → P l line
more_lines P [] new all one zero line there = subst (λ line. P zero line) (same_Some new line there) (one zero)
more_lines P [] new all one (suc l) line there = cc
more_lines P (x ∷ lines) new all one zero line there = all zero line there
more_lines P (x ∷ lines) new all one (suc l) line there = more_lines (λ l. P (suc l)) lines new (λ l. all (suc l)) (λ l. one (suc l)) l line there

pub more_lists : (tree : Tree) (lines after : List LineNumbers) (new : LineNumbers) → after ≡ lines ++ new ∷ [] → HaveLists tree lines → HasLists tree new → HaveLists tree after
more_lists tree lines after new is have has = record { on = λ l line there. more_lines (λ l line. HasLists tree line) lines new have.on (λ l. has) l line (ap (λ xs. slice_get xs l) (sym is) ∙ there) }

pub more_carry : (tags : Tags) (lines after : List LineNumbers) (new : LineNumbers) → after ≡ lines ++ new ∷ [] → Carry tags lines → ((l : ℕ) → CarriesOn tags l new) → Carry tags after
more_carry tags lines after new is are one = record { on = λ l line there. more_lines (CarriesOn tags) lines new are.on one l line (ap (λ xs. slice_get xs l) (sym is) ∙ there) }
