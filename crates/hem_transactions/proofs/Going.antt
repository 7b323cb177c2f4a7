-- The numbers so far, and those of what is left.
use Rattle.std.proofs.Common.{◌≡◌, sym, ap, ◌∙◌, ℕ, ◌+◌, ◌<◌, List, [], ◌∷◌, ◌++◌, append_assoc, length, drop, get_or}
use Rattle.std.proofs.lemmas.List.{drop_more}
use Rattle.hem_base.specs.declared.ids.Firing.{Firing}
use Rattle.hem_syntax.specs.Protocol.{Protocol}
use Rattle.hem_tree.specs.Tree.{Tree}
use Rattle.hem_system.specs.State.{State}
use Rattle.hem_system.specs.Events.{Event}
use Rattle.hem_trace.specs.History.{events}
use Rattle.hem_trace.specs.Tags.{Tags, tags_after, number_at, numbers_by_tags, numbers_of}
use Rattle.hem_transactions.specs.declared.line.LineNumbers.{LineNumbers}
use Rattle.hem_transactions.specs.Carried.{Carry}
use Rattle.hem_transactions.proofs.Steps.{IsEventOf}

-- after n firings the messages carry some numbers, and the numbers so far with those of what is left are all
pub record GoesOn (p : Protocol) (tree : Tree) (start : State) (h : List Firing) (n : ℕ) (now : State) (lines : List LineNumbers) (numbers : List ℕ) : Type 0 where
  pub tags : Tags
  pub carry : Carry tags lines
  pub all : numbers ++ numbers_by_tags tree tags n (events p tree now (drop n h)) ≡ numbers_of tree (events p tree start h)

-- so with one firing more
pub goes_next : (p : Protocol) (tree : Tree) (start : State) (h : List Firing) (n : ℕ) (d : Firing) (now next : State) (e : Event) (number : ℕ) (lines after : List LineNumbers) (numbers more : List ℕ) → n < length h → IsEventOf p tree now (get_or h n d) e next → ((tags : Tags) → Carry tags lines → number ≡ number_at tree tags n e) → ((tags : Tags) → Carry tags lines → Carry (tags_after tree tags e number) after) → more ≡ numbers ++ number ∷ [] → GoesOn p tree start h n now lines numbers → GoesOn p tree start h (n + 1) next after more
goes_next p tree start h n d now next e number lines after numbers more within event is carries one goes =
    let tags = goes.tags in
    let rest = events p tree next (drop (n + 1) h) in
    record {
      tags = tags_after tree tags e number;
      carry = carries tags goes.carry;
      all = ap (λ xs. xs ++ numbers_by_tags tree (tags_after tree tags e number) (n + 1) rest) one
          ∙ append_assoc numbers (number ∷ []) (numbers_by_tags tree (tags_after tree tags e number) (n + 1) rest)
          ∙ ap (λ m. numbers ++ (m ∷ numbers_by_tags tree (tags_after tree tags e m) (n + 1) rest)) (is tags goes.carry)
          ∙ ap (λ es. numbers ++ numbers_by_tags tree tags n es) (sym (event.goes_on (drop (n + 1) h)))
          ∙ ap (λ g. numbers ++ numbers_by_tags tree tags n (events p tree now g)) (sym (drop_more h n d within))
          ∙ goes.all;
    }
