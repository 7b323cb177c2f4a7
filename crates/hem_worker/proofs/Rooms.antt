-- Room on one line after another.
use Rattle.std.proofs.Common.{◌≡◌, refl, ap, sym, ◌∙◌, ℕ, ◌+◌, ◌<◌, ◌≤◌, arith, List, length, Some, ◌⊎◌, inl, inr}
use Rattle.std.specs.Prelude.{slice_get}
use Rattle.std.proofs.lemmas.Option.{slice_get_within}
use Rattle.hem_system.proofs.Sets.{get_set_other}
use Rattle.hem_turns.specs.OnLine.{OnLine}
use Rattle.hem_worker.specs.Workers.{IsChangedAt, AreChanged, IsSameButRoom, HasRoom}
use Rattle.hem_worker.proofs.SoFar.{IsSoFar, none-yet, one-more, done-early}

-- the lines before this place have room, and all is as it was but the room
pub record IsRoomSoFar (burst place : ℕ) (old now : List OnLine) : Type 0 where
  pub so : IsSoFar (λ l. IsSameButRoom) place old now
  pub room : (l : ℕ) (line : OnLine) → l < place → slice_get now l ≡ Some line → burst ≤ line.room

pub no-room-yet : (burst : ℕ) (old : List OnLine) → IsRoomSoFar burst 0 old old
no-room-yet burst old = record { so = none-yet _ old; room = λ l line less. absurd (omega (arith, less)) }

split : (i place : ℕ) → i < place + 1 → (i < place) ⊎ (i ≡ place)
split i place less = grind arith

pub room-more : (burst place : ℕ) (old now next : List OnLine) → IsRoomSoFar burst place old now → IsChangedAt IsSameButRoom place now next → ((line : OnLine) → slice_get next place ≡ Some line → burst ≤ line.room) → IsRoomSoFar burst (place + 1) old next
room-more burst place old now next so change here = record { so = one-more _ place old now next so.so change; room = λ l line less at. by_order l line at (split l place less) }
  where
    by_order : (l : ℕ) (line : OnLine) → slice_get next l ≡ Some line → (l < place) ⊎ (l ≡ place) → burst ≤ line.room
    by_order l line at (inl less) = so.room l line less (sym (get_set_other now place l change.next (λ same. absurd (omega (arith, less, same)))) ∙ sym (ap (λ (xs : List OnLine). slice_get xs l) change.after) ∙ at)
    by_order l line at (inr same) = here line (sym (ap (slice_get next) same) ∙ at)

same-room : (l : ℕ) (line : OnLine) → IsSameButRoom line line
same-room l line = record { same = refl }

pub room-same : (burst place : ℕ) (old now : List OnLine) → IsRoomSoFar burst place old now → AreChanged (λ l. IsSameButRoom) old now
room-same burst place old now so = done-early _ place old now same-room so.so

-- where memory is wanted in between
pub room-stopped : (burst place : ℕ) (old now next : List OnLine) → IsRoomSoFar burst place old now → IsChangedAt IsSameButRoom place now next → AreChanged (λ l. IsSameButRoom) old next
room-stopped burst place old now next so change = done-early _ (place + 1) old next same-room (one-more _ place old now next so.so change)

pub room-all : (burst place : ℕ) (old now : List OnLine) → length old ≤ place → IsRoomSoFar burst place old now → HasRoom burst now
room-all burst place old now most so = λ l line at. so.room l line (let less = slice_get_within now l line at in let count = so.so.count in omega (arith, less, count, most)) at
