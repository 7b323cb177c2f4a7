-- How numbers go along with the messages of an event.
use Rattle.std.specs.Prelude.{ℕ, ◌≡◌, cond, List, [], ◌∷◌, ◌++◌, drop, Option, filter, slice_get, option_and_then}
use Rattle.hem_base.specs.Sets.{has_bit}
use Rattle.hem_base.specs.declared.ids.Firing.{Firing}
use Rattle.hem_fire.specs.declared.outs.To.{To}
use Rattle.hem_fire.specs.declared.outs.Outs.{Outs}
use Rattle.hem_tree.specs.Tree.{Tree, children_of, place_among}
use Rattle.hem_system.specs.declared.lane.Lane.TheVariants.{UpRequests, UpResponses, Down}
use Rattle.hem_system.specs.State.{takes, reaches}
use Rattle.hem_system.specs.Events.{Event}
use Rattle.hem_trace.specs.History.{channels_taken}
use Rattle.hem_trace.specs.Tags.{Tags}
use Rattle.hem_transactions.specs.declared.line.LineNumbers.{LineNumbers}
use Rattle.hem_transactions.specs.Carried.{numbers_at}

-- the number of the first message of the first channel that an event takes from
abbrev pub number_taken : Tree → Tags → Event → Option ℕ
number_taken tree tags e = option_and_then (λ c. slice_get (tags c) 0) (slice_get (channels_taken tree e) 0)

-- the children of an object that are in a set, in order
abbrev pub awaited : Tree → ℕ → ℕ → List ℕ
awaited tree o bits = filter (λ k. has_bit bits (place_among tree o k)) (children_of tree o)

-- the lists of a line after a firing has taken heads
pub record HeadsTaken (tree : Tree) (f : Firing) (outs : Outs) (old new : LineNumbers) : Type 0 where
  pub up_requests : (k : ℕ) → numbers_at new.up_requests k ≡ drop (cond (takes tree f outs k UpRequests) 1 0) (numbers_at old.up_requests k)
  pub up_responses : (k : ℕ) → numbers_at new.up_responses k ≡ drop (cond (takes tree f outs k UpResponses) 1 0) (numbers_at old.up_responses k)
  pub down : (k : ℕ) → numbers_at new.down k ≡ drop (cond (takes tree f outs k Down) 1 0) (numbers_at old.down k)

-- the lists of a line after a firing has sent a message with a number
pub record MessageSent (tree : Tree) (f : Firing) (to : To) (number : ℕ) (old new : LineNumbers) : Type 0 where
  pub up_requests : (k : ℕ) → numbers_at new.up_requests k ≡ numbers_at old.up_requests k ++ cond (reaches tree f to k UpRequests) (number ∷ []) []
  pub up_responses : (k : ℕ) → numbers_at new.up_responses k ≡ numbers_at old.up_responses k ++ cond (reaches tree f to k UpResponses) (number ∷ []) []
  pub down : (k : ℕ) → numbers_at new.down k ≡ numbers_at old.down k ++ cond (reaches tree f to k Down) (number ∷ []) []
