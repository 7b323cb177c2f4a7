-- Blocks, and serial histories.
use Rattle.std.specs.Prelude.{ℕ, ◌≡◌, ◌≢◌, ◌+◌, List, [], ◌∷◌, length, take, drop, flat_map, Some, slice_get, IsPermutation, is_none, ◌&&◌, false}
use Rattle.hem_base.specs.declared.ids.Firing.{Firing}
use Rattle.hem_syntax.specs.Protocol.{Protocol}
use Rattle.hem_tree.specs.Tree.{Tree}
use Rattle.hem_system.specs.State.{State, Runs}
use Rattle.hem_system.specs.Events.{Event}
use Rattle.hem_trace.specs.History.{events, channels_taken}
use Rattle.hem_trace.specs.Tags.{Tags, no_tags, tags_after}

-- the fact holds of each element
abbrev pub Each : {X : Type 0} → (X → Type 0) → List X → Type 0
Each P [] = Unit {0}
Each P (x ∷ xs) = P x × Each P xs

-- a block: the number of its transaction and its firings
pub record Block : Type 0 where
  pub number : ℕ
  pub firings : List Firing

-- the event takes messages, no processor's request, and only what was sent by the block that begins at place first: a message carries the place at which its sender's block begins
pub record TakesWithin (tree : Tree) (tags : Tags) (first : ℕ) (e : Event) : Type 0 where
  pub some : channels_taken tree e ≢ []
  pub no_request : (e.outs.taken_request && is_none e.firing.me) ≡ false
  pub inside : Each (λ c. slice_get (tags c) 0 ≡ Some first) (channels_taken tree e)

-- the numbers that the messages carry after events of one block
abbrev pub tags_past : Tree → Tags → ℕ → List Event → Tags
tags_past tree tags first [] = tags
tags_past tree tags first (e ∷ es) = tags_past tree (tags_after tree tags e first) first es

-- each of these events takes only what the block sent before it
abbrev pub AreClosed : Tree → Tags → ℕ → List Event → Type 0
AreClosed tree tags first [] = Unit {0}
AreClosed tree tags first (e ∷ es) = TakesWithin tree tags first e × AreClosed tree (tags_after tree tags e first) first es

-- the events are a block that begins at place first: one line, the first takes nothing or a processor's request, each later one takes only what the block sent
abbrev pub IsBlock : Tree → Tags → ℕ → List Event → Type 0
IsBlock tree tags first [] = ⊥
IsBlock tree tags first (e ∷ es) =
    (channels_taken tree e ≡ [])
    × Each (λ later. later.firing.line ≡ e.firing.line) es
    × AreClosed tree (tags_after tree tags e first) first es

-- the events, the first of which stands at place first, are those of the blocks, one block after another
abbrev pub AreBlocks : Tree → Tags → ℕ → List Event → List Block → Type 0
AreBlocks tree tags first es [] = es ≡ []
AreBlocks tree tags first es (b ∷ bs) =
    let n = length b.firings in
    IsBlock tree tags first (take n es) × AreBlocks tree (tags_past tree tags first (take n es)) (first + n) (drop n es) bs

-- the firings of all blocks
abbrev pub firings_of : List Block → List Firing
firings_of blocks = flat_map (λ b. b.firings) blocks

-- block after block, the firings run from the state at the start to the end, and each block is one
pub record IsSerial (p : Protocol) (tree : Tree) (s : State) (blocks : List Block) (end : State) : Type 0 where
  pub runs : Runs p tree s (firings_of blocks) end
  pub blocks_whole : AreBlocks tree no_tags 0 (events p tree s (firings_of blocks)) blocks

-- every firing stands in both as often
abbrev pub SameFirings : List Firing → List Firing → Type 0
SameFirings h g = IsPermutation h g
