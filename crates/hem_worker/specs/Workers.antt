-- What a contract sees of a worker, and what a round does with it.
use Rattle.std.specs.Prelude.{ℕ, ◌≡◌, ◌+◌, ◌^◌, ◌<◌, ◌≤◌, List, [], ◌∷◌, ◌++◌, length, None, Some, slice_get, slice_set}
use Rattle.hem_base.specs.declared.ids.Kind.{Kind}
use Rattle.hem_base.specs.declared.ids.ObjectId.{ObjectId}
use Rattle.hem_base.specs.declared.ids.Message.{Message}
use Rattle.hem_base.specs.declared.ids.Stamped.{Stamped}
use Rattle.hem_syntax.specs.Protocol.{Protocol}
use Rattle.hem_object.specs.Start.{first_local}
use Rattle.hem_tree.specs.Tree.{Tree}
use Rattle.hem_system.specs.declared.lane.Lane.TheVariants.{Requests}
use Rattle.hem_system.specs.State.{State, Line, local_at, list_at}
use Rattle.hem_ends.specs.Ends.{Kid, Ends, IfThere, IsAsked}
use Rattle.hem_choice.specs.Choices.{chosen}
use Rattle.hem_turns.specs.OnLine.{OnLine, sight_of, HaveFired}
use Rattle.hem_worker.specs.LineParts.{Stands, HasPart, IsNew}

-- a worker: its object, the object's kind and children, how many self firings it may make on a line, and what it has of each line
pub record Worker : Type 0 where
  pub object : ObjectId
  pub kind : Kind
  pub self_count : ℕ
  pub children : List ObjectId
  pub lines : List OnLine

-- on each line there are the ends of the edge to each child
pub record IsWorker (children : List ObjectId) (lines : List OnLine) : Type 0 where
  pub few_children : length children ≤ 8
  pub few_lines : length lines < 2 ^ 32
  pub kids : (l : ℕ) (line : OnLine) → slice_get lines l ≡ Some line → length line.ends.kids ≡ length children

-- the element at a place is changed so, and no other
pub record IsChangedAt {A : Type 0} (Change : A → A → Type 0) (place : ℕ) (old new : List A) : Type 0 where
  pub item : A
  pub next : A
  pub there : slice_get old place ≡ Some item
  pub changed : Change item next
  pub after : new ≡ slice_set old place next

-- as many elements as before, and of each, by its place, this between
pub record AreChanged {A : Type 0} (Change : ℕ → A → A → Type 0) (old new : List A) : Type 0 where
  pub count : length new ≡ length old
  pub each : (i : ℕ) (a b : A) → slice_get old i ≡ Some a → slice_get new i ≡ Some b → Change i a b

-- a line is added on which nothing was done yet
pub record IsAdded (p : Protocol) (requests : List Message) (ends : Ends) (old new : Worker) : Type 0 where
  pub line : OnLine
  pub lines : new ≡ record old { lines = old.lines ++ line ∷ [] }
  pub fresh : IsNew (length old.children) line
  pub local : line.local ≡ first_local p old.kind (length old.children)
  pub requests_are : line.requests ≡ requests
  pub ends_are : line.ends ≡ ends

-- all stays but how much room there is
pub record IsSameButRoom (old new : OnLine) : Type 0 where
  pub same : new ≡ record old { room = new.room }

-- the journal was taken out of a line
pub record IsJournalTaken (journal : List Stamped) (old new : OnLine) : Type 0 where
  pub taken : old.journal ≡ journal
  pub same : new ≡ record old { journal = []; room = new.room }

-- on each line there is room for so many firings
abbrev pub HasRoom : ℕ → List OnLine → Type 0
HasRoom burst lines = (l : ℕ) (line : OnLine) → slice_get lines l ≡ Some line → burst ≤ line.room

-- how many firings are in all journals
abbrev pub journaled : List OnLine → ℕ
journaled [] = 0
journaled (line ∷ lines) = length line.journal + journaled lines

-- what a round of n firings, of at most so many, does on a line: some firings, and a look after them by which nothing is chosen, where the round has fewer than it may have
pub record IsLineFired (p : Protocol) (kind : Kind) (self_count : ℕ) (object : ObjectId) (children : List ObjectId) (n burst l : ℕ) (old new : OnLine) : Type 0 where
  pub times : ℕ
  pub most : ℕ
  pub within : times ≤ most
  pub share : times ≤ n
  pub fired : HaveFired p kind self_count (record { 0 = l }) object children times most old new
  pub all : n < burst → times < most

-- a round of n firings, of at most so many
pub record IsRound (p : Protocol) (burst n : ℕ) (old new : Worker) : Type 0 where
  pub same : new ≡ record old { lines = new.lines }
  pub lines : AreChanged (λ l. IsLineFired p old.kind old.self_count old.object old.children n burst l) old.lines new.lines
  pub grows : journaled new.lines ≡ journaled old.lines + n

-- nothing is possible on a line: nothing is chosen by what the ends know, and an end without a reserved slot knows of no free one
pub record IsLineStuck (p : Protocol) (kind : Kind) (self_count : ℕ) (line : OnLine) : Type 0 where
  pub none : chosen p kind line.local (sight_of self_count line) ≡ None
  pub up_requests : IfThere IsAsked line.ends.up_requests
  pub up_responses : IfThere IsAsked line.ends.up_responses
  pub kids : (i : ℕ) (kid : Kid) → slice_get line.ends.kids i ≡ Some kid → IsAsked kid.down

-- nor on any of a worker's lines
abbrev pub IsStuck : Protocol → Worker → Type 0
IsStuck p w = (l : ℕ) (line : OnLine) → slice_get w.lines l ≡ Some line → IsLineStuck p w.kind w.self_count line

-- what a worker did is its object's part of each line, from this state on
pub record AreParts (p : Protocol) (tree : Tree) (start : State) (w : Worker) : Type 0 where
  pub stands : Stands tree w.object w.kind w.children
  pub each : (l : ℕ) (line : Line) (now : OnLine) → slice_get start l ≡ Some line → slice_get w.lines l ≡ Some now → HasPart p tree w.self_count l w.object.0 (local_at line w.object.0) (list_at line w.object.0 Requests) now
