-- What an object has of one line, and its turns there.
use Rattle.std.specs.Prelude.{ℕ, zero, suc, ◌≡◌, ◌+◌, ◌<◌, ◌≤◌, nat_lt, Bool, true, false, not, ◌&&◌, cond, List, [], ◌∷◌, ◌++◌, length, drop, Option, Some, None, slice_get, option_and_then, is_none, IsTrue}
use Rattle.std.specs.List.{list_all}
use Rattle.hem_base.specs.declared.ids.Kind.{Kind}
use Rattle.hem_base.specs.declared.ids.LineId.{LineId}
use Rattle.hem_base.specs.declared.ids.ObjectId.{ObjectId}
use Rattle.hem_base.specs.declared.ids.Message.{Message}
use Rattle.hem_base.specs.declared.ids.Stamped.{Stamped}
use Rattle.hem_base.specs.declared.ids.Firing.{Firing}
use Rattle.hem_syntax.specs.Protocol.{Protocol}
use Rattle.hem_object.specs.Local.{Local}
use Rattle.hem_fire.specs.declared.outs.To.{To}
use Rattle.hem_fire.specs.declared.outs.To.TheVariants as to
use Rattle.hem_system.specs.Ended.{takes_nothing}
use Rattle.hem_ends.specs.Ends.{Ends, look_of, AreTaken, AreGiven, IsLooked, HasHeads, HoldsSlots}
use Rattle.hem_choice.specs.Choices.{Sight, Choice, chosen}
use Rattle.hem_fire.specs.Plans.{left_by}
use Rattle.hem_object.specs.Changes.{assign_names}

-- what an object has of one line: its local state, its processor's requests and how many of them are taken, its answers, its ends, its journal with the last stamp, how many self firings it made, and for how many firings there is room
pub record OnLine : Type 0 where
  pub local : Local
  pub requests : List Message
  pub taken : ℕ
  pub answers : List Message
  pub ends : Ends
  pub journal : List Stamped
  pub last : ℕ
  pub selfs : ℕ
  pub room : ℕ

-- the requests that are left
abbrev pub asked : OnLine → List Message
asked line = drop line.taken line.requests

-- what the object chooses by, where each object may make k self firings
abbrev pub sight_of : ℕ → OnLine → Sight
sight_of k line = record { asked = slice_get (asked line) 0; look = look_of line.ends; spent = not (nat_lt line.selfs k); last = line.last }

-- the child that a choice names
abbrev pub named_by : List ObjectId → Option ℕ → Option ObjectId
named_by children me = option_and_then (λ place. slice_get children place) me

-- the firing of a choice
abbrev pub firing_by : LineId → ObjectId → List ObjectId → Choice → Firing
firing_by line object children choice = record { line = line; object = object; rule = choice.rule.name; me = named_by children choice.me }

-- whether a firing takes a processor's request, and whether it answers one
abbrev pub takes_request : Choice → Bool
takes_request choice = choice.plan.outs.taken_request && is_none choice.me

abbrev pub is_answer : To → Bool
is_answer to.Answer = true
is_answer _ = false

-- the line after the firing that was chosen
pub record IsFired (f : Firing) (choice : Choice) (old new : OnLine) : Type 0 where
  pub between : Ends
  pub takes : AreTaken choice.plan.outs.taken_parent choice.me choice.plan.outs.taken_kids old.ends between
  pub gives : AreGiven choice.plan.outs.to (record { line = f.line; message = choice.plan.outs.message; stamp = choice.stamp }) between new.ends
  pub local : new.local ≡ left_by choice.plan choice.rule old.local
  pub requests : new.requests ≡ old.requests
  pub taken : new.taken ≡ old.taken + cond (takes_request choice) 1 0
  pub answers : new.answers ≡ old.answers ++ cond (is_answer choice.plan.outs.to) (choice.plan.outs.message ∷ []) []
  pub journal : new.journal ≡ old.journal ++ record { firing = f; stamp = choice.stamp } ∷ []
  pub last : new.last ≡ choice.stamp
  pub selfs : new.selfs ≡ old.selfs + cond (takes_nothing choice.rule.take) 1 0
  pub room : old.room ≤ new.room + 1

-- the line after a look at its ends
pub record IsSeen (old new : OnLine) : Type 0 where
  pub ends : IsLooked old.ends new.ends
  pub same : new ≡ record old { ends = new.ends }

-- a choice can be made at once: all that it takes is known, a slot is reserved wherever it sends, and there is room
pub record IsReady (k : ℕ) (choice : Choice) (line : OnLine) : Type 0 where
  pub names : IsTrue (list_all (assign_names line.local choice.plan.view) choice.rule.sets)
  pub heads : HasHeads choice.plan.outs.taken_parent choice.me choice.plan.outs.taken_kids line.ends
  pub slots : HoldsSlots choice.plan.outs.to line.ends
  pub request : takes_request choice ≡ true → line.taken < length line.requests
  pub selfs : takes_nothing choice.rule.take ≡ true → line.selfs < k
  pub room : 0 < line.room

-- one turn that fired: a look, and then the firing that was chosen by what was seen
pub record HasFired (p : Protocol) (kind : Kind) (k : ℕ) (line : LineId) (object : ObjectId) (children : List ObjectId) (old new : OnLine) : Type 0 where
  pub seen : OnLine
  pub looked : IsSeen old seen
  pub choice : Choice
  pub chosen : chosen p kind seen.local (sight_of k seen) ≡ Some choice
  pub fired : IsFired (firing_by line object children choice) choice seen new

-- one turn that fired nothing: a look, by which nothing is chosen
pub record IsIdle (p : Protocol) (kind : Kind) (k : ℕ) (old new : OnLine) : Type 0 where
  pub looked : IsSeen old new
  pub none : chosen p kind new.local (sight_of k new) ≡ None

-- so many turns that fired, one after another
abbrev pub Turns : Protocol → Kind → ℕ → LineId → ObjectId → List ObjectId → ℕ → OnLine → OnLine → Type 0
Turns p kind k line object children zero old new = new ≡ old
Turns p kind k line object children (suc n) old new = (between : OnLine) × Turns p kind k line object children n old between × HasFired p kind k line object children between new

-- n turns that fired, of at most so many, and where they are fewer one after them by which nothing is chosen
pub record HaveFired (p : Protocol) (kind : Kind) (k : ℕ) (line : LineId) (object : ObjectId) (children : List ObjectId) (n most : ℕ) (old new : OnLine) : Type 0 where
  pub last : OnLine
  pub turns : Turns p kind k line object children n old last
  pub idle : n < most → IsIdle p kind k last new
  pub all : n ≡ most → new ≡ last
