-- The set of the positions at which a firing may be ready.
use Rattle.std.proofs.Common.{◌≡◌, refl, sym, ap, ◌∙◌, ℕ, ◌*◌, ◌<◌, ◌≤◌, arith, Bool, true, false, ◌&&◌, not, List, [], ◌∷◌, ◌++◌, length, map, zero, suc, Some, None, ⊎_elim, length-set}
use Rattle.std.specs.Prelude.{◌==◌, ◌/◌, ◌%◌, slice_get, get_or}
use Rattle.std.proofs.str.Laws.{order}
use Rattle.std.proofs.lemmas.Bool.Decides.{eqb_tells}
use Rattle.hem_base.specs.declared.ids.ObjectId.{ObjectId}
use Rattle.hem_base.specs.declared.ids.Firing.{Firing}
use Rattle.hem_syntax.specs.Protocol.{Protocol}
use Rattle.hem_fire.specs.declared.outs.To.{To}
use Rattle.hem_fire.specs.declared.outs.To.TheVariants as to
use Rattle.hem_rows.proofs.Choices.{both, if_some}
use Rattle.hem_system.proofs.Own.{came}
use Rattle.hem_system.proofs.Takers.{parent_is}
use Rattle.hem_tree.proofs.Early.{lawful_early}
use Rattle.std.proofs.lemmas.Option.{slice_get_within}
use Rattle.hem_tree.specs.Tree.{Tree, Node, is_child, parent_of, place_among, IsLawful}
use Rattle.hem_system.specs.declared.lane.Lane.TheVariants.{Down}
use Rattle.hem_system.specs.State.{State, Fires, line_after, reaches}
use Rattle.hem_walk.specs.Walk.{position, ready_at, IsThere}
use Rattle.hem_walk.specs.Marks.{is_in}
use Rattle.hem_walk.specs.Near.{reaches_place, is_near, IsMarkedNear, IsMarked}
use Rattle.hem_walk.specs.Working.{NoneReady, sends_to}
use Rattle.hem_walk.proofs.Apart.{ready_same}
use Rattle.hem_walk.proofs.Positions.{same_place}

-- where no position from one on is in the set, none is ready there
pub none_through : (p : Protocol) (tree : Tree) (k : ℕ) (h : List Firing) (s : State) (marks : List ℕ) (from at end : ℕ) → IsMarked p tree k h s marks → ((n : ℕ) → at ≤ n → n < end → is_in marks n ≡ false) → NoneReady p tree k h s from at → NoneReady p tree k h s from end
none_through p tree k h s marks from at end it out before =
    record {
      none = λ l o there past less.
          ⊎_elim
          (λ early. before.none l o there past early)
          (λ late. it.others l o there (out (position tree l o) late less))
          (order (position tree l o) at);
    }

-- a position without a ready firing is taken out
pub marked_less : (p : Protocol) (tree : Tree) (k : ℕ) (h : List Firing) (s : State) (marks next : List ℕ) (at l o : ℕ) → IsMarked p tree k h s marks → ((n : ℕ) → is_in next n ≡ (not (n == at) && is_in marks n)) → length next ≡ length marks → l ≡ at / length tree → o ≡ at % length tree → ready_at p tree k h s l o ≡ None → IsMarked p tree k h s next
marked_less p tree k h s marks next at l o it members size line object none =
    record {
      size = (let old = it.size in omega (arith, old, size));
      others = λ m q there out.
          ⊎_elim
          (λ same.
          let place = same_place tree m q there.object in
          let same_line : m ≡ l = sym place.0 ∙ ap (λ n. n / length tree) same.1 ∙ sym line in
          let same_object : q ≡ o = sym place.1 ∙ ap (λ n. n % length tree) same.1 ∙ sym object in
          (λ i. ready_at p tree k h s (same_line i) (same_object i)) ∙ none)
          (λ other. it.others m q there (sym (ap (λ b. not b && is_in marks (position tree m q)) other.0) ∙ sym (members (position tree m q)) ∙ out))
          (eqb_tells (position tree m q) at);
    }

-- after a firing the set has each position with a ready firing once those that it can change are put in
pub marked_next : (p : Protocol) (tree : Tree) (k : ℕ) (h : List Firing) (old new : State) (f : Firing) (t : To) (marks next : List ℕ) → IsMarked p tree k h old marks → Fires p tree old f new → sends_to p tree old f ≡ Some t → IsMarkedNear tree new f t marks next → IsMarked p tree k (h ++ f ∷ []) new next
marked_next p tree k h old new f t marks next it fires sent near =
    let step = came fires in
    let lines : length new ≡ length old = ap length step.after ∙ length-set old f.line.0 (line_after tree f step.effect step.line) in
    record {
      size = (let was = it.size in let size = near.size in let same = ap (λ n. n * length tree / 64) lines in omega (arith, was, size, same));
      others = λ l o there out.
          let there_before : IsThere tree old l o = record { line = (let inside = there.line in omega (arith, inside, lines)); object = there.object } in
          let far = not_near (is_near tree f t l o) (is_in next (position tree l o)) (near.near l o there) out in
          let before = not_in (is_in marks (position tree l o)) (is_in next (position tree l o)) (near.kept (position tree l o)) out in
          ready_same p tree k h old new f t l o fires sent far ∙ it.others l o there_before before;
    }
  where
    not_near : (a b : Bool) → (a ≡ true → b ≡ true) → b ≡ false → a ≡ false
    not_near true b inside out = let clash = sym (inside refl) ∙ out in cc
    not_near false b inside out = refl

    not_in : (a b : Bool) → (a ≡ true → b ≡ true) → b ≡ false → a ≡ false
    not_in true b inside out = let clash = sym (inside refl) ∙ out in cc
    not_in false b inside out = refl

-- the parent of an object is in the tree
pub parent_there : (tree : Tree) (s : State) (l o high : ℕ) → IsLawful tree → IsThere tree s l o → parent_of tree o ≡ Some high → IsThere tree s l high
parent_there tree s l o high lawful there is =
    let early = (lawful_early tree lawful.shape).early o high is in
    record { line = there.line; object = (let inside = there.object in omega (arith, early, inside)) }

-- and so is each of its children
pub child_there : (tree : Tree) (s : State) (l o low : ℕ) → IsThere tree s l o → is_child tree low o ≡ true → IsThere tree s l low
child_there tree s l o low there is =
    let node = if_some (λ (node : Node). node.parent) (slice_get tree low) o (parent_is tree low o is) in
    record { line = there.line; object = slice_get_within tree low node.0 node.1 }

-- an object to which a firing sends down is a child at a place that the message reaches
pub sent_down : (tree : Tree) (f : Firing) (t : To) (low : ℕ) → reaches tree f t low Down ≡ true → (is_child tree low f.object.0 ≡ true) × (reaches_place t (place_among tree f.object.0 low) ≡ true)
sent_down tree f (to.Kid c) low is = both (is_child tree low f.object.0) _ is
sent_down tree f (to.Kids set) low is = both (is_child tree low f.object.0) _ is
sent_down tree f to.Nobody low is = cc
sent_down tree f to.Answer low is = cc
sent_down tree f to.UpRequest low is = cc
sent_down tree f to.UpResponse low is = cc

-- the number of a child in a list
pub kid_at : (kids : List ObjectId) (i : ℕ) (d : ObjectId) → i < length kids → slice_get (map (λ id. id.0) kids) i ≡ Some (get_or kids i d).0
kid_at [] i d less = absurd (omega arith)
kid_at (kid ∷ kids) zero d less = refl
kid_at (kid ∷ kids) (suc i) d less = kid_at kids i d (omega arith)
