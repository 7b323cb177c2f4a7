-- The lists of a line after a firing.
use Rattle.std.proofs.Common.{◌≡◌, ◌≢◌, ◌∙◌, refl, sym, ap, subst, ℕ, arith, Bool, true, false, cond, Some, None, zero-add}
use Rattle.std.specs.Prelude.{◌==◌, ◌&&◌, ◌||◌, not, Option, is_some, slice_get, slice_set}
use Rattle.std.proofs.lemmas.Nat.Bits.{bit_at-zero}
use Rattle.std.specs.Option.{option_map_or}
use Rattle.std.proofs.lemmas.List.{append-nil}
use Rattle.hem_base.specs.Sets.{has_bit}
use Rattle.hem_base.specs.declared.ids.Message.{Message}
use Rattle.hem_base.specs.declared.ids.ObjectId.{ObjectId}
use Rattle.hem_base.specs.declared.ids.Firing.{Firing}
use Rattle.hem_object.specs.Local.{Local}
use Rattle.hem_fire.specs.declared.outs.To.{To}
use Rattle.hem_fire.specs.declared.outs.To.TheVariants as send
use Rattle.hem_fire.specs.declared.outs.Outs.{Outs}
use Rattle.hem_tree.specs.Tree.{Tree, is_child, place_among, IsLawful}
use Rattle.hem_system.specs.declared.lane.Lane.{Lane}
use Rattle.hem_system.specs.declared.lane.Lane.TheVariants.{UpRequests, UpResponses, Down, Requests, Answers}
use Rattle.hem_system.specs.declared.cell.Cell.{Cell as Kept}
use Rattle.hem_system.specs.declared.lists.Stand.{Stand}
use Rattle.hem_system.specs.declared.lists.Stand.TheVariants.{Own, Child}
use Rattle.hem_system.specs.State.{Cell, Line, Effect, map_each, takes, reaches, cell_after, line_after}
use Rattle.hem_system.specs.Lists.{Stands, takes_at, reaches_at, cell_changed, changed_at, lists_after, HasRoom, sends_below, meets_below}
use Rattle.hem_system.proofs.Takers.{and_left, and_right}
use Rattle.hem_system.proofs.Kids.{not_own_child}
use Rattle.hem_system.proofs.Sets.{map_each-set}

-- a number that is not another, and one that is itself
pub not_same : (k o : ℕ) → k ≢ o → (k == o) ≡ false
not_same k o differ = grind arith

pub is_same : (o : ℕ) → (o == o) ≡ true
is_same o = grind arith

-- a test with another that fails, or that passes
and_not : (a b : Bool) → b ≡ false → false ≡ (a && b)
and_not true b fails = sym fails
and_not false b fails = refl

not_and : (a b : Bool) → a ≡ false → false ≡ (a && b)
not_and a b fails = rw fails refl

and_yes : (a b : Bool) → b ≡ true → a ≡ (a && b)
and_yes true b passes = sym passes
and_yes false b passes = refl

yes_and : (a b : Bool) → a ≡ true → b ≡ (a && b)
yes_and a b passes = rw passes refl

-- the object that fires is not its own child, and its child is another
own_is : (o k : ℕ) → k ≡ o → (k == o) ≡ true
own_is o k same = ap (λ (n : ℕ). n == o) same ∙ is_same o

pub own_not_child : (tree : Tree) (o k : ℕ) → IsLawful tree → k ≡ o → is_child tree k o ≡ false
own_not_child tree o k lawful same = ap (λ (n : ℕ). is_child tree n o) same ∙ not_own_child tree lawful o

pub child_differs : (tree : Tree) (o k : ℕ) → IsLawful tree → is_child tree k o ≡ true → k ≢ o
child_differs tree o k lawful child same = let clash : true ≡ false = sym child ∙ own_not_child tree o k lawful same in cc

pub child_not_own : (tree : Tree) (o k : ℕ) → IsLawful tree → is_child tree k o ≡ true → (k == o) ≡ false
child_not_own tree o k lawful child = not_same k o (child_differs tree o k lawful child)

-- what a firing takes, seen from where an object stands
takes_at-is : (tree : Tree) (f : Firing) (outs : Outs) (k : ℕ) (at : Stand) (lane : Lane) → IsLawful tree → Stands tree f.object.0 k at → takes_at f outs at lane ≡ takes tree f outs k lane
takes_at-is tree f outs k Own UpRequests lawful stands = and_not _ _ (own_not_child tree f.object.0 k lawful stands)
takes_at-is tree f outs k Own UpResponses lawful stands = not_and _ _ (own_not_child tree f.object.0 k lawful stands)
takes_at-is tree f outs k Own Down lawful stands = and_yes _ _ (own_is f.object.0 k stands)
takes_at-is tree f outs k Own Requests lawful stands = and_yes _ _ (own_is f.object.0 k stands)
takes_at-is tree f outs k Own Answers lawful stands = refl
takes_at-is tree f outs k (Child c n) UpRequests lawful stands = ap (λ (j : ℕ). outs.taken_request && option_map_or (λ child. child.0 == j) f.me false) stands.0 ∙ and_yes _ _ stands.1
takes_at-is tree f outs k (Child c n) UpResponses lawful stands = ap (has_bit outs.taken_kids.0) (sym stands.2) ∙ yes_and _ _ stands.1
takes_at-is tree f outs k (Child c n) Down lawful stands = and_not _ _ (child_not_own tree f.object.0 k lawful stands.1)
takes_at-is tree f outs k (Child c n) Requests lawful stands = and_not _ _ (child_not_own tree f.object.0 k lawful stands.1)
takes_at-is tree f outs k (Child c n) Answers lawful stands = refl

-- what a firing reaches, seen from where an object stands
reaches_at-is : (tree : Tree) (f : Firing) (to : To) (k : ℕ) (at : Stand) (lane : Lane) → IsLawful tree → Stands tree f.object.0 k at → reaches_at to at lane ≡ reaches tree f to k lane
reaches_at-is tree f send.Answer k Own Answers lawful stands = sym (own_is f.object.0 k stands)
reaches_at-is tree f send.UpRequest k Own UpRequests lawful stands = sym (own_is f.object.0 k stands)
reaches_at-is tree f send.UpResponse k Own UpResponses lawful stands = sym (own_is f.object.0 k stands)
reaches_at-is tree f (send.Kid c) k Own Down lawful stands = not_and _ _ (own_not_child tree f.object.0 k lawful stands)
reaches_at-is tree f (send.Kids set) k Own Down lawful stands = not_and _ _ (own_not_child tree f.object.0 k lawful stands)
reaches_at-is tree f send.Answer k (Child j n) Answers lawful stands = sym (child_not_own tree f.object.0 k lawful stands.1)
reaches_at-is tree f send.UpRequest k (Child j n) UpRequests lawful stands = sym (child_not_own tree f.object.0 k lawful stands.1)
reaches_at-is tree f send.UpResponse k (Child j n) UpResponses lawful stands = sym (child_not_own tree f.object.0 k lawful stands.1)
reaches_at-is tree f (send.Kid c) k (Child j n) Down lawful stands = ap (λ (m : ℕ). m == c) (sym stands.2) ∙ yes_and _ _ stands.1
reaches_at-is tree f (send.Kids set) k (Child j n) Down lawful stands = ap (has_bit set.0) (sym stands.2) ∙ yes_and _ _ stands.1
reaches_at-is tree f _ k _ _ lawful stands = refl

-- tests that agree on each list are the same
same_tests : {s t : Lane → Bool} → ((lane : Lane) → s lane ≡ t lane) → s ≡ t
same_tests same = λ i lane. same lane i

-- the lists of an object after a firing
pub changed_at-is : (tree : Tree) (f : Firing) (outs : Outs) (k : ℕ) (at : Stand) (cell : Cell) → IsLawful tree → Stands tree f.object.0 k at → changed_at f outs at cell ≡ lists_after tree f outs k cell
changed_at-is tree f outs k at cell lawful stands =
    λ i. cell_changed (λ lane. takes_at-is tree f outs k at lane lawful stands i) (λ lane. reaches_at-is tree f outs.to k at lane lawful stands i) outs.message cell

-- room seen from where an object stands
pub room_for : (tree : Tree) (f : Firing) (to : To) (k : ℕ) (at : Stand) (cell : Kept) → IsLawful tree → Stands tree f.object.0 k at → HasRoom (reaches_at to at) cell → HasRoom (reaches tree f to k) cell
room_for tree f to k at cell lawful stands room =
    subst (λ (s : Lane → Bool). HasRoom s cell) (same_tests (λ lane. reaches_at-is tree f to k at lane lawful stands)) room

pub room_at : (tree : Tree) (f : Firing) (to : To) (k : ℕ) (at : Stand) (cell : Kept) → IsLawful tree → Stands tree f.object.0 k at → HasRoom (reaches tree f to k) cell → HasRoom (reaches_at to at) cell
room_at tree f to k at cell lawful stands room =
    subst (λ (s : Lane → Bool). HasRoom s cell) (same_tests (λ lane. sym (reaches_at-is tree f to k at lane lawful stands))) room

-- where no list is sent to, no room is wanted
pub no_room : (s : Lane → Bool) (cell : Kept) → ((lane : Lane) → s lane ≡ false) → HasRoom s cell
no_room s cell none =
    subst (λ (t : Lane → Bool). HasRoom t cell) (same_tests (λ lane. sym (none lane))) (record { up_requests = refl; up_responses = refl; down = refl; requests = refl; answers = refl })

-- a test that can't pass
is_false : (b : Bool) → (b ≡ true → false ≡ true) → b ≡ false
is_false true never = sym (never refl)
is_false false never = refl

-- an object that neither fires nor is a child of the one that does: its lists are not taken from
not_taken : (tree : Tree) (f : Firing) (outs : Outs) (k : ℕ) (lane : Lane) → (k == f.object.0) ≡ false → is_child tree k f.object.0 ≡ false → takes tree f outs k lane ≡ false
not_taken tree f outs k UpRequests own child = is_false _ (λ passes. sym child ∙ and_right _ _ passes)
not_taken tree f outs k UpResponses own child = is_false _ (λ passes. sym child ∙ and_left _ _ passes)
not_taken tree f outs k Down own child = is_false _ (λ passes. sym own ∙ and_right _ _ passes)
not_taken tree f outs k Requests own child = is_false _ (λ passes. sym own ∙ and_right _ _ passes)
not_taken tree f outs k Answers own child = refl

-- nor sent to
pub not_reached : (tree : Tree) (f : Firing) (to : To) (k : ℕ) (lane : Lane) → (k == f.object.0) ≡ false → is_child tree k f.object.0 ≡ false → reaches tree f to k lane ≡ false
not_reached tree f send.Answer k Answers own child = own
not_reached tree f send.UpRequest k UpRequests own child = own
not_reached tree f send.UpResponse k UpResponses own child = own
not_reached tree f (send.Kid c) k Down own child = is_false _ (λ passes. sym child ∙ and_left _ _ passes)
not_reached tree f (send.Kids set) k Down own child = is_false _ (λ passes. sym child ∙ and_left _ _ passes)
not_reached tree f _ k _ own child = refl

-- where a firing does not send down, no other object's lists are sent to
pub not_reached_below : (tree : Tree) (f : Firing) (to : To) (k : ℕ) (lane : Lane) → (k == f.object.0) ≡ false → sends_below to ≡ false → reaches tree f to k lane ≡ false
not_reached_below tree f send.Answer k Answers own none = own
not_reached_below tree f send.UpRequest k UpRequests own none = own
not_reached_below tree f send.UpResponse k UpResponses own none = own
not_reached_below tree f (send.Kid c) k Down own none = cc
not_reached_below tree f (send.Kids set) k Down own none = cc
not_reached_below tree f _ k _ own none = refl

-- of three tests none passes
none_of : (a b c : Bool) → (a || b || c) ≡ false → (a ≡ false) × (b ≡ false) × (c ≡ false)
none_of true b c none = cc
none_of false true c none = cc
none_of false false c none = (refl, refl, none)

names_none : (taken : Bool) (me : Option ObjectId) (k : ℕ) → (taken && is_some me) ≡ false → (taken && option_map_or (λ child. child.0 == k) me false) ≡ false
names_none taken None k none = sym (and_not taken false refl)
names_none true (Some child) k none = cc
names_none false (Some child) k none = refl

-- nobody's bit is set where all bits are 0
no_bit : (bits i : ℕ) (b : Bool) → (bits == 0) ≡ b → not b ≡ false → has_bit bits i ≡ false
no_bit bits i true is none = let zero : bits ≡ 0 = grind arith in rw (zero, bit_at-zero i) refl
no_bit bits i false is none = cc

-- where a firing does not meet a child, no other object's lists are taken from
not_taken_below : (tree : Tree) (f : Firing) (outs : Outs) (k : ℕ) (lane : Lane) → (k == f.object.0) ≡ false → meets_below f outs ≡ false → takes tree f outs k lane ≡ false
not_taken_below tree f outs k UpRequests own none = is_false _ (λ passes. sym (names_none outs.taken_request f.me k (none_of (outs.taken_request && is_some f.me) (not (outs.taken_kids.0 == 0)) (sends_below outs.to) none).0) ∙ and_left _ _ passes)
not_taken_below tree f outs k UpResponses own none = is_false _ (λ passes. sym (no_bit outs.taken_kids.0 (place_among tree f.object.0 k) (outs.taken_kids.0 == 0) refl (none_of (outs.taken_request && is_some f.me) (not (outs.taken_kids.0 == 0)) (sends_below outs.to) none).1) ∙ and_right _ _ passes)
not_taken_below tree f outs k Down own none = is_false _ (λ passes. sym own ∙ and_right _ _ passes)
not_taken_below tree f outs k Requests own none = is_false _ (λ passes. sym own ∙ and_right _ _ passes)
not_taken_below tree f outs k Answers own none = refl

-- an object whose lists are neither taken from nor sent to stays
unchanged : (m : Message) (cell : Cell) → cell_changed (λ lane. false) (λ lane. false) m cell ≡ cell
unchanged m cell =
    λ i. record {
      local = cell.local;
      up_requests = append-nil cell.up_requests i;
      up_responses = append-nil cell.up_responses i;
      down = append-nil cell.down i;
      requests = append-nil cell.requests i;
      answers = append-nil cell.answers i;
    }

pub stays : (takes reaches : Lane → Bool) (m : Message) (cell : Cell) → ((lane : Lane) → takes lane ≡ false) → ((lane : Lane) → reaches lane ≡ false) → cell_changed takes reaches m cell ≡ cell
stays takes reaches m cell takes_none reaches_none = (λ i. cell_changed (λ lane. takes_none lane i) (λ lane. reaches_none lane i) m cell) ∙ unchanged m cell

-- so the lists of other objects than the one that fires and its children stay
pub lists_stay : (tree : Tree) (f : Firing) (outs : Outs) (k : ℕ) (cell : Cell) → (k == f.object.0) ≡ false → is_child tree k f.object.0 ≡ false → lists_after tree f outs k cell ≡ cell
lists_stay tree f outs k cell own child =
    stays (takes tree f outs k) (reaches tree f outs.to k) outs.message cell (λ lane. not_taken tree f outs k lane own child) (λ lane. not_reached tree f outs.to k lane own child)

-- and those of a child that the firing does not meet
pub lists_stay_below : (tree : Tree) (f : Firing) (outs : Outs) (k : ℕ) (cell : Cell) → (k == f.object.0) ≡ false → meets_below f outs ≡ false → lists_after tree f outs k cell ≡ cell
lists_stay_below tree f outs k cell own none =
    stays (takes tree f outs k) (reaches tree f outs.to k) outs.message cell (λ lane. not_taken_below tree f outs k lane own none) (λ lane. not_reached_below tree f outs.to k lane own (none_of (outs.taken_request && is_some f.me) (not (outs.taken_kids.0 == 0)) (sends_below outs.to) none).2)

-- the line after a firing: the object's local state is set, and then all lists change
pub line_changed : (tree : Tree) (f : Firing) (e : Effect) (line : Line) (cell : Cell) → slice_get line f.object.0 ≡ Some cell → map_each (lists_after tree f e.outs) 0 (slice_set line f.object.0 (record cell { local = e.after })) ≡ line_after tree f e line
line_changed tree f e line cell at =
    let o = f.object.0 in
    let with_local = λ (k : ℕ) (z : Cell) (local : Local). record (lists_after tree f e.outs k z) { local = local } in
    map_each-set (lists_after tree f e.outs) (cell_after tree f e) 0 o line cell (record cell { local = e.after }) at
    (rw zero-add (ap (λ (b : Bool). with_local o cell (cond b e.after cell.local)) (sym (is_same o))))
    (λ i z other. rw zero-add (ap (λ (b : Bool). with_local i z (cond b e.after z.local)) (sym (not_same i o other))))
