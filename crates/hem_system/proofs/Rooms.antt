-- Room in the lists of a line, and lists changed: the object that fires, and its children one after another.
use Rattle.std.proofs.Common.{◌≡◌, ◌≢◌, ◌∙◌, refl, sym, ap, subst, ℕ, ◌+◌, ◌<◌, ◌≤◌, arith, Bool, true, false, cond, ◌||◌, List, [], ◌∷◌, zero, suc, length, Some, None, Option, Result, Ok, Err, OnOk, zero-add, ⊎_elim, inl, inr, ◌⊎◌}
use Rattle.std.specs.Prelude.{slice_get, slice_set, is_ok}
use Rattle.std.specs.Option.{option_map_or}
use Rattle.std.proofs.str.Laws.{order}
use Rattle.std.proofs.lemmas.List.{map-set}
use Rattle.std.proofs.lemmas.Option.{slice_get-map, slice_get_within, slice_get_past}
use Rattle.hem_base.specs.declared.ids.Firing.{Firing}
use Rattle.hem_base.specs.declared.outside.OutOfMemory.{OutOfMemory}
use Rattle.hem_fire.specs.declared.outs.To.{To}
use Rattle.hem_fire.specs.declared.outs.To.TheVariants as send
use Rattle.hem_fire.specs.declared.outs.Outs.{Outs}
use Rattle.hem_tree.specs.Tree.{Tree, is_child, children_of, IsLawful}
use Rattle.hem_system.specs.declared.cell.Cell.{Cell as Kept}
use Rattle.hem_system.specs.declared.lane.Lane.{Lane}
use Rattle.hem_system.specs.declared.lane.Lane.TheVariants.{UpRequests, UpResponses, Down, Requests, Answers}
use Rattle.hem_system.specs.declared.lists.Stand.{Stand}
use Rattle.hem_system.specs.declared.lists.Stand.TheVariants.{Own, Child}
use Rattle.hem_system.specs.State.{Cell, Line, map_each, reaches}
use Rattle.hem_system.specs.Cells.{seen, line_of}
use Rattle.hem_system.specs.Lists.{Stands, takes_at, reaches_at, changed_at, is_changed_at, lists_after, so_far, below_after, change_one, is_met, HasRoom, HaveRoom, HaveRoomBelow, sends_below, meets_below}
use Rattle.hem_system.specs.Steps.{IsRoomMade, IsChanged}
use Rattle.hem_system.proofs.Sets.{get_set_here, get_set_other, map-set_alike, map_each-alike, map_each-none, change_one-each, each-change_one}
use Rattle.hem_system.proofs.Kids.{at_child}
use Rattle.hem_system.proofs.Meeting.{met_none, met_other, met_not_yet, met_now, met_all}
use Rattle.hem_system.proofs.Changed.{own_not_child, child_differs, child_not_own, not_same, changed_at-is, room_for, room_at, no_room, not_reached, not_reached_below, stays, lists_stay, lists_stay_below}

same_or_not : (a b : ℕ) → (a ≡ b) ⊎ (a ≢ b)
same_or_not a b = ⊎_elim (λ less. inr (omega arith)) (λ le. ⊎_elim (λ more. inr (omega arith)) (λ same. inl (omega arith)) (order b a)) (order a b)

-- how a child stands to the object that fires
pub child_stands : (tree : Tree) (o n c : ℕ) → slice_get (children_of tree o) n ≡ Some c → Stands tree o c (Child c n)
child_stands tree o n c at = let it = at_child tree o n c at in (refl, it.0, it.1)

-- room that is made changes no list
pub room-same : {to : To} {at : Stand} {k : ℕ} {old new : List Kept} {done : Bool} → IsRoomMade to at k old new done → line_of new ≡ line_of old
room-same {k = k} {old = old} made =
    ap line_of made.after ∙ map-set_alike seen old k made.cell made.next made.there made.same

-- nor another object
pub set_elsewhere : (old new : List Kept) (k j : ℕ) (next : Kept) → new ≡ slice_set old k next → j ≢ k → slice_get new j ≡ slice_get old j
set_elsewhere old new k j next after other = ap (λ (xs : List Kept). slice_get xs j) after ∙ get_set_other old k j next other

-- what was set
pub set_here : (old new : List Kept) (k : ℕ) (next cell : Kept) → new ≡ slice_set old k next → k < length old → slice_get new k ≡ Some cell → next ≡ cell
set_here old new k next cell after within at =
    let here : slice_get new k ≡ Some next = ap (λ (xs : List Kept). slice_get xs k) after ∙ get_set_here old k next within in
    let both : Some next ≡ Some cell = sym here ∙ at in
    cc

-- room was made at an object
pub room_there : {to : To} {at : Stand} {k : ℕ} {old new : List Kept} (result : Result (Unit {0}) OutOfMemory) → IsRoomMade to at k old new (is_ok result) → OnOk result ((cell : Kept) → slice_get new k ≡ Some cell → HasRoom (reaches_at to at) cell)
room_there {to = to} {at = at} {k = k} {old = old} {new = new} (Ok u) made =
    λ cell there. subst (λ (c : Kept). HasRoom (reaches_at to at) c) (set_here old new k made.next cell made.after (slice_get_within old k made.cell made.there) there) (made.room refl)
room_there (Err e) made = tt

-- at first no child is met
pub room_first : (tree : Tree) (f : Firing) (to : To) (cells : List Kept) (k : ℕ) (cell : Kept) → is_met tree f.object.0 0 k ≡ true → slice_get cells k ≡ Some cell → HasRoom (reaches tree f to k) cell
room_first tree f to cells k cell met there = let clash : true ≡ false = sym met ∙ met_none tree f.object.0 k in cc

-- one child more has room
pub room_next : (tree : Tree) (f : Firing) (to : To) (n c : ℕ) (old new : List Kept) → IsLawful tree → slice_get (children_of tree f.object.0) n ≡ Some c
    → ((j : ℕ) → j ≢ c → slice_get new j ≡ slice_get old j)
    → ((cell : Kept) → slice_get new c ≡ Some cell → HasRoom (reaches_at to (Child c n)) cell)
    → ((k : ℕ) (cell : Kept) → is_met tree f.object.0 n k ≡ true → slice_get old k ≡ Some cell → HasRoom (reaches tree f to k) cell)
    → (k : ℕ) (cell : Kept) → is_met tree f.object.0 (n + 1) k ≡ true → slice_get new k ≡ Some cell → HasRoom (reaches tree f to k) cell
room_next tree f to n c old new lawful at others now before k cell met there =
    ⊎_elim
    (λ same.
    let here : slice_get new c ≡ Some cell = ap (slice_get new) (sym same) ∙ there in
    subst (λ (j : ℕ). HasRoom (reaches tree f to j) cell) (sym same) (room_for tree f to c (Child c n) cell lawful (child_stands tree f.object.0 n c at) (now cell here)))
    (λ differ. before k cell (sym (met_other tree f.object.0 n c k at differ) ∙ met) (sym (others k differ) ∙ there))
    (same_or_not k c)

-- with the last child all children have room
pub room_below : (tree : Tree) (f : Firing) (to : To) (n : ℕ) (cells : List Kept) → n ≡ length (children_of tree f.object.0)
    → ((k : ℕ) (cell : Kept) → is_met tree f.object.0 n k ≡ true → slice_get cells k ≡ Some cell → HasRoom (reaches tree f to k) cell)
    → HaveRoomBelow tree f to cells
room_below tree f to n cells all met k cell child there =
    met k cell (ap (λ (m : ℕ). is_met tree f.object.0 m k) all ∙ met_all tree f.object.0 k ∙ child) there

-- where nothing is sent down, no child needs room
pub room_unsent : (tree : Tree) (f : Firing) (to : To) (cells : List Kept) → IsLawful tree → sends_below to ≡ false → HaveRoomBelow tree f to cells
room_unsent tree f to cells lawful none k cell child there =
    no_room (reaches tree f to k) cell (λ lane. not_reached_below tree f to k lane (child_not_own tree f.object.0 k lawful child) none)

-- with the object itself all have room
pub room_all : (tree : Tree) (f : Firing) (to : To) (old new : List Kept) → IsLawful tree → HaveRoomBelow tree f to old
    → ((j : ℕ) → j ≢ f.object.0 → slice_get new j ≡ slice_get old j)
    → ((cell : Kept) → slice_get new f.object.0 ≡ Some cell → HasRoom (reaches_at to Own) cell)
    → HaveRoom tree f to new
room_all tree f to old new lawful below others own k cell there =
    ⊎_elim
    (λ same. room_for tree f to k Own cell lawful same (own cell (ap (slice_get new) (sym same) ∙ there)))
    (λ differ. by_child (is_child tree k f.object.0) refl differ)
    (same_or_not k f.object.0)
  where
    by_child : (b : Bool) → is_child tree k f.object.0 ≡ b → k ≢ f.object.0 → HasRoom (reaches tree f to k) cell
    by_child true child differ = below k cell child (sym (others k differ) ∙ there)
    by_child false child differ = no_room (reaches tree f to k) cell (λ lane. not_reached tree f to k lane (not_same k f.object.0 differ) child)

pub on_ok : {E : Type 0} (r : Result (Unit {0}) E) {P Q : Type 0} → (P → Q) → OnOk r P → OnOk r Q
on_ok (Ok u) f h = f h
on_ok (Err e) f h = h

-- a change of one object, where it is there
pub change-there : {f : Firing} {outs : Outs} {at : Stand} {k : ℕ} {old new : List Kept} → IsChanged f outs at k old new → line_of new ≡ change_one k (changed_at f outs at) (line_of old)
change-there {f = f} {outs = outs} {at = at} {k = k} {old = old} made =
    let there : slice_get (line_of old) k ≡ Some (seen made.cell) = rw (slice_get-map seen old k, made.there) refl in
    ap line_of made.after ∙ map-set seen old k made.next ∙ ap (slice_set (line_of old) k) made.changed
    ∙ sym (ap (λ (o : Option Cell). option_map_or (λ x. slice_set (line_of old) k (changed_at f outs at x)) o (line_of old)) there)

-- and where it is not
pub change-absent : (f : Firing) (outs : Outs) (at : Stand) (k : ℕ) (cells : List Kept) → length cells ≤ k → line_of cells ≡ change_one k (changed_at f outs at) (line_of cells)
change-absent f outs at k cells past =
    let none : slice_get (line_of cells) k ≡ None = rw (slice_get-map seen cells k, slice_get_past cells k past) refl in
    sym (ap (λ (o : Option Cell). option_map_or (λ x. slice_set (line_of cells) k (changed_at f outs at x)) o (line_of cells)) none)

-- nor where the firing takes nothing from it and sends nothing to it
none_of_three : (a b c : Bool) → (a || b || c) ≡ false → (a ≡ false) × (b ≡ false) × (c ≡ false)
none_of_three true b c h = cc
none_of_three false true c h = cc
none_of_three false false true h = cc
none_of_three false false false h = (refl, refl, refl)

other_lanes : (to : To) (object place : ℕ) → (reaches_at to (Child object place) UpRequests ≡ false) × (reaches_at to (Child object place) UpResponses ≡ false) × (reaches_at to (Child object place) Requests ≡ false) × (reaches_at to (Child object place) Answers ≡ false)
other_lanes send.Answer object place = (refl, refl, refl, refl)
other_lanes send.UpRequest object place = (refl, refl, refl, refl)
other_lanes send.UpResponse object place = (refl, refl, refl, refl)
other_lanes (send.Kid c) object place = (refl, refl, refl, refl)
other_lanes (send.Kids set) object place = (refl, refl, refl, refl)
other_lanes send.Nobody object place = (refl, refl, refl, refl)

none_taken : (f : Firing) (outs : Outs) (object place : ℕ) → is_changed_at f outs (Child object place) ≡ false → (lane : Lane) → takes_at f outs (Child object place) lane ≡ false
none_taken f outs object place none UpRequests = (none_of_three _ _ (reaches_at outs.to (Child object place) Down) none).0
none_taken f outs object place none UpResponses = (none_of_three (takes_at f outs (Child object place) UpRequests) _ (reaches_at outs.to (Child object place) Down) none).1
none_taken f outs object place none Down = refl
none_taken f outs object place none Requests = refl
none_taken f outs object place none Answers = refl

none_reached : (f : Firing) (outs : Outs) (object place : ℕ) → is_changed_at f outs (Child object place) ≡ false → (lane : Lane) → reaches_at outs.to (Child object place) lane ≡ false
none_reached f outs object place none UpRequests = (other_lanes outs.to object place).0
none_reached f outs object place none UpResponses = (other_lanes outs.to object place).1
none_reached f outs object place none Down = (none_of_three (takes_at f outs (Child object place) UpRequests) (takes_at f outs (Child object place) UpResponses) _ none).2
none_reached f outs object place none Requests = (other_lanes outs.to object place).2
none_reached f outs object place none Answers = (other_lanes outs.to object place).3

untouched : (f : Firing) (outs : Outs) (at : Stand) (cell : Cell) → is_changed_at f outs at ≡ false → changed_at f outs at cell ≡ cell
untouched f outs Own cell none = cc
untouched f outs (Child object place) cell none =
    stays (takes_at f outs (Child object place)) (reaches_at outs.to (Child object place)) outs.message cell (none_taken f outs object place none) (none_reached f outs object place none)

set_same : {A : Type 0} (xs : List A) (k : ℕ) (x y : A) → slice_get xs k ≡ Some x → y ≡ x → slice_set xs k y ≡ xs
set_same [] k x y at same = refl
set_same (z ∷ xs) zero x y at same =
    let here : z ≡ x = cc in
    ap (λ w. w ∷ xs) (same ∙ sym here)
set_same (z ∷ xs) (suc k) x y at same = ap (λ l. z ∷ l) (set_same xs k x y at same)

change_none : {A : Type 0} (k : ℕ) (g : A → A) (xs : List A) → ((x : A) → g x ≡ x) → change_one k g xs ≡ xs
change_none {A} k g xs same = by (slice_get xs k) refl
  where
    by : (o : Option A) → slice_get xs k ≡ o → option_map_or (λ x. slice_set xs k (g x)) o xs ≡ xs
    by None is = refl
    by (Some x) is = set_same xs k x (g x) is (same x)

pub change-untouched : (f : Firing) (outs : Outs) (at : Stand) (k : ℕ) (cells : List Kept) → is_changed_at f outs at ≡ false → line_of cells ≡ change_one k (changed_at f outs at) (line_of cells)
change-untouched f outs at k cells none = sym (change_none k (changed_at f outs at) (line_of cells) (λ cell. untouched f outs at cell none))

-- an object after the firing, if a test passes
if_passes : (tree : Tree) (f : Firing) (outs : Outs) (k : ℕ) (cell : Cell) (b c : Bool) → b ≡ c → cond b (lists_after tree f outs k cell) cell ≡ cond c (lists_after tree f outs k cell) cell
if_passes tree f outs k cell b c same = ap (λ (x : Bool). cond x (lists_after tree f outs k cell) cell) same

-- at first no child is changed
pub changed_first : (tree : Tree) (f : Firing) (outs : Outs) (line : Line) → line ≡ map_each (so_far tree f outs 0) 0 line
changed_first tree f outs line =
    sym (map_each-none 0 line)
    ∙ map_each-alike (λ k cell. cell) (so_far tree f outs 0) 0 line (λ k cell. rw zero-add (sym (if_passes tree f outs k cell (is_met tree f.object.0 0 k) false (met_none tree f.object.0 k))))

-- then the children, one after another
pub changed_next : (tree : Tree) (f : Firing) (outs : Outs) (n c : ℕ) (line : Line) → IsLawful tree → slice_get (children_of tree f.object.0) n ≡ Some c → change_one c (changed_at f outs (Child c n)) (map_each (so_far tree f outs n) 0 line) ≡ map_each (so_far tree f outs (n + 1)) 0 line
changed_next tree f outs n c line lawful at =
    let o = f.object.0 in
    change_one-each (so_far tree f outs n) (so_far tree f outs (n + 1)) (changed_at f outs (Child c n)) 0 c line
    (λ cell. rw zero-add
    (ap (changed_at f outs (Child c n)) (if_passes tree f outs c cell (is_met tree o n c) false (met_not_yet tree o n c at))
    ∙ changed_at-is tree f outs c (Child c n) cell lawful (child_stands tree o n c at)
    ∙ sym (if_passes tree f outs c cell (is_met tree o (n + 1) c) true (met_now tree o n c at))))
    (λ k cell differ. rw zero-add (sym (if_passes tree f outs k cell (is_met tree o (n + 1) k) (is_met tree o n k) (met_other tree o n c k at differ))))

-- and with the last child all of them are
pub changed_below : (tree : Tree) (f : Firing) (outs : Outs) (n : ℕ) (line : Line) → n ≡ length (children_of tree f.object.0) → map_each (so_far tree f outs n) 0 line ≡ map_each (below_after tree f outs) 0 line
changed_below tree f outs n line all =
    ap (λ (m : ℕ). map_each (so_far tree f outs m) 0 line) all
    ∙ map_each-alike (so_far tree f outs (length (children_of tree f.object.0))) (below_after tree f outs) 0 line
    (λ k cell. rw zero-add (if_passes tree f outs k cell _ _ (met_all tree f.object.0 k)))

-- where the firing meets no child, no child changes
pub unchanged_below : (tree : Tree) (f : Firing) (outs : Outs) (line : Line) → IsLawful tree → meets_below f outs ≡ false → line ≡ map_each (below_after tree f outs) 0 line
unchanged_below tree f outs line lawful none =
    sym (map_each-none 0 line)
    ∙ map_each-alike (λ k cell. cell) (below_after tree f outs) 0 line (λ k cell. rw zero-add (by_child k cell (is_child tree k f.object.0) refl))
  where
    by_child : (k : ℕ) (cell : Cell) (b : Bool) → is_child tree k f.object.0 ≡ b → cell ≡ cond b (lists_after tree f outs k cell) cell
    by_child k cell true child = sym (lists_stay_below tree f outs k cell (child_not_own tree f.object.0 k lawful child) none)
    by_child k cell false child = refl

-- after the object itself all children have the room that they had
pub room_left : (tree : Tree) (f : Firing) (to : To) (old new : List Kept) → IsLawful tree → ((j : ℕ) → j ≢ f.object.0 → slice_get new j ≡ slice_get old j) → HaveRoom tree f to old → HaveRoomBelow tree f to new
room_left tree f to old new lawful others room k cell child there =
    room k cell (sym (others k (child_differs tree f.object.0 k lawful child)) ∙ there)

-- those that are not met yet have the room that they had
pub room_rest : (tree : Tree) (f : Firing) (to : To) (n c : ℕ) (old new : List Kept) → slice_get (children_of tree f.object.0) n ≡ Some c
    → ((j : ℕ) → j ≢ c → slice_get new j ≡ slice_get old j)
    → ((k : ℕ) (cell : Kept) → is_child tree k f.object.0 ≡ true → is_met tree f.object.0 n k ≡ false → slice_get old k ≡ Some cell → HasRoom (reaches tree f to k) cell)
    → (k : ℕ) (cell : Kept) → is_child tree k f.object.0 ≡ true → is_met tree f.object.0 (n + 1) k ≡ false → slice_get new k ≡ Some cell → HasRoom (reaches tree f to k) cell
room_rest tree f to n c old new at others before k cell child never there =
    ⊎_elim
    (λ same. let now : is_met tree f.object.0 (n + 1) k ≡ true = ap (is_met tree f.object.0 (n + 1)) same ∙ met_now tree f.object.0 n c at in let clash : true ≡ false = sym now ∙ never in cc)
    (λ differ. before k cell child (sym (met_other tree f.object.0 n c k at differ) ∙ never) (sym (others k differ) ∙ there))
    (same_or_not k c)

-- the room of a child that comes now
pub room_now : (tree : Tree) (f : Firing) (to : To) (n c : ℕ) (cells : List Kept) → IsLawful tree → slice_get (children_of tree f.object.0) n ≡ Some c
    → ((k : ℕ) (cell : Kept) → is_child tree k f.object.0 ≡ true → is_met tree f.object.0 n k ≡ false → slice_get cells k ≡ Some cell → HasRoom (reaches tree f to k) cell)
    → (cell : Kept) → slice_get cells c ≡ Some cell → HasRoom (reaches_at to (Child c n)) cell
room_now tree f to n c cells lawful at room cell there =
    let stands = child_stands tree f.object.0 n c at in
    room_at tree f to c (Child c n) cell lawful stands (room c cell stands.1 (met_not_yet tree f.object.0 n c at) there)

-- the object itself is changed, and then its children: so all are changed that change
pub changed_all : (tree : Tree) (f : Firing) (outs : Outs) (line : Line) → IsLawful tree → map_each (below_after tree f outs) 0 (change_one f.object.0 (changed_at f outs Own) line) ≡ map_each (lists_after tree f outs) 0 line
changed_all tree f outs line lawful =
    let o = f.object.0 in
    each-change_one (below_after tree f outs) (lists_after tree f outs) (changed_at f outs Own) 0 o line
    (λ cell. rw zero-add
    (if_passes tree f outs o (changed_at f outs Own cell) (is_child tree o o) false (own_not_child tree o o lawful refl)
    ∙ changed_at-is tree f outs o Own cell lawful refl))
    (λ k cell differ. rw zero-add (by_child k cell differ (is_child tree k o) refl))
  where
    by_child : (k : ℕ) (cell : Cell) → k ≢ f.object.0 → (b : Bool) → is_child tree k f.object.0 ≡ b → cond b (lists_after tree f outs k cell) cell ≡ lists_after tree f outs k cell
    by_child k cell differ true child = refl
    by_child k cell differ false child = sym (lists_stay tree f outs k cell (not_same k f.object.0 differ) child)
