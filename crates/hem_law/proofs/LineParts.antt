-- A line by its objects' local states and its lists.
use Rattle.std.proofs.Common.{◌≡◌, ◌≢◌, refl, ap, ◌∙◌, ℕ, zero, suc, ◌+◌, ◌≤◌, Bool, true, false, cond, List, [], ◌∷◌, drop, length, arith, Option, Some, None}
use Rattle.std.specs.Prelude.{◌==◌, slice_get, option_map}
use Rattle.std.specs.Option.{option_map_or}
use Rattle.std.proofs.lemmas.Option.{slice_get_past}
use Rattle.hem_base.specs.declared.ids.Message.{Message}
use Rattle.hem_base.specs.declared.ids.Firing.{Firing}
use Rattle.hem_system.specs.declared.lane.Lane.{Lane}
use Rattle.hem_system.specs.declared.lane.Lane.TheVariants.{UpRequests, UpResponses, Down, Requests, Answers}
use Rattle.hem_tree.specs.Tree.{Tree, is_child}
use Rattle.hem_object.specs.Local.{Local}
use Rattle.hem_system.specs.State.{Cell, Line, Effect, map_each, list_of, list_at, list_after, cell_after, line_after, local_at, takes, reaches}
use Rattle.hem_rows.proofs.Choices.{not_same}
use Rattle.hem_system.proofs.Changed.{not_reached}
use Rattle.hem_system.proofs.Own.{slice_get-map_each}

pub length-map_each : {A B : Type 0} (f : ℕ → A → B) (i : ℕ) (xs : List A) → length (map_each f i xs) ≡ length xs
length-map_each f i [] = refl
length-map_each f i (x ∷ xs) = ap suc (length-map_each f (i + 1) xs)

-- a list of a changed cell
list_of-after : (tree : Tree) (f : Firing) (e : Effect) (k : ℕ) (lane : Lane) (cell : Cell) → list_of (cell_after tree f e k cell) lane ≡ list_after tree f e.outs k lane (list_of cell lane)
list_of-after tree f e k UpRequests cell = refl
list_of-after tree f e k UpResponses cell = refl
list_of-after tree f e k Down cell = refl
list_of-after tree f e k Requests cell = refl
list_of-after tree f e k Answers cell = refl

-- nothing is there past the end
none_past : {A : Type 0} (xs : List A) (k : ℕ) → slice_get xs k ≡ None → length xs ≤ k
none_past [] k none = omega arith
none_past (x ∷ xs) zero none = cc
none_past (x ∷ xs) (suc k) none = omega (arith, none_past xs k none)

-- an object that is not on the line is no child
pub no_child_outside : (tree : Tree) (line : Line) (k o : ℕ) → length line ≡ length tree → slice_get line k ≡ None → is_child tree k o ≡ false
no_child_outside tree line k o size none =
    let past : length tree ≤ k = omega (arith, none_past line k none) in
    let gone = slice_get_past tree k past in
    rw gone refl

-- dropping from nothing
drop_nothing : (b : Bool) → drop (cond b 1 0) (let none : List Message = [] in none) ≡ []
drop_nothing true = refl
drop_nothing false = refl

-- a list of a line after a firing of an object on it
list-in : (tree : Tree) (f : Firing) (e : Effect) (k : ℕ) (lane : Lane) (cell : Option Cell) → (cell ≡ None → reaches tree f e.outs.to k lane ≡ false) → option_map_or (λ cell. list_of cell lane) (option_map (cell_after tree f e k) cell) [] ≡ list_after tree f e.outs k lane (option_map_or (λ cell. list_of cell lane) cell [])
list-in tree f e k lane (Some cell) none = list_of-after tree f e k lane cell
list-in tree f e k lane None none = rw (drop_nothing (takes tree f e.outs k lane), none refl) refl

pub list_at-after : (tree : Tree) (line : Line) (f : Firing) (e : Effect) (now : Local) (k : ℕ) (lane : Lane) → length line ≡ length tree → local_at line f.object.0 ≡ Some now → list_at (line_after tree f e line) k lane ≡ list_after tree f e.outs k lane (list_at line k lane)
list_at-after tree line f e now k lane size here =
    ap (λ c. option_map_or (λ cell. list_of cell lane) c []) (slice_get-map_each (cell_after tree f e) 0 line k ∙ ap (λ i. option_map (cell_after tree f e i) (slice_get line k)) (let z : 0 + k ≡ k = omega arith in z))
    ∙ list-in tree f e k lane (slice_get line k) (λ none. not_reached tree f e.outs.to k lane (not_same k f.object.0 (λ same. let there : option_map (λ cell. cell.local) (slice_get line k) ≡ Some now = ap (local_at line) same ∙ here in outside none there)) (no_child_outside tree line k f.object.0 size none))
  where
    outside : slice_get line k ≡ None → option_map (λ cell. cell.local) (slice_get line k) ≡ Some now → ⊥
    outside none there = let gone : option_map {T = Cell} (λ cell. cell.local) None ≡ Some now = rw none at there in cc

-- the local state of a cell after a firing
pub local_at-after : (tree : Tree) (line : Line) (f : Firing) (e : Effect) (k : ℕ) → local_at (line_after tree f e line) k ≡ option_map (λ l. cond (k == f.object.0) e.after l) (local_at line k)
local_at-after tree line f e k =
    ap (option_map (λ cell. cell.local)) (slice_get-map_each (cell_after tree f e) 0 line k ∙ ap (λ i. option_map (cell_after tree f e i) (slice_get line k)) (let z : 0 + k ≡ k = omega arith in z)) ∙ twice (slice_get line k)
  where
    twice : (cell : Option Cell) → option_map (λ cell. cell.local) (option_map (cell_after tree f e k) cell) ≡ option_map (λ l. cond (k == f.object.0) e.after l) (option_map (λ cell. cell.local) cell)
    twice None = refl
    twice (Some cell) = refl

-- cells by their fields
cell_same : (a b : Cell) → a.local ≡ b.local → ((lane : Lane) → list_of a lane ≡ list_of b lane) → a ≡ b
cell_same a b local lists =
    let u : a.up_requests ≡ b.up_requests = lists UpRequests in
    let r : a.up_responses ≡ b.up_responses = lists UpResponses in
    let d : a.down ≡ b.down = lists Down in
    let q : a.requests ≡ b.requests = lists Requests in
    let s : a.answers ≡ b.answers = lists Answers in
    by_fields local u r d q s
  where
    by_fields : a.local ≡ b.local → a.up_requests ≡ b.up_requests → a.up_responses ≡ b.up_responses → a.down ≡ b.down → a.requests ≡ b.requests → a.answers ≡ b.answers → a ≡ (let c : Cell = record { local = b.local; up_requests = b.up_requests; up_responses = b.up_responses; down = b.down; requests = b.requests; answers = b.answers } in c)
    by_fields l u r d q s = rw (← l, ← u, ← r, ← d, ← q, ← s) refl

-- lines of the same local states and lists are the same
pub line_same : (a b : Line) → ((o : ℕ) → local_at a o ≡ local_at b o) → ((k : ℕ) (lane : Lane) → list_at a k lane ≡ list_at b k lane) → a ≡ b
line_same [] [] locals lists = refl
line_same [] (y ∷ b) locals lists = let first : option_map {T = Cell} (λ cell. cell.local) None ≡ Some y.local = locals 0 in cc
line_same (x ∷ a) [] locals lists = let first : Some x.local ≡ option_map {T = Cell} (λ cell. cell.local) None = locals 0 in cc
line_same (x ∷ a) (y ∷ b) locals lists =
    let first : Some x.local ≡ Some y.local = locals 0 in
    let head : x ≡ y = cell_same x y (let l : x.local ≡ y.local = cc in l) (lists 0) in
    let tail : a ≡ b = line_same a b (λ o. locals (suc o)) (λ k lane. lists (suc k) lane) in
    cc
