-- What a firing changes, and what it leaves.
use Rattle.std.proofs.Common.{◌≡◌, ◌∙◌, refl, sym, ap, subst, ℕ, zero, suc, ◌+◌, arith, Bool, true, false, cond, List, [], ◌∷◌, ◌++◌, drop, Option, Some, None, add-zero, zero-add}
use Rattle.std.specs.Prelude.{◌==◌, slice_get, slice_set, option_map, option_and_then, IsSome}
use Rattle.std.specs.Option.{option_map_or}
use Rattle.std.proofs.lemmas.List.{append-nil}
use Rattle.std.proofs.lemmas.Option.{slice_get_within}
use Rattle.hem_base.specs.declared.ids.Message.{Message}
use Rattle.hem_base.specs.declared.ids.Firing.{Firing}
use Rattle.hem_syntax.specs.Protocol.{Protocol}
use Rattle.hem_object.specs.Local.{Local}
use Rattle.hem_tree.specs.Tree.{Tree}
use Rattle.hem_system.specs.declared.lane.Lane.{Lane}
use Rattle.hem_system.specs.declared.lane.Lane.TheVariants.{UpRequests, UpResponses, Down, Requests, Answers}
use Rattle.hem_system.specs.State.{Cell, Line, State, Effect, map_each, cell_at, list_of, local_at, effect_of, takes, reaches, list_after, cell_after, line_after, fire, Fires}
use Rattle.hem_system.specs.Laws.{ChangesItsOwn}
use Rattle.hem_system.proofs.Sets.{get_set_here, get_set_other}
use Rattle.hem_system.proofs.Changed.{not_same, is_same}
use Rattle.hem_system.proofs.Stepped.{fire_by}

-- a firing that was made, by the line on which it came
pub record Came (p : Protocol) (tree : Tree) (old : State) (f : Firing) (new : State) : Type 0 where
  pub line : Line
  pub effect : Effect
  pub there : slice_get old f.line.0 ≡ Some line
  pub possible : effect_of p tree line f ≡ Some effect
  pub after : new ≡ slice_set old f.line.0 (line_after tree f effect line)

came_by : (p : Protocol) (tree : Tree) (old : State) (f : Firing) (new : State) (line : Line) (effect : Option Effect) → slice_get old f.line.0 ≡ Some line → effect_of p tree line f ≡ effect → fire p tree old f ≡ Some new → Came p tree old f new
came_by p tree old f new line None at is leads = let none = fire_by p tree old f line None at is in cc
came_by p tree old f new line (Some e) at is leads =
    let made = sym leads ∙ fire_by p tree old f line (Some e) at is in
    let after : new ≡ slice_set old f.line.0 (line_after tree f e line) = cc made in
    record { line = line; effect = e; there = at; possible = is; after = after }

came_on : (p : Protocol) (tree : Tree) (old : State) (f : Firing) (new : State) (found : Option Line) → slice_get old f.line.0 ≡ found → fire p tree old f ≡ Some new → Came p tree old f new
came_on p tree old f new None at leads = let none : fire p tree old f ≡ None = rw at refl in cc
came_on p tree old f new (Some line) at leads = came_by p tree old f new line (effect_of p tree line f) at refl leads

pub came : {p : Protocol} {tree : Tree} {old new : State} {f : Firing} → Fires p tree old f new → Came p tree old f new
came {p = p} {tree = tree} {old = old} {new = new} {f = f} fires = came_on p tree old f new (slice_get old f.line.0) refl fires.leads

-- an element after a change of each
pub slice_get-map_each : {A B : Type 0} (g : ℕ → A → B) (k : ℕ) (xs : List A) (i : ℕ) → slice_get (map_each g k xs) i ≡ option_map (g (k + i)) (slice_get xs i)
slice_get-map_each g k [] i = refl
slice_get-map_each g k (x ∷ xs) zero = rw add-zero refl
slice_get-map_each g k (x ∷ xs) (suc i) = let e : (k + 1) + i ≡ k + suc i = omega arith in rw (slice_get-map_each g (k + 1) xs i, e) refl

-- an object on the line of the firing, before and after
pub cell_before : {p : Protocol} {tree : Tree} {old new : State} {f : Firing} (it : Came p tree old f new) (k : ℕ) → cell_at old f.line.0 k ≡ slice_get it.line k
cell_before it k = rw it.there refl

pub cell_now : {p : Protocol} {tree : Tree} {old new : State} {f : Firing} (it : Came p tree old f new) (k : ℕ) → cell_at new f.line.0 k ≡ option_map (cell_after tree f it.effect k) (slice_get it.line k)
cell_now {tree = tree} {old = old} {new = new} {f = f} it k =
    let next = line_after tree f it.effect it.line in
    let here : slice_get new f.line.0 ≡ Some next = ap (λ (s : State). slice_get s f.line.0) it.after ∙ get_set_here old f.line.0 next (slice_get_within old f.line.0 it.line it.there) in
    ap (λ (o : Option Line). option_and_then (λ line. slice_get line k) o) here ∙ rw zero-add at (slice_get-map_each (cell_after tree f it.effect) 0 it.line k)

-- the local state of another object
local_stays : (tree : Tree) (f : Firing) (e : Effect) (k : ℕ) (found : Option Cell) → (k == f.object.0) ≡ false → option_map (λ cell. cell.local) (option_map (cell_after tree f e k) found) ≡ option_map (λ cell. cell.local) found
local_stays tree f e k None other = refl
local_stays tree f e k (Some cell) other = rw other refl

-- the local state of the object that fires
local_set : (tree : Tree) (f : Firing) (e : Effect) (local : Local) (found : Option Cell) → option_map (λ cell. cell.local) found ≡ Some local → option_map (λ cell. cell.local) (option_map (cell_after tree f e f.object.0) found) ≡ Some e.after
local_set tree f e local None there = cc
local_set tree f e local (Some cell) there = rw (is_same f.object.0) refl

-- a firing with an effect is at an object that is there
effect_there : (p : Protocol) (tree : Tree) (line : Line) (f : Firing) (e : Effect) (local : Option Local) → local_at line f.object.0 ≡ local → effect_of p tree line f ≡ Some e → (l : Local) × (local_at line f.object.0 ≡ Some l)
effect_there p tree line f e None is effect = let none : effect_of p tree line f ≡ None = rw is refl in cc
effect_there p tree line f e (Some l) is effect = (l, is)

-- a list of an object after the firing
pub list_of-after : (tree : Tree) (f : Firing) (e : Effect) (k : ℕ) (cell : Cell) (lane : Lane) → list_of (cell_after tree f e k cell) lane ≡ list_after tree f e.outs k lane (list_of cell lane)
list_of-after tree f e k cell UpRequests = refl
list_of-after tree f e k cell UpResponses = refl
list_of-after tree f e k cell Down = refl
list_of-after tree f e k cell Requests = refl
list_of-after tree f e k cell Answers = refl

-- a list that is neither taken from nor sent to
list_stays : (tree : Tree) (f : Firing) (e : Effect) (k : ℕ) (lane : Lane) (found : Option Cell) → takes tree f e.outs k lane ≡ false → reaches tree f e.outs.to k lane ≡ false
    → option_map_or (λ cell. list_of cell lane) (option_map (cell_after tree f e k) found) [] ≡ option_map_or (λ cell. list_of cell lane) found []
list_stays tree f e k lane None takes_not reaches_not = refl
list_stays tree f e k lane (Some cell) takes_not reaches_not =
    list_of-after tree f e k cell lane
    ∙ ap (λ (b : Bool). drop (cond b 1 0) (list_of cell lane) ++ cond (reaches tree f e.outs.to k lane) (e.outs.message ∷ []) []) takes_not
    ∙ ap (λ (b : Bool). list_of cell lane ++ cond b (e.outs.message ∷ []) []) reaches_not
    ∙ append-nil (list_of cell lane)

-- a list that is taken from
list_taken : (tree : Tree) (f : Firing) (e : Effect) (k : ℕ) (lane : Lane) (found : Option Cell) → takes tree f e.outs k lane ≡ true → reaches tree f e.outs.to k lane ≡ false
    → option_map_or (λ cell. list_of cell lane) (option_map (cell_after tree f e k) found) [] ≡ drop 1 (option_map_or (λ cell. list_of cell lane) found [])
list_taken tree f e k lane None takes_it reaches_not = refl
list_taken tree f e k lane (Some cell) takes_it reaches_not =
    list_of-after tree f e k cell lane
    ∙ ap (λ (b : Bool). drop (cond b 1 0) (list_of cell lane) ++ cond (reaches tree f e.outs.to k lane) (e.outs.message ∷ []) []) takes_it
    ∙ ap (λ (b : Bool). drop 1 (list_of cell lane) ++ cond b (e.outs.message ∷ []) []) reaches_not
    ∙ append-nil (drop 1 (list_of cell lane))

-- a list that is sent to
list_sent : (tree : Tree) (f : Firing) (e : Effect) (k : ℕ) (lane : Lane) (found : Option Cell) → IsSome found → takes tree f e.outs k lane ≡ false → reaches tree f e.outs.to k lane ≡ true
    → option_map_or (λ cell. list_of cell lane) (option_map (cell_after tree f e k) found) [] ≡ option_map_or (λ cell. list_of cell lane) found [] ++ e.outs.message ∷ []
list_sent tree f e k lane None some takes_not reaches_it = cc
list_sent tree f e k lane (Some cell) some takes_not reaches_it =
    list_of-after tree f e k cell lane
    ∙ ap (λ (b : Bool). drop (cond b 1 0) (list_of cell lane) ++ cond (reaches tree f e.outs.to k lane) (e.outs.message ∷ []) []) takes_not
    ∙ ap (λ (b : Bool). list_of cell lane ++ cond b (e.outs.message ∷ []) []) reaches_it

-- a list that is taken from and sent to
list_both : (tree : Tree) (f : Firing) (e : Effect) (k : ℕ) (lane : Lane) (found : Option Cell) → IsSome found → takes tree f e.outs k lane ≡ true → reaches tree f e.outs.to k lane ≡ true
    → option_map_or (λ cell. list_of cell lane) (option_map (cell_after tree f e k) found) [] ≡ drop 1 (option_map_or (λ cell. list_of cell lane) found []) ++ e.outs.message ∷ []
list_both tree f e k lane None some takes_it reaches_it = cc
list_both tree f e k lane (Some cell) some takes_it reaches_it =
    list_of-after tree f e k cell lane
    ∙ ap (λ (b : Bool). drop (cond b 1 0) (list_of cell lane) ++ cond (reaches tree f e.outs.to k lane) (e.outs.message ∷ []) []) takes_it
    ∙ ap (λ (b : Bool). drop 1 (list_of cell lane) ++ cond b (e.outs.message ∷ []) []) reaches_it

-- a firing changes its own alone
pub changes_its_own : {p : Protocol} {tree : Tree} {old new : State} {f : Firing} → Fires p tree old f new → ChangesItsOwn p tree old f new
changes_its_own {p = p} {tree = tree} {old = old} {new = new} {f = f} fires =
    let it = came fires in
    let l = f.line.0 in
    let local_is = λ (k : ℕ). ap (option_map (λ (c : Cell). c.local)) (cell_now it k) in
    let local_was = λ (k : ℕ). ap (option_map (λ (c : Cell). c.local)) (cell_before it k) in
    let list_is = λ (k : ℕ) (lane : Lane). ap (λ (o : Option Cell). option_map_or (λ cell. list_of cell lane) o []) (cell_now it k) in
    let list_was = λ (k : ℕ) (lane : Lane). ap (λ (o : Option Cell). option_map_or (λ cell. list_of cell lane) o []) (cell_before it k) in
    let own = effect_there p tree it.line f it.effect (local_at it.line f.object.0) refl it.possible in
    record {
      line = it.line;
      effect = it.effect;
      there = it.there;
      possible = it.possible;
      other_lines = λ k other. ap (λ (s : State). slice_get s k) it.after ∙ get_set_other old l k (line_after tree f it.effect it.line) other;
      other_locals = λ k other. local_is k ∙ local_stays tree f it.effect k (slice_get it.line k) (not_same k f.object.0 other) ∙ sym (local_was k);
      own_local = local_is f.object.0 ∙ local_set tree f it.effect own.0 (slice_get it.line f.object.0) own.1;
      other_lists = λ k lane takes_not reaches_not. list_is k lane ∙ list_stays tree f it.effect k lane (slice_get it.line k) takes_not reaches_not ∙ sym (list_was k lane);
      taken = λ k lane takes_it reaches_not. list_is k lane ∙ list_taken tree f it.effect k lane (slice_get it.line k) takes_it reaches_not ∙ sym (ap (drop 1) (list_was k lane));
      sent = λ k lane some takes_not reaches_it. list_is k lane ∙ list_sent tree f it.effect k lane (slice_get it.line k) (subst (λ (o : Option Cell). IsSome o) (cell_before it k) some) takes_not reaches_it ∙ sym (ap (λ (ms : List Message). ms ++ it.effect.outs.message ∷ []) (list_was k lane));
      both = λ k lane some takes_it reaches_it. list_is k lane ∙ list_both tree f it.effect k lane (slice_get it.line k) (subst (λ (o : Option Cell). IsSome o) (cell_before it k) some) takes_it reaches_it ∙ sym (ap (λ (ms : List Message). drop 1 ms ++ it.effect.outs.message ∷ []) (list_was k lane));
    }
