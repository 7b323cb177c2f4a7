-- A firing changes nothing for another object to which it sends nothing.
use Rattle.std.proofs.Common.{◌≡◌, ◌≢◌, refl, sym, ap, ◌∙◌, ℕ, zero-add, Bool, true, false, ◌&&◌, not, cond, List, [], ◌∷◌, ◌++◌, drop, length, map, Option, Some, None, inl, inr, ◌⊎◌, ⊎_elim, arith}
use Rattle.std.specs.Prelude.{◌==◌, ◌||◌, filter, find, nat_le, slice_get, slice_set, option_map, option_and_then, is_some, is_none}
use Rattle.std.specs.List.{flat_map}
use Rattle.std.specs.Option.{option_map_or, option_or}
use Rattle.std.proofs.lemmas.Bool.Decides.{eqb_tells}
use Rattle.std.proofs.lemmas.List.{append-nil}
use Rattle.std.proofs.lemmas.List.Folds.{find-append}
use Rattle.std.proofs.lemmas.Option.{slice_get_within}
use Rattle.hem_base.specs.declared.ids.ObjectId.{ObjectId}
use Rattle.hem_base.specs.declared.ids.Firing.{Firing}
use Rattle.hem_base.specs.declared.ids.Message.{Message}
use Rattle.hem_base.specs.Sets.{has_bit}
use Rattle.hem_fire.specs.declared.outs.To.{To}
use Rattle.hem_fire.specs.declared.outs.To.TheVariants as to
use Rattle.hem_syntax.specs.Protocol.{Protocol, rule_named}
use Rattle.hem_object.specs.Local.{Local}
use Rattle.hem_tree.specs.Tree.{Tree, kind_of, is_child, below, children_of, place_among}
use Rattle.hem_system.specs.declared.lane.Lane.{Lane}
use Rattle.hem_system.specs.declared.lane.Lane.TheVariants.{UpRequests, UpResponses, Down, Requests}
use Rattle.hem_system.specs.State.{Cell, Line, State, Effect, list_of, list_at, head_at, takes, reaches, request_head, heads_of, is_own_child, place_of_me, rule_effect, own_effect, local_at, effect_of, cell_after, line_after, fire, Fires}
use Rattle.hem_system.specs.Ended.{is_self, is_at, self_firings}
use Rattle.hem_system.proofs.Own.{came, slice_get-map_each, list_of-after}
use Rattle.hem_system.proofs.Sets.{get_set_here, get_set_other}
use Rattle.hem_system.proofs.Stepped.{fire_by}
use Rattle.hem_system.proofs.Takers.{parent_is}
use Rattle.hem_walk.specs.Walk.{firing_of, named, firings_of_rule, rules_of, is_ready, ready_at}
use Rattle.hem_walk.specs.Near.{is_up, is_near}
use Rattle.hem_walk.specs.Working.{sends_to}
use Rattle.hem_walk.proofs.Counting.{counted_elsewhere}

-- a list that is neither taken from nor sent to stays
list_keeps : (tree : Tree) (f : Firing) (e : Effect) (line : Line) (k : ℕ) (lane : Lane) → takes tree f e.outs k lane ≡ false → reaches tree f e.outs.to k lane ≡ false → list_at (line_after tree f e line) k lane ≡ list_at line k lane
list_keeps tree f e line k lane takes_not reaches_not =
    ap (λ (found : Option Cell). option_map_or (λ cell. list_of cell lane) found [])
    (slice_get-map_each (cell_after tree f e) 0 line k ∙ ap (λ n. option_map (cell_after tree f e n) (slice_get line k)) (zero-add k))
    ∙ by_cell (slice_get line k)
  where
    by_cell : (found : Option Cell) → option_map_or (λ cell. list_of cell lane) (option_map (cell_after tree f e k) found) [] ≡ option_map_or (λ cell. list_of cell lane) found []
    by_cell None = refl
    by_cell (Some cell) =
        list_of-after tree f e k cell lane
        ∙ ap (λ (b : Bool). drop (cond b 1 0) (list_of cell lane) ++ cond (reaches tree f e.outs.to k lane) (e.outs.message ∷ []) []) takes_not
        ∙ ap (λ (b : Bool). list_of cell lane ++ cond b (e.outs.message ∷ []) []) reaches_not
        ∙ append-nil (list_of cell lane)

-- and so does the local state of another object
local_keeps : (tree : Tree) (f : Firing) (e : Effect) (line : Line) (k : ℕ) → (k == f.object.0) ≡ false → local_at (line_after tree f e line) k ≡ local_at line k
local_keeps tree f e line k other =
    ap (option_map (λ (cell : Cell). cell.local))
    (slice_get-map_each (cell_after tree f e) 0 line k ∙ ap (λ n. option_map (cell_after tree f e n) (slice_get line k)) (zero-add k))
    ∙ by_cell (slice_get line k)
  where
    by_cell : (found : Option Cell) → option_map (λ cell. cell.local) (option_map (cell_after tree f e k) found) ≡ option_map (λ cell. cell.local) found
    by_cell None = refl
    by_cell (Some cell) = ap (λ (b : Bool). Some (cond b e.after cell.local)) other

-- what the firings of one object look at stays: its local state, its own lists, and those of its children
pub record Stay (tree : Tree) (o : ℕ) (old new : Line) : Type 0 where
  pub local : local_at new o ≡ local_at old o
  pub down : list_at new o Down ≡ list_at old o Down
  pub requests : list_at new o Requests ≡ list_at old o Requests
  pub kid_requests : (k : ℕ) → is_child tree k o ≡ true → list_at new k UpRequests ≡ list_at old k UpRequests
  pub kid_responses : (k : ℕ) → is_child tree k o ≡ true → list_at new k UpResponses ≡ list_at old k UpResponses

is_false : (b : Bool) → (b ≡ true → false ≡ true) → b ≡ false
is_false true never = sym (never refl)
is_false false never = refl

both_false : (b c : Bool) → c ≡ false → (b && c) ≡ false
both_false true c is = is
both_false false c is = refl

-- a firing sends nothing to a processor's requests
no_request : (tree : Tree) (f : Firing) (t : To) (o : ℕ) → reaches tree f t o Requests ≡ false
no_request tree f to.Nobody o = refl
no_request tree f to.Answer o = refl
no_request tree f (to.Kid c) o = refl
no_request tree f to.UpRequest o = refl
no_request tree f to.UpResponse o = refl
no_request tree f (to.Kids set) o = refl

-- nothing comes up from a child where its parent isn't sent to
not_up_request : (tree : Tree) (f : Firing) (t : To) (k : ℕ) → (is_up t ≡ true → (k == f.object.0) ≡ false) → reaches tree f t k UpRequests ≡ false
not_up_request tree f to.Nobody k far = refl
not_up_request tree f to.Answer k far = refl
not_up_request tree f (to.Kid c) k far = refl
not_up_request tree f to.UpRequest k far = far refl
not_up_request tree f to.UpResponse k far = refl
not_up_request tree f (to.Kids set) k far = refl

not_up_response : (tree : Tree) (f : Firing) (t : To) (k : ℕ) → (is_up t ≡ true → (k == f.object.0) ≡ false) → reaches tree f t k UpResponses ≡ false
not_up_response tree f to.Nobody k far = refl
not_up_response tree f to.Answer k far = refl
not_up_response tree f (to.Kid c) k far = refl
not_up_response tree f to.UpRequest k far = refl
not_up_response tree f to.UpResponse k far = far refl
not_up_response tree f (to.Kids set) k far = refl

stay : (tree : Tree) (f : Firing) (e : Effect) (line : Line) (o : ℕ) → (o == f.object.0) ≡ false → (is_up e.outs.to && is_child tree f.object.0 o) ≡ false → reaches tree f e.outs.to o Down ≡ false → Stay tree o line (line_after tree f e line)
stay tree f e line o own parent child =
    record {
      local = local_keeps tree f e line o own;
      down = list_keeps tree f e line o Down (both_false e.outs.taken_parent (o == f.object.0) own) child;
      requests = list_keeps tree f e line o Requests (both_false (e.outs.taken_request && is_none f.me) (o == f.object.0) own) (no_request tree f e.outs.to o);
      kid_requests = λ k is.
          list_keeps tree f e line k UpRequests
          (both_false (e.outs.taken_request && option_map_or (λ child. child.0 == k) f.me false) (is_child tree k f.object.0) (not_its_child k is))
          (not_up_request tree f e.outs.to k (not_it k is));
      kid_responses = λ k is.
          list_keeps tree f e line k UpResponses
          (ap (λ b. b && has_bit e.outs.taken_kids.0 (place_among tree f.object.0 k)) (not_its_child k is))
          (not_up_response tree f e.outs.to k (not_it k is));
    }
  where
    number_is : (a b : ℕ) → (a == b) ≡ true → a ≡ b
    number_is a b same = grind arith

    alike : (a b : ℕ) → Some a ≡ Some b → (a == b) ≡ true
    alike a b same = let is : a ≡ b = cc in grind arith

    not_its_child : (k : ℕ) → is_child tree k o ≡ true → is_child tree k f.object.0 ≡ false
    not_its_child k is = is_false (is_child tree k f.object.0) (λ other. sym own ∙ alike o f.object.0 (sym (parent_is tree k o is) ∙ parent_is tree k f.object.0 other))

    not_it : (k : ℕ) → is_child tree k o ≡ true → is_up e.outs.to ≡ true → (k == f.object.0) ≡ false
    not_it k is up = is_false (k == f.object.0) (λ same. sym parent ∙ ap (λ b. b && is_child tree f.object.0 o) up ∙ ap (λ n. is_child tree n o) (sym (number_is k f.object.0 same)) ∙ is)

head_same : (old new : Line) (k : ℕ) (lane : Lane) → list_at new k lane ≡ list_at old k lane → head_at new k lane ≡ head_at old k lane
head_same old new k lane same = ap (λ (messages : List Message). slice_get messages 0) same

-- functions that agree where a test passes
map_alike : {B : Type 0} (test : ℕ → Bool) (g h : ℕ → B) (xs : List ℕ) → ((k : ℕ) → test k ≡ true → g k ≡ h k) → map g (filter test xs) ≡ map h (filter test xs)
map_alike test g h [] same = refl
map_alike test g h (x ∷ xs) same = by_test (test x) refl (map_alike test g h xs same)
  where
    by_test : (b : Bool) → test x ≡ b → map g (filter test xs) ≡ map h (filter test xs) → map g (cond b (x ∷ filter test xs) (filter test xs)) ≡ map h (cond b (x ∷ filter test xs) (filter test xs))
    by_test true is rest = let head = same x is in cc (head, rest)
    by_test false is rest = rest

heads_same : (tree : Tree) (o : ℕ) (me : Option ObjectId) (old new : Line) → Stay tree o old new → is_own_child tree o me ≡ true → heads_of tree new o me ≡ heads_of tree old o me
heads_same tree o me old new it own =
    let kids = map_alike (λ k. is_child tree k o) (λ k. head_at new k UpResponses) (λ k. head_at old k UpResponses) (below (length tree)) (λ k is. head_same old new k UpResponses (it.kid_responses k is)) in
    λ i. record { request = request me own i; parent = head_same old new o Down it.down i; kids = kids i }
  where
    request : (me : Option ObjectId) → is_own_child tree o me ≡ true → request_head new o me ≡ request_head old o me
    request None own = head_same old new o Requests it.requests
    request (Some child) own = head_same old new child.0 UpRequests (it.kid_requests child.0 own)

effect_same : (p : Protocol) (tree : Tree) (g : Firing) (old new : Line) → Stay tree g.object.0 old new → effect_of p tree new g ≡ effect_of p tree old g
effect_same p tree g old new it = by_child (is_own_child tree g.object.0 g.me) refl
  where
    unfolded : (line : Line) → is_own_child tree g.object.0 g.me ≡ false → effect_of p tree line g ≡ option_and_then (λ l. option_and_then (λ kind. option_and_then (λ rule. None) (rule_named p kind g.rule)) (kind_of tree g.object.0)) (local_at line g.object.0)
    unfolded line other =
        λ i. option_and_then (λ l. option_and_then (λ kind. option_and_then (λ rule. cond (other i) (rule_effect p kind rule (place_of_me tree g.object.0 g.me) l (heads_of tree line g.object.0 g.me)) None) (rule_named p kind g.rule)) (kind_of tree g.object.0)) (local_at line g.object.0)

    by_child : (own : Bool) → is_own_child tree g.object.0 g.me ≡ own → effect_of p tree new g ≡ effect_of p tree old g
    by_child true own =
        let heads = heads_same tree g.object.0 g.me old new it own in
        λ i. option_and_then (λ l. own_effect p tree g l (heads i)) (it.local i)
    by_child false other =
        unfolded new other
        ∙ ap (λ (local : Option Local). option_and_then (λ l. option_and_then (λ kind. option_and_then (λ rule. None) (rule_named p kind g.rule)) (kind_of tree g.object.0)) local) it.local
        ∙ sym (unfolded old other)

-- whether a firing is possible, by its line
abbrev can_on : Protocol → Tree → Firing → Option Line → Bool
can_on p tree g found = option_map_or (λ line. is_some (effect_of p tree line g)) found false

can_is : (p : Protocol) (tree : Tree) (s : State) (g : Firing) (found : Option Line) → slice_get s g.line.0 ≡ found → is_some (fire p tree s g) ≡ can_on p tree g found
can_is p tree s g None at = let none : fire p tree s g ≡ None = rw at refl in ap is_some none
can_is p tree s g (Some line) at = by_effect (effect_of p tree line g) refl
  where
    by_effect : (effect : Option Effect) → effect_of p tree line g ≡ effect → is_some (fire p tree s g) ≡ is_some (effect_of p tree line g)
    by_effect None is = ap is_some (fire_by p tree s g line None at is) ∙ sym (ap is_some is)
    by_effect (Some e) is = ap is_some (fire_by p tree s g line (Some e) at is) ∙ sym (ap is_some is)

-- so a firing elsewhere is possible as before
near_parts : (line own parent child : Bool) → (line && (own || parent || child)) ≡ false → line ≡ true → (own ≡ false) × (parent ≡ false) × (child ≡ false)
near_parts true false false false far is = (refl, refl, refl)
near_parts true true parent child far is = cc
near_parts true false true child far is = cc
near_parts true false false true far is = cc
near_parts false own parent child far is = cc

-- where a firing that was made sends its message
sent_by : (p : Protocol) (tree : Tree) (s : State) (f : Firing) (line : Line) (e : Effect) (t : To) → slice_get s f.line.0 ≡ Some line → effect_of p tree line f ≡ Some e → sends_to p tree s f ≡ Some t → e.outs.to ≡ t
sent_by p tree s f line e t at is sent =
    let made : sends_to p tree s f ≡ Some e.outs.to = rw at (rw is refl) in
    let both : Some e.outs.to ≡ Some t = sym made ∙ sent in
    cc both

pub possible_same : (p : Protocol) (tree : Tree) (s next : State) (f g : Firing) (t : To) → Fires p tree s f next → sends_to p tree s f ≡ Some t → is_near tree f t g.line.0 g.object.0 ≡ false → is_some (fire p tree next g) ≡ is_some (fire p tree s g)
possible_same p tree s next f g t fires sent far =
    let it = came fires in
    let to_is = sent_by p tree s f it.line it.effect t it.there it.possible sent in
    let after = line_after tree f it.effect it.line in
    let set = λ (l : ℕ). ap (λ (s : State). slice_get s l) it.after in
    ⊎_elim
    (λ here.
    let parts = near_parts (g.line.0 == f.line.0) (g.object.0 == f.object.0) (is_up it.effect.outs.to && is_child tree f.object.0 g.object.0) (reaches tree f it.effect.outs.to g.object.0 Down) (ap (λ t. is_near tree f t g.line.0 g.object.0) to_is ∙ far) here.0 in
    let there = ap (slice_get s) here.1 ∙ it.there in
    let now = set g.line.0 ∙ ap (slice_get (slice_set s f.line.0 after)) here.1 ∙ get_set_here s f.line.0 after (slice_get_within s f.line.0 it.line it.there) in
    can_is p tree next g (Some after) now
    ∙ on_line it.line after (effect_same p tree g it.line after (stay tree f it.effect it.line g.object.0 parts.0 parts.1 parts.2))
    ∙ sym (can_is p tree s g (Some it.line) there))
    (λ other.
    can_is p tree next g (slice_get s g.line.0) (set g.line.0 ∙ get_set_other s f.line.0 g.line.0 after other.1)
    ∙ sym (can_is p tree s g (slice_get s g.line.0) refl))
    (eqb_tells g.line.0 f.line.0)
  where
    on_line : (a b : Line) → effect_of p tree b g ≡ effect_of p tree a g → can_on p tree g (Some b) ≡ can_on p tree g (Some a)
    on_line a b same = ap is_some same

-- tests that agree on what is mapped
found_alike : {A B : Type 0} (t u : B → Bool) (g : A → B) (xs : List A) → ((x : A) → t (g x) ≡ u (g x)) → find t (map g xs) ≡ find u (map g xs)
found_alike t u g [] same = refl
found_alike t u g (x ∷ xs) same = λ i. cond (same x i) (Some (g x)) (found_alike t u g xs same i)

all_alike : {A B : Type 0} (t u : B → Bool) (g : A → List B) (xs : List A) → ((x : A) → find t (g x) ≡ find u (g x)) → find t (flat_map g xs) ≡ find u (flat_map g xs)
all_alike t u g [] same = refl
all_alike t u g (x ∷ xs) same = find-append t (g x) (flat_map g xs) ∙ (λ i. option_or (same x i) (all_alike t u g xs same i)) ∙ sym (find-append u (g x) (flat_map g xs))

-- and so it has the same ready firing
pub ready_same : (p : Protocol) (tree : Tree) (k : ℕ) (h : List Firing) (s next : State) (f : Firing) (t : To) (l o : ℕ) → Fires p tree s f next → sends_to p tree s f ≡ Some t → is_near tree f t l o ≡ false → ready_at p tree k (h ++ f ∷ []) next l o ≡ ready_at p tree k h s l o
ready_same p tree k h s next f t l o fires sent far =
    let apart : is_at l o f ≡ false = elsewhere f.line.0 f.object.0 l o (is_up t && is_child tree f.object.0 o) (reaches tree f t o Down) far in
    all_alike (is_ready p tree k (h ++ f ∷ []) next) (is_ready p tree k h s) (firings_of_rule tree l o) (rules_of p tree o)
    (λ rule. found_alike (is_ready p tree k (h ++ f ∷ []) next) (is_ready p tree k h s) (firing_of l o rule) (None ∷ map named (children_of tree o))
    (λ me. same (firing_of l o rule me) far (counted_elsewhere p tree h f l o apart)))
  where
    turned : (a b : ℕ) → a ≡ b → (a == b) ≡ true
    turned a b same = grind arith

    same : (g : Firing) → is_near tree f t g.line.0 g.object.0 ≡ false → self_firings p tree (h ++ f ∷ []) g.line.0 g.object.0 ≡ self_firings p tree h g.line.0 g.object.0 → is_ready p tree k (h ++ f ∷ []) next g ≡ is_ready p tree k h s g
    same g at count = λ i. possible_same p tree s next f g t fires sent at i && not (is_self p tree g && nat_le k (count i))

    elsewhere : (fl fo l o : ℕ) (parent child : Bool) → (l == fl && (o == fo || parent || child)) ≡ false → (fl == l && fo == o) ≡ false
    elsewhere fl fo l o parent child far = by_line (eqb_tells fl l) (eqb_tells fo o)
      where
        by_line : ((fl == l) ≡ true) × (fl ≡ l) ⊎ ((fl == l) ≡ false) × (fl ≢ l) → ((fo == o) ≡ true) × (fo ≡ o) ⊎ ((fo == o) ≡ false) × (fo ≢ o) → (fl == l && fo == o) ≡ false
        by_line (inr other) object = ap (λ b. b && fo == o) other.0
        by_line (inl line) (inr other) = (λ i. line.0 i && other.0 i)
        by_line (inl line) (inl object) = let back : (l == fl) ≡ true = turned l fl (sym line.1) in let also : (o == fo) ≡ true = turned o fo (sym object.1) in let clash = sym (λ i. back i && (also i || parent || child)) ∙ far in cc
