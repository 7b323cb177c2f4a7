-- Which lists of an edge a firing takes from and sends to, by where the edge stands.
use Rattle.std.proofs.Common.{◌≡◌, ◌≢◌, refl, ap, sym, ◌∙◌, ℕ, ◌<◌, length, Bool, true, false, ◌&&◌, List, [], ◌∷◌, arith, Option, Some, None, inl, inr, ◌⊎◌}
use Rattle.std.specs.Prelude.{◌==◌, slice_get, option_map}
use Rattle.std.specs.Option.{option_map_or}
use Rattle.std.proofs.lemmas.Bool.{eqb-true}
use Rattle.std.proofs.lemmas.Bool.Decides.{eqb_tells}
use Rattle.std.proofs.lemmas.Option.{slice_get-map, slice_get_within}
use Rattle.hem_base.specs.Sets.{has_bit}
use Rattle.hem_base.specs.declared.ids.ObjectId.{ObjectId}
use Rattle.hem_base.specs.declared.ids.Firing.{Firing}
use Rattle.hem_base.specs.declared.ids.Kind.{Kind}
use Rattle.hem_base.specs.declared.ids.Kind.TheVariants.{Root, Mid, Leaf}
use Rattle.hem_fire.specs.declared.outs.To.{To}
use Rattle.hem_fire.specs.declared.outs.To.TheVariants as to
use Rattle.hem_fire.specs.declared.outs.Outs.{Outs}
use Rattle.hem_template.specs.Template.{is_leaf}
use Rattle.hem_tree.specs.Tree.{Tree, IsTree, kind_of, parent_of, is_number, is_child, children_of, place_among}
use Rattle.hem_tree.proofs.Early.{lawful_early}
use Rattle.hem_system.specs.declared.lane.Lane.TheVariants.{UpRequests, UpResponses, Down}
use Rattle.hem_system.specs.State.{Line, takes, reaches, is_own_child, place_of_me, head_at, request_head, heads_of}
use Rattle.hem_system.proofs.Changed.{not_same, is_same}
use Rattle.hem_system.proofs.Kids.{child_at}
use Rattle.hem_rows.proofs.Choices.{if_mapped}
use Rattle.hem_locks.proofs.Sums.{reaches_kid, is_up_request, is_up_response, is_me}
use Rattle.hem_locks.proofs.EdgeStep.{Flow}

pub and_false : (b : Bool) → (b && false) ≡ false
and_false true = refl
and_false false = refl

pub and_true : (b : Bool) → (b && true) ≡ b
and_true true = refl
and_true false = refl

-- a parent has its child
pub child_of : (tree : Tree) (k high : ℕ) → parent_of tree k ≡ Some high → is_child tree k high ≡ true
child_of tree k high parent = ap (λ (p : Option ℕ). is_number p high) parent ∙ is_same high

pub other_child : (tree : Tree) (k high o : ℕ) → parent_of tree k ≡ Some high → high ≢ o → is_child tree k o ≡ false
other_child tree k high o parent other = ap (λ (p : Option ℕ). is_number p o) parent ∙ not_same high o other

-- no object is its own child
pub not_own_child : (tree : Tree) → IsTree tree → (o high : ℕ) → parent_of tree o ≡ Some high → is_child tree o o ≡ false
not_own_child tree lawful o high parent =
    let before = (lawful_early tree lawful).early o high parent in
    other_child tree o high o parent (λ same. absurd (omega (arith, same)))

-- an object that has a kind is in the tree
pub within : (tree : Tree) (o : ℕ) (kind : Kind) → kind_of tree o ≡ Some kind → o < length tree
within tree o kind is = let node = if_mapped (λ node. node.kind) (slice_get tree o) kind is in slice_get_within tree o node.0 node.1

-- an object with a child is no leaf
pub no_leaf : (tree : Tree) → IsTree tree → (k high : ℕ) (kind : Kind) → parent_of tree k ≡ Some high → kind_of tree high ≡ Some kind → is_leaf kind ≡ false
no_leaf tree lawful k high Root parent kind = refl
no_leaf tree lawful k high Mid parent kind = refl
no_leaf tree lawful k high Leaf parent kind =
    let at = child_at tree high k (child_of tree k high parent) in
    absurd (none (children_of tree high) ((lawful.leaves high (within tree high Leaf kind)).0 kind) (place_among tree high k) k at)
  where
    none : (xs : List ℕ) → xs ≡ [] → (i x : ℕ) → slice_get xs i ≡ Some x → ⊥
    none [] is i x at = cc
    none (y ∷ xs) is i x at = cc

-- children of one object at one place are one
pub one_place : (tree : Tree) (o a b : ℕ) → is_child tree a o ≡ true → is_child tree b o ≡ true → place_among tree o a ≡ place_among tree o b → a ≡ b
one_place tree o a b child_a child_b same =
    let at_a = child_at tree o a child_a in
    let at_b = child_at tree o b child_b in
    let both : Some a ≡ Some b = sym at_a ∙ ap (slice_get (children_of tree o)) same ∙ at_b in
    cc

-- so children are told apart by their places
places_tell : (tree : Tree) (o a b : ℕ) → is_child tree a o ≡ true → is_child tree b o ≡ true → (a == b) ≡ (place_among tree o b == place_among tree o a)
places_tell tree o a b child_a child_b = by_place (eqb_tells a b)
  where
    by_place : ((a == b) ≡ true) × (a ≡ b) ⊎ ((a == b) ≡ false) × (a ≢ b) → (a == b) ≡ (place_among tree o b == place_among tree o a)
    by_place (inl same) = same.0 ∙ sym (is_same (place_among tree o a)) ∙ ap (λ n. place_among tree o n == place_among tree o a) same.1
    by_place (inr other) = other.0 ∙ sym (not_same (place_among tree o b) (place_among tree o a) (λ same. other.1 (one_place tree o a b child_a child_b (sym same))))

-- the child that a firing names, by its place
pub named_child : (tree : Tree) (o k : ℕ) (me : Option ObjectId) → is_own_child tree o me ≡ true → is_child tree k o ≡ true → option_map_or (λ child. child.0 == k) me false ≡ is_me (place_among tree o k) (place_of_me tree o me)
named_child tree o k None own child = refl
named_child tree o k (Some kid) own child = places_tell tree o kid.0 k own child

-- the head that a firing takes from the child that it names
pub named_head : (line : Line) (o k : ℕ) (me : Option ObjectId) → option_map_or (λ child. child.0 == k) me false ≡ true → request_head line o me ≡ head_at line k UpRequests
named_head line o k None is = cc
named_head line o k (Some kid) is = ap (λ n. head_at line n UpRequests) (eqb-true kid.0 k is)

-- the head of a child's responses, by its place
pub kid_head : (tree : Tree) (line : Line) (o k : ℕ) (me : Option ObjectId) → is_child tree k o ≡ true → slice_get (heads_of tree line o me).kids (place_among tree o k) ≡ Some (head_at line k UpResponses)
kid_head tree line o k me child = slice_get-map (λ k. head_at line k UpResponses) (children_of tree o) (place_among tree o k) ∙ ap (option_map (λ k. head_at line k UpResponses)) (child_at tree o k child)

-- which lists of the edge of an object a firing takes from and sends to
abbrev pub flow_of : Tree → Firing → Outs → ℕ → Flow
flow_of tree f outs k =
    record {
      takes_request = takes tree f outs k UpRequests;
      takes_response = takes tree f outs k UpResponses;
      takes_down = takes tree f outs k Down;
      sends_request = reaches tree f outs.to k UpRequests;
      sends_response = reaches tree f outs.to k UpResponses;
      sends_down = reaches tree f outs.to k Down;
    }

flow_same : {a b c d e g a' b' c' d' e' g' : Bool} → a ≡ a' → b ≡ b' → c ≡ c' → d ≡ d' → e ≡ e' → g ≡ g' → (let flow : Flow = record { takes_request = a; takes_response = b; takes_down = c; sends_request = d; sends_response = e; sends_down = g } in flow) ≡ record { takes_request = a'; takes_response = b'; takes_down = c'; sends_request = d'; sends_response = e'; sends_down = g' }
flow_same one two three four five six = rw (one, two, three, four, five, six) refl

-- at the edge of the object that fires
up_requests_below : (tree : Tree) (f : Firing) (t : To) (k : ℕ) → (k == f.object.0) ≡ true → reaches tree f t k UpRequests ≡ is_up_request t
up_requests_below tree f to.Nobody k own = refl
up_requests_below tree f to.Answer k own = refl
up_requests_below tree f (to.Kid c) k own = refl
up_requests_below tree f to.UpRequest k own = own
up_requests_below tree f to.UpResponse k own = refl
up_requests_below tree f (to.Kids set) k own = refl

up_responses_below : (tree : Tree) (f : Firing) (t : To) (k : ℕ) → (k == f.object.0) ≡ true → reaches tree f t k UpResponses ≡ is_up_response t
up_responses_below tree f to.Nobody k own = refl
up_responses_below tree f to.Answer k own = refl
up_responses_below tree f (to.Kid c) k own = refl
up_responses_below tree f to.UpRequest k own = refl
up_responses_below tree f to.UpResponse k own = own
up_responses_below tree f (to.Kids set) k own = refl

down_below : (tree : Tree) (f : Firing) (t : To) (k : ℕ) → is_child tree k f.object.0 ≡ false → reaches tree f t k Down ≡ false
down_below tree f to.Nobody k child = refl
down_below tree f to.Answer k child = refl
down_below tree f (to.Kid c) k child = rw child refl
down_below tree f to.UpRequest k child = refl
down_below tree f to.UpResponse k child = refl
down_below tree f (to.Kids set) k child = rw child refl

pub flow_below : (tree : Tree) (f : Firing) (outs : Outs) (k : ℕ) → (k == f.object.0) ≡ true → is_child tree k f.object.0 ≡ false → flow_of tree f outs k ≡ record { takes_request = false; takes_response = false; takes_down = outs.taken_parent; sends_request = is_up_request outs.to; sends_response = is_up_response outs.to; sends_down = false }
flow_below tree f outs k own child =
    flow_same
    (rw child (and_false _))
    (rw child refl)
    (rw own (and_true outs.taken_parent))
    (up_requests_below tree f outs.to k own)
    (up_responses_below tree f outs.to k own)
    (down_below tree f outs.to k child)

-- at the edges of its children
pub up_requests_above : (tree : Tree) (f : Firing) (t : To) (k : ℕ) → (k == f.object.0) ≡ false → reaches tree f t k UpRequests ≡ false
up_requests_above tree f to.Nobody k other = refl
up_requests_above tree f to.Answer k other = refl
up_requests_above tree f (to.Kid c) k other = refl
up_requests_above tree f to.UpRequest k other = other
up_requests_above tree f to.UpResponse k other = refl
up_requests_above tree f (to.Kids set) k other = refl

up_responses_above : (tree : Tree) (f : Firing) (t : To) (k : ℕ) → (k == f.object.0) ≡ false → reaches tree f t k UpResponses ≡ false
up_responses_above tree f to.Nobody k other = refl
up_responses_above tree f to.Answer k other = refl
up_responses_above tree f (to.Kid c) k other = refl
up_responses_above tree f to.UpRequest k other = refl
up_responses_above tree f to.UpResponse k other = other
up_responses_above tree f (to.Kids set) k other = refl

down_above : (tree : Tree) (f : Firing) (t : To) (k : ℕ) → is_child tree k f.object.0 ≡ true → reaches tree f t k Down ≡ reaches_kid (place_among tree f.object.0 k) t
down_above tree f to.Nobody k child = refl
down_above tree f to.Answer k child = refl
down_above tree f (to.Kid c) k child = rw child refl
down_above tree f to.UpRequest k child = refl
down_above tree f to.UpResponse k child = refl
down_above tree f (to.Kids set) k child = rw child refl

pub flow_above : (tree : Tree) (f : Firing) (outs : Outs) (k : ℕ) → (k == f.object.0) ≡ false → is_child tree k f.object.0 ≡ true → is_own_child tree f.object.0 f.me ≡ true → flow_of tree f outs k ≡ record { takes_request = outs.taken_request && is_me (place_among tree f.object.0 k) (place_of_me tree f.object.0 f.me); takes_response = has_bit outs.taken_kids.0 (place_among tree f.object.0 k); takes_down = false; sends_request = false; sends_response = false; sends_down = reaches_kid (place_among tree f.object.0 k) outs.to }
flow_above tree f outs k other child own =
    flow_same
    (ap (λ b. outs.taken_request && option_map_or (λ child. child.0 == k) f.me false && b) child ∙ and_true _ ∙ ap (λ b. outs.taken_request && b) (named_child tree f.object.0 k f.me own child))
    (rw child refl)
    (rw other (and_false outs.taken_parent))
    (up_requests_above tree f outs.to k other)
    (up_responses_above tree f outs.to k other)
    (down_above tree f outs.to k child)
