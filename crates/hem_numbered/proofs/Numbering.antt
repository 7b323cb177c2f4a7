-- The number of an event, by the numbers that the messages carry.
use Rattle.std.proofs.Common.{◌≡◌, ◌≢◌, ℕ, zero, suc, Bool, true, false, cond, ◌&&◌, List, [], ◌∷◌, ◌++◌, length, map, refl, sym, ap, ◌∙◌, Option, Some, None}
use Rattle.std.specs.Prelude.{◌==◌, slice_get, filter, option_to_list, unwrap_or}
use Rattle.std.specs.Option.{option_map_or}
use Rattle.std.proofs.lemmas.Bool.{eqb-true}
use Rattle.hem_base.specs.Sets.{has_bit}
use Rattle.hem_base.specs.declared.ids.Message.{Message}
use Rattle.hem_base.specs.declared.ids.ObjectId.{ObjectId}
use Rattle.hem_base.specs.declared.ids.KidSet.{KidSet}
use Rattle.hem_syntax.specs.Protocol.{Protocol}
use Rattle.hem_object.specs.Local.{Local, nobody}
use Rattle.hem_template.specs.declared.row.Taking as row
use Rattle.hem_template.specs.declared.row.Taking.TheVariants.{NothingTaken, FromRequester, ParentRequest, ParentResponse, FromKids}
use Rattle.hem_tree.specs.Tree.{Tree, children_of, is_child, place_among}
use Rattle.hem_system.specs.declared.lane.Lane.{Lane}
use Rattle.hem_system.specs.declared.lane.Lane.TheVariants.{UpRequests, UpResponses, Down, Requests}
use Rattle.hem_system.specs.State.{Line, list_at, head_at, takes, is_own_child, request_head, heads_of}
use Rattle.hem_system.proofs.Kids.{child_at, at_child}
use Rattle.hem_system.proofs.Takers.{and_left, and_right}
use Rattle.hem_system.specs.Events.{Event}
use Rattle.hem_trace.specs.History.{Channel, channels_taken}
use Rattle.hem_trace.specs.Tags.{Tags, number_at}
use Rattle.hem_rows.specs.Acts.{takes_me, takes_parent, takes_kids, AreHeads}
use Rattle.hem_shape.proofs.Spots.{true_false}
use Rattle.hem_numbered.specs.Firings.{HasNumber}
use Rattle.hem_numbered.proofs.Kept.{numbered_head}
use Rattle.hem_numbered.proofs.Awaited.{each_there}
use Rattle.hem_numbered.proofs.TakesAs.{no_bits, no_child, no_named_child, no_parent, no_children, parent_here, child_here}

-- the channels of a line
abbrev pub line_tags : Tags → ℕ → ℕ → Lane → List ℕ
line_tags tags l k lane = tags (record { line = l; object = k; lane = lane })

number_none : (tree : Tree) (tags : Tags) (place : ℕ) (e : Event) → slice_get (channels_taken tree e) 0 ≡ None → number_at tree tags place e ≡ place
number_none tree tags place e none = rw (none, number_at) refl

number_some : (tree : Tree) (tags : Tags) (place : ℕ) (e : Event) (c : Channel) (n : ℕ) → slice_get (channels_taken tree e) 0 ≡ Some c → slice_get (tags c) 0 ≡ Some n → number_at tree tags place e ≡ n
number_some tree tags place e c n some there = rw (some, number_at) (ap (λ n. unwrap_or n place) there)

filter_none : (p : ℕ → Bool) (xs : List ℕ) → ((k : ℕ) → p k ≡ false) → filter p xs ≡ []
filter_none p [] none = refl
filter_none p (x ∷ xs) none = ap (λ b. cond b (x ∷ filter p xs) (filter p xs)) (none x) ∙ filter_none p xs none

-- with one more before
first_step : (p : ℕ → Bool) (y : ℕ) (xs : List ℕ) (i x : ℕ) → slice_get (y ∷ xs) i ≡ Some x → p x ≡ true → (b : Bool) → p y ≡ b → ((j : ℕ) → slice_get xs j ≡ Some x → (j : ℕ) × (z : ℕ) × (slice_get xs j ≡ Some z) × (p z ≡ true) × (slice_get (filter p xs) 0 ≡ Some z)) → (j : ℕ) × (z : ℕ) × (slice_get (y ∷ xs) j ≡ Some z) × (p z ≡ true) × (slice_get (filter p (y ∷ xs)) 0 ≡ Some z)
first_step p y xs i x at is true here rest = (zero, y, refl, here, ap (λ b. slice_get (cond b (y ∷ filter p xs) (filter p xs)) 0) here)
first_step p y xs zero x at is false here rest = absurd (let same : y ≡ x = (let there : Some y ≡ Some x = at in cc) in let bad : true ≡ false = sym is ∙ ap p (sym same) ∙ here in cc)
first_step p y xs (suc i) x at is false here rest = let it = rest i at in (suc it.0, it.1, it.2, it.3, ap (λ b. slice_get (cond b (y ∷ filter p xs) (filter p xs)) 0) here ∙ it.4)

-- the first that passes the test
first_passes : (p : ℕ → Bool) (xs : List ℕ) (i x : ℕ) → slice_get xs i ≡ Some x → p x ≡ true → (j : ℕ) × (y : ℕ) × (slice_get xs j ≡ Some y) × (p y ≡ true) × (slice_get (filter p xs) 0 ≡ Some y)
first_passes p [] i x at is = cc
first_passes p (y ∷ xs) i x at is = first_step p y xs i x at is (p y) refl (λ j rest. first_passes p xs j x rest is)

-- the channels that an event takes from, by what its outs say
channels_are : (tree : Tree) (e : Event) (me above : Bool) (kids : KidSet) (named : Option ObjectId) → e.outs.taken_request ≡ me → e.outs.taken_parent ≡ above → e.outs.taken_kids ≡ kids → e.firing.me ≡ named → channels_taken tree e ≡ map (λ child. record { line = e.firing.line.0; object = child.0; lane = UpRequests }) (cond me (option_to_list named) []) ++ cond above (record { line = e.firing.line.0; object = e.firing.object.0; lane = Down } ∷ []) [] ++ map (λ k. record { line = e.firing.line.0; object = k; lane = UpResponses }) (filter (λ k. has_bit kids.0 (place_among tree e.firing.object.0 k)) (children_of tree e.firing.object.0))
channels_are tree e me above kids named a b c d =
    λ i. map (λ child. record { line = e.firing.line.0; object = child.0; lane = UpRequests }) (cond (a i) (option_to_list (d i)) []) ++ cond (b i) (record { line = e.firing.line.0; object = e.firing.object.0; lane = Down } ∷ []) [] ++ map (λ k. record { line = e.firing.line.0; object = k; lane = UpResponses }) (filter (λ k. has_bit (c i).0 (place_among tree e.firing.object.0 k)) (children_of tree e.firing.object.0))

-- no awaited children
no_kids : (tree : Tree) (l o : ℕ) → map (λ k. let c : Channel = record { line = l; object = k; lane = UpResponses } in c) (filter (λ k. has_bit nobody.0 (place_among tree o k)) (children_of tree o)) ≡ []
no_kids tree l o = ap (map (λ k. let c : Channel = record { line = l; object = k; lane = UpResponses } in c)) (filter_none (λ k. has_bit nobody.0 (place_among tree o k)) (children_of tree o) (λ k. no_bits (place_among tree o k)))

-- the number of an event that takes nothing that a firing sent
start_number : (tree : Tree) (tags : Tags) (place : ℕ) (e : Event) (is_new : ℕ → Bool) → ((k : ℕ) → takes tree e.firing e.outs k UpRequests ≡ false) → e.outs.taken_parent ≡ false → e.outs.taken_kids ≡ nobody → is_new place ≡ true → slice_get (channels_taken tree e) 0 ≡ None → HasNumber tree e.firing e.outs (line_tags tags e.firing.line.0) is_new (number_at tree tags place e)
start_number tree tags place e is_new me above kids first none =
    record {
      child_request = λ k is. absurd (true_false is (me k));
      parent_message = λ k is. absurd (true_false is (no_parent tree e.firing e.outs k above));
      child_answer = λ k is. absurd (true_false is (no_children tree e.firing e.outs k kids));
      start = λ free. ap is_new (number_none tree tags place e none) ∙ first;
    }

-- the number of an event that takes from its parent
parent_number : (p : Protocol) (tree : Tree) (e : Event) (line : Line) (tags : Tags) (place : ℕ) (is_new : ℕ → Bool) (m : Message) → e.outs.taken_request ≡ false → e.outs.taken_parent ≡ true → e.outs.taken_kids ≡ nobody → head_at line e.firing.object.0 Down ≡ Some m → ((k : ℕ) (lane : Lane) → lane ≢ Requests → length (line_tags tags e.firing.line.0 k lane) ≡ length (list_at line k lane)) → HasNumber tree e.firing e.outs (line_tags tags e.firing.line.0) is_new (number_at tree tags place e)
parent_number p tree e line tags place is_new m me above kids there even =
    let o = e.firing.object.0 in
    let at = numbered_head (list_at line o Down) (line_tags tags e.firing.line.0 o Down) m (even o Down (λ bad. cc)) there in
    let number : number_at tree tags place e ≡ at.0 =
    number_some tree tags place e (record { line = e.firing.line.0; object = o; lane = Down }) at.0 (ap (λ cs. slice_get cs 0) (channels_are tree e false true nobody e.firing.me me above kids refl)) at.1 in
    record {
      child_request = λ k is. absurd (true_false is (no_child tree e.firing e.outs k me));
      parent_message = λ k is.
          let same : k ≡ o = eqb-true k o (and_right e.outs.taken_parent (k == o) is) in
          ap (λ k. slice_get (line_tags tags e.firing.line.0 k Down) 0) same ∙ at.1 ∙ ap Some (sym number);
      child_answer = λ k is. absurd (true_false is (no_children tree e.firing e.outs k kids));
      start = λ free. absurd (true_false (parent_here tree e.firing e.outs o above refl) (free o Down (λ bad. cc)));
    }

first_map : {A B : Type 0} (f : A → B) (xs : List A) (x : A) → slice_get xs 0 ≡ Some x → slice_get (map f xs) 0 ≡ Some (f x)
first_map f [] x at = cc
first_map f (y ∷ xs) x at = let same : y ≡ x = (let there : Some y ≡ Some x = at in cc) in ap (λ y. Some (f y)) same

pub has_number : (p : Protocol) (tree : Tree) (e : Event) (line : Line) (before : Local) (tags : Tags) (place : ℕ) (taking : row.Taking) (is_new : ℕ → Bool) → e.outs.taken_request ≡ takes_me taking → e.outs.taken_parent ≡ takes_parent taking → e.outs.taken_kids ≡ takes_kids taking before → AreHeads p taking before (heads_of tree line e.firing.object.0 e.firing.me) → is_own_child tree e.firing.object.0 e.firing.me ≡ true → ((k : ℕ) (lane : Lane) → lane ≢ Requests → length (line_tags tags e.firing.line.0 k lane) ≡ length (list_at line k lane)) → (taking ≡ FromKids → (k : ℕ) × (takes tree e.firing e.outs k UpResponses ≡ true)) → is_new place ≡ true → HasNumber tree e.firing e.outs (line_tags tags e.firing.line.0) is_new (number_at tree tags place e)
has_number p tree e line before tags place NothingTaken is_new me above kids there own even some first =
    start_number tree tags place e is_new (λ k. no_child tree e.firing e.outs k me) above kids first
    (ap (λ cs. slice_get cs 0) (channels_are tree e false false nobody e.firing.me me above kids refl ∙ no_kids tree e.firing.line.0 e.firing.object.0))
has_number p tree e line before tags place FromRequester is_new me above kids there own even some first = by_me e.firing.me refl
  where
    by_me : (named : Option ObjectId) → e.firing.me ≡ named → HasNumber tree e.firing e.outs (line_tags tags e.firing.line.0) is_new (number_at tree tags place e)
    by_me None is =
        start_number tree tags place e is_new (λ k. no_named_child tree e.firing e.outs k is) above kids first
        (ap (λ cs. slice_get cs 0) (channels_are tree e true false nobody None me above kids is ∙ no_kids tree e.firing.line.0 e.firing.object.0))
    by_me (Some c) is =
        let child_own : is_child tree c.0 e.firing.object.0 ≡ true = ap (is_own_child tree e.firing.object.0) (sym is) ∙ own in
        let head : head_at line c.0 UpRequests ≡ Some there.0 = ap (request_head line e.firing.object.0) (sym is) ∙ there.1 in
        let at = numbered_head (list_at line c.0 UpRequests) (line_tags tags e.firing.line.0 c.0 UpRequests) there.0 (even c.0 UpRequests (λ bad. cc)) head in
        let number : number_at tree tags place e ≡ at.0 =
        number_some tree tags place e (record { line = e.firing.line.0; object = c.0; lane = UpRequests }) at.0 (ap (λ cs. slice_get cs 0) (channels_are tree e true false nobody (Some c) me above kids is)) at.1 in
        record {
          child_request = λ k is_taken.
              let same : c.0 ≡ k = eqb-true c.0 k (and_right e.outs.taken_request (c.0 == k) (and_left (e.outs.taken_request && c.0 == k) (is_child tree k e.firing.object.0) (ap (λ me. e.outs.taken_request && option_map_or (λ child. child.0 == k) me false && is_child tree k e.firing.object.0) (sym is) ∙ is_taken))) in
              ap (λ k. slice_get (line_tags tags e.firing.line.0 k UpRequests) 0) (sym same) ∙ at.1 ∙ ap Some (sym number);
          parent_message = λ k is_taken. absurd (true_false is_taken (no_parent tree e.firing e.outs k above));
          child_answer = λ k is_taken. absurd (true_false is_taken (no_children tree e.firing e.outs k kids));
          start = λ free. absurd (true_false (child_here tree e.firing e.outs c c.0 me is child_own refl) (free c.0 UpRequests (λ bad. cc)));
        }
has_number p tree e line before tags place ParentRequest is_new me above kids there own even some first = parent_number p tree e line tags place is_new there.0 me above kids there.1 even
has_number p tree e line before tags place ParentResponse is_new me above kids there own even some first = parent_number p tree e line tags place is_new there.0 me above kids there.1 even
has_number p tree e line before tags place FromKids is_new me above kids there own even some first =
    let one = some refl in
    let own_one = and_left (is_child tree one.0 e.firing.object.0) (has_bit e.outs.taken_kids.0 (place_among tree e.firing.object.0 one.0)) one.1 in
    let bit_one = and_right (is_child tree one.0 e.firing.object.0) (has_bit e.outs.taken_kids.0 (place_among tree e.firing.object.0 one.0)) one.1 in
    let head = first_passes (λ k. has_bit e.outs.taken_kids.0 (place_among tree e.firing.object.0 k)) (children_of tree e.firing.object.0) (place_among tree e.firing.object.0 one.0) one.0 (child_at tree e.firing.object.0 one.0 own_one) bit_one in
    let taken_first : takes tree e.firing e.outs head.1 UpResponses ≡ true = ap (λ b. b && has_bit e.outs.taken_kids.0 (place_among tree e.firing.object.0 head.1)) (at_child tree e.firing.object.0 head.0 head.1 head.2).0 ∙ head.3 in
    let message = each_there tree e.firing before e.outs line kids there head.1 taken_first in
    let at = numbered_head (list_at line head.1 UpResponses) (line_tags tags e.firing.line.0 head.1 UpResponses) message.0 (even head.1 UpResponses (λ bad. cc)) message.1 in
    let number : number_at tree tags place e ≡ at.0 =
    number_some tree tags place e (record { line = e.firing.line.0; object = head.1; lane = UpResponses }) at.0
    (ap (λ cs. slice_get cs 0) (channels_are tree e false false e.outs.taken_kids e.firing.me me above refl refl)
    ∙ first_map (λ k. let c : Channel = record { line = e.firing.line.0; object = k; lane = UpResponses } in c) (filter (λ k. has_bit e.outs.taken_kids.0 (place_among tree e.firing.object.0 k)) (children_of tree e.firing.object.0)) head.1 head.4) at.1 in
    record {
      child_request = λ k is_taken. absurd (true_false is_taken (no_child tree e.firing e.outs k me));
      parent_message = λ k is_taken. absurd (true_false is_taken (no_parent tree e.firing e.outs k above));
      child_answer = λ k is_taken. (head.1, taken_first, at.1 ∙ ap Some (sym number));
      start = λ free. absurd (true_false taken_first (free head.1 UpResponses (λ bad. cc)));
    }
