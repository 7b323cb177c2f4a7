-- What an object sees of its ends is what waits there.
use Rattle.std.proofs.Common.{◌≡◌, ◌≢◌, refl, ap, sym, ◌∙◌, subst, ℕ, zero, suc, ◌+◌, ◌≤◌, arith, Bool, true, false, ◌&&◌, cond, List, [], ◌∷◌, map, length, Option, Some, None, inl, inr, ◌⊎◌}
use Rattle.std.specs.Prelude.{◌==◌, max, slice_get, option_map, option_and_then}
use Rattle.std.specs.Option.{option_map_or}
use Rattle.std.proofs.Math.Nat.{le-max_left, le-max_right}
use Rattle.std.proofs.lemmas.Bool.{eq-eqb, eqb-true}
use Rattle.std.proofs.lemmas.Option.{slice_get-map}
use Rattle.hem_base.specs.Sets.{has_bit}
use Rattle.hem_base.specs.declared.ids.ObjectId.{ObjectId}
use Rattle.hem_base.specs.declared.ids.Message.{Message}
use Rattle.hem_base.specs.declared.ids.Carried.{Carried}
use Rattle.hem_base.specs.declared.ids.Firing.{Firing}
use Rattle.hem_fire.specs.Heads.{Heads}
use Rattle.hem_fire.specs.declared.outs.Outs.{Outs}
use Rattle.hem_tree.specs.Tree.{Tree, is_child, children_of, place_among}
use Rattle.hem_system.specs.declared.lane.Lane.{Lane}
use Rattle.hem_system.specs.declared.lane.Lane.TheVariants.{UpRequests, UpResponses, Down, Requests, Answers}
use Rattle.hem_system.specs.State.{takes}
use Rattle.hem_system.proofs.Kids.{child_at, at_child}
use Rattle.hem_system.proofs.Own.{slice_get-map_each}
use Rattle.hem_rows.proofs.Choices.{both, if_mapped}
use Rattle.hem_law.proofs.AllLines.{same_elements}
use Rattle.hem_parts.specs.Stamps.{first_stamp, IsStamp}
use Rattle.hem_parts.specs.Steps.{first_message, first_request, heads_from}
use Rattle.hem_parts.proofs.AllRun.{there-too, none-too}
use Rattle.hem_wire.specs.Seen.{Getting}
use Rattle.hem_ends.specs.declared.kids.KidLook.{KidLook}
use Rattle.hem_ends.specs.Ends.{Kid, Ends, head_of, kid_look, look_of}
use Rattle.hem_choice.specs.Choices.{message_in, stamp_in, request_of, heads_of, greatest, response_stamps, stamps_taken, stamp_after}
use Rattle.hem_turns.specs.OnLine.{OnLine, asked, sight_of}
use Rattle.hem_worker.specs.LineParts.{known_by}
use Rattle.hem_worker.proofs.Named.{IsNamed}

-- the ends of the edge to a child stand at the child's place
pub kid-there : (tree : Tree) (o : ℕ) (kids : List Kid) (k : ℕ) → length kids ≡ length (children_of tree o) → is_child tree k o ≡ true → (kid : Kid) × (slice_get kids (place_among tree o k) ≡ Some kid)
kid-there tree o kids k count child = there-too (children_of tree o) kids (place_among tree o k) k count (child_at tree o k child)

-- the named child's first request
look-at : (kids : List Kid) (i : ℕ) (kid : Kid) → slice_get kids i ≡ Some kid → slice_get (map kid_look kids) i ≡ Some (kid_look kid)
look-at kids i kid at = slice_get-map kid_look kids i ∙ ap (option_map kid_look) at

request-seen : (tree : Tree) (o : ℕ) (ends : Ends) (i : ℕ) (child : ObjectId) → length ends.kids ≡ length (children_of tree o) → IsNamed tree o (Some i) (Some child) → request_of (look_of ends) (Some i) ≡ slice_get (known_by tree o ends child.0 UpRequests) 0
request-seen tree o ends i child count named =
    let kid = kid-there tree o ends.kids child.0 count named.own in
    let place : place_among tree o child.0 ≡ i = (let both : Some (place_among tree o child.0) ≡ Some i = named.place in cc) in
    let at : slice_get ends.kids i ≡ Some kid.0 = ap (slice_get ends.kids) (sym place) ∙ kid.1 in
    ap (option_and_then (λ (look : KidLook). look.request)) (look-at ends.kids i kid.0 at)
    ∙ sym (ap (λ o. slice_get (option_map_or (λ (kid : Kid). kid.requests.known) o []) 0) kid.1)

request-same : (tree : Tree) (k : ℕ) (line : OnLine) (o : ℕ) (me : Option ℕ) (named : Option ObjectId) → length line.ends.kids ≡ length (children_of tree o) → IsNamed tree o me named → (heads_of (sight_of k line) me).request ≡ first_request (asked line) (known_by tree o line.ends) named
request-same tree k line o None None count named = refl
request-same tree k line o None (Some child) count named = let clash : false ≡ true = named.none in cc
request-same tree k line o (Some i) None count named = let clash : true ≡ false = named.none in cc
request-same tree k line o (Some i) (Some child) count named = ap message_in (request-seen tree o line.ends i child count named)

-- the parent's first message
down-seen : (down : Option Getting) → option_map_or head_of down None ≡ slice_get (option_map_or (λ (getting : Getting). getting.known) down []) 0
down-seen None = refl
down-seen (Some getting) = refl

-- the first responses of all children
kids-seen : (tree : Tree) (o : ℕ) (ends : Ends) → length ends.kids ≡ length (children_of tree o) → map (λ (look : KidLook). message_in look.response) (map kid_look ends.kids) ≡ map (λ k. first_message (known_by tree o ends k UpResponses)) (children_of tree o)
kids-seen tree o ends count = same_elements _ _ (λ i. by_child i (slice_get (children_of tree o) i) refl)
  where
    head_in : ℕ → Option Message
    head_in k = first_message (known_by tree o ends k UpResponses)

    left : (i : ℕ) (found : Option Kid) → slice_get ends.kids i ≡ found → slice_get (map (λ (look : KidLook). message_in look.response) (map kid_look ends.kids)) i ≡ option_map (λ (look : KidLook). message_in look.response) (option_map kid_look found)
    left i found at = slice_get-map (λ (look : KidLook). message_in look.response) (map kid_look ends.kids) i ∙ ap (option_map (λ (look : KidLook). message_in look.response)) (slice_get-map kid_look ends.kids i ∙ ap (option_map kid_look) at)

    by_child : (i : ℕ) (child : Option ℕ) → slice_get (children_of tree o) i ≡ child → slice_get (map (λ (look : KidLook). message_in look.response) (map kid_look ends.kids)) i ≡ slice_get (map head_in (children_of tree o)) i
    by_child i None at = left i None (none-too (children_of tree o) ends.kids i count at) ∙ sym (slice_get-map head_in (children_of tree o) i ∙ ap (option_map head_in) at)
    by_child i (Some k) at =
        let kid = there-too (children_of tree o) ends.kids i k count at in
        let place = (at_child tree o i k at).1 in
        let here : slice_get ends.kids (place_among tree o k) ≡ Some kid.0 = ap (slice_get ends.kids) place ∙ kid.1 in
        left i (Some kid.0) kid.1
        ∙ sym (slice_get-map head_in (children_of tree o) i ∙ ap (option_map head_in) at ∙ ap (λ found. Some (first_message (option_map_or (λ (kid : Kid). kid.responses.known) found []))) here)

-- the heads that are seen are those of what waits
pub heads-same : (tree : Tree) (k : ℕ) (line : OnLine) (o : ℕ) (me : Option ℕ) (named : Option ObjectId) → length line.ends.kids ≡ length (children_of tree o) → IsNamed tree o me named → heads_of (sight_of k line) me ≡ heads_from tree (asked line) (known_by tree o line.ends) o named
heads-same tree k line o me named count is =
    λ i. record {
      request = request-same tree k line o me named count is i;
      parent = ap message_in (down-seen line.ends.down) i;
      kids = kids-seen tree o line.ends count i;
    }

-- the greatest of numbers
max-one : (a b : ℕ) → (max a b ≡ a) ⊎ (max a b ≡ b)
max-one a b = grind arith

at-most : (ns : List ℕ) (i n : ℕ) → slice_get ns i ≡ Some n → n ≤ greatest ns
at-most [] i n at = cc
at-most (m ∷ ns) zero n at = let same : m ≡ n = cc in subst (λ n. n ≤ greatest (m ∷ ns)) same (le-max_left m (greatest ns))
at-most (m ∷ ns) (suc i) n at = let le = le-max_right m (greatest ns) in let rest = at-most ns i n at in omega (arith, le, rest)

greatest-of : (P : ℕ → Type 0) (ns : List ℕ) → ((i n : ℕ) → slice_get ns i ≡ Some n → P n) → (greatest ns ≡ 0) ⊎ P (greatest ns)
greatest-of P [] all = inl refl
greatest-of P (n ∷ ns) all =
    elim (max-one n (greatest ns)) [
      | inl first ↦ inr (subst P (sym first) (all 0 n refl))
      | inr rest ↦ elim (greatest-of P ns (λ i m at. all (suc i) m at)) [ inl none ↦ inl (rest ∙ none) | inr it ↦ inr (subst P (sym rest) it) ]
    ]

both-true : (a b : Bool) → a ≡ true → b ≡ true → (a && b) ≡ true
both-true true b one two = two
both-true false b one two = one

-- the stamp of a firing is the right one of its event
module _ (tree : Tree) (f : Firing) (took : Heads) (outs : Outs) (ends : Ends) (me : Option ℕ) (count : length ends.kids ≡ length (children_of tree f.object.0)) (named : IsNamed tree f.object.0 me f.me) where
  abbrev waiting : ℕ → Lane → List Carried
  waiting k lane = known_by tree f.object.0 ends k lane

  abbrev Source : ℕ → Type 0
  Source n = (k : ℕ) × (lane : Lane) × (lane ≢ Requests) × (takes tree f outs k lane ≡ true) × (n ≡ first_stamp (waiting k lane))

  -- the stamp of the named child's request
  request-stamp : (me : Option ℕ) (child : Option ObjectId) → IsNamed tree f.object.0 me child → (k : ℕ) → option_map_or (λ (child : ObjectId). child.0 == k) child false ≡ true → stamp_in (request_of (look_of ends) me) ≡ first_stamp (waiting k UpRequests)
  request-stamp me None named k same = cc
  request-stamp None (Some child) named k same = let clash : false ≡ true = named.none in cc
  request-stamp (Some i) (Some child) named k same = ap stamp_in (request-seen tree f.object.0 ends i child count named) ∙ ap (λ n. first_stamp (waiting n UpRequests)) (eqb-true child.0 k same)

  response-stamp : (i k : ℕ) (kid : Kid) → slice_get ends.kids i ≡ Some kid → place_among tree f.object.0 k ≡ i → stamp_in (head_of kid.responses) ≡ first_stamp (waiting k UpResponses)
  response-stamp i k kid at place = sym (ap (λ found. first_stamp (option_map_or (λ (kid : Kid). kid.responses.known) found [])) (ap (slice_get ends.kids) place ∙ at))

  response-at : (i : ℕ) → slice_get (response_stamps outs.taken_kids (map kid_look ends.kids)) i ≡ option_map (λ (kid : KidLook). cond (has_bit outs.taken_kids.0 i) (stamp_in kid.response) 0) (option_map kid_look (slice_get ends.kids i))
  response-at i =
      let place : 0 + i ≡ i = omega arith in
      slice_get-map_each (λ k (kid : KidLook). cond (has_bit outs.taken_kids.0 k) (stamp_in kid.response) 0) 0 (map kid_look ends.kids) i
      ∙ ap (λ j. option_map (λ (kid : KidLook). cond (has_bit outs.taken_kids.0 j) (stamp_in kid.response) 0) (slice_get (map kid_look ends.kids) i)) place
      ∙ ap (option_map (λ (kid : KidLook). cond (has_bit outs.taken_kids.0 i) (stamp_in kid.response) 0)) (slice_get-map kid_look ends.kids i)

  -- each message that is taken has a stamp among those
  first-below : (k : ℕ) (lane : Lane) → lane ≢ Requests → takes tree f outs k lane ≡ true → first_stamp (waiting k lane) ≤ greatest (stamps_taken (look_of ends) me outs)
  first-below k UpRequests other is =
      let parts = both (outs.taken_request && option_map_or (λ (child : ObjectId). child.0 == k) f.me false) (is_child tree k f.object.0) is in
      let two = both outs.taken_request (option_map_or (λ (child : ObjectId). child.0 == k) f.me false) parts.0 in
      at-most (stamps_taken (look_of ends) me outs) 0 (first_stamp (waiting k UpRequests)) (ap Some (ap (λ b. cond b (stamp_in (request_of (look_of ends) me)) 0) two.0 ∙ request-stamp me f.me named k two.1))
  first-below k Down other is =
      let parts = both outs.taken_parent (k == f.object.0) is in
      at-most (stamps_taken (look_of ends) me outs) 1 (first_stamp (waiting k Down)) (ap Some (ap (λ b. cond b (stamp_in (option_map_or head_of ends.down None)) 0) parts.0 ∙ ap stamp_in (down-seen ends.down)))
  first-below k UpResponses other is =
      let parts = both (is_child tree k f.object.0) (has_bit outs.taken_kids.0 (place_among tree f.object.0 k)) is in
      let i = place_among tree f.object.0 k in
      let kid = kid-there tree f.object.0 ends.kids k count parts.0 in
      let entry : slice_get (response_stamps outs.taken_kids (map kid_look ends.kids)) i ≡ Some (first_stamp (waiting k UpResponses)) =
      response-at i
      ∙ ap (λ found. option_map (λ (kid : KidLook). cond (has_bit outs.taken_kids.0 i) (stamp_in kid.response) 0) (option_map kid_look found)) kid.1
      ∙ ap (λ b. Some (cond b (stamp_in (head_of kid.0.responses)) 0)) parts.1
      ∙ ap Some (response-stamp i k kid.0 kid.1 refl) in
      at-most (stamps_taken (look_of ends) me outs) (suc (suc i)) (first_stamp (waiting k UpResponses)) entry
  first-below k Requests other is = absurd (other refl)
  first-below k Answers other is = cc

  -- and each of those but 0 is of a message that is taken
  abbrev IsSource : ℕ → Type 0
  IsSource n = (n ≡ 0) ⊎ Source n

  request-source : (b : Bool) → outs.taken_request ≡ b → (me : Option ℕ) (child : Option ObjectId) → f.me ≡ child → IsNamed tree f.object.0 me child → IsSource (cond b (stamp_in (request_of (look_of ends) me)) 0)
  request-source false taken me child same named = inl refl
  request-source true taken None child same named = inl refl
  request-source true taken (Some i) None same named = let clash : true ≡ false = named.none in cc
  request-source true taken (Some i) (Some child) same named =
      let it : option_map_or (λ (c : ObjectId). c.0 == child.0) f.me false ≡ true = ap (λ me. option_map_or (λ (c : ObjectId). c.0 == child.0) me false) same ∙ eq-eqb child.0 child.0 refl in
      inr (child.0, UpRequests, (λ is. cc), both-true _ _ (both-true _ _ taken it) named.own, request-stamp (Some i) (Some child) named child.0 (eq-eqb child.0 child.0 refl))

  parent-source : (b : Bool) → outs.taken_parent ≡ b → IsSource (cond b (stamp_in (option_map_or head_of ends.down None)) 0)
  parent-source false taken = inl refl
  parent-source true taken = inr (f.object.0, Down, (λ is. cc), both-true _ _ taken (eq-eqb f.object.0 f.object.0 refl), ap stamp_in (down-seen ends.down))

  response-source : (i : ℕ) (kid : Kid) (b : Bool) → slice_get ends.kids i ≡ Some kid → has_bit outs.taken_kids.0 i ≡ b → IsSource (cond b (stamp_in (head_of kid.responses)) 0)
  response-source i kid false at bit = inl refl
  response-source i kid true at bit =
      let child = there-too ends.kids (children_of tree f.object.0) i kid (sym count) at in
      let is = at_child tree f.object.0 i child.0 child.1 in
      inr (child.0, UpResponses, (λ is. cc), both-true _ _ is.0 (ap (has_bit outs.taken_kids.0) is.1 ∙ bit), response-stamp i child.0 kid at is.1)

  each-source : (i n : ℕ) → slice_get (stamps_taken (look_of ends) me outs) i ≡ Some n → IsSource n
  each-source zero n at = let same : cond outs.taken_request (stamp_in (request_of (look_of ends) me)) 0 ≡ n = cc in subst IsSource same (request-source outs.taken_request refl me f.me refl named)
  each-source (suc zero) n at = let same : cond outs.taken_parent (stamp_in (option_map_or head_of ends.down None)) 0 ≡ n = cc in subst IsSource same (parent-source outs.taken_parent refl)
  each-source (suc (suc i)) n at =
      let one = if_mapped (λ (kid : KidLook). cond (has_bit outs.taken_kids.0 i) (stamp_in kid.response) 0) (option_map kid_look (slice_get ends.kids i)) n (sym (response-at i) ∙ at) in
      let two = if_mapped kid_look (slice_get ends.kids i) one.0 one.1 in
      subst IsSource (ap (λ (look : KidLook). cond (has_bit outs.taken_kids.0 i) (stamp_in look.response) 0) two.2 ∙ one.2) (response-source i two.0 (has_bit outs.taken_kids.0 i) two.1 refl)

  pub stamp-right : (last : ℕ) → IsStamp tree (known_by tree f.object.0 ends) last (record { firing = f; took = took; outs = outs }) (stamp_after last (look_of ends) me outs)
  stamp-right last =
      let most = greatest (stamps_taken (look_of ends) me outs) in
      let right = le-max_right last most in
      let left = le-max_left last most in
      record {
        above_last = omega (arith, left);
        above_taken = λ k lane other is. let le = first-below k lane other is in omega (arith, le, right);
        least = least last most (max-one last most) (greatest-of IsSource (stamps_taken (look_of ends) me outs) each-source);
      }
    where
      IsLeast : ℕ → ℕ → Type 0
      IsLeast last n = (n ≡ last + 1) ⊎ ((k : ℕ) × (lane : Lane) × (lane ≢ Requests) × (takes tree f outs k lane ≡ true) × (n ≡ first_stamp (known_by tree f.object.0 ends k lane) + 1))

      of_source : (last most : ℕ) → max last most ≡ most → IsSource most → IsLeast last (suc (max last most))
      of_source last most is (inl none) = let le = le-max_left last most in inl (omega (arith, is, none, le))
      of_source last most is (inr it) = inr (it.0, it.1, it.2, it.3, (let same = it.4 in omega (arith, is, same)))

      least : (last most : ℕ) → (max last most ≡ last) ⊎ (max last most ≡ most) → (most ≡ 0) ⊎ IsSource most → IsLeast last (suc (max last most))
      least last most (inl is) some = inl (omega (arith, is))
      least last most (inr is) (inl none) = of_source last most is (inl none)
      least last most (inr is) (inr it) = of_source last most is it
