-- A firing with what waits in an object's lists is the next event of its part.
use Rattle.std.proofs.Common.{◌≡◌, ◌≢◌, refl, ap, sym, ◌∙◌, subst, ℕ, Bool, true, false, ◌&&◌, cond, List, [], ◌∷◌, ◌++◌, take, drop, Option, Some, None}
use Rattle.std.specs.Prelude.{◌==◌, slice_get, option_and_then, option_to_list, is_none}
use Rattle.std.specs.Option.{option_map_or}
use Rattle.std.proofs.lemmas.Bool.{eqb-true}
use Rattle.std.proofs.lemmas.List.{length-map}
use Rattle.hem_base.specs.Sets.{has_bit}
use Rattle.hem_base.specs.declared.ids.ObjectId.{ObjectId}
use Rattle.hem_base.specs.declared.ids.Message.{Message}
use Rattle.hem_base.specs.declared.ids.Carried.{Carried}
use Rattle.hem_base.specs.declared.ids.Firing.{Firing}
use Rattle.hem_syntax.specs.Protocol.{Protocol}
use Rattle.hem_object.specs.Local.{Local}
use Rattle.hem_tree.specs.Tree.{Tree, is_child, children_of, place_among}
use Rattle.hem_fire.specs.OneFire.{Heads}
use Rattle.hem_system.specs.declared.lane.Lane.{Lane}
use Rattle.hem_system.specs.declared.lane.Lane.TheVariants.{UpRequests, UpResponses, Down, Requests, Answers}
use Rattle.hem_system.specs.State.{Effect, own_effect, takes}
use Rattle.hem_trace.specs.History.{head_seen}
use Rattle.hem_rows.proofs.Choices.{both}
use Rattle.hem_law.proofs.Taken.{HasMessage, takes-there, kid-at}
use Rattle.hem_parts.specs.Parts.{Part, messages_of}
use Rattle.hem_parts.specs.Stamps.{first_stamp, IsStamp, last_stamp}
use Rattle.hem_parts.specs.Steps.{IsNext, head_among, first_message, first_request, heads_from, taken_from}
use Rattle.hem_system.specs.Events.{event_of}
use Rattle.hem_parts.proofs.Step.{stamp-same}
use Rattle.hem_parts.proofs.Fired.{fired-steps, fired-sees}

-- the head of a list from which the firing takes is the first message that waits there
head-waits : (tree : Tree) (f : Firing) (e : Effect) (requests : List Message) (waiting : ℕ → Lane → List Carried) (k : ℕ) (lane : Lane) → lane ≢ Requests → takes tree f e.outs k lane ≡ true → head_among tree f.object.0 (heads_from tree requests waiting f.object.0 f.me) k lane ≡ first_message (waiting k lane)
head-waits tree f e requests waiting k UpRequests other t = named f.me (both e.outs.taken_request _ (both (e.outs.taken_request && option_map_or (λ child. child.0 == k) f.me false) (is_child tree k f.object.0) t).0).1
  where
    named : (me : Option ObjectId) → option_map_or (λ child. child.0 == k) me false ≡ true → first_request requests waiting me ≡ first_message (waiting k UpRequests)
    named None is = cc
    named (Some child) is = ap (λ i. first_message (waiting i UpRequests)) (eqb-true child.0 k is)
head-waits tree f e requests waiting k UpResponses other t =
    ap (option_and_then (λ head. head)) (kid-at tree f.object.0 k (λ k. first_message (waiting k UpResponses)) (both (is_child tree k f.object.0) (has_bit e.outs.taken_kids.0 (place_among tree f.object.0 k)) t).0)
head-waits tree f e requests waiting k Down other t = ap (λ i. first_message (waiting i Down)) (sym (eqb-true k f.object.0 (both e.outs.taken_parent (k == f.object.0) t).1))
head-waits tree f e requests waiting k Requests other t = absurd (other refl)
head-waits tree f e requests waiting k Answers other t = cc

-- the first message as a list
first-taken : (cs : List Carried) → messages_of (take 1 cs) ≡ option_to_list (first_message cs)
first-taken [] = refl
first-taken (c ∷ cs) = refl

first-stamp : (cs : List Carried) → first_stamp (take 1 cs) ≡ first_stamp cs
first-stamp [] = refl
first-stamp (c ∷ cs) = refl

-- what is taken of the requests, and what is left of them
asked : (b : Bool) (seen : Option Message) (requests : List Message) → (b ≡ true → HasMessage (slice_get requests 0)) → (b ≡ true → seen ≡ slice_get requests 0) → cond b (option_to_list seen) [] ++ drop (cond b 1 0) requests ≡ requests
asked false seen requests there is = refl
asked true seen [] there is = let it = there refl in absurd (let none : None ≡ Some it.0 = it.1 in cc)
asked true seen (m ∷ requests) there is = ap (λ head. option_to_list head ++ requests) (is refl)

-- the processor's request is there, where it is taken
request-there : (p : Protocol) (tree : Tree) (f : Firing) (now : Local) (requests : List Message) (waiting : ℕ → Lane → List Carried) (e : Effect) (o : ℕ) → own_effect p tree f now (heads_from tree requests waiting f.object.0 f.me) ≡ Some e → takes tree f e.outs o Requests ≡ true → (HasMessage (slice_get requests 0)) × (first_request requests waiting f.me ≡ slice_get requests 0)
request-there p tree f now requests waiting e o fires t =
    let parts = both e.outs.taken_request (is_none f.me) (both (e.outs.taken_request && is_none f.me) (o == f.object.0) t).0 in
    let same = unnamed f.me parts.1 in
    (subst HasMessage same ((takes-there p tree f now (heads_from tree requests waiting f.object.0 f.me) e fires).request parts.0), same)
  where
    unnamed : (me : Option ObjectId) → is_none me ≡ true → first_request requests waiting me ≡ slice_get requests 0
    unnamed None is = refl
    unnamed (Some child) is = cc

-- a firing of an object with what waits in its lists
pub fired-next : (p : Protocol) (tree : Tree) (l o : ℕ) (part : Part) (f : Firing) (now : Local) (requests : List Message) (waiting : ℕ → Lane → List Carried) (e : Effect) (stamp : ℕ) → f.line.0 ≡ l → f.object.0 ≡ o → own_effect p tree f now (heads_from tree requests waiting f.object.0 f.me) ≡ Some e → IsStamp tree waiting (last_stamp 0 part.made) (event_of f e) stamp → IsNext p tree l o part (Some now) requests (record { event = event_of f e; stamp = stamp }) (taken_from tree f e.outs waiting) e.after (drop (cond (takes tree f e.outs o Requests) 1 0) requests)
fired-next p tree l o part f now requests waiting e stamp line object fires is =
    record {
      own = record { line = line; object = object };
      fires = fired-steps p tree f now heads e (length-map (children_of tree f.object.0) (λ k. first_message (waiting k UpResponses))) fires;
      asks = asked (takes tree f e.outs o Requests) (head_seen tree (event_of f e) o Requests) requests (λ t. (request-there p tree f now requests waiting e o fires t).0) (λ t. fired-sees p tree f now heads e o Requests fires t ∙ (request-there p tree f now requests waiting e o fires t).1);
      takes = λ k lane other mine. taken k lane other (takes tree f e.outs k lane) refl;
      stamp = stamp-same tree waiting (taken_from tree f e.outs waiting) (last_stamp 0 part.made) (event_of f e) stamp (λ k lane other t. ap (λ b. first_stamp (cond b (take 1 (waiting k lane)) [])) t ∙ first-stamp (waiting k lane)) is;
    }
  where
    heads : Heads
    heads = heads_from tree requests waiting f.object.0 f.me

    taken : (k : ℕ) (lane : Lane) → lane ≢ Requests → (b : Bool) → takes tree f e.outs k lane ≡ b → messages_of (cond b (take 1 (waiting k lane)) []) ≡ cond b (option_to_list (head_seen tree (event_of f e) k lane)) []
    taken k lane other true t = first-taken (waiting k lane) ∙ ap option_to_list (sym (fired-sees p tree f now heads e k lane fires t ∙ head-waits tree f e requests waiting k lane other t))
    taken k lane other false t = refl
