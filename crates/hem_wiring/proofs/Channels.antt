-- A new edge, and an object with the ends of one child more.
use Rattle.std.proofs.Common.{◌≡◌, refl, ap, sym, ◌∙◌, subst, ℕ, List, [], ◌∷◌, ◌++◌, length, map, ⊎_elim}
use Rattle.std.specs.Prelude.{slice_get, option_map}
use Rattle.std.proofs.lemmas.List.{map-append, length-map, append-nil}
use Rattle.std.proofs.lemmas.Option.{slice_get_within}
use Rattle.hem_tree.proofs.TreesOfTokens.{get_push}
use Rattle.hem_wire.specs.Seen.{Giving, Getting}
use Rattle.hem_ends.specs.Ends.{Kid, Ends}
use Rattle.hem_worker.specs.LineParts.{AreUnused}
use Rattle.hem_worker.specs.Edges.{KidChannels, channels_of}
use Rattle.hem_crew.specs.Crew.{AreJoinedAt, HasNoParent}
use Rattle.hem_wiring.specs.Wiring.{kid_channels, IsJoined}
use Rattle.hem_wiring.proofs.Pushed.{get_left, get_last}

-- an object's ends, perhaps with those of further children
pub record IsGrown (old new : Ends) : Type 0 where
  pub more : List Kid
  pub up_requests : new.up_requests ≡ old.up_requests
  pub up_responses : new.up_responses ≡ old.up_responses
  pub down : new.down ≡ old.down
  pub kids : new.kids ≡ old.kids ++ more

pub same_grown : (own : Ends) → IsGrown own own
same_grown own = record { more = []; up_requests = refl; up_responses = refl; down = refl; kids = sym (append-nil own.kids) }

pub joined_grown : (slots : ℕ) (old new low : Ends) → IsJoined slots old new low → IsGrown old new
joined_grown slots old new low joined =
    record {
      more = joined.kid ∷ [];
      up_requests = ap (λ (e : Ends). e.up_requests) joined.after;
      up_responses = ap (λ (e : Ends). e.up_responses) joined.after;
      down = ap (λ (e : Ends). e.down) joined.after;
      kids = ap (λ (e : Ends). e.kids) joined.after;
    }

-- an edge stays one as the ends of further children come
pub grown_edge : (slots place : ℕ) (up up_next low low_next : Ends) → IsGrown up up_next → IsGrown low low_next → AreJoinedAt slots place (channels_of up) (channels_of low) → AreJoinedAt slots place (channels_of up_next) (channels_of low_next)
grown_edge slots place up up_next low low_next upper lower joined =
    record {
      kid = joined.kid;
      there =
          ap (λ (kids : List Kid). slice_get (map kid_channels kids) place) upper.kids
          ∙ ap (λ (xs : List KidChannels). slice_get xs place) (map-append kid_channels up.kids upper.more)
          ∙ get_left (map kid_channels up.kids) (map kid_channels upper.more) place (slice_get_within (map kid_channels up.kids) place joined.kid joined.there)
          ∙ joined.there;
      edge = record {
        requests = ap (option_map (λ (giving : Giving). giving.channel)) lower.up_requests ∙ joined.edge.requests;
        responses = ap (option_map (λ (giving : Giving). giving.channel)) lower.up_responses ∙ joined.edge.responses;
        down = ap (option_map (λ (getting : Getting). getting.channel)) lower.down ∙ joined.edge.down;
        request_slots = joined.edge.request_slots;
        response_slots = joined.edge.response_slots;
        down_slots = joined.edge.down_slots;
      };
    }

pub grown_root : (old new : Ends) → IsGrown old new → HasNoParent (channels_of old) → HasNoParent (channels_of new)
grown_root old new grown none =
    record {
      requests = ap (option_map (λ (giving : Giving). giving.channel)) grown.up_requests ∙ none.requests;
      responses = ap (option_map (λ (giving : Giving). giving.channel)) grown.up_responses ∙ none.responses;
      down = ap (option_map (λ (getting : Getting). getting.channel)) grown.down ∙ none.down;
    }

-- the new edge stands after those of the other children
pub last_edge : (slots place : ℕ) (up next low : Ends) → length up.kids ≡ place → IsJoined slots up next low → AreJoinedAt slots place (channels_of next) (channels_of low)
last_edge slots place up next low size joined =
    record {
      kid = kid_channels joined.kid;
      there =
          ap (λ (e : Ends). slice_get (map kid_channels e.kids) place) joined.after
          ∙ ap (λ (xs : List KidChannels). slice_get xs place) (map-append kid_channels up.kids (joined.kid ∷ []))
          ∙ ap (slice_get (map kid_channels up.kids ++ kid_channels joined.kid ∷ [])) (sym size ∙ sym (length-map up.kids kid_channels))
          ∙ get_last (map kid_channels up.kids) (kid_channels joined.kid);
      edge = joined.edge.edge;
    }

-- nothing went over the ends of one child more
more_unused : (old : Ends) (kid : Kid) → AreUnused old → kid.requests.received ≡ [] → kid.responses.received ≡ [] → kid.down.sent ≡ [] → AreUnused (record old { kids = old.kids ++ kid ∷ [] })
more_unused old kid unused requests responses down =
    record {
      up_requests = unused.up_requests;
      up_responses = unused.up_responses;
      down = unused.down;
      requests = λ i k at. ⊎_elim (λ before. unused.requests i k before.1) (λ last. subst (λ (k : Kid). k.requests.received ≡ []) last.1 requests) (get_push old.kids kid i k at);
      responses = λ i k at. ⊎_elim (λ before. unused.responses i k before.1) (λ last. subst (λ (k : Kid). k.responses.received ≡ []) last.1 responses) (get_push old.kids kid i k at);
      kids = λ i k at. ⊎_elim (λ before. unused.kids i k before.1) (λ last. subst (λ (k : Kid). k.down.sent ≡ []) last.1 down) (get_push old.kids kid i k at);
    }

pub joined_unused : (slots : ℕ) (old new low : Ends) → IsJoined slots old new low → AreUnused old → AreUnused new
joined_unused slots old new low joined unused = subst AreUnused (sym joined.after) (more_unused old joined.kid unused joined.edge.requests joined.edge.responses joined.edge.down)
