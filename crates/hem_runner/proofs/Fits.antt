-- The workers of an edge fit together.
use Rattle.std.proofs.Common.{◌≡◌, ap, sym, ◌∙◌, subst, ℕ, ◌<◌, arith, List, map, length, Option, Some, None}
use Rattle.std.specs.Prelude.{slice_get, option_map, option_and_then}
use Rattle.std.proofs.lemmas.Option.{slice_get_within, slice_get-map, same_Some}
use Rattle.std.proofs.lemmas.List.{length-map}
use Rattle.hem_base.specs.declared.ids.ObjectId.{ObjectId}
use Rattle.hem_syntax.specs.Protocol.{Protocol}
use Rattle.hem_tree.specs.Tree.{Tree, IsTree, parent_of, children_of, place_among}
use Rattle.hem_tree.proofs.Early.{lawful_early}
use Rattle.hem_locks.proofs.Still.{child_within}
use Rattle.hem_system.specs.State.{State}
use Rattle.hem_system.proofs.Kids.{child_at, at_child}
use Rattle.hem_system.proofs.Takers.{parent_is}
use Rattle.hem_parts.proofs.AllRun.{there-too}
use Rattle.hem_wire.specs.Channel.{Channel}
use Rattle.hem_wire.specs.Seen.{Giving, Getting}
use Rattle.hem_ends.specs.Ends.{Kid, IfThere}
use Rattle.hem_turns.specs.OnLine.{OnLine}
use Rattle.hem_worker.specs.Workers.{Worker}
use Rattle.hem_worker.specs.Edges.{KidChannels, channels_of, channels}
use Rattle.hem_crew.specs.Crew.{IsCrew, channels_at}
use Rattle.hem_crew.proofs.Edges.{channels-there, own-child}
use Rattle.hem_runner.specs.Settles.{IsCrewOf, FitTogether}

-- an end whose channel is known
end-is : {A : Type 0} (F : A → Channel) (end : Option A) (c : Channel) → option_map F end ≡ Some c → IfThere (λ a. F a ≡ c) end
end-is F None c is = tt
end-is F (Some a) c is = let same : F a ≡ c = cc in same

is-end : {A : Type 0} (F : A → Channel) (end : Option A) (c : Channel) → option_map F end ≡ Some c → IfThere (λ a. c ≡ F a) end
is-end F None c is = tt
is-end F (Some a) c is = let same : c ≡ F a = cc in same

abbrev kid_channels : Kid → KidChannels
kid_channels kid = record { requests = kid.requests.channel; responses = kid.responses.channel; down = kid.down.channel }

module _ (p : Protocol) (tree : Tree) (begun : State) (k slots : ℕ) (crew : List Worker) (is : IsCrew p tree begun k slots crew) where
  -- the channels of an object on a line
  channels-are : (l o : ℕ) (w : Worker) (line : OnLine) → slice_get crew o ≡ Some w → slice_get w.lines l ≡ Some line → channels_at (map channels crew) l o ≡ Some (channels_of line.ends)
  channels-are l o w line there at =
      channels-there crew l o ∙ ap (option_map (λ (line : OnLine). channels_of line.ends)) (ap (option_and_then (λ (w : Worker). slice_get w.lines l)) there ∙ at)

  pub workers-fit : (high low : ℕ) (upper lower : Worker) → parent_of tree low ≡ Some high → slice_get crew high ≡ Some upper → slice_get crew low ≡ Some lower → FitTogether (place_among tree high low) upper lower
  workers-fit high low upper lower parent up_there low_there =
      let up = is.each high upper up_there in
      let down = is.each low lower low_there in
      let size = sym (length-map upper.children (λ (id : ObjectId). id.0)) ∙ ap length up.parts.stands.children_are ∙ ap (λ o. length (children_of tree o)) up.object in
      let child = there-too (children_of tree high) upper.children (place_among tree high low) low size (child_at tree high low (own-child tree low high parent)) in
      record {
        there = slice_get_within upper.children (place_among tree high low) child.0 child.1;
        lines = down.lines ∙ sym up.lines;
        joined = λ l a b kid at here this.
            let both = is.wired.edges l low high (channels_of b.ends) (channels_of a.ends) parent (channels-are l low lower b low_there here) (channels-are l high upper a up_there at) in
            let one : Some (kid_channels kid) ≡ Some both.kid = sym (slice_get-map kid_channels a.ends.kids (place_among tree high low) ∙ ap (option_map kid_channels) this) ∙ both.there in
            let same : both.kid ≡ kid_channels kid = sym (same_Some (kid_channels kid) both.kid one) in
            record {
              requests = end-is (λ (giving : Giving). giving.channel) b.ends.up_requests kid.requests.channel (both.edge.requests ∙ ap (λ (c : KidChannels). Some c.requests) same);
              responses = end-is (λ (giving : Giving). giving.channel) b.ends.up_responses kid.responses.channel (both.edge.responses ∙ ap (λ (c : KidChannels). Some c.responses) same);
              down = is-end (λ (getting : Getting). getting.channel) b.ends.down kid.down.channel (both.edge.down ∙ ap (λ (c : KidChannels). Some c.down) same);
            };
      }

-- the child at a place of its parent, in a crew of the tree
pub record IsChildAt (tree : Tree) (crew : List Worker) (high place low : ℕ) : Type 0 where
  pub parent : parent_of tree low ≡ Some high
  pub place_is : place_among tree high low ≡ place
  pub later : high < low
  pub inside : low < length crew

pub child-of : (tree : Tree) (crew : List Worker) (high place : ℕ) (ids : List ObjectId) (low : ObjectId) → IsTree tree → IsCrewOf tree crew → map (λ id. id.0) ids ≡ children_of tree high → slice_get ids place ≡ Some low → IsChildAt tree crew high place low.0
child-of tree crew high place ids low law is are at =
    let there : slice_get (children_of tree high) place ≡ Some low.0 = ap (λ (xs : List ℕ). slice_get xs place) (sym are) ∙ slice_get-map (λ (id : ObjectId). id.0) ids place ∙ ap (option_map (λ (id : ObjectId). id.0)) at in
    let child = at_child tree high place low.0 there in
    let parent = parent_is tree low.0 high child.0 in
    record {
      parent = parent;
      place_is = child.1;
      later = (lawful_early tree law).early low.0 high parent;
      inside = (let less = child_within tree low.0 high parent in let count = is.is.count in omega (arith, less, count));
    }

pub crew-fits : (tree : Tree) (crew : List Worker) (high place low : ℕ) → IsCrewOf tree crew → IsChildAt tree crew high place low → (upper lower : Worker) → slice_get crew high ≡ Some upper → slice_get crew low ≡ Some lower → FitTogether place upper lower
crew-fits tree crew high place low is child upper lower up_there low_there =
    subst (λ n. FitTogether n upper lower) child.place_is (workers-fit is.p tree is.begun is.k is.slots crew is.is high low upper lower child.parent up_there low_there)
