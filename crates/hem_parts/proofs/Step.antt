-- A part that grows by one event stays a part.
use Rattle.std.proofs.Common.{◌≡◌, ◌≢◌, refl, ap, sym, ◌∙◌, subst, ℕ, ◌+◌, ◌<◌, Bool, true, false, cond, List, [], ◌∷◌, ◌++◌, drop, append_assoc, Option, Some, None, inl, inr}
use Rattle.std.specs.Prelude.{option_to_list}
use Rattle.std.proofs.lemmas.List.{append-nil, map-append}
use Rattle.std.proofs.lemmas.Grind.{flat_map-append}
use Rattle.hem_base.specs.declared.ids.Message.{Message}
use Rattle.hem_base.specs.declared.ids.Carried.{Carried}
use Rattle.hem_syntax.specs.Protocol.{Protocol}
use Rattle.hem_object.specs.Local.{Local}
use Rattle.hem_tree.specs.Tree.{Tree}
use Rattle.hem_system.specs.declared.lane.Lane.{Lane}
use Rattle.hem_system.specs.declared.lane.Lane.TheVariants.{Requests}
use Rattle.hem_system.specs.State.{takes, taker_of}
use Rattle.hem_system.proofs.Takers.{taker_is}
use Rattle.hem_system.specs.Events.{Event}
use Rattle.hem_trace.specs.History.{head_seen}
use Rattle.hem_trace.specs.Blocks.{Each}
use Rattle.hem_law.specs.Chains.{IsChain}
use Rattle.hem_law.specs.Flows.{taken_on, all_taken}
use Rattle.hem_law.proofs.Taken.{HasMessage}
use Rattle.hem_law.proofs.Flowing.{SeesTaken, chain-sees}
use Rattle.hem_law.proofs.ListFacts.{each-append}
use Rattle.hem_law.proofs.WindowChains.{chain-append}
use Rattle.hem_parts.specs.Parts.{Made, Part, events_of, messages_of, carried_on, all_carried}
use Rattle.hem_parts.specs.Stamps.{first_stamp, left_after, IsStamp, AreStamped, last_stamp}
use Rattle.hem_parts.specs.Tied.{IsOwn, IsPart}
use Rattle.hem_parts.specs.Steps.{empty_part, lengthened, IsNext}

-- a stamp is right by the first messages alone that are taken
pub stamp-same : (tree : Tree) (left more : ℕ → Lane → List Carried) (last : ℕ) (e : Event) (stamp : ℕ) → ((k : ℕ) (lane : Lane) → lane ≢ Requests → takes tree e.firing e.outs k lane ≡ true → first_stamp (more k lane) ≡ first_stamp (left k lane)) → IsStamp tree left last e stamp → IsStamp tree more last e stamp
stamp-same tree left more last e stamp same is =
    record {
      above_last = is.above_last;
      above_taken = λ k lane other t. subst (λ n. n < stamp) (sym (same k lane other t)) (is.above_taken k lane other t);
      least = elim is.least [ inl next ↦ inl next | inr it ↦ inr (it.0, it.1, it.2, it.3, it.4 ∙ ap (λ n. n + 1) (sym (same it.0 it.1 it.2 it.3))) ];
    }

-- what an event takes is the first of what is left to take, so that more behind it changes nothing
pub record IsTaken (b : Bool) (cs : List Carried) (taken : List Message) : Type 0 where
  pub rest : taken ≡ messages_of (drop (cond b 1 0) cs)
  pub behind : (more : List Carried) → drop (cond b 1 0) (cs ++ more) ≡ drop (cond b 1 0) cs ++ more
  pub first : (more : List Carried) → b ≡ true → first_stamp (cs ++ more) ≡ first_stamp cs

take-step : (b : Bool) (seen : Option Message) (cs : List Carried) (taken : List Message) → (b ≡ true → HasMessage seen) → cond b (option_to_list seen) [] ++ taken ≡ messages_of cs → IsTaken b cs taken
take-step false seen cs taken sees same = record { rest = same; behind = λ more. refl; first = λ more is. cc }
take-step true None cs taken sees same = let has = sees refl in absurd (let none : None ≡ Some has.0 = has.1 in cc)
take-step true (Some m) [] taken sees same = absurd cc
take-step true (Some m) (c ∷ cs) taken sees same = record { rest = (let tail : taken ≡ messages_of cs = cc in tail); behind = λ more. refl; first = λ more is. refl }

no-messages : (cs : List Carried) → [] ≡ messages_of cs → cs ≡ []
no-messages [] none = refl
no-messages (c ∷ cs) none = cc

-- the stamps of a part with one more event
stamped-longer : (tree : Tree) (l o : ℕ) (made : List Made) (left taken more : ℕ → Lane → List Carried) (last : ℕ) (x : Made) → Each (IsOwn l o) made → Each (SeesTaken tree) (events_of made) → ((k : ℕ) (lane : Lane) → lane ≢ Requests → taker_of tree k lane ≡ Some o → all_taken tree k lane (events_of made) ≡ messages_of (left k lane)) → ((k : ℕ) (lane : Lane) → lane ≢ Requests → taker_of tree k lane ≡ Some o → more k lane ≡ left k lane ++ taken k lane) → IsOwn l o x → AreStamped tree left last made → IsStamp tree taken (last_stamp last made) x.event x.stamp → AreStamped tree more last (made ++ x ∷ [])
stamped-longer tree l o [] left taken more last x own sees all longer own_x stamped stamp =
    (stamp-same tree taken more last x.event x.stamp (λ k lane other t. ap first_stamp (whole k lane other (taker_is tree x.event.firing x.event.outs k lane t ∙ ap Some own_x.object))) stamp, tt)
  where
    whole : (k : ℕ) (lane : Lane) → lane ≢ Requests → taker_of tree k lane ≡ Some o → more k lane ≡ taken k lane
    whole k lane other is = longer k lane other is ∙ ap (λ cs. cs ++ taken k lane) (no-messages (left k lane) (all k lane other is))
stamped-longer tree l o (y ∷ made) left taken more last x own sees all longer own_x stamped stamp = (
  stamp-same tree left more last y.event y.stamp (λ k lane other t. let mine = taker_is tree y.event.firing y.event.outs k lane t ∙ ap Some own.0.object in ap first_stamp (longer k lane other mine) ∙ (step k lane other mine).first (taken k lane) t) stamped.0,
  stamped-longer tree l o made (left_after tree y.event left) taken (left_after tree y.event more) y.stamp x own.1 sees.1
      (λ k lane other is. (step k lane other is).rest)
      (λ k lane other is. ap (drop (cond (takes tree y.event.firing y.event.outs k lane) 1 0)) (longer k lane other is) ∙ (step k lane other is).behind (taken k lane))
      own_x stamped.1 stamp,
)
  where
    step : (k : ℕ) (lane : Lane) → lane ≢ Requests → taker_of tree k lane ≡ Some o → IsTaken (takes tree y.event.firing y.event.outs k lane) (left k lane) (all_taken tree k lane (events_of made))
    step k lane other is = take-step (takes tree y.event.firing y.event.outs k lane) (head_seen tree y.event k lane) (left k lane) (all_taken tree k lane (events_of made)) (sees.0 k lane) (all k lane other is)

-- what one event more takes
taken-more : (tree : Tree) (k : ℕ) (lane : Lane) (made : List Made) (x : Made) → all_taken tree k lane (events_of (made ++ x ∷ [])) ≡ all_taken tree k lane (events_of made) ++ taken_on tree k lane x.event
taken-more tree k lane made x =
    ap (all_taken tree k lane) (map-append (λ x. x.event) made (x ∷ []))
    ∙ flat_map-append (taken_on tree k lane) (events_of made) (x.event ∷ [])
    ∙ ap (λ ms. all_taken tree k lane (events_of made) ++ ms) (append-nil (taken_on tree k lane x.event))

-- the part with the event is a part
pub part-grows : (p : Protocol) (tree : Tree) (l o : ℕ) (start : Option Local) (requests : List Message) (part : Part) (end : Option Local) (left : List Message) (x : Made) (taken : ℕ → Lane → List Carried) (next : Local) (rest : List Message) → IsPart p tree l o start requests part end left → IsNext p tree l o part end left x taken next rest → IsPart p tree l o start requests (lengthened tree part x taken) (Some next) rest
part-grows p tree l o start requests part end left x taken next rest is more =
    record {
      own = each-append (IsOwn l o) part.made (x ∷ []) is.own (more.own, tt);
      chain = subst (λ es. IsChain p tree start es (Some next)) (sym (map-append (λ x. x.event) part.made (x ∷ []))) (chain-append p tree (events_of part.made) (x.event ∷ []) start end (Some next) is.chain (next, more.fires, refl));
      asks = ap (λ ms. ms ++ rest) (taken-more tree o Requests part.made x) ∙ append_assoc (all_taken tree o Requests (events_of part.made)) (taken_on tree o Requests x.event) rest ∙ ap (λ ms. all_taken tree o Requests (events_of part.made) ++ ms) more.asks ∙ is.asks;
      takes = λ k lane other mine. taken-more tree k lane part.made x ∙ ap (λ ms. ms ++ taken_on tree k lane x.event) (is.takes k lane other mine) ∙ ap (λ ms. messages_of (part.received k lane) ++ ms) (sym (more.takes k lane other mine)) ∙ sym (map-append (λ c. c.message) (part.received k lane) (taken k lane));
      sends = λ k lane mine. flat_map-append (carried_on tree k lane) part.made (x ∷ []) ∙ ap (λ cs. all_carried tree k lane part.made ++ cs) (append-nil (carried_on tree k lane x)) ∙ ap (λ cs. cs ++ carried_on tree k lane x) (is.sends k lane mine);
      stamps = stamped-longer tree l o part.made part.received taken (λ k lane. part.received k lane ++ taken k lane) 0 x is.own (chain-sees p tree (events_of part.made) start end is.chain) is.takes (λ k lane other mine. refl) more.own is.stamps more.stamp;
    }

-- the empty part is one
pub part-empty : (p : Protocol) (tree : Tree) (l o : ℕ) (start : Option Local) (requests : List Message) → IsPart p tree l o start requests empty_part start requests
part-empty p tree l o start requests =
    record { own = tt; chain = refl; asks = refl; takes = λ k lane other mine. refl; sends = λ k lane mine. refl; stamps = tt }
