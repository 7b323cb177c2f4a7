-- A choice can be made at once.
use Rattle.std.proofs.Common.{◌≡◌, refl, ap, sym, ◌∙◌, subst, ℕ, zero, suc, ◌+◌, ◌<◌, arith, Bool, true, false, ◌&&◌, not, List, [], ◌∷◌, length, map, drop, Option, Some, None, IsTrue, add-zero, get_or}
use Rattle.std.specs.Prelude.{◌||◌, nat_lt, slice_get, option_map, option_and_then, is_none}
use Rattle.std.specs.List.{list_all, enumerate_from}
use Rattle.std.specs.Option.{option_map_or}
use Rattle.std.proofs.lemmas.Bool.{eqb-true}
use Rattle.std.proofs.lemmas.Option.{slice_get-map, slice_get_within, slice_get-get_or}
use Rattle.hem_base.specs.declared.ids.KidSet.{KidSet}
use Rattle.hem_base.specs.Sets.{has_bit}
use Rattle.hem_base.specs.declared.ids.Kind.{Kind}
use Rattle.hem_base.specs.declared.ids.Carried.{Carried}
use Rattle.hem_base.specs.declared.ids.Message.{Message}
use Rattle.hem_syntax.specs.Protocol.{Protocol}
use Rattle.hem_object.specs.Changes.{assign_names}
use Rattle.hem_fire.specs.Heads.{Heads}
use Rattle.hem_fire.specs.OneFire.{me_fits, can_fire}
use Rattle.hem_fire.specs.Plans.{planned, plan_of}
use Rattle.hem_fire.specs.declared.plan.Plan.{Plan}
use Rattle.hem_fire.specs.declared.outs.Outs.{Outs}
use Rattle.hem_fire.specs.declared.outs.To.{To}
use Rattle.hem_fire.specs.declared.outs.To.TheVariants as to
use Rattle.hem_system.specs.Ended.{takes_nothing}
use Rattle.hem_rows.proofs.Choices.{both, if_passed}
use Rattle.hem_law.proofs.Taken.{HasMessage, TakesThere}
use Rattle.hem_wire.specs.Seen.{Giving, Getting}
use Rattle.hem_ends.specs.declared.kids.KidLook.{KidLook}
use Rattle.hem_ends.specs.Ends.{Ends, Kid, kid_look, head_of, look_of, is_place, goes_down, goes_up_request, goes_up_response, HasHead, HoldsSlot, IfThere, HasHeads, HoldsSlots, AreTaken}
use Rattle.hem_choice.specs.Choices.{Choice, message_in, heads_of, may_send}
use Rattle.hem_turns.specs.OnLine.{OnLine, sight_of, IsReady}
use Rattle.hem_turns.proofs.Chosen.{IsChosen}
use Rattle.hem_turns.proofs.TakenThere.{takes-there-taking, named-taken}

-- a first message is there, so some are
waits : (cs : List Carried) → HasMessage (message_in (slice_get cs 0)) → 0 < length cs
waits [] has = absurd (let clash : None ≡ Some has.0 = has.1 in cc)
waits (c ∷ cs) has = omega arith

left-waits : (n : ℕ) (ms : List Message) → HasMessage (slice_get (drop n ms) 0) → n < length ms
left-waits zero [] has = absurd (let clash : None ≡ Some has.0 = has.1 in cc)
left-waits zero (m ∷ ms) has = omega arith
left-waits (suc n) [] has = absurd (let clash : None ≡ Some has.0 = has.1 in cc)
left-waits (suc n) (m ∷ ms) has = let rest = left-waits n ms has in omega (arith, rest)

down-waits : (wanted : Bool) (down : Option Getting) → (wanted ≡ true → HasMessage (message_in (option_map_or head_of down None))) → IfThere (HasHead wanted) down
down-waits wanted None there = tt
down-waits wanted (Some getting) there = λ it. waits getting.known (there it)

look-at : (kids : List Kid) (k : ℕ) (kid : Kid) → slice_get kids k ≡ Some kid → slice_get (map kid_look kids) k ≡ Some (kid_look kid)
look-at kids k kid at = slice_get-map kid_look kids k ∙ ap (option_map kid_look) at

request-waits : (kids : List Kid) (k place : ℕ) (kid : Kid) → slice_get kids k ≡ Some kid → place ≡ k → HasMessage (message_in (option_and_then (λ (look : KidLook). look.request) (slice_get (map kid_look kids) place))) → 0 < length kid.requests.known
request-waits kids k place kid at same has =
    let seen : slice_get (map kid_look kids) place ≡ Some (kid_look kid) = ap (slice_get (map kid_look kids)) same ∙ look-at kids k kid at in
    waits kid.requests.known (subst (λ o. HasMessage (message_in (option_and_then (λ (look : KidLook). look.request) o))) seen has)

response-seen : (kids : List Kid) (k : ℕ) (kid : Kid) → slice_get kids k ≡ Some kid → slice_get (map (λ (look : KidLook). message_in look.response) (map kid_look kids)) k ≡ Some (message_in (head_of kid.responses))
response-seen kids k kid at = slice_get-map (λ (look : KidLook). message_in look.response) (map kid_look kids) k ∙ ap (option_map (λ (look : KidLook). message_in look.response)) (look-at kids k kid at)

-- a slot is reserved wherever a message goes
own-holds : (wanted : Bool) (end : Option Giving) → (wanted ≡ true → option_map_or (λ (giving : Giving). giving.reserved) end false ≡ true) → IfThere (HoldsSlot wanted) end
own-holds wanted None sends = tt
own-holds wanted (Some giving) sends = sends

all-open : (set i : ℕ) (looks : List KidLook) (j : ℕ) (look : KidLook) → list_all (λ k. not (has_bit set k.0) || k.1.is_open) (enumerate_from i looks) ≡ true → has_bit set (i + j) ≡ true → slice_get looks j ≡ Some look → look.is_open ≡ true
all-open set i [] j look all has at = cc
all-open set i (x ∷ looks) zero look all has at =
    let bit : has_bit set i ≡ true = rw add-zero at has in
    let it : x ≡ look = cc in
    subst (λ (x : KidLook). x.is_open ≡ true) it (rw bit at (both (not (has_bit set i) || x.is_open) _ all).0)
all-open set i (x ∷ looks) (suc j) look all has at =
    let e : i + suc j ≡ (i + 1) + j = omega arith in
    all-open set (i + 1) looks j look (both (not (has_bit set i) || x.is_open) _ all).1 (rw e at has) at

pub goes-up-open : (ends : Ends) (t : To) → may_send (look_of ends) t ≡ true → goes_up_request t ≡ true → option_map_or (λ (giving : Giving). giving.reserved) ends.up_requests false ≡ true
goes-up-open ends to.UpRequest sends goes = sends
goes-up-open ends to.Nobody sends goes = cc
goes-up-open ends to.Answer sends goes = cc
goes-up-open ends to.UpResponse sends goes = cc
goes-up-open ends (to.Kid place) sends goes = cc
goes-up-open ends (to.Kids set) sends goes = cc

pub answers-up-open : (ends : Ends) (t : To) → may_send (look_of ends) t ≡ true → goes_up_response t ≡ true → option_map_or (λ (giving : Giving). giving.reserved) ends.up_responses false ≡ true
answers-up-open ends to.UpResponse sends goes = sends
answers-up-open ends to.Nobody sends goes = cc
answers-up-open ends to.Answer sends goes = cc
answers-up-open ends to.UpRequest sends goes = cc
answers-up-open ends (to.Kid place) sends goes = cc
answers-up-open ends (to.Kids set) sends goes = cc

goes-down-open : (ends : Ends) (t : To) (k : ℕ) (kid : Kid) → may_send (look_of ends) t ≡ true → slice_get ends.kids k ≡ Some kid → goes_down t k ≡ true → kid.down.reserved ≡ true
goes-down-open ends (to.Kid place) k kid sends at goes =
    let seen : slice_get (map kid_look ends.kids) place ≡ Some (kid_look kid) = ap (slice_get (map kid_look ends.kids)) (eqb-true place k goes) ∙ look-at ends.kids k kid at in
    sym (ap (λ o. option_map_or (λ (look : KidLook). look.is_open) o false) seen) ∙ sends
goes-down-open ends (to.Kids set) k kid sends at goes =
    all-open set.0 0 (map kid_look ends.kids) k (kid_look kid) sends (let e : 0 + k ≡ k = omega arith in rw e goes) (look-at ends.kids k kid at)
goes-down-open ends to.Nobody k kid sends at goes = cc
goes-down-open ends to.Answer k kid sends at goes = cc
goes-down-open ends to.UpRequest k kid sends at goes = cc
goes-down-open ends to.UpResponse k kid sends at goes = cc

pub slots-held : (ends : Ends) (t : To) → may_send (look_of ends) t ≡ true → HoldsSlots t ends
slots-held ends t sends =
    record {
      up_requests = own-holds (goes_up_request t) ends.up_requests (goes-up-open ends t sends);
      up_responses = own-holds (goes_up_response t) ends.up_responses (answers-up-open ends t sends);
      kids = λ k kid at. goes-down-open ends t k kid sends at;
    }

-- what a plan takes is known
pub heads-known : (line : OnLine) (k : ℕ) (me : Option ℕ) (outs : Outs) → TakesThere outs (heads_of (sight_of k line) me) → ((place : ℕ) → me ≡ Some place → outs.taken_request ≡ true) → HasHeads outs.taken_parent me outs.taken_kids line.ends
heads-known line k me outs there named =
    record {
      down = down-waits outs.taken_parent line.ends.down there.parent;
      requests = λ j kid at. by_me me named there.request j kid at;
      kids = λ j kid at wanted. waits kid.responses.known (there.kids j (message_in (head_of kid.responses)) wanted (response-seen line.ends.kids j kid at));
    }
  where
    by_me : (me : Option ℕ) → ((place : ℕ) → me ≡ Some place → outs.taken_request ≡ true) → (outs.taken_request ≡ true → HasMessage (heads_of (sight_of k line) me).request) → (j : ℕ) (kid : Kid) → slice_get line.ends.kids j ≡ Some kid → HasHead (is_place me j) kid.requests
    by_me None named there j kid at wanted = cc
    by_me (Some place) named there j kid at wanted = request-waits line.ends.kids j place kid at (eqb-true place j wanted) (there (named place refl))

pub ready : (p : Protocol) (kind : Kind) (k : ℕ) (choice : Choice) (line : OnLine) → IsChosen p kind line.local (sight_of k line) choice → 0 < line.room → IsReady k choice line
ready p kind k choice line is room = by_plan is.planned
  where
    request-taken : (me : Option ℕ) → planned p kind choice.rule me line.local (heads_of (sight_of k line) me) ≡ choice.plan → me_fits kind choice.rule.take me (length line.local.dir) ≡ true → (place : ℕ) → me ≡ Some place → choice.plan.outs.taken_request ≡ true
    request-taken None made fits place named = cc
    request-taken (Some other) made fits place named = sym (ap (λ (plan : Plan). plan.outs.taken_request) made) ∙ named-taken p kind choice.rule choice.rule.take other (length line.local.dir) refl fits line.local (heads_of (sight_of k line) (Some other))

    asked-waits : (me : Option ℕ) (outs : Outs) → TakesThere outs (heads_of (sight_of k line) me) → (outs.taken_request && is_none me) ≡ true → line.taken < length line.requests
    asked-waits None outs there takes = left-waits line.taken line.requests (there.request (both outs.taken_request true takes).0)
    asked-waits (Some place) outs there takes = let clash = (both outs.taken_request false takes).1 in cc

    few : (selfs k : ℕ) (nothing : Bool) → nothing ≡ true → (not (nat_lt selfs k) && nothing) ≡ false → selfs < k
    few selfs k false is fresh = cc
    few selfs k true is fresh = grind arith

    by_plan : plan_of p kind choice.rule choice.me line.local (heads_of (sight_of k line) choice.me) ≡ Some choice.plan → IsReady k choice line
    by_plan planned_is =
        let heads : Heads = heads_of (sight_of k line) choice.me in
        let passed = if_passed (can_fire p kind choice.rule choice.me line.local heads) (Some (planned p kind choice.rule choice.me line.local heads)) choice.plan planned_is in
        let made : planned p kind choice.rule choice.me line.local heads ≡ choice.plan = cc in
        let begun = both _ _ (both _ _ (both _ _ (both _ _ passed.0).0).0).0 in
        let fits = both _ _ (both _ _ (both _ _ begun.0).0).0 in
        let there : TakesThere choice.plan.outs heads = subst (λ (plan : Plan). TakesThere plan.outs heads) made (takes-there-taking choice.rule.take p kind choice.rule choice.me line.local heads refl fits.1) in
        record {
          names = subst (λ (plan : Plan). IsTrue (list_all (assign_names line.local plan.view) choice.rule.sets)) made begun.1;
          heads = heads-known line k choice.me choice.plan.outs there (λ place named. request-taken choice.me made fits.0 place named);
          slots = slots-held line.ends choice.plan.outs.to is.sends;
          request = λ takes. asked-waits choice.me choice.plan.outs there takes;
          selfs = λ nothing. few line.selfs k (takes_nothing choice.rule.take) nothing is.fresh;
          room = room;
        }

-- taking leaves the slots
pub slots-left : (t : To) (parent : Bool) (me : Option ℕ) (responses : KidSet) (old new : Ends) → AreTaken parent me responses old new → HoldsSlots t old → HoldsSlots t new
slots-left t parent me responses old new taken slots =
    record {
      up_requests = subst (IfThere (HoldsSlot (goes_up_request t))) (sym taken.up_requests) slots.up_requests;
      up_responses = subst (IfThere (HoldsSlot (goes_up_response t))) (sym taken.up_responses) slots.up_responses;
      kids = λ k kid at. held k kid at;
    }
  where
    held : (k : ℕ) (kid : Kid) → slice_get new.kids k ≡ Some kid → HoldsSlot (goes_down t k) kid.down
    held k kid at =
        let within = slice_get_within new.kids k kid at in
        let count = taken.kids.count in
        let there = slice_get-get_or old.kids k kid (omega (arith, within, count)) in
        subst (HoldsSlot (goes_down t k)) (sym (taken.kids.each k (get_or old.kids k kid) kid there at).down) (slots.kids k (get_or old.kids k kid) there)
