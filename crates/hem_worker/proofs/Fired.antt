-- A firing that was chosen lengthens the object's part.
use Rattle.std.proofs.Common.{◌≡◌, ◌≢◌, refl, ap, sym, ◌∙◌, subst, ℕ, ◌+◌, ◌<◌, ◌≤◌, arith, Bool, true, false, not, ◌&&◌, cond, List, [], ◌∷◌, ◌++◌, map, take, drop, length, Option, Some, None}
use Rattle.std.specs.Prelude.{◌==◌, nat_lt, slice_get, is_none}
use Rattle.std.specs.Option.{option_map_or}
use Rattle.std.proofs.lemmas.Bool.{eq-eqb}
use Rattle.std.proofs.lemmas.List.{length-map, map-append, drop-drop}
use Rattle.std.proofs.lemmas.List.Sums.{sum_by_push}
use Rattle.hem_base.specs.Sets.{has_bit}
use Rattle.hem_base.specs.declared.ids.Kind.{Kind}
use Rattle.hem_base.specs.declared.ids.LineId.{LineId}
use Rattle.hem_base.specs.declared.ids.ObjectId.{ObjectId}
use Rattle.hem_base.specs.declared.ids.Message.{Message}
use Rattle.hem_base.specs.declared.ids.Carried.{Carried}
use Rattle.hem_base.specs.declared.ids.Firing.{Firing}
use Rattle.hem_base.specs.declared.ids.Stamped.{Stamped}
use Rattle.hem_syntax.specs.declared.rule.Rule.{Rule}
use Rattle.hem_syntax.specs.Protocol.{Protocol, rule_named}
use Rattle.hem_syntax.specs.Lawful.{IsProtocol}
use Rattle.hem_object.specs.Local.{Local}
use Rattle.hem_fire.specs.Heads.{Heads}
use Rattle.hem_fire.specs.OneFire.{can_fire}
use Rattle.hem_fire.specs.Plans.{planned, plan_of, left_by}
use Rattle.hem_fire.specs.declared.plan.Plan.{Plan}
use Rattle.hem_fire.specs.declared.outs.Outs.{Outs}
use Rattle.hem_fire.specs.declared.outs.To.{To}
use Rattle.hem_fire.specs.declared.outs.To.TheVariants as to
use Rattle.hem_tree.specs.Tree.{Tree, is_number, is_child, parent_of, children_of, place_among}
use Rattle.hem_system.specs.declared.lane.Lane.{Lane}
use Rattle.hem_system.specs.declared.lane.Lane.TheVariants.{UpRequests, UpResponses, Down, Requests, Answers}
use Rattle.hem_system.specs.State.{Effect, taken_heads, own_effect, is_own_child, place_of_me, takes, reaches, taker_of, sender_of}
use Rattle.hem_system.specs.Events.{event_of}
use Rattle.hem_system.specs.Ended.{takes_nothing, is_self, is_at, self_firings}
use Rattle.hem_system.proofs.Effects.{own_effect-is}
use Rattle.hem_rows.proofs.Choices.{both, chosen}
use Rattle.hem_parts.specs.Parts.{Made, messages_of, carried_on}
use Rattle.hem_parts.specs.Stamps.{last_stamp, IsStamp}
use Rattle.hem_parts.specs.Merged.{stamped_of}
use Rattle.hem_parts.specs.Steps.{lengthened, heads_from, taken_from}
use Rattle.hem_parts.specs.Tied.{IsPart}
use Rattle.hem_parts.proofs.Step.{part-grows}
use Rattle.hem_parts.proofs.WorkerStep.{fired-next}
use Rattle.hem_ends.specs.Ends.{Kid, Ends, kid_look, is_place}
use Rattle.hem_choice.specs.Choices.{Choice}
use Rattle.hem_turns.specs.OnLine.{OnLine, asked, sight_of, firing_by, takes_request, is_answer, IsFired}
use Rattle.hem_turns.proofs.Chosen.{IsChosen}
use Rattle.hem_turns.proofs.Ready.{goes-up-open, answers-up-open}
use Rattle.hem_turns.proofs.TakenThere.{named-taken}
use Rattle.hem_worker.specs.LineParts.{Stands, HasPart, received_by, known_by, sent_by}
use Rattle.hem_worker.proofs.EndsKept.{takes_by, sends_by, HasEnds, taken-received, given-received, taken-sent, given-sent}
use Rattle.hem_worker.proofs.Named.{IsNamed, is-named, rule-found}
use Rattle.hem_worker.proofs.Waiting.{heads-same, stamp-right, kid-there}

and-true : (b : Bool) → (b && true) ≡ b
and-true true = refl
and-true false = refl

-- what is chosen under a test
carried-if : (g : Message → Carried) (b : Bool) (m : Message) → map g (cond b (m ∷ []) []) ≡ cond b (g m ∷ []) []
carried-if g true m = refl
carried-if g false m = refl

messages-if : (b : Bool) (c : Carried) → messages_of (cond b (c ∷ []) []) ≡ cond b (c.message ∷ []) []
messages-if true c = refl
messages-if false c = refl

-- the last stamp of a part with one more event
last-longer : (last : ℕ) (made : List Made) (x : Made) → last_stamp last (made ++ x ∷ []) ≡ x.stamp
last-longer last [] x = refl
last-longer last (y ∷ made) x = last-longer y.stamp made x

-- a firing of a self rule is one of those that are left
few-more : (selfs k : ℕ) (nothing : Bool) → selfs ≤ k → (not (nat_lt selfs k) && nothing) ≡ false → selfs + cond nothing 1 0 ≤ k
few-more selfs k false few fresh = omega (arith, few)
few-more selfs k true few fresh = let less = below selfs k fresh in omega (arith, less)
  where
    below : (selfs k : ℕ) → (not (nat_lt selfs k) && true) ≡ false → selfs < k
    below selfs k fresh = grind arith

-- a child's parent
child-is : (tree : Tree) (k o : ℕ) → parent_of tree k ≡ Some o → is_child tree k o ≡ true
child-is tree k o parent = ap (λ n. is_number n o) parent ∙ eq-eqb o o refl

-- where a request is taken of a named child
asks-place : (me : Option ℕ) (i : ℕ) (taken : Bool) → ((place : ℕ) → me ≡ Some place → taken ≡ true) → (taken && is_place me i) ≡ is_place me i
asks-place None i true there = refl
asks-place None i false there = refl
asks-place (Some place) i taken there = ap (λ b. b && is_place (Some place) i) (there place refl)

-- the lists from which a firing takes are those of the ends
takes-same : (tree : Tree) (f : Firing) (outs : Outs) (me : Option ℕ) → IsNamed tree f.object.0 me f.me → ((place : ℕ) → me ≡ Some place → outs.taken_request ≡ true) → (k : ℕ) (lane : Lane) → lane ≢ Requests → taker_of tree k lane ≡ Some f.object.0 → takes tree f outs k lane ≡ takes_by tree f.object.0 outs.taken_parent me outs.taken_kids k lane
takes-same tree f outs me named there k UpRequests other mine =
    let child = child-is tree k f.object.0 mine in
    ap (λ b. (outs.taken_request && option_map_or (λ (child : ObjectId). child.0 == k) f.me false) && b) child
    ∙ and-true (outs.taken_request && option_map_or (λ (child : ObjectId). child.0 == k) f.me false)
    ∙ ap (λ b. outs.taken_request && b) (named.at k child)
    ∙ asks-place me (place_among tree f.object.0 k) outs.taken_request there
takes-same tree f outs me named there k UpResponses other mine = ap (λ b. b && has_bit outs.taken_kids.0 (place_among tree f.object.0 k)) (child-is tree k f.object.0 mine)
takes-same tree f outs me named there k Down other mine = let same : k ≡ f.object.0 = cc in ap (λ b. outs.taken_parent && b) (eq-eqb k f.object.0 same) ∙ and-true outs.taken_parent
takes-same tree f outs me named there k Requests other mine = absurd (other refl)
takes-same tree f outs me named there k Answers other mine = cc

-- and those to which it sends
reaches-same : (tree : Tree) (f : Firing) (t : To) (k : ℕ) (lane : Lane) → lane ≢ Answers → sender_of tree k lane ≡ Some f.object.0 → reaches tree f t k lane ≡ sends_by tree f.object.0 t k lane
reaches-same tree f to.UpRequest k UpRequests other mine = let same : k ≡ f.object.0 = cc in eq-eqb k f.object.0 same
reaches-same tree f to.Nobody k UpRequests other mine = refl
reaches-same tree f to.Answer k UpRequests other mine = refl
reaches-same tree f to.UpResponse k UpRequests other mine = refl
reaches-same tree f (to.Kid c) k UpRequests other mine = refl
reaches-same tree f (to.Kids set) k UpRequests other mine = refl
reaches-same tree f to.UpResponse k UpResponses other mine = let same : k ≡ f.object.0 = cc in eq-eqb k f.object.0 same
reaches-same tree f to.Nobody k UpResponses other mine = refl
reaches-same tree f to.Answer k UpResponses other mine = refl
reaches-same tree f to.UpRequest k UpResponses other mine = refl
reaches-same tree f (to.Kid c) k UpResponses other mine = refl
reaches-same tree f (to.Kids set) k UpResponses other mine = refl
reaches-same tree f (to.Kid c) k Down other mine = ap (λ b. b && place_among tree f.object.0 k == c) (child-is tree k f.object.0 mine) ∙ turned (place_among tree f.object.0 k) c
  where
    turned : (a b : ℕ) → (a == b) ≡ (b == a)
    turned a b = grind arith
reaches-same tree f (to.Kids set) k Down other mine = ap (λ b. b && has_bit set.0 (place_among tree f.object.0 k)) (child-is tree k f.object.0 mine)
reaches-same tree f to.Nobody k Down other mine = refl
reaches-same tree f to.Answer k Down other mine = refl
reaches-same tree f to.UpRequest k Down other mine = refl
reaches-same tree f to.UpResponse k Down other mine = refl
reaches-same tree f t k Requests other mine = cc
reaches-same tree f t k Answers other mine = absurd (other refl)

answers-same : (tree : Tree) (f : Firing) (t : To) → reaches tree f t f.object.0 Answers ≡ is_answer t
answers-same tree f to.Answer = eq-eqb f.object.0 f.object.0 refl
answers-same tree f to.Nobody = refl
answers-same tree f to.UpRequest = refl
answers-same tree f to.UpResponse = refl
answers-same tree f (to.Kid c) = refl
answers-same tree f (to.Kids set) = refl

-- the self firings of a journal with one more firing
selfs-longer : (p : Protocol) (tree : Tree) (js : List Stamped) (f : Firing) (stamp n : ℕ) (nothing : Bool) → self_firings p tree (map (λ (s : Stamped). s.firing) js) f.line.0 f.object.0 ≡ n → is_self p tree f ≡ nothing → self_firings p tree (map (λ (s : Stamped). s.firing) (js ++ record { firing = f; stamp = stamp } ∷ [])) f.line.0 f.object.0 ≡ n + cond nothing 1 0
selfs-longer p tree js f stamp n nothing had self =
    let here : is_at f.line.0 f.object.0 f ≡ true = ap (λ b. b && f.object.0 == f.object.0) (eq-eqb f.line.0 f.line.0 refl) ∙ eq-eqb f.object.0 f.object.0 refl in
    ap (λ h. self_firings p tree h f.line.0 f.object.0) (map-append (λ (s : Stamped). s.firing) js (record { firing = f; stamp = stamp } ∷ []))
    ∙ sum_by_push (λ g. cond (is_at f.line.0 f.object.0 g && is_self p tree g) 1 0) (map (λ (s : Stamped). s.firing) js) f
    ∙ ap (λ m. m + cond (is_at f.line.0 f.object.0 f && is_self p tree f) 1 0) had
    ∙ ap (λ b. n + cond b 1 0) (ap (λ b. b && is_self p tree f) here ∙ self)

module _ (p : Protocol) (tree : Tree) (kind : Kind) (self_count : ℕ) (line : LineId) (object : ObjectId) (children : List ObjectId) (lawful : IsProtocol p) (stands : Stands tree object kind children) (v : OnLine) (count : length v.ends.kids ≡ length (children_of tree object.0)) (choice : Choice) (is : IsChosen p kind v.local (sight_of self_count v) choice) where
  abbrev firing : Firing
  firing = firing_by line object children choice

  abbrev waiting : ℕ → Lane → List Carried
  waiting = known_by tree object.0 v.ends

  abbrev heads : Heads
  heads = heads_from tree (asked v) waiting object.0 firing.me

  abbrev effect : Effect
  effect = record { after = left_by choice.plan choice.rule v.local; took = taken_heads choice.plan.outs heads; outs = choice.plan.outs }

  abbrev made_now : Made
  made_now = record { event = event_of firing effect; stamp = choice.stamp }

  -- the child that it names
  named-there : IsNamed tree object.0 choice.me firing.me
  named-there = is-named tree object.0 children choice.me stands.children_are within
    where
      within : (k : ℕ) → choice.me ≡ Some k → k < length children
      within k me =
          let less = is.kid k me in
          let seen = length-map v.ends.kids kid_look in
          let all : length (children_of tree object.0) ≡ length children = ap length (sym stands.children_are) ∙ length-map children (λ (id : ObjectId). id.0) in
          omega (arith, less, seen, count, all)

  rule-there : rule_named p kind choice.rule.name ≡ Some choice.rule
  rule-there = rule-found p kind is.rule.0 choice.rule lawful is.rule.1

  -- its plan is the one by the heads that wait
  plan-there : (can_fire p kind choice.rule choice.me v.local heads ≡ true) × (planned p kind choice.rule choice.me v.local heads ≡ choice.plan)
  plan-there =
      let same = heads-same tree self_count v object.0 choice.me firing.me count named-there in
      chosen (can_fire p kind choice.rule choice.me v.local heads) (planned p kind choice.rule choice.me v.local heads) choice.plan (subst (λ (h : Heads). plan_of p kind choice.rule choice.me v.local h ≡ Some choice.plan) same is.planned)

  effect-there : own_effect p tree firing v.local heads ≡ Some effect
  effect-there =
      let me_is : cond (is_own_child tree object.0 firing.me) (Some (place_of_me tree object.0 firing.me)) None ≡ Some choice.me = ap (λ b. cond b (Some (place_of_me tree object.0 firing.me)) None) named-there.own ∙ ap Some named-there.place in
      own_effect-is p tree firing kind choice.rule choice.me v.local heads stands.kind_is rule-there me_is
      ∙ ap (λ b. cond b (Some (of_plan (planned p kind choice.rule choice.me v.local heads))) None) plan-there.0
      ∙ ap (λ (plan : Plan). Some (of_plan plan)) plan-there.1
    where
      of_plan : Plan → Effect
      of_plan plan = record { after = left_by plan choice.rule v.local; took = taken_heads plan.outs heads; outs = plan.outs }

  -- where it names a child it takes that child's request
  request-taken : (place : ℕ) → choice.me ≡ Some place → choice.plan.outs.taken_request ≡ true
  request-taken place me = by_me choice.me plan-there.0 plan-there.1 me
    where
      by_me : (me : Option ℕ) → can_fire p kind choice.rule me v.local heads ≡ true → planned p kind choice.rule me v.local heads ≡ choice.plan → me ≡ Some place → choice.plan.outs.taken_request ≡ true
      by_me None can made named = cc
      by_me (Some other) can made named =
          let begun = both _ _ (both _ _ (both _ _ (both _ _ can).0).0).0 in
          let fits = both _ _ (both _ _ (both _ _ begun.0).0).0 in
          sym (ap (λ (plan : Plan). plan.outs.taken_request) made) ∙ named-taken p kind choice.rule choice.rule.take other (length v.local.dir) refl fits.0 v.local heads

  self-there : is_self p tree firing ≡ takes_nothing choice.rule.take
  self-there =
      ap (λ o. option_map_or (λ kind. option_map_or (λ (rule : Rule). takes_nothing rule.take) (rule_named p kind choice.rule.name) false) o false) stands.kind_is
      ∙ ap (λ o. option_map_or (λ (rule : Rule). takes_nothing rule.take) o false) rule-there

  asks-there : takes tree firing choice.plan.outs object.0 Requests ≡ takes_request choice
  asks-there =
      ap (λ b. (choice.plan.outs.taken_request && is_none firing.me) && b) (eq-eqb object.0 object.0 refl)
      ∙ and-true (choice.plan.outs.taken_request && is_none firing.me)
      ∙ ap (λ b. choice.plan.outs.taken_request && b) named-there.none

  stamp-there : (last : ℕ) → last ≡ v.last → IsStamp tree waiting last (event_of firing effect) choice.stamp
  stamp-there last same =
      subst (λ n. IsStamp tree waiting n (event_of firing effect) choice.stamp) (sym same)
      (subst (IsStamp tree waiting v.last (event_of firing effect)) (sym is.stamp) (stamp-right tree firing effect.took choice.plan.outs v.ends choice.me count named-there v.last))

  -- the line after it has a part again
  pub firing-lengthens : (start : Option Local) (requests : List Message) (new : OnLine) → HasPart p tree self_count line.0 object.0 start requests v → IsFired firing choice v new → HasPart p tree self_count line.0 object.0 start requests new
  firing-lengthens start requests new had fired =
      let outs : Outs = choice.plan.outs in
      let carried : Carried = record { line = line; message = outs.message; stamp = choice.stamp } in
      let taken : ℕ → Lane → List Carried = taken_from tree firing outs waiting in
      let next = fired-next p tree line.0 object.0 had.part firing v.local (asked v) waiting effect choice.stamp refl refl effect-there (stamp-there (last_stamp 0 had.part.made) had.last) in
      let grown = part-grows p tree line.0 object.0 start requests had.part (Some v.local) (asked v) made_now taken effect.after (drop (cond (takes tree firing outs object.0 Requests) 1 0) (asked v)) had.is next in
      let left : drop (cond (takes tree firing outs object.0 Requests) 1 0) (asked v) ≡ asked new =
      drop-drop (cond (takes tree firing outs object.0 Requests) 1 0) v.taken v.requests
      ∙ ap (λ b. drop (v.taken + cond b 1 0) v.requests) asks-there
      ∙ ap (λ n. drop n v.requests) (sym fired.taken)
      ∙ ap (drop new.taken) (sym fired.requests) in
      let ends : HasEnds outs.to fired.between =
      record {
        request = λ goes. ap (λ end. option_map_or (λ g. g.reserved) end false) fired.takes.up_requests ∙ goes-up-open v.ends outs.to is.sends goes;
        response = λ goes. ap (λ end. option_map_or (λ g. g.reserved) end false) fired.takes.up_responses ∙ answers-up-open v.ends outs.to is.sends goes;
      } in
      record {
        part = lengthened tree had.part made_now taken;
        is = subst (λ l. IsPart p tree line.0 object.0 start requests (lengthened tree had.part made_now taken) (Some l) (asked new)) (sym fired.local) (subst (IsPart p tree line.0 object.0 start requests (lengthened tree had.part made_now taken) (Some effect.after)) left grown);
        journal = map-append stamped_of had.part.made (made_now ∷ []) ∙ ap (λ js. js ++ record { firing = firing; stamp = choice.stamp } ∷ []) had.journal ∙ sym fired.journal;
        last = last-longer 0 had.part.made made_now ∙ sym fired.last;
        received = λ k lane other mine.
            ap (λ cs. cs ++ taken k lane) (had.received k lane other mine)
            ∙ ap (λ b. received_by tree object.0 v.ends k lane ++ cond b (take 1 (waiting k lane)) []) (takes-same tree firing outs choice.me named-there request-taken k lane other mine)
            ∙ sym (given-received tree object.0 outs.to carried fired.between new.ends fired.gives k lane ∙ taken-received tree object.0 outs.taken_parent choice.me outs.taken_kids v.ends fired.between fired.takes k lane);
        sent = λ k lane other mine.
            ap (λ cs. cs ++ carried_on tree k lane made_now) (had.sent k lane other mine)
            ∙ ap (λ cs. sent_by tree object.0 v.ends k lane ++ cs) (carried-if (λ m. record { line = line; message = m; stamp = choice.stamp }) (reaches tree firing outs.to k lane) outs.message ∙ ap (λ b. cond b (carried ∷ []) []) (reaches-same tree firing outs.to k lane other mine))
            ∙ sym (given-sent tree object.0 outs.to carried fired.between new.ends ends fired.gives k lane (λ down. kid-between fired.between fired.takes.kids.count k (subst (λ lane. sender_of tree k lane ≡ Some object.0) down mine))
            ∙ ap (λ cs. cs ++ cond (sends_by tree object.0 outs.to k lane) (carried ∷ []) []) (taken-sent tree object.0 outs.taken_parent choice.me outs.taken_kids v.ends fired.between fired.takes k lane));
        answers =
            map-append (λ (c : Carried). c.message) (had.part.sent object.0 Answers) (carried_on tree object.0 Answers made_now)
            ∙ ap (λ ms. ms ++ messages_of (carried_on tree object.0 Answers made_now)) had.answers
            ∙ ap (λ ms. v.answers ++ ms) (ap messages_of (carried-if (λ m. record { line = line; message = m; stamp = choice.stamp }) (reaches tree firing outs.to object.0 Answers) outs.message) ∙ messages-if (reaches tree firing outs.to object.0 Answers) carried ∙ ap (λ b. cond b (outs.message ∷ []) []) (answers-same tree firing outs.to))
            ∙ sym fired.answers;
        kids = fired.gives.kids.count ∙ fired.takes.kids.count ∙ had.kids;
        selfs = ap (λ js. self_firings p tree (map (λ (s : Stamped). s.firing) js) line.0 object.0) fired.journal ∙ selfs-longer p tree v.journal firing choice.stamp v.selfs (takes_nothing choice.rule.take) had.selfs self-there ∙ sym fired.selfs;
        few = subst (λ n. n ≤ self_count) (sym fired.selfs) (few-more v.selfs self_count (takes_nothing choice.rule.take) had.few is.fresh);
      }
    where
      kid-between : (between : Ends) → length between.kids ≡ length v.ends.kids → (k : ℕ) → parent_of tree k ≡ Some object.0 → (kid : Kid) × (slice_get between.kids (place_among tree object.0 k) ≡ Some kid)
      kid-between between same k parent = kid-there tree object.0 between.kids k (same ∙ count) (child-is tree k object.0 parent)
