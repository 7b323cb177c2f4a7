-- The queues that lose their heads by a rule's actions are the lists from which the firing takes.
use Rattle.std.proofs.Common.{◌≡◌, ◌≢◌, refl, ap, sym, ◌∙◌, ℕ, suc, ◌+◌, arith, map, Bool, true, false, ◌&&◌, ◌||◌, List, [], ◌∷◌, Option, Some, None}
use Rattle.std.specs.Prelude.{◌==◌, slice_get, slice_index_or, is_none}
use Rattle.std.specs.List.{list_any, enumerate_from}
use Rattle.std.specs.Option.{option_map_or}
use Rattle.std.proofs.lemmas.Bool.{eqb-true}
use Rattle.hem_base.specs.Sets.{has_bit}
use Rattle.hem_base.specs.declared.ids.Firing.{Firing}
use Rattle.hem_base.specs.declared.ids.Kind.{Kind}
use Rattle.hem_base.specs.declared.ids.Message.{Message}
use Rattle.hem_base.specs.declared.ids.ObjectId.{ObjectId}
use Rattle.hem_syntax.specs.declared.rule.Rule.{Rule}
use Rattle.hem_syntax.specs.declared.rule.Take.{Take}
use Rattle.hem_syntax.specs.declared.rule.Take.TheVariants as take
use Rattle.hem_syntax.specs.Protocol.{Protocol}
use Rattle.hem_object.specs.Local.{Local}
use Rattle.hem_fire.specs.declared.outs.Outs.{Outs}
use Rattle.hem_fire.specs.declared.outs.To.{To}
use Rattle.hem_fire.specs.Heads.{Heads, awaited_of}
use Rattle.hem_fire.specs.View.{view_of}
use Rattle.hem_tree.specs.Tree.{Tree, is_child, children_of, place_among}
use Rattle.hem_system.specs.declared.lane.Lane.{Lane}
use Rattle.hem_system.specs.declared.lane.Lane.TheVariants.{UpRequests, UpResponses, Down, Requests, Answers}
use Rattle.hem_system.specs.State.{is_own_child, place_of_me, takes}
use Rattle.hem_system.proofs.Kids.{child_at, at_child}
use Rattle.hem_rows.proofs.Bits.{no_bit}
use Rattle.hem_module.specs.Module.{deq}
use Rattle.hem_module.specs.Step.{Held, is_done, takes_head, loses_head}
use Rattle.hem_emit.specs.Names.{Reg, Queue, awaits, same_lane, same_queue}
use Rattle.hem_emit.specs.Place.{Place, kids_at}
use Rattle.hem_emit.specs.Clauses.{requests_of, responses_of}
use Rattle.hem_emit.specs.Actions.{always, where_holds, is_awaited, take_actions, actions_of}
use Rattle.hem_emit.specs.Emit.{place_of}
use Rattle.hem_emit.specs.Shows.{AreKids, Shows}
use Rattle.hem_emit.proofs.Tests.{differ, same_number, or_false, and_true, list_any-map}
use Rattle.hem_emit.proofs.Places.{element_or}
use Rattle.hem_emit.proofs.Heads.{takes_alone, responses_lost}

-- no child passes a test
none_from : (f : ℕ → Bool) (i : ℕ) (kids : List ℕ) → ((j c : ℕ) → slice_get kids j ≡ Some c → f c ≡ false) → list_any (λ (k : ℕ × ℕ). f k.1) (enumerate_from i kids) ≡ false
none_from f i [] each = refl
none_from f i (c ∷ kids) each = neither _ _ (each 0 c refl) (none_from f (i + 1) kids (λ j x at. each (suc j) x at))
  where
    neither : (a b : Bool) → a ≡ false → b ≡ false → (a || b) ≡ false
    neither a b one other = rw (one, other) refl

none_by : (a b c : Bool) → b ≡ false → ((a && true) && (b && c)) ≡ false
none_by true b c is = rw is refl
none_by false b c is = refl

never_by : (a b : Bool) → ((a && true) && (b && false)) ≡ false
never_by true true = refl
never_by true false = refl
never_by false b = refl

no_queue : (a : Bool) → ((a && false) || false) ≡ false
no_queue true = refl
no_queue false = refl

turned : (a b : ℕ) → (a == b) ≡ (b == a)
turned a b = grind arith

-- what a firing takes by the take of its rule
abbrev outs_by : Take → Option ℕ → Local → Heads → To → Message → Outs
outs_by tk me local heads to m =
    record {
      taken_request = elim tk [ take.Me id ↦ true | _ ↦ false ];
      taken_parent = elim tk [ take.Parent id ↦ true | _ ↦ false ];
      taken_kids = (view_of tk me local heads).awaited;
      to = to;
      message = m;
    }

module _ (p : Protocol) (tree : Tree) (f : Firing) (kind : Kind) (rule : Rule) (local : Local) (heads : Heads) (s : Held Reg Queue) (own_child : is_own_child tree f.object.0 f.me ≡ true) (kids : AreKids kind (children_of tree f.object.0)) (shows : Shows (place_of p tree f.object.0 kind) (place_of_me tree f.object.0 f.me) local heads s) (u : ℕ) where
  abbrev o : ℕ
  o = f.object.0

  abbrev at : Place
  at = place_of p tree o kind

  abbrev me : Option ℕ
  me = place_of_me tree o f.me

  abbrev at_lane : Lane → Queue
  at_lane l = record { object = u; lane = l }

  -- the requests of the child that is named, or else of the processor
  requests_up : (m : Option ObjectId) → is_own_child tree o m ≡ true → loses_head s (same_queue (at_lane UpRequests)) (always (deq (requests_of at (place_of_me tree o m))) ∷ []) ≡ (option_map_or (λ child. child.0 == u) m false && is_child tree u o)
  requests_up None own = no_queue (u == o)
  requests_up (Some child) own =
      ap (λ n. (u == n && true) || false) (element_or (children_of tree o) (place_among tree o child.0) 0 child.0 (child_at tree o child.0 own))
      ∙ or_false (u == child.0 && true)
      ∙ and_true (u == child.0)
      ∙ by_same (child.0 == u) refl
    where
      by_same : (b : Bool) → (child.0 == u) ≡ b → (u == child.0) ≡ (child.0 == u && is_child tree u o)
      by_same true same = let equal : u ≡ child.0 = sym (eqb-true child.0 u same) in let child_is : is_child tree u o ≡ true = ap (λ n. is_child tree n o) equal ∙ own in rw (same, child_is) (same_number u child.0 equal)
      by_same false apart = rw apart (turned u child.0 ∙ apart)

  requests_own : (m : Option ObjectId) → loses_head s (same_queue (at_lane Requests)) (always (deq (requests_of at (place_of_me tree o m))) ∷ []) ≡ (is_none m && u == o)
  requests_own None = or_false (u == o && true) ∙ and_true (u == o)
  requests_own (Some child) = no_queue _

  requests_other : (m : Option ObjectId) (l : Lane) → same_lane l UpRequests ≡ false → same_lane l Requests ≡ false → loses_head s (same_queue (at_lane l)) (always (deq (requests_of at (place_of_me tree o m))) ∷ []) ≡ false
  requests_other None l up own = ap (λ b. (u == o && b) || false) own ∙ no_queue (u == o)
  requests_other (Some child) l up own = ap (λ b. (u == slice_index_or (children_of tree o) (place_among tree o child.0) 0 && b) || false) up ∙ no_queue (u == slice_index_or (children_of tree o) (place_among tree o child.0) 0)

  -- the children's responses are no other lists
  kids_other : (l : Lane) → same_lane l UpResponses ≡ false → loses_head s (same_queue (at_lane l)) (map (λ k. where_holds (is_awaited k ∷ []) (deq (responses_of k))) (kids_at at)) ≡ false
  kids_other l other =
      list_any-map (λ a. is_done s a && takes_head (same_queue (at_lane l)) a.deed) (λ k. where_holds (is_awaited k ∷ []) (deq (responses_of k))) (kids_at at)
      ∙ none_from (λ c. (s.reg (awaits c) == 1 && true) && (u == c && same_lane l UpResponses)) 0 (children_of tree o) (λ j c kid. ap (λ b. (s.reg (awaits c) == 1 && true) && (u == c && b)) other ∙ never_by _ _)

  -- the responses of what is no child
  kids_apart : is_child tree u o ≡ false → loses_head s (same_queue (at_lane UpResponses)) (map (λ k. where_holds (is_awaited k ∷ []) (deq (responses_of k))) (kids_at at)) ≡ false
  kids_apart apart =
      list_any-map (λ a. is_done s a && takes_head (same_queue (at_lane UpResponses)) a.deed) (λ k. where_holds (is_awaited k ∷ []) (deq (responses_of k))) (kids_at at)
      ∙ none_from (λ c. (s.reg (awaits c) == 1 && true) && (u == c && true)) 0 (children_of tree o) (λ j c kid. none_by _ _ true (differ u c (λ same. clash c (at_child tree o j c kid).0 same)))
    where
      clash : (c : ℕ) → is_child tree c o ≡ true → u ≢ c
      clash c child same = let bad : false ≡ true = sym apart ∙ ap (λ n. is_child tree n o) same ∙ child in cc

  start : (tk : Take) → rule.take ≡ tk → (l : Lane) → loses_head s (same_queue (at_lane l)) (actions_of p at me rule) ≡ loses_head s (same_queue (at_lane l)) (take_actions at me tk)
  start tk is l = takes_alone s (same_queue (at_lane l)) p at me rule ∙ ap (λ t. loses_head s (same_queue (at_lane l)) (take_actions at me t)) is

  no_response : (b : Bool) (k : ℕ) → (b && has_bit 0 k) ≡ false
  no_response true k = no_bit k
  no_response false k = refl

  pub taken_from : (tk : Take) → rule.take ≡ tk → (to : To) (m : Message) (l : Lane) → loses_head s (same_queue (at_lane l)) (actions_of p at me rule) ≡ takes tree f (outs_by tk me local heads to m) u l
  taken_from (take.Me id) is to m UpRequests = start (take.Me id) is UpRequests ∙ requests_up f.me own_child
  taken_from (take.Me id) is to m UpResponses = start (take.Me id) is UpResponses ∙ requests_other f.me UpResponses refl refl ∙ sym (no_response (is_child tree u o) (place_among tree o u))
  taken_from (take.Me id) is to m Down = start (take.Me id) is Down ∙ requests_other f.me Down refl refl
  taken_from (take.Me id) is to m Requests = start (take.Me id) is Requests ∙ requests_own f.me
  taken_from (take.Me id) is to m Answers = start (take.Me id) is Answers ∙ requests_other f.me Answers refl refl
  taken_from (take.Parent id) is to m UpRequests = start (take.Parent id) is UpRequests ∙ no_queue (u == o)
  taken_from (take.Parent id) is to m UpResponses = start (take.Parent id) is UpResponses ∙ no_queue (u == o) ∙ sym (no_response (is_child tree u o) (place_among tree o u))
  taken_from (take.Parent id) is to m Down = start (take.Parent id) is Down ∙ or_false (u == o && true) ∙ and_true (u == o)
  taken_from (take.Parent id) is to m Requests = start (take.Parent id) is Requests ∙ no_queue (u == o)
  taken_from (take.Parent id) is to m Answers = start (take.Parent id) is Answers ∙ no_queue (u == o)
  taken_from (take.Kids id) is to m UpResponses = by_child (is_child tree u o) refl
    where
      by_child : (b : Bool) → is_child tree u o ≡ b → loses_head s (same_queue (at_lane UpResponses)) (actions_of p at me rule) ≡ (is_child tree u o && has_bit (awaited_of local).0 (place_among tree o u))
      by_child true child = responses_lost s p at me rule local heads id (place_among tree o u) u kids shows (child_at tree o u child) is ∙ rw child refl
      by_child false apart = start (take.Kids id) is UpResponses ∙ kids_apart apart ∙ rw apart refl
  taken_from (take.Kids id) is to m UpRequests = start (take.Kids id) is UpRequests ∙ kids_other UpRequests refl
  taken_from (take.Kids id) is to m Down = start (take.Kids id) is Down ∙ kids_other Down refl
  taken_from (take.Kids id) is to m Requests = start (take.Kids id) is Requests ∙ kids_other Requests refl
  taken_from (take.Kids id) is to m Answers = start (take.Kids id) is Answers ∙ kids_other Answers refl
  taken_from take.Nothing is to m UpRequests = start take.Nothing is UpRequests
  taken_from take.Nothing is to m UpResponses = start take.Nothing is UpResponses ∙ sym (no_response (is_child tree u o) (place_among tree o u))
  taken_from take.Nothing is to m Down = start take.Nothing is Down
  taken_from take.Nothing is to m Requests = start take.Nothing is Requests
  taken_from take.Nothing is to m Answers = start take.Nothing is Answers
