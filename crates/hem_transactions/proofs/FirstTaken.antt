-- The number that an event takes along where it takes no request and nothing of the parent.
use Rattle.std.proofs.Common.{◌≡◌, refl, sym, ap, ◌∙◌, ℕ, Bool, true, false, cond, List, [], ◌∷◌, ◌++◌, map, Option, None, Some}
use Rattle.std.specs.Prelude.{slice_get, option_and_then, option_map, option_to_list}
use Rattle.std.proofs.lemmas.Option.{slice_get-map}
use Rattle.hem_base.specs.declared.ids.ObjectId.{ObjectId}
use Rattle.hem_tree.specs.Tree.{Tree}
use Rattle.hem_system.specs.declared.lane.Lane.TheVariants.{UpRequests, UpResponses, Down}
use Rattle.hem_system.specs.Events.{Event}
use Rattle.hem_trace.specs.History.{Channel}
use Rattle.hem_trace.specs.Tags.{Tags}
use Rattle.hem_transactions.specs.Along.{number_taken, awaited}

-- no channel of a child whose request is taken
no_request : (of : ObjectId → Channel) (taken : Bool) (me : Option ObjectId) → cond taken me None ≡ None → map of (cond taken (option_to_list me) []) ≡ []
no_request of true None none = refl
no_request of true (Some c) none = cc
no_request of false me none = refl

-- the first number in the first of some channels
abbrev first_of : Tags → List Channel → Option ℕ
first_of tags cs = option_and_then (λ c. slice_get (tags c) 0) (slice_get cs 0)

-- the channels of an event: of a child's request, of the parent's messages, of a child's responses
abbrev asked_by : Event → ObjectId → Channel
asked_by e child = record { line = e.firing.line.0; object = child.0; lane = UpRequests }

abbrev from_parent : Event → Channel
from_parent e = record { line = e.firing.line.0; object = e.firing.object.0; lane = Down }

abbrev answered_by : Event → ℕ → Channel
answered_by e k = record { line = e.firing.line.0; object = k; lane = UpResponses }

abbrev kids_of : Tree → Event → List Channel
kids_of tree e = map (answered_by e) (awaited tree e.firing.object.0 e.outs.taken_kids.0)

-- then it is that of the response of the first awaited child
pub by_kids : (tree : Tree) (tags : Tags) (e : Event) → cond e.outs.taken_request e.firing.me None ≡ None → e.outs.taken_parent ≡ false → option_and_then (λ k. slice_get (tags (answered_by e k)) 0) (slice_get (awaited tree e.firing.object.0 e.outs.taken_kids.0) 0) ≡ number_taken tree tags e
by_kids tree tags e none parent =
    let kids = awaited tree e.firing.object.0 e.outs.taken_kids.0 in
    sym (ap (λ cs. first_of tags (cs ++ cond e.outs.taken_parent (from_parent e ∷ []) [] ++ kids_of tree e)) (no_request (asked_by e) e.outs.taken_request e.firing.me none)
    ∙ ap (λ b. first_of tags ([] ++ cond b (from_parent e ∷ []) [] ++ kids_of tree e)) parent
    ∙ ap (option_and_then (λ c. slice_get (tags c) 0)) (slice_get-map (answered_by e) kids 0)
    ∙ and_then_map (answered_by e) (λ c. slice_get (tags c) 0) (slice_get kids 0))
  where
    and_then_map : (g : ℕ → Channel) (h : Channel → Option ℕ) (k : Option ℕ) → option_and_then h (option_map g k) ≡ option_and_then (λ k. h (g k)) k
    and_then_map g h None = refl
    and_then_map g h (Some k) = refl
