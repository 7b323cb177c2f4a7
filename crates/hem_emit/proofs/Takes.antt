-- The clauses on what a rule takes hold where it is there.
use Rattle.std.proofs.Common.{◌≡◌, refl, ap, sym, ◌∙◌, ℕ, Bool, true, false, not, cond, ◌&&◌, ◌||◌, List, [], ◌∷◌, Option, Some, None}
use Rattle.std.specs.Prelude.{◌==◌, map, option_map}
use Rattle.std.specs.List.{list_all, list_any, enumerate_from}
use Rattle.std.specs.Option.{option_map_or}
use Rattle.std.proofs.lemmas.List.Folds.{list_all-map, list_all-append}
use Rattle.hem_base.specs.Sets.{has_bit}
use Rattle.hem_base.specs.declared.ids.MsgId.{MsgId}
use Rattle.hem_base.specs.declared.ids.Message.{Message}
use Rattle.hem_syntax.specs.declared.rule.Take.{Take}
use Rattle.hem_syntax.specs.declared.rule.Take.TheVariants as take
use Rattle.hem_object.specs.Local.{Local}
use Rattle.hem_fire.specs.Heads.{Heads, has_id, awaited_of, heads_at, takes_there}
use Rattle.hem_fire.proofs.FirstHead.{takes_there-kids}
use Rattle.hem_module.specs.Module.{Item, equals, has_head}
use Rattle.hem_module.specs.Step.{Held, head_of, test_holds, clause_holds}
use Rattle.hem_emit.specs.Names.{Reg, Queue, awaits}
use Rattle.hem_emit.specs.Place.{Clause, Place, kids_at}
use Rattle.hem_emit.specs.Clauses.{take_clauses, responses_of, requests_of, parent_queue}
use Rattle.hem_emit.specs.Image.{item_of}
use Rattle.hem_emit.proofs.Tests.{or_false, list_all-one, list_any-map, list_all-filter, all_alike, any_alike}
use Rattle.hem_emit.proofs.Entries.{Sees, or_alike}

-- the head of a queue has an id where the head of the list has it
pub head_is : (s : Held Reg Queue) (q : Queue) (head : Option Message) (id : MsgId) → head_of s q ≡ option_map item_of head → test_holds s (has_head q id.0) ≡ has_id head id
head_is s q head id shown = ap (λ (i : Option Item). option_map_or (λ m. m.id == id.0) i false) shown ∙ of_item head
  where
    of_item : (head : Option Message) → option_map_or (λ m. m.id == id.0) (option_map item_of head) false ≡ has_id head id
    of_item None = refl
    of_item (Some m) = refl

one_head : (b : Bool) → ((b || false) && true) ≡ b
one_head true = refl
one_head false = refl

and_swapped : (a b : Bool) → (a && b) ≡ (b && a)
and_swapped true true = refl
and_swapped true false = refl
and_swapped false true = refl
and_swapped false false = refl

pub bit_is_not : (n : ℕ) (b : Bool) → n ≡ cond b 1 0 → (n == 0) ≡ not b
bit_is_not n true is = rw is refl
bit_is_not n false is = rw is refl

pub bit_is : (n : ℕ) (b : Bool) → n ≡ cond b 1 0 → (n == 1) ≡ b
bit_is n true is = rw is refl
bit_is n false is = rw is refl

module _ {at : Place} {me : Option ℕ} {local : Local} {heads : Heads} {s : Held Reg Queue} (sees : Sees at me local heads s) where
  all_answered : (id : MsgId) → list_all (clause_holds s) (map (λ k. equals (awaits k.1) 0 ∷ has_head (responses_of k) id.0 ∷ []) (kids_at at)) ≡ list_all (λ k. has_id k.1 id) (heads_at (awaited_of local) heads)
  all_answered id =
      list_all-map (clause_holds s) (λ k. equals (awaits k.1) 0 ∷ has_head (responses_of k) id.0 ∷ []) (kids_at at)
      ∙ all_alike (λ k. s.reg (awaits k.1) == 0 || (test_holds s (has_head (responses_of k) id.0) || false)) (λ k. not (has_bit (awaited_of local).0 k.0) || has_id k.1 id) at.kids heads.kids (sym sees.shows.head_count) (λ k c head kid there. or_alike _ _ _ _ (bit_is_not _ _ (sees.shows.awaited k c kid)) (or_false _ ∙ head_is s (responses_of (k, c)) head id (sees.shows.responses k c head kid there)))
      ∙ sym (list_all-filter (λ k. has_id k.1 id) (λ k. has_bit (awaited_of local).0 k.0) (enumerate_from 0 heads.kids))

  some_awaited : clause_holds s (map (λ k. equals (awaits k.1) 1) (kids_at at)) ≡ list_any (λ k. has_bit (awaited_of local).0 k.0) (enumerate_from 0 heads.kids)
  some_awaited =
      list_any-map (test_holds s) (λ k. equals (awaits k.1) 1) (kids_at at)
      ∙ any_alike (λ k. s.reg (awaits k.1) == 1) (λ k. has_bit (awaited_of local).0 k.0) at.kids heads.kids (sym sees.shows.head_count) (λ k c head kid there. bit_is _ _ (sees.shows.awaited k c kid))

  pub takes-are : (t : Take) → list_all (clause_holds s) (take_clauses at me t) ≡ takes_there t local heads
  takes-are (take.Me id) = one_head _ ∙ head_is s (requests_of at me) heads.request id sees.shows.requests
  takes-are (take.Parent id) = one_head _ ∙ head_is s (parent_queue at) heads.parent id sees.shows.parent
  takes-are take.Nothing = refl
  takes-are (take.Kids id) =
      let each : List Clause = map (λ k. equals (awaits k.1) 0 ∷ has_head (responses_of k) id.0 ∷ []) (kids_at at) in
      let some : Clause = map (λ k. equals (awaits k.1) 1) (kids_at at) in
      list_all-append (clause_holds s) each (some ∷ [])
      ∙ ap (λ b. list_all (clause_holds s) each && b) (list_all-one (clause_holds s) some)
      ∙ and_swapped (list_all (clause_holds s) each) (clause_holds s some)
      ∙ ap (λ b. b && list_all (clause_holds s) each) some_awaited
      ∙ ap (λ b. list_any (λ k. has_bit (awaited_of local).0 k.0) (enumerate_from 0 heads.kids) && b) (all_answered id)
      ∙ sym (takes_there-kids id local heads (awaited_of local) (list_any (λ k. has_bit (awaited_of local).0 k.0) (enumerate_from 0 heads.kids)) refl refl)
