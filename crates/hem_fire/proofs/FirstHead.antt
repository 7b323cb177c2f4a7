-- The heads of some children's lists.
use Rattle.std.proofs.Common.{◌≡◌, refl, ℕ, ◌+◌, Bool, true, false, List, [], ◌∷◌, length, arith}
use Rattle.std.specs.Prelude.{Option, slice_get, filter, nat_lt, cond, ◌&&◌, ◌||◌}
use Rattle.std.specs.List.{enumerate_from, list_any, list_all}
use Rattle.hem_base.specs.Sets.{has_bit}
use Rattle.hem_base.specs.declared.ids.Message.{Message}
use Rattle.hem_base.specs.declared.ids.MsgId.{MsgId}
use Rattle.hem_base.specs.declared.ids.KidSet.{KidSet}
use Rattle.hem_syntax.specs.declared.rule.Take.TheVariants.{Kids}
use Rattle.hem_object.specs.Local.{Local}
use Rattle.hem_fire.specs.Heads.{Heads, has_id, awaited_of, heads_at, takes_there}

-- the first of these children from a place on, with its head
abbrev pub first_from : KidSet → ℕ → List (Option Message) → Option (ℕ × Option Message)
first_from kids place heads = slice_get (filter (λ k. has_bit kids.0 k.0) (enumerate_from place heads)) 0

-- a child that is not in the set is passed over
pub first_from-past : (kids : KidSet) (place : ℕ) (head : Option Message) (heads : List (Option Message)) → has_bit kids.0 place ≡ false → first_from kids place (head ∷ heads) ≡ first_from kids (place + 1) heads
first_from-past kids place head heads past = rw past refl

one_more : {X : Type 0} (x : X) (xs : List X) (passes rest : Bool) → rest ≡ nat_lt 0 (length xs) → (passes || rest) ≡ nat_lt 0 (length (cond passes (x ∷ xs) xs))
one_more x xs true rest h = grind arith
one_more x xs false rest h = h

-- some element passes a test exactly where a filter by it leaves one
pub list_any-filter : {X : Type 0} (test : X → Bool) (xs : List X) → list_any test xs ≡ nat_lt 0 (length (filter test xs))
list_any-filter test [] = refl
list_any-filter test (x ∷ xs) = one_more x (filter test xs) (test x) (list_any test xs) (list_any-filter test xs)

-- the awaited responses are there where some child is awaited and each response has the id
pub takes_there-kids : (id : MsgId) (local : Local) (heads : Heads) (awaited : KidSet) (some : Bool) → awaited ≡ awaited_of local → some ≡ list_any (λ k. has_bit awaited.0 k.0) (enumerate_from 0 heads.kids) → takes_there (Kids id) local heads ≡ (some && list_all (λ k. has_id k.1 id) (heads_at awaited heads))
takes_there-kids id local heads awaited some awaited_is some_is =
    rw (some_is, awaited_is, list_any-filter) refl
