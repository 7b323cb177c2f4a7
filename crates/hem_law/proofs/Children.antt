-- The children of an object by their places among them.
use Rattle.std.proofs.Common.{◌≡◌, refl, ap, ◌∙◌, ℕ, zero, suc, ◌+◌, Bool, true, false, ◌&&◌, cond, List, [], ◌∷◌, ◌++◌, map, length, arith, add-zero, Option, Some, None}
use Rattle.std.specs.Prelude.{◌==◌, filter, count_by, is_none}
use Rattle.std.specs.Option.{option_map_or}
use Rattle.std.proofs.lemmas.Bool.{eq-eqb}
use Rattle.std.proofs.lemmas.List.{map-append, length-map}
use Rattle.std.proofs.lemmas.List.Elements.{filter-append}
use Rattle.std.proofs.lemmas.List.Sums.{length-filter}
use Rattle.hem_base.specs.Sets.{has_bit}
use Rattle.hem_base.specs.declared.ids.Message.{Message}
use Rattle.hem_base.specs.declared.ids.ObjectId.{ObjectId}
use Rattle.hem_system.specs.declared.lane.Lane.{Lane}
use Rattle.hem_system.specs.declared.lane.Lane.TheVariants.{UpRequests, UpResponses, Down, Requests}
use Rattle.hem_tree.specs.Tree.{Tree, below, is_child}
use Rattle.hem_fire.specs.OneFire.{Heads}
use Rattle.hem_system.specs.State.{Line, map_each, heads_of, request_head, is_own_child, head_at, taken_heads, takes}
use Rattle.hem_system.specs.Events.{Event}
use Rattle.hem_trace.specs.History.{head_seen}
use Rattle.hem_law.specs.Chains.{heads_seen}

-- of heads from a place on, those in a set
abbrev pub at_bits : ℕ → ℕ → List (Option Message) → List (Option Message)
at_bits set i heads = map_each (λ k head. cond (has_bit set k) head None) i heads

-- a function of place and element over two lists
pub map_each-append : {A B : Type 0} (f : ℕ → A → B) (i : ℕ) (xs ys : List A) → map_each f i (xs ++ ys) ≡ map_each f i xs ++ map_each f (i + length xs) ys
map_each-append f i [] ys = rw add-zero refl
map_each-append f i (x ∷ xs) ys =
    let e : (i + 1) + length xs ≡ i + suc (length xs) = omega arith in
    rw (map_each-append f (i + 1) xs ys, e) refl

-- one more at the end of the heads in a set
kids-more : (set : ℕ) (t : Bool) (n i : ℕ) (F G : ℕ → Option Message) (xs ys : List (Option Message)) → at_bits set 0 xs ≡ at_bits set 0 ys → length xs ≡ i → length ys ≡ i → ((t && has_bit set i) ≡ true → F n ≡ G n) → at_bits set 0 (xs ++ map F (cond t (n ∷ []) [])) ≡ at_bits set 0 (ys ++ map G (cond t (n ∷ []) []))
kids-more set false n i F G xs ys same lx ly met = rw (map_each-append (λ k head. cond (has_bit set k) head None) 0 xs [], map_each-append (λ k head. cond (has_bit set k) head None) 0 ys [], same) refl
kids-more set true n i F G xs ys same lx ly met =
    let e : 0 + length xs ≡ i = omega arith in
    let e' : 0 + length ys ≡ i = omega arith in
    rw (map_each-append (λ k head. cond (has_bit set k) head None) 0 xs (F n ∷ []), map_each-append (λ k head. cond (has_bit set k) head None) 0 ys (G n ∷ []), e, e', same) (ap (λ x. at_bits set 0 ys ++ x ∷ []) (one (has_bit set i) met))
  where
    one : (b : Bool) → (b ≡ true → F n ≡ G n) → cond b (F n) None ≡ cond b (G n) None
    one true met = met refl
    one false met = refl

-- of the numbers below n that pass a test, alike where their places are in a set
kids-below : (set : ℕ) (test : ℕ → Bool) (n : ℕ) (F G : ℕ → Option Message) → ((k : ℕ) → (test k && has_bit set (count_by test (below k))) ≡ true → F k ≡ G k) → at_bits set 0 (map F (filter test (below n))) ≡ at_bits set 0 (map G (filter test (below n)))
kids-below set test zero F G met = refl
kids-below set test (suc n) F G met =
    let places = length-filter test (below n) in
    rw (filter-append test (below n) (n ∷ []), map-append F (filter test (below n)) (cond (test n) (n ∷ []) []), map-append G (filter test (below n)) (cond (test n) (n ∷ []) []))
    (kids-more set (test n) n (count_by test (below n)) F G (map F (filter test (below n))) (map G (filter test (below n))) (kids-below set test n F G met) (length-map (filter test (below n)) F ∙ places) (length-map (filter test (below n)) G ∙ places) (met n))

-- the requester's head
me-met : (tree : Tree) (taken : Bool) (me : Option ObjectId) (line : Line) (o : ℕ) (seen : Option Message) → is_own_child tree o me ≡ true → ((k : ℕ) → (taken && option_map_or (λ child. child.0 == k) me false && is_child tree k o) ≡ true → head_at line k UpRequests ≡ seen) → ((k : ℕ) → (taken && is_none me && k == o) ≡ true → head_at line k Requests ≡ seen) → cond taken (request_head line o me) None ≡ cond taken seen None
me-met tree false me line o seen child up own = refl
me-met tree true None line o seen child up own = own o (eq-eqb o o refl)
me-met tree true (Some kid) line o seen child up own = up kid.0 (rw (eq-eqb kid.0 kid.0 refl) child)

-- the parent's head
parent-met : (taken : Bool) (line : Line) (o : ℕ) (seen : Option Message) → ((k : ℕ) → (taken && k == o) ≡ true → head_at line k Down ≡ seen) → cond taken (head_at line o Down) None ≡ cond taken seen None
parent-met false line o seen down = refl
parent-met true line o seen down = down o (eq-eqb o o refl)

-- heads by their fields
heads_same : (me me' parent parent' : Option Message) (kids kids' : List (Option Message)) → me ≡ me' → parent ≡ parent' → kids ≡ kids' → (let h : Heads = record { request = me; parent = parent; kids = kids } in h) ≡ record { request = me'; parent = parent'; kids = kids' }
heads_same me me' parent parent' kids kids' a b c = rw (a, b, c) refl

-- where the lists that an event takes from have the heads that it saw, it takes what it saw
pub heads-met : (tree : Tree) (line : Line) (e : Event) → is_own_child tree e.firing.object.0 e.firing.me ≡ true → ((k : ℕ) (lane : Lane) → takes tree e.firing e.outs k lane ≡ true → head_at line k lane ≡ head_seen tree e k lane) → taken_heads e.outs (heads_of tree line e.firing.object.0 e.firing.me) ≡ taken_heads e.outs (heads_seen tree e)
heads-met tree line e child met =
    heads_same _ _ _ _ _ _
    (me-met tree e.outs.taken_request e.firing.me line e.firing.object.0 e.took.request child (λ k t. met k UpRequests t) (λ k t. met k Requests t))
    (parent-met e.outs.taken_parent line e.firing.object.0 e.took.parent (λ k t. met k Down t))
    (kids-below e.outs.taken_kids.0 (λ k. is_child tree k e.firing.object.0) (length tree) (λ k. head_at line k UpResponses) (λ k. head_seen tree e k UpResponses) (λ k t. met k UpResponses t))
