-- The members in the normal order are those of the entries.
use Rattle.std.proofs.Common.{◌≡◌, refl, ap, ◌∙◌, ℕ, ◌+◌, Bool, true, false, ◌&&◌, cond, List, [], ◌∷◌, ◌++◌, Option, None, Some}
use Rattle.std.specs.Prelude.{◌==◌, nat_lt, filter, flat_map, option_map}
use Rattle.std.specs.Option.{option_map_or}
use Rattle.hem_trace.specs.Order.{Entry, is_higher, highest, entries_in, anchor_of, is_moved as entry_moved, with_moved, normal}
use Rattle.hem_regroup.specs.declared.tops.Top.{Top}
use Rattle.hem_regroup.specs.Printed.{member_of, members_of}
use Rattle.hem_regroup.specs.Normal.{top_at, upper, top_from, place_of, anchor, is_moved, held_from, with_held, normal_from, normal_members, numbered_of, all_numbered, ArePlaced}

-- where an entry stands
abbrev top_of : Entry → Top
top_of e = record { level = e.level; object = e.event.firing.object.0; place = e.place }

-- the highest entry of a transaction
upper-highest : (o : Option Entry) (e : Entry) → option_map top_of (Some (option_map_or (λ top. cond (is_higher top e) top e) o e)) ≡ Some (upper (option_map top_of o) (top_of e))
upper-highest None e = refl
upper-highest (Some top) e = by_test (is_higher top e)
  where
    by_test : (b : Bool) → Some (top_of (cond b top e)) ≡ Some (cond b (top_of top) (top_of e))
    by_test true = refl
    by_test false = refl

top-highest : (k : ℕ) (es : List Entry) (n : ℕ) → ArePlaced k es → option_map top_of (highest (entries_in n es)) ≡ top_from k (all_numbered es) n
top-highest k [] n placed = refl
top-highest k (e ∷ es) n placed = by_test (e.number == n) (top-highest (k + 1) es n placed.1)
  where
    by_test : (b : Bool) → option_map top_of (highest (entries_in n es)) ≡ top_from (k + 1) (all_numbered es) n → option_map top_of (highest (cond b (e ∷ entries_in n es) (entries_in n es))) ≡ cond b (Some (upper (top_from (k + 1) (all_numbered es) n) (top_at k (numbered_of e)))) (top_from (k + 1) (all_numbered es) n)
    by_test true rest =
        upper-highest (highest (entries_in n es)) e
        ∙ ap (λ o. Some (upper o (top_of e))) rest
        ∙ ap (λ p. Some (upper (top_from (k + 1) (all_numbered es) n) (record { level = e.level; object = e.event.firing.object.0; place = p }))) placed.0
    by_test false rest = rest

place-top : (o : Option Entry) → option_map_or (λ e. e.place) o 0 ≡ place_of (option_map top_of o)
place-top None = refl
place-top (Some e) = refl

anchor-same : (all : List Entry) (n : ℕ) → ArePlaced 0 all → anchor_of all n ≡ anchor (all_numbered all) n
anchor-same all n placed = place-top (highest (entries_in n all)) ∙ ap place_of (top-highest 0 all n placed)

-- what is moved
moved-same : (all : List Entry) (k : ℕ) (e : Entry) → ArePlaced 0 all → e.place ≡ k → entry_moved all e ≡ is_moved (all_numbered all) k (numbered_of e)
moved-same all k e placed at = (λ i. e.upward && nat_lt (at i) (anchor-same all e.number placed i))

held-same : (all : List Entry) (k : ℕ) (es : List Entry) (n : ℕ) → ArePlaced 0 all → ArePlaced k es → members_of (filter (entry_moved all) (entries_in n es)) ≡ held_from (all_numbered all) k (all_numbered es) n
held-same all k [] n all_placed placed = refl
held-same all k (e ∷ es) n all_placed placed =
    by_tests (e.number == n) (entry_moved all e) (held-same all (k + 1) es n all_placed placed.1)
    ∙ ap (λ b. cond (e.number == n && b) (member_of e ∷ []) [] ++ held_from (all_numbered all) (k + 1) (all_numbered es) n) (moved-same all k e all_placed placed.0)
  where
    by_tests : (b m : Bool) → members_of (filter (entry_moved all) (entries_in n es)) ≡ held_from (all_numbered all) (k + 1) (all_numbered es) n → members_of (filter (entry_moved all) (cond b (e ∷ entries_in n es) (entries_in n es))) ≡ cond (b && entry_moved all e) (member_of e ∷ []) [] ++ held_from (all_numbered all) (k + 1) (all_numbered es) n
    by_tests true m rest = by_moved (entry_moved all e)
      where
        by_moved : (m : Bool) → members_of (cond m (e ∷ filter (entry_moved all) (entries_in n es)) (filter (entry_moved all) (entries_in n es))) ≡ cond m (member_of e ∷ []) [] ++ held_from (all_numbered all) (k + 1) (all_numbered es) n
        by_moved true = ap (λ members. member_of e ∷ members) rest
        by_moved false = rest
    by_tests false m rest = rest

members-append : (es more : List Entry) → members_of (es ++ more) ≡ members_of es ++ members_of more
members-append [] more = refl
members-append (e ∷ es) more = ap (λ members. member_of e ∷ members) (members-append es more)

with-same : (all : List Entry) (k : ℕ) (e : Entry) → ArePlaced 0 all → e.place ≡ k → members_of (with_moved all e) ≡ with_held (all_numbered all) k (numbered_of e)
with-same all k e placed at =
    by_tests (entry_moved all e) (e.place == anchor_of all e.number)
    ∙ (λ i. cond (moved-same all k e placed at i) [] (cond (at i == anchor-same all e.number placed i) (held-same all 0 all e.number placed placed i) [] ++ member_of e ∷ []))
  where
    by_tests : (m a : Bool) → members_of (cond m [] (cond a (filter (entry_moved all) (entries_in e.number all)) [] ++ e ∷ [])) ≡ cond m [] (cond a (members_of (filter (entry_moved all) (entries_in e.number all))) [] ++ member_of e ∷ [])
    by_tests true a = refl
    by_tests false true = members-append (filter (entry_moved all) (entries_in e.number all)) (e ∷ [])
    by_tests false false = refl

normal-same : (all : List Entry) (k : ℕ) (es : List Entry) → ArePlaced 0 all → ArePlaced k es → members_of (flat_map (with_moved all) es) ≡ normal_from (all_numbered all) k (all_numbered es)
normal-same all k [] all_placed placed = refl
normal-same all k (e ∷ es) all_placed placed =
    members-append (with_moved all e) (flat_map (with_moved all) es)
    ∙ (λ i. with-same all k e all_placed placed.0 i ++ normal-same all (k + 1) es all_placed placed.1 i)

pub normal_members-same : (all : List Entry) → ArePlaced 0 all → members_of (normal all) ≡ normal_members (all_numbered all)
normal_members-same all placed = normal-same all 0 all placed placed
