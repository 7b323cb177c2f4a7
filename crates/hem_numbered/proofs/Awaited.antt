-- Where children's answers are taken there is one at least, and each is there.
use Rattle.std.proofs.Common.{◌≡◌, ℕ, zero, suc, ◌+◌, Bool, true, false, cond, ◌&&◌, List, [], ◌∷◌, length, map, refl, sym, ap, ◌∙◌, arith, Option, Some}
use Rattle.std.specs.Prelude.{nat_lt, slice_get, filter}
use Rattle.std.specs.List.{list_all, enumerate_from}
use Rattle.hem_base.specs.Sets.{has_bit}
use Rattle.hem_base.specs.declared.ids.Kind.{Kind}
use Rattle.hem_base.specs.declared.ids.Message.{Message}
use Rattle.hem_base.specs.declared.ids.MsgId.{MsgId}
use Rattle.hem_base.specs.declared.ids.Firing.{Firing}
use Rattle.hem_syntax.specs.declared.rule.Rule.{Rule}
use Rattle.hem_syntax.specs.declared.rule.Take.TheVariants as take
use Rattle.hem_syntax.specs.Protocol.{Protocol}
use Rattle.hem_object.specs.Local.{Local}
use Rattle.hem_tree.specs.Tree.{Tree, children_of, is_child, place_among}
use Rattle.hem_fire.specs.declared.outs.Outs.{Outs}
use Rattle.hem_fire.specs.Heads.{has_id, awaited_of, awaited_heads, takes_there}
use Rattle.hem_fire.specs.OneFire.{OneFire}
use Rattle.hem_system.specs.declared.lane.Lane.TheVariants.{UpResponses}
use Rattle.hem_system.specs.State.{Line, head_at, takes, heads_of}
use Rattle.hem_system.proofs.Kids.{child_at, at_child}
use Rattle.hem_system.proofs.Takers.{and_left, and_right}
use Rattle.hem_rows.specs.Acts.{IsThere}
use Rattle.hem_rows.proofs.Possible.{can_parts}

-- one more
some_more : (set i : ℕ) (x : Option Message) (heads : List (Option Message)) (b : Bool) → has_bit set i ≡ b → nat_lt 0 (length (cond b ((i, x) ∷ filter (λ x. has_bit set x.0) (enumerate_from (i + 1) heads)) (filter (λ x. has_bit set x.0) (enumerate_from (i + 1) heads)))) ≡ true → (nat_lt 0 (length (filter (λ x. has_bit set x.0) (enumerate_from (i + 1) heads))) ≡ true → (k : ℕ) × (head : Option Message) × (has_bit set ((i + 1) + k) ≡ true) × (slice_get heads k ≡ Some head)) → (k : ℕ) × (head : Option Message) × (has_bit set (i + k) ≡ true) × (slice_get (x ∷ heads) k ≡ Some head)
some_more set i x heads true is some rest = (zero, x, (let same : i + zero ≡ i = omega arith in ap (has_bit set) same ∙ is), refl)
some_more set i x heads false is some rest = let it = rest some in (suc it.0, it.1, (let same : i + suc it.0 ≡ (i + 1) + it.0 = omega arith in ap (has_bit set) same ∙ it.2), it.3)

-- one that passes the test
some_at : (set i : ℕ) (heads : List (Option Message)) → nat_lt 0 (length (filter (λ x. has_bit set x.0) (enumerate_from i heads))) ≡ true → (k : ℕ) × (head : Option Message) × (has_bit set (i + k) ≡ true) × (slice_get heads k ≡ Some head)
some_at set i [] some = cc
some_at set i (x ∷ heads) some = some_more set i x heads (has_bit set i) refl some (λ rest. some_at set (i + 1) heads rest)

get_map : {A B : Type 0} (f : A → B) (xs : List A) (i : ℕ) (x : A) → slice_get xs i ≡ Some x → slice_get (map f xs) i ≡ Some (f x)
get_map f [] i x at = cc
get_map f (y ∷ xs) zero x at = let same : y ≡ x = cc in ap (λ y. Some (f y)) same
get_map f (y ∷ xs) (suc i) x at = get_map f xs i x at

got_map : {A B : Type 0} (f : A → B) (xs : List A) (i : ℕ) (y : B) → slice_get (map f xs) i ≡ Some y → (x : A) × (slice_get xs i ≡ Some x)
got_map f [] i y at = cc
got_map f (x ∷ xs) zero y at = (x, refl)
got_map f (x ∷ xs) (suc i) y at = got_map f xs i y at

-- one answer is taken
pub some_taken : (p : Protocol) (tree : Tree) (f : Firing) (kind : Kind) (rule : Rule) (me : Option ℕ) (before after : Local) (outs : Outs) (line : Line) (id : MsgId) → OneFire p kind rule me before (heads_of tree line f.object.0 f.me) after outs → rule.take ≡ take.Kids id → outs.taken_kids ≡ awaited_of before → (k : ℕ) × (takes tree f outs k UpResponses ≡ true)
some_taken p tree f kind rule me before after outs line id fires is kids =
    let heads = heads_of tree line f.object.0 f.me in
    let can = can_parts p kind rule me before heads fires.possible in
    let there : takes_there (take.Kids id) before heads ≡ true = ap (λ t. takes_there t before heads) (sym is) ∙ can.takes in
    let some = some_at (awaited_of before).0 0 heads.kids (and_left (nat_lt 0 (length (awaited_heads before heads))) (list_all (λ k. has_id k.1 id) (awaited_heads before heads)) there) in
    let got = got_map (λ k. head_at line k UpResponses) (children_of tree f.object.0) some.0 some.1 some.3 in
    let at = at_child tree f.object.0 some.0 got.0 got.1 in (
      got.0,
      ap (λ b. b && has_bit outs.taken_kids.0 (place_among tree f.object.0 got.0)) at.0
          ∙ ap (λ s. has_bit s.0 (place_among tree f.object.0 got.0)) kids
          ∙ ap (has_bit (awaited_of before).0) (let place = at.1 in let same : place_among tree f.object.0 got.0 ≡ 0 + some.0 = omega (arith, place) in same)
          ∙ some.2,
    )

-- each that is taken is there
pub each_there : (tree : Tree) (f : Firing) (before : Local) (outs : Outs) (line : Line) → outs.taken_kids ≡ awaited_of before → ((k : ℕ) (head : Option Message) → has_bit (awaited_of before).0 k ≡ true → slice_get (heads_of tree line f.object.0 f.me).kids k ≡ Some head → IsThere head) → (k : ℕ) → takes tree f outs k UpResponses ≡ true → IsThere (head_at line k UpResponses)
each_there tree f before outs line kids there k is =
    let own = and_left (is_child tree k f.object.0) (has_bit outs.taken_kids.0 (place_among tree f.object.0 k)) is in
    let has = and_right (is_child tree k f.object.0) (has_bit outs.taken_kids.0 (place_among tree f.object.0 k)) is in
    there (place_among tree f.object.0 k) (head_at line k UpResponses)
    (ap (λ s. has_bit s.0 (place_among tree f.object.0 k)) (sym kids) ∙ has)
    (get_map (λ k. head_at line k UpResponses) (children_of tree f.object.0) (place_among tree f.object.0 k) k (child_at tree f.object.0 k own))
