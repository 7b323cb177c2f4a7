-- Where a rule is stable no partner breaks it in the abstract state of any local state of the kind.
use Rattle.std.proofs.Common.{◌≡◌, ◌≢◌, refl, ap, sym, ◌∙◌, subst, ℕ, zero, suc, ◌+◌, ◌-◌, ◌^◌, ◌<◌, ◌≤◌, Bool, true, false, cond, List, [], ◌∷◌, ◌++◌, length, map, arith, Option, Some, None, inl, inr, ◌⊎◌}
use Rattle.std.specs.Prelude.{◌==◌, filter, find, flat_map}
use Rattle.std.proofs.lemmas.Bool.{eq-eqb}
use Rattle.std.proofs.lemmas.Bool.Decides.{eqb_tells}
use Rattle.hem_base.specs.Sets.{has_bit, bits_where}
use Rattle.hem_base.specs.declared.ids.Status8.{Status8}
use Rattle.hem_base.specs.declared.ids.StatusSet.{StatusSet}
use Rattle.hem_base.specs.declared.ids.Kind.{Kind}
use Rattle.hem_base.specs.declared.ids.Kind.TheVariants.{Root, Mid, Leaf}
use Rattle.hem_syntax.specs.declared.rule.Rule.{Rule}
use Rattle.hem_syntax.specs.Protocol.{Protocol, part}
use Rattle.hem_object.specs.Local.{Local}
use Rattle.hem_tree.specs.Tree.{below}
use Rattle.hem_abstract.specs.Abstract.{Abstract, status, occurs, abstract_of, AreBelow, AreSmall}
use Rattle.hem_abstract.specs.Partners.{Partner, alone, pair, breaks, IsPartner}
use Rattle.hem_abstract.specs.Stable.{field_lists, kid_sets, abstract_states, is_of, is_imm_up, is_rq_down_down, is_rs_up_up, partners_of, first_breach, first_unstable, IsOfKind}
use Rattle.hem_rows.proofs.Choices.{or_left}
use Rattle.hem_rows.proofs.Bits.{bits_where-is}
use Rattle.hem_object.proofs.Targets.{bits_where-lt}

-- an element is one of a list's
abbrev pub Among : {X : Type 0} → X → List X → Type 0
Among x [] = ⊥
Among x (y ∷ ys) = (y ≡ x) ⊎ Among x ys

among-left : {X : Type 0} (x : X) (xs ys : List X) → Among x xs → Among x (xs ++ ys)
among-left x [] ys is = absurd is
among-left x (z ∷ xs) ys (inl same) = inl same
among-left x (z ∷ xs) ys (inr rest) = inr (among-left x xs ys rest)

among-right : {X : Type 0} (x : X) (xs ys : List X) → Among x ys → Among x (xs ++ ys)
among-right x [] ys is = is
among-right x (z ∷ xs) ys is = inr (among-right x xs ys is)

among-map : {X Y : Type 0} (f : X → Y) (x : X) (xs : List X) → Among x xs → Among (f x) (map f xs)
among-map f x [] is = absurd is
among-map f x (y ∷ xs) (inl same) = inl (ap f same)
among-map f x (y ∷ xs) (inr rest) = inr (among-map f x xs rest)

among-flat_map : {X Y : Type 0} (f : X → List Y) (x : X) (y : Y) (xs : List X) → Among x xs → Among y (f x) → Among y (flat_map f xs)
among-flat_map f x y [] is here = absurd is
among-flat_map f x y (z ∷ xs) (inl same) here = among-left y (f z) (flat_map f xs) (subst (λ w. Among y (f w)) (sym same) here)
among-flat_map f x y (z ∷ xs) (inr rest) here = among-right y (f z) (flat_map f xs) (among-flat_map f x y xs rest here)

among-filter : {X : Type 0} (test : X → Bool) (x : X) (xs : List X) → Among x xs → test x ≡ true → Among x (filter test xs)
among-filter test x [] is passes = absurd is
among-filter {X = X} test x (y ∷ xs) is passes = by_test (test y) refl is (λ rest. among-filter test x xs rest passes)
  where
    by_test : (b : Bool) → test y ≡ b → (y ≡ x) ⊎ Among x xs → (Among x xs → Among x (filter test xs)) → Among x (cond b (y ∷ filter test xs) (filter test xs))
    by_test true at (inl same) rest = inl same
    by_test true at (inr later) rest = inr (rest later)
    by_test false at (inl same) rest = let clash : false ≡ true = sym at ∙ ap test same ∙ passes in cc
    by_test false at (inr later) rest = rest later

among-below : (k n : ℕ) → k < n → Among k (below n)
among-below k zero less = absurd (omega arith)
among-below k (suc n) less = elim (eqb_tells k n) [ inl same ↦ among-right k (below n) (n ∷ []) (inl (sym same.1)) | inr other ↦ among-left k (below n) (n ∷ []) (among-below k n (omega (arith, less, other.1))) ]

pub find-among : {X : Type 0} (test : X → Bool) (xs : List X) (x : X) → find test xs ≡ Some x → Among x xs
find-among test [] x is = cc
find-among {X = X} test (y ∷ xs) x is = by_test (test y) is (λ rest. find-among test xs x rest)
  where
    by_test : (b : Bool) → cond b (Some y) (find test xs) ≡ Some x → (find test xs ≡ Some x → Among x xs) → Among x (y ∷ xs)
    by_test true found rest = let same : y ≡ x = cc in inl same
    by_test false found rest = inr (rest found)

find-none : {X : Type 0} (test : X → Bool) (xs : List X) (x : X) → find test xs ≡ None → Among x xs → test x ≡ false
find-none test [] x none is = absurd is
find-none {X = X} test (y ∷ xs) x none is = by_test (test y) refl none is (λ rest it. find-none test xs x rest it)
  where
    by_test : (b : Bool) → test y ≡ b → cond b (Some y) (find test xs) ≡ None → (y ≡ x) ⊎ Among x xs → (find test xs ≡ None → Among x xs → test x ≡ false) → test x ≡ false
    by_test true at none is rest = cc
    by_test false at none (inl same) rest = ap test (sym same) ∙ at
    by_test false at none (inr later) rest = rest none later

-- no breach
breach-some : (states : List Abstract) (u : Rule) (d : Partner) (ds : List Partner) (at : Abstract) → find (breaks u d) states ≡ Some at → first_breach states u (d ∷ ds) ≡ Some (record { partner = d; at = at })
breach-some states u d ds at is = rw (is, first_breach) refl

breach-none : (states : List Abstract) (u : Rule) (d : Partner) (ds : List Partner) → find (breaks u d) states ≡ None → first_breach states u (d ∷ ds) ≡ first_breach states u ds
breach-none states u d ds is = rw (is, first_breach) refl

never-breaks : (states : List Abstract) (u : Rule) (ds : List Partner) (d : Partner) (at : Abstract) → first_breach states u ds ≡ None → Among d ds → Among at states → breaks u d at ≡ false
never-breaks states u [] d at none is there = absurd is
never-breaks states u (e ∷ ds) d at none is there = by_found (find (breaks u e) states) refl is (λ rest it. never-breaks states u ds d at rest it there)
  where
    by_found : (found : Option Abstract) → find (breaks u e) states ≡ found → (e ≡ d) ⊎ Among d ds → (first_breach states u ds ≡ None → Among d ds → breaks u d at ≡ false) → breaks u d at ≡ false
    by_found (Some x) is among rest = let clash = sym (breach-some states u e ds x is) ∙ none in cc
    by_found None is (inl same) rest = subst (λ e. breaks u e at ≡ false) same (find-none (breaks u e) states at is there)
    by_found None is (inr later) rest = rest (sym (breach-none states u e ds is) ∙ none) later

-- the partners of a kind
among-partners : (p : Protocol) (kind : Kind) (d : Partner) → IsPartner p kind d → Among d (partners_of p kind)
among-partners p kind (alone d) is =
    let rules = (part p kind).rules in
    let test : is_of p kind is_imm_up d ≡ true = ap is_imm_up is.2 in
    among-flat_map (λ d. cond (is_of p kind is_imm_up d) (alone d ∷ []) [] ++ cond (is_of p kind is_rq_down_down d) (map (pair d) (filter (is_of p kind is_rs_up_up) rules)) []) d (alone d) rules
    (find-among (λ r. r.name.0 == is.0.0) rules d is.1)
    (among-left (alone d) (cond (is_of p kind is_imm_up d) (alone d ∷ []) []) _ (subst (λ b. Among (alone d) (cond b (alone d ∷ []) [])) (sym test) (inl refl)))
among-partners p kind (pair q r) is =
    let rules = (part p kind).rules in
    let test : is_of p kind is_rq_down_down q ≡ true = ap is_rq_down_down is.4 in
    let test_r : is_of p kind is_rs_up_up r ≡ true = ap is_rs_up_up is.5 in
    among-flat_map (λ d. cond (is_of p kind is_imm_up d) (alone d ∷ []) [] ++ cond (is_of p kind is_rq_down_down d) (map (pair d) (filter (is_of p kind is_rs_up_up) rules)) []) q (pair q r) rules
    (find-among (λ x. x.name.0 == is.0.0) rules q is.2)
    (among-right (pair q r) (cond (is_of p kind is_imm_up q) (alone q ∷ []) []) (cond (is_of p kind is_rq_down_down q) (map (pair q) (filter (is_of p kind is_rs_up_up) rules)) [])
    (subst (λ b. Among (pair q r) (cond b (map (pair q) (filter (is_of p kind is_rs_up_up) rules)) [])) (sym test)
    (among-map (pair q) r (filter (is_of p kind is_rs_up_up) rules) (among-filter (is_of p kind is_rs_up_up) r rules (find-among (λ x. x.name.0 == is.1.0) rules r is.3) test_r))))

-- the lists of fields
among-fields : (m : ℕ) (fields : List Status8) → AreBelow m fields → Among fields (field_lists (length fields) m)
among-fields m [] small = inl refl
among-fields m (d ∷ fields) small =
    among-flat_map (λ s. map (λ rest. status s ∷ rest) (field_lists (length fields) m)) d.0 (d ∷ fields) (below m) (among-below d.0 m small.0)
    (among-map (λ rest. status d.0 ∷ rest) fields (field_lists (length fields) m) (among-fields m fields small.1))

-- bits of tests that no number from m on passes
bits-short : (test : ℕ → Bool) (m j : ℕ) → ((x : ℕ) → m ≤ x → test x ≡ false) → bits_where test (m + j) ≡ bits_where test m
bits-short test m zero none = ap (bits_where test) (let z : m + 0 ≡ m = omega arith in z)
bits-short test m (suc j) none =
    let e : m + suc j ≡ suc (m + j) = omega arith in
    let last : test (m + j) ≡ false = none (m + j) (omega arith) in
    let rest = bits-short test m j none in
    ap (bits_where test) e ∙ ap (λ b. bits_where test (m + j) + cond b (2 ^ (m + j)) 0) last ∙ (let z : bits_where test (m + j) + 0 ≡ bits_where test (m + j) = omega arith in z) ∙ rest

occurs-none : (dir : List Status8) (m x : ℕ) → AreBelow m dir → m ≤ x → occurs dir x ≡ false
occurs-none [] m x small le = refl
occurs-none (d ∷ dir) m x small le =
    let differ : (d.0 == x) ≡ false = elim (eqb_tells d.0 x) [ inl same ↦ (let less = small.0 in absurd (omega (arith, less, same.1, le))) | inr other ↦ other.0 ] in
    let rest = occurs-none dir m x small.1 le in
    rw (differ, rest) refl

kids-bits : (dir : List Status8) (m : ℕ) → AreBelow m dir → m ≤ 8 → bits_where (occurs dir) 8 ≡ bits_where (occurs dir) m
kids-bits dir m small few =
    let e : m + (8 - m) ≡ 8 = omega arith in
    ap (bits_where (occurs dir)) (sym e) ∙ bits-short (occurs dir) m (8 - m) (λ x le. occurs-none dir m x small le)

-- a set of statuses of some child is not empty
kids-some : (d : Status8) (dir : List Status8) (m : ℕ) → d.0 < m → 0 < bits_where (occurs (d ∷ dir)) m
kids-some d dir m less = by_number (bits_where (occurs (d ∷ dir)) m) (bits_where-is (occurs (d ∷ dir)) m d.0 less ∙ or_left (d.0 == d.0) (occurs dir d.0) (eq-eqb d.0 d.0 refl))
  where
    by_number : (n : ℕ) → has_bit n d.0 ≡ true → 0 < n
    by_number zero is = let none : has_bit 0 d.0 ≡ false = grind arith in let clash : false ≡ true = sym none ∙ is in cc
    by_number (suc n) is = omega arith

among-numbers : (n m : ℕ) → 0 < n → n < 2 ^ m → Among (let set : StatusSet = record { 0 = n } in set) (map (λ k. record { 0 = suc k }) (below (2 ^ m - 1)))
among-numbers zero m some less = absurd (omega arith)
among-numbers (suc n) m some less = among-map (λ k. let set : StatusSet = record { 0 = suc k } in set) n (below (2 ^ m - 1)) (among-below n (2 ^ m - 1) (omega arith))

inner-kids : (dir : List Status8) (m : ℕ) → AreBelow m dir → m ≤ 8 → dir ≢ [] → Among (let set : StatusSet = record { 0 = bits_where (occurs dir) 8 } in set) (map (λ k. record { 0 = suc k }) (below (2 ^ m - 1)))
inner-kids [] m small few some = absurd (some refl)
inner-kids (d ∷ dir) m small few some =
    let e = kids-bits (d ∷ dir) m small few in
    let more = kids-some d dir m small.0 in
    let less = bits_where-lt (occurs (d ∷ dir)) m in
    among-numbers (bits_where (occurs (d ∷ dir)) 8) m (omega arith) (omega arith)

among-kids : (kind : Kind) (dir : List Status8) (m : ℕ) → AreBelow m dir → m ≤ 8 → (kind ≡ Leaf → dir ≡ []) → (kind ≢ Leaf → dir ≢ []) → Among (let set : StatusSet = record { 0 = bits_where (occurs dir) 8 } in set) (kid_sets kind m)
among-kids Leaf dir m small few leaf inner = inl (ap (λ (ds : List Status8). let set : StatusSet = record { 0 = bits_where (occurs ds) 8 } in set) (sym (leaf refl)))
among-kids Root dir m small few leaf inner = inner-kids dir m small few (inner (λ is. cc))
among-kids Mid dir m small few leaf inner = inner-kids dir m small few (inner (λ is. cc))

-- the abstract state of a local state of the kind is one of the kind's
pub among-states : (p : Protocol) (kind : Kind) (local : Local) → IsOfKind p kind local → Among (abstract_of local) (abstract_states p kind)
among-states p kind local of =
    among-flat_map (λ fields. map (λ kids. record { fields = fields; kids = kids }) (kid_sets kind (length p.statuses))) local.fields (abstract_of local) (field_lists (length (part p kind).fields) (length p.statuses))
    (subst (λ n. Among local.fields (field_lists n (length p.statuses))) of.field_count (among-fields (length p.statuses) local.fields of.fields))
    (among-map (λ kids. let at : Abstract = record { fields = local.fields; kids = kids } in at) (abstract_of local).kids (kid_sets kind (length p.statuses)) (among-kids kind local.dir (length p.statuses) of.dir of.few of.leaf of.inner))

-- no partner breaks a stable rule
pub stable-never : (p : Protocol) (kind : Kind) (u : Rule) (d : Partner) (local : Local) → first_unstable p kind u ≡ None → IsPartner p kind d → IsOfKind p kind local → breaks u d (abstract_of local) ≡ false
stable-never p kind u d local stable partner of = never-breaks (abstract_states p kind) u (partners_of p kind) d (abstract_of local) stable (among-partners p kind d partner) (among-states p kind local of)

-- statuses of a kind's local state are small
pub of-kind-small : (p : Protocol) (kind : Kind) (local : Local) → IsOfKind p kind local → AreSmall local.dir
of-kind-small p kind local of = small local.dir of.dir
  where
    small : (dir : List Status8) → AreBelow (length p.statuses) dir → AreSmall dir
    small [] all = tt
    small (d ∷ dir) all = (let less = all.0 in let few = of.few in omega arith, small dir all.1)
