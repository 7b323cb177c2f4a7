-- A ready firing has what its rule asks first.
use Rattle.std.proofs.Common.{◌≡◌, refl, sym, ap, ◌∙◌, subst, ℕ, zero, suc, ◌+◌, ◌<◌, arith, Bool, true, false, ◌&&◌, not, cond, List, [], ◌∷◌, length, map, get_or, Option, Some, None}
use Rattle.std.specs.Prelude.{◌==◌, ◌||◌, find, filter, nat_le, nat_lt, slice_get, option_map, option_and_then, is_some}
use Rattle.std.specs.List.{list_all, list_any, enumerate_from, flat_map}
use Rattle.std.specs.Option.{option_map_or, option_or}
use Rattle.std.proofs.lemmas.List.Folds.{find-append}
use Rattle.hem_base.specs.Sets.{has_bit}
use Rattle.hem_base.specs.declared.ids.Kind.{Kind}
use Rattle.hem_base.specs.declared.ids.Kind.TheVariants.{Root, Mid, Leaf}
use Rattle.hem_base.specs.declared.ids.Message.{Message}
use Rattle.hem_base.specs.declared.ids.MsgId.{MsgId}
use Rattle.hem_base.specs.declared.ids.ObjectId.{ObjectId}
use Rattle.hem_base.specs.declared.ids.Firing.{Firing}
use Rattle.hem_syntax.specs.declared.rule.Rule.{Rule}
use Rattle.hem_syntax.specs.declared.rule.Atom.{Atom}
use Rattle.hem_syntax.specs.declared.rule.Atom.TheVariants as atom
use Rattle.hem_syntax.specs.declared.rule.Take.{Take}
use Rattle.hem_syntax.specs.declared.rule.Take.TheVariants as take
use Rattle.hem_syntax.specs.Protocol.{Protocol, part, rule_named}
use Rattle.hem_syntax.specs.Lawful.{IsProtocol, named_once}
use Rattle.hem_object.specs.declared.state.View.{View}
use Rattle.hem_object.specs.Guard.{atom_holds}
use Rattle.hem_object.specs.Local.{Local, nobody}
use Rattle.hem_fire.specs.Heads.{has_id, awaited_of, awaited_heads, takes_there}
use Rattle.hem_fire.specs.Locks.{need_holds}
use Rattle.hem_fire.specs.View.{view_of}
use Rattle.hem_fire.specs.OneFire.{Heads, me_fits, can_fire}
use Rattle.hem_tree.specs.Tree.{Tree, kind_of, children_of}
use Rattle.hem_system.specs.declared.lane.Lane.{Lane}
use Rattle.hem_system.specs.declared.lane.Lane.TheVariants.{UpRequests, Down, Requests}
use Rattle.hem_system.specs.State.{Line, State, list_of, head_at, heads_of, own_effect, is_own_child, place_of_me, local_at, fire}
use Rattle.hem_system.specs.Laws.{list_in, local_in}
use Rattle.hem_system.specs.Ended.{takes_nothing, is_self, self_firings}
use Rattle.hem_system.proofs.Own.{came}
use Rattle.hem_system.proofs.Takers.{and_left, and_right}
use Rattle.hem_rows.proofs.Bits.{no_bit}
use Rattle.hem_rows.proofs.Choices.{both, not-true, if_some, if_passed, chosen}
use Rattle.hem_walk.specs.Walk.{firing_of, named, firings_of_rule, rules_of, is_spent, is_ready, ready_at}
use Rattle.hem_walk.specs.Firsts.{Glance, IsGlance, asks_alone, asks_child, names_child, field_holds, is_open, IsRuleOf}

-- nobody's heads are none
none_of_nobody : (k : ℕ) (heads : List (Option Message)) → filter (λ p. has_bit 0 p.0) (enumerate_from k heads) ≡ []
none_of_nobody k [] = refl
none_of_nobody k (x ∷ xs) = ap (λ b. cond b ((k, x) ∷ filter (λ p. has_bit 0 p.0) (enumerate_from (k + 1) xs)) (filter (λ p. has_bit 0 p.0) (enumerate_from (k + 1) xs))) (no_bit k) ∙ none_of_nobody (k + 1) xs

-- where children's responses are there, the downlock is held
pub held_by : (id : MsgId) (local : Local) (heads : Heads) → takes_there (take.Kids id) local heads ≡ true → is_some local.down ≡ true
held_by id local heads there = by_lock local.down refl
  where
    by_lock : (lock : Option _) → local.down ≡ lock → is_some lock ≡ true
    by_lock (Some lock) is = refl
    by_lock None is =
        let nobody_is : awaited_of local ≡ nobody = ap (λ o. option_map_or (λ lock. lock.awaited) o nobody) is in
        let none : awaited_heads local heads ≡ [] = ap (λ set. filter (λ k. has_bit set.0 k.0) (enumerate_from 0 heads.kids)) nobody_is ∙ none_of_nobody 0 heads.kids in
        let clash = sym (ap (λ xs. nat_lt 0 (length xs)) none) ∙ and_left _ _ there in cc

-- a child that the take can't have
pub no_child : (kind : Kind) (t : Take) (place children : ℕ) → ((id : MsgId) → t ≡ take.Me id → false ≡ true) → me_fits kind t (Some place) children ≡ true → false ≡ true
no_child Leaf t place children other fits = cc
no_child Root (take.Me id) place children other fits = other id refl
no_child Root (take.Parent id) place children other fits = cc
no_child Root (take.Kids id) place children other fits = cc
no_child Root take.Nothing place children other fits = cc
no_child Mid (take.Me id) place children other fits = other id refl
no_child Mid (take.Parent id) place children other fits = cc
no_child Mid (take.Kids id) place children other fits = cc
no_child Mid take.Nothing place children other fits = cc

-- a list's first message, seen on its line
first_on : (s : State) (l o : ℕ) (line : Line) (lane : Lane) → slice_get s l ≡ Some line → slice_get (list_in s l o lane) 0 ≡ head_at line o lane
first_on s l o line lane there = λ i. slice_get (option_map_or (λ cell. list_of cell lane) (option_and_then (λ line. slice_get line o) (there i)) []) 0

-- and the local state
local_on : (s : State) (l o : ℕ) (line : Line) → slice_get s l ≡ Some line → local_in s l o ≡ local_at line o
local_on s l o line there = λ i. option_map (λ cell. cell.local) (option_and_then (λ line. slice_get line o) (there i))

one : {A : Type 0} {a b : A} → Some a ≡ Some b → a ≡ b
one same = cc

-- what a rule that can fire has
pub record CanFire (kind : Kind) (rule : Rule) (me : Option ℕ) (local : Local) (heads : Heads) : Type 0 where
  pub fits : me_fits kind rule.take me (length local.dir) ≡ true
  pub takes : takes_there rule.take local heads ≡ true
  pub up : need_holds rule.need.up local.up ≡ true
  pub down : need_holds rule.need.down local.down ≡ true
  pub guarded : list_all (atom_holds local (view_of rule.take me local heads)) rule.guard ≡ true

pub by_can : (p : Protocol) (kind : Kind) (rule : Rule) (me : Option ℕ) (local : Local) (heads : Heads) → can_fire p kind rule me local heads ≡ true → CanFire kind rule me local heads
by_can p kind rule me local heads can =
    let held = and_left _ _ can in
    let begins = and_left _ _ (and_left _ _ (and_left _ _ held)) in
    let up = and_left _ _ begins in
    let fits = and_left _ _ up in
    record { fits = and_left _ _ fits; takes = and_right _ _ fits; up = and_right _ _ up; down = and_right _ _ begins; guarded = and_right _ _ held }

-- a firing that is possible has a line, a local state, and a kind and a rule that can fire
pub record HasBegun (p : Protocol) (tree : Tree) (s : State) (f : Firing) : Type 0 where
  pub line : Line
  pub local : Local
  pub kind : Kind
  pub rule : Rule
  pub there : slice_get s f.line.0 ≡ Some line
  pub at : local_at line f.object.0 ≡ Some local
  pub kind_is : kind_of tree f.object.0 ≡ Some kind
  pub rule_is : rule_named p kind f.rule ≡ Some rule
  pub can : CanFire kind rule (place_of_me tree f.object.0 f.me) local (heads_of tree line f.object.0 f.me)

begun : (p : Protocol) (tree : Tree) (s : State) (f : Firing) → is_some (fire p tree s f) ≡ true → HasBegun p tree s f
begun p tree s f possible = by_state (fire p tree s f) refl possible
  where
    by_state : (found : Option State) → fire p tree s f ≡ found → is_some found ≡ true → HasBegun p tree s f
    by_state None is some = cc
    by_state (Some next) is some =
        let it = came {p = p} {tree = tree} {old = s} {new = next} {f = f} (record { leads = is }) in
        let heads = heads_of tree it.line f.object.0 f.me in
        let by_local = if_some (λ local. own_effect p tree f local heads) (local_at it.line f.object.0) it.effect it.possible in
        let by_kind = if_some _ (kind_of tree f.object.0) it.effect by_local.2 in
        let by_rule = if_some _ (rule_named p by_kind.0 f.rule) it.effect by_kind.2 in
        let by_child = if_passed (is_own_child tree f.object.0 f.me) _ it.effect by_rule.2 in
        let can = (chosen (can_fire p by_kind.0 by_rule.0 (place_of_me tree f.object.0 f.me) by_local.0 heads) _ it.effect by_child.1).0 in
        record {
          line = it.line;
          local = by_local.0;
          kind = by_kind.0;
          rule = by_rule.0;
          there = it.there;
          at = by_local.1;
          kind_is = by_kind.1;
          rule_is = by_rule.1;
          can = by_can p by_kind.0 by_rule.0 (place_of_me tree f.object.0 f.me) by_local.0 heads can;
        }

-- the rule that a firing names
same_rule : (p : Protocol) (tree : Tree) (s : State) (l o : ℕ) (rule : Rule) (me : Option ObjectId) → IsRuleOf p tree o rule → (it : HasBegun p tree s (firing_of l o rule me)) → it.rule ≡ rule
same_rule p tree s l o rule me of it =
    let kind : it.kind ≡ of.kind = one (sym it.kind_is ∙ of.kind_is) in
    one (sym it.rule_is ∙ (λ i. rule_named p (kind i) rule.name) ∙ of.rule_is)

-- what fails where something would follow from its being true
pub never : (b : Bool) → (b ≡ true → false ≡ true) → b ≡ false
never true clash = sym (clash refl)
never false clash = refl

-- a firing of a rule that names no child has what the rule asks first
has_alone : (p : Protocol) (tree : Tree) (k : ℕ) (h : List Firing) (s : State) (l o : ℕ) (g : Glance) (t : Take) (line : Line) (local : Local)
    → IsGlance p tree k h s l o g
    → slice_get s l ≡ Some line
    → local_at line o ≡ Some local
    → takes_there t local (heads_of tree line o None) ≡ true
    → (takes_nothing t ≡ true → nat_le k (self_firings p tree h l o) ≡ false)
    → asks_alone g t ≡ true
has_alone p tree k h s l o g (take.Me id) line local seen there at takes fresh = ap (λ (m : Option Message). has_id m id) (seen.request ∙ first_on s l o line Requests there) ∙ takes
has_alone p tree k h s l o g (take.Parent id) line local seen there at takes fresh = ap (λ (m : Option Message). has_id m id) (seen.down ∙ first_on s l o line Down there) ∙ takes
has_alone p tree k h s l o g (take.Kids id) line local seen there at takes fresh =
    let same : g.local ≡ local = one (sym seen.local ∙ local_on s l o line there ∙ at) in
    ap (λ (local : Local). is_some local.down) same ∙ held_by id local (heads_of tree line o None) takes
has_alone p tree k h s l o g take.Nothing line local seen there at takes fresh = ap not (seen.spent ∙ fresh refl)

alone_asks : (p : Protocol) (tree : Tree) (k : ℕ) (h : List Firing) (s : State) (l o : ℕ) (g : Glance) (rule : Rule) → IsGlance p tree k h s l o g → IsRuleOf p tree o rule → is_ready p tree k h s (firing_of l o rule None) ≡ true → asks_alone g rule.take ≡ true
alone_asks p tree k h s l o g rule seen of ready =
    let f = firing_of l o rule None in
    let parts = both (is_some (fire p tree s f)) (not (is_spent p tree k h f)) ready in
    let it = begun p tree s f parts.0 in
    let takes = subst (λ (r : Rule). takes_there r.take it.local (heads_of tree it.line o None) ≡ true) (same_rule p tree s l o rule None of it) it.can.takes in
    has_alone p tree k h s l o g rule.take it.line it.local seen it.there it.at takes (fresh (not-true (is_spent p tree k h f) parts.1))
  where
    is_self_of : takes_nothing rule.take ≡ true → is_self p tree (firing_of l o rule None) ≡ true
    is_self_of nothing =
        ap (λ (kind : Option Kind). option_map_or (λ kind. option_map_or (λ (rule : Rule). takes_nothing rule.take) (rule_named p kind rule.name) false) kind false) of.kind_is
        ∙ ap (λ (rule : Option Rule). option_map_or (λ rule. takes_nothing rule.take) rule false) of.rule_is
        ∙ nothing

    fresh : is_spent p tree k h (firing_of l o rule None) ≡ false → takes_nothing rule.take ≡ true → nat_le k (self_firings p tree h l o) ≡ false
    fresh unspent nothing = sym (ap (λ b. b && nat_le k (self_firings p tree h l o)) (is_self_of nothing)) ∙ unspent

-- a firing that names a child has what the rule asks of it
has_child : (tree : Tree) (s : State) (l o : ℕ) (t : Take) (child : ObjectId) (kind : Kind) (line : Line) (local : Local)
    → slice_get s l ≡ Some line
    → me_fits kind t (place_of_me tree o (Some child)) (length local.dir) ≡ true
    → takes_there t local (heads_of tree line o (Some child)) ≡ true
    → asks_child s l t (Some child) ≡ true
has_child tree s l o (take.Me id) child kind line local there fits takes = ap (λ (m : Option Message). has_id m id) (first_on s l child.0 line UpRequests there) ∙ takes
has_child tree s l o (take.Parent id) child kind line local there fits takes = no_child kind (take.Parent id) _ _ (λ other is. cc) fits
has_child tree s l o (take.Kids id) child kind line local there fits takes = no_child kind (take.Kids id) _ _ (λ other is. cc) fits
has_child tree s l o take.Nothing child kind line local there fits takes = no_child kind take.Nothing _ _ (λ other is. cc) fits

child_asks : (p : Protocol) (tree : Tree) (k : ℕ) (h : List Firing) (s : State) (l o : ℕ) (rule : Rule) (me : Option ObjectId) → IsRuleOf p tree o rule → is_some me ≡ true → is_ready p tree k h s (firing_of l o rule me) ≡ true → asks_child s l rule.take me ≡ true
child_asks p tree k h s l o rule None of some ready = cc
child_asks p tree k h s l o rule (Some child) of some ready =
    let f = firing_of l o rule (Some child) in
    let it = begun p tree s f (both (is_some (fire p tree s f)) (not (is_spent p tree k h f)) ready).0 in
    let same = same_rule p tree s l o rule (Some child) of it in
    has_child tree s l o rule.take child it.kind it.line it.local it.there
    (subst (λ (r : Rule). me_fits it.kind r.take (place_of_me tree o (Some child)) (length it.local.dir) ≡ true) same it.can.fits)
    (subst (λ (r : Rule). takes_there r.take it.local (heads_of tree it.line o (Some child)) ≡ true) same it.can.takes)

-- where a guard holds, its conditions on fields do
pub fields_of : (local : Local) (view : View) (guard : List Atom) → list_all (atom_holds local view) guard ≡ true → list_all (field_holds local) guard ≡ true
fields_of local view [] all = refl
fields_of local view (a ∷ rest) all =
    let parts = both (atom_holds local view a) (list_all (atom_holds local view) rest) all in
    λ i. first a parts.0 i && fields_of local view rest parts.1 i
  where
    first : (a : Atom) → atom_holds local view a ≡ true → field_holds local a ≡ true
    first (atom.Field field set) holds = holds
    first (atom.Me set) holds = refl
    first (atom.KidsAll set) holds = refl
    first (atom.KidsAny set) holds = refl
    first (atom.OthersAll set) holds = refl
    first (atom.OthersAny set) holds = refl
    first (atom.Asked id) holds = refl

-- the rule of a ready firing has its locks and fields as it needs them
opens : (p : Protocol) (tree : Tree) (k : ℕ) (h : List Firing) (s : State) (l o : ℕ) (g : Glance) (rule : Rule) (me : Option ObjectId) → IsGlance p tree k h s l o g → IsRuleOf p tree o rule → is_ready p tree k h s (firing_of l o rule me) ≡ true → is_open rule g.local ≡ true
opens p tree k h s l o g rule me seen of ready =
    let f = firing_of l o rule me in
    let it = begun p tree s f (both (is_some (fire p tree s f)) (not (is_spent p tree k h f)) ready).0 in
    let local : g.local ≡ it.local = one (sym seen.local ∙ local_on s l o it.line it.there ∙ it.at) in
    let opened : is_open it.rule it.local ≡ true = λ i. it.can.up i && it.can.down i && fields_of it.local (view_of it.rule.take (place_of_me tree o me) it.local (heads_of tree it.line o me)) it.rule.guard it.can.guarded i in
    (λ i. is_open (sym (same_rule p tree s l o rule me of it) i) (local i)) ∙ opened

-- a firing without a child that lacks either isn't ready
pub not_begun : (p : Protocol) (tree : Tree) (k : ℕ) (h : List Firing) (s : State) (l o : ℕ) (g : Glance) (rule : Rule) → IsGlance p tree k h s l o g → IsRuleOf p tree o rule → (asks_alone g rule.take && is_open rule g.local) ≡ false → is_ready p tree k h s (firing_of l o rule None) ≡ false
not_begun p tree k h s l o g rule seen of lacks =
    never (is_ready p tree k h s (firing_of l o rule None)) (λ ready. sym lacks ∙ (λ i. alone_asks p tree k h s l o g rule seen of ready i && opens p tree k h s l o g rule None seen of ready i))

-- nor is one with a child
pub not_begun_with : (p : Protocol) (tree : Tree) (k : ℕ) (h : List Firing) (s : State) (l o : ℕ) (g : Glance) (rule : Rule) (me : Option ObjectId) → IsGlance p tree k h s l o g → IsRuleOf p tree o rule → is_some me ≡ true → (asks_child s l rule.take me && is_open rule g.local) ≡ false → is_ready p tree k h s (firing_of l o rule me) ≡ false
not_begun_with p tree k h s l o g rule me seen of some lacks =
    never (is_ready p tree k h s (firing_of l o rule me)) (λ ready. sym lacks ∙ (λ i. child_asks p tree k h s l o rule me of some ready i && opens p tree k h s l o g rule me seen of ready i))

-- an object that isn't there has no ready firing
none_in : (test : Firing → Bool) (l o : ℕ) (rule : Rule) (mes : List (Option ObjectId)) → ((me : Option ObjectId) → test (firing_of l o rule me) ≡ false) → find test (map (firing_of l o rule) mes) ≡ None
none_in test l o rule [] fails = refl
none_in test l o rule (me ∷ mes) fails = ap (λ b. cond b (Some (firing_of l o rule me)) (find test (map (firing_of l o rule) mes))) (fails me) ∙ none_in test l o rule mes fails

none_of : (test : Firing → Bool) (tree : Tree) (l o : ℕ) (rules : List Rule) → ((rule : Rule) (me : Option ObjectId) → test (firing_of l o rule me) ≡ false) → find test (flat_map (firings_of_rule tree l o) rules) ≡ None
none_of test tree l o [] fails = refl
none_of test tree l o (rule ∷ rules) fails =
    find-append test (firings_of_rule tree l o rule) (flat_map (firings_of_rule tree l o) rules)
    ∙ (λ i. option_or (none_in test l o rule (None ∷ map named (children_of tree o)) (fails rule) i) (none_of test tree l o rules fails i))

pub not_there : (p : Protocol) (tree : Tree) (k : ℕ) (h : List Firing) (s : State) (l o : ℕ) → local_in s l o ≡ None → ready_at p tree k h s l o ≡ None
not_there p tree k h s l o absent =
    none_of (is_ready p tree k h s) tree l o (rules_of p tree o)
    (λ rule me.
    let f = firing_of l o rule me in
    never (is_ready p tree k h s f) (λ ready.
    let it = begun p tree s f (both (is_some (fire p tree s f)) (not (is_spent p tree k h f)) ready).0 in
    let clash : None ≡ Some it.local = sym absent ∙ local_on s l o it.line it.there ∙ it.at in
    cc clash))

-- a rule of a list in which no name stands twice is the one of its name
not_any : {A : Type 0} (test : A → Bool) (xs : List A) (i : ℕ) (d : A) → list_any test xs ≡ false → i < length xs → test (get_or xs i d) ≡ false
not_any test [] i d none less = absurd (omega arith)
not_any test (x ∷ xs) zero d none less = first (test x) (list_any test xs) none
  where
    first : (a b : Bool) → (a || b) ≡ false → a ≡ false
    first true b is = is
    first false b is = refl
not_any test (x ∷ xs) (suc i) d none less = not_any test xs i d (rest (test x) (list_any test xs) none) (omega arith)
  where
    rest : (a b : Bool) → (a || b) ≡ false → b ≡ false
    rest true b is = cc
    rest false b is = is

named_itself : (rules : List Rule) (i : ℕ) (d : Rule) → named_once rules ≡ true → i < length rules → find (λ r. r.name.0 == (get_or rules i d).name.0) rules ≡ Some (get_or rules i d)
named_itself [] i d once less = absurd (omega arith)
named_itself (r ∷ rs) zero d once less = ap (λ b. cond b (Some r) (find (λ x. x.name.0 == r.name.0) rs)) (self r.name.0)
  where
    self : (n : ℕ) → (n == n) ≡ true
    self n = grind arith
named_itself (r ∷ rs) (suc i) d once less =
    let parts = both (not (list_any (λ other. r.name.0 == other.name.0) rs)) (named_once rs) once in
    let apart = not_any (λ (other : Rule). r.name.0 == other.name.0) rs i d (not-true _ parts.0) (omega arith) in
    ap (λ b. cond b (Some r) (find (λ (x : Rule). x.name.0 == (get_or rs i d).name.0) rs)) apart ∙ named_itself rs i d parts.1 (omega arith)

-- a kind's rules have each name once
rules_once : (p : Protocol) (kind : Kind) → IsProtocol p → named_once (part p kind).rules ≡ true
rules_once p Root lawful = lawful.root.rules_once
rules_once p Mid lawful = lawful.mid.rules_once
rules_once p Leaf lawful = lawful.leaf.rules_once

-- a rule that names no child is ready with none
pub none_with_child : (p : Protocol) (tree : Tree) (k : ℕ) (h : List Firing) (s : State) (l o : ℕ) (rule : Rule) (kids : List ℕ) → IsRuleOf p tree o rule → names_child rule.take ≡ false → find (is_ready p tree k h s) (map (firing_of l o rule) (map named kids)) ≡ None
none_with_child p tree k h s l o rule [] of other = refl
none_with_child p tree k h s l o rule (kid ∷ kids) of other =
    let f = firing_of l o rule (named kid) in
    let idle = never (is_ready p tree k h s f) (λ ready. sym (asks_none rule.take other) ∙ child_asks p tree k h s l o rule (named kid) of refl ready) in
    ap (λ b. cond b (Some f) (find (is_ready p tree k h s) (map (firing_of l o rule) (map named kids)))) idle ∙ none_with_child p tree k h s l o rule kids of other
  where
    asks_none : (t : Take) → names_child t ≡ false → asks_child s l t (named kid) ≡ false
    asks_none (take.Me id) other = cc
    asks_none (take.Parent id) other = refl
    asks_none (take.Kids id) other = refl
    asks_none take.Nothing other = refl

-- a rule of an object's kind is the one of its name
pub rule_itself : (p : Protocol) (tree : Tree) (o : ℕ) (kind : Kind) (rules : List Rule) (i : ℕ) (d : Rule) → IsProtocol p → kind_of tree o ≡ Some kind → rules ≡ (part p kind).rules → i < length rules → IsRuleOf p tree o (get_or rules i d)
rule_itself p tree o kind rules i d lawful kind_is are less =
    record {
      kind = kind;
      kind_is = kind_is;
      rule_is = ap (find (λ (r : Rule). r.name.0 == (get_or rules i d).name.0)) (sym are) ∙ named_itself rules i d (ap named_once are ∙ rules_once p kind lawful) less;
    }
