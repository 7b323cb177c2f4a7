-- What the tokens of declarations keep.
use Rattle.std.proofs.Common.{◌≡◌, ℕ, suc, ◌≤◌, nat_lt, true, false, ◌||◌, List, [], ◌∷◌, ◌++◌, append-nil, append_assoc, length, map, refl, sym, ap, subst, ◌∙◌, arith}
use Rattle.std.specs.List.{list_all}
use Rattle.std.specs.Str.{bytes_eq}
use Rattle.hem_base.specs.declared.ids.Kind.{Kind}
use Rattle.hem_base.specs.declared.ids.Kind.TheVariants.{Root, Mid, Leaf}
use Rattle.hem_base.specs.declared.ids.Status8.{Status8}
use Rattle.hem_syntax.specs.declared.rule.Class.{Class}
use Rattle.hem_syntax.specs.declared.rule.Class.TheVariants.{ExtReq}
use Rattle.hem_syntax.specs.declared.rule.Rule.{Rule}
use Rattle.hem_grammar.specs.declared.terminals.Terminal.{Terminal}
use Rattle.hem_grammar.specs.declared.terminals.Terminal.TheVariants as the
use Rattle.hem_grammar.specs.declared.terminals.Part.TheVariants as part
use Rattle.hem_syntax.specs.Protocol.{Text, KindPart, empty_part}
use Rattle.hem_syntax.specs.Lawful.{names_after}
use Rattle.hem_syntax.specs.Names.{with_last}
use Rattle.hem_grammar.specs.Draft.{Read, grammar, is_in, is_among, is_short, first_status, status}
use Rattle.hem_parser.proofs.Kept.{Makes, Weaker}
use Rattle.hem_parser.proofs.Lists.{both, neither, is_not, by_set, length_more, all_more, all_less, any_both, any_map, map_more, place_within, under, is_under}
use Rattle.hem_parser.proofs.Naming.{declarable, names_more}
use Rattle.hem_parser.proofs.Claims.{Claim, unread, stating, declaring, opening, between, Holds, Names, Kind_of, all_names}

-- a token makes this of a claim
abbrev pub Mk : Terminal → Claim → Claim → Type 0
Mk x c d = Makes grammar Holds x c d

-- the protocol's name
pub name_read : Mk (the.Part part.Name) unread (stating 0)
name_read e t h spelled fresh within =
    let none : e.statuses ≡ [] = ap (λ v. v.statuses) h in (
      record {
        name = declarable t spelled within;
        some = omega arith;
        few = rw none (omega arith);
        names = rw none (record { declarable = refl; once = refl });
        messages = ap (λ v. v.messages) h;
      },
      record {
        rule_names = ap (λ v. v.rule_names) h;
        root = ap (λ v. v.root) h;
        mid = ap (λ v. v.mid) h;
        fields = ap (λ v. v.fields) h;
        dir = ap (λ v. v.dir) h;
        rules = ap (λ v. v.rules) h;
        rule = ap (λ v. v.rule) h;
      },
    )

-- a status
pub status_read : (n : ℕ) → Mk (the.Part part.NewStatus) (stating n) (stating (suc n))
status_read n e t h spelled fresh within =
    let short = both (is_short t.text) (nat_lt (length e.statuses) 4) within in
    let apart = neither (is_in e.statuses t.text) (is_among e.messages t.text) (is_not (is_in e.statuses t.text || is_among e.messages t.text) fresh) in (
      record {
        name = h.0.name;
        some = omega (arith, h.0.some, length_more e.statuses t.text);
        few = omega (arith, under (length e.statuses) 4 short.1, length_more e.statuses t.text);
        names = names_more e.statuses t.text h.0.names (declarable t spelled short.0) apart.0;
        messages = h.0.messages;
      },
      h.1,
    )

pub status_more : Mk (the.Part part.NewStatus) (stating 2) (stating 2)
status_more e t h spelled fresh within =
    let next = status_read 2 e t h spelled fresh within in
    (record { name = next.0.name; some = omega (arith, next.0.some); few = next.0.few; names = next.0.names; messages = next.0.messages }, next.1)

-- the statuses are all there
pub stated : Weaker grammar Holds (stating 2) declaring
stated e h = (
  record {
    name = h.0.name;
    some = h.0.some;
    few = h.0.few;
    few_messages = rw h.0.messages (omega arith);
    names = subst (λ ms. Names (all_names e.statuses ms)) (sym h.0.messages) (subst Names (sym (append-nil e.statuses)) h.0.names);
  },
  h.1,
)

-- a message
pub message_read : Mk (the.Part part.NewMessage) declaring declaring
message_read e t h spelled fresh within =
    let short = both (is_short t.text) (nat_lt (length e.messages) 64) within in
    let apart = neither (is_in e.statuses t.text) (is_among e.messages t.text) (is_not (is_in e.statuses t.text || is_among e.messages t.text) fresh) in
    let names = map (λ m. m.0) e.messages in
    let absent : is_in (e.statuses ++ names) t.text ≡ false = any_both (λ n. bytes_eq n t.text) e.statuses names apart.0 (any_map (λ n. bytes_eq n t.text) (λ m. m.0) e.messages ∙ apart.1) in
    let more : all_names e.statuses (e.messages ++ (t.text, ExtReq) ∷ []) ≡ all_names e.statuses e.messages ++ t.text ∷ [] =
    ap (λ z. e.statuses ++ z) (map_more (λ m. m.0) e.messages (t.text, ExtReq)) ∙ sym (append_assoc e.statuses names (t.text ∷ []))
    in (
      record {
        name = h.0.name;
        some = h.0.some;
        few = h.0.few;
        few_messages = omega (arith, under (length e.messages) 64 short.1, length_more e.messages (t.text, ExtReq));
        names = subst Names (sym more) (names_more (all_names e.statuses e.messages) t.text h.0.names (declarable t spelled short.0) absent);
      },
      h.1,
    )

-- the same names stand there, and as many
pub record Alike {A : Type 0} (xs ys : List (Text × A)) : Type 0 where
  pub names : map (λ m. m.0) ys ≡ map (λ m. m.0) xs
  pub long : length ys ≡ length xs

last_alike : {A : Type 0} (xs : List (Text × A)) (v : A) → Alike xs (with_last xs v)
last_alike xs v =
    by_set (λ ys. Alike xs ys) ([], v) (λ m. (m.0, v)) xs (λ none. record { names = ap (map (λ m. m.0)) (sym none); long = ap length (sym none) })
    (λ ys y is. record { names = map_more (λ m. m.0) ys (y.0, v) ∙ sym (map_more (λ m. m.0) ys y) ∙ ap (map (λ m. m.0)) (sym is); long = length_more ys (y.0, v) ∙ sym (length_more ys y) ∙ ap length (sym is) })

pub class_read : (c : Class) → Mk (the.Part (part.Class c)) declaring declaring
class_read c e t h spelled fresh within =
    let alike = last_alike e.messages c in (
      record {
        name = h.0.name;
        some = h.0.some;
        few = h.0.few;
        few_messages = subst (λ n. n ≤ 64) (sym alike.long) h.0.few_messages;
        names = subst (λ ns. Names (e.statuses ++ ns)) (sym alike.names) h.0.names;
      },
      h.1,
    )

-- the first kind begins
none_of : (s m : ℕ) → Kind_of s m [] []
none_of s m = record { few_fields = omega arith; names = record { declarable = refl; once = refl }; starts = refl; few_rules = omega arith; rules = refl; rules_once = refl }

empty_of : (s m : ℕ) (k : KindPart) → k ≡ empty_part → Kind_of s m k.fields k.rules
empty_of s m k is = subst (λ (v : KindPart). Kind_of s m v.fields v.rules) (sym is) (none_of s m)

pub declared : Weaker grammar Holds declaring (opening Root)
declared e h =
    let fields : [] ≡ e.fields = sym h.1.fields in
    let rules : [] ≡ e.rules = sym h.1.rules in
    let names : [] ≡ e.rule_names = sym h.1.rule_names in (
      record {
        declared = h.0;
        rule_names = subst Names names (record { declarable = refl; once = refl });
        root = empty_of (length e.statuses) (length e.messages) e.root h.1.root;
        mid = empty_of (length e.statuses) (length e.messages) e.mid h.1.mid;
        now = subst (λ fs. Kind_of (length e.statuses) (length e.messages) fs e.rules) fields (subst (λ rs. Kind_of (length e.statuses) (length e.messages) [] rs) rules (none_of (length e.statuses) (length e.messages)));
        finished = (h.1.root, h.1.mid);
        dir = h.1.dir;
      },
      record { order = rw (h.1.root, h.1.mid, h.1.rules, h.1.rule_names) refl; rule = h.1.rule },
      h.1.rules,
    )

-- the status at the start is declared
pub has : (e : Read) (text : Text) → 2 ≤ length e.statuses → nat_lt (status e text).0 (length e.statuses) ≡ true
has e text some = place_within (λ n. bytes_eq n text) e.statuses (omega (arith, some))

-- the fields of the kind that is being read are others
with_fields : (κ : Kind) (e : Read) (fs : List (Text × Status8)) → Holds (opening κ) e → length fs ≤ 3 → Names (map (λ f. f.0) fs) → list_all (λ f. nat_lt f.1.0 (length e.statuses)) fs ≡ true → Holds (opening κ) (record e { fields = fs })
with_fields κ e fs h few names starts = (
  record {
    declared = h.0.declared;
    rule_names = h.0.rule_names;
    root = h.0.root;
    mid = h.0.mid;
    now = record { few_fields = few; names = names; starts = starts; few_rules = h.0.now.few_rules; rules = rw h.2 refl; rules_once = h.0.now.rules_once };
    finished = h.0.finished;
    dir = h.0.dir;
  },
  h.1,
  h.2,
)

-- a field
pub field_read : (κ : Kind) → Mk (the.Part part.NewField) (opening κ) (opening κ)
field_read κ e t h spelled fresh within =
    let short = both (is_short t.text) (nat_lt (length e.fields) 3) within in
    let absent = any_map (λ n. bytes_eq n t.text) (λ f. f.0) e.fields ∙ is_not (is_among e.fields t.text) fresh in
    let first : nat_lt 0 (length e.statuses) ≡ true = is_under 0 (length e.statuses) (omega (arith, h.0.declared.some)) in
    let one : Text × Status8 = (t.text, first_status) in
    with_fields κ e (e.fields ++ one ∷ []) h (omega (arith, under (length e.fields) 3 short.1, length_more e.fields one))
    (subst Names (sym (map_more (λ f. f.0) e.fields one)) (names_more (map (λ f. f.0) e.fields) t.text h.0.now.names (declarable t spelled short.0) absent))
    (all_more (λ f. nat_lt f.1.0 (length e.statuses)) e.fields one h.0.now.starts first)

starts_last : (n : ℕ) (fs : List (Text × Status8)) (s : Status8) → nat_lt s.0 n ≡ true → list_all (λ f. nat_lt f.1.0 n) fs ≡ true → list_all (λ f. nat_lt f.1.0 n) (with_last fs s) ≡ true
starts_last n fs s one all =
    by_set (λ ys. list_all (λ f. nat_lt f.1.0 n) ys ≡ true) ([], s) (λ f. (f.0, s)) fs (λ none. refl)
    (λ ys y is. all_more (λ f. nat_lt f.1.0 n) ys (y.0, s) (all_less (λ f. nat_lt f.1.0 n) ys y (subst (λ zs. list_all (λ f. nat_lt f.1.0 n) zs ≡ true) is all)).0 one)

pub start_read : (κ : Kind) → Mk (the.Part part.FieldStart) (opening κ) (opening κ)
start_read κ e t h spelled fresh within =
    let alike = last_alike e.fields (status e t.text) in
    with_fields κ e (with_last e.fields (status e t.text)) h (subst (λ n. n ≤ 3) (sym alike.long) h.0.now.few_fields) (subst Names (sym alike.names) h.0.now.names)
    (starts_last (length e.statuses) e.fields (status e t.text) (has e t.text h.0.declared.some) h.0.now.starts)

-- the fields are all there
pub opened_all : (κ : Kind) → Weaker grammar Holds (opening κ) (between κ false)
opened_all κ e h = (h.0, h.1)

-- the directory
pub dir_read : (κ : Kind) → Mk (the.Part part.DirStart) (between κ false) (between κ true)
dir_read κ e t h spelled fresh within = (
  record {
    declared = h.0.declared;
    rule_names = h.0.rule_names;
    root = h.0.root;
    mid = h.0.mid;
    now = h.0.now;
    finished = h.0.finished;
    dir = has e t.text h.0.declared.some;
  },
  h.1,
)

-- a kind ends, and the next begins
order_root : (root mid : KindPart) (rules : List Rule) → root ≡ empty_part → mid ≡ empty_part → root.rules ++ mid.rules ++ rules ≡ rules ++ mid.rules ++ []
order_root root mid rules a b = rw (a, b) (sym (append-nil (rules ++ []) ∙ append-nil rules))

pub root_read : Mk (the.Part part.EndRoot) (between Root true) (opening Mid)
root_read e t h spelled fresh within = (
  record {
    declared = h.0.declared;
    rule_names = h.0.rule_names;
    root = h.0.now;
    mid = h.0.mid;
    now = none_of (length e.statuses) (length e.messages);
    finished = (h.0.dir, h.0.finished.1);
    dir = refl;
  },
  record { order = ap (names_after 0) (sym (order_root e.root e.mid e.rules h.0.finished.0 h.0.finished.1)) ∙ h.1.order; rule = h.1.rule },
  refl,
)

order_mid : (root mid : KindPart) (rules : List Rule) → mid ≡ empty_part → root.rules ++ mid.rules ++ rules ≡ root.rules ++ rules ++ []
order_mid root mid rules b = rw b (ap (λ z. z ++ rules) (append-nil root.rules) ∙ sym (append-nil (root.rules ++ rules)))

pub mid_read : Mk (the.Part part.EndMid) (between Mid true) (opening Leaf)
mid_read e t h spelled fresh within = (
  record {
    declared = h.0.declared;
    rule_names = h.0.rule_names;
    root = h.0.root;
    mid = h.0.now;
    now = none_of (length e.statuses) (length e.messages);
    finished = (h.0.finished.0, h.0.dir);
    dir = refl;
  },
  record { order = ap (names_after 0) (sym (order_mid e.root e.mid e.rules h.0.finished.1)) ∙ h.1.order; rule = h.1.rule },
  refl,
)
