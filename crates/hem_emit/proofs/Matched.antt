-- The modules of a protocol match it.
use Rattle.std.proofs.Common.{◌≡◌, refl, ap, sym, ◌∙◌, subst, ℕ, zero, suc, ◌<◌, arith, Bool, true, false, not, ◌||◌, List, [], ◌∷◌, length, map, Option, Some, None}
use Rattle.std.specs.Prelude.{◌==◌, slice_get, slice_index_or, option_map, is_some, find}
use Rattle.std.specs.List.{list_any}
use Rattle.std.specs.Str.{bytes_eq}
use Rattle.std.proofs.lemmas.Bool.{eqb-true}
use Rattle.std.proofs.lemmas.Option.{slice_get-map}
use Rattle.std.proofs.lemmas.Slice.Eq.{bytes_eq-Decides}
use Rattle.hem_base.specs.declared.ids.Firing.{Firing}
use Rattle.hem_base.specs.declared.ids.LineId.{LineId}
use Rattle.hem_base.specs.declared.ids.ObjectId.{ObjectId}
use Rattle.hem_syntax.specs.declared.rule.Rule.{Rule}
use Rattle.hem_syntax.specs.Protocol.{Protocol, part}
use Rattle.hem_syntax.specs.Lawful.{IsProtocol, is_rule, counts_of}
use Rattle.hem_template.specs.declared.template_name.TemplateName.{TemplateName}
use Rattle.hem_object.specs.Local.{Local}
use Rattle.hem_rows.specs.Rows.{AllHaveTemplates}
use Rattle.hem_rows.proofs.Choices.{both, found-passes}
use Rattle.hem_fire.specs.OneFire.{me_fits}
use Rattle.hem_tree.specs.Tree.{Tree, IsLawful, kind_of, children_of, place_among}
use Rattle.hem_system.specs.State.{Cell, Line, Effect, local_at, is_own_child, place_of_me, effect_of, line_after}
use Rattle.hem_system.proofs.Kids.{child_at}
use Rattle.hem_module.specs.declared.rules.ModRule.{ModRule}
use Rattle.hem_module.specs.Lawful.{are_apart, same_rule, same_child}
use Rattle.hem_module.specs.States.{can_fire, stepped}
use Rattle.hem_emit.specs.Emit.{place_of, rule_at, emitted_rules}
use Rattle.hem_emit.specs.Formed.{IsLine, IsFiring}
use Rattle.hem_emit.specs.Matches.{IsName, IsNamedAfter, Matches}
use Rattle.hem_emit.specs.Numbering.{Slot, FiringName, slots, rule_in, name_of, same_name, firing_of, IsSlot}
use Rattle.hem_emit.specs.Written.{written_as, modules_of, state_of}
use Rattle.hem_emit.proofs.Tests.{same_number, at_below}
use Rattle.hem_emit.proofs.Places.{element_or}
use Rattle.hem_emit.proofs.Named.{and_both}
use Rattle.hem_emit.proofs.NumberingFirings.{same_name_is}
use Rattle.hem_emit.proofs.NumberingRules.{map_map, rules_of_slots}
use Rattle.hem_emit.proofs.NumberingThere.{slot_there}
use Rattle.hem_emit.proofs.Rules.{passes_there, part_is}
use Rattle.hem_emit.proofs.Shown.{within}
use Rattle.hem_emit.proofs.Here.{element_there}
use Rattle.hem_emit.proofs.Slots.{from_map, slot_is}
use Rattle.hem_emit.proofs.Placed.{once_there}
use Rattle.hem_emit.proofs.Lawful.{apart_distinct}
use Rattle.hem_emit.proofs.LawfulRules.{rule_text, found_at, rules_apart}
use Rattle.hem_emit.proofs.Stepped.{can_written, leads_written}
use Rattle.hem_emit.proofs.Started.{starts_there}

-- where one passes, it stands somewhere
any_index : {A : Type 0} (test : A → Bool) (xs : List A) → list_any test xs ≡ true → (i : ℕ) × (x : A) × (slice_get xs i ≡ Some x) × (test x ≡ true)
any_index test [] some = cc
any_index {A} test (x ∷ xs) some = by_head (test x) refl some (any_index test xs)
  where
    by_head : (b : Bool) → test x ≡ b → (b || list_any test xs) ≡ true → (list_any test xs ≡ true → (i : ℕ) × (y : A) × (slice_get xs i ≡ Some y) × (test y ≡ true)) → (i : ℕ) × (y : A) × (slice_get (x ∷ xs) i ≡ Some y) × (test y ≡ true)
    by_head true is some rest = (0, x, refl, is)
    by_head false is some rest = let it = rest some in (suc it.0, it.1, it.2, it.3)

twice : {A : Type 0} (same : A → A → Bool) (x : A) (xs : List A) (j : ℕ) (a b : A) → are_apart same (x ∷ xs) ≡ true → slice_get (x ∷ xs) 0 ≡ Some a → slice_get xs j ≡ Some b → same a b ≡ true → ⊥
twice same x xs j a b apart first there alike =
    let e : x ≡ a = cc in
    let some : list_any (same x) xs ≡ true = element_there (same x) xs j b there (ap (λ y. same y b) e ∙ alike) in
    let none = (both (not (list_any (same x) xs)) _ apart).0 in
    let clash : false ≡ true = sym (ap not some) ∙ none in
    cc

-- of a list without two that are the same, two that are the same have one place
same_place : {A : Type 0} (same : A → A → Bool) (xs : List A) (i j : ℕ) (a b : A) → are_apart same xs ≡ true → slice_get xs i ≡ Some a → slice_get xs j ≡ Some b → same a b ≡ true → same b a ≡ true → i ≡ j
same_place same [] i j a b apart at_a at_b one other = cc
same_place same (x ∷ xs) zero zero a b apart at_a at_b one other = refl
same_place same (x ∷ xs) (suc i) (suc j) a b apart at_a at_b one other = ap suc (same_place same xs i j a b (both (not (list_any (same x) xs)) _ apart).1 at_a at_b one other)
same_place {A} same (x ∷ xs) zero (suc j) a b apart at_a at_b one other = absurd (twice same x xs j a b apart at_a at_b one)
same_place {A} same (x ∷ xs) (suc i) zero a b apart at_a at_b one other = absurd (twice same x xs i b a apart at_b at_a other)

module _ (p : Protocol) (tree : Tree) (lawful : IsProtocol p) (all : AllHaveTemplates p) (tree_is : IsLawful tree) where
  abbrev rules : List ModRule
  rules = map (written_as p tree) (emitted_rules p tree)

  abbrev rule_of : Slot → ModRule
  rule_of s = written_as p tree (rule_in p tree s)

  rules_are : rules ≡ map rule_of (slots p tree)
  rules_are = ap (map (written_as p tree)) (sym (rules_of_slots p tree)) ∙ map_map (written_as p tree) (rule_in p tree) (slots p tree)

  -- the slot of a rule
  slot_of : (i : ℕ) (r : ModRule) → slice_get rules i ≡ Some r → (s : Slot) × (slice_get (slots p tree) i ≡ Some s) × (rule_of s ≡ r)
  slot_of i r at = from_map rule_of (slots p tree) i r (sym (ap (λ rs. slice_get rs i) rules_are) ∙ at)

  -- the text of a slot's rule
  text_is : (s : Slot) → IsSlot p tree s → slice_get p.rule_names s.rule.name.0 ≡ Some (rule_of s).name
  text_is s it =
      let found = found_at p tree lawful all tree_is (part p s.kind).rules s.rule.name.0 s.rule it.named in
      let text = rule_text p tree lawful all tree_is s.kind found.0 s.rule found.1 in
      text.1 ∙ ap Some (sym (element_or p.rule_names s.rule.name.0 [] text.0 text.1))

  name_is : (line : LineId) (s : Slot) → IsSlot p tree s → IsName p tree (firing_of tree line s)
  name_is line s it =
      record {
        kind = s.kind;
        rule = s.rule;
        kind_is = it.kind_is;
        named = it.named;
        own_child = it.own_child line;
        fits = ap (λ m. me_fits s.kind s.rule.take m (length (children_of tree s.object))) (it.place line) ∙ it.fits;
      }

  after_slot : (line : LineId) (s : Slot) → IsSlot p tree s → IsNamedAfter p (rule_of s) (firing_of tree line s)
  after_slot line s it = record { object = refl; name = text_is s it; child = by_me s.me }
    where
      by_me : (me : Option ℕ) → option_map (λ k. slice_index_or (children_of tree s.object) k 0) me ≡ option_map (λ (c : ObjectId). c.0) (option_map (λ k. let c : ObjectId = record { 0 = slice_index_or (children_of tree s.object) k 0 } in c) me)
      by_me None = refl
      by_me (Some k) = refl

  firing_there : (i : ℕ) (r : ModRule) (line : LineId) → slice_get rules i ≡ Some r → (f : Firing) × (f.line ≡ line) × IsName p tree f × IsNamedAfter p r f
  firing_there i r line at =
      let s = slot_of i r at in
      let it = slot_is p tree lawful i s.0 s.1 in
      (firing_of tree line s.0, refl, name_is line s.0 it, subst (λ r. IsNamedAfter p r (firing_of tree line s.0)) s.2 (after_slot line s.0 it))

  -- the name of the rule that a firing names
  rule_name_is : (f : Firing) (it : IsName p tree f) → it.rule.name.0 ≡ f.rule.0
  rule_name_is f it = eqb-true _ _ (found-passes (λ (r : Rule). r.name.0 == f.rule.0) (part p it.kind).rules it.rule it.named)

  -- the child that a firing names, by its place
  child_back : (o : ℕ) (me : Option ObjectId) → is_own_child tree o me ≡ true → option_map (λ k. slice_index_or (children_of tree o) k 0) (place_of_me tree o me) ≡ option_map (λ (c : ObjectId). c.0) me
  child_back o None own = refl
  child_back o (Some c) own = ap Some (element_or (children_of tree o) (place_among tree o c.0) 0 c.0 (child_at tree o c.0 own))

  rule_there : (f : Firing) → IsName p tree f → (i : ℕ) × (r : ModRule) × (slice_get rules i ≡ Some r) × IsNamedAfter p r f
  rule_there f it =
      let some = slot_there p tree f.object.0 it.kind f.rule it.rule (place_of_me tree f.object.0 f.me) it.kind_is it.named it.fits in
      let found = any_index (same_name (record { object = f.object.0; rule = it.rule.name.0; me = place_of_me tree f.object.0 f.me })) (map name_of (slots p tree)) some in
      let s = from_map name_of (slots p tree) found.0 found.1 found.2 in
      let same : record { object = f.object.0; rule = it.rule.name.0; me = place_of_me tree f.object.0 f.me } ≡ name_of s.0 = same_name_is _ _ found.3 ∙ sym s.2 in
      let slot = slot_is p tree lawful found.0 s.0 s.1 in
      let object : s.0.object ≡ f.object.0 = sym (ap (λ (n : FiringName). n.object) same) in
      let name : s.0.rule.name.0 ≡ f.rule.0 = sym (ap (λ (n : FiringName). n.rule) same) ∙ rule_name_is f it in
      let me : s.0.me ≡ place_of_me tree f.object.0 f.me = sym (ap (λ (n : FiringName). n.me) same) in (
        found.0,
        rule_of s.0,
        ap (λ rs. slice_get rs found.0) rules_are ∙ slice_get-map rule_of (slots p tree) found.0 ∙ ap (option_map rule_of) s.1,
        record {
          object = object;
          name = ap (slice_get p.rule_names) (sym name) ∙ text_is s.0 slot;
          child = (λ i. option_map (λ k. slice_index_or (children_of tree (object i)) k 0) (me i)) ∙ child_back f.object.0 f.me it.own_child;
        },
      )

  child_self : (c : Option ℕ) → same_child c c ≡ true
  child_self None = refl
  child_self (Some k) = same_number k k refl

  alike : (r q : ModRule) (f : Firing) → IsNamedAfter p r f → IsNamedAfter p q f → same_rule r q ≡ true
  alike r q f is_r is_q =
      let names : Some r.name ≡ Some q.name = sym is_r.name ∙ is_q.name in
      let name : r.name ≡ q.name = cc in
      and_both _ _ (and_both _ _ (same_number r.object q.object (is_r.object ∙ sym is_q.object)) ((bytes_eq-Decides r.name q.name).1 name))
      (ap (same_child r.from) (is_q.child ∙ sym is_r.child) ∙ child_self r.from)

  rule_once : (f : Firing) (i j : ℕ) (r q : ModRule) → slice_get rules i ≡ Some r → slice_get rules j ≡ Some q → IsNamedAfter p r f → IsNamedAfter p q f → i ≡ j
  rule_once f i j r q at_r at_q is_r is_q = same_place same_rule rules i j r q (rules_apart p tree lawful all tree_is) at_r at_q (alike r q f is_r is_q) (alike q r f is_q is_r)

  -- a rule that is named after a firing is that of the firing's object, rule and child
  rule_is : (f : Firing) (i : ℕ) (r : ModRule) → slice_get rules i ≡ Some r → (it : IsName p tree f) → IsNamedAfter p r f → r ≡ written_as p tree (rule_at p (place_of p tree f.object.0 it.kind) it.rule (place_of_me tree f.object.0 f.me))
  rule_is f i r at it after =
      let s = slot_of i r at in
      let slot = slot_is p tree lawful i s.0 s.1 in
      sym s.2 ∙ slot_same f it s.0 slot (subst (λ r. IsNamedAfter p r f) (sym s.2) after)
    where
      slot_same : (f : Firing) (it : IsName p tree f) (s : Slot) → IsSlot p tree s → IsNamedAfter p (rule_of s) f → rule_of s ≡ written_as p tree (rule_at p (place_of p tree f.object.0 it.kind) it.rule (place_of_me tree f.object.0 f.me))
      slot_same f it s slot after =
          let object : s.object ≡ f.object.0 = after.object in
          let kinds : Some s.kind ≡ Some it.kind = sym slot.kind_is ∙ ap (kind_of tree) object ∙ it.kind_is in
          let kind : s.kind ≡ it.kind = cc in
          let number : s.rule.name.0 ≡ f.rule.0 = once_there bytes_eq (λ t. (bytes_eq-Decides t t).1 refl) p.rule_names s.rule.name.0 f.rule.0 (rule_of s).name (sym (apart_distinct p.rule_names) ∙ lawful.rule_names_once) (text_is s slot) after.name in
          let rules_same : Some s.rule ≡ Some it.rule = sym slot.named ∙ (λ i. find (λ (r : Rule). r.name.0 == number i) (part p (kind i)).rules) ∙ it.named in
          let rule : s.rule ≡ it.rule = cc in
          let me = me_same f it s slot object after.child in
          λ i. written_as p tree (rule_at p (place_of p tree (object i) (kind i)) (rule i) (me i))
        where
          me_same : (f : Firing) (it : IsName p tree f) (s : Slot) → IsSlot p tree s → s.object ≡ f.object.0 → option_map (λ k. slice_index_or (children_of tree s.object) k 0) s.me ≡ option_map (λ (c : ObjectId). c.0) f.me → s.me ≡ place_of_me tree f.object.0 f.me
          me_same f it s slot object child =
              sym (slot.place f.line)
              ∙ by_child (option_map (λ k. slice_index_or (children_of tree s.object) k 0) s.me) refl child
            where
              from_slot : (me : Option ℕ) → place_of_me tree s.object (option_map (λ k. let c : ObjectId = record { 0 = slice_index_or (children_of tree s.object) k 0 } in c) me) ≡ option_map (place_among tree s.object) (option_map (λ k. slice_index_or (children_of tree s.object) k 0) me)
              from_slot None = refl
              from_slot (Some k) = refl

              from_firing : (me : Option ObjectId) → option_map (place_among tree f.object.0) (option_map (λ (c : ObjectId). c.0) me) ≡ place_of_me tree f.object.0 me
              from_firing None = refl
              from_firing (Some c) = refl

              by_child : (c : Option ℕ) → option_map (λ k. slice_index_or (children_of tree s.object) k 0) s.me ≡ c → c ≡ option_map (λ (c : ObjectId). c.0) f.me → place_of_me tree s.object (firing_of tree f.line s).me ≡ place_of_me tree f.object.0 f.me
              by_child c is same =
                  from_slot s.me
                  ∙ ap (option_map (place_among tree s.object)) (is ∙ same)
                  ∙ ap (λ o. option_map (place_among tree o) (option_map (λ (c : ObjectId). c.0) f.me)) object
                  ∙ from_firing f.me

  -- a firing that names what is there, on a line that has an image
  firing_is : (f : Firing) (it : IsName p tree f) (line : Line) → IsLine p tree line → (t : TemplateName) × (local : Local) × IsFiring p tree line f it.kind it.rule t local
  firing_is f it line line_is =
      let t = all.each it.kind f.rule it.rule it.named in
      let found = found_at p tree lawful all tree_is (part p it.kind).rules f.rule.0 it.rule it.named in
      let count = line_is.objects in
      let less : f.object.0 < length line = let small = within tree f.object.0 it.kind it.kind_is in omega (arith, count, small) in
      let cell = at_below line f.object.0 less in
      let there : local_at line f.object.0 ≡ Some cell.0.local = ap (option_map (λ (c : Cell). c.local)) cell.1 in (
        t.0,
        cell.0.local,
        record {
          tree_is = tree_is;
          kind_is = it.kind_is;
          named = it.named;
          has = t.1;
          declared = passes_there (is_rule (counts_of p (part p it.kind))) (part p it.kind).rules found.0 it.rule (part_is p lawful it.kind).rules found.1;
          own_child = it.own_child;
          fits = it.fits;
          objects = line_is.objects;
          there = there;
          formed = line_is.locals f.object.0 it.kind cell.0.local it.kind_is there;
        },
      )

  can_alike : (f : Firing) (line : Line) (i : ℕ) (r : ModRule) → slice_get rules i ≡ Some r → IsName p tree f → IsNamedAfter p r f → IsLine p tree line → can_fire (state_of p tree line) r ≡ is_some (effect_of p tree line f)
  can_alike f line i r at it after line_is =
      let fires = firing_is f it line line_is in
      ap (can_fire (state_of p tree line)) (rule_is f i r at it after)
      ∙ can_written p tree line f it.kind it.rule fires.0 fires.1 fires.2

  leads_alike : (f : Firing) (line : Line) (e : Effect) (i : ℕ) (r : ModRule) → slice_get rules i ≡ Some r → IsName p tree f → IsNamedAfter p r f → IsLine p tree line → effect_of p tree line f ≡ Some e → stepped (state_of p tree line) r ≡ state_of p tree (line_after tree f e line)
  leads_alike f line e i r at it after line_is possible =
      let fires = firing_is f it line line_is in
      ap (stepped (state_of p tree line)) (rule_is f i r at it after)
      ∙ leads_written p tree line f it.kind it.rule fires.0 fires.1 e fires.2 possible

  pub modules_match : Matches p tree (modules_of p tree)
  modules_match =
      record {
        names = record { firing = firing_there; rule = rule_there; once = rule_once };
        steps = record { can = can_alike; leads = leads_alike };
        start = starts_there p tree;
      }
