-- The clauses of a send hold where everything that it names exists and it reaches somebody.
use Rattle.std.proofs.Common.{◌≡◌, refl, ap, sym, ◌∙◌, ℕ, zero, suc, ◌+◌, ◌^◌, ◌<◌, Bool, true, false, not, cond, ◌&&◌, ◌||◌, List, [], ◌∷◌, ◌++◌, length, arith, inl, inr, ◌⊎◌, Option, Some}
use Rattle.std.specs.Prelude.{◌==◌, slice_get}
use Rattle.std.specs.List.{list_all, list_any, enumerate_from}
use Rattle.std.specs.Option.{option_map_or}
use Rattle.std.proofs.lemmas.List.Folds.{list_any-append}
use Rattle.hem_base.specs.Sets.{bits_where}
use Rattle.hem_base.specs.declared.ids.MsgId.{MsgId}
use Rattle.hem_base.specs.declared.ids.StatusSet.{StatusSet}
use Rattle.hem_base.specs.declared.ids.Status8.{Status8}
use Rattle.hem_base.specs.declared.ids.Kind.{Kind}
use Rattle.hem_base.specs.declared.ids.Kind.TheVariants.{Root, Mid, Leaf}
use Rattle.hem_syntax.specs.declared.rule.Rule.{Rule}
use Rattle.hem_syntax.specs.declared.rule.SendTo.{SendTo}
use Rattle.hem_syntax.specs.declared.rule.Value.{Value}
use Rattle.hem_syntax.specs.declared.rule.SendTo.TheVariants as send
use Rattle.hem_template.specs.declared.template_name.TemplateName.{TemplateName}
use Rattle.hem_template.specs.declared.template_name.TemplateName.TheVariants.{ImmDown, RqUpDown, RsDown, RsDownRqDown, RsUpDown}
use Rattle.hem_object.specs.declared.state.View.{View}
use Rattle.hem_syntax.specs.Protocol.{Protocol}
use Rattle.hem_object.specs.Local.{Local}
use Rattle.hem_object.specs.Guard.{has, is_in, is_requester, has_requester, kids_of, others_of}
use Rattle.hem_template.specs.declared.row.Sending.{Sending}
use Rattle.hem_template.specs.declared.row.Sending.TheVariants.{NothingSent, ToRequester, RequestUp, ResponseUp, ToOthers, ToKids}
use Rattle.hem_template.specs.Template.{row_of, may_name_requester, is_leaf, level_fits, value_fits, value_sent}
use Rattle.hem_object.specs.Targets.{kid_is_in}
use Rattle.hem_fire.specs.Heads.{Heads}
use Rattle.hem_fire.specs.Sends.{has_parent, send_names}
use Rattle.hem_tree.specs.Tree.{below}
use Rattle.hem_tree.proofs.Lawful.{length_below}
use Rattle.hem_module.specs.Step.{Held, clause_holds}
use Rattle.hem_rows.specs.Rows.{IsSending}
use Rattle.hem_emit.specs.Names.{Reg, Queue}
use Rattle.hem_emit.specs.Place.{Place, Asker}
use Rattle.hem_emit.specs.Clauses.{send_clauses}
use Rattle.hem_emit.proofs.Tests.{or_false, list_any-filter, any_alike, any_elements}
use Rattle.hem_emit.proofs.Entries.{Sees, kids_any-is}
use Rattle.hem_emit.proofs.Faced.{Faced}
use Rattle.hem_emit.proofs.Named.{and_both, value_is_there}

-- a number with a bit is not 0
some_bit : (test : ℕ → Bool) (n : ℕ) → not (bits_where test n == 0) ≡ list_any test (below n)
some_bit test zero = refl
some_bit test (suc n) = by_test (test n) (some_bit test n) ∙ sym (list_any-append test (below n) (n ∷ []))
  where
    or_true : (b : Bool) → true ≡ (b || true)
    or_true true = refl
    or_true false = refl

    positive : (a b : ℕ) → 0 < b → not (a + b == 0) ≡ true
    positive a b some = grind arith

    power : (m : ℕ) → 0 < 2 ^ m
    power zero = omega arith
    power (suc m) = let rest = power m in omega (arith, rest)

    by_test : (b : Bool) → not (bits_where test n == 0) ≡ list_any test (below n) → not (bits_where test n + cond b (2 ^ n) 0 == 0) ≡ (list_any test (below n) || (b || false))
    by_test true rest = positive (bits_where test n) (2 ^ n) (power n) ∙ or_true (list_any test (below n))
    by_test false rest = let e : bits_where test n + 0 ≡ bits_where test n = omega arith in rw e (rest ∙ sym (or_false (list_any test (below n))))

-- an element of a list that is one longer
longer : {A : Type 0} (xs : List A) (x y : A) (k : ℕ) → slice_get (xs ++ x ∷ []) k ≡ Some y → (slice_get xs k ≡ Some y) ⊎ (k ≡ length xs) × (x ≡ y)
longer [] x y zero at = inr (refl, cc)
longer [] x y (suc k) at = cc
longer (z ∷ xs) x y zero at = inl at
longer (z ∷ xs) x y (suc k) at = by_place (longer xs x y k at)
  where
    by_place : (slice_get xs k ≡ Some y) ⊎ (k ≡ length xs) × (x ≡ y) → (slice_get xs k ≡ Some y) ⊎ (suc k ≡ suc (length xs)) × (x ≡ y)
    by_place (inl there) = inl there
    by_place (inr last) = inr (ap suc last.0, last.1)

-- a number stands among those below a bound at its own place
pub below_is : (n k y : ℕ) → slice_get (below n) k ≡ Some y → y ≡ k
below_is zero k y at = cc
below_is (suc n) k y at = by_place (longer (below n) n y k at) (λ there. below_is n k y there)
  where
    by_place : (slice_get (below n) k ≡ Some y) ⊎ (k ≡ length (below n)) × (n ≡ y) → (slice_get (below n) k ≡ Some y → y ≡ k) → y ≡ k
    by_place (inl there) earlier = earlier there
    by_place (inr last) earlier = sym last.1 ∙ sym (length_below n) ∙ sym last.0

-- a test of the places of a list is a test of its elements
pub any_places : {A : Type 0} (f : ℕ × A → Bool) (test : ℕ → Bool) (xs : List A) → ((k : ℕ) (x : A) → slice_get xs k ≡ Some x → f (k, x) ≡ test k) → list_any f (enumerate_from 0 xs) ≡ list_any test (below (length xs))
any_places f test xs same =
    any_alike f (λ k. test k.1) xs (below (length xs)) (sym (length_below (length xs))) (λ k x y at_x at_y. same k x at_x ∙ ap test (sym (below_is (length xs) k y at_y)))
    ∙ any_elements test 0 (below (length xs))

-- a send to the requester and one to the others name it
abbrev sends_to_me : Sending → Bool
sends_to_me ToRequester = true
sends_to_me _ = false

abbrev sends_to_others : Sending → Bool
sends_to_others ToOthers = true
sends_to_others _ = false

pub answer_asks : (t : TemplateName) → sends_to_me (row_of t).sending ≡ true → may_name_requester (row_of t) ≡ true
answer_asks ImmDown is = refl
answer_asks RsDown is = refl
answer_asks RsUpDown is = refl
answer_asks _ is = cc

pub others_ask : (t : TemplateName) → sends_to_others (row_of t).sending ≡ true → may_name_requester (row_of t) ≡ true
others_ask RqUpDown is = refl
others_ask RsDownRqDown is = refl
others_ask _ is = cc

pub sending_me : (p : Protocol) (row : Sending) (id : MsgId) (v : Value) → IsSending p row (send.Me id v) → sends_to_me row ≡ true
sending_me p NothingSent id v is = cc
sending_me p ToRequester id v is = refl
sending_me p RequestUp id v is = let e = is.2 in cc
sending_me p ResponseUp id v is = let e = is.2 in cc
sending_me p ToOthers id v is = let e = is.3 in cc
sending_me p ToKids id v is = let e = is.3 in cc

pub sending_others : (p : Protocol) (row : Sending) (set : StatusSet) (id : MsgId) (v : Value) → IsSending p row (send.Others set id v) → sends_to_others row ≡ true
sending_others p NothingSent set id v is = cc
sending_others p ToRequester set id v is = let e = is.2 in cc
sending_others p RequestUp set id v is = let e = is.2 in cc
sending_others p ResponseUp set id v is = let e = is.2 in cc
sending_others p ToOthers set id v is = refl
sending_others p ToKids set id v is = let e = is.3 in cc

-- a rule that sends to its parent has one, and one that sends to children has them
pub record Levels (kind : Kind) (to : SendTo) : Type 0 where
  pub parent : (id : MsgId) (v : Value) → to ≡ send.Parent id v → has_parent kind ≡ true
  pub others : (set : StatusSet) (id : MsgId) (v : Value) → to ≡ send.Others set id v → not (is_leaf kind) ≡ true

second : (a : Bool) {b : Bool} → (a && b) ≡ true → b ≡ true
second true is = is
second false is = cc

pub levels : (kind : Kind) (rule : Rule) → level_fits kind rule ≡ true → Levels kind rule.send
levels Mid rule fits = record { parent = λ id v is. refl; others = λ set id v is. refl }
levels Leaf rule fits =
    record {
      parent = λ id v is. refl;
      others = λ set id v is. let level : level_fits Leaf rule ≡ true = fits in let bad = rw is at level in second _ bad;
    }
levels Root rule fits =
    record {
      parent = λ id v is. let level : level_fits Root rule ≡ true = fits in let bad = rw is at level in second _ bad;
      others = λ set id v is. refl;
    }

module _ {at : Place} {me : Option ℕ} {local : Local} {heads : Heads} {s : Held Reg Queue} (sees : Sees at me local heads s) (p : Protocol) (t : TemplateName) (who : Asker) (view : View) (faced : Faced at s who local view (row_of t)) where
  kid_reached : (set : StatusSet) → list_any (has set) local.dir ≡ not (bits_where (kid_is_in local set) (length local.dir) == 0)
  kid_reached set =
      sym (any_elements (has set) 0 local.dir)
      ∙ any_places (λ k. has set k.1) (kid_is_in local set) local.dir (λ k x there. rw there refl)
      ∙ sym (some_bit (kid_is_in local set) (length local.dir))

  other_reached : (set : StatusSet) → list_any (λ k. has set k.1) (others_of local view) ≡ not (bits_where (λ k. kid_is_in local set k && not (is_requester view k)) (length local.dir) == 0)
  other_reached set =
      list_any-filter (λ k. has set k.1) (λ k. not (is_requester view k.0)) (kids_of local)
      ∙ any_places (λ k. not (is_requester view k.0) && has set k.1) (λ k. kid_is_in local set k && not (is_requester view k)) local.dir (λ k x there. at_place k x there)
      ∙ sym (some_bit (λ k. kid_is_in local set k && not (is_requester view k)) (length local.dir))
    where
      swapped : (a b : Bool) → (a && b) ≡ (b && a)
      swapped true true = refl
      swapped true false = refl
      swapped false true = refl
      swapped false false = refl

      at_place : (k : ℕ) (x : Status8) → slice_get local.dir k ≡ Some x → (not (is_requester view k) && has set x) ≡ (kid_is_in local set k && not (is_requester view k))
      at_place k x there = swapped (not (is_requester view k)) (has set x) ∙ ap (λ b. b && not (is_requester view k)) (sym (ap (is_in set) there))

  pub send_is : (to : SendTo) → IsSending p (row_of t).sending to → Levels at.kind to → option_map_or (value_fits (row_of t)) (value_sent to) true ≡ true → list_all (clause_holds s) (send_clauses at who to) ≡ send_names at.kind to local view
  send_is send.Nothing is level value = refl
  send_is (send.Me id v) is level value = sym (and_both _ _ (faced.requester (answer_asks t (sending_me p (row_of t).sending id v is))) (value_is_there faced v value))
  send_is (send.Parent id v) is level value = sym (and_both _ _ (level.parent id v refl) (value_is_there faced v value))
  send_is (send.Kids set id v) is level value =
      kids_any-is sees set ∙ kid_reached set ∙ sym (ap (λ b. b && not (bits_where (kid_is_in local set) (length local.dir) == 0)) (value_is_there faced v value))
  send_is (send.Others set id v) is level value =
      let asks = others_ask t (sending_others p (row_of t).sending set id v is) in
      faced.guarded.any set (and_both _ _ asks (level.others set id v refl))
      ∙ by_parts (has_requester view) _ _ _ (value_is_there faced v value) (other_reached set)
    where
      by_parts : (a b c d : Bool) → b ≡ true → d ≡ c → (a && d) ≡ ((a && b) && c)
      by_parts true b c d one other = cc
      by_parts false b c d one other = refl
