-- A step over other names is the step over names, where what is known goes to them one to one.
use Rattle.std.proofs.Common.{◌≡◌, refl, ap, ◌∙◌, ℕ, Bool, true, false, not, cond, ◌&&◌, List, [], ◌∷◌, ◌++◌, map}
use Rattle.std.specs.Prelude.{◌==◌, drop, slice_get}
use Rattle.std.specs.List.{list_all, list_any}
use Rattle.std.specs.Option.{option_map_or}
use Rattle.hem_rows.proofs.Choices.{both}
use Rattle.hem_module.specs.Module.{Item, Test, equals, differs, has_head, Clause, Amount, number, read, head_value, Deed, deq, put, enq, Action, ModRule}
use Rattle.hem_module.specs.Step.{Held, Names, test_holds, clause_holds, mod_can, amount_in, is_done, put_by, number_after, takes_head, appended_by, loses_head, appended, queue_after, after_actions}
use Rattle.hem_emit.specs.Numbering.{test_by, amount_by, deed_by, action_by, rule_by, test_known, amount_known, deed_known, action_known, rule_known, OneToOne, Agree}

-- tests of a list that agree on what is known agree on all of it
all_by : {A B : Type 0} (known test : A → Bool) (f : A → B) (other : B → Bool) → ((x : A) → known x ≡ true → other (f x) ≡ test x) → (xs : List A) → list_all known xs ≡ true → list_all other (map f xs) ≡ list_all test xs
all_by known test f other alike [] all = refl
all_by known test f other alike (x ∷ xs) all =
    let parts = both (known x) (list_all known xs) all in
    let head = alike x parts.0 in
    let tail = all_by known test f other alike xs parts.1 in
    cc (head, tail)

any_by : {A B : Type 0} (known test : A → Bool) (f : A → B) (other : B → Bool) → ((x : A) → known x ≡ true → other (f x) ≡ test x) → (xs : List A) → list_all known xs ≡ true → list_any other (map f xs) ≡ list_any test xs
any_by known test f other alike [] all = refl
any_by known test f other alike (x ∷ xs) all =
    let parts = both (known x) (list_all known xs) all in
    let head = alike x parts.0 in
    let tail = any_by known test f other alike xs parts.1 in
    cc (head, tail)

module _ {R Q P S : Type 0} (names : Names R Q) (other : Names P S) (f : R → P) (g : Q → S) (has : R → Bool) (hasq : Q → Bool) (s : Held R Q) (t : Held P S) (one : OneToOne names other f g has hasq) (agree : Agree f g has hasq s t) where
  test_alike : (x : Test R Q) → test_known has hasq x ≡ true → test_holds t (test_by f g x) ≡ test_holds s x
  test_alike (equals r n) known = ap (λ m. m == n) (agree.regs r known)
  test_alike (differs r n) known = ap (λ m. not (m == n)) (agree.regs r known)
  test_alike (has_head q n) known = ap (λ items. option_map_or (λ m. m.id == n) (slice_get items 0) false) (agree.queues q known)

  clause_alike : (c : Clause R Q) → list_all (test_known has hasq) c ≡ true → clause_holds t (map (test_by f g) c) ≡ clause_holds s c
  clause_alike c known = any_by (test_known has hasq) (test_holds s) (test_by f g) (test_holds t) test_alike c known

  -- a rule can step over the other names exactly where it can
  pub can_alike : (rule : ModRule R Q) → rule_known has hasq rule ≡ true → mod_can t (rule_by f g rule) ≡ mod_can s rule
  can_alike rule known = all_by (list_all (test_known has hasq)) (clause_holds s) (map (test_by f g)) (clause_holds t) clause_alike rule.clauses (both _ (list_all (action_known has hasq) rule.actions) known).0

  amount_alike : (a : Amount R Q) → amount_known has hasq a ≡ true → amount_in t (amount_by f g a) ≡ amount_in s a
  amount_alike (number n) known = refl
  amount_alike (read r) known = agree.regs r known
  amount_alike (head_value q) known = ap (λ items. option_map_or (λ m. m.value) (slice_get items 0) 0) (agree.queues q known)

  done_alike : (a : Action R Q) → action_known has hasq a ≡ true → is_done t (action_by f g a) ≡ is_done s a
  done_alike a known = all_by (test_known has hasq) (test_holds s) (test_by f g) (test_holds t) test_alike a.tests (both (list_all (test_known has hasq) a.tests) (deed_known has hasq a.deed) known).0

  put_alike : (r : R) → has r ≡ true → (d : Deed R Q) → deed_known has hasq d ≡ true → (old : ℕ) → put_by t (other.same_reg (f r)) (deed_by f g d) old ≡ put_by s (names.same_reg r) d old
  put_alike r here (deq q) known old = refl
  put_alike r here (put u a) known old =
      let parts = both (has u) (amount_known has hasq a) known in
      let is = one.regs r u here parts.0 in
      let amount = amount_alike a parts.1 in
      cc (is, amount)
  put_alike r here (enq q id a) known old = refl

  number_alike : (r : R) → has r ≡ true → (actions : List (Action R Q)) → list_all (action_known has hasq) actions ≡ true → (old : ℕ) → number_after t (other.same_reg (f r)) (map (action_by f g) actions) old ≡ number_after s (names.same_reg r) actions old
  number_alike r here [] known old = refl
  number_alike r here (a ∷ actions) known old =
      let parts = both (action_known has hasq a) (list_all (action_known has hasq) actions) known in
      let deed = (both (list_all (test_known has hasq) a.tests) (deed_known has hasq a.deed) parts.0).1 in
      ap (λ b. number_after t (other.same_reg (f r)) (map (action_by f g) actions) (cond b (put_by t (other.same_reg (f r)) (deed_by f g a.deed) old) old)) (done_alike a parts.0)
      ∙ ap (λ n. number_after t (other.same_reg (f r)) (map (action_by f g) actions) (cond (is_done s a) n old)) (put_alike r here a.deed deed old)
      ∙ number_alike r here actions parts.1 (cond (is_done s a) (put_by s (names.same_reg r) a.deed old) old)

  takes_alike : (q : Q) → hasq q ≡ true → (d : Deed R Q) → deed_known has hasq d ≡ true → takes_head (other.same_queue (g q)) (deed_by f g d) ≡ takes_head (names.same_queue q) d
  takes_alike q here (deq u) known = one.queues q u here known
  takes_alike q here (put u a) known = refl
  takes_alike q here (enq u id a) known = refl

  item_alike : (q : Q) → hasq q ≡ true → (d : Deed R Q) → deed_known has hasq d ≡ true → appended_by t (other.same_queue (g q)) (deed_by f g d) ≡ appended_by s (names.same_queue q) d
  item_alike q here (deq u) known = refl
  item_alike q here (put u a) known = refl
  item_alike q here (enq u id a) known =
      let parts = both (hasq u) (amount_known has hasq a) known in
      ap (λ b. cond b ((let i : Item = record { id = id; value = amount_in t (amount_by f g a) } in i) ∷ []) []) (one.queues q u here parts.0)
      ∙ ap (λ n. cond (names.same_queue q u) ((let i : Item = record { id = id; value = n } in i) ∷ []) []) (amount_alike a parts.1)

  loses_alike : (q : Q) → hasq q ≡ true → (actions : List (Action R Q)) → list_all (action_known has hasq) actions ≡ true → loses_head t (other.same_queue (g q)) (map (action_by f g) actions) ≡ loses_head s (names.same_queue q) actions
  loses_alike q here actions known = any_by (action_known has hasq) (λ a. is_done s a && takes_head (names.same_queue q) a.deed) (action_by f g) (λ a. is_done t a && takes_head (other.same_queue (g q)) a.deed) each actions known
    where
      each : (a : Action R Q) → action_known has hasq a ≡ true → (is_done t (action_by f g a) && takes_head (other.same_queue (g q)) (deed_by f g a.deed)) ≡ (is_done s a && takes_head (names.same_queue q) a.deed)
      each a known =
          let deed = (both (list_all (test_known has hasq) a.tests) (deed_known has hasq a.deed) known).1 in
          ap (λ b. b && takes_head (other.same_queue (g q)) (deed_by f g a.deed)) (done_alike a known)
          ∙ ap (λ b. is_done s a && b) (takes_alike q here a.deed deed)

  appended_alike : (q : Q) → hasq q ≡ true → (actions : List (Action R Q)) → list_all (action_known has hasq) actions ≡ true → appended t (other.same_queue (g q)) (map (action_by f g) actions) ≡ appended s (names.same_queue q) actions
  appended_alike q here [] known = refl
  appended_alike q here (a ∷ actions) known =
      let parts = both (action_known has hasq a) (list_all (action_known has hasq) actions) known in
      let deed = (both (list_all (test_known has hasq) a.tests) (deed_known has hasq a.deed) parts.0).1 in
      ap (λ b. cond b (appended_by t (other.same_queue (g q)) (deed_by f g a.deed)) [] ++ appended t (other.same_queue (g q)) (map (action_by f g) actions)) (done_alike a parts.0)
      ∙ ap (λ items. cond (is_done s a) items [] ++ appended t (other.same_queue (g q)) (map (action_by f g) actions)) (item_alike q here a.deed deed)
      ∙ ap (λ items. cond (is_done s a) (appended_by s (names.same_queue q) a.deed) [] ++ items) (appended_alike q here actions parts.1)

  -- the actions over the other names lead to the state to which they lead
  pub actions_alike : (actions : List (Action R Q)) → list_all (action_known has hasq) actions ≡ true → Agree f g has hasq (after_actions names s actions) (after_actions other t (map (action_by f g) actions))
  actions_alike actions known =
      record {
        regs = λ r here. ap (number_after t (other.same_reg (f r)) (map (action_by f g) actions)) (agree.regs r here) ∙ number_alike r here actions known (s.reg r);
        queues = λ q here.
            ap (λ items. queue_after t (other.same_queue (g q)) (map (action_by f g) actions) items) (agree.queues q here)
            ∙ ap (λ b. drop (cond b 1 0) (s.queue q) ++ appended t (other.same_queue (g q)) (map (action_by f g) actions)) (loses_alike q here actions known)
            ∙ ap (λ items. drop (cond (loses_head s (names.same_queue q) actions) 1 0) (s.queue q) ++ items) (appended_alike q here actions known);
      }
