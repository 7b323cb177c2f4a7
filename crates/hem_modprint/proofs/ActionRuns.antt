-- The grammar of modules goes over the actions of a rule.
use Rattle.std.proofs.Common.{◌≡◌, refl, sym, ap, ◌∙◌, subst, ℕ, Bool, true, false, cond, List, [], ◌∷◌, ◌++◌, Option, Some, None, append_assoc, append-nil}
use Rattle.std.specs.Prelude.{fold, codes, decimal, nat_le, flat_map}
use Rattle.std.specs.List.{list_all}
use Rattle.hem_text.specs.declared.text.TokenKind.TheVariants as kind
use Rattle.hem_text.specs.declared.text.Place.{Place}
use Rattle.hem_text.specs.declared.symbol.Symbol.TheVariants as symbol
use Rattle.hem_text.specs.Tokens.{advance}
use Rattle.hem_text.specs.Grammars.{full, State, state, next}
use Rattle.hem_syntax.specs.Protocol.{Text}
use Rattle.hem_print.proofs.Naming.{and_left, and_right}
use Rattle.hem_module.specs.declared.rules.ModAtom.{ModAtom}
use Rattle.hem_module.specs.declared.rules.Act.{Act}
use Rattle.hem_module.specs.declared.rules.Act.TheVariants as act
use Rattle.hem_module.specs.declared.rules.Action.{Action}
use Rattle.hem_module.specs.declared.rules.ModValue.{ModValue}
use Rattle.hem_module.specs.declared.rules.ModValue.TheVariants as amount
use Rattle.hem_module.specs.declared.rules.ModRule.{ModRule}
use Rattle.hem_module.specs.Modules.{Modules}
use Rattle.hem_module.specs.Lawful.{IsModules, counts_of, has_atom, has_value, has_act, has_action}
use Rattle.hem_modtext.specs.declared.tokens.Terminal.{Terminal}
use Rattle.hem_modtext.specs.declared.tokens.Terminal.TheVariants as the
use Rattle.hem_modtext.specs.declared.tokens.TestRole.TheVariants as test
use Rattle.hem_modtext.specs.declared.tokens.Item.{Item}
use Rattle.hem_modtext.specs.declared.tokens.Item.TheVariants as item
use Rattle.hem_modtext.specs.declared.key.RuleKey.{RuleKey}
use Rattle.hem_modtext.specs.declared.tokens.ValuePart.TheVariants as part
use Rattle.hem_modtext.specs.Limits.{most_id, most_number}
use Rattle.hem_modtext.specs.Draft.{Read, grammar, with_value}
use Rattle.hem_modprint.specs.ModulesText.{register_name, queue_name, test_text, value_text, act_text, action_text, actions_text}
use Rattle.hem_modprint.specs.ReadsBack.{fits_test, fits_value, fits_act, fits_action}
use Rattle.hem_modprint.proofs.Known.{KnownRegister, KnownQueue, register_known, queue_known, no_register, not_the}
use Rattle.hem_modprint.proofs.Leads.{Leads, nothing, then, space, word, comma, number, at, is_apart}
use Rattle.hem_modprint.proofs.TestRuns.{Stack, env, test_read, if_within, number_is, id_is, number_small, id_small}

module _ (m : Modules) (good : IsModules m) (rules : List ModRule) (keys : List RuleKey) where
  -- the rule so far, with these actions, in an action with this condition and act
  abbrev inside : ModRule → List Action → List ModAtom → Option Act → Read
  inside x done tests half = env m rules keys (record x { actions = done }) tests None half

  abbrev with : ModRule → List Action → Read
  with x done = inside x done [] None

  number_next : (x : ModRule) (done : List Action) (tests : List ModAtom) (a : Act) (rest : Stack) (n : ℕ) (place : Place) → nat_le n most_number ≡ true
      → next full grammar (state (inside x done tests (Some a)) (symbol.Item item.Value ∷ rest)) (at kind.Number (decimal n) place) ≡ Some (state (with x (done ++ record { cond = tests; act = with_value a (amount.Number n) } ∷ [])) rest)
  number_next x done tests a rest n place small =
      ap (λ k. if_small k) (number_is n small)
      ∙ if_within n most_number _ _ small
    where
      if_small : ℕ → Option (State Read Terminal Item)
      if_small k = cond (nat_le k most_number) (Some (state (with x (done ++ record { cond = tests; act = with_value a (amount.Number k) } ∷ [])) rest)) None

  register_next : (x : ModRule) (done : List Action) (tests : List ModAtom) (a : Act) (rest : Stack) (t : Text) (r : ℕ) (place : Place) → KnownRegister m.regs t r
      → next full grammar (state (inside x done tests (Some a)) (symbol.Item item.Value ∷ rest)) (at kind.Word t place) ≡ Some (state (with x (done ++ record { cond = tests; act = with_value a (amount.Reg r) } ∷ [])) rest)
  register_next x done tests a rest t r place known = rw (known.among, known.place) refl

  value_next : (x : ModRule) (done : List Action) (tests : List ModAtom) (a : Act) (rest : Stack) (place : Place)
      → next full grammar (state (inside x done tests (Some a)) (symbol.Item item.Value ∷ rest)) (at kind.Word (codes "value") place) ≡ Some (state (inside x done tests (Some a)) (symbol.One (the.Value part.Queue) ∷ rest))
  value_next x done tests a rest place = rw (no_register m good (codes "value") refl) refl

  front_next : (x : ModRule) (done : List Action) (tests : List ModAtom) (a : Act) (rest : Stack) (t : Text) (q : ℕ) (place : Place) → KnownQueue m.queues t q
      → next full grammar (state (inside x done tests (Some a)) (symbol.One (the.Value part.Queue) ∷ rest)) (at kind.Word t place) ≡ Some (state (with x (done ++ record { cond = tests; act = with_value a (amount.Front q) } ∷ [])) rest)
  front_next x done tests a rest t q place known = rw (known.within, known.place) refl

  -- a value ends an action
  value_read : (x : ModRule) (done : List Action) (tests : List ModAtom) (a : Act) (rest : Stack) (v : ModValue) (place : Place) (tail : Text) → has_value (counts_of m) v ≡ true → fits_value v ≡ true → is_apart tail ≡ true
      → Leads grammar place (value_text m v) tail (state (inside x done tests (Some a)) (symbol.Item item.Value ∷ rest)) (state (with x (done ++ record { cond = tests; act = with_value a v } ∷ [])) rest)
  value_read x done tests a rest (amount.Number n) place tail there small apart = number grammar place n tail _ _ (number_small n small) apart (number_next x done tests a rest n place small)
  value_read x done tests a rest (amount.Reg r) place tail there small apart =
      let known = register_known m good r there in
      word grammar place (register_name m r) tail _ _ known.plain.word apart (register_next x done tests a rest (register_name m r) r place known)
  value_read x done tests a rest (amount.Front q) place tail there small apart =
      let known = queue_known m good q there in
      then grammar place (codes "value ") (queue_name m q) tail _ _ _
      (then grammar place (codes "value") (codes " ") (queue_name m q ++ tail) _ _ _
      (word grammar place (codes "value") (codes " " ++ (queue_name m q ++ tail)) _ _ refl refl (value_next x done tests a rest place))
      (space grammar _ (queue_name m q ++ tail) _))
      (word grammar (fold advance place (codes "value ")) (queue_name m q) tail _ _ known.plain.word apart (front_next x done tests a rest (queue_name m q) q (fold advance place (codes "value ")) known))

  -- what is to come before an act: after a condition, or at the start of an action
  abbrev before_act : Bool → Stack → Stack
  before_act true rest = symbol.Many item.And ∷ symbol.Item item.Act ∷ rest
  before_act false rest = symbol.Item item.Action ∷ rest

  deq_next : (x : ModRule) (done : List Action) (tests : List ModAtom) (b : Bool) (rest : Stack) (place : Place)
      → next full grammar (state (inside x done tests None) (before_act b rest)) (at kind.Word (codes "deq") place) ≡ Some (state (inside x done tests None) (symbol.One the.LosingQueue ∷ rest))
  deq_next x done tests true rest place = refl
  deq_next x done tests false rest place = refl

  losing_next : (x : ModRule) (done : List Action) (tests : List ModAtom) (rest : Stack) (t : Text) (q : ℕ) (place : Place) → KnownQueue m.queues t q
      → next full grammar (state (inside x done tests None) (symbol.One the.LosingQueue ∷ rest)) (at kind.Word t place) ≡ Some (state (with x (done ++ record { cond = tests; act = act.Deq q } ∷ [])) rest)
  losing_next x done tests rest t q place known = rw (known.within, known.place) refl

  written_next : (x : ModRule) (done : List Action) (tests : List ModAtom) (b : Bool) (rest : Stack) (t : Text) (r : ℕ) (place : Place) → KnownRegister m.regs t r
      → next full grammar (state (inside x done tests None) (before_act b rest)) (at kind.Word t place) ≡ Some (state (inside x done tests (Some (act.Set r (amount.Number 0)))) (symbol.One the.Assign ∷ symbol.Item item.Value ∷ rest))
  written_next x done tests true rest t r place known = rw (not_the (codes "and") t refl known.plain.free, not_the (codes "deq") t refl known.plain.free, known.among, known.place) refl
  written_next x done tests false rest t r place known = rw (not_the (codes "if") t refl known.plain.free, not_the (codes "deq") t refl known.plain.free, known.among, known.place) refl

  enq_next : (x : ModRule) (done : List Action) (tests : List ModAtom) (b : Bool) (rest : Stack) (place : Place)
      → next full grammar (state (inside x done tests None) (before_act b rest)) (at kind.Word (codes "enq") place) ≡ Some (state (inside x done tests None) (symbol.One the.GainingQueue ∷ symbol.One the.SentId ∷ symbol.Item item.Value ∷ rest))
  enq_next x done tests true rest place = rw (no_register m good (codes "enq") refl) refl
  enq_next x done tests false rest place = rw (no_register m good (codes "enq") refl) refl

  gaining_next : (x : ModRule) (done : List Action) (tests : List ModAtom) (rest : Stack) (t : Text) (q : ℕ) (place : Place) → KnownQueue m.queues t q
      → next full grammar (state (inside x done tests None) (symbol.One the.GainingQueue ∷ rest)) (at kind.Word t place) ≡ Some (state (inside x done tests (Some (act.Enq q (record { 0 = 0 }) (amount.Number 0)))) rest)
  gaining_next x done tests rest t q place known = rw (known.within, known.place) refl

  sent_next : (x : ModRule) (done : List Action) (tests : List ModAtom) (q : ℕ) (rest : Stack) (n : ℕ) (place : Place) → nat_le n most_id ≡ true
      → next full grammar (state (inside x done tests (Some (act.Enq q (record { 0 = 0 }) (amount.Number 0)))) (symbol.One the.SentId ∷ rest)) (at kind.Number (decimal n) place) ≡ Some (state (inside x done tests (Some (act.Enq q (record { 0 = n }) (amount.Number 0)))) rest)
  sent_next x done tests q rest n place small =
      ap (λ k. if_small k) (id_is n small)
      ∙ if_within n most_id _ _ small
    where
      if_small : ℕ → Option (State Read Terminal Item)
      if_small k = cond (nat_le k most_id) (Some (state (inside x done tests (Some (act.Enq q (record { 0 = k }) (amount.Number 0)))) rest)) None

  -- an act ends an action
  act_read : (x : ModRule) (done : List Action) (tests : List ModAtom) (b : Bool) (rest : Stack) (a : Act) (place : Place) (tail : Text) → has_act (counts_of m) a ≡ true → fits_act a ≡ true → is_apart tail ≡ true
      → Leads grammar place (act_text m a) tail (state (inside x done tests None) (before_act b rest)) (state (with x (done ++ record { cond = tests; act = a } ∷ [])) rest)
  act_read x done tests b rest (act.Deq q) place tail there small apart =
      let known = queue_known m good q there in
      then grammar place (codes " deq ") (queue_name m q) tail _ _ _
      (then grammar place (codes " deq") (codes " ") (queue_name m q ++ tail) _ _ _
      (then grammar place (codes " ") (codes "deq") (codes " " ++ (queue_name m q ++ tail)) _ _ _
      (space grammar place (codes "deq" ++ (codes " " ++ (queue_name m q ++ tail))) _)
      (word grammar (fold advance place (codes " ")) (codes "deq") (codes " " ++ (queue_name m q ++ tail)) _ _ refl refl (deq_next x done tests b rest (fold advance place (codes " ")))))
      (space grammar _ (queue_name m q ++ tail) _))
      (word grammar (fold advance place (codes " deq ")) (queue_name m q) tail _ _ known.plain.word apart (losing_next x done tests rest (queue_name m q) q (fold advance place (codes " deq ")) known))
  act_read x done tests b rest (act.Set r v) place tail there small apart =
      let known = register_known m good r (and_left _ _ there) in
      then grammar place (codes " " ++ register_name m r ++ codes " := ") (value_text m v) tail _ _ _
      (then grammar place (codes " " ++ register_name m r) (codes " := ") (value_text m v ++ tail) _ _ _
      (then grammar place (codes " ") (register_name m r) (codes " := " ++ (value_text m v ++ tail)) _ _ _
      (space grammar place (register_name m r ++ (codes " := " ++ (value_text m v ++ tail))) _)
      (word grammar (fold advance place (codes " ")) (register_name m r) (codes " := " ++ (value_text m v ++ tail)) _ _ known.plain.word refl (written_next x done tests b rest (register_name m r) r (fold advance place (codes " ")) known)))
      (record { tokens = at kind.Sign (codes ":=") (advance (fold advance place (codes " " ++ register_name m r)) 32) ∷ []; lexed = refl; runs = refl }))
      (value_read x done tests (act.Set r (amount.Number 0)) rest v (fold advance place (codes " " ++ register_name m r ++ codes " := ")) tail (and_right _ _ there) small apart)
  act_read x done tests b rest (act.Enq q id v) place tail there small apart =
      let known = queue_known m good q (and_left _ _ there) in
      let after_queue : Text = codes " " ++ (decimal id.0 ++ (codes " " ++ (value_text m v ++ tail))) in
      then grammar place (codes " enq " ++ queue_name m q ++ codes " " ++ decimal id.0 ++ codes " ") (value_text m v) tail _ _ _
      (then grammar place (codes " enq " ++ queue_name m q ++ codes " " ++ decimal id.0) (codes " ") (value_text m v ++ tail) _ _ _
      (then grammar place (codes " enq " ++ queue_name m q ++ codes " ") (decimal id.0) (codes " " ++ (value_text m v ++ tail)) _ _ _
      (then grammar place (codes " enq " ++ queue_name m q) (codes " ") (decimal id.0 ++ (codes " " ++ (value_text m v ++ tail))) _ _ _
      (then grammar place (codes " enq ") (queue_name m q) (codes " " ++ (decimal id.0 ++ (codes " " ++ (value_text m v ++ tail)))) _ _ _
      (then grammar place (codes " enq") (codes " ") (queue_name m q ++ after_queue) _ _ _
      (then grammar place (codes " ") (codes "enq") (codes " " ++ (queue_name m q ++ after_queue)) _ _ _
      (space grammar place (codes "enq" ++ (codes " " ++ (queue_name m q ++ after_queue))) _)
      (word grammar (fold advance place (codes " ")) (codes "enq") (codes " " ++ (queue_name m q ++ after_queue)) _ _ refl refl (enq_next x done tests b rest (fold advance place (codes " ")))))
      (space grammar _ (queue_name m q ++ after_queue) _))
      (word grammar (fold advance place (codes " enq ")) (queue_name m q) after_queue _ _ known.plain.word refl (gaining_next x done tests (symbol.One the.SentId ∷ symbol.Item item.Value ∷ rest) (queue_name m q) q (fold advance place (codes " enq ")) known)))
      (space grammar _ (decimal id.0 ++ (codes " " ++ (value_text m v ++ tail))) _))
      (number grammar (fold advance place (codes " enq " ++ queue_name m q ++ codes " ")) id.0 (codes " " ++ (value_text m v ++ tail)) _ _ (id_small id.0 (and_left _ _ small)) refl (sent_next x done tests q (symbol.Item item.Value ∷ rest) id.0 (fold advance place (codes " enq " ++ queue_name m q ++ codes " ")) (and_left _ _ small))))
      (space grammar _ (value_text m v ++ tail) _))
      (value_read x done tests (act.Enq q id (amount.Number 0)) rest v (fold advance place (codes " enq " ++ queue_name m q ++ codes " " ++ decimal id.0 ++ codes " ")) tail (and_right _ _ there) (and_right _ _ small) apart)

  abbrev and_text : ModAtom → Text
  and_text a = codes " and " ++ test_text m a

  apart_ands : (ts : List ModAtom) (tail : Text) → is_apart tail ≡ true → is_apart (flat_map and_text ts ++ tail) ≡ true
  apart_ands [] tail apart = apart
  apart_ands (a ∷ ts) tail apart = refl

  ands_read : (x : ModRule) (done : List Action) (tests ts : List ModAtom) (rest : Stack) (place : Place) (tail : Text) → list_all (has_atom (counts_of m)) ts ≡ true → list_all fits_test ts ≡ true → is_apart tail ≡ true
      → Leads grammar place (flat_map and_text ts) tail (state (inside x done tests None) (before_act true rest)) (state (inside x done (tests ++ ts) None) (before_act true rest))
  ands_read x done tests [] rest place tail there small apart =
      subst (λ (l : List ModAtom). Leads grammar place [] tail (state (inside x done tests None) (before_act true rest)) (state (inside x done l None) (before_act true rest)))
      (sym (append-nil tests)) (nothing grammar place tail _)
  ands_read x done tests (a ∷ ts) rest place tail there small apart =
      subst (λ (l : List ModAtom). Leads grammar place (flat_map and_text (a ∷ ts)) tail (state (inside x done tests None) (before_act true rest)) (state (inside x done l None) (before_act true rest)))
      (append_assoc tests (a ∷ []) ts)
      (then grammar place (and_text a) (flat_map and_text ts) tail _ _ _
      (then grammar place (codes " and ") (test_text m a) (flat_map and_text ts ++ tail) _ _ _
      (record { tokens = at kind.Word (codes "and") (advance place 32) ∷ []; lexed = refl; runs = refl })
      (test_read m good rules keys test.Condition (record x { actions = done }) tests (before_act true rest) a (fold advance place (codes " and ")) (flat_map and_text ts ++ tail) (and_left _ _ there) (and_left _ _ small) (apart_ands ts tail apart)))
      (ands_read x done (tests ++ a ∷ []) ts rest (fold advance place (and_text a)) tail (and_right _ _ there) (and_right _ _ small) apart))

  apart_act : (a : Act) (tail : Text) → is_apart (act_text m a ++ tail) ≡ true
  apart_act (act.Deq q) tail = refl
  apart_act (act.Set r v) tail = refl
  apart_act (act.Enq q id v) tail = refl

  apart_action : (ts : List ModAtom) (a : Act) (tail : Text) → is_apart (action_text m (record { cond = ts; act = a }) ++ tail) ≡ true
  apart_action [] a tail = apart_act a tail
  apart_action (t ∷ ts) a tail = refl

  action_read : (x : ModRule) (done : List Action) (ts : List ModAtom) (a : Act) (rest : Stack) (place : Place) (tail : Text) → has_action (counts_of m) (record { cond = ts; act = a }) ≡ true → fits_action (record { cond = ts; act = a }) ≡ true → is_apart tail ≡ true
      → Leads grammar place (action_text m (record { cond = ts; act = a })) tail (state (with x done) (symbol.Item item.Action ∷ rest)) (state (with x (done ++ record { cond = ts; act = a } ∷ [])) rest)
  action_read x done [] a rest place tail there small apart = act_read x done [] false rest a place tail there small apart
  action_read x done (t ∷ ts) a rest place tail there small apart =
      let here = and_left _ _ there in
      let fit = and_left _ _ small in
      let after_tests : Text = act_text m a ++ tail in
      then grammar place (codes " if " ++ test_text m t ++ flat_map and_text ts) (act_text m a) tail _ _ _
      (then grammar place (codes " if " ++ test_text m t) (flat_map and_text ts) after_tests _ _ _
      (then grammar place (codes " if ") (test_text m t) (flat_map and_text ts ++ after_tests) _ _ _
      (record { tokens = at kind.Word (codes "if") (advance place 32) ∷ []; lexed = refl; runs = refl })
      (test_read m good rules keys test.Condition (record x { actions = done }) [] (before_act true rest) t (fold advance place (codes " if ")) (flat_map and_text ts ++ after_tests) (and_left _ _ here) (and_left _ _ fit) (apart_ands ts after_tests (apart_act a tail))))
      (ands_read x done (t ∷ []) ts rest (fold advance place (codes " if " ++ test_text m t)) after_tests (and_right _ _ here) (and_right _ _ fit) (apart_act a tail)))
      (act_read x done (t ∷ ts) true rest a (fold advance place (codes " if " ++ test_text m t ++ flat_map and_text ts)) tail (and_right _ _ there) (and_right _ _ small) apart)

  abbrev comma_text : Action → Text
  comma_text a = codes "," ++ action_text m a

  apart_commas : (actions : List Action) (tail : Text) → is_apart tail ≡ true → is_apart (flat_map comma_text actions ++ tail) ≡ true
  apart_commas [] tail apart = apart
  apart_commas (a ∷ more) tail apart = refl

  more_read : (x : ModRule) (done more : List Action) (rest : Stack) (place : Place) (tail : Text) → list_all (has_action (counts_of m)) more ≡ true → list_all fits_action more ≡ true → is_apart tail ≡ true
      → Leads grammar place (flat_map comma_text more) tail (state (with x done) (symbol.Many item.NextAction ∷ rest)) (state (with x (done ++ more)) (symbol.Many item.NextAction ∷ rest))
  more_read x done [] rest place tail there small apart =
      subst (λ (l : List Action). Leads grammar place [] tail (state (with x done) (symbol.Many item.NextAction ∷ rest)) (state (with x l) (symbol.Many item.NextAction ∷ rest)))
      (sym (append-nil done)) (nothing grammar place tail _)
  more_read x done (a ∷ more) rest place tail there small apart =
      subst (λ (l : List Action). Leads grammar place (flat_map comma_text (a ∷ more)) tail (state (with x done) (symbol.Many item.NextAction ∷ rest)) (state (with x l) (symbol.Many item.NextAction ∷ rest)))
      (append_assoc done (a ∷ []) more)
      (then grammar place (comma_text a) (flat_map comma_text more) tail _ _ _
      (then grammar place (codes ",") (action_text m a) (flat_map comma_text more ++ tail) _ _ _
      (comma grammar place (action_text m a ++ (flat_map comma_text more ++ tail)) _ _ refl)
      (action_read x done a.cond a.act (symbol.Many item.NextAction ∷ rest) (fold advance place (codes ",")) (flat_map comma_text more ++ tail) (and_left _ _ there) (and_left _ _ small) (apart_commas more tail apart)))
      (more_read x (done ++ a ∷ []) more rest (fold advance place (comma_text a)) tail (and_right _ _ there) (and_right _ _ small) apart))

  -- what is to come after the actions, where this came before them
  abbrev pub after_actions : Stack → List Action → Stack → Stack
  after_actions before [] rest = before
  after_actions before (a ∷ more) rest = symbol.Many item.NextAction ∷ rest

  -- the actions of a rule lead to what they say
  pub actions_read : (x : ModRule) (before : Stack) (actions : List Action) (rest : Stack) (place : Place) (tail : Text) → list_all (has_action (counts_of m)) actions ≡ true → list_all fits_action actions ≡ true → is_apart tail ≡ true
      → ((at_place : Place) → next full grammar (state (with x []) before) (at kind.Word (codes "do") at_place) ≡ Some (state (with x []) (symbol.Item item.Action ∷ symbol.Many item.NextAction ∷ rest)))
      → Leads grammar place (actions_text m actions) tail (state (with x []) before) (state (with x actions) (after_actions before actions rest))
  actions_read x before [] rest place tail there small apart do_next = nothing grammar place tail _
  actions_read x before (a ∷ more) rest place tail there small apart do_next =
      let after_first : Text = flat_map comma_text more ++ tail in
      then grammar place (codes " do" ++ action_text m a) (flat_map comma_text more) tail _ _ _
      (then grammar place (codes " do") (action_text m a) after_first _ _ _
      (then grammar place (codes " ") (codes "do") (action_text m a ++ after_first) _ _ _
      (space grammar place (codes "do" ++ (action_text m a ++ after_first)) _)
      (word grammar (fold advance place (codes " ")) (codes "do") (action_text m a ++ after_first) _ _ refl (apart_action a.cond a.act after_first) (do_next (fold advance place (codes " ")))))
      (action_read x [] a.cond a.act (symbol.Many item.NextAction ∷ rest) (fold advance place (codes " do")) after_first (and_left _ _ there) (and_left _ _ small) (apart_commas more tail apart)))
      (more_read x (a ∷ []) more rest (fold advance place (codes " do" ++ action_text m a)) tail (and_right _ _ there) (and_right _ _ small) apart)
