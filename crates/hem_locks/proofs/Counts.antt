-- How many messages stand in a list after one was taken and one was sent.
use Rattle.std.proofs.Common.{◌≡◌, refl, ◌∙◌, ℕ, suc, ◌+◌, ◌≤◌, Bool, true, false, ◌&&◌, cond, List, [], ◌∷◌, ◌++◌, drop, length, arith, Option, Some, None}
use Rattle.std.specs.Prelude.{filter, slice_get}
use Rattle.std.specs.List.{list_all}
use Rattle.std.specs.Option.{option_map_or}
use Rattle.std.proofs.lemmas.List.{length-append, append-nil}
use Rattle.std.proofs.lemmas.List.Elements.{filter-append}
use Rattle.std.proofs.lemmas.List.Folds.{list_all-append}
use Rattle.hem_base.specs.declared.ids.Message.{Message}
use Rattle.hem_syntax.specs.declared.rule.Class.{Class}
use Rattle.hem_syntax.specs.declared.rule.Class.TheVariants.{ExtReq, ExtRsp, UpReq, UpRsp, DownReq, DownRsp}
use Rattle.hem_syntax.specs.Protocol.{Protocol, class_of, is_down_req, is_down_rsp}
use Rattle.hem_rows.specs.Acts.{IsThere, is_down_request, is_down_response}
use Rattle.hem_locks.specs.Edges.{one_if, count, responses_first}
use Rattle.hem_rows.proofs.Choices.{both}

-- a list after a firing that takes its head or doesn't, and sends to it or doesn't
abbrev pub changed : Bool → Bool → Message → List Message → List Message
changed takes sends m ms = drop (cond takes 1 0) ms ++ cond sends (m ∷ []) []

-- 1 where the head that is taken passes a test
abbrev pub head_counts : (Message → Bool) → Bool → List Message → ℕ
head_counts test takes ms = cond takes (option_map_or (λ m. one_if (test m)) (slice_get ms 0) 0) 0

pub count-append : (test : Message → Bool) (xs ys : List Message) → count test (xs ++ ys) ≡ count test xs + count test ys
count-append test xs ys = rw (filter-append test xs ys) (length-append (filter test xs) (filter test ys))

count-one : (test : Message → Bool) (sends : Bool) (m : Message) → count test (cond sends (m ∷ []) []) ≡ cond sends (one_if (test m)) 0
count-one test false m = refl
count-one test true m = by_test (test m)
  where
    by_test : (b : Bool) → length (cond b (m ∷ []) []) ≡ one_if b
    by_test true = refl
    by_test false = refl

pub count-cons : (test : Message → Bool) (m : Message) (ms : List Message) → count test (m ∷ ms) ≡ one_if (test m) + count test ms
count-cons test m ms = by_test (test m)
  where
    by_test : (b : Bool) → length (cond b (m ∷ filter test ms) (filter test ms)) ≡ one_if b + count test ms
    by_test true = omega arith
    by_test false = omega arith

count-drop : (test : Message → Bool) (takes : Bool) (ms : List Message) → count test (drop (cond takes 1 0) ms) + head_counts test takes ms ≡ count test ms
count-drop test false ms = omega arith
count-drop test true [] = refl
count-drop test true (m ∷ ms) = omega (arith, count-cons test m ms)

-- the messages that pass a test, after a firing
pub count-changed : (test : Message → Bool) (takes sends : Bool) (m : Message) (ms : List Message) → count test (changed takes sends m ms) + head_counts test takes ms ≡ count test ms + cond sends (one_if (test m)) 0
count-changed test takes sends m ms = omega (arith, count-append test (drop (cond takes 1 0) ms) (cond sends (m ∷ []) []), count-one test sends m, count-drop test takes ms)

-- the length of a list after a firing
pub length-changed : (takes sends : Bool) (m : Message) (ms : List Message) → (takes ≡ true → IsThere (slice_get ms 0)) → length (changed takes sends m ms) + one_if takes ≡ length ms + one_if sends
length-changed takes sends m ms there = omega (arith, length-append (drop (cond takes 1 0) ms) (cond sends (m ∷ []) []), one sends, rest takes ms there)
  where
    one : (sends : Bool) → length (cond sends (m ∷ []) []) ≡ one_if sends
    one true = refl
    one false = refl

    rest : (takes : Bool) (ms : List Message) → (takes ≡ true → IsThere (slice_get ms 0)) → length (drop (cond takes 1 0) ms) + one_if takes ≡ length ms
    rest false ms there = omega arith
    rest true [] there = let none = (there refl).1 in cc
    rest true (x ∷ ms) there = omega arith

-- no message is both a response and a request
pub not_both : (p : Protocol) (m : Message) → one_if (is_down_response p m) + one_if (is_down_request p m) ≤ 1
not_both p m = by_class (class_of p m.id)
  where
    by_class : (c : Option Class) → one_if (option_map_or is_down_rsp c false) + one_if (option_map_or is_down_req c false) ≤ 1
    by_class None = omega arith
    by_class (Some ExtReq) = omega arith
    by_class (Some ExtRsp) = omega arith
    by_class (Some UpReq) = omega arith
    by_class (Some UpRsp) = omega arith
    by_class (Some DownReq) = omega arith
    by_class (Some DownRsp) = omega arith

-- requests alone have responses first
all_requests : (p : Protocol) (ms : List Message) → list_all (is_down_request p) ms ≡ true → responses_first p ms ≡ true
all_requests p [] all = refl
all_requests p (m ∷ ms) all = by_test (is_down_response p m) (all_requests p ms (both (is_down_request p m) (list_all (is_down_request p) ms) all).1)
  where
    by_test : (b : Bool) → responses_first p ms ≡ true → cond b (responses_first p ms) (is_down_request p m && list_all (is_down_request p) ms) ≡ true
    by_test true rest = rest
    by_test false rest = all

order-drop : (p : Protocol) (takes : Bool) (ms : List Message) → responses_first p ms ≡ true → responses_first p (drop (cond takes 1 0) ms) ≡ true
order-drop p false ms order = order
order-drop p true [] order = refl
order-drop p true (m ∷ ms) order = by_test (is_down_response p m) order
  where
    by_test : (b : Bool) → cond b (responses_first p ms) (is_down_request p m && list_all (is_down_request p) ms) ≡ true → responses_first p ms ≡ true
    by_test true order = order
    by_test false order = all_requests p ms (both (is_down_request p m) (list_all (is_down_request p) ms) order).1

-- a request behind what has responses first
order-request : (p : Protocol) (m : Message) (ms : List Message) → is_down_request p m ≡ true → responses_first p ms ≡ true → responses_first p (ms ++ m ∷ []) ≡ true
order-request p m [] asks order = all_requests p (m ∷ []) (rw asks refl)
order-request p m (x ∷ ms) asks order = by_test (is_down_response p x) order (λ rest. order-request p m ms asks rest)
  where
    by_test : (b : Bool) → cond b (responses_first p ms) (list_all (is_down_request p) (x ∷ ms)) ≡ true → (responses_first p ms ≡ true → responses_first p (ms ++ m ∷ []) ≡ true) → cond b (responses_first p (ms ++ m ∷ [])) (list_all (is_down_request p) (x ∷ ms ++ m ∷ [])) ≡ true
    by_test true order rest = rest order
    by_test false order rest = list_all-append (is_down_request p) (x ∷ ms) (m ∷ []) ∙ (rw (order, asks) refl)

-- a response behind responses
order-response : (p : Protocol) (m : Message) (ms : List Message) → is_down_response p m ≡ true → count (is_down_request p) ms ≡ 0 → responses_first p ms ≡ true → responses_first p (ms ++ m ∷ []) ≡ true
order-response p m [] answers none order = rw answers refl
order-response p m (x ∷ ms) answers none order = by_test (is_down_response p x) order (λ rest. order-response p m ms answers (omega (arith, count-cons (is_down_request p) x ms)) rest)
  where
    by_test : (b : Bool) → cond b (responses_first p ms) (list_all (is_down_request p) (x ∷ ms)) ≡ true → (responses_first p ms ≡ true → responses_first p (ms ++ m ∷ []) ≡ true) → cond b (responses_first p (ms ++ m ∷ [])) (list_all (is_down_request p) (x ∷ ms ++ m ∷ [])) ≡ true
    by_test true order rest = rest order
    by_test false order rest =
        let asks : is_down_request p x ≡ true = (both (is_down_request p x) (list_all (is_down_request p) ms) order).0 in
        let one : one_if (is_down_request p x) ≡ 1 = rw asks refl in
        absurd (omega (arith, one, none, count-cons (is_down_request p) x ms))

-- responses stay first where what is sent is a request, or a response behind no request
pub order-changed : (p : Protocol) (takes sends : Bool) (m : Message) (ms : List Message) → cond sends (one_if (is_down_response p m)) 0 + cond sends (one_if (is_down_request p m)) 0 ≡ one_if sends → cond sends (one_if (is_down_response p m)) 0 + count (is_down_request p) ms ≤ 1 → responses_first p ms ≡ true → responses_first p (changed takes sends m ms) ≡ true
order-changed p takes false m ms known behind order = rw append-nil (order-drop p takes ms order)
order-changed p takes true m ms known behind order = by_class (is_down_response p m) (is_down_request p m) refl refl known behind
  where
    left : List Message
    left = drop (cond takes 1 0) ms

    rest : responses_first p left ≡ true
    rest = order-drop p takes ms order

    by_class : (answers asks : Bool) → is_down_response p m ≡ answers → is_down_request p m ≡ asks → one_if answers + one_if asks ≡ 1 → one_if answers + count (is_down_request p) ms ≤ 1 → responses_first p (left ++ m ∷ []) ≡ true
    by_class true asks is is_request known behind = order-response p m left is (omega (arith, count-drop (is_down_request p) takes ms)) rest
    by_class false true is is_request known behind = order-request p m left is_request rest
    by_class false false is is_request known behind = absurd (omega arith)

-- the length of a list of responses and requests
pub length-classes : (p : Protocol) (ms : List Message) → responses_first p ms ≡ true → length ms ≡ count (is_down_response p) ms + count (is_down_request p) ms
length-classes p [] order = refl
length-classes p (m ∷ ms) order = by_test (is_down_response p m) refl order (λ rest. length-classes p ms rest)
  where
    sizes : ℕ × ℕ
    sizes = (count (is_down_response p) (m ∷ ms), count (is_down_request p) (m ∷ ms))

    by_test : (b : Bool) → is_down_response p m ≡ b → cond b (responses_first p ms) (list_all (is_down_request p) (m ∷ ms)) ≡ true → (responses_first p ms ≡ true → length ms ≡ count (is_down_response p) ms + count (is_down_request p) ms) → suc (length ms) ≡ count (is_down_response p) (m ∷ ms) + count (is_down_request p) (m ∷ ms)
    by_test true is order rest =
        let answers : one_if (is_down_response p m) ≡ 1 = rw is refl in
        omega (arith, answers, rest order, not_both p m, count-cons (is_down_response p) m ms, count-cons (is_down_request p) m ms)
    by_test false is order rest =
        let parts = both (is_down_request p m) (list_all (is_down_request p) ms) order in
        let answers : one_if (is_down_response p m) ≡ 0 = rw is refl in
        let asks : one_if (is_down_request p m) ≡ 1 = rw parts.0 refl in
        omega (arith, answers, asks, rest (all_requests p ms parts.1), count-cons (is_down_response p) m ms, count-cons (is_down_request p) m ms)

-- behind a request there is no response
pub request_first : (p : Protocol) (m : Message) (ms : List Message) → is_down_request p m ≡ true → responses_first p (m ∷ ms) ≡ true → count (is_down_response p) (m ∷ ms) ≡ 0
request_first p m ms asks order = by_test (is_down_response p m) refl order
  where
    none : (ms : List Message) → list_all (is_down_request p) ms ≡ true → count (is_down_response p) ms ≡ 0
    none [] all = refl
    none (x ∷ ms) all =
        let parts = both (is_down_request p x) (list_all (is_down_request p) ms) all in
        let one : one_if (is_down_request p x) ≡ 1 = rw parts.0 refl in
        omega (arith, one, not_both p x, count-cons (is_down_response p) x ms, none ms parts.1)

    by_test : (b : Bool) → is_down_response p m ≡ b → cond b (responses_first p ms) (list_all (is_down_request p) (m ∷ ms)) ≡ true → count (is_down_response p) (m ∷ ms) ≡ 0
    by_test true is order =
        let one : one_if (is_down_request p m) ≡ 1 = rw asks refl in
        let answers : one_if (is_down_response p m) ≡ 1 = rw is refl in
        absurd (omega (arith, one, answers, not_both p m))
    by_test false is order = none (m ∷ ms) order
