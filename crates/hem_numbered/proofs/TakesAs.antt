-- What a firing takes, as its own transaction sees it.
use Rattle.std.proofs.Common.{◌≡◌, ◌≢◌, ℕ, ◌≤◌, Bool, true, false, not, cond, ◌&&◌, length, drop, refl, sym, ap, ◌∙◌, subst, arith, Some, None, ⊎_elim, ◌⊎◌}
use Rattle.std.specs.Prelude.{◌==◌, slice_get}
use Rattle.std.specs.Option.{option_map_or}
use Rattle.std.proofs.lemmas.Nat.Bits.{bit_at-zero}
use Rattle.hem_base.specs.Sets.{has_bit}
use Rattle.hem_base.specs.declared.ids.Message.{Message}
use Rattle.hem_base.specs.declared.ids.Firing.{Firing}
use Rattle.hem_base.specs.declared.ids.ObjectId.{ObjectId}
use Rattle.hem_syntax.specs.Protocol.{Protocol}
use Rattle.hem_object.specs.Local.{nobody}
use Rattle.hem_tree.specs.Tree.{Tree, is_child, place_among}
use Rattle.hem_fire.specs.declared.outs.Outs.{Outs}
use Rattle.hem_system.specs.declared.lane.Lane.{Lane}
use Rattle.hem_system.specs.declared.lane.Lane.TheVariants.{UpRequests, UpResponses, Down}
use Rattle.hem_system.specs.State.{Line, list_at, takes}
use Rattle.hem_rows.specs.Acts.{is_down_request, is_down_response}
use Rattle.hem_shape.specs.Progress.{Asker, child, processor, parent, itself, set_at}
use Rattle.hem_shape.specs.Move.{Taking, request, parent_answer, child_answers, taken}
use Rattle.hem_shape.proofs.Spots.{same_or_other, set_here, set_there}
use Rattle.hem_numbered.specs.Numbers.{Numbers, carries, is_any, progress_of, downlock_at}
use Rattle.hem_numbered.specs.Bounds.{AreBounded, count, awaits}
use Rattle.hem_locks.proofs.Places.{and_false, and_true}
use Rattle.hem_numbered.proofs.Carried.{carries_none, carries_gone, carries_passed, carries_short, count_any}

-- whether what a firing leaves of a list carries n
abbrev pub left : (Message → Bool) → Tree → Firing → Outs → Line → Numbers → ℕ → Lane → ℕ → Bool
left test tree f outs line numbers n lane k =
    carries test n (drop (cond (takes tree f outs k lane) 1 0) (list_at line k lane)) (drop (cond (takes tree f outs k lane) 1 0) (numbers.lists k lane))

-- what a firing leaves of the lists, as its own transaction sees it
pub record TakesAs (p : Protocol) (tree : Tree) (f : Firing) (outs : Outs) (line : Line) (numbers : Numbers) (n : ℕ) (asker : Asker) (takes : Taking) : Type 0 where
  pub asks_up : (k : ℕ) → left is_any tree f outs line numbers n UpRequests k ≡ (taken tree f.object.0 asker takes (progress_of p tree line numbers n)).asks_up k
  pub answers_up : (k : ℕ) → left is_any tree f outs line numbers n UpResponses k ≡ (taken tree f.object.0 asker takes (progress_of p tree line numbers n)).answers_up k
  pub asks_down : (k : ℕ) → left (is_down_request p) tree f outs line numbers n Down k ≡ (taken tree f.object.0 asker takes (progress_of p tree line numbers n)).asks_down k
  pub answers_down : (k : ℕ) → left (is_down_response p) tree f outs line numbers n Down k ≡ (taken tree f.object.0 asker takes (progress_of p tree line numbers n)).answers_down k

-- a list that isn't taken from
left_all : (test : Message → Bool) (tree : Tree) (f : Firing) (outs : Outs) (line : Line) (numbers : Numbers) (n : ℕ) (lane : Lane) (k : ℕ) → takes tree f outs k lane ≡ false → left test tree f outs line numbers n lane k ≡ carries test n (list_at line k lane) (numbers.lists k lane)
left_all test tree f outs line numbers n lane k not_taken = ap (λ b. carries test n (drop (cond b 1 0) (list_at line k lane)) (drop (cond b 1 0) (numbers.lists k lane))) not_taken

-- a list that is taken from
left_one : (test : Message → Bool) (tree : Tree) (f : Firing) (outs : Outs) (line : Line) (numbers : Numbers) (n : ℕ) (lane : Lane) (k : ℕ) → takes tree f outs k lane ≡ true → left test tree f outs line numbers n lane k ≡ carries test n (drop 1 (list_at line k lane)) (drop 1 (numbers.lists k lane))
left_one test tree f outs line numbers n lane k is_taken = ap (λ b. carries test n (drop (cond b 1 0) (list_at line k lane)) (drop (cond b 1 0) (numbers.lists k lane))) is_taken

pub no_bits : (i : ℕ) → has_bit 0 i ≡ false
no_bits i = ap (λ b. b == 1) (bit_at-zero i)

-- which lists are not taken from
pub no_child : (tree : Tree) (f : Firing) (outs : Outs) (k : ℕ) → outs.taken_request ≡ false → takes tree f outs k UpRequests ≡ false
no_child tree f outs k none = ap (λ b. b && option_map_or (λ child. child.0 == k) f.me false && is_child tree k f.object.0) none

pub no_named_child : (tree : Tree) (f : Firing) (outs : Outs) (k : ℕ) → f.me ≡ None → takes tree f outs k UpRequests ≡ false
no_named_child tree f outs k none =
    ap (λ me. outs.taken_request && option_map_or (λ child. child.0 == k) me false && is_child tree k f.object.0) none
    ∙ ap (λ b. b && is_child tree k f.object.0) (and_false outs.taken_request)

pub no_parent : (tree : Tree) (f : Firing) (outs : Outs) (k : ℕ) → outs.taken_parent ≡ false → takes tree f outs k Down ≡ false
no_parent tree f outs k none = ap (λ b. b && k == f.object.0) none

pub no_children : (tree : Tree) (f : Firing) (outs : Outs) (k : ℕ) → outs.taken_kids ≡ nobody → takes tree f outs k UpResponses ≡ false
no_children tree f outs k none =
    ap (λ kids. is_child tree k f.object.0 && has_bit kids.0 (place_among tree f.object.0 k)) none
    ∙ ap (λ b. is_child tree k f.object.0 && b) (no_bits (place_among tree f.object.0 k))
    ∙ and_false (is_child tree k f.object.0)

-- of the parent's list
pub parent_here : (tree : Tree) (f : Firing) (outs : Outs) (k : ℕ) → outs.taken_parent ≡ true → k ≡ f.object.0 → takes tree f outs k Down ≡ true
parent_here tree f outs k there same = ap (λ b. b && k == f.object.0) there ∙ (let is : (k == f.object.0) ≡ true = grind arith in is)

pub parent_elsewhere : (tree : Tree) (f : Firing) (outs : Outs) (k : ℕ) → k ≢ f.object.0 → takes tree f outs k Down ≡ false
parent_elsewhere tree f outs k other = ap (λ b. outs.taken_parent && b) (let is : (k == f.object.0) ≡ false = grind arith in is) ∙ and_false outs.taken_parent

-- of a child's list
pub child_here : (tree : Tree) (f : Firing) (outs : Outs) (c : ObjectId) (k : ℕ) → outs.taken_request ≡ true → f.me ≡ Some c → is_child tree c.0 f.object.0 ≡ true → k ≡ c.0 → takes tree f outs k UpRequests ≡ true
child_here tree f outs c k there named own same =
    ap (λ b. b && option_map_or (λ child. child.0 == k) f.me false && is_child tree k f.object.0) there
    ∙ ap (λ me. option_map_or (λ child. child.0 == k) me false && is_child tree k f.object.0) named
    ∙ ap (λ b. b && is_child tree k f.object.0) (let is : (c.0 == k) ≡ true = grind arith in is)
    ∙ ap (λ k. is_child tree k f.object.0) same ∙ own

child_elsewhere : (tree : Tree) (f : Firing) (outs : Outs) (c : ObjectId) (k : ℕ) → f.me ≡ Some c → k ≢ c.0 → takes tree f outs k UpRequests ≡ false
child_elsewhere tree f outs c k named other =
    ap (λ me. outs.taken_request && option_map_or (λ child. child.0 == k) me false && is_child tree k f.object.0) named
    ∙ ap (λ b. outs.taken_request && b && is_child tree k f.object.0) (let is : (c.0 == k) ≡ false = grind arith in is)
    ∙ ap (λ b. b && is_child tree k f.object.0) (and_false outs.taken_request)

-- nothing is taken but perhaps a processor's request
pub nothing_as : (p : Protocol) (tree : Tree) (f : Firing) (outs : Outs) (line : Line) (numbers : Numbers) (n : ℕ) (asker : Asker) → (asker ≡ processor) ⊎ (asker ≡ itself) → ((k : ℕ) → takes tree f outs k UpRequests ≡ false) → outs.taken_parent ≡ false → outs.taken_kids ≡ nobody → TakesAs p tree f outs line numbers n asker request
nothing_as p tree f outs line numbers n asker which me above kids =
    ⊎_elim (λ is. subst (λ a. TakesAs p tree f outs line numbers n a request) (sym is) (by_processor tt)) (λ is. subst (λ a. TakesAs p tree f outs line numbers n a request) (sym is) (by_itself tt)) which
  where
    by_processor : Unit {0} → TakesAs p tree f outs line numbers n processor request
    by_processor u =
        record {
          asks_up = λ k. left_all is_any tree f outs line numbers n UpRequests k (me k);
          answers_up = λ k. left_all is_any tree f outs line numbers n UpResponses k (no_children tree f outs k kids);
          asks_down = λ k. left_all (is_down_request p) tree f outs line numbers n Down k (no_parent tree f outs k above);
          answers_down = λ k. left_all (is_down_response p) tree f outs line numbers n Down k (no_parent tree f outs k above);
        }

    by_itself : Unit {0} → TakesAs p tree f outs line numbers n itself request
    by_itself u =
        record {
          asks_up = λ k. left_all is_any tree f outs line numbers n UpRequests k (me k);
          answers_up = λ k. left_all is_any tree f outs line numbers n UpResponses k (no_children tree f outs k kids);
          asks_down = λ k. left_all (is_down_request p) tree f outs line numbers n Down k (no_parent tree f outs k above);
          answers_down = λ k. left_all (is_down_response p) tree f outs line numbers n Down k (no_parent tree f outs k above);
        }

-- a child's request is taken
pub child_as : (p : Protocol) (tree : Tree) (f : Firing) (outs : Outs) (line : Line) (numbers : Numbers) (n : ℕ) (c : ObjectId) → AreBounded p tree line → outs.taken_request ≡ true → f.me ≡ Some c → is_child tree c.0 f.object.0 ≡ true → outs.taken_parent ≡ false → outs.taken_kids ≡ nobody → TakesAs p tree f outs line numbers n (child c.0) request
child_as p tree f outs line numbers n c bounded me named own above kids =
    record {
      asks_up = λ k. ⊎_elim
          (λ same. left_one is_any tree f outs line numbers n UpRequests k (child_here tree f outs c k me named own same)
          ∙ carries_short is_any n (list_at line k UpRequests) (drop 1 (numbers.lists k UpRequests)) (let most = bounded.one k f.object.0 (ap (λ k. is_child tree k f.object.0) same ∙ own) in omega (arith, most))
          ∙ sym (set_here c.0 false (progress_of p tree line numbers n).asks_up k same))
          (λ other. left_all is_any tree f outs line numbers n UpRequests k (child_elsewhere tree f outs c k named other) ∙ sym (set_there c.0 false (progress_of p tree line numbers n).asks_up k other))
          (same_or_other k c.0);
      answers_up = λ k. left_all is_any tree f outs line numbers n UpResponses k (no_children tree f outs k kids);
      asks_down = λ k. left_all (is_down_request p) tree f outs line numbers n Down k (no_parent tree f outs k above);
      answers_down = λ k. left_all (is_down_response p) tree f outs line numbers n Down k (no_parent tree f outs k above);
    }

-- the parent's list after its first message is taken: of the messages like it none is left, of the others all
taken_down : (test : Message → Bool) (tree : Tree) (f : Firing) (outs : Outs) (line : Line) (numbers : Numbers) (n : ℕ) (m : Message) (k : ℕ) → outs.taken_parent ≡ true → slice_get (list_at line f.object.0 Down) 0 ≡ Some m → test m ≡ true → count test (list_at line f.object.0 Down) ≤ 1 → left test tree f outs line numbers n Down k ≡ set_at f.object.0 false (λ k. carries test n (list_at line k Down) (numbers.lists k Down)) k
taken_down test tree f outs line numbers n m k above there is most =
    ⊎_elim
    (λ same. left_one test tree f outs line numbers n Down k (parent_here tree f outs k above same)
    ∙ carries_gone test n (list_at line k Down) (numbers.lists k Down) m (subst (λ k. count test (list_at line k Down) ≤ 1) (sym same) most) (ap (λ k. slice_get (list_at line k Down) 0) same ∙ there) is
    ∙ sym (set_here f.object.0 false (λ k. carries test n (list_at line k Down) (numbers.lists k Down)) k same))
    (λ other. left_all test tree f outs line numbers n Down k (parent_elsewhere tree f outs k other) ∙ sym (set_there f.object.0 false (λ k. carries test n (list_at line k Down) (numbers.lists k Down)) k other))
    (same_or_other k f.object.0)

passed_down : (test : Message → Bool) (tree : Tree) (f : Firing) (outs : Outs) (line : Line) (numbers : Numbers) (n : ℕ) (m : Message) (k : ℕ) → length (numbers.lists f.object.0 Down) ≡ length (list_at line f.object.0 Down) → outs.taken_parent ≡ true → slice_get (list_at line f.object.0 Down) 0 ≡ Some m → test m ≡ false → left test tree f outs line numbers n Down k ≡ carries test n (list_at line k Down) (numbers.lists k Down)
passed_down test tree f outs line numbers n m k even above there is =
    ⊎_elim
    (λ same. left_one test tree f outs line numbers n Down k (parent_here tree f outs k above same)
    ∙ carries_passed test n (list_at line k Down) (numbers.lists k Down) m (subst (λ k. length (numbers.lists k Down) ≡ length (list_at line k Down)) (sym same) even) (ap (λ k. slice_get (list_at line k Down) 0) same ∙ there) is)
    (λ other. left_all test tree f outs line numbers n Down k (parent_elsewhere tree f outs k other))
    (same_or_other k f.object.0)

-- the parent's request is taken
pub parent_as : (p : Protocol) (tree : Tree) (f : Firing) (outs : Outs) (line : Line) (numbers : Numbers) (n : ℕ) (m : Message) → count (is_down_request p) (list_at line f.object.0 Down) ≤ 1 → length (numbers.lists f.object.0 Down) ≡ length (list_at line f.object.0 Down) → outs.taken_request ≡ false → outs.taken_parent ≡ true → outs.taken_kids ≡ nobody → slice_get (list_at line f.object.0 Down) 0 ≡ Some m → is_down_request p m ≡ true → is_down_response p m ≡ false → TakesAs p tree f outs line numbers n parent request
parent_as p tree f outs line numbers n m most even me above kids there is not =
    record {
      asks_up = λ k. left_all is_any tree f outs line numbers n UpRequests k (no_child tree f outs k me);
      answers_up = λ k. left_all is_any tree f outs line numbers n UpResponses k (no_children tree f outs k kids);
      asks_down = λ k. taken_down (is_down_request p) tree f outs line numbers n m k above there is most;
      answers_down = λ k. passed_down (is_down_response p) tree f outs line numbers n m k even above there not;
    }

-- the parent's answer is taken
pub answer_as : (p : Protocol) (tree : Tree) (f : Firing) (outs : Outs) (line : Line) (numbers : Numbers) (n : ℕ) (asker : Asker) (m : Message) → count (is_down_response p) (list_at line f.object.0 Down) ≤ 1 → length (numbers.lists f.object.0 Down) ≡ length (list_at line f.object.0 Down) → outs.taken_request ≡ false → outs.taken_parent ≡ true → outs.taken_kids ≡ nobody → slice_get (list_at line f.object.0 Down) 0 ≡ Some m → is_down_response p m ≡ true → is_down_request p m ≡ false → TakesAs p tree f outs line numbers n asker parent_answer
answer_as p tree f outs line numbers n asker m most even me above kids there is not =
    record {
      asks_up = λ k. left_all is_any tree f outs line numbers n UpRequests k (no_child tree f outs k me);
      answers_up = λ k. left_all is_any tree f outs line numbers n UpResponses k (no_children tree f outs k kids);
      asks_down = λ k. passed_down (is_down_request p) tree f outs line numbers n m k even above there not;
      answers_down = λ k. taken_down (is_down_response p) tree f outs line numbers n m k above there is most;
    }

-- the awaited children's answers are taken
pub answers_as : (p : Protocol) (tree : Tree) (f : Firing) (outs : Outs) (line : Line) (numbers : Numbers) (n : ℕ) (asker : Asker) → AreBounded p tree line → outs.taken_request ≡ false → outs.taken_parent ≡ false → ((c : ℕ) → awaits c (downlock_at line f.object.0) ≡ cond (has_bit outs.taken_kids.0 c) 1 0) → TakesAs p tree f outs line numbers n asker child_answers
answers_as p tree f outs line numbers n asker bounded me above kids =
    record {
      asks_up = λ k. left_all is_any tree f outs line numbers n UpRequests k (no_child tree f outs k me);
      answers_up = λ k. by_child k (is_child tree k f.object.0) refl (has_bit outs.taken_kids.0 (place_among tree f.object.0 k)) refl;
      asks_down = λ k. left_all (is_down_request p) tree f outs line numbers n Down k (no_parent tree f outs k above);
      answers_down = λ k. left_all (is_down_response p) tree f outs line numbers n Down k (no_parent tree f outs k above);
    }
  where
    by_child : (k : ℕ) (b : Bool) → is_child tree k f.object.0 ≡ b → (h : Bool) → has_bit outs.taken_kids.0 (place_among tree f.object.0 k) ≡ h → left is_any tree f outs line numbers n UpResponses k ≡ (carries is_any n (list_at line k UpResponses) (numbers.lists k UpResponses) && not (is_child tree k f.object.0))
    by_child k false own h has =
        left_all is_any tree f outs line numbers n UpResponses k (ap (λ b. b && has_bit outs.taken_kids.0 (place_among tree f.object.0 k)) own)
        ∙ sym (and_true (carries is_any n (list_at line k UpResponses) (numbers.lists k UpResponses)))
        ∙ ap (λ b. carries is_any n (list_at line k UpResponses) (numbers.lists k UpResponses) && not b) (sym own)
    by_child k true own true has =
        left_one is_any tree f outs line numbers n UpResponses k (ap (λ b. b && has_bit outs.taken_kids.0 (place_among tree f.object.0 k)) own ∙ has)
        ∙ carries_short is_any n (list_at line k UpResponses) (drop 1 (numbers.lists k UpResponses)) (let most = bounded.two k f.object.0 own in let one = kids (place_among tree f.object.0 k) ∙ ap (λ b. cond b 1 0) has in omega (arith, most, one))
        ∙ sym (and_false (carries is_any n (list_at line k UpResponses) (numbers.lists k UpResponses)))
        ∙ ap (λ b. carries is_any n (list_at line k UpResponses) (numbers.lists k UpResponses) && not b) (sym own)
    by_child k true own false has =
        left_all is_any tree f outs line numbers n UpResponses k (ap (λ b. b && has_bit outs.taken_kids.0 (place_among tree f.object.0 k)) own ∙ has)
        ∙ carries_none is_any n (list_at line k UpResponses) (numbers.lists k UpResponses) (count_any (list_at line k UpResponses) ∙ (let most = bounded.two k f.object.0 own in let one = kids (place_among tree f.object.0 k) ∙ ap (λ b. cond b 1 0) has in omega (arith, most, one)))
        ∙ sym (and_false (carries is_any n (list_at line k UpResponses) (numbers.lists k UpResponses)))
        ∙ ap (λ b. carries is_any n (list_at line k UpResponses) (numbers.lists k UpResponses) && not b) (sym own)
