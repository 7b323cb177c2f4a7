-- The lists that an object lacks stay empty.
use Rattle.std.proofs.Common.{◌≡◌, ◌≢◌, refl, ap, sym, ◌∙◌, subst, ℕ, Bool, true, false, cond, List, [], ◌∷◌, ◌++◌, length, drop, Option, Some, None, ◌⊎◌, inl, inr}
use Rattle.std.specs.Prelude.{◌==◌, option_and_then}
use Rattle.std.specs.Option.{option_map_or}
use Rattle.std.proofs.lemmas.Bool.{eqb-true}
use Rattle.hem_base.specs.Sets.{has_bit}
use Rattle.hem_base.specs.declared.ids.Firing.{Firing}
use Rattle.hem_base.specs.declared.ids.Message.{Message}
use Rattle.hem_base.specs.declared.ids.MsgId.{MsgId}
use Rattle.hem_base.specs.declared.ids.Kind.{Kind}
use Rattle.hem_base.specs.declared.ids.Kind.TheVariants.{Root, Mid, Leaf}
use Rattle.hem_syntax.specs.declared.rule.Class.{Class}
use Rattle.hem_syntax.specs.declared.rule.Class.TheVariants.{ExtReq, ExtRsp, UpReq, UpRsp, DownReq, DownRsp}
use Rattle.hem_syntax.specs.declared.rule.Value.{Value}
use Rattle.hem_syntax.specs.declared.rule.SendTo.{SendTo}
use Rattle.hem_syntax.specs.declared.rule.SendTo.TheVariants as send
use Rattle.hem_syntax.specs.Protocol.{Protocol, class_of}
use Rattle.hem_syntax.specs.Lawful.{IsProtocol}
use Rattle.hem_object.specs.declared.state.By.{By}
use Rattle.hem_object.specs.declared.state.By.TheVariants.{Processor, Kid, Parent, Own}
use Rattle.hem_object.specs.declared.state.View.{View}
use Rattle.hem_object.specs.Local.{Local, IsOrigin}
use Rattle.hem_fire.specs.declared.outs.Outs.{Outs}
use Rattle.hem_fire.specs.declared.outs.To.{To}
use Rattle.hem_fire.specs.declared.outs.To.TheVariants as to
use Rattle.hem_fire.specs.View.{view_of}
use Rattle.hem_fire.specs.Sends.{to_requester, send_names, goes_to}
use Rattle.hem_tree.specs.Tree.{Tree, Node, kind_of, parent_of, is_child, children_of, place_among, IsTree}
use Rattle.hem_work.specs.Work.{Work, requests_of}
use Rattle.hem_work.specs.Lawful.{IsLawfulWork}
use Rattle.hem_system.specs.declared.lane.Lane.{Lane}
use Rattle.hem_system.specs.declared.lane.Lane.TheVariants.{UpRequests, UpResponses, Down, Requests, Answers}
use Rattle.hem_system.specs.State.{State, Cell, list_of, cell_at, heads_of, place_of_me, takes, reaches, list_after, first_cell, start, fire, run, Fires}
use Rattle.hem_system.specs.Laws.{list_in}
use Rattle.hem_system.proofs.Takers.{and_left, parent_is}
use Rattle.hem_system.proofs.Own.{Came, came}
use Rattle.hem_invariants.specs.Formed.{IsFormed}
use Rattle.hem_invariants.specs.Missing.{has_list, MissingAreEmpty}
use Rattle.hem_invariants.proofs.Choices.{if_some}
use Rattle.hem_invariants.proofs.LocalLocks.{requester-origin}
use Rattle.hem_invariants.proofs.LocalKept.{can_fire-parts}
use Rattle.hem_invariants.proofs.Next.{At, at-object, list-next}
use Rattle.hem_invariants.proofs.StatesKept.{found-formed, step-formed}
use Rattle.hem_invariants.proofs.Starts.{first-at}

-- an answer goes to a processor
answered : (by : Option By) → to_requester by ≡ to.Answer → by ≡ Some Processor
answered None is = cc
answered (Some Processor) is = refl
answered (Some (Kid c)) is = cc
answered (Some Parent) is = cc
answered (Some Own) is = cc

-- and to no parent
not_up : (by : Option By) → (to_requester by ≡ to.UpRequest → ⊥) × (to_requester by ≡ to.UpResponse → ⊥)
not_up None = ((λ is. cc), (λ is. cc))
not_up (Some Processor) = ((λ is. cc), (λ is. cc))
not_up (Some (Kid c)) = ((λ is. cc), (λ is. cc))
not_up (Some Parent) = ((λ is. cc), (λ is. cc))
not_up (Some Own) = ((λ is. cc), (λ is. cc))

-- only a leaf has a processor
processor-leaf : (kind : Kind) (children : ℕ) → IsOrigin kind children Processor → kind ≡ Leaf
processor-leaf Leaf children is = refl
processor-leaf Root children is = absurd is
processor-leaf Mid children is = absurd is

-- what is sent to a parent is no answer
parent-no_answer : (p : Protocol) (id : MsgId) (v : Value) (local : Local) (view : View) (class : Option Class) → class_of p id ≡ class → goes_to p (send.Parent id v) local view ≡ to.Answer → ⊥
parent-no_answer p id v local view None is goes = let up : to.UpRequest ≡ to.Answer = rw (is, goes_to) at goes in cc
parent-no_answer p id v local view (Some ExtReq) is goes = let up : to.UpRequest ≡ to.Answer = rw (is, goes_to) at goes in cc
parent-no_answer p id v local view (Some ExtRsp) is goes = let up : to.UpRequest ≡ to.Answer = rw (is, goes_to) at goes in cc
parent-no_answer p id v local view (Some UpReq) is goes = let up : to.UpRequest ≡ to.Answer = rw (is, goes_to) at goes in cc
parent-no_answer p id v local view (Some UpRsp) is goes = let up : to.UpResponse ≡ to.Answer = rw (is, goes_to) at goes in cc
parent-no_answer p id v local view (Some DownReq) is goes = let up : to.UpRequest ≡ to.Answer = rw (is, goes_to) at goes in cc
parent-no_answer p id v local view (Some DownRsp) is goes = let up : to.UpRequest ≡ to.Answer = rw (is, goes_to) at goes in cc

-- a rule that answers has a processor as requester
answer-asked : (p : Protocol) (what : SendTo) (local : Local) (view : View) → goes_to p what local view ≡ to.Answer → view.requester ≡ Some Processor
answer-asked p send.Nothing local view goes = cc
answer-asked p (send.Me id v) local view goes = answered view.requester goes
answer-asked p (send.Parent id v) local view goes = absurd (parent-no_answer p id v local view (class_of p id) refl goes)
answer-asked p (send.Kids set id v) local view goes = cc
answer-asked p (send.Others set id v) local view goes = cc

-- a root sends nothing to a parent
root-not_up : (p : Protocol) (what : SendTo) (local : Local) (view : View) → send_names Root what local view ≡ true → (goes_to p what local view ≡ to.UpRequest → ⊥) × (goes_to p what local view ≡ to.UpResponse → ⊥)
root-not_up p send.Nothing local view names = ((λ is. cc), (λ is. cc))
root-not_up p (send.Me id v) local view names = not_up view.requester
root-not_up p (send.Parent id v) local view names = cc
root-not_up p (send.Kids set id v) local view names = ((λ is. cc), (λ is. cc))
root-not_up p (send.Others set id v) local view names = ((λ is. cc), (λ is. cc))

-- a root is nobody's child
root-no_child : (tree : Tree) (k o : ℕ) → IsTree tree → kind_of tree k ≡ Some Root → is_child tree k o ≡ true → ⊥
root-no_child tree k o lawful is child =
    let first : k ≡ 0 = lawful.one_root k is in
    let none : parent_of tree 0 ≡ None = ap (option_and_then (λ (n : Node). n.parent)) lawful.root in
    let some : parent_of tree 0 ≡ Some o = subst (λ n. parent_of tree n ≡ Some o) first (parent_is tree k o child) in
    let both_are : None ≡ Some o = sym none ∙ some in cc

-- a test that can't pass
never-true : (b : Bool) → (b ≡ true → ⊥) → b ≡ false
never-true true never = absurd (never refl)
never-true false never = refl

-- no firing sends to the requests
requests-unreached : (tree : Tree) (f : Firing) (whom : To) (k : ℕ) → reaches tree f whom k Requests ≡ false
requests-unreached tree f to.Nobody k = refl
requests-unreached tree f to.Answer k = refl
requests-unreached tree f (to.Kid c) k = refl
requests-unreached tree f to.UpRequest k = refl
requests-unreached tree f to.UpResponse k = refl
requests-unreached tree f (to.Kids set) k = refl

-- a root's lists to a parent are reached by nobody that sends nothing up and isn't its parent
root-unreached : (tree : Tree) (f : Firing) (k : ℕ) (lane : Lane) (whom : To) → (whom ≡ to.Answer → (k == f.object.0) ≡ true → ⊥) → ((k == f.object.0) ≡ true → (whom ≡ to.UpRequest → ⊥) × (whom ≡ to.UpResponse → ⊥)) → (is_child tree k f.object.0 ≡ true → ⊥) → reaches tree f whom k lane ≡ true → ⊥
root-unreached tree f k UpRequests to.UpRequest answers ups child reached = (ups reached).0 refl
root-unreached tree f k UpResponses to.UpResponse answers ups child reached = (ups reached).1 refl
root-unreached tree f k Answers to.Answer answers ups child reached = answers refl reached
root-unreached tree f k Down (to.Kid c) answers ups child reached = child (and_left (is_child tree k f.object.0) (place_among tree f.object.0 k == c) reached)
root-unreached tree f k Down (to.Kids set) answers ups child reached = child (and_left (is_child tree k f.object.0) (has_bit set.0 (place_among tree f.object.0 k)) reached)
root-unreached tree f k Requests whom answers ups child reached = let clash : true ≡ false = sym reached ∙ requests-unreached tree f whom k in cc
root-unreached tree f k lane whom answers ups child reached = let clash : false ≡ true = reached in cc

-- a mid's answers are reached by an answer alone
answers-reached : (tree : Tree) (f : Firing) (k : ℕ) (whom : To) → reaches tree f whom k Answers ≡ true → (whom ≡ to.Answer) × ((k == f.object.0) ≡ true)
answers-reached tree f k to.Answer reached = (refl, reached)
answers-reached tree f k to.Nobody reached = absurd (let clash : false ≡ true = reached in cc)
answers-reached tree f k (to.Kid c) reached = absurd (let clash : false ≡ true = reached in cc)
answers-reached tree f k to.UpRequest reached = absurd (let clash : false ≡ true = reached in cc)
answers-reached tree f k to.UpResponse reached = absurd (let clash : false ≡ true = reached in cc)
answers-reached tree f k (to.Kids set) reached = absurd (let clash : false ≡ true = reached in cc)

-- what an object of a kind lacks is not reached
never-reached : (tree : Tree) (f : Firing) (k : ℕ) (kind : Kind) (lane : Lane) (whom : To) → (whom ≡ to.Answer → (k == f.object.0) ≡ true → kind ≡ Leaf) → (kind ≡ Root → (k == f.object.0) ≡ true → (whom ≡ to.UpRequest → ⊥) × (whom ≡ to.UpResponse → ⊥)) → (kind ≡ Root → is_child tree k f.object.0 ≡ true → ⊥) → has_list kind lane ≡ false → reaches tree f whom k lane ≡ true → ⊥
never-reached tree f k Root lane whom answers ups child lacks reached = root-unreached tree f k lane whom (λ is same. let leaf : Root ≡ Leaf = answers is same in cc) (ups refl) (child refl) reached
never-reached tree f k Mid Requests whom answers ups child lacks reached = let clash : true ≡ false = sym reached ∙ requests-unreached tree f whom k in cc
never-reached tree f k Mid Answers whom answers ups child lacks reached = let it = answers-reached tree f k whom reached in let leaf : Mid ≡ Leaf = answers it.0 it.1 in cc
never-reached tree f k kind lane whom answers ups child lacks reached = let clash : true ≡ false = lacks in cc

module _ (p : Protocol) (tree : Tree) (old new : State) (f : Firing) (lawful : IsTree tree) (formed : IsFormed p tree old) (it : Came p tree old f new) where
  -- the kind of the object that fires
  kind-here : (at : At p tree old new f it) (k : ℕ) (kind : Kind) → (k == f.object.0) ≡ true → kind_of tree k ≡ Some kind → at.kind ≡ kind
  kind-here at k kind same is =
      let here : kind_of tree f.object.0 ≡ Some kind = subst (λ n. kind_of tree n ≡ Some kind) (eqb-true k f.object.0 same) is in
      let both_are : Some at.kind ≡ Some kind = sym at.kind_is ∙ here in cc

  -- an answer is sent by a leaf
  answer-of_leaf : (at : At p tree old new f it) → it.effect.outs.to ≡ to.Answer → at.kind ≡ Leaf
  answer-of_leaf at is =
      let heads = heads_of tree it.line f.object.0 f.me in
      let me = place_of_me tree f.object.0 f.me in
      let view = view_of at.rule.take me at.local heads in
      let can = can_fire-parts p at.kind at.rule me at.local heads at.fires.possible in
      let goes : goes_to p at.rule.send at.local view ≡ to.Answer = sym (ap (λ (o : Outs). o.to) at.fires.gives) ∙ is in
      processor-leaf at.kind (length (children_of tree f.object.0))
      (requester-origin p at.kind (length (children_of tree f.object.0)) at.local (found-formed p tree old new f formed it at) at.rule.take me heads Processor can.fits (answer-asked p at.rule.send at.local view goes))

  -- a root sends nothing up
  root-sends_not_up : (at : At p tree old new f it) → at.kind ≡ Root → (it.effect.outs.to ≡ to.UpRequest → ⊥) × (it.effect.outs.to ≡ to.UpResponse → ⊥)
  root-sends_not_up at root =
      let heads = heads_of tree it.line f.object.0 f.me in
      let me = place_of_me tree f.object.0 f.me in
      let view = view_of at.rule.take me at.local heads in
      let can = can_fire-parts p at.kind at.rule me at.local heads at.fires.possible in
      let never = root-not_up p at.rule.send at.local view (subst (λ k. send_names k at.rule.send at.local view ≡ true) root can.sends) in
      let goes : goes_to p at.rule.send at.local view ≡ it.effect.outs.to = sym (ap (λ (o : Outs). o.to) at.fires.gives) in
      ((λ is. never.0 (goes ∙ is)), (λ is. never.1 (goes ∙ is)))

  -- a firing reaches no list that an object lacks
  none-reached : (at : At p tree old new f it) (k : ℕ) (kind : Kind) (lane : Lane) → kind_of tree k ≡ Some kind → has_list kind lane ≡ false → reaches tree f it.effect.outs.to k lane ≡ true → ⊥
  none-reached at k kind lane is lacks reached =
      never-reached tree f k kind lane it.effect.outs.to
      (λ answer same. sym (kind-here at k kind same is) ∙ answer-of_leaf at answer)
      (λ root same. root-sends_not_up at (kind-here at k kind same is ∙ root))
      (λ root child. root-no_child tree k f.object.0 lawful (is ∙ ap Some root) child)
      lacks reached

  -- so a list that an object lacks stays empty
  list-empty : MissingAreEmpty tree old → MissingAreEmpty tree new
  list-empty empty l k kind lane kind_is lacks = by_change (list-next p tree old new f it l k lane)
    where
      nothing : (t r : Bool) (m : Message) (xs : List Message) → xs ≡ [] → r ≡ false → drop (cond t 1 0) xs ++ cond r (m ∷ []) [] ≡ []
      nothing true r m xs none not_sent = rw (none, not_sent) refl
      nothing false r m xs none not_sent = rw (none, not_sent) refl

      by_change : (list_in new l k lane ≡ list_in old l k lane) ⊎ (list_in new l k lane ≡ list_after tree f it.effect.outs k lane (list_in old l k lane)) → list_in new l k lane ≡ []
      by_change (inl same) = same ∙ empty l k kind lane kind_is lacks
      by_change (inr next) =
          next ∙ nothing (takes tree f it.effect.outs k lane) (reaches tree f it.effect.outs.to k lane) it.effect.outs.message (list_in old l k lane) (empty l k kind lane kind_is lacks)
          (never-true (reaches tree f it.effect.outs.to k lane) (none-reached (at-object p tree old new f it) k kind lane kind_is lacks))

-- a firing keeps the lists empty that an object lacks
pub step-missing : (p : Protocol) (tree : Tree) (old new : State) (f : Firing) → IsTree tree → IsFormed p tree old → MissingAreEmpty tree old → Fires p tree old f new → MissingAreEmpty tree new
step-missing p tree old new f lawful formed empty fires = list-empty p tree old new f lawful formed (came fires) empty

-- and so does a history
pub run-missing : (p : Protocol) (tree : Tree) (s : State) (h : List Firing) (new : State) → IsProtocol p → IsTree tree → IsFormed p tree s → MissingAreEmpty tree s → run p tree s h ≡ Some new → MissingAreEmpty tree new
run-missing p tree s [] new protocol lawful formed empty ran = let same : s ≡ new = cc in subst (MissingAreEmpty tree) same empty
run-missing p tree s (f ∷ h) new protocol lawful formed empty ran =
    let one = if_some (λ next. run p tree next h) (fire p tree s f) new ran in
    let fires : Fires p tree s f one.0 = record { leads = one.1 } in
    run-missing p tree one.0 h new protocol lawful (step-formed p tree s one.0 f protocol formed fires) (step-missing p tree s one.0 f lawful formed empty fires) one.2

-- a list that can't have an element
empty-unless : (xs : List Message) → (xs ≢ [] → ⊥) → xs ≡ []
empty-unless [] never = refl
empty-unless (x ∷ xs) never = absurd (never (λ is. cc))

-- only a leaf has requests
lacks-requests : (kind : Kind) → has_list kind Requests ≡ false → kind ≢ Leaf
lacks-requests Leaf lacks is = let clash : true ≡ false = lacks in cc
lacks-requests Root lacks is = cc
lacks-requests Mid lacks is = cc

-- a list that an object lacks is empty at the start
first-empty : (p : Protocol) (tree : Tree) (work : Work) (line o : ℕ) (node : Node) (kind : Kind) (lane : Lane) → IsLawfulWork p tree work → kind_of tree o ≡ Some kind → has_list kind lane ≡ false → list_of (first_cell p tree (requests_of work line) o node) lane ≡ []
first-empty p tree work line o node kind UpRequests lawful is lacks = refl
first-empty p tree work line o node kind UpResponses lawful is lacks = refl
first-empty p tree work line o node kind Down lawful is lacks = refl
first-empty p tree work line o node kind Answers lawful is lacks = refl
first-empty p tree work line o node kind Requests lawful is lacks =
    empty-unless (requests_of work line o) (λ some.
    let both_are : Some kind ≡ Some Leaf = sym is ∙ lawful.leaves line o some in
    let leaf : kind ≡ Leaf = cc in
    lacks-requests kind lacks leaf)

-- so all are
pub start-missing : (p : Protocol) (tree : Tree) (work : Work) → IsLawfulWork p tree work → MissingAreEmpty tree (start p tree work)
start-missing p tree work lawful l o kind lane is lacks = by_cell (cell_at (start p tree work) l o) refl
  where
    by_cell : (found : Option Cell) → cell_at (start p tree work) l o ≡ found → option_map_or (λ cell. list_of cell lane) found [] ≡ []
    by_cell None at = refl
    by_cell (Some cell) at =
        let it = first-at p tree work l o cell at in
        subst (λ (c : Cell). list_of c lane ≡ []) it.is (first-empty p tree work it.line o it.node kind lane lawful is lacks)
