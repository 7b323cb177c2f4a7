-- A firing keeps well-formed states.
use Rattle.std.proofs.Common.{◌≡◌, refl, ap, sym, ◌∙◌, subst, ℕ, Bool, true, false, cond, List, [], ◌∷◌, length, drop, Option, Some, None, ◌⊎◌, inl, inr}
use Rattle.std.specs.Prelude.{◌==◌, IsTrue, slice_get, option_map, option_and_then, All}
use Rattle.std.specs.Option.{option_map_or}
use Rattle.std.proofs.lemmas.List.Elements.{All-nil, All-cons, All-append, All-drop}
use Rattle.hem_base.specs.declared.ids.Firing.{Firing}
use Rattle.hem_base.specs.declared.ids.Message.{Message}
use Rattle.hem_base.specs.declared.ids.RuleId.{RuleId}
use Rattle.hem_base.specs.declared.ids.ObjectId.{ObjectId}
use Rattle.hem_base.specs.declared.ids.Kind.{Kind}
use Rattle.hem_base.specs.declared.ids.Kind.TheVariants.{Root, Mid, Leaf}
use Rattle.hem_syntax.specs.declared.rule.Rule.{Rule}
use Rattle.hem_syntax.specs.Protocol.{Protocol, part, rule_named}
use Rattle.hem_syntax.specs.Lawful.{is_rule, counts_of, IsPart, IsProtocol}
use Rattle.hem_object.specs.Local.{Local, IsWellFormed}
use Rattle.hem_fire.specs.declared.outs.To.TheVariants.{Nobody}
use Rattle.hem_tree.specs.Tree.{Tree, kind_of, children_of}
use Rattle.hem_system.specs.declared.lane.Lane.{Lane}
use Rattle.hem_system.specs.declared.lane.Lane.TheVariants.{UpRequests, UpResponses, Down, Requests, Answers}
use Rattle.hem_system.specs.State.{State, Line, Cell, list_of, list_at, head_at, request_head, heads_of, takes, reaches, list_after, place_of_me, fire, run, Fires}
use Rattle.hem_system.specs.Laws.{list_in, local_in}
use Rattle.hem_system.proofs.Own.{Came, came}
use Rattle.hem_invariants.specs.Declared.{IsDeclared, HeadsDeclared, SendsDeclared}
use Rattle.hem_invariants.specs.Formed.{IsFormed}
use Rattle.hem_invariants.proofs.Choices.{if_some, found-all, all-at}
use Rattle.hem_invariants.proofs.LocalKept.{fired-formed, fired-sends}
use Rattle.hem_invariants.proofs.Next.{At, at-object, list-next, local-next, sizes-next}

-- what a protocol says of a kind is lawful
part-lawful : (p : Protocol) (kind : Kind) → IsProtocol p → IsPart p (part p kind)
part-lawful p Root lawful = lawful.root
part-lawful p Mid lawful = lawful.mid
part-lawful p Leaf lawful = lawful.leaf

-- a rule of a protocol names what is declared
rule-lawful : (p : Protocol) (kind : Kind) (name : RuleId) (rule : Rule) → IsProtocol p → rule_named p kind name ≡ Some rule → IsTrue (is_rule (counts_of p (part p kind)) rule)
rule-lawful p kind name rule lawful named = found-all (is_rule (counts_of p (part p kind))) (λ r. r.name.0 == name.0) (part p kind).rules rule (part-lawful p kind lawful).rules named

-- a list of a line that is there
list-there : (s : State) (l : ℕ) (line : Line) (k : ℕ) (lane : Lane) → slice_get s l ≡ Some line → list_in s l k lane ≡ list_at line k lane
list-there s l line k lane there = ap (λ (o : Option Line). option_map_or (λ cell. list_of cell lane) (option_and_then (λ line. slice_get line k) o) []) there

-- to nobody nothing is sent
nobody-reached : (tree : Tree) (f : Firing) (k : ℕ) (lane : Lane) → reaches tree f Nobody k lane ≡ false
nobody-reached tree f k UpRequests = refl
nobody-reached tree f k UpResponses = refl
nobody-reached tree f k Down = refl
nobody-reached tree f k Requests = refl
nobody-reached tree f k Answers = refl

-- the local state that a firing finds is well formed
pub found-formed : (p : Protocol) (tree : Tree) (old new : State) (f : Firing) → IsFormed p tree old → (it : Came p tree old f new) (at : At p tree old new f it) → IsWellFormed p at.kind (length (children_of tree f.object.0)) at.local
found-formed p tree old new f formed it at = formed.locals f.line.0 f.object.0 at.kind at.local at.kind_is (ap (λ (o : Option Line). option_map (λ (c : Cell). c.local) (option_and_then (λ line. slice_get line f.object.0) o)) it.there ∙ at.here)

module _ (p : Protocol) (tree : Tree) (old new : State) (f : Firing) (lawful : IsProtocol p) (formed : IsFormed p tree old) (it : Came p tree old f new) where
  -- the head of a list is declared
  head-declared : (k : ℕ) (lane : Lane) (m : Message) → head_at it.line k lane ≡ Some m → IsDeclared p m
  head-declared k lane m is = all-at (IsDeclared p) (list_in old f.line.0 k lane) 0 m (formed.messages f.line.0 k lane) (ap (λ ms. slice_get ms 0) (list-there old f.line.0 it.line k lane it.there) ∙ is)

  -- so is that of the requester's requests
  request-declared : (me : Option ObjectId) (m : Message) → request_head it.line f.object.0 me ≡ Some m → IsDeclared p m
  request-declared None m is = head-declared f.object.0 Requests m is
  request-declared (Some child) m is = head-declared child.0 UpRequests m is

  -- so are all heads that a lock may keep
  heads-declared : HeadsDeclared p (heads_of tree it.line f.object.0 f.me)
  heads-declared = record { request = λ m is. request-declared f.me m is; parent = λ m is. head-declared f.object.0 Down m is }

  -- the local state that a firing leaves is well formed
  left-formed : (kind : Kind) → kind_of tree f.object.0 ≡ Some kind → IsWellFormed p kind (length (children_of tree f.object.0)) it.effect.after
  left-formed kind kind_is =
      let at = at-object p tree old new f it in
      let same : at.kind ≡ kind = (let both_are : Some at.kind ≡ Some kind = sym at.kind_is ∙ kind_is in cc) in
      subst (λ k. IsWellFormed p k (length (children_of tree f.object.0)) it.effect.after) same
      (fired-formed p at.kind (length (children_of tree f.object.0)) at.rule (place_of_me tree f.object.0 f.me) at.local (heads_of tree it.line f.object.0 f.me) it.effect.after it.effect.outs (rule-lawful p at.kind f.rule at.rule lawful at.rule_is) (found-formed p tree old new f formed it at) heads-declared at.fires)

  -- what it sends is declared
  sent-declared : SendsDeclared p it.effect.outs
  sent-declared =
      let at = at-object p tree old new f it in
      fired-sends p at.kind at.rule (place_of_me tree f.object.0 f.me) at.local (heads_of tree it.line f.object.0 f.me) it.effect.after it.effect.outs (rule-lawful p at.kind f.rule at.rule lawful at.rule_is) at.fires

  -- so what it appends to a list is declared
  appended-declared : (k : ℕ) (lane : Lane) (b : Bool) → reaches tree f it.effect.outs.to k lane ≡ b → All (IsDeclared p) (cond b (it.effect.outs.message ∷ []) [])
  appended-declared k lane false is = All-nil (IsDeclared p)
  appended-declared k lane true is =
      All-cons (IsDeclared p) it.effect.outs.message []
      (sent-declared (λ none. let never : reaches tree f it.effect.outs.to k lane ≡ false = ap (λ to. reaches tree f to k lane) none ∙ nobody-reached tree f k lane in cc))
      (All-nil (IsDeclared p))

  -- so each list has declared messages after the firing
  messages-next : (l k : ℕ) (lane : Lane) → All (IsDeclared p) (list_in new l k lane)
  messages-next l k lane = by_change (list-next p tree old new f it l k lane)
    where
      by_change : (list_in new l k lane ≡ list_in old l k lane) ⊎ (list_in new l k lane ≡ list_after tree f it.effect.outs k lane (list_in old l k lane)) → All (IsDeclared p) (list_in new l k lane)
      by_change (inl same) = subst (All (IsDeclared p)) (sym same) (formed.messages l k lane)
      by_change (inr next) =
          subst (All (IsDeclared p)) (sym next)
          (All-append (IsDeclared p) (drop (cond (takes tree f it.effect.outs k lane) 1 0) (list_in old l k lane)) (cond (reaches tree f it.effect.outs.to k lane) (it.effect.outs.message ∷ []) [])
          (All-drop (IsDeclared p) (cond (takes tree f it.effect.outs k lane) 1 0) (list_in old l k lane) (formed.messages l k lane))
          (appended-declared k lane (reaches tree f it.effect.outs.to k lane) refl))

  -- and each local state is well formed
  locals-next : (l o : ℕ) (kind : Kind) (local : Local) → kind_of tree o ≡ Some kind → local_in new l o ≡ Some local → IsWellFormed p kind (length (children_of tree o)) local
  locals-next l o kind local kind_is here = by_change (local-next p tree old new f it l o)
    where
      by_change : (local_in new l o ≡ local_in old l o) ⊎ ((l ≡ f.line.0) × (o ≡ f.object.0) × ((local : Local) → local_in new l o ≡ Some local → local ≡ it.effect.after)) → IsWellFormed p kind (length (children_of tree o)) local
      by_change (inl same) = formed.locals l o kind local kind_is (sym same ∙ here)
      by_change (inr own) =
          let whole : IsWellFormed p kind (length (children_of tree o)) it.effect.after = subst (λ k. kind_of tree k ≡ Some kind → IsWellFormed p kind (length (children_of tree k)) it.effect.after) (sym own.1) (left-formed kind) kind_is in
          subst (IsWellFormed p kind (length (children_of tree o))) (sym (own.2 local here)) whole

  -- so is the state
  next-formed : IsFormed p tree new
  next-formed = record { objects = sizes-next p tree old new f it (length tree) formed.objects; locals = locals-next; messages = messages-next }

-- a firing keeps a well-formed state
pub step-formed : (p : Protocol) (tree : Tree) (old new : State) (f : Firing) → IsProtocol p → IsFormed p tree old → Fires p tree old f new → IsFormed p tree new
step-formed p tree old new f lawful formed fires = next-formed p tree old new f lawful formed (came fires)

-- and so does a history
pub run-formed : (p : Protocol) (tree : Tree) (s : State) (h : List Firing) (new : State) → IsProtocol p → IsFormed p tree s → run p tree s h ≡ Some new → IsFormed p tree new
run-formed p tree s [] new lawful formed ran = let same : s ≡ new = cc in subst (IsFormed p tree) same formed
run-formed p tree s (f ∷ h) new lawful formed ran =
    let one = if_some (λ next. run p tree next h) (fire p tree s f) new ran in
    run-formed p tree one.0 h new lawful (step-formed p tree s one.0 f lawful formed (record { leads = one.1 })) one.2
