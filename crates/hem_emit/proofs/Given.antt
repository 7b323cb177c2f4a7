-- What a rule's actions append to each queue is what the firing sends to that list.
use Rattle.std.proofs.Common.{◌≡◌, ◌≢◌, refl, ap, sym, ◌∙◌, ℕ, Bool, true, false, cond, arith, map, length, ◌&&◌, List, [], ◌∷◌, inl, inr, ◌⊎◌}
use Rattle.std.specs.Prelude.{◌==◌, IsTrue, Ok}
use Rattle.std.proofs.lemmas.Bool.Decides.{eqb_tells}
use Rattle.hem_base.specs.Sets.{has_bit}
use Rattle.hem_base.specs.declared.ids.Firing.{Firing}
use Rattle.hem_base.specs.declared.ids.Kind.{Kind}
use Rattle.hem_base.specs.declared.ids.Message.{Message}
use Rattle.hem_syntax.specs.declared.rule.Rule.{Rule}
use Rattle.hem_syntax.specs.Protocol.{Protocol, part}
use Rattle.hem_syntax.specs.Lawful.{is_rule, counts_of}
use Rattle.hem_template.specs.declared.template_name.TemplateName.{TemplateName}
use Rattle.hem_template.specs.Template.{template_of}
use Rattle.hem_object.specs.Local.{Local, IsWellFormed}
use Rattle.hem_fire.specs.declared.outs.Outs.{Outs}
use Rattle.hem_fire.specs.declared.outs.To.{To}
use Rattle.hem_fire.specs.declared.outs.To.TheVariants as to
use Rattle.hem_fire.specs.OneFire.{Heads, can_fire, outs_of}
use Rattle.hem_tree.specs.Tree.{Tree, is_child, children_of, place_among}
use Rattle.hem_system.specs.declared.lane.Lane.{Lane}
use Rattle.hem_system.specs.declared.lane.Lane.TheVariants.{UpRequests, UpResponses, Down, Requests, Answers}
use Rattle.hem_system.specs.State.{place_of_me, reaches, sends}
use Rattle.hem_system.proofs.Kids.{child_at, at_child}
use Rattle.hem_module.specs.Module.{Item}
use Rattle.hem_module.specs.Step.{Held, appended}
use Rattle.hem_emit.specs.Names.{Reg, Queue, same_lane, same_queue}
use Rattle.hem_emit.specs.Place.{Place}
use Rattle.hem_emit.specs.Actions.{actions_of}
use Rattle.hem_emit.specs.Emit.{place_of}
use Rattle.hem_emit.specs.Image.{item_of}
use Rattle.hem_emit.specs.Sent.{to_own, to_child}
use Rattle.hem_emit.specs.Shows.{AreKids, Shows}
use Rattle.hem_emit.proofs.Tests.{differ}
use Rattle.hem_emit.proofs.Appends.{own_appended, child_appended}
use Rattle.hem_emit.proofs.Elsewhere.{nothing_elsewhere}

-- one item or none
abbrev one_where : Bool → Item → List Item
one_where b m = cond b (m ∷ []) []

mapped_one : (b : Bool) (m : Message) → map item_of (cond b (m ∷ []) []) ≡ one_where b (item_of m)
mapped_one true m = refl
mapped_one false m = refl

turned : (a b : ℕ) → (a == b) ≡ (b == a)
turned a b = grind arith

module _ (tree : Tree) (f : Firing) where
  -- what an object's own list gets
  own_given : (o : ℕ) → (o == f.object.0) ≡ true → (l : Lane) → same_lane l Down ≡ false → (t : To) (m : Item) → to_own l t m ≡ one_where (reaches tree f t o l) m
  own_given o same Answers up to.Answer m = rw same refl
  own_given o same UpRequests up to.UpRequest m = rw same refl
  own_given o same UpResponses up to.UpResponse m = rw same refl
  own_given o same Down up t m = cc
  own_given o same Answers up to.Nobody m = refl
  own_given o same Answers up (to.Kid c) m = refl
  own_given o same Answers up to.UpRequest m = refl
  own_given o same Answers up to.UpResponse m = refl
  own_given o same Answers up (to.Kids set) m = refl
  own_given o same UpRequests up to.Nobody m = refl
  own_given o same UpRequests up to.Answer m = refl
  own_given o same UpRequests up (to.Kid c) m = refl
  own_given o same UpRequests up to.UpResponse m = refl
  own_given o same UpRequests up (to.Kids set) m = refl
  own_given o same UpResponses up to.Nobody m = refl
  own_given o same UpResponses up to.Answer m = refl
  own_given o same UpResponses up (to.Kid c) m = refl
  own_given o same UpResponses up to.UpRequest m = refl
  own_given o same UpResponses up (to.Kids set) m = refl
  own_given o same Requests up to.Nobody m = refl
  own_given o same Requests up to.Answer m = refl
  own_given o same Requests up (to.Kid c) m = refl
  own_given o same Requests up to.UpRequest m = refl
  own_given o same Requests up to.UpResponse m = refl
  own_given o same Requests up (to.Kids set) m = refl

  -- another object's list but that from its parent gets nothing
  pub own_missed : (u : ℕ) → (u == f.object.0) ≡ false → (l : Lane) → same_lane l Down ≡ false → (t : To) → reaches tree f t u l ≡ false
  own_missed u far Answers up to.Answer = far
  own_missed u far UpRequests up to.UpRequest = far
  own_missed u far UpResponses up to.UpResponse = far
  own_missed u far Down up t = cc
  own_missed u far Answers up to.Nobody = refl
  own_missed u far Answers up (to.Kid c) = refl
  own_missed u far Answers up to.UpRequest = refl
  own_missed u far Answers up to.UpResponse = refl
  own_missed u far Answers up (to.Kids set) = refl
  own_missed u far UpRequests up to.Nobody = refl
  own_missed u far UpRequests up to.Answer = refl
  own_missed u far UpRequests up (to.Kid c) = refl
  own_missed u far UpRequests up to.UpResponse = refl
  own_missed u far UpRequests up (to.Kids set) = refl
  own_missed u far UpResponses up to.Nobody = refl
  own_missed u far UpResponses up to.Answer = refl
  own_missed u far UpResponses up (to.Kid c) = refl
  own_missed u far UpResponses up to.UpRequest = refl
  own_missed u far UpResponses up (to.Kids set) = refl
  own_missed u far Requests up to.Nobody = refl
  own_missed u far Requests up to.Answer = refl
  own_missed u far Requests up (to.Kid c) = refl
  own_missed u far Requests up to.UpRequest = refl
  own_missed u far Requests up to.UpResponse = refl
  own_missed u far Requests up (to.Kids set) = refl

  -- what a child is given
  child_given : (u : ℕ) → is_child tree u f.object.0 ≡ true → (t : To) (m : Item) → to_child (place_among tree f.object.0 u) t m ≡ one_where (reaches tree f t u Down) m
  child_given u child (to.Kid c) m = ap (λ b. one_where b m) (turned c (place_among tree f.object.0 u) ∙ sym (ap (λ b. b && place_among tree f.object.0 u == c) child))
  child_given u child (to.Kids set) m = ap (λ b. one_where b m) (sym (ap (λ b. b && has_bit set.0 (place_among tree f.object.0 u)) child))
  child_given u child to.Nobody m = refl
  child_given u child to.Answer m = refl
  child_given u child to.UpRequest m = refl
  child_given u child to.UpResponse m = refl

  -- what is no child is given nothing
  pub child_missed : (u : ℕ) → is_child tree u f.object.0 ≡ false → (t : To) → reaches tree f t u Down ≡ false
  child_missed u apart (to.Kid c) = ap (λ b. b && place_among tree f.object.0 u == c) apart
  child_missed u apart (to.Kids set) = ap (λ b. b && has_bit set.0 (place_among tree f.object.0 u)) apart
  child_missed u apart to.Nobody = refl
  child_missed u apart to.Answer = refl
  child_missed u apart to.UpRequest = refl
  child_missed u apart to.UpResponse = refl

module _ (p : Protocol) (tree : Tree) (f : Firing) (kind : Kind) (rule : Rule) (t : TemplateName) (local : Local) (heads : Heads) (s : Held Reg Queue) (has : template_of p kind rule ≡ Ok t) (known : IsTrue (is_rule (counts_of p (part p kind)) rule)) (kids : AreKids kind (children_of tree f.object.0)) (formed : IsWellFormed p kind (length (children_of tree f.object.0)) local) (shows : Shows (place_of p tree f.object.0 kind) (place_of_me tree f.object.0 f.me) local heads s) (can : can_fire p kind rule (place_of_me tree f.object.0 f.me) local heads ≡ true) (u : ℕ) where
  abbrev o : ℕ
  o = f.object.0

  abbrev at : Place
  at = place_of p tree o kind

  abbrev outs : Outs
  outs = outs_of p kind rule (place_of_me tree o f.me) local heads

  abbrev at_lane : Lane → Queue
  at_lane l = record { object = u; lane = l }

  abbrev IsGiven : Lane → Type 0
  IsGiven l = appended s (same_queue (at_lane l)) (actions_of p at (place_of_me tree o f.me) rule) ≡ one_where (reaches tree f outs.to u l) (item_of outs.message)

  missed : (l : Lane) → reaches tree f outs.to u l ≡ false → appended s (same_queue (at_lane l)) (actions_of p at (place_of_me tree o f.me) rule) ≡ [] → IsGiven l
  missed l none nothing = nothing ∙ ap (λ b. one_where b (item_of outs.message)) (sym none)

  and_false : (b : Bool) → (b && false) ≡ false
  and_false true = refl
  and_false false = refl

  far_own : (l : Lane) → (u == o) ≡ false → (m : Lane) → same_queue (at_lane l) (record { object = o; lane = m }) ≡ false
  far_own l far m = ap (λ b. b && same_lane l m) far

  own_lane : (l : Lane) → same_lane l Down ≡ false → IsGiven l
  own_lane l up = by_object (eqb_tells u o)
    where
      by_object : ((u == o) ≡ true) × (u ≡ o) ⊎ ((u == o) ≡ false) × (u ≢ o) → IsGiven l
      by_object (inl same) =
          ap (λ n. appended s (same_queue (record { object = n; lane = l })) (actions_of p at (place_of_me tree o f.me) rule)) same.1
          ∙ own_appended p at rule t (place_of_me tree o f.me) local heads s has known refl kids formed shows can l up
          ∙ own_given tree f u same.0 l up outs.to (item_of outs.message)
      by_object (inr far) =
          missed l (own_missed tree f u far.0 l up outs.to)
          (nothing_elsewhere s (same_queue (at_lane l)) p at (place_of_me tree o f.me) (far_own l far.0 Answers) (far_own l far.0 UpRequests) (far_own l far.0 UpResponses) (λ k c kid. ap (λ b. u == c && b) up ∙ and_false (u == c)) rule)

  down_lane : (b : Bool) → is_child tree u o ≡ b → IsGiven Down
  down_lane true child =
      child_appended p at rule t (place_of_me tree o f.me) local heads s has known refl kids formed shows can (place_among tree o u) u (child_at tree o u child)
      ∙ child_given tree f u child outs.to (item_of outs.message)
  down_lane false apart =
      missed Down (child_missed tree f u apart outs.to)
      (nothing_elsewhere s (same_queue (at_lane Down)) p at (place_of_me tree o f.me) (and_false (u == o)) (and_false (u == o)) (and_false (u == o)) (λ k c kid. ap (λ b. b && true) (differ u c (clash c (at_child tree o k c kid).0))) rule)
    where
      clash : (c : ℕ) → is_child tree c o ≡ true → u ≢ c
      clash c child same = let bad : false ≡ true = sym apart ∙ ap (λ n. is_child tree n o) same ∙ child in cc

  given_by : (l : Lane) → IsGiven l
  given_by UpRequests = own_lane UpRequests refl
  given_by UpResponses = own_lane UpResponses refl
  given_by Requests = own_lane Requests refl
  given_by Answers = own_lane Answers refl
  given_by Down = down_lane (is_child tree u o) refl

  pub given_as_sent : (l : Lane) → appended s (same_queue (at_lane l)) (actions_of p at (place_of_me tree o f.me) rule) ≡ map item_of (sends tree f outs u l)
  given_as_sent l = given_by l ∙ sym (mapped_one (reaches tree f outs.to u l) outs.message)
