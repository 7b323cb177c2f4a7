-- The image of a line shows each of its objects.
use Rattle.std.proofs.Common.{◌≡◌, refl, ap, sym, ◌∙◌, ℕ, zero, suc, ◌<◌, Bool, true, false, cond, length, map, arith, Option, Some, None}
use Rattle.std.specs.Prelude.{slice_get, option_map, option_and_then, is_some, IsTrue, Ok}
use Rattle.std.specs.Option.{option_map_or}
use Rattle.std.proofs.lemmas.Bool.{eqb-true}
use Rattle.std.proofs.lemmas.Option.{slice_get-map, slice_get_within}
use Rattle.std.proofs.lemmas.List.{length-map}
use Rattle.hem_base.specs.Sets.{has_bit}
use Rattle.hem_base.specs.declared.ids.Firing.{Firing}
use Rattle.hem_base.specs.declared.ids.ObjectId.{ObjectId}
use Rattle.hem_base.specs.declared.ids.Kind.{Kind}
use Rattle.hem_base.specs.declared.ids.Message.{Message}
use Rattle.hem_syntax.specs.declared.rule.Rule.{Rule}
use Rattle.hem_template.specs.declared.template_name.TemplateName.{TemplateName}
use Rattle.hem_syntax.specs.Protocol.{Protocol, part, rule_named}
use Rattle.hem_object.specs.Local.{Local, IsWellFormed}
use Rattle.hem_syntax.specs.Lawful.{is_rule, counts_of}
use Rattle.hem_template.specs.Template.{template_of}
use Rattle.hem_tree.specs.Tree.{Tree, IsLawful, kind_of, parent_of, is_number, children_of, place_among}
use Rattle.hem_fire.specs.Heads.{awaited_of}
use Rattle.hem_fire.specs.Heads.{Heads}
use Rattle.hem_fire.specs.OneFire.{me_fits, can_fire}
use Rattle.hem_system.specs.declared.lane.Lane.{Lane}
use Rattle.hem_system.specs.declared.lane.Lane.TheVariants as lane
use Rattle.hem_system.specs.State.{Line, local_at, list_at, head_at, request_head, heads_of, is_own_child, place_of_me, rule_effect, own_effect, effect_of}
use Rattle.hem_system.proofs.Kids.{child_at, at_child}
use Rattle.hem_module.specs.Step.{head_of, mod_can}
use Rattle.hem_rows.proofs.Choices.{if_mapped}
use Rattle.hem_emit.specs.Clauses.{requests_of}
use Rattle.hem_emit.specs.Emit.{place_of, rule_at}
use Rattle.hem_emit.specs.Image.{item_of, lock_at, lock_number, status_number, in_parent, image}
use Rattle.hem_emit.specs.Shows.{AreKids, Shows}
use Rattle.hem_emit.proofs.Places.{element_or}
use Rattle.hem_emit.proofs.Whole.{clauses_exact}

-- a child has its parent
pub parent_there : (parent : Option ℕ) (high : ℕ) → is_number parent high ≡ true → parent ≡ Some high
parent_there None high is = cc
parent_there (Some n) high is = ap Some (eqb-true n high is)

-- an object with a kind is there
pub within : (tree : Tree) (o : ℕ) (kind : Kind) → kind_of tree o ≡ Some kind → o < length tree
within tree o kind is = let node = if_mapped (λ node. node.kind) (slice_get tree o) kind is in slice_get_within tree o node.0 node.1

-- the children of an object of a tree
pub are_kids : (tree : Tree) → IsLawful tree → (o : ℕ) (kind : Kind) → kind_of tree o ≡ Some kind → AreKids kind (children_of tree o)
are_kids tree lawful o kind is =
    record {
      of_leaf = λ leaf. (lawful.shape.leaves o (within tree o kind is)).0 (is ∙ ap Some leaf);
      above = λ k c at. positive c (parent_there (parent_of tree c) o (at_child tree o k c at).0);
      apart = λ j k c at_j at_k. sym (at_child tree o j c at_j).1 ∙ (at_child tree o k c at_k).1;
    }
  where
    positive : (c : ℕ) → parent_of tree c ≡ Some o → 0 < c
    positive zero parent = let root = lawful.shape.root in let none : parent_of tree 0 ≡ None = (rw root refl) in let bad : None ≡ Some o = sym none ∙ parent in cc
    positive (suc c) parent = omega arith

-- the head of a queue in an image
head_in : (tree : Tree) (line : Line) (o : ℕ) (l : Lane) → head_of (image tree line) (record { object = o; lane = l }) ≡ option_map item_of (head_at line o l)
head_in tree line o l = slice_get-map item_of (list_at line o l) 0

-- what the parent of a child keeps of it
pub kept_of_kid : (tree : Tree) (line : Line) (o k c : ℕ) (local : Local) (f : ℕ → Local → ℕ) → local_at line o ≡ Some local → slice_get (children_of tree o) k ≡ Some c → in_parent tree line c f ≡ f k local
kept_of_kid tree line o k c local f there at =
    let child = at_child tree o k c at in
    ap (λ (parent : Option ℕ). option_map_or (λ high. option_map_or (f (place_among tree high c)) (local_at line high) 0) parent 0) (parent_there (parent_of tree c) o child.0)
    ∙ ap (λ (l : Option Local). option_map_or (f (place_among tree o c)) l 0) there
    ∙ ap (λ n. f n local) child.1

pub own : (tree : Tree) (line : Line) (o : ℕ) (local : Local) (f : Local → ℕ) → local_at line o ≡ Some local → option_map_or f (local_at line o) 0 ≡ f local
own tree line o local f there = ap (λ (l : Option Local). option_map_or f l 0) there

requests_shown : (p : Protocol) (tree : Tree) (line : Line) (o : ℕ) (kind : Kind) (me : Option ObjectId) → is_own_child tree o me ≡ true → head_of (image tree line) (requests_of (place_of p tree o kind) (place_of_me tree o me)) ≡ option_map item_of (request_head line o me)
requests_shown p tree line o kind None is = head_in tree line o lane.Requests
requests_shown p tree line o kind (Some child) is =
    ap (λ n. head_of (image tree line) (record { object = n; lane = lane.UpRequests })) (element_or (children_of tree o) (place_among tree o child.0) 0 child.0 (child_at tree o child.0 is))
    ∙ head_in tree line child.0 lane.UpRequests

pub image_shows : (p : Protocol) (tree : Tree) (line : Line) (o : ℕ) (kind : Kind) (local : Local) (me : Option ObjectId) → local_at line o ≡ Some local → is_own_child tree o me ≡ true → length local.dir ≡ length (children_of tree o) → Shows (place_of p tree o kind) (place_of_me tree o me) local (heads_of tree line o me) (image tree line)
image_shows p tree line o kind local me there own_child count =
    record {
      fields = λ i status at. own tree line o local (λ local. status_number (slice_get local.fields i)) there ∙ ap status_number at;
      value = own tree line o local (λ local. local.val) there;
      locks = λ side part. own tree line o local (λ local. lock_number (children_of tree o) part (lock_at side local)) there;
      dir_count = count;
      entries = λ k c status kid at. kept_of_kid tree line o k c local (λ k local. status_number (slice_get local.dir k)) there kid ∙ ap status_number at;
      awaited = λ k c kid. kept_of_kid tree line o k c local (λ k local. cond (has_bit (awaited_of local).0 k) 1 0) there kid;
      requests = requests_shown p tree line o kind me own_child;
      parent = head_in tree line o lane.Down;
      head_count = length-map (children_of tree o) (λ k. head_at line k lane.UpResponses);
      responses = λ k c head kid at. head_in tree line c lane.UpResponses ∙ ap (option_map item_of) (same_head k c head kid at);
    }
  where
    same_head : (k c : ℕ) (head : Option Message) → slice_get (children_of tree o) k ≡ Some c → slice_get (map (λ k. head_at line k lane.UpResponses) (children_of tree o)) k ≡ Some head → head_at line c lane.UpResponses ≡ head
    same_head k c head kid at =
        let mapped : Some (head_at line c lane.UpResponses) ≡ Some head = sym (slice_get-map (λ k. head_at line k lane.UpResponses) (children_of tree o) k ∙ ap (option_map (λ k. head_at line k lane.UpResponses)) kid) ∙ at in
        cc

some-cond : {A : Type 0} (b : Bool) (a : A) → is_some (cond b (Some a) None) ≡ b
some-cond true a = refl
some-cond false a = refl

-- the effect of a firing at an object that is there
pub effect_is : (p : Protocol) (tree : Tree) (line : Line) (f : Firing) (kind : Kind) (rule : Rule) (local : Local) → kind_of tree f.object.0 ≡ Some kind → rule_named p kind f.rule ≡ Some rule → is_own_child tree f.object.0 f.me ≡ true → local_at line f.object.0 ≡ Some local → effect_of p tree line f ≡ rule_effect p kind rule (place_of_me tree f.object.0 f.me) local (heads_of tree line f.object.0 f.me)
effect_is p tree line f kind rule local is named own_child there = effect ∙ own_one (heads_of tree line f.object.0 f.me)
  where
    effect : effect_of p tree line f ≡ own_effect p tree f local (heads_of tree line f.object.0 f.me)
    effect = ap (option_and_then (λ local. own_effect p tree f local (heads_of tree line f.object.0 f.me))) there

    own_one : (heads : Heads) → own_effect p tree f local heads ≡ rule_effect p kind rule (place_of_me tree f.object.0 f.me) local heads
    own_one heads = rw (is, named, own_child) refl

-- a firing has an effect exactly where its rule can fire
pub effect_there : (p : Protocol) (tree : Tree) (line : Line) (f : Firing) (kind : Kind) (rule : Rule) (local : Local) → kind_of tree f.object.0 ≡ Some kind → rule_named p kind f.rule ≡ Some rule → is_own_child tree f.object.0 f.me ≡ true → local_at line f.object.0 ≡ Some local → is_some (effect_of p tree line f) ≡ can_fire p kind rule (place_of_me tree f.object.0 f.me) local (heads_of tree line f.object.0 f.me)
effect_there p tree line f kind rule local is named own_child there = ap is_some (effect_is p tree line f kind rule local is named own_child there) ∙ some-cond _ _

-- the clauses of a rule hold in the image of a line exactly where its firing is possible there
pub image_exact : (p : Protocol) (tree : Tree) (line : Line) (f : Firing) (kind : Kind) (rule : Rule) (t : TemplateName) (local : Local) → IsLawful tree → kind_of tree f.object.0 ≡ Some kind → rule_named p kind f.rule ≡ Some rule → template_of p kind rule ≡ Ok t → IsTrue (is_rule (counts_of p (part p kind)) rule) → is_own_child tree f.object.0 f.me ≡ true → IsTrue (me_fits kind rule.take (place_of_me tree f.object.0 f.me) (length (children_of tree f.object.0))) → local_at line f.object.0 ≡ Some local → IsWellFormed p kind (length (children_of tree f.object.0)) local → mod_can (image tree line) (rule_at p (place_of p tree f.object.0 kind) rule (place_of_me tree f.object.0 f.me)) ≡ is_some (effect_of p tree line f)
image_exact p tree line f kind rule t local lawful is named has known own_child fits there formed =
    clauses_exact p (place_of p tree f.object.0 kind) rule t (place_of_me tree f.object.0 f.me) local (heads_of tree line f.object.0 f.me) (image tree line) has known fits refl (are_kids tree lawful f.object.0 kind is) formed (image_shows p tree line f.object.0 kind local f.me there own_child formed.dir_count)
    ∙ sym (effect_there p tree line f kind rule local is named own_child there)
