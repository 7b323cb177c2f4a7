-- What each part of a firing changes in a local state.
use Rattle.std.proofs.Common.{◌≡◌, refl, ◌∙◌, ℕ, List, [], ◌∷◌, Option, Some, None}
use Rattle.std.specs.Option.{option_map_or}
use Rattle.hem_base.specs.declared.ids.Kind.{Kind}
use Rattle.hem_syntax.specs.declared.rule.Rule.{Rule}
use Rattle.hem_syntax.specs.declared.rule.Side.{Side}
use Rattle.hem_syntax.specs.declared.rule.Side.TheVariants.{Up, Down}
use Rattle.hem_syntax.specs.declared.rule.Assign.{Assign}
use Rattle.hem_syntax.specs.declared.rule.Assign.TheVariants as assign
use Rattle.hem_object.specs.declared.state.Lock.{Lock}
use Rattle.hem_object.specs.declared.state.View.{View}
use Rattle.hem_syntax.specs.Protocol.{Protocol}
use Rattle.hem_object.specs.Local.{Local}
use Rattle.hem_object.specs.Changes.{in_turn, assign_own, assign_targets, assign_me, assigned, freed, locked}
use Rattle.hem_object.specs.Targets.{targets_of}
use Rattle.hem_fire.specs.Heads.{Heads}
use Rattle.hem_fire.specs.View.{view_of}
use Rattle.hem_fire.specs.Locks.{lock_taken, request_in_hand}
use Rattle.hem_fire.specs.OneFire.{local_after}

-- what a change keeps, changes in turn keep
pub in_turn-keeps : {B : Type 0} (f : Local → B) (change : Assign → Local → Local) → ((a : Assign) (local : Local) → f (change a local) ≡ f local) → (sets : List Assign) (local : Local) → f (in_turn change sets local) ≡ f local
in_turn-keeps f change keeps [] local = refl
in_turn-keeps f change keeps (a ∷ sets) local = in_turn-keeps f change keeps sets (change a local) ∙ keeps a local

-- what looks at neither directory nor locks
pub record LooksAtOwn {B : Type 0} (f : Local → B) : Type 0 where
  pub targets : (view : View) (a : Assign) (local : Local) → f (assign_targets view a local) ≡ f local
  pub me : (view : View) (a : Assign) (local : Local) → f (assign_me view a local) ≡ f local
  pub free : (side : Option Side) (local : Local) → f (freed side local) ≡ f local
  pub lock : (side : Side) (lock : Lock) (local : Local) → f (locked side lock local) ≡ f local

-- a lock that is taken keeps what a lock keeps
pub locked-keeps : {B : Type 0} (f : Local → B) (taken : Option (Side × Lock)) (local : Local) → ((side : Side) (lock : Lock) (local : Local) → f (locked side lock local) ≡ f local) → f (option_map_or (λ l. locked l.0 l.1 local) taken local) ≡ f local
locked-keeps f None local keeps = refl
locked-keeps f (Some l) local keeps = keeps l.0 l.1 local

pub own_after : {B : Type 0} (f : Local → B) → LooksAtOwn f → (p : Protocol) (kind : Kind) (rule : Rule) (me : Option ℕ) (local : Local) (heads : Heads) → f (local_after p kind rule me local heads) ≡ f (in_turn (assign_own local (view_of rule.take me local heads)) rule.sets local)
own_after f looks p kind rule me local heads =
    let view = view_of rule.take me local heads in
    let one = in_turn (assign_own local view) rule.sets local in
    let two = in_turn (assign_targets view) rule.sets one in
    let three = in_turn (assign_me view) rule.sets two in
    locked-keeps f (lock_taken rule.lock view (request_in_hand p rule.take rule.send local view heads) (targets_of rule.send local view)) (freed rule.free three) looks.lock
    ∙ looks.free rule.free three
    ∙ in_turn-keeps f (assign_me view) (looks.me view) rule.sets two
    ∙ in_turn-keeps f (assign_targets view) (looks.targets view) rule.sets one

pub fields_own : LooksAtOwn (λ local. local.fields)
fields_own =
    record {
      targets = by_targets;
      me = by_me;
      free = by_free;
      lock = by_lock;
    }
  where
    by_targets : (view : View) (a : Assign) (local : Local) → (assign_targets view a local).fields ≡ local.fields
    by_targets view (assign.Field i s) local = refl
    by_targets view (assign.Val v) local = refl
    by_targets view (assign.Me s) local = refl
    by_targets view (assign.Targets s) local = refl

    by_me : (view : View) (a : Assign) (local : Local) → (assign_me view a local).fields ≡ local.fields
    by_me view (assign.Field i s) local = refl
    by_me view (assign.Val v) local = refl
    by_me view (assign.Me s) local = refl
    by_me view (assign.Targets s) local = refl

    by_free : (side : Option Side) (local : Local) → (freed side local).fields ≡ local.fields
    by_free None local = refl
    by_free (Some Up) local = refl
    by_free (Some Down) local = refl

    by_lock : (side : Side) (lock : Lock) (local : Local) → (locked side lock local).fields ≡ local.fields
    by_lock Up lock local = refl
    by_lock Down lock local = refl

pub val_own : LooksAtOwn (λ local. local.val)
val_own =
    record {
      targets = by_targets;
      me = by_me;
      free = by_free;
      lock = by_lock;
    }
  where
    by_targets : (view : View) (a : Assign) (local : Local) → (assign_targets view a local).val ≡ local.val
    by_targets view (assign.Field i s) local = refl
    by_targets view (assign.Val v) local = refl
    by_targets view (assign.Me s) local = refl
    by_targets view (assign.Targets s) local = refl

    by_me : (view : View) (a : Assign) (local : Local) → (assign_me view a local).val ≡ local.val
    by_me view (assign.Field i s) local = refl
    by_me view (assign.Val v) local = refl
    by_me view (assign.Me s) local = refl
    by_me view (assign.Targets s) local = refl

    by_free : (side : Option Side) (local : Local) → (freed side local).val ≡ local.val
    by_free None local = refl
    by_free (Some Up) local = refl
    by_free (Some Down) local = refl

    by_lock : (side : Side) (lock : Lock) (local : Local) → (locked side lock local).val ≡ local.val
    by_lock Up lock local = refl
    by_lock Down lock local = refl

-- the directory after a firing is that after the sets
pub dir_after : (p : Protocol) (kind : Kind) (rule : Rule) (me : Option ℕ) (local : Local) (heads : Heads) → (local_after p kind rule me local heads).dir ≡ (assigned rule.sets (view_of rule.take me local heads) local).dir
dir_after p kind rule me local heads =
    let view = view_of rule.take me local heads in
    locked-keeps (λ local. local.dir) (lock_taken rule.lock view (request_in_hand p rule.take rule.send local view heads) (targets_of rule.send local view)) (freed rule.free (assigned rule.sets view local)) by_lock
    ∙ by_free rule.free (assigned rule.sets view local)
  where
    by_free : (side : Option Side) (local : Local) → (freed side local).dir ≡ local.dir
    by_free None local = refl
    by_free (Some Up) local = refl
    by_free (Some Down) local = refl

    by_lock : (side : Side) (lock : Lock) (local : Local) → (locked side lock local).dir ≡ local.dir
    by_lock Up lock local = refl
    by_lock Down lock local = refl
