-- Who takes from a list, and who sends to it.
use Rattle.std.proofs.Common.{◌≡◌, refl, ap, ℕ, Bool, true, false, arith, Option, Some, None}
use Rattle.std.specs.Prelude.{◌==◌, ◌&&◌}
use Rattle.hem_base.specs.declared.ids.Firing.{Firing}
use Rattle.hem_fire.specs.declared.outs.To.{To}
use Rattle.hem_fire.specs.declared.outs.To.TheVariants as send
use Rattle.hem_fire.specs.declared.outs.Outs.{Outs}
use Rattle.hem_tree.specs.Tree.{Tree, is_number, is_child, parent_of}
use Rattle.hem_system.specs.declared.lane.Lane.{Lane}
use Rattle.hem_system.specs.declared.lane.Lane.TheVariants.{UpRequests, UpResponses, Down, Requests, Answers}
use Rattle.hem_system.specs.State.{takes, reaches, taker_of, sender_of}

pub and_left : (a b : Bool) → (a && b) ≡ true → a ≡ true
and_left true b h = refl
and_left false b h = h

pub and_right : (a b : Bool) → (a && b) ≡ true → b ≡ true
and_right true b h = h
and_right false b h = cc

-- a number that is that number
same_number : (a b : ℕ) → (a == b) ≡ true → a ≡ b
same_number a b h = grind arith

number_is : (o : Option ℕ) (n : ℕ) → is_number o n ≡ true → o ≡ Some n
number_is None n h = cc
number_is (Some m) n h = ap Some (same_number m n h)

-- a child's parent
pub parent_is : (tree : Tree) (k o : ℕ) → is_child tree k o ≡ true → parent_of tree k ≡ Some o
parent_is tree k o h = number_is (parent_of tree k) o h

-- the object that takes from a list
pub taker_is : (tree : Tree) (f : Firing) (outs : Outs) (k : ℕ) (lane : Lane) → takes tree f outs k lane ≡ true → taker_of tree k lane ≡ Some f.object.0
taker_is tree f outs k UpRequests h = parent_is tree k f.object.0 (and_right _ _ h)
taker_is tree f outs k UpResponses h = parent_is tree k f.object.0 (and_left _ _ h)
taker_is tree f outs k Down h = ap Some (same_number k f.object.0 (and_right _ _ h))
taker_is tree f outs k Requests h = ap Some (same_number k f.object.0 (and_right _ _ h))
taker_is tree f outs k Answers h = cc

-- the object that sends to a list
pub sender_is : (tree : Tree) (f : Firing) (to : To) (k : ℕ) (lane : Lane) → reaches tree f to k lane ≡ true → sender_of tree k lane ≡ Some f.object.0
sender_is tree f send.Answer k Answers h = ap Some (same_number k f.object.0 h)
sender_is tree f send.UpRequest k UpRequests h = ap Some (same_number k f.object.0 h)
sender_is tree f send.UpResponse k UpResponses h = ap Some (same_number k f.object.0 h)
sender_is tree f (send.Kid c) k Down h = parent_is tree k f.object.0 (and_left _ _ h)
sender_is tree f (send.Kids set) k Down h = parent_is tree k f.object.0 (and_left _ _ h)
sender_is tree f _ k _ h = cc
