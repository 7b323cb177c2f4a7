-- A register that gets a value gets the number that the value stands for.
use Rattle.std.proofs.Common.{◌≡◌, refl, ◌∙◌, ℕ, Bool, true, false, List, [], Option, Some, None}
use Rattle.std.specs.Prelude.{unwrap_or, option_map}
use Rattle.std.specs.Option.{option_map_or}
use Rattle.hem_base.specs.declared.ids.Message.{Message}
use Rattle.hem_syntax.specs.declared.rule.Side.TheVariants.{Up, Down}
use Rattle.hem_syntax.specs.declared.rule.Take.{Take}
use Rattle.hem_syntax.specs.declared.rule.Take.TheVariants as take
use Rattle.hem_syntax.specs.declared.rule.Value.{Value}
use Rattle.hem_syntax.specs.declared.rule.Value.TheVariants as value
use Rattle.hem_object.specs.declared.state.Lock.{Lock}
use Rattle.hem_object.specs.Local.{Local}
use Rattle.hem_object.specs.Guard.{value_of}
use Rattle.hem_fire.specs.Heads.{Heads}
use Rattle.hem_fire.specs.View.{value_in, request_of, view_of}
use Rattle.hem_module.specs.Module.{Item, put}
use Rattle.hem_module.specs.Step.{Held, number_after}
use Rattle.hem_emit.specs.Names.{Reg, Queue, kept}
use Rattle.hem_emit.specs.Place.{Place}
use Rattle.hem_emit.specs.Actions.{with_value}
use Rattle.hem_emit.specs.Image.{item_of, lock_number}
use Rattle.hem_emit.specs.Shows.{Shows}

-- a value that is not that of the children's responses
abbrev pub is_plain : Value → Bool
is_plain value.Rs = false
is_plain _ = true

pub head_value_is : (head : Option Item) (m : Option Message) → head ≡ option_map item_of m → option_map_or (λ i. i.value) head 0 ≡ unwrap_or (value_in m) 0
head_value_is head None is = rw is refl
head_value_is head (Some m) is = rw is refl

pub kept_value_is : (kids : List ℕ) (lock : Option Lock) → lock_number kids kept lock ≡ unwrap_or (option_map (λ m. m.value) (request_of lock)) 0
kept_value_is kids None = refl
kept_value_is kids (Some l) = refl

module _ {at : Place} {me : Option ℕ} {local : Local} {heads : Heads} {s : Held Reg Queue} (shows : Shows at me local heads s) where
  pub plain_put : (is_it : Reg → Bool) (r : Reg) → is_it r ≡ true → (t : Take) (v : Value) (old : ℕ) → is_plain v ≡ true → number_after s is_it (with_value at me t v [] (put r)) old ≡ unwrap_or (value_of v local (view_of t me local heads)) 0
  plain_put is_it r it t value.Val old plain = rw it shows.value
  plain_put is_it r it t value.Zero old plain = rw it refl
  plain_put is_it r it (take.Me id) value.Msg old plain = rw it (head_value_is _ heads.request shows.requests)
  plain_put is_it r it (take.Parent id) value.Msg old plain = rw it (head_value_is _ heads.parent shows.parent)
  plain_put is_it r it (take.Kids id) value.Msg old plain = rw it refl
  plain_put is_it r it take.Nothing value.Msg old plain = rw it refl
  plain_put is_it r it (take.Me id) value.Kept old plain = rw it refl
  plain_put is_it r it (take.Parent id) value.Kept old plain = rw it (shows.locks Up kept ∙ kept_value_is at.kids local.up)
  plain_put is_it r it (take.Kids id) value.Kept old plain = rw it (shows.locks Down kept ∙ kept_value_is at.kids local.down)
  plain_put is_it r it take.Nothing value.Kept old plain = rw it refl
  plain_put is_it r it t value.Rs old plain = cc
