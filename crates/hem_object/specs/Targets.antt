-- The children that a firing sends to.
use Rattle.std.specs.Prelude.{ℕ, Bool, not, ◌&&◌, length, slice_get}
use Rattle.hem_base.specs.Sets.{bits_where}
use Rattle.hem_base.specs.declared.ids.KidSet.{KidSet}
use Rattle.hem_base.specs.declared.ids.StatusSet.{StatusSet}
use Rattle.hem_syntax.specs.declared.rule.SendTo.{SendTo}
use Rattle.hem_syntax.specs.declared.rule.SendTo.TheVariants as send
use Rattle.hem_object.specs.declared.state.View.{View}
use Rattle.hem_object.specs.Local.{Local, nobody}
use Rattle.hem_object.specs.Guard.{is_in, is_requester}

-- whether the directory has the child at that place in the set
abbrev pub kid_is_in : Local → StatusSet → ℕ → Bool
kid_is_in local set k = is_in set (slice_get local.dir k)

-- the children that a firing sends to
abbrev pub targets_of : SendTo → Local → View → KidSet
targets_of (send.Kids set id v) local view = record { 0 = bits_where (kid_is_in local set) (length local.dir) }
targets_of (send.Others set id v) local view =
    record { 0 = bits_where (λ k. kid_is_in local set k && not (is_requester view k)) (length local.dir) }
targets_of _ local view = nobody
