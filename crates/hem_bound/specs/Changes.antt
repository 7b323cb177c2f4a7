-- What a firing of each template takes off the potential of its line, and what it puts on.
use Rattle.std.specs.Prelude.{ℕ, ◌≡◌, ◌+◌, ◌*◌, Option, None, Some}
use Rattle.std.specs.Option.{option_map_or}
use Rattle.hem_base.specs.Sets.{has_bit}
use Rattle.hem_base.specs.declared.ids.ObjectId.{ObjectId}
use Rattle.hem_base.specs.declared.ids.Firing.{Firing}
use Rattle.hem_template.specs.declared.template_name.TemplateName.{TemplateName}
use Rattle.hem_template.specs.declared.template_name.TemplateName.TheVariants.{ImmSelf, ImmDown, ImmUp, RqUp, RqUpSelf, RqUpDown, RqDownSelf, RqDownDown, RsDown, RsDownSelf, RsDownRqDown, RsUpDown, RsUpUp, RsUpSelf}
use Rattle.hem_object.specs.declared.state.By.{By}
use Rattle.hem_syntax.specs.Protocol.{Protocol}
use Rattle.hem_object.specs.Local.{Local}
use Rattle.hem_template.specs.Template.{row_of}
use Rattle.hem_fire.specs.declared.outs.To.{To}
use Rattle.hem_fire.specs.declared.outs.To.TheVariants as to
use Rattle.hem_tree.specs.Tree.{Tree}
use Rattle.hem_system.specs.State.{Line, Effect, local_at, place_of_me, line_after}
use Rattle.hem_rows.specs.Acts.{requester_of}
use Rattle.hem_locks.specs.Allowed.{HasTemplate}
use Rattle.hem_bound.specs.Sizes.{size_of, sizes_where}
use Rattle.hem_bound.specs.Potential.{up_weight, kid_size, potential}

-- the weight of the request of the child that a firing names
abbrev pub request_weight : Tree → Option ObjectId → ℕ
request_weight tree None = 0
request_weight tree (Some child) = up_weight tree child.0

-- the size of the requester's subtree, where the requester is a child
abbrev pub asked_size : Tree → ℕ → Option By → ℕ
asked_size tree o asked = option_map_or (kid_size tree o) asked 0

-- the sizes of the subtrees of the children to which requests go
abbrev pub targets_size : Tree → ℕ → To → ℕ
targets_size tree o (to.Kids set) = sizes_where tree o (has_bit set.0)
targets_size tree o _ = 0

-- what a firing takes off the potential: by the weight of the child's request, the size of its object and that of the requester
abbrev pub taken_off : TemplateName → ℕ → ℕ → ℕ → ℕ
taken_off ImmSelf request own asked = 0
taken_off ImmDown request own asked = request
taken_off ImmUp request own asked = 2 * own
taken_off RqUp request own asked = request
taken_off RqUpSelf request own asked = 0
taken_off RqUpDown request own asked = request
taken_off RqDownSelf request own asked = 0
taken_off RqDownDown request own asked = 2 * own
taken_off RsDown request own asked = 2 * own
taken_off RsDownSelf request own asked = 2 * own
taken_off RsDownRqDown request own asked = 2 * own
taken_off RsUpDown request own asked = 1 + 2 * asked
taken_off RsUpUp request own asked = 1
taken_off RsUpSelf request own asked = 1

-- what it puts on: by the weight of a request that its object sends up, the size of the requester and those of the targets
abbrev pub put_on : TemplateName → ℕ → ℕ → ℕ → ℕ
put_on ImmSelf up asked targets = 0
put_on ImmDown up asked targets = 2 * asked
put_on ImmUp up asked targets = 0
put_on RqUp up asked targets = up
put_on RqUpSelf up asked targets = up
put_on RqUpDown up asked targets = 1 + 2 * asked + 2 * targets
put_on RqDownSelf up asked targets = 1 + 2 * targets
put_on RqDownDown up asked targets = 1 + 2 * targets
put_on RsDown up asked targets = 2 * asked
put_on RsDownSelf up asked targets = 0
put_on RsDownRqDown up asked targets = 1 + 2 * asked + 2 * targets
put_on RsUpDown up asked targets = 2 * asked
put_on RsUpUp up asked targets = 0
put_on RsUpSelf up asked targets = 0

-- what a firing takes off the potential, from an object in that local state
abbrev pub off : Tree → Firing → TemplateName → Local → ℕ
off tree f t local =
    let o = f.object.0 in
    taken_off t (request_weight tree f.me) (size_of tree o) (asked_size tree o (requester_of (row_of t).taking (place_of_me tree o f.me) local))

-- what it puts on
abbrev pub on : Tree → Firing → Effect → TemplateName → Local → ℕ
on tree f e t local =
    let o = f.object.0 in
    put_on t (up_weight tree o) (asked_size tree o (requester_of (row_of t).taking (place_of_me tree o f.me) local)) (targets_size tree o e.outs.to)

-- a firing changes the potential as its template says
pub record Changes (p : Protocol) (tree : Tree) (line : Line) (f : Firing) (e : Effect) : Type 0 where
  pub template : TemplateName
  pub of : HasTemplate p tree f template
  pub local : Local
  pub there : local_at line f.object.0 ≡ Some local
  pub change : potential tree (line_after tree f e line) + off tree f template local ≡ potential tree line + on tree f e template local
