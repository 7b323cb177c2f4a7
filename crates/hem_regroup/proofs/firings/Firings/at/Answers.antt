use Rattle.std.proofs.Common.{◌∙◌, ◌<◌, sym, ap, length, Some, arith, rules}
use Rattle.std.specs.Prelude.{slice_get}
use Rattle.hem_regroup.proofs.AtPlaces.{each_inside}
use Rattle.hem_regroup.proofs.NumberedPlaces.{no_firing, numbered_size, numbered_there}
use Rattle.hem_regroup.proofs.firings.Firings.at.Goals as goal

pub bounds-self-inside-place : goal.bounds-self-inside-place
bounds-self-inside-place c =
    let all = c.self.inside in
    let size = numbered_size all.protocol.now all.tree.now all.history.now all.numbers.now c.self.invariant.2 in
    let same = ap length c.self.view_is in
    let within = c.requires in
    omega (arith, size, same, within)

pub bounds-self-inside-place-2 : goal.bounds-self-inside-place-2
bounds-self-inside-place-2 c =
    let all = c.self.inside in
    let size = numbered_size all.protocol.now all.tree.now all.history.now all.numbers.now c.self.invariant.2 in
    let each = c.self.invariant.2 in
    let same = ap length c.self.view_is in
    let within = c.requires in
    omega (arith, size, each, same, within)

pub offset_bounds-self-inside-place : goal.offset_bounds-self-inside-place
offset_bounds-self-inside-place c =
    let all = c.self.inside in
    let size = numbered_size all.protocol.now all.tree.now all.history.now all.numbers.now c.self.invariant.2 in
    let same = ap length c.self.view_is in
    let within = c.requires in
    let inside : c.args.place < length all.history.now = omega (arith, size, same, within) in
    search (rules, inside)

pub offset_bounds-self-inside-place-2 : goal.offset_bounds-self-inside-place-2
offset_bounds-self-inside-place-2 c =
    let all = c.self.inside in
    let size = numbered_size all.protocol.now all.tree.now all.history.now all.numbers.now c.self.invariant.2 in
    let each = c.self.invariant.2 in
    let same = ap length c.self.view_is in
    let within = c.requires in
    let inside : c.args.place < length all.numbers.now = omega (arith, size, each, same, within) in
    search (rules, inside)

pub with_number-requires : goal.with_number-requires
with_number-requires c =
    let all = c.self.inside in
    let size = numbered_size all.protocol.now all.tree.now all.history.now all.numbers.now c.self.invariant.2 in
    let same = ap length c.self.view_is in
    let within = c.requires in
    each_inside (λ f. f.object.0 < length all.tree.now) all.history.now c.args.place no_firing (omega (arith, size, same, within)) c.self.invariant.1

pub returns : goal.returns
returns c =
    let all = c.self.inside in
    let size = numbered_size all.protocol.now all.tree.now all.history.now all.numbers.now c.self.invariant.2 in
    let same = ap length c.self.view_is in
    let within = c.requires in
    ap (λ xs. slice_get xs c.args.place) (sym c.self.view_is)
    ∙ numbered_there all.protocol.now all.tree.now all.history.now all.numbers.now c.args.place no_firing c.self.invariant.2 (omega (arith, size, same, within))
    ∙ ap Some (sym (c.with_number.ensures all.protocol.now c.self.invariant.0))
