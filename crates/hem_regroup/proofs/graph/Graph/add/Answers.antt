use Rattle.std.proofs.Common.{◌<◌, ◌∙◌, sym, subst, get_or, length, arith, ◌++◌}
use Rattle.std.specs.Prelude.{IfSome}
use Rattle.std.proofs.lemmas.Result.{on_ok_weaker}
use Rattle.hem_regroup.specs.Links.{links}
use Rattle.hem_regroup.specs.Graph.{AreTables, joined, members_before}
use Rattle.hem_regroup.proofs.Tables.{no_member, below-at, all_below, room_for, built_next}
use Rattle.hem_regroup.proofs.graph.Graph.add.Goals as goal

pub join-requires-clause-from : goal.join-requires-clause-from
join-requires-clause-from c =
    let member = get_or c.args.members.now c.args.place no_member in
    let built = c.requires.built in
    let below = all_below (length c.args.self.now.nexts) c.args.members.now c.args.place member c.in_ok-from.from c.requires.below (c.in_ok-from.ensures.last ∙ built.last_is member) in
    subst (λ n. IfSome c.in_ok-from.from (λ from. from < n)) (sym built.tables.nexts_size) below

pub join-requires-clause-to : goal.join-requires-clause-to
join-requires-clause-to c = let below = below-at (length c.args.self.now.nexts) c.args.members.now c.args.place no_member c.requires.within c.requires.below in omega (arith, below, c.requires.built.tables.counts_size)

pub join-requires-clause-room : goal.join-requires-clause-room
join-requires-clause-room c =
    let below = below-at (length c.args.self.now.nexts) c.args.members.now c.args.place no_member c.requires.within c.requires.below in
    let room = room_for (length c.args.self.now.nexts) c.args.members.now c.args.place (get_or c.args.members.now c.args.place no_member).number c.args.self.now.nexts c.args.self.now.counts.items c.requires.built.tables below in
    omega (arith, room)

pub returns : goal.returns
returns c =
    let members = c.args.members.now in
    let member = get_or members c.args.place no_member in
    let seen = members_before c.args.place members in
    let new = c.join.new.self in
    on_ok_weaker c.join.result
    (λ more.
    built_next (length c.args.self.now.nexts) members c.args.place c.args.self.now.nexts new.nexts c.args.self.now.counts.items new.counts.items c.args.last.now c.replace.new.self c.requires.within c.requires.built
    (subst (λ last. AreTables (length c.args.self.now.nexts) (links seen ++ joined last member.number) new.nexts new.counts.items) c.in_ok-from.ensures.last (more (length c.args.self.now.nexts) (links seen) c.requires.built.tables))
    c.in_ok-from.ensures.now)
    c.join.ensures
