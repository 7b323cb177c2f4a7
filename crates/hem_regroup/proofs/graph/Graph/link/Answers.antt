use Rattle.std.proofs.Common.{sym, subst, ◌∷◌, [], ◌++◌, arith}
use Rattle.hem_regroup.specs.Graph.{AreTables}
use Rattle.hem_regroup.proofs.Tables.{tables_more}
use Rattle.hem_regroup.proofs.graph.Graph.link.Goals as goal

pub returns : goal.returns
returns c = λ count ls tables.
    let led = c.in_ok-append.ensures in
    let to = c.args.to in
    let more = tables_more count ls c.args.from to c.args.self.now.nexts c.append.new.lists c.args.self.now.counts.items c.count.new.self.counts.items tables (omega (arith, tables.nexts_size)) (omega (arith, tables.counts_size)) led.there led.others led.size c.count.ensures.counts in
    subst (λ nexts. AreTables count (ls ++ record { from = c.args.from; to = to } ∷ []) nexts c.count.new.self.counts.items) (sym c.count.ensures.same) more
