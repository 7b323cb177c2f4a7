use Rattle.std.proofs.Common.{subst, ap, sym, ◌∙◌, IsPermutation, map}
use Rattle.hem_base.specs.declared.ids.Stamped.{Stamped}
use Rattle.hem_merge.specs.Journals.{IsMerged}
use Rattle.hem_merge.proofs.Journal.{merged-journal}
use Rattle.hem_merge.proofs.merging.merge.Goals as goal

pub returns-clause-history : goal.returns-clause-history
returns-clause-history c p tree old parts new fresh tied same =
    let merged : IsMerged c.args.journals.now c.in_ok-history.history.items =
    record {
      stamped = c.in_ok-all.all.items;
      same = subst (λ ss. IsPermutation ss c.in_ok-all.all.items) c.in_ok-gathered.ensures c.in_ok-all.ensures.same;
      sorted = c.in_ok-all.ensures.sorted;
      firings = sym (ap (map (λ (s : Stamped). s.firing)) c.as_slice.ensures.value) ∙ c.in_ok-history.ensures;
    }
    in merged-journal _ _ p tree old parts new merged fresh tied same
