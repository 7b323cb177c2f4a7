-- The partners that stand at a rule's place.
use Rattle.std.specs.Prelude.{cond, List, [], ◌∷◌, ◌++◌, map, filter}
use Rattle.hem_base.specs.declared.ids.Kind.{Kind}
use Rattle.hem_syntax.specs.declared.rule.Rule.{Rule}
use Rattle.hem_syntax.specs.Protocol.{Protocol, part}
use Rattle.hem_abstract.specs.Partners.{Partner, alone, pair}
use Rattle.hem_abstract.specs.Stable.{is_of, is_imm_up, is_rq_down_down, is_rs_up_up}

-- the partners that stand at a rule's place: itself where it answers the parent at once, its pairs where it passes the request on
abbrev pub partners_at : Protocol → Kind → Rule → List Partner
partners_at p kind d =
    cond (is_of p kind is_imm_up d) (alone d ∷ []) []
    ++ cond (is_of p kind is_rq_down_down d) (map (pair d) (filter (is_of p kind is_rs_up_up) (part p kind).rules)) []
