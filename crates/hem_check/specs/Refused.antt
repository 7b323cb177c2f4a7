-- What is told of a protocol that isn't disciplined.
use Rattle.std.specs.Prelude.{option_map}
use Rattle.hem_syntax.specs.Protocol.{Protocol}
use Rattle.hem_abstract.specs.Named.{named}
use Rattle.hem_check.specs.Discipline.{Broken}
use Rattle.hem_check.specs.declared.refusal.Refusal.{Refusal}

-- the refusal of a protocol by a broken rule, with the breach by names
abbrev pub refusal_of : Protocol → Broken → Refusal
refusal_of p broken =
    record {
      kind = broken.kind;
      rule = broken.rule;
      clause = broken.failure.clause;
      breach = option_map (named broken.rule) broken.failure.breach;
      back = p;
    }
