-- Inclusive MSI at the limits of statuses and fields: a mid has 960 abstract states.
use Rattle.std.specs.Prelude.{[], ◌∷◌, ◌++◌, codes}
use Rattle.hem_syntax.specs.Protocol.{Protocol}
use Rattle.hem_examples.specs.Names.{invalid}
use Rattle.hem_examples.specs.Msi.{msi}

-- inclusive MSI with one more status and two more fields of a mid
abbrev pub widest : Protocol
widest = record msi { statuses = msi.statuses ++ codes "E" ∷ []; mid = record { fields = msi.mid.fields ++ (codes "own", invalid) ∷ (codes "more", invalid) ∷ []; dir = msi.mid.dir; rules = msi.mid.rules } }
