-- The fields of a kind.
use Rattle.std.proofs.Common.{◌≡◌, ◌≤◌, refl, ℕ, List, [], length, map, Option, None}
use Rattle.std.specs.Prelude.{replicate}
use Rattle.std.specs.Option.{option_map_or}
use Rattle.hem_base.specs.declared.ids.Status8.{Status8}
use Rattle.hem_base.specs.declared.ids.Kind.{Kind}
use Rattle.hem_base.specs.declared.ids.Kind.TheVariants.{Root, Mid, Leaf}
use Rattle.hem_syntax.specs.Protocol.{Text, Protocol, part}
use Rattle.hem_syntax.specs.Lawful.{IsProtocol}
use Rattle.hem_object.specs.Local.{Local}
use Rattle.hem_object.specs.Start.{first_local}

-- each kind has at most three
pub few_fields : (p : Protocol) (kind : Kind) → IsProtocol p → length (part p kind).fields ≤ 3
few_fields p Root lawful = lawful.root.few_fields
few_fields p Mid lawful = lawful.mid.few_fields
few_fields p Leaf lawful = lawful.leaf.few_fields

-- a local state at the start, of its parts
pub starts_with : (p : Protocol) (kind : Kind) (children : ℕ) (fields : List (Text × Status8)) (dir : Option Status8) (first entries : List Status8) → fields ≡ (part p kind).fields → dir ≡ (part p kind).dir → first ≡ map (λ f. f.1) fields → entries ≡ option_map_or (λ s. replicate children s) dir []
    → (let local : Local = record { fields = first; dir = entries; val = 0; up = None; down = None } in local) ≡ first_local p kind children
starts_with p kind children fields dir first entries fields_is dir_is first_is entries_is = rw (first_is, entries_is, fields_is, dir_is) refl
