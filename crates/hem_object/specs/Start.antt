-- What an object keeps of a line at the start.
use Rattle.std.specs.Prelude.{ℕ, [], map, replicate, None}
use Rattle.std.specs.Option.{option_map_or}
use Rattle.hem_base.specs.declared.ids.Kind.{Kind}
use Rattle.hem_syntax.specs.Protocol.{Protocol, part}
use Rattle.hem_object.specs.Local.{Local}

-- a local state at the start: the first status of each field and of each child's entry, the value 0, both locks free
abbrev pub first_local : Protocol → Kind → ℕ → Local
first_local p kind children =
    record {
      fields = map (λ f. f.1) (part p kind).fields;
      dir = option_map_or (λ s. replicate children s) (part p kind).dir [];
      val = 0;
      up = None;
      down = None;
    }
