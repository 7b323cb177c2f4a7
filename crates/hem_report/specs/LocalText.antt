-- The texts of local states.
use Rattle.std.specs.Prelude.{ℕ, List, [], ◌++◌, map, filter, Option, None, Some, slice_get, slice_index, codes, decimal}
use Rattle.std.specs.List.{enumerate_from, join_by}
use Rattle.std.specs.Option.{option_map_or}
use Rattle.hem_base.specs.Sets.{has_bit}
use Rattle.hem_base.specs.declared.ids.Status8.{Status8}
use Rattle.hem_base.specs.declared.ids.KidSet.{KidSet}
use Rattle.hem_base.specs.declared.ids.ObjectId.{ObjectId}
use Rattle.hem_base.specs.declared.ids.Kind.{Kind}
use Rattle.hem_base.specs.declared.ids.Kind.TheVariants.{Root, Mid, Leaf}
use Rattle.hem_object.specs.declared.state.By.{By}
use Rattle.hem_object.specs.declared.state.By.TheVariants.{Processor, Kid, Parent, Own}
use Rattle.hem_object.specs.declared.state.Lock.{Lock}
use Rattle.hem_syntax.specs.Protocol.{Protocol, Text, part}
use Rattle.hem_object.specs.Local.{Local}
use Rattle.hem_report.specs.Texts.{text_of_each, status_text, message_text}

-- the numbers of objects
abbrev pub numbers_of : List ObjectId → List ℕ
numbers_of objects = map (λ id. id.0) objects

-- the word for a kind
abbrev pub kind_text : Kind → Text
kind_text Root = codes "root"
kind_text Mid = codes "mid"
kind_text Leaf = codes "leaf"

-- for whom a lock of an object with these children is held: a child goes by its number
abbrev pub origin_text : List ℕ → By → Text
origin_text children Processor = codes "cpu"
origin_text children (Kid c) = decimal (slice_index children c)
origin_text children Parent = codes "parent"
origin_text children Own = codes "self"

-- a held lock: origin, id and value
abbrev pub held_text : Protocol → List ℕ → Lock → Text
held_text p children lock = origin_text children lock.by ++ codes ":" ++ message_text p lock.request

-- those of the children whose places are in the set
abbrev pub awaited_of : List ℕ → KidSet → List ℕ
awaited_of children set = map (λ k. k.1) (filter (λ k. has_bit set.0 k.0) (enumerate_from 0 children))

-- an uplock
abbrev pub uplock_text : Protocol → List ℕ → Option Lock → Text
uplock_text p children None = codes "free"
uplock_text p children (Some lock) = held_text p children lock

-- a downlock: one that is held tells the awaited children too
abbrev pub downlock_text : Protocol → List ℕ → Option Lock → Text
downlock_text p children None = codes "free"
downlock_text p children (Some lock) =
    held_text p children lock ++ codes ":" ++ join_by decimal (codes ",") (awaited_of children lock.awaited)

-- the name of a kind's field at a place
abbrev pub field_name : Protocol → Kind → ℕ → Text
field_name p kind k = option_map_or (λ field. field.0) (slice_get (part p kind).fields k) []

-- the status of the field at a place
abbrev pub field_text : Protocol → Kind → ℕ → Status8 → Text
field_text p kind k status = codes " " ++ field_name p kind k ++ codes "=" ++ status_text p status

-- the fields and the value
abbrev pub values_text : Protocol → Kind → Local → Text
values_text p kind local = text_of_each (field_text p kind) 0 local.fields ++ codes " val=" ++ decimal local.val

-- both locks of an object with these children
abbrev pub locks_text : Protocol → List ℕ → Local → Text
locks_text p children local = codes " up=" ++ uplock_text p children local.up ++ codes " down=" ++ downlock_text p children local.down

-- the children's statuses, which a leaf doesn't have
abbrev pub dir_text : Protocol → Kind → List Status8 → Text
dir_text p Leaf dir = []
dir_text p _ dir = codes " dir=" ++ join_by (status_text p) (codes ",") dir

-- what an object of that kind, with these children, keeps of a line
abbrev pub local_text : Protocol → Kind → List ℕ → Local → Text
local_text p kind children local = values_text p kind local ++ locks_text p children local ++ dir_text p kind local.dir ++ codes "\n"

-- the line of object o
abbrev pub object_line : Protocol → Kind → List ℕ → ℕ → Local → Text
object_line p kind children o local = decimal o ++ codes " " ++ kind_text kind ++ local_text p kind children local
