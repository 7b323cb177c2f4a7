-- The canonical text of a work.
use Rattle.std.specs.Prelude.{ℕ, List, [], ◌∷◌, ◌++◌, flat_map, length, slice_index_or, codes, decimal}
use Rattle.hem_base.specs.declared.ids.Message.{Message}
use Rattle.hem_syntax.specs.Protocol.{Text, Protocol}
use Rattle.hem_print.specs.Canonical.{message_name}
use Rattle.hem_tree.specs.Tree.{below}
use Rattle.hem_work.specs.Work.{Work, requests_of}

-- a request: the name of its id, and its value
abbrev pub request_text : Protocol → Message → Text
request_text p m = codes " " ++ message_name p m.id ++ codes " " ++ decimal m.value

-- an entry: an object, a line and requests
abbrev pub entry_text : Protocol → ℕ → ℕ → List Message → Text
entry_text p o line requests = codes "at " ++ decimal o ++ codes " line " ++ decimal line ++ flat_map (request_text p) requests ++ codes "\n"

-- the entry of an object and a line, which is left out where there are no requests
abbrev pub entry_if_any : Protocol → ℕ → ℕ → List Message → Text
entry_if_any p o line [] = []
entry_if_any p o line (m ∷ more) = entry_text p o line (m ∷ more)

-- the entries of an object, by line
abbrev pub entries_of : Protocol → Work → ℕ → Text
entries_of p work o = flat_map (λ line. entry_if_any p o line (requests_of work line o)) (below work.lines)

-- the number of lines and the number of self firings
abbrev pub head_text : Work → Text
head_text work = codes "work lines " ++ decimal work.lines ++ codes " self " ++ decimal work.self_count ++ codes "\n"

-- how many objects a work speaks of
abbrev pub objects_of : Work → ℕ
objects_of work = length (slice_index_or work.requests 0 [])

-- the canonical text of a work: its numbers, then its entries by object and then by line
abbrev pub work_text : Protocol → Work → Text
work_text p work = head_text work ++ flat_map (entries_of p work) (below (objects_of work)) ++ codes "end\n"
