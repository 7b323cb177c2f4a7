-- The lists that an object lacks.
use Rattle.std.specs.Prelude.{ℕ, ◌≡◌, Bool, true, false, [], Some}
use Rattle.hem_base.specs.declared.ids.Kind.{Kind}
use Rattle.hem_base.specs.declared.ids.Kind.TheVariants.{Root, Mid, Leaf}
use Rattle.hem_tree.specs.Tree.{Tree, kind_of}
use Rattle.hem_system.specs.declared.lane.Lane.{Lane}
use Rattle.hem_system.specs.declared.lane.Lane.TheVariants.{UpRequests, UpResponses, Down, Requests, Answers}
use Rattle.hem_system.specs.State.{State}
use Rattle.hem_system.specs.Laws.{list_in}

-- whether an object of a kind has a list: a root has none to a parent, and only a leaf has requests and answers
abbrev pub has_list : Kind → Lane → Bool
has_list Root lane = false
has_list Mid UpRequests = true
has_list Mid UpResponses = true
has_list Mid Down = true
has_list Mid Requests = false
has_list Mid Answers = false
has_list Leaf lane = true

-- each list that an object lacks is empty
abbrev pub MissingAreEmpty : Tree → State → Type 0
MissingAreEmpty tree s = (l o : ℕ) (kind : Kind) (lane : Lane) → kind_of tree o ≡ Some kind → has_list kind lane ≡ false → list_in s l o lane ≡ []
