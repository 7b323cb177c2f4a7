-- What a firing asks first: a message that it takes, or of a self rule that self firings are left.
use Rattle.std.specs.Prelude.{ℕ, Bool, false, not, Some}
use Rattle.std.specs.List.{list_any}
use Rattle.hem_syntax.specs.declared.rule.Take.{Take}
use Rattle.hem_syntax.specs.declared.rule.Take.TheVariants as take
use Rattle.hem_fire.specs.Heads.{has_id}
use Rattle.hem_choice.specs.Choices.{Sight, message_in, request_of}

-- what a firing asks first that takes so and names no child
abbrev pub asks_alone : Sight → Take → Bool
asks_alone sight (take.Me id) = has_id sight.asked id
asks_alone sight (take.Parent id) = has_id (message_in sight.look.parent) id
asks_alone sight (take.Kids id) = list_any (λ kid. has_id (message_in kid.response) id) sight.look.kids
asks_alone sight take.Nothing = not sight.spent

-- what a firing asks first that takes so and names the child at a place
abbrev pub asks_child : Sight → Take → ℕ → Bool
asks_child sight (take.Me id) place = has_id (message_in (request_of sight.look (Some place))) id
asks_child sight _ place = false

-- what a firing asks first that takes so and names some child
abbrev pub asks_some_child : Sight → Take → Bool
asks_some_child sight (take.Me id) = list_any (λ kid. has_id (message_in kid.request) id) sight.look.kids
asks_some_child sight _ = false
