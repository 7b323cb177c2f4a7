-- The grammar of histories:  HISTORY = history {NUMBER NUMBER RULE [from NUMBER]} end
use Rattle.std.specs.Prelude.{ℕ, ◌-◌, ◌&&◌, Bool, true, List, [], ◌∷◌, ◌++◌, length, Option, Some, None, unwrap_or, is_some, nat_le, nat_lt, slice_get, slice_set}
use Rattle.hem_base.specs.declared.ids.LineId.{LineId}
use Rattle.hem_base.specs.declared.ids.ObjectId.{ObjectId}
use Rattle.hem_base.specs.declared.ids.Firing.{Firing}
use Rattle.hem_text.specs.declared.symbol.Symbol.{Symbol}
use Rattle.hem_text.specs.declared.symbol.Symbol.TheVariants.{One, Maybe, Many}
use Rattle.hem_text.specs.declared.symbol.Stands.{Stands}
use Rattle.hem_text.specs.declared.symbol.Stands.TheVariants as stand
use Rattle.hem_base.specs.declared.words.Reserved.TheVariants as word
use Rattle.hem_text.specs.Lexemes.{Lexeme}
use Rattle.hem_text.specs.Grammars.{Grammar}
use Rattle.hem_syntax.specs.Protocol.{Text, Protocol}
use Rattle.hem_syntax.specs.Names.{place_in}
use Rattle.hem_text.specs.Spelling.{is_word, is_number, is_the_word}
use Rattle.hem_history.specs.declared.draft.Terminal.{Terminal}
use Rattle.hem_history.specs.declared.draft.Terminal.TheVariants as the
use Rattle.hem_history.specs.declared.draft.Item.{Item}
use Rattle.hem_history.specs.declared.draft.Item.TheVariants as item
use Rattle.hem_history.specs.Limits.{most_firings, most_number}
use Rattle.hem_text.specs.Numbers.{number_of}

-- what has been read of a history, over the rule names of a protocol: the firings, and the line and the object of the one that is being read
pub record Read : Type 0 where
  pub rule_names : List Text
  pub firings : List Firing
  pub line : LineId
  pub object : ObjectId

abbrev pub start : List (Symbol Terminal Item)
start = One the.History ∷ Many item.Firing ∷ One the.End ∷ []

abbrev pub firsts : Item → List Terminal
firsts item.Firing = the.Line ∷ []
firsts item.Child = the.From ∷ []

abbrev pub follows : Terminal → List (Symbol Terminal Item)
follows the.Line = One the.Object ∷ One the.Rule ∷ Maybe item.Child ∷ []
follows the.From = One the.Child ∷ []
follows _ = []

abbrev pub stands : Terminal → Stands
stands the.Rule = stand.Used
stands the.Line = stand.Other
stands the.Object = stand.Other
stands the.Child = stand.Other
stands _ = stand.Reserved

-- how a token is spelled: a rule is named as a rule of any kind
abbrev pub spells : Read → Terminal → Lexeme → Bool
spells e the.History t = is_the_word word.History t
spells e the.Rule t = is_word t && is_some (place_in e.rule_names t.text)
spells e the.From t = is_the_word word.From t
spells e the.End t = is_the_word word.End t
spells e _ t = is_number t

-- the limits: numbers have 32 bits, and the number of firings is tested at the line, with which a firing begins
abbrev pub is_within : Read → Terminal → Lexeme → Bool
is_within e the.Line t = nat_le (number_of t.text) most_number && nat_lt (length e.firings) most_firings
is_within e the.Object t = nat_le (number_of t.text) most_number
is_within e the.Child t = nat_le (number_of t.text) most_number
is_within e _ t = true

-- the firing of the first rule of that name, at the line and the object that were read
abbrev pub firing_of : Read → Text → Firing
firing_of e text = record { line = e.line; object = e.object; rule = record { 0 = unwrap_or (place_in e.rule_names text) 0 }; me = None }

-- the firings, of which the last, if any, takes from this child
abbrev pub with_child : List Firing → Option Firing → ℕ → List Firing
with_child firings None child = firings
with_child firings (Some f) child = slice_set firings (length firings - 1) (record f { me = Some (record { 0 = child }) })

-- what a token says
abbrev pub after : Read → Terminal → Lexeme → Read
after e the.Line t = record e { line = record { 0 = number_of t.text } }
after e the.Object t = record e { object = record { 0 = number_of t.text } }
after e the.Rule t = record e { firings = e.firings ++ firing_of e t.text ∷ [] }
after e the.Child t = record e { firings = with_child e.firings (slice_get e.firings (length e.firings - 1)) (number_of t.text) }
after e _ t = e

-- firings may be repeated
abbrev pub grammar : Grammar Read Terminal Item
grammar =
    record {
      firsts = firsts;
      follows = follows;
      stands = stands;
      spells = spells;
      is_within = is_within;
      is_fresh = λ e x t. true;
      after = after;
    }

-- nothing is read yet
abbrev pub nothing : Protocol → Read
nothing p = record { rule_names = p.rule_names; firings = []; line = record { 0 = 0 }; object = record { 0 = 0 } }
