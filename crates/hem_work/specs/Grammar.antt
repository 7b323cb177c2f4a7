-- The grammar of works:  WORK = work lines NUMBER self NUMBER {at NUMBER line NUMBER {MSG NUMBER}} end
use Rattle.std.specs.Prelude.{ℕ, ◌-◌, ◌&&◌, Bool, true, List, [], ◌∷◌, ◌++◌, length, Option, Some, None, unwrap_or, nat_le, slice_get, slice_set}
use Rattle.hem_base.specs.declared.ids.MsgId.{MsgId}
use Rattle.hem_base.specs.declared.ids.Message.{Message}
use Rattle.hem_text.specs.declared.text.Place.{Place}
use Rattle.hem_text.specs.declared.symbol.Symbol.{Symbol}
use Rattle.hem_text.specs.declared.symbol.Symbol.TheVariants.{One, Many}
use Rattle.hem_text.specs.declared.symbol.Stands.{Stands}
use Rattle.hem_text.specs.declared.symbol.Stands.TheVariants as stand
use Rattle.hem_base.specs.declared.words.Reserved.TheVariants as word
use Rattle.hem_text.specs.Lexemes.{Lexeme}
use Rattle.hem_text.specs.Grammars.{Grammar}
use Rattle.hem_syntax.specs.Protocol.{Text, Protocol}
use Rattle.hem_syntax.specs.Names.{place_among, is_among}
use Rattle.hem_text.specs.Spelling.{is_word, is_number, is_the_word}
use Rattle.hem_syntax.specs.declared.rule.Class.{Class}
use Rattle.hem_work.specs.declared.draft.Terminal.{Terminal}
use Rattle.hem_work.specs.declared.draft.Terminal.TheVariants as the
use Rattle.hem_work.specs.declared.draft.Item.{Item}
use Rattle.hem_work.specs.declared.draft.Item.TheVariants as item
use Rattle.hem_work.specs.declared.raw.RawEntry.{RawEntry}
use Rattle.hem_text.specs.Numbers.{number_of}
use Rattle.hem_work.specs.Limits.{most_number, most_value}

-- what has been read of a work, over the messages of a protocol; the last two are of the entry and of the request that are being read
pub record Read : Type 0 where
  pub messages : List (Text × Class)
  pub place : Place
  pub lines : ℕ × Place
  pub self_count : ℕ × Place
  pub entries : List RawEntry
  pub object : ℕ × Place
  pub message : MsgId × Place

abbrev pub start : List (Symbol Terminal Item)
start = One the.Work ∷ One the.Lines ∷ One the.LinesNumber ∷ One the.SelfWord ∷ One the.SelfNumber ∷ Many item.Entry ∷ One the.End ∷ []

abbrev pub firsts : Item → List Terminal
firsts item.Entry = the.At ∷ []
firsts item.Request = the.Msg ∷ []

abbrev pub follows : Terminal → List (Symbol Terminal Item)
follows the.At = One the.Object ∷ One the.LineWord ∷ One the.Line ∷ Many item.Request ∷ []
follows the.Msg = One the.Value ∷ []
follows _ = []

abbrev pub stands : Terminal → Stands
stands the.Msg = stand.Used
stands the.LinesNumber = stand.Other
stands the.SelfNumber = stand.Other
stands the.Object = stand.Other
stands the.Line = stand.Other
stands the.Value = stand.Other
stands _ = stand.Reserved

-- the id of the message of that name
abbrev pub id_of : List (Text × Class) → Text → MsgId
id_of messages text = record { 0 = unwrap_or (place_among messages text) 0 }

-- how a token is spelled
abbrev pub spells : Read → Terminal → Lexeme → Bool
spells e the.Work t = is_the_word word.Work t
spells e the.Lines t = is_the_word word.Lines t
spells e the.SelfWord t = is_the_word word.Own t
spells e the.At t = is_the_word word.At t
spells e the.LineWord t = is_the_word word.Line t
spells e the.End t = is_the_word word.End t
spells e the.Msg t = is_word t && is_among e.messages t.text
spells e _ t = is_number t

-- the limits on numbers: the value of a request has 64 bits, every other number 32
abbrev pub is_within : Read → Terminal → Lexeme → Bool
is_within e the.LinesNumber t = nat_le (number_of t.text) most_number
is_within e the.SelfNumber t = nat_le (number_of t.text) most_number
is_within e the.Object t = nat_le (number_of t.text) most_number
is_within e the.Line t = nat_le (number_of t.text) most_number
is_within e the.Value t = nat_le (number_of t.text) most_value
is_within e _ t = true

-- the entry at a place with one more request
abbrev pub with_request_at : List RawEntry → ℕ → Option RawEntry → Message × Place → List RawEntry
with_request_at entries at None r = entries
with_request_at entries at (Some e) r = slice_set entries at (record e { requests = e.requests ++ r ∷ [] })

-- the last entry with one more request
abbrev pub with_request : List RawEntry → Option RawEntry → Message × Place → List RawEntry
with_request entries e r = with_request_at entries (length entries - 1) e r

-- what a token says
abbrev pub after : Read → Terminal → Lexeme → Read
after e the.Work t = record e { place = t.place }
after e the.LinesNumber t = record e { lines = (number_of t.text, t.place) }
after e the.SelfNumber t = record e { self_count = (number_of t.text, t.place) }
after e the.Object t = record e { object = (number_of t.text, t.place) }
after e the.Line t = record e { entries = e.entries ++ record { object = e.object; line = (number_of t.text, t.place); requests = [] } ∷ [] }
after e the.Msg t = record e { message = (id_of e.messages t.text, t.place) }
after e the.Value t =
    record e { entries = with_request e.entries (slice_get e.entries (length e.entries - 1)) (record { id = e.message.0; value = number_of t.text }, e.message.1) }
after e _ t = e

-- entries and requests may be repeated
abbrev pub grammar : Grammar Read Terminal Item
grammar =
    record {
      firsts = firsts;
      follows = follows;
      stands = stands;
      spells = spells;
      is_within = is_within;
      is_fresh = λ e x t. true;
      after = after;
    }

abbrev pub nowhere : Place
nowhere = record { line = 0; column = 0 }

-- nothing is read yet
abbrev pub nothing : Protocol → Read
nothing p =
    record {
      messages = p.messages;
      place = nowhere;
      lines = (0, nowhere);
      self_count = (0, nowhere);
      entries = [];
      object = (0, nowhere);
      message = (record { 0 = 0 }, nowhere);
    }
