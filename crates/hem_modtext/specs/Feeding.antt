-- The grammar of feeds:  FEED = feed {QUEUE NUMBER NUMBER} end
use Rattle.std.specs.Prelude.{ℕ, ◌≡◌, ◌&&◌, Bool, true, List, [], ◌∷◌, ◌++◌, unwrap_or, nat_le}
use Rattle.hem_base.specs.declared.ids.MsgId.{MsgId}
use Rattle.hem_base.specs.declared.words.Reserved.TheVariants as word
use Rattle.hem_text.specs.declared.symbol.Symbol.{Symbol}
use Rattle.hem_text.specs.declared.symbol.Symbol.TheVariants.{One, Many}
use Rattle.hem_text.specs.declared.symbol.Stands.{Stands}
use Rattle.hem_text.specs.declared.symbol.Stands.TheVariants as stand
use Rattle.hem_text.specs.Lexemes.{Lexeme}
use Rattle.hem_text.specs.Grammars.{Grammar, state}
use Rattle.hem_text.specs.Parts.{IsPart}
use Rattle.hem_text.specs.Numbers.{number_of}
use Rattle.hem_text.specs.Spelling.{is_word, is_number, is_the_word}
use Rattle.hem_syntax.specs.Names.{place_in, is_in}
use Rattle.hem_module.specs.Modules.{Modules}
use Rattle.hem_modtext.specs.declared.feed.Fed.{Fed}
use Rattle.hem_modtext.specs.declared.feed.FeedTerminal.{FeedTerminal}
use Rattle.hem_modtext.specs.declared.feed.FeedTerminal.TheVariants as the
use Rattle.hem_modtext.specs.declared.feed.FeedItem.{FeedItem}
use Rattle.hem_modtext.specs.declared.feed.FeedItem.TheVariants as item
use Rattle.hem_modtext.specs.Limits.{most_id, most_number}

-- what has been read of a feed, over the names of the queues: the entries, and the queue and the id of the one that is being read
pub record FeedRead : Type 0 where
  pub queues : List (List ℕ)
  pub fed : List Fed
  pub queue : ℕ
  pub id : MsgId

abbrev pub start : List (Symbol FeedTerminal FeedItem)
start = One the.Feed ∷ Many item.Entry ∷ One the.End ∷ []

abbrev pub firsts : FeedItem → List FeedTerminal
firsts item.Entry = the.Queue ∷ []

abbrev pub follows : FeedTerminal → List (Symbol FeedTerminal FeedItem)
follows the.Queue = One the.Id ∷ One the.Value ∷ []
follows _ = []

abbrev pub stands : FeedTerminal → Stands
stands the.Queue = stand.Used
stands the.Id = stand.Other
stands the.Value = stand.Other
stands _ = stand.Reserved

-- how a token is spelled
abbrev pub spells : FeedRead → FeedTerminal → Lexeme → Bool
spells e the.Feed t = is_the_word word.Feed t
spells e the.Queue t = is_word t && is_in e.queues t.text
spells e the.End t = is_the_word word.End t
spells e _ t = is_number t

-- the limits on numbers
abbrev pub is_within : FeedRead → FeedTerminal → Lexeme → Bool
is_within e the.Id t = nat_le (number_of t.text) most_id
is_within e the.Value t = nat_le (number_of t.text) most_number
is_within e _ t = true

-- what a token says
abbrev pub after : FeedRead → FeedTerminal → Lexeme → FeedRead
after e the.Queue t = record e { queue = unwrap_or (place_in e.queues t.text) 0 }
after e the.Id t = record e { id = record { 0 = number_of t.text } }
after e the.Value t = record e { fed = e.fed ++ record { queue = e.queue; item = record { id = e.id; value = number_of t.text } } ∷ [] }
after e _ t = e

-- entries may be repeated
abbrev pub grammar : Grammar FeedRead FeedTerminal FeedItem
grammar =
    record {
      firsts = firsts;
      follows = follows;
      stands = stands;
      spells = spells;
      is_within = is_within;
      is_fresh = λ e x t. true;
      after = after;
    }

-- nothing is read yet
abbrev pub nothing : Modules → FeedRead
nothing m = record { queues = m.queues; fed = []; queue = 0; id = record { 0 = 0 } }

-- the tokens ts begin with a feed over the queues of the modules, the rest are those after it, and these are its entries
pub record ReadsFeed (m : Modules) (ts rest : List Lexeme) (fed : List Fed) : Type 0 where
  pub read : FeedRead
  pub part : IsPart grammar (state (nothing m) start) ts rest read
  pub says : fed ≡ read.fed
