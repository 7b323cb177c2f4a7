-- The grammar of trees:  TREE = tree root ( NODE {NODE} )     NODE = leaf | mid ( NODE {NODE} )
use Rattle.std.specs.Prelude.{◌+◌, ◌-◌, Bool, true, List, [], ◌∷◌, ◌++◌}
use Rattle.hem_base.specs.declared.ids.Kind.{Kind}
use Rattle.hem_base.specs.declared.ids.Kind.TheVariants as kind
use Rattle.hem_base.specs.declared.words.Reserved.{Reserved}
use Rattle.hem_base.specs.declared.words.Reserved.TheVariants as word
use Rattle.hem_base.specs.declared.words.Sign.TheVariants as sign
use Rattle.hem_text.specs.declared.symbol.Symbol.{Symbol}
use Rattle.hem_text.specs.declared.symbol.Symbol.TheVariants.{One, Item as One_of, Many}
use Rattle.hem_text.specs.declared.symbol.Stands.{Stands}
use Rattle.hem_text.specs.declared.symbol.Stands.TheVariants as stand
use Rattle.hem_text.specs.Lexemes.{Lexeme}
use Rattle.hem_text.specs.Spelling.{is_the_word, is_the_sign}
use Rattle.hem_text.specs.Grammars.{Grammar}
use Rattle.hem_tree.specs.declared.draft.Terminal.{Terminal}
use Rattle.hem_tree.specs.declared.draft.Terminal.TheVariants as the
use Rattle.hem_tree.specs.declared.draft.Item.{Item}
use Rattle.hem_tree.specs.declared.draft.Item.TheVariants as item
use Rattle.hem_tree.specs.declared.draft.TreeDraft.{TreeDraft}

abbrev pub start : List (Symbol Terminal Item)
start = One the.Tree ∷ One (the.Node kind.Root) ∷ []

abbrev pub firsts : Item → List Terminal
firsts item.Node = the.Node kind.Leaf ∷ the.Node kind.Mid ∷ []

-- what stands in parentheses after a root or a mid
abbrev pub nest : List (Symbol Terminal Item)
nest = One the.Open ∷ One_of item.Node ∷ Many item.Node ∷ One the.Close ∷ []

abbrev pub follows : Terminal → List (Symbol Terminal Item)
follows (the.Node kind.Root) = nest
follows (the.Node kind.Mid) = nest
follows _ = []

abbrev pub stands : Terminal → Stands
stands the.Tree = stand.Reserved
stands (the.Node s) = stand.Reserved
stands _ = stand.Other

-- the word of a kind of objects
abbrev pub word_of : Kind → Reserved
word_of kind.Root = word.Root
word_of kind.Mid = word.Mid
word_of kind.Leaf = word.Leaf

-- how a token is spelled
abbrev pub spells : TreeDraft → Terminal → Lexeme → Bool
spells e the.Tree t = is_the_word word.Tree t
spells e (the.Node k) t = is_the_word (word_of k) t
spells e the.Open t = is_the_sign sign.Open t
spells e the.Close t = is_the_sign sign.Close t

-- what a token says: a node stands one level deeper for each parenthesis that is open
abbrev pub after : TreeDraft → Terminal → Lexeme → TreeDraft
after e (the.Node k) t = record e { nodes = e.nodes ++ record { kind = k; level = e.level; place = t.place } ∷ [] }
after e the.Open t = record e { level = e.level + 1 }
after e the.Close t = record e { level = e.level - 1 }
after e the.Tree t = e

-- nothing is limited, and all may be repeated
abbrev pub grammar : Grammar TreeDraft Terminal Item
grammar =
    record {
      firsts = firsts;
      follows = follows;
      stands = stands;
      spells = spells;
      is_within = λ e x t. true;
      is_fresh = λ e x t. true;
      after = after;
    }

abbrev pub nothing : TreeDraft
nothing = record { nodes = []; level = 1 }
