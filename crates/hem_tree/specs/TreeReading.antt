-- What the reader of trees answers.
use Rattle.std.specs.Prelude.{List}
use Rattle.hem_text.specs.Lexemes.{Lexeme}
use Rattle.hem_text.specs.Grammars.{state}
use Rattle.hem_text.specs.Parts.{IsPart}
use Rattle.hem_tree.specs.declared.raw.RawNode.{RawNode}
use Rattle.hem_tree.specs.Raw.{IsRawTree}
use Rattle.hem_tree.specs.Grammar.{grammar, nothing, start}

-- the tokens ts begin with a tree, the rest are those after it, and these are its nodes
pub record ReadsTree (ts rest : List Lexeme) (nodes : List RawNode) : Type 0 where
  pub part : IsPart grammar (state nothing start) ts rest (record { nodes = nodes; level = 1 })
  pub tree : IsRawTree nodes
