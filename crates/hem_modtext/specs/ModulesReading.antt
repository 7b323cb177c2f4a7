-- What the reader of modules answers.
use Rattle.std.specs.Prelude.{◌≡◌, List}
use Rattle.hem_text.specs.Lexemes.{Lexeme}
use Rattle.hem_text.specs.Grammars.{state}
use Rattle.hem_text.specs.Parts.{IsPart}
use Rattle.hem_module.specs.Modules.{Modules}
use Rattle.hem_modtext.specs.Grammar.{start}
use Rattle.hem_modtext.specs.Draft.{Read, grammar, nothing, modules_of}

-- the tokens ts begin with modules, the rest are those after them, and m are these
pub record ReadsModules (ts rest : List Lexeme) (m : Modules) : Type 0 where
  pub read : Read
  pub part : IsPart grammar (state nothing start) ts rest read
  pub says : m ≡ modules_of read
