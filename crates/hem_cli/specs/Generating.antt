-- What comes of a work to which requests are generated.
use Rattle.std.specs.Prelude.{◌≡◌, ◌⊎◌, ℕ, List, Some, None}
use Rattle.hem_syntax.specs.Protocol.{Protocol}
use Rattle.hem_tree.specs.declared.setup.SetupFault.{SetupFault}
use Rattle.hem_tree.specs.Tree.{Tree}
use Rattle.hem_work.specs.Work.{Work}
use Rattle.hem_work.specs.Made.{made, made_fault}
use Rattle.hem_cli.specs.Texts.{setup_text}
use Rattle.hem_cli.specs.declared.status.Status.{Status}
use Rattle.hem_cli.specs.declared.status.Status.TheVariants.{Done, Setup}

-- with so many generated requests the work breaks a rule, and the text of it
pub record IsOverfull (p : Protocol) (tree : Tree) (work : Work) (count : ℕ) (text : List ℕ) : Type 0 where
  pub fault : SetupFault
  pub first : made_fault p tree work count ≡ Some fault
  pub says : text ≡ setup_text fault

-- what comes of a work to which requests are generated: a rule is broken, or what is made of the work with them
abbrev pub IsGenerated : Protocol → Tree → Work → ℕ → ℕ → (Work → List ℕ → Type 0) → Status → List ℕ → Type 0
IsGenerated p tree work count seed IsMade status text =
    ((status ≡ Setup) × IsOverfull p tree work count text)
    ⊎ ((status ≡ Done) × (made_fault p tree work count ≡ None) × IsMade (made p tree work count seed) text)
