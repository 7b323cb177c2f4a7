-- The role of a transaction at an object: the templates that it fires there, in order.
use Rattle.std.specs.Prelude.{ℕ, ◌≡◌, ◌≢◌, Bool, true, false, ◌&&◌, List, [], ◌∷◌, Some, ◌⊎◌}
use Rattle.hem_template.specs.declared.template_name.TemplateName.{TemplateName}
use Rattle.hem_template.specs.declared.template_name.TemplateName.TheVariants.{RqUp, RqUpSelf, RqUpDown, RqDownSelf, RqDownDown, RsDown, RsDownSelf, RsDownRqDown, RsUpDown, RsUpUp, RsUpSelf}
use Rattle.hem_tree.specs.Tree.{Tree, parent_of}
use Rattle.hem_shape.specs.Progress.{Progress}

-- whether a template can be the first of a role: all but those that take an answer
abbrev pub begins_role : TemplateName → Bool
begins_role RsDown = false
begins_role RsDownSelf = false
begins_role RsDownRqDown = false
begins_role RsUpDown = false
begins_role RsUpUp = false
begins_role RsUpSelf = false
begins_role _ = true

-- whether a template can be the next of a role
abbrev pub follows : TemplateName → TemplateName → Bool
follows RqUp RsDown = true
follows RqUp RsDownRqDown = true
follows RsDownRqDown RsUpDown = true
follows RqUpSelf RsDownSelf = true
follows RqUpDown RsUpDown = true
follows RqDownSelf RsUpSelf = true
follows RqDownDown RsUpUp = true
follows _ _ = false

-- whether templates can go on a role after t
abbrev pub goes_on : TemplateName → List TemplateName → Bool
goes_on t [] = true
goes_on t (s ∷ ts) = follows t s && goes_on s ts

-- whether templates are a role or the first of one: an answer at once, or a request and what follows it
abbrev pub is_role : List TemplateName → Bool
is_role [] = true
is_role (t ∷ ts) = begins_role t && goes_on t ts

-- each object has a role
pub record HasRoles (at : Progress) : Type 0 where
  pub each : (k : ℕ) → is_role (at.fired k) ≡ true

-- an object at which a transaction goes on stands beside one at which it has fired, or is one
abbrev pub IsBeside : Tree → Progress → ℕ → Type 0
IsBeside tree at o = (at.fired o ≢ []) ⊎ (((c : ℕ) × (parent_of tree c ≡ Some o) × (at.fired c ≢ [])) ⊎ ((high : ℕ) × (parent_of tree o ≡ Some high) × (at.fired high ≢ [])))
