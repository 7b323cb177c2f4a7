-- Which firings the locks of an object allow.
use Rattle.std.specs.Prelude.{◌≡◌, ◌⊎◌, Some, None, Ok}
use Rattle.hem_base.specs.declared.ids.Firing.{Firing}
use Rattle.hem_base.specs.declared.ids.Kind.{Kind}
use Rattle.hem_syntax.specs.declared.rule.Rule.{Rule}
use Rattle.hem_template.specs.declared.template_name.TemplateName.{TemplateName}
use Rattle.hem_template.specs.declared.template_name.TemplateName.TheVariants.{ImmUp, RqDownDown, RsUpDown, RsUpUp, RsUpSelf}
use Rattle.hem_object.specs.declared.state.By.{By}
use Rattle.hem_object.specs.declared.state.By.TheVariants.{Parent, Own}
use Rattle.hem_object.specs.declared.state.Lock.{Lock}
use Rattle.hem_syntax.specs.Protocol.{Protocol, rule_named}
use Rattle.hem_template.specs.Template.{template_of}
use Rattle.hem_tree.specs.Tree.{Tree, kind_of}
use Rattle.hem_system.specs.State.{Effect}

-- the rule that a firing names has the template
pub record HasTemplate (p : Protocol) (tree : Tree) (f : Firing) (t : TemplateName) : Type 0 where
  pub kind : Kind
  pub rule : Rule
  pub kind_is : kind_of tree f.object.0 ≡ Some kind
  pub named : rule_named p kind f.rule ≡ Some rule
  pub template : template_of p kind rule ≡ Ok t

-- the template that frees a downlock of that holder
abbrev pub FreesFor : By → TemplateName → Type 0
FreesFor Parent t = t ≡ RsUpUp
FreesFor Own t = t ≡ RsUpSelf
FreesFor _ t = t ≡ RsUpDown

-- the template is one of the three that serve a request of the parent
abbrev pub ServesParent : TemplateName → Type 0
ServesParent t = (t ≡ ImmUp) ⊎ (t ≡ RqDownDown) ⊎ (t ≡ RsUpUp)

-- a firing frees the downlock, with the template for the lock's holder
pub record FreesDownlock (p : Protocol) (tree : Tree) (f : Firing) (lock : Lock) (e : Effect) : Type 0 where
  pub template : TemplateName
  pub of : HasTemplate p tree f template
  pub frees : FreesFor lock.by template
  pub free : e.after.down ≡ None

-- a firing serves a request of the parent
pub record ServesItsParent (p : Protocol) (tree : Tree) (f : Firing) : Type 0 where
  pub template : TemplateName
  pub of : HasTemplate p tree f template
  pub serves : ServesParent template
