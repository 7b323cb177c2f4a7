-- What one rule does at an object, and the parts of its names.
use Rattle.std.proofs.Common.{◌≡◌, refl, ap, sym, ◌∙◌, ℕ, Bool, true, ◌&&◌, List, [], ◌∷◌, Option, Some, None}
use Rattle.std.specs.Prelude.{is_some, filter_map, option_to_list}
use Rattle.std.specs.List.{list_all}
use Rattle.std.proofs.lemmas.List.Folds.{list_all-append}
use Rattle.hem_base.specs.declared.ids.MsgId.{MsgId}
use Rattle.hem_base.specs.declared.ids.Kind.{Kind}
use Rattle.hem_base.specs.declared.ids.Kind.TheVariants.{Root, Mid, Leaf}
use Rattle.hem_syntax.specs.declared.rule.Rule.{Rule}
use Rattle.hem_syntax.specs.declared.rule.Value.{Value}
use Rattle.hem_syntax.specs.declared.rule.Assign.{Assign}
use Rattle.hem_syntax.specs.declared.rule.Assign.TheVariants as assign
use Rattle.hem_syntax.specs.declared.rule.SendTo.TheVariants as send
use Rattle.hem_object.specs.declared.state.View.{View}
use Rattle.hem_fire.specs.declared.outs.Outs.{Outs}
use Rattle.hem_syntax.specs.Protocol.{Protocol}
use Rattle.hem_object.specs.Local.{Local}
use Rattle.hem_object.specs.Guard.{value_of}
use Rattle.hem_fire.specs.OneFire.{Heads, can_fire, local_after, outs_of}
use Rattle.hem_fire.specs.Sends.{send_names}
use Rattle.hem_template.specs.Template.{atom_fits, value_fits, set_fits, names_fit, values_of, value_sent}
use Rattle.hem_template.specs.declared.row.Row.{Row}
use Rattle.hem_rows.proofs.Choices.{both}
use Rattle.hem_template.specs.Rows.{set_value_fits}
use Rattle.hem_rows.proofs.Possible.{CanFire}

all-eight : (a b c d e f g h : Bool) → a ≡ true → b ≡ true → c ≡ true → d ≡ true → e ≡ true → f ≡ true → g ≡ true → h ≡ true → (a && b && c && d && e && f && g && h) ≡ true
all-eight a b c d e f g h ia ib ic id ie if ig ih = rw (ia, ib, ic, id, ie, if, ig, ih) refl

pub can-whole : (p : Protocol) (kind : Kind) (rule : Rule) (me : Option ℕ) (local : Local) (heads : Heads) → CanFire p kind rule me local heads → can_fire p kind rule me local heads ≡ true
can-whole p kind rule me local heads parts = all-eight _ _ _ _ _ _ _ _ parts.fits parts.takes parts.up parts.down parts.sets parts.lock parts.guard parts.send

-- the values of the sets of a rule fit
set-values : (row : Row) (sets : List Assign) → list_all (value_fits row) (filter_map (λ a. elim a as (λ x. Option Value) [ assign.Val v ↦ Some v | _ ↦ None ]) sets) ≡ true → list_all (set_value_fits row) sets ≡ true
set-values row [] fits = refl
set-values row (assign.Field i s ∷ sets) fits = set-values row sets fits
set-values row (assign.Val v ∷ sets) fits = let parts = both (value_fits row v) _ fits in rw parts.0 (set-values row sets parts.1)
set-values row (assign.Me s ∷ sets) fits = set-values row sets fits
set-values row (assign.Targets s ∷ sets) fits = set-values row sets fits

-- the names of a rule, by its parts
pub record NamesFit (p : Protocol) (kind : Kind) (rule : Rule) (row : Row) : Type 0 where
  pub guard : list_all (atom_fits p kind row) rule.guard ≡ true
  pub sets : list_all (set_fits kind row) rule.sets ≡ true
  pub set_values : list_all (set_value_fits row) rule.sets ≡ true
  pub sent : list_all (value_fits row) (option_to_list (value_sent rule.send)) ≡ true

pub names-parts : (p : Protocol) (kind : Kind) (rule : Rule) (row : Row) → names_fit p kind rule row ≡ true → NamesFit p kind rule row
names-parts p kind rule row fits =
    let a = both _ (list_all (value_fits row) (values_of rule)) fits in
    let b = both (list_all (atom_fits p kind row) rule.guard) (list_all (set_fits kind row) rule.sets) a.0 in
    let values = filter_map (λ a. elim a as (λ x. Option Value) [ assign.Val v ↦ Some v | _ ↦ None ]) rule.sets in
    let c = both (list_all (value_fits row) values) (list_all (value_fits row) (option_to_list (value_sent rule.send))) (sym (list_all-append (value_fits row) values (option_to_list (value_sent rule.send))) ∙ a.1) in
    record { guard = b.0; sets = b.1; set_values = set-values row rule.sets c.0; sent = c.1 }

-- what a rule does at an object
pub record Does (p : Protocol) (kind : Kind) (rule : Rule) (me : Option ℕ) (local : Local) (heads : Heads) (next : Local) (outs : Outs) : Type 0 where
  pub can : can_fire p kind rule me local heads ≡ true
  pub leaves : local_after p kind rule me local heads ≡ next
  pub gives : outs_of p kind rule me local heads ≡ outs

-- a send to the parent has its names where the value is the same
pub send-parent-same : (kind : Kind) (id : MsgId) (v : Value) (local local' : Local) (a b : View) → value_of v local a ≡ value_of v local' b → send_names kind (send.Parent id v) local a ≡ true → send_names kind (send.Parent id v) local' b ≡ true
send-parent-same Root id v local local' a b same names = cc
send-parent-same Mid id v local local' a b same names = ap is_some (sym same) ∙ names
send-parent-same Leaf id v local local' a b same names = ap is_some (sym same) ∙ names
