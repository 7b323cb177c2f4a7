-- The actions of a rule that can fire append what the firing sends.
use Rattle.std.proofs.Common.{◌≡◌, sym, ◌∙◌, ℕ, true, false, length, Option, Some}
use Rattle.std.specs.Prelude.{IsTrue, Ok, slice_get}
use Rattle.std.specs.List.{list_all}
use Rattle.std.specs.Option.{option_map_or}
use Rattle.hem_syntax.specs.declared.rule.Rule.{Rule}
use Rattle.hem_template.specs.declared.template_name.TemplateName.{TemplateName}
use Rattle.hem_syntax.specs.Protocol.{Protocol, part}
use Rattle.hem_object.specs.Local.{Local, IsWellFormed}
use Rattle.hem_syntax.specs.Lawful.{is_rule, counts_of}
use Rattle.hem_template.specs.Template.{template_of, row_of, value_fits, value_sent, values_of}
use Rattle.hem_template.specs.Rows.{set_value_fits}
use Rattle.hem_emit.proofs.Values.{values_apart}
use Rattle.hem_fire.specs.Heads.{Heads}
use Rattle.hem_fire.specs.View.{view_of}
use Rattle.hem_fire.specs.Locks.{need_holds}
use Rattle.hem_fire.specs.OneFire.{can_fire, outs_of}
use Rattle.hem_system.specs.declared.lane.Lane.{Lane}
use Rattle.hem_system.specs.declared.lane.Lane.TheVariants.{Down}
use Rattle.hem_module.specs.Step.{Held, appended}
use Rattle.hem_rows.specs.Rows.{IsOfRow}
use Rattle.hem_rows.proofs.Rows.{of_row}
use Rattle.hem_rows.proofs.Choices.{both}
use Rattle.hem_rows.proofs.Possible.{CanFire, can_parts}
use Rattle.hem_emit.specs.Names.{Reg, Queue, same_lane, same_queue}
use Rattle.hem_emit.specs.Place.{Place, asker_of}
use Rattle.hem_emit.specs.Actions.{child_queue, actions_of}
use Rattle.hem_emit.specs.Image.{item_of}
use Rattle.hem_emit.specs.Shows.{AreKids, Shows}
use Rattle.hem_emit.specs.Sent.{to_own, to_child}
use Rattle.hem_emit.proofs.Entries.{Sees}
use Rattle.hem_emit.proofs.Faced.{Faced, faced}
use Rattle.hem_emit.proofs.Sends.{levels}
use Rattle.hem_emit.proofs.Whole.{sees_of}
use Rattle.hem_emit.proofs.Appended.{sends_alone}
use Rattle.hem_emit.proofs.Sent.{child_sent}
use Rattle.hem_emit.proofs.Mine.{own_sent}

module _ (p : Protocol) (at : Place) (rule : Rule) (t : TemplateName) (me : Option ℕ) (local : Local) (heads : Heads) (s : Held Reg Queue) (has : template_of p at.kind rule ≡ Ok t) (known : IsTrue (is_rule (counts_of p (part p at.kind)) rule)) (statuses : at.statuses ≡ length p.statuses) (kids : AreKids at.kind at.kids) (formed : IsWellFormed p at.kind (length at.kids) local) (shows : Shows at me local heads s) (can : can_fire p at.kind rule me local heads ≡ true) where
  sees : Sees at me local heads s
  sees = sees_of p at me local heads s statuses kids formed shows

  one : IsOfRow p at.kind rule t
  one = of_row p at.kind rule t has

  parts : CanFire p at.kind rule me local heads
  parts = can_parts p at.kind rule me local heads can

  up : need_holds (row_of t).up local.up ≡ true
  up = let up_is = one.up in rw up_is at parts.up

  down : need_holds (row_of t).down local.down ≡ true
  down = let down_is = one.down in rw down_is at parts.down

  face : Faced at s (asker_of rule.take me) local (view_of rule.take me local heads) (row_of t)
  face = faced sees p t rule.take one.taking parts.fits parts.takes up down

  fit_values : (list_all (set_value_fits (row_of t)) rule.sets ≡ true) × (option_map_or (value_fits (row_of t)) (value_sent rule.send) true ≡ true)
  fit_values = both (list_all (set_value_fits (row_of t)) rule.sets) (option_map_or (value_fits (row_of t)) (value_sent rule.send) true) (sym (values_apart (row_of t) rule) ∙ (both _ (list_all (value_fits (row_of t)) (values_of rule)) one.names).1)

  -- an object's own lists
  pub own_appended : (l : Lane) → same_lane l Down ≡ false → appended s (same_queue (record { object = at.object; lane = l })) (actions_of p at me rule) ≡ to_own l (outs_of p at.kind rule me local heads).to (item_of (outs_of p at.kind rule me local heads).message)
  own_appended l own =
      sends_alone s (same_queue (record { object = at.object; lane = l })) p at me rule
      ∙ own_sent sees p t rule.take face (length local.dir) parts.fits l own rule.send one.sending fit_values.1

  -- the messages to a child
  pub child_appended : (k c : ℕ) → slice_get at.kids k ≡ Some c → appended s (same_queue (child_queue (k, c))) (actions_of p at me rule) ≡ to_child k (outs_of p at.kind rule me local heads).to (item_of (outs_of p at.kind rule me local heads).message)
  child_appended k c kid =
      sends_alone s (same_queue (child_queue (k, c))) p at me rule
      ∙ child_sent sees p t rule.take face k c kid rule.send one.sending (levels at.kind rule one.level) fit_values.1
