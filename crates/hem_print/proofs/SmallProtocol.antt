-- A small protocol with each kind of word: its text, and that it reads back.
use Rattle.std.proofs.Common.{◌≡◌, [], ◌∷◌, refl, Some, None, arith}
use Rattle.std.specs.Prelude.{codes}
use Rattle.hem_syntax.specs.declared.rule.Class.TheVariants as class
use Rattle.hem_syntax.specs.declared.rule.Hold.TheVariants as hold
use Rattle.hem_syntax.specs.declared.rule.Side.TheVariants as side
use Rattle.hem_syntax.specs.declared.rule.Origin.TheVariants as origin
use Rattle.hem_syntax.specs.declared.rule.Value.TheVariants as value
use Rattle.hem_syntax.specs.declared.rule.Take.TheVariants as take
use Rattle.hem_syntax.specs.declared.rule.Atom.TheVariants as atom
use Rattle.hem_syntax.specs.declared.rule.Assign.TheVariants as assign
use Rattle.hem_syntax.specs.declared.rule.SendTo.TheVariants as send
use Rattle.hem_syntax.specs.declared.rule.Rule.{Rule}
use Rattle.hem_syntax.specs.Protocol.{Protocol}
use Rattle.hem_syntax.specs.Lawful.{IsProtocol}
use Rattle.hem_print.specs.Canonical.{protocol_text}
use Rattle.hem_print.specs.ReadsBack.{ReadsBack}
use Rattle.hem_print.proofs.Reading.{reads_back}

abbrev get : Rule
get = record {
  name = record { 0 = 0 };
  take = take.Me (record { 0 = 0 });
  need = record { up = hold.Any; down = hold.Own };
  guard = atom.Field 0 (record { 0 = 3 }) ∷ atom.OthersAny (record { 0 = 2 }) ∷ [];
  sets = assign.Field 0 (record { 0 = 1 }) ∷ assign.Val value.Zero ∷ assign.Me (record { 0 = 0 }) ∷ [];
  free = Some side.Up;
  lock = Some (side.Down, origin.Child);
  send = send.Others (record { 0 = 2 }) (record { 0 = 0 }) value.Rs;
}

abbrev small : Protocol
small = record {
  name = codes "small";
  statuses = codes "I" ∷ codes "M" ∷ [];
  messages = (codes "Get", class.UpReq) ∷ [];
  rule_names = codes "get" ∷ [];
  root = record { fields = (codes "st", record { 0 = 1 }) ∷ []; dir = Some (record { 0 = 0 }); rules = get ∷ [] };
  mid = record { fields = []; dir = Some (record { 0 = 1 }); rules = [] };
  leaf = record { fields = []; dir = None; rules = [] };
}

small_text : protocol_text small ≡ codes "protocol small\nstatus I M\nmessage Get up_req\nkind root\nfield st init M\ndir init I\nrule get take me Get need up any down self when st in I M, others any M set st := M, val := 0, me := I free up lock down child send others in M Get rs end\nend\nkind mid\ndir init M\nend\nkind leaf\nend\nend\n"
small_text = refl

small_is : IsProtocol small
small_is = record {
  name = refl;
  some_statuses = omega arith;
  few_statuses = omega arith;
  few_messages = omega arith;
  names = refl;
  names_once = refl;
  rule_names = refl;
  rule_names_once = refl;
  rule_names_in_order = refl;
  root = record { few_fields = omega arith; field_names = refl; fields_once = refl; starts = refl; few_rules = omega arith; rules = refl; rules_once = refl };
  mid = record { few_fields = omega arith; field_names = refl; fields_once = refl; starts = refl; few_rules = omega arith; rules = refl; rules_once = refl };
  leaf = record { few_fields = omega arith; field_names = refl; fields_once = refl; starts = refl; few_rules = omega arith; rules = refl; rules_once = refl };
  root_dir = refl;
  mid_dir = refl;
  leaf_dir = refl;
}

small_back : ReadsBack small
small_back = reads_back small small_is
