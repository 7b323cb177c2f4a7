-- The other shipped protocols meet the premises of the theorem.
use Rattle.std.specs.Prelude.{refl}
use Rattle.std.proofs.Common.{rules}
use Rattle.hem_syntax.specs.Lawful.{IsProtocol}
use Rattle.hem_check.specs.Discipline.{IsDisciplined}
use Rattle.hem_examples.specs.MesiInclusive.{mesi_inclusive}
use Rattle.hem_examples.specs.MesiNoninclusive.{mesi_noninclusive}
use Rattle.hem_examples.specs.MsiNoninclusive.{msi_noninclusive}
use Rattle.hem_examples.specs.Serializable.{IsAccepted}
use Rattle.hem_examples.proofs.Accepted.{whole}

mesi_protocol : IsProtocol mesi_inclusive
mesi_protocol = record {
  name = refl;
  some_statuses = search rules;
  few_statuses = search rules;
  few_messages = search rules;
  names = refl;
  names_once = refl;
  rule_names = refl;
  rule_names_once = refl;
  rule_names_in_order = refl;
  root = record { few_fields = search rules; field_names = refl; fields_once = refl; starts = refl; few_rules = search rules; rules = refl; rules_once = refl };
  mid = record { few_fields = search rules; field_names = refl; fields_once = refl; starts = refl; few_rules = search rules; rules = refl; rules_once = refl };
  leaf = record { few_fields = search rules; field_names = refl; fields_once = refl; starts = refl; few_rules = search rules; rules = refl; rules_once = refl };
  root_dir = refl;
  mid_dir = refl;
  leaf_dir = refl;
}

mesi_disciplined : IsDisciplined mesi_inclusive
mesi_disciplined = whole mesi_inclusive refl refl refl

pub mesi_is : IsAccepted mesi_inclusive
mesi_is = record { protocol = mesi_protocol; disciplined = mesi_disciplined }

msi_noninclusive_protocol : IsProtocol msi_noninclusive
msi_noninclusive_protocol = record {
  name = refl;
  some_statuses = search rules;
  few_statuses = search rules;
  few_messages = search rules;
  names = refl;
  names_once = refl;
  rule_names = refl;
  rule_names_once = refl;
  rule_names_in_order = refl;
  root = record { few_fields = search rules; field_names = refl; fields_once = refl; starts = refl; few_rules = search rules; rules = refl; rules_once = refl };
  mid = record { few_fields = search rules; field_names = refl; fields_once = refl; starts = refl; few_rules = search rules; rules = refl; rules_once = refl };
  leaf = record { few_fields = search rules; field_names = refl; fields_once = refl; starts = refl; few_rules = search rules; rules = refl; rules_once = refl };
  root_dir = refl;
  mid_dir = refl;
  leaf_dir = refl;
}

msi_noninclusive_disciplined : IsDisciplined msi_noninclusive
msi_noninclusive_disciplined = whole msi_noninclusive refl refl refl

pub msi_noninclusive_is : IsAccepted msi_noninclusive
msi_noninclusive_is = record { protocol = msi_noninclusive_protocol; disciplined = msi_noninclusive_disciplined }

mesi_noninclusive_protocol : IsProtocol mesi_noninclusive
mesi_noninclusive_protocol = record {
  name = refl;
  some_statuses = search rules;
  few_statuses = search rules;
  few_messages = search rules;
  names = refl;
  names_once = refl;
  rule_names = refl;
  rule_names_once = refl;
  rule_names_in_order = refl;
  root = record { few_fields = search rules; field_names = refl; fields_once = refl; starts = refl; few_rules = search rules; rules = refl; rules_once = refl };
  mid = record { few_fields = search rules; field_names = refl; fields_once = refl; starts = refl; few_rules = search rules; rules = refl; rules_once = refl };
  leaf = record { few_fields = search rules; field_names = refl; fields_once = refl; starts = refl; few_rules = search rules; rules = refl; rules_once = refl };
  root_dir = refl;
  mid_dir = refl;
  leaf_dir = refl;
}

mesi_noninclusive_disciplined : IsDisciplined mesi_noninclusive
mesi_noninclusive_disciplined = whole mesi_noninclusive refl refl refl

pub mesi_noninclusive_is : IsAccepted mesi_noninclusive
mesi_noninclusive_is = record { protocol = mesi_noninclusive_protocol; disciplined = mesi_noninclusive_disciplined }
