-- Guards and changes in abstract states are those of the fields and of the children apart.
use Rattle.std.proofs.Common.{◌≡◌, refl, ap, sym, ◌∙◌, Bool, true, false, ◌&&◌, List, [], ◌∷◌, Option}
use Rattle.hem_base.specs.declared.ids.StatusSet.{StatusSet}
use Rattle.hem_base.specs.declared.ids.MsgId.{MsgId}
use Rattle.hem_syntax.specs.declared.rule.Assign.{Assign}
use Rattle.hem_syntax.specs.declared.rule.Assign.TheVariants as assign
use Rattle.hem_syntax.specs.declared.rule.Atom.{Atom}
use Rattle.hem_syntax.specs.declared.rule.Atom.TheVariants as atom
use Rattle.hem_abstract.specs.Abstract.{Abstract, atom_at, guard_at}
use Rattle.hem_abstract.specs.Partners.{after_one, after}
use Rattle.hem_abstract.specs.Parts.{kids_meet, fields_meet, kids_hold, fields_hold, field_after, fields_after, kid_after, kids_after}

pub and-true : (b : Bool) → (b && true) ≡ b
and-true true = refl
and-true false = refl

-- a condition
meet-apart : (at : Abstract) (asked : Option MsgId) (a : Atom) → atom_at at asked a ≡ (fields_meet at.fields asked a && kids_meet at.kids a)
meet-apart at asked (atom.Field i set) = sym (and-true (fields_meet at.fields asked (atom.Field i set)))
meet-apart at asked (atom.KidsAll set) = refl
meet-apart at asked (atom.KidsAny set) = refl
meet-apart at asked (atom.Asked id) = sym (and-true (fields_meet at.fields asked (atom.Asked id)))
meet-apart at asked _ = refl

four : (a b c d : Bool) → ((a && b) && (c && d)) ≡ ((a && c) && (b && d))
four true true c d = refl
four true false true d = refl
four true false false d = refl
four false b c d = refl

-- a guard
pub guard-apart : (guard : List Atom) (at : Abstract) (asked : Option MsgId) → guard_at guard at asked ≡ (fields_hold guard asked at.fields && kids_hold guard at.kids)
guard-apart [] at asked = refl
guard-apart (a ∷ guard) at asked =
    (λ i. meet-apart at asked a i && guard-apart guard at asked i)
    ∙ four (fields_meet at.fields asked a) (kids_meet at.kids a) (fields_hold guard asked at.fields) (kids_hold guard at.kids)

-- a set
one-apart : (targets : StatusSet) (a : Assign) (at : Abstract) → after_one targets a at ≡ (let parts : Abstract = record { fields = field_after a at.fields; kids = kid_after targets a at.kids } in parts)
one-apart targets (assign.Field i s) at = refl
one-apart targets (assign.Targets s) at = refl
one-apart targets _ at = refl

-- a rule's sets
pub after-apart : (sets : List Assign) (targets : StatusSet) (at : Abstract) → after at sets targets ≡ (let parts : Abstract = record { fields = fields_after sets at.fields; kids = kids_after targets sets at.kids } in parts)
after-apart [] targets at = refl
after-apart (a ∷ sets) targets at =
    ap (λ (now : Abstract). after now sets targets) (one-apart targets a at)
    ∙ after-apart sets targets (record { fields = field_after a at.fields; kids = kid_after targets a at.kids })
