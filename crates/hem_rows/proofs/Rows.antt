-- A rule that has a template is made as the template's row says.
use Rattle.std.proofs.Common.{◌≡◌, refl, ap, ◌∙◌, subst, ℕ, Bool, true, false, not, ◌&&◌, ◌||◌, List, [], ◌∷◌, length, arith, Option, Some, None}
use Rattle.std.specs.Prelude.{◌==◌, if◌then◌else◌, Result, Ok, Err}
use Rattle.std.specs.Option.{option_eq}
use Rattle.std.proofs.lemmas.Bool.{eqb-true}
use Rattle.hem_base.specs.declared.ids.Kind.{Kind}
use Rattle.hem_syntax.specs.declared.rule.Rule.{Rule}
use Rattle.hem_syntax.specs.declared.rule.Take.{Take}
use Rattle.hem_syntax.specs.declared.rule.Take.TheVariants as take
use Rattle.hem_syntax.specs.declared.rule.Hold.{Hold}
use Rattle.hem_syntax.specs.declared.rule.Hold.TheVariants as hold
use Rattle.hem_syntax.specs.declared.rule.Side.{Side}
use Rattle.hem_syntax.specs.declared.rule.Side.TheVariants as side
use Rattle.hem_syntax.specs.declared.rule.Origin.{Origin}
use Rattle.hem_syntax.specs.declared.rule.Origin.TheVariants as origin
use Rattle.hem_syntax.specs.declared.rule.SendTo.{SendTo}
use Rattle.hem_syntax.specs.declared.rule.SendTo.TheVariants as send
use Rattle.hem_template.specs.declared.template_name.TemplateName.{TemplateName}
use Rattle.hem_template.specs.declared.clause.Clause.{Clause}
use Rattle.hem_template.specs.declared.clause.Clause.TheVariants as clause
use Rattle.hem_syntax.specs.Protocol.{Protocol}
use Rattle.hem_template.specs.Template.{row_of, templates, is_taking, is_sending, same_side, same_origin, same_hold, has_shape, shape_of, level_fits, class_fits, locks_fit, silent_fits, scope_fits, names_fit, fitted, template_of}
use Rattle.hem_template.specs.declared.row.Taking.{Taking}
use Rattle.hem_template.specs.declared.row.Sending.{Sending}
use Rattle.hem_template.specs.declared.row.Taking.TheVariants.{NothingTaken, FromRequester, ParentRequest, ParentResponse, FromKids}
use Rattle.hem_template.specs.declared.row.Sending.TheVariants.{NothingSent, ToRequester, RequestUp, ResponseUp, ToOthers, ToKids}
use Rattle.hem_rows.specs.Rows.{IsTaking, IsSending, IsOfRow}
use Rattle.hem_rows.proofs.Choices.{both, found-passes}

-- a clause that was passed
unless : (b : Bool) (c : Clause) (r : Result TemplateName Clause) (t : TemplateName) → (if not b then Err c else r) ≡ Ok t → (b ≡ true) × (r ≡ Ok t)
unless true c r t is = (refl, is)
unless false c r t is = cc

same-side : (a b : Side) → same_side a b ≡ true → a ≡ b
same-side side.Up side.Up is = refl
same-side side.Down side.Down is = refl
same-side _ _ is = cc

same-origin : (a b : Origin) → same_origin a b ≡ true → a ≡ b
same-origin origin.Child origin.Child is = refl
same-origin origin.Parent origin.Parent is = refl
same-origin origin.Own origin.Own is = refl
same-origin _ _ is = cc

same-hold : (a b : Hold) → same_hold a b ≡ true → a ≡ b
same-hold hold.Any hold.Any is = refl
same-hold hold.Free hold.Free is = refl
same-hold hold.Child hold.Child is = refl
same-hold hold.Parent hold.Parent is = refl
same-hold hold.Own hold.Own is = refl
same-hold _ _ is = cc

same-free : (a b : Option Side) → option_eq same_side a b ≡ true → a ≡ b
same-free None None is = refl
same-free (Some a) (Some b) is = ap Some (same-side a b is)
same-free _ _ is = cc

same-lock : (a b : Option (Side × Origin)) → option_eq (λ a b. same_side a.0 b.0 && same_origin a.1 b.1) a b ≡ true → a ≡ b
same-lock None None is = refl
same-lock (Some a) (Some b) is = let parts = both (same_side a.0 b.0) _ is in pair (same-side a.0 b.0 parts.0) (same-origin a.1 b.1 parts.1)
  where
    pair : a.0 ≡ b.0 → a.1 ≡ b.1 → Some a ≡ Some b
    pair s o = ap (λ (x : Side). Some (x, a.1)) s ∙ ap (λ (x : Origin). Some (b.0, x)) o
same-lock _ _ is = cc

taking-is : (p : Protocol) (t : Take) (row : Taking) → is_taking p t row ≡ true → IsTaking p row t
taking-is p take.Nothing NothingTaken is = refl
taking-is p (take.Me id) FromRequester is = (id, refl)
taking-is p (take.Parent id) ParentRequest is = (id, refl, is)
taking-is p (take.Parent id) ParentResponse is = (id, refl, is)
taking-is p (take.Kids id) FromKids is = (id, refl)
taking-is p _ _ is = cc

sending-is : (p : Protocol) (s : SendTo) (row : Sending) → is_sending p s row ≡ true → IsSending p row s
sending-is p send.Nothing NothingSent is = refl
sending-is p (send.Me id v) ToRequester is = (id, v, refl)
sending-is p (send.Parent id v) RequestUp is = (id, v, refl, is)
sending-is p (send.Parent id v) ResponseUp is = (id, v, refl, is)
sending-is p (send.Others set id v) ToOthers is = (set, id, v, refl)
sending-is p (send.Kids set id v) ToKids is = (set, id, v, refl)
sending-is p _ _ is = cc

no_sets : (may : Bool) (n : ℕ) → (may || n == 0) ≡ true → may ≡ false → n ≡ 0
no_sets true n is fixed = cc
no_sets false n is fixed = eqb-true n 0 is

empty : {A : Type 0} (xs : List A) → length xs ≡ 0 → xs ≡ []
empty [] is = refl
empty (x ∷ xs) is = absurd (omega arith)

pub of_row : (p : Protocol) (kind : Kind) (rule : Rule) (t : TemplateName) → template_of p kind rule ≡ Ok t → IsOfRow p kind rule t
of_row p kind rule t is =
    let level = unless (level_fits kind rule) clause.Level _ t is in
    let class = unless (class_fits p kind rule) clause.Class _ t level.1 in
    by_shape (shape_of p rule) refl level.0 class.0 class.1
  where
    by_shape : (shape : Option TemplateName) → shape_of p rule ≡ shape → level_fits kind rule ≡ true → class_fits p kind rule ≡ true → elim shape as (λ x. Result TemplateName Clause) [ None ↦ Err clause.Shape | Some t ↦ fitted p kind rule t ] ≡ Ok t → IsOfRow p kind rule t
    by_shape None is level class fits = cc
    by_shape (Some u) is level class fits =
        let locks = unless (locks_fit rule (row_of u)) clause.Locks _ t fits in
        let silent = unless (silent_fits rule (row_of u)) clause.Silent _ t locks.1 in
        let scope = unless (scope_fits rule u) clause.Scope _ t silent.1 in
        let names = unless (names_fit p kind rule (row_of u)) clause.Names _ t scope.1 in
        let same : u ≡ t = (let ok = names.1 in cc) in
        subst (λ t. IsOfRow p kind rule t) same (
        let shape = found-passes (λ t. has_shape p rule (row_of t)) templates u is in
        let one = both _ (is_sending p rule.send (row_of u).sending) shape in
        let two = both _ (option_eq (λ a b. same_side a.0 b.0 && same_origin a.1 b.1) rule.lock (row_of u).locks) one.0 in
        let three = both (is_taking p rule.take (row_of u).taking) (option_eq same_side rule.free (row_of u).frees) two.0 in
        let needs = both (same_hold rule.need.up (row_of u).up) (same_hold rule.need.down (row_of u).down) locks.0 in
        record {
          taking = taking-is p rule.take (row_of u).taking three.0;
          up = same-hold rule.need.up (row_of u).up needs.0;
          down = same-hold rule.need.down (row_of u).down needs.1;
          free = same-free rule.free (row_of u).frees three.1;
          lock = same-lock rule.lock (row_of u).locks two.1;
          sending = sending-is p rule.send (row_of u).sending one.1;
          silent = λ fixed. empty rule.sets (no_sets (row_of u).may_set (length rule.sets) silent.0 fixed);
          scope = scope.0;
          names = names.0;
          level = level;
          class = class;
        })
