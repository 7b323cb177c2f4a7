-- The sets of a rule, and a freed lock, keep a well-formed local state.
use Rattle.std.proofs.Common.{◌≡◌, refl, ap, ◌∙◌, ℕ, suc, ◌+◌, Bool, true, false, cond, List, [], ◌∷◌, length, ltb-true, Option, Some, None}
use Rattle.std.specs.Prelude.{nat_lt, All}
use Rattle.std.specs.List.{list_all}
use Rattle.std.proofs.Math.ListN.{length-set}
use Rattle.std.proofs.lemmas.List.Elements.{All-nil, All-cons, All-head, All-tail, All-set}
use Rattle.hem_base.specs.declared.ids.Status8.{Status8}
use Rattle.hem_base.specs.declared.ids.Kind.{Kind}
use Rattle.hem_syntax.specs.declared.rule.Side.{Side}
use Rattle.hem_syntax.specs.declared.rule.Side.TheVariants as side
use Rattle.hem_syntax.specs.declared.rule.Assign.{Assign}
use Rattle.hem_syntax.specs.declared.rule.Assign.TheVariants as assign
use Rattle.hem_syntax.specs.Protocol.{Protocol, part}
use Rattle.hem_syntax.specs.Lawful.{has_field, has_assign, counts_of}
use Rattle.hem_object.specs.declared.state.View.{View}
use Rattle.hem_object.specs.Local.{Local, IsStatus, IsWellFormed}
use Rattle.hem_object.specs.Changes.{set_at, assign_own, assign_targets, assign_me, in_turn, assigned, freed}
use Rattle.hem_invariants.proofs.Choices.{both}

-- setting some entries keeps their number
set_at-length : (s : Status8) (test : ℕ → Bool) (k : ℕ) (dir : List Status8) → length (set_at s test k dir) ≡ length dir
set_at-length s test k [] = refl
set_at-length s test k (d ∷ dir) = ap suc (set_at-length s test (k + 1) dir)

-- setting some entries to a status keeps what holds of it and of all
set_at-all : (P : Status8 → Type 0) (s : Status8) (test : ℕ → Bool) (k : ℕ) (dir : List Status8) → P s → All P dir → All P (set_at s test k dir)
set_at-all P s test k [] it all = All-nil P
set_at-all P s test k (d ∷ dir) it all =
    All-cons P (cond (test k) s d) (set_at s test (k + 1) dir) (one (test k)) (set_at-all P s test (k + 1) dir it (All-tail P d dir all))
  where
    one : (b : Bool) → P (cond b s d)
    one true = it
    one false = All-head P d dir all

module _ (p : Protocol) (kind : Kind) (children : ℕ) where
  -- a set of a field or of the value keeps it
  own-kept : (before : Local) (view : View) (a : Assign) (local : Local) → has_assign (counts_of p (part p kind)) a ≡ true → IsWellFormed p kind children local → IsWellFormed p kind children (assign_own before view a local)
  own-kept before view (assign.Field i s) local has formed =
      record {
        field_count = length-set local.fields i s ∙ formed.field_count;
        dir_count = formed.dir_count;
        fields = All-set (IsStatus p) local.fields i s (ltb-true s.0 (length p.statuses) (both (has_field (counts_of p (part p kind)) i) (nat_lt s.0 (length p.statuses)) has).1) formed.fields;
        dir = formed.dir;
        up = formed.up;
        down = formed.down;
      }
  own-kept before view (assign.Val v) local has formed =
      record { field_count = formed.field_count; dir_count = formed.dir_count; fields = formed.fields; dir = formed.dir; up = formed.up; down = formed.down }
  own-kept before view (assign.Me s) local has formed = formed
  own-kept before view (assign.Targets s) local has formed = formed

  -- so does a set of some entries
  entries-kept : (s : Status8) (test : ℕ → Bool) (local : Local) → nat_lt s.0 (length p.statuses) ≡ true → IsWellFormed p kind children local → IsWellFormed p kind children (record local { dir = set_at s test 0 local.dir })
  entries-kept s test local has formed =
      record {
        field_count = formed.field_count;
        dir_count = set_at-length s test 0 local.dir ∙ formed.dir_count;
        fields = formed.fields;
        dir = set_at-all (IsStatus p) s test 0 local.dir (ltb-true s.0 (length p.statuses) has) formed.dir;
        up = formed.up;
        down = formed.down;
      }

  -- of the awaited children's
  targets-kept : (view : View) (a : Assign) (local : Local) → has_assign (counts_of p (part p kind)) a ≡ true → IsWellFormed p kind children local → IsWellFormed p kind children (assign_targets view a local)
  targets-kept view (assign.Field i s) local has formed = formed
  targets-kept view (assign.Val v) local has formed = formed
  targets-kept view (assign.Me s) local has formed = formed
  targets-kept view (assign.Targets s) local has formed = entries-kept s _ local has formed

  -- and of the requester's
  me-kept : (view : View) (a : Assign) (local : Local) → has_assign (counts_of p (part p kind)) a ≡ true → IsWellFormed p kind children local → IsWellFormed p kind children (assign_me view a local)
  me-kept view (assign.Field i s) local has formed = formed
  me-kept view (assign.Val v) local has formed = formed
  me-kept view (assign.Me s) local has formed = entries-kept s _ local has formed
  me-kept view (assign.Targets s) local has formed = formed

  -- what each change keeps all of them in turn keep
  turns-kept : (change : Assign → Local → Local) (sets : List Assign) (local : Local) → ((a : Assign) (l : Local) → has_assign (counts_of p (part p kind)) a ≡ true → IsWellFormed p kind children l → IsWellFormed p kind children (change a l)) → list_all (has_assign (counts_of p (part p kind))) sets ≡ true → IsWellFormed p kind children local → IsWellFormed p kind children (in_turn change sets local)
  turns-kept change [] local keeps has formed = formed
  turns-kept change (a ∷ sets) local keeps has formed =
      let parts = both (has_assign (counts_of p (part p kind)) a) (list_all (has_assign (counts_of p (part p kind))) sets) has in
      turns-kept change sets (change a local) keeps parts.1 (keeps a local parts.0 formed)

  -- the sets of a rule keep a well-formed local state
  pub assigned-kept : (view : View) (sets : List Assign) (local : Local) → list_all (has_assign (counts_of p (part p kind))) sets ≡ true → IsWellFormed p kind children local → IsWellFormed p kind children (assigned sets view local)
  assigned-kept view sets local has formed =
      turns-kept (assign_me view) sets _ (me-kept view) has
      (turns-kept (assign_targets view) sets _ (targets-kept view) has
      (turns-kept (assign_own local view) sets local (own-kept local view) has formed))

  -- and so does a freed lock
  pub freed-kept : (free : Option Side) (local : Local) → IsWellFormed p kind children local → IsWellFormed p kind children (freed free local)
  freed-kept None local formed = formed
  freed-kept (Some side.Up) local formed =
      record { field_count = formed.field_count; dir_count = formed.dir_count; fields = formed.fields; dir = formed.dir; up = λ lock is. cc; down = formed.down }
  freed-kept (Some side.Down) local formed =
      record { field_count = formed.field_count; dir_count = formed.dir_count; fields = formed.fields; dir = formed.dir; up = formed.up; down = λ lock is. cc }
