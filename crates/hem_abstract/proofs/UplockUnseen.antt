-- A rule that names no requester and no request of the uplock's does the same with another uplock.
use Rattle.std.proofs.Common.{◌≡◌, refl, ap, sym, ◌∙◌, Bool, true, false, not, ◌&&◌, List, [], ◌∷◌, Option, None}
use Rattle.std.specs.Prelude.{◌==◌, option_map, is_some, unwrap_or}
use Rattle.std.specs.List.{list_all}
use Rattle.std.specs.Option.{option_map_or}
use Rattle.hem_base.specs.declared.ids.Kind.{Kind}
use Rattle.hem_syntax.specs.declared.rule.Atom.{Atom}
use Rattle.hem_syntax.specs.declared.rule.Atom.TheVariants as atom
use Rattle.hem_syntax.specs.declared.rule.Value.{Value}
use Rattle.hem_syntax.specs.declared.rule.Value.TheVariants.{Val, Msg, Kept, Rs, Zero}
use Rattle.hem_syntax.specs.declared.rule.Assign.{Assign}
use Rattle.hem_syntax.specs.declared.rule.Assign.TheVariants as assign
use Rattle.hem_object.specs.declared.state.Lock.{Lock}
use Rattle.hem_object.specs.declared.state.View.{View}
use Rattle.hem_syntax.specs.Protocol.{Protocol}
use Rattle.hem_object.specs.Local.{Local}
use Rattle.hem_object.specs.Guard.{atom_holds, holds, value_of}
use Rattle.hem_object.specs.Changes.{assign_names, assign_own, assign_targets, assign_me, in_turn, assigned}
use Rattle.hem_template.specs.Template.{may_name_requester, has_kept, atom_fits, value_fits, set_fits, is_leaf}
use Rattle.hem_template.specs.declared.row.Row.{Row}
use Rattle.hem_template.specs.Rows.{set_value_fits}
use Rattle.hem_rows.proofs.Choices.{both}

-- a local state with another uplock
abbrev pub with_up : Option Lock → Local → Local
with_up x local = record local { up = x }

-- two views are alike in all that a rule of a row that names no requester may read
pub record AreAlike (row : Row) (a b : View) : Type 0 where
  pub no_me : may_name_requester row ≡ false
  pub msg : a.msg ≡ b.msg
  pub rs : a.rs ≡ b.rs
  pub awaited : a.awaited ≡ b.awaited
  pub kept : has_kept row.taking ≡ true → a.kept ≡ b.kept

no-me : (row : Row) (leaf : Bool) → may_name_requester row ≡ false → (may_name_requester row && not leaf) ≡ true → ⊥
no-me row leaf not_me is = let me : may_name_requester row ≡ true = (both (may_name_requester row) (not leaf) is).0 in let clash : false ≡ true = sym not_me ∙ me in cc

atom-frame : (p : Protocol) (kind : Kind) (row : Row) (local : Local) (x : Option Lock) (a b : View) (c : Atom) → AreAlike row a b → atom_fits p kind row c ≡ true → atom_holds local a c ≡ atom_holds (with_up x local) b c
atom-frame p kind row local x a b (atom.Field i set) alike fits = refl
atom-frame p kind row local x a b (atom.KidsAll set) alike fits = refl
atom-frame p kind row local x a b (atom.KidsAny set) alike fits = refl
atom-frame p kind row local x a b (atom.Asked id) alike fits = ap (λ k. option_map_or (λ m. m.id.0 == id.0) k false) (alike.kept (both (has_kept row.taking) _ fits).0)
atom-frame p kind row local x a b _ alike fits = absurd (no-me row (is_leaf kind) alike.no_me fits)

pub guard-frame : (p : Protocol) (kind : Kind) (row : Row) (local : Local) (x : Option Lock) (a b : View) (guard : List Atom) → AreAlike row a b → list_all (atom_fits p kind row) guard ≡ true → holds guard local a ≡ holds guard (with_up x local) b
guard-frame p kind row local x a b [] alike fits = refl
guard-frame p kind row local x a b (c ∷ guard) alike fits =
    let parts = both (atom_fits p kind row c) _ fits in
    rw (atom-frame p kind row local x a b c alike parts.0, guard-frame p kind row local x a b guard alike parts.1) refl

pub value-frame : (row : Row) (local : Local) (x : Option Lock) (a b : View) (v : Value) → AreAlike row a b → value_fits row v ≡ true → value_of v local a ≡ value_of v (with_up x local) b
value-frame row local x a b Val alike fits = refl
value-frame row local x a b Msg alike fits = alike.msg
value-frame row local x a b Kept alike fits = ap (option_map (λ m. m.value)) (alike.kept fits)
value-frame row local x a b Rs alike fits = alike.rs
value-frame row local x a b Zero alike fits = refl

names-frame : (kind : Kind) (row : Row) (local : Local) (x : Option Lock) (a b : View) (s : Assign) → AreAlike row a b → set_fits kind row s ≡ true → set_value_fits row s ≡ true → assign_names local a s ≡ assign_names (with_up x local) b s
names-frame kind row local x a b (assign.Field i s) alike fits value = refl
names-frame kind row local x a b (assign.Val v) alike fits value = ap is_some (value-frame row local x a b v alike value)
names-frame kind row local x a b (assign.Me s) alike fits value = absurd (no-me row (is_leaf kind) alike.no_me fits)
names-frame kind row local x a b (assign.Targets s) alike fits value = ap (λ set. not (set.0 == 0)) alike.awaited

pub all-names-frame : (kind : Kind) (row : Row) (local : Local) (x : Option Lock) (a b : View) (sets : List Assign) → AreAlike row a b → list_all (set_fits kind row) sets ≡ true → list_all (set_value_fits row) sets ≡ true → list_all (assign_names local a) sets ≡ list_all (assign_names (with_up x local) b) sets
all-names-frame kind row local x a b [] alike fits value = refl
all-names-frame kind row local x a b (s ∷ sets) alike fits value =
    let one = both (set_fits kind row s) _ fits in
    let two = both (set_value_fits row s) _ value in
    rw (names-frame kind row local x a b s alike one.0 two.0, all-names-frame kind row local x a b sets alike one.1 two.1) refl

-- each pass of the sets
own-step : (row : Row) (before : Local) (x : Option Lock) (a b : View) (s : Assign) (local : Local) → AreAlike row a b → set_value_fits row s ≡ true → with_up x (assign_own before a s local) ≡ assign_own (with_up x before) b s (with_up x local)
own-step row before x a b (assign.Field i s) local alike value = refl
own-step row before x a b (assign.Val v) local alike value = ap (λ n. record local { val = unwrap_or n 0; up = x }) (value-frame row before x a b v alike value)
own-step row before x a b (assign.Me s) local alike value = refl
own-step row before x a b (assign.Targets s) local alike value = refl

own-frame : (row : Row) (before : Local) (x : Option Lock) (a b : View) (sets : List Assign) (local : Local) → AreAlike row a b → list_all (set_value_fits row) sets ≡ true → with_up x (in_turn (assign_own before a) sets local) ≡ in_turn (assign_own (with_up x before) b) sets (with_up x local)
own-frame row before x a b [] local alike value = refl
own-frame row before x a b (s ∷ sets) local alike value =
    let two = both (set_value_fits row s) _ value in
    own-frame row before x a b sets (assign_own before a s local) alike two.1 ∙ ap (in_turn (assign_own (with_up x before) b) sets) (own-step row before x a b s local alike two.0)

targets-step : (row : Row) (x : Option Lock) (a b : View) (s : Assign) (local : Local) → AreAlike row a b → with_up x (assign_targets a s local) ≡ assign_targets b s (with_up x local)
targets-step row x a b (assign.Targets s) local alike = ap (λ v. with_up x (assign_targets (let w : View = record { requester = None; msg = None; rs = None; kept = None; awaited = v } in w) (assign.Targets s) local)) alike.awaited
targets-step row x a b (assign.Field i s) local alike = refl
targets-step row x a b (assign.Val v) local alike = refl
targets-step row x a b (assign.Me s) local alike = refl

targets-frame : (row : Row) (x : Option Lock) (a b : View) (sets : List Assign) (local : Local) → AreAlike row a b → with_up x (in_turn (assign_targets a) sets local) ≡ in_turn (assign_targets b) sets (with_up x local)
targets-frame row x a b [] local alike = refl
targets-frame row x a b (s ∷ sets) local alike = targets-frame row x a b sets (assign_targets a s local) alike ∙ ap (in_turn (assign_targets b) sets) (targets-step row x a b s local alike)

me-step : (kind : Kind) (row : Row) (x : Option Lock) (a b : View) (s : Assign) (local : Local) → AreAlike row a b → set_fits kind row s ≡ true → with_up x (assign_me a s local) ≡ assign_me b s (with_up x local)
me-step kind row x a b (assign.Me s) local alike fits = absurd (no-me row (is_leaf kind) alike.no_me fits)
me-step kind row x a b (assign.Field i s) local alike fits = refl
me-step kind row x a b (assign.Val v) local alike fits = refl
me-step kind row x a b (assign.Targets s) local alike fits = refl

me-frame : (kind : Kind) (row : Row) (x : Option Lock) (a b : View) (sets : List Assign) (local : Local) → AreAlike row a b → list_all (set_fits kind row) sets ≡ true → with_up x (in_turn (assign_me a) sets local) ≡ in_turn (assign_me b) sets (with_up x local)
me-frame kind row x a b [] local alike fits = refl
me-frame kind row x a b (s ∷ sets) local alike fits =
    let one = both (set_fits kind row s) _ fits in
    me-frame kind row x a b sets (assign_me a s local) alike one.1 ∙ ap (in_turn (assign_me b) sets) (me-step kind row x a b s local alike one.0)

pub assigned-frame : (kind : Kind) (row : Row) (x : Option Lock) (a b : View) (sets : List Assign) (local : Local) → AreAlike row a b → list_all (set_fits kind row) sets ≡ true → list_all (set_value_fits row) sets ≡ true → with_up x (assigned sets a local) ≡ assigned sets b (with_up x local)
assigned-frame kind row x a b sets local alike fits value =
    me-frame kind row x a b sets _ alike fits
    ∙ ap (in_turn (assign_me b) sets) (targets-frame row x a b sets _ alike ∙ ap (in_turn (assign_targets b) sets) (own-frame row local x a b sets local alike value))
