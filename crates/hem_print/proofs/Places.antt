-- The grammar of protocols doesn't see where a token stands.
use Rattle.std.proofs.Common.{◌≡◌, cond, List, [], ◌∷◌, map, refl, ap, ◌∙◌, Some}
use Rattle.std.specs.Prelude.{find, option_and_then}
use Rattle.hem_text.specs.Lexemes.{Lexeme}
use Rattle.hem_text.specs.Grammars.{State, Way, full, ways, takes, goes, next, run}
use Rattle.hem_syntax.specs.declared.rule.Value.{Value}
use Rattle.hem_syntax.specs.declared.rule.Value.TheVariants as value
use Rattle.hem_grammar.specs.declared.terminals.Terminal.{Terminal}
use Rattle.hem_grammar.specs.declared.terminals.Terminal.TheVariants as the
use Rattle.hem_grammar.specs.declared.terminals.Part.{Part}
use Rattle.hem_grammar.specs.declared.terminals.Part.TheVariants as part
use Rattle.hem_grammar.specs.declared.terminals.RulePart.{RulePart}
use Rattle.hem_grammar.specs.declared.terminals.RulePart.TheVariants as rule
use Rattle.hem_grammar.specs.declared.terminals.AtomPart.{AtomPart}
use Rattle.hem_grammar.specs.declared.terminals.AtomPart.TheVariants as atom
use Rattle.hem_grammar.specs.declared.terminals.AssignPart.{AssignPart}
use Rattle.hem_grammar.specs.declared.terminals.AssignPart.TheVariants as assign
use Rattle.hem_grammar.specs.declared.terminals.SendPart.{SendPart}
use Rattle.hem_grammar.specs.declared.terminals.SendPart.TheVariants as send
use Rattle.hem_grammar.specs.declared.terminals.Item.{Item}
use Rattle.hem_grammar.specs.Draft.{Read, grammar, spells_value, part_spells, rule_spells, atom_spells, assign_spells, send_spells, spells}
use Rattle.hem_print.proofs.Steps.{bare, and_then_alike}

value_bare : (v : Value) (t : Lexeme) → spells_value v (bare t) ≡ spells_value v t
value_bare value.Zero t = refl
value_bare _ t = refl

part_bare : (e : Read) (x : Part) (t : Lexeme) → part_spells e x (bare t) ≡ part_spells e x t
part_bare e part.Name t = refl
part_bare e _ t = refl

rule_bare : (e : Read) (x : RulePart) (t : Lexeme) → rule_spells e x (bare t) ≡ rule_spells e x t
rule_bare e rule.Rule t = refl
rule_bare e _ t = refl

atom_bare : (e : Read) (x : AtomPart) (t : Lexeme) → atom_spells e x (bare t) ≡ atom_spells e x t
atom_bare e atom.When t = refl
atom_bare e _ t = refl

assign_bare : (e : Read) (x : AssignPart) (t : Lexeme) → assign_spells e x (bare t) ≡ assign_spells e x t
assign_bare e (assign.Value v) t = value_bare v t
assign_bare e _ t = refl

send_bare : (e : Read) (x : SendPart) (t : Lexeme) → send_spells e x (bare t) ≡ send_spells e x t
send_bare e (send.Value v) t = value_bare v t
send_bare e _ t = refl

spells_bare : (e : Read) (x : Terminal) (t : Lexeme) → spells e x (bare t) ≡ spells e x t
spells_bare e (the.Word w) t = refl
spells_bare e (the.Sign s) t = refl
spells_bare e (the.Part x) t = part_bare e x t
spells_bare e (the.Rule x) t = rule_bare e x t
spells_bare e (the.Atom x) t = atom_bare e x t
spells_bare e (the.Assign x) t = assign_bare e x t
spells_bare e (the.Send x) t = send_bare e x t

way_bare : (e : Read) (t : Lexeme) (ws : List (Way Terminal Item)) → find (takes grammar e (bare t)) ws ≡ find (takes grammar e t) ws
way_bare e t [] = refl
way_bare e t (w ∷ ws) = λ i. cond (spells_bare e w.terminal t i) (Some w) (way_bare e t ws i)

-- tokens say the same wherever they stand
pub run_bare : (s : State Read Terminal Item) (ts : List Lexeme) → run full grammar s (map bare ts) ≡ run full grammar s ts
run_bare s [] = refl
run_bare s (t ∷ ts) =
    and_then_alike (λ u. run full grammar u (map bare ts)) (λ u. run full grammar u ts) (λ u. run_bare u ts) (next full grammar s (bare t))
    ∙ ap (λ way. option_and_then (λ u. run full grammar u ts) (option_and_then (goes full grammar s.env t) way)) (way_bare s.env t (ways grammar s.stack))
