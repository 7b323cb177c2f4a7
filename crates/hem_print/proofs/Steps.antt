-- How the grammar of protocols goes over words.
use Rattle.std.proofs.Common.{◌≡◌, Bool, true, false, cond, ◌&&◌, List, [], ◌∷◌, ◌++◌, map, refl, ap, ◌∙◌, Option, Some, None}
use Rattle.std.specs.Prelude.{find, option_and_then, option_map}
use Rattle.std.specs.Option.{option_or}
use Rattle.std.proofs.lemmas.List.Folds.{find-append}
use Rattle.hem_text.specs.declared.symbol.Symbol.{Symbol}
use Rattle.hem_text.specs.Lexemes.{Lexeme}
use Rattle.hem_text.specs.Grammars.{State, full, state, way_into, ways, takes, way_at, heads, past, can_pass, goes, next, run}
use Rattle.hem_text.specs.Tokens.{start_place}
use Rattle.hem_grammar.specs.declared.terminals.Terminal.{Terminal}
use Rattle.hem_grammar.specs.declared.terminals.Item.{Item}
use Rattle.hem_grammar.specs.Grammar.{follows}
use Rattle.hem_grammar.specs.Draft.{Read, grammar, spells, is_fresh, is_within, after}
use Rattle.hem_print.specs.Canonical.{Word, word_kind, spelling}

-- a word as a token of the first place
abbrev pub lex : Word → Lexeme
lex w = record { kind = word_kind w; text = spelling w; place = start_place }

-- a token, as if it stood at the first place
abbrev pub bare : Lexeme → Lexeme
bare t = record { kind = t.kind; text = t.text; place = start_place }

-- the state after these words, where each may come
abbrev pub go : State Read Terminal Item → List Word → Option (State Read Terminal Item)
go s [] = Some s
go s (w ∷ ws) = option_and_then (λ u. go u ws) (next full grammar s (lex w))

pub and_then_alike : {A B : Type 0} (f h : A → Option B) → ((u : A) → f u ≡ h u) → (o : Option A) → option_and_then f o ≡ option_and_then h o
and_then_alike f h same None = refl
and_then_alike f h same (Some u) = same u

pub go_runs : (s : State Read Terminal Item) (ws : List Word) → run full grammar s (map lex ws) ≡ go s ws
go_runs s [] = refl
go_runs s (w ∷ ws) = and_then_alike (λ u. run full grammar u (map lex ws)) (λ u. go u ws) (λ u. go_runs u ws) (next full grammar s (lex w))

-- the terminal of a symbol that a word takes
abbrev pub picks : Read → Word → List Terminal → Option Terminal
picks e w xs = find (λ x. spells e x (lex w)) xs

find-ways_into : (rest : List (Symbol Terminal Item)) (e : Read) (w : Word) (xs : List Terminal) →
    find (takes grammar e (lex w)) (map (way_into grammar rest) xs) ≡ option_map (way_into grammar rest) (picks e w xs)
find-ways_into rest e w [] = refl
find-ways_into rest e w (x ∷ xs) = at (spells e x (lex w)) (find-ways_into rest e w xs)
  where
    at : (b : Bool) → find (takes grammar e (lex w)) (map (way_into grammar rest) xs) ≡ option_map (way_into grammar rest) (picks e w xs) →
        cond b (Some (way_into grammar rest x)) (find (takes grammar e (lex w)) (map (way_into grammar rest) xs)) ≡ option_map (way_into grammar rest) (cond b (Some x) (picks e w xs))
    at true h = refl
    at false h = h

find-cond : {W : Type 0} (p : W → Bool) (b : Bool) (ws : List W) → find p (cond b ws []) ≡ cond b (find p ws) None
find-cond p true ws = refl
find-cond p false ws = refl

way_step : (e : Read) (w : Word) (s : Symbol Terminal Item) (rest : List (Symbol Terminal Item)) →
    way_at grammar (state e (s ∷ rest)) (lex w) ≡ option_or (option_map (way_into grammar (past s rest)) (picks e w (heads grammar s))) (cond (can_pass s) (way_at grammar (state e rest) (lex w)) None)
way_step e w s rest =
    find-append (takes grammar e (lex w)) (map (way_into grammar (past s rest)) (heads grammar s)) (cond (can_pass s) (ways grammar rest) [])
    ∙ (λ i. option_or (find-ways_into (past s rest) e w (heads grammar s) i) (find-cond (takes grammar e (lex w)) (can_pass s) (ways grammar rest) i))

-- a word that takes one of the symbol's terminals
pub pick : (e : Read) (w : Word) (ws : List Word) (s : Symbol Terminal Item) (rest : List (Symbol Terminal Item)) (x : Terminal) →
    picks e w (heads grammar s) ≡ Some x → is_fresh e x (spelling w) ≡ true → is_within e x (spelling w) ≡ true →
    go (state e (s ∷ rest)) (w ∷ ws) ≡ go (state (after e x (spelling w)) (follows x ++ past s rest)) ws
pick e w ws s rest x picked fresh within =
    let way : way_at grammar (state e (s ∷ rest)) (lex w) ≡ Some (way_into grammar (past s rest) x) = way_step e w s rest ∙ ap (λ o. option_or (option_map (way_into grammar (past s rest)) o) (cond (can_pass s) (way_at grammar (state e rest) (lex w)) None)) picked in
    let one : next full grammar (state e (s ∷ rest)) (lex w) ≡ Some (state (after e x (spelling w)) (follows x ++ past s rest)) =
    ap (λ o. option_and_then (goes full grammar e (lex w)) o) way ∙ allowed (is_fresh e x (spelling w)) (is_within e x (spelling w)) fresh within in
    ap (λ o. option_and_then (λ u. go u ws) o) one
  where
    allowed : (f l : Bool) → f ≡ true → l ≡ true → cond (f && l) (Some (state (after e x (spelling w)) (follows x ++ past s rest))) None ≡ Some (state (after e x (spelling w)) (follows x ++ past s rest))
    allowed true true a b = refl
    allowed true false a b = absurd cc
    allowed false l a b = absurd cc

-- a word that takes none of the terminals of a symbol that may be left out
pub skip : (e : Read) (w : Word) (ws : List Word) (s : Symbol Terminal Item) (rest : List (Symbol Terminal Item)) →
    can_pass s ≡ true → picks e w (heads grammar s) ≡ None → go (state e (s ∷ rest)) (w ∷ ws) ≡ go (state e rest) (w ∷ ws)
skip e w ws s rest passes none =
    let way : way_at grammar (state e (s ∷ rest)) (lex w) ≡ way_at grammar (state e rest) (lex w) = way_step e w s rest ∙ left (picks e w (heads grammar s)) (can_pass s) none passes in
    ap (λ o. option_and_then (λ u. go u ws) (option_and_then (goes full grammar e (lex w)) o)) way
  where
    left : (o : Option Terminal) (b : Bool) → o ≡ None → b ≡ true →
        option_or (option_map (way_into grammar (past s rest)) o) (cond b (way_at grammar (state e rest) (lex w)) None) ≡ way_at grammar (state e rest) (lex w)
    left None true a b = refl
    left None false a b = absurd cc
    left (Some x) c a b = absurd cc
