-- By what rules are told apart.
use Rattle.std.proofs.Common.{◌≡◌, refl, ap, ℕ, ◌==◌, Bool, true, false, ◌&&◌, List, Option, Some, None}
use Rattle.std.specs.List.{list_any}
use Rattle.std.specs.Str.{bytes_eq}
use Rattle.hem_modtext.specs.declared.key.RuleKey.{RuleKey}
use Rattle.hem_modtext.specs.contracts.key.RuleKeyPartialEq.TheImpl as derived
use Rattle.hem_modtext.specs.Draft.{same_key}

and_assoc : (a b c : Bool) → (a && (b && c)) ≡ ((a && b) && c)
and_assoc true b c = refl
and_assoc false b c = refl

-- the equality that is derived is that of object, name and child
alike : (o p : ℕ) (n m : List ℕ) (f g : Option ℕ) → derived.eq-value.it (record { object = o; name = n; from = f }) (record { object = p; name = m; from = g }) ≡ same_key (record { object = o; name = n; from = f }) (record { object = p; name = m; from = g })
alike o p n m None None = and_assoc (o == p) (bytes_eq n m) true
alike o p n m None (Some y) = and_assoc (o == p) (bytes_eq n m) false
alike o p n m (Some x) None = and_assoc (o == p) (bytes_eq n m) false
alike o p n m (Some x) (Some y) = and_assoc (o == p) (bytes_eq n m) (x == y)

-- a key that is among these
pub among_keys : (key : RuleKey) (keys : List RuleKey) → list_any (derived.eq-value.it key) keys ≡ list_any (same_key key) keys
among_keys key keys = ap (λ (f : RuleKey → Bool). list_any f keys) (λ i k. alike key.object k.object key.name k.name key.from k.from i)
