-- A source and a sink in memory, which fail at chosen calls.
use Rattle.std.specs.Prelude.{◌≡◌, ℕ, ◌+◌, ◌-◌, ◌^◌, ◌==◌, ◌&&◌, min, Bool, true, false, List, length, count_by, nat_le, nat_lt, Result, MatchResult, if◌then◌else◌}
use Rattle.std.specs.List.{list_any}

-- a source: the bytes that are left, how many were taken, the calls that are to fail, and how many calls there were
pub record Input : Type 0 where
  pub left : List ℕ
  pub taken : ℕ
  pub fails : List ℕ
  pub calls : ℕ

-- a sink: its bytes, room for how many, the most that a call takes, the calls that are to fail, how many calls
-- there were, and how many of them found no room
pub record Output : Type 0 where
  pub bytes : List ℕ
  pub room : ℕ
  pub most : ℕ
  pub fails : List ℕ
  pub calls : ℕ
  pub refused : ℕ

-- how many of the calls so far were to fail
abbrev pub failed_calls : ℕ → List ℕ → ℕ
failed_calls calls fails = count_by (λ call. nat_le call calls) fails

-- whether the call after so many is to fail; calls past the last number of a `u64` don't
abbrev pub is_failing_next : ℕ → List ℕ → Bool
is_failing_next calls fails = nat_lt (calls + 1) (2 ^ 64) && list_any (λ call. call == calls + 1) fails

-- how often a sink failed: at the calls that were to fail, and at those that found it full
abbrev pub failures : Output → ℕ
failures s = failed_calls s.calls s.fails + (if nat_lt (length s.bytes) s.room then 0 else s.refused)

-- how many bytes a call takes of so many
abbrev pub taken_of : Output → ℕ → ℕ
taken_of s n = min (min n s.most) (s.room - length s.bytes)

-- a call fails where that is told, and else takes n bytes
abbrev pub FailsOrTakes : {E : Type 0} → Result ℕ E → Bool → ℕ → Type 0
FailsOrTakes result fails n = MatchResult result (λ count. (fails ≡ false) × (count ≡ n)) (λ _. fails ≡ true)
