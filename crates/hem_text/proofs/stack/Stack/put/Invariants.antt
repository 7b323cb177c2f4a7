use Rattle.std.proofs.Common.{◌≡◌, ◌++◌, ◌-◌, drop, length}
use Rattle.std.specs.Prelude.{reverse}
use Rattle.hem_text.proofs.stack.Stack.put.Given as goal

abbrev pub invariant-loop-i : goal.invariant-loop-i
invariant-loop-i g l = reverse l.self-inside.items.items ≡ drop (length l.symbols - l.i) l.symbols ++ l.fn.self
