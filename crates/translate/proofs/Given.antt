-- The value of a call that is in range.
-- Assumes nothing.
use mathlib.Core.Path.{◌≡◌}
use Prim.Native.Nat.{ℕ}
use Rattle.std.specs.Prelude.{Result, Ok, Err}
use Rattle.std.specs.Result.{result_unwrap_or}
use Rattle.ump.specs.declared.reply.OutOfRange.{OutOfRange}
use Rattle.ump.specs.Outcome.{given, answered}

pub value-given : (r : Result ℕ OutOfRange) (x : ℕ) → answered r ≡ given x → result_unwrap_or r 0 ≡ x
value-given (Ok y) x e = cc
value-given (Err f) x e = cc
