-- The value in an answer, or another in its place, is that of the answer by its number.
-- Assumes nothing.
use Rattle.std.proofs.Common.{◌≡◌, refl}
use Rattle.std.specs.Prelude.{Result, Ok, Err}
use Rattle.std.specs.Result.{result_unwrap_or}
use Rattle.ump.specs.declared.reply.OutOfRange.{OutOfRange}
use Rattle.ump.specs.Outcome.{answered}
use Rattle.receiving_end.specs.End.{given_or}

pub unwrapped : {A : Type 0} (r : Result A OutOfRange) (d : A) → result_unwrap_or r d ≡ given_or d (answered r)
unwrapped (Ok a) d = refl
unwrapped (Err e) d = refl
