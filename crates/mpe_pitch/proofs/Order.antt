-- Bounds on integers: of a sum, wider ones, and in 32 bits.
-- Assumes nothing.
use Prim.Native.Nat.{ℕ, ◌+◌, ◌^◌, ◌<◌, ◌≤◌}
use native.Mathlib.Omega.{arith}
use lib.IntN.{ℤ, ◌+ℤ◌}
use mir.Syntax.{w32}
use mir.Val.{SFits}
use Rattle.std.proofs.lemmas.Int.{ints}
use Rattle.mpe_pitch.specs.Claims.{Within}

pub sum : (l h m k : ℕ) (y z : ℤ) → Within l h y → Within m k z → Within (l + m) (h + k) (y +ℤ z)
sum l h m k y z p q = (omega (arith, ints), omega (arith, ints))

-- wider bounds
pub widen : (l h m k : ℕ) (z : ℤ) → l ≤ m → h ≤ k → Within l h z → Within m k z
widen l h m k z p q w = (omega (arith, ints), omega (arith, ints))

-- such a number is an i32
pub within-fits : (low high : ℕ) (z : ℤ) → Within low high z → low ≤ 2 ^ 31 → high < 2 ^ 31 → SFits w32 z
within-fits low high z p l h = omega (arith, ints)
