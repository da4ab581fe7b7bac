-- The sum of two offsets with their remainders comes back whole from 32 bits.
-- Assumes nothing.
use Prim.Native.Nat.{ℕ, ◌+◌, ◌^◌, ◌<◌, ◌≤◌}
use mathlib.Core.Path.{◌≡◌}
use lib.Dec.{lit<, lit≤}
use lib.IntN.{ℤ, ◌+ℤ◌}
use native.Mathlib.Omega.{arith}
use mir.Syntax.{w32}
use mir.Val.{to_z, of_z, SFits}
use mir.ValLaws.{to_z-of_z}
use Rattle.mpe_pitch.specs.declared.MpeSensitivity.{MpeSensitivity}
use Rattle.mpe_pitch.specs.declared.OffsetWithRemainder.{OffsetWithRemainder}
use Rattle.mpe_pitch.specs.Remainder.{offset_with_remainder}
use Rattle.mpe_pitch.specs.Claims.{Within, OffsetWithin}
use Rattle.mpe_pitch.proofs.Order.{sum, within-fits}
use Rattle.mpe_pitch.proofs.Offset.{offset-within}
use Rattle.mpe_pitch.proofs.Remainder.{remainder-within}

-- two numbers within bounds, as the machine has them
module _ (low high : ℕ) (l : low + low ≤ 2 ^ 31) (h : high + high < 2 ^ 31) (a b : ℤ) (p : Within low high a) (q : Within low high b) where
  back : (z : ℤ) → Within low high z → to_z w32 (of_z w32 z) ≡ z
  back z w = to_z-of_z w32 z (within-fits low high z w (omega arith) (omega arith))

  fits : SFits w32 (a +ℤ b)
  fits = within-fits (low + low) (high + high) (a +ℤ b) (sum low high low high a b p q) l h

  added-fits : SFits w32 (to_z w32 (of_z w32 a) +ℤ to_z w32 (of_z w32 b))
  added-fits = rw (back a p, back b q) fits

  added-back : to_z w32 (of_z w32 (to_z w32 (of_z w32 a) +ℤ to_z w32 (of_z w32 b))) ≡ a +ℤ b
  added-back = rw (back a p, back b q) (to_z-of_z w32 (a +ℤ b) fits)

-- the bounds of an offset with its remainder
pub record Bounded (p : OffsetWithRemainder) : Type 0 where
  pub offset-bound : OffsetWithin p.offset
  pub remainder-bound : Within 4095 4095 p.remainder

pub bounded : (p : OffsetWithRemainder) (v : ℕ) (s : MpeSensitivity) → p ≡ offset_with_remainder v s → Bounded p
bounded p v s e = rw e (record { offset-bound = offset-within v s; remainder-bound = remainder-within v s })

module _ {p q : OffsetWithRemainder} (b : Bounded p) (c : Bounded q) where
  pub offsets-fit : SFits w32 (to_z w32 (of_z w32 p.offset) +ℤ to_z w32 (of_z w32 q.offset))
  offsets-fit = added-fits 1282857 1282700 (lit≤ tt) (lit< tt) p.offset q.offset b.offset-bound c.offset-bound

  pub offsets-back : to_z w32 (of_z w32 (to_z w32 (of_z w32 p.offset) +ℤ to_z w32 (of_z w32 q.offset))) ≡ p.offset +ℤ q.offset
  offsets-back = added-back 1282857 1282700 (lit≤ tt) (lit< tt) p.offset q.offset b.offset-bound c.offset-bound

  pub remainders-fit : SFits w32 (to_z w32 (of_z w32 p.remainder) +ℤ to_z w32 (of_z w32 q.remainder))
  remainders-fit = added-fits 4095 4095 (lit≤ tt) (lit< tt) p.remainder q.remainder b.remainder-bound c.remainder-bound

  pub remainders-back : to_z w32 (of_z w32 (to_z w32 (of_z w32 p.remainder) +ℤ to_z w32 (of_z w32 q.remainder))) ≡ p.remainder +ℤ q.remainder
  remainders-back = added-back 4095 4095 (lit≤ tt) (lit< tt) p.remainder q.remainder b.remainder-bound c.remainder-bound
