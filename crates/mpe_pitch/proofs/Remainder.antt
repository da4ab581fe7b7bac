-- An offset's remainder: what it is by the sign, its bounds, and the pair of both.
-- Assumes nothing.
use mathlib.Core.Path.{◌≡◌}
use Prim.Native.Nat.{ℕ, ◌-◌, ◌*◌, ◌%◌, ◌^◌, ◌<◌}
use mathlib.Core.Bool.{Bool, true, false}
use native.Mathlib.Omega.{arith}
use borrow.Author.Tests.{lt-ltb}
use lib.Dec.{ltb, lit<, lit≤}
use lib.IntN.{ℤ, pos, neg_ℤ, ◌+ℤ◌, ◌-ℤ◌, ◌*ℤ◌}
use mir.Syntax.{w32}
use mir.Val.{to_z, of_z}
use mir.ValLaws.{to_z-of_z}
use Rattle.std.proofs.lemmas.Int.{ints}
use Rattle.std.proofs.lemmas.Grind.{common_steps}
use Rattle.ump.specs.Choice.{when◌then◌else◌}
use Rattle.mpe_pitch.specs.declared.MpeSensitivity.{MpeSensitivity}
use Rattle.mpe_pitch.specs.declared.OffsetWithRemainder.{OffsetWithRemainder}
use Rattle.mpe_pitch.specs.Pitch.{range_of, nearest, apart, pitch_offset}
use Rattle.mpe_pitch.specs.Remainder.{scaled, pitch_remainder, offset_with_remainder, sum_of}
use Rattle.mpe_pitch.specs.Claims.{Within, Divided, IsPair, OnlyPair}
use Rattle.mpe_pitch.proofs.Order.{within-fits}
use Rattle.mpe_pitch.proofs.Offset.{turn, exact, offset-nearest}
use Rattle.mpe_pitch.proofs.Round.{parted}

pub rest_of : (d m : ℕ) → d % 8191 * m % 8191 ≡ d * m % 8191
rest_of d m = omega (arith, parted 8191 d m)

-- what n has over the nearest multiple of 8191
abbrev pub over : ℕ → ℤ
over n = pos n -ℤ pos (8191 * nearest n 8191)

turned-over : (b : Bool) (n : ℕ) → turn b n -ℤ pos 8191 *ℤ turn b (nearest n 8191) ≡ (when b then neg_ℤ (over n) else over n)
turned-over true n = omega (arith, ints)
turned-over false n = omega (arith, ints)

pub remainder_is : (value : ℕ) (s : MpeSensitivity) → pitch_remainder value s ≡ (when ltb (value % 2 ^ 14) 8192 then neg_ℤ (over (range_of s * apart (value % 2 ^ 14) 8192)) else over (range_of s * apart (value % 2 ^ 14) 8192))
unfolding pitch_remainder pitch_offset
remainder_is value s =
    let v = value % 2 ^ 14 in
    rw (exact (range_of s) v) (turned-over (ltb v 8192) (range_of s * apart v 8192))

-- by the magnitude d times m
pub remainder_below : (value : ℕ) (s : MpeSensitivity) (d m : ℕ) → value % 2 ^ 14 < 8192 → d ≡ range_of s → m ≡ 8192 - value % 2 ^ 14 → pitch_remainder value s ≡ neg_ℤ (over (d * m))
remainder_below value s d m h e f =
    let v = value % 2 ^ 14 in
    let g : apart v 8192 ≡ 8192 - v = omega arith in
    rw (remainder_is value s, lt-ltb v 8192 h, e, f, g)

pub is-pair : (value : ℕ) (s : MpeSensitivity) → IsPair value s (offset_with_remainder value s)
unfolding pitch_remainder pitch_offset
is-pair value s = grind (arith, common_steps)

pub only-pair : (value : ℕ) (s : MpeSensitivity) → OnlyPair value s (offset_with_remainder value s)
unfolding pitch_remainder pitch_offset
only-pair value s q (divided, within) =
    let o : q.offset ≡ pitch_offset value s = (offset-nearest value s).1 q.offset (omega (arith, ints)) in
    let r : q.remainder ≡ scaled value s -ℤ pos 8191 *ℤ pitch_offset value s = omega (arith, ints) in
    λ i. record { offset = o i; remainder = r i }

-- the numerators of two pairs, and the pairs, are added
pub divided-sum : (m n : ℤ) (p q : OffsetWithRemainder) → Divided m p → Divided n q → Divided (m +ℤ n) (sum_of p q)
divided-sum m n p q e f = omega (arith, ints)

pub remainder-within : (value : ℕ) (s : MpeSensitivity) → Within 4095 4095 (pitch_remainder value s)
remainder-within value s = (is-pair value s).1

-- a remainder comes back whole from 32 bits
pub remainder-back : (z : ℤ) (v : ℕ) (s : MpeSensitivity) → z ≡ pitch_remainder v s → to_z w32 (of_z w32 z) ≡ pitch_remainder v s
remainder-back z v s e = rw e (to_z-of_z w32 (pitch_remainder v s) (within-fits 4095 4095 (pitch_remainder v s) (remainder-within v s) (lit≤ tt) (lit< tt)))
