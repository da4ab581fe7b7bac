-- An offset is the nearest integer and no other is, nothing lies halfway, it never falls as the bend rises, and its bounds.
-- Assumes nothing.
use mathlib.Core.Path.{◌≡◌}
use mathlib.Core.Bool.{Bool, true, false}
use Prim.Native.Nat.{ℕ, suc, ◌-◌, ◌*◌, ◌%◌, ◌^◌, ◌≤◌}
use native.Mathlib.Nat.{mul-le-mul_left}
use native.Mathlib.Omega.{arith}
use borrow.Author.Tests.{ltb-true, ltb-false}
use lib.Dec.{ltb, lit<, lit≤}
use lib.IntN.{ℤ, pos, neg_ℤ, ◌+ℤ◌, ◌-ℤ◌, ◌*ℤ◌}
use lib.Signed.{◌≤ℤ◌}
use mir.Syntax.{w32}
use mir.Val.{to_z, of_z}
use mir.ValLaws.{to_z-of_z}
use Rattle.std.proofs.lemmas.Int.{ints}
use Rattle.std.proofs.lemmas.Grind.{common_steps}
use Rattle.ump.specs.Choice.{when◌then◌else◌}
use Rattle.ump.proofs.Cases.{by-test}
use Rattle.mpe_pitch.specs.declared.MpeSensitivity.{MpeSensitivity}
use Rattle.mpe_pitch.specs.Pitch.{range_of, nearest, apart, offset_in, pitch_offset}
use Rattle.mpe_pitch.specs.Claims.{NearestTo, Within, OffsetNearest, NoTie, OffsetWithin, OffsetRises}
use Rattle.mpe_pitch.proofs.Order.{sum, within-fits}

-- a magnitude and its sign
abbrev pub turn : Bool → ℕ → ℤ
turn b k = when b then neg_ℤ (pos k) else pos k

-- d times (v − 8192), by its sign
pub exact : (d v : ℕ) → pos d *ℤ (pos v -ℤ pos 8192) ≡ turn (ltb v 8192) (d * apart v 8192)
exact d v =
    by-test (ltb v 8192)
    (λ t. let h = ltb-true v 8192 t in
    let e : suc (8192 - suc v) ≡ apart v 8192 = omega arith in
    rw (t, e) (omega (arith, ints)))
    (λ t. let h = ltb-false v 8192 t in
    let e : 8192 - v ≡ 0 = omega arith in
    rw (t, e) (omega (arith, ints)))

-- the nearest with a sign, and the only one
near-turn : (b : Bool) (n : ℕ) → NearestTo (turn b n) 8191 (turn b (nearest n 8191)) × ((z : ℤ) → NearestTo (turn b n) 8191 z → z ≡ turn b (nearest n 8191))
near-turn true n = (grind (arith, ints), λ z h. grind (arith, ints))
near-turn false n = (grind (arith, ints), λ z h. grind (arith, ints))

pub offset-nearest : (value : ℕ) (s : MpeSensitivity) → OffsetNearest value s (pitch_offset value s)
unfolding pitch_offset
offset-nearest value s =
    let v = value % 2 ^ 14 in
    rw (exact (range_of s) v) (near-turn (ltb v 8192) (range_of s * apart v 8192))

pub no_tie : (value : ℕ) (s : MpeSensitivity) → NoTie value s
no_tie value s = grind (arith, common_steps)

-- ---- never falling

over : (d m n : ℕ) → m ≤ n → nearest (d * m) 8191 ≤ nearest (d * n) 8191
over d m n h = omega (arith, mul-le-mul_left d h)

rises-in : (d v w : ℕ) → v ≤ w → offset_in d v ≤ℤ offset_in d w
rises-in d v w h =
    by-test (ltb v 8192)
    (λ t. by-test (ltb w 8192)
    (λ u. let k = ltb-true w 8192 u in
    let l = over d (apart w 8192) (apart v 8192) (omega arith) in
    rw (t, u) (omega (arith, ints)))
    (λ u. rw (t, u) (omega (arith, ints))))
    (λ t. let j = ltb-false v 8192 t in
    by-test (ltb w 8192)
    (λ u. let k = ltb-true w 8192 u in absurd (omega arith))
    (λ u. let l = over d (apart v 8192) (apart w 8192) (omega arith) in
    rw (t, u) (omega (arith, ints))))

pub offset-rises : (v : ℕ) (s : MpeSensitivity) → OffsetRises v s (pitch_offset v s)
unfolding pitch_offset
offset-rises v s w h l =
    let f : v % 2 ^ 14 ≡ v = omega arith in
    let g : w % 2 ^ 14 ≡ w = omega arith in
    rw (f, g) (rises-in (range_of s) v w h)

-- ---- bounds

pub offset-within : (value : ℕ) (s : MpeSensitivity) → OffsetWithin (pitch_offset value s)
unfolding pitch_offset
offset-within value s = grind (arith, common_steps)

-- an offset comes back whole from 32 bits
pub offset-back : (z : ℤ) (v : ℕ) (s : MpeSensitivity) → z ≡ pitch_offset v s → to_z w32 (of_z w32 z) ≡ pitch_offset v s
offset-back z v s e =
    rw e
    (to_z-of_z w32 (pitch_offset v s) (within-fits 1282857 1282700 (pitch_offset v s) (offset-within v s) (lit≤ tt) (lit< tt)))

-- a member's offset is added to its manager's
pub sum-within : (v w : ℕ) (s t : MpeSensitivity) → Within 2565714 2565400 (pitch_offset v s +ℤ pitch_offset w t)
sum-within v w s t =
    sum 1282857 1282700 1282857 1282700 (pitch_offset v s) (pitch_offset w t) (offset-within v s) (offset-within w t)
