-- What holds of pitch offsets, whatever the sensitivity and the value (document 01, "Layout and pitch").
use Rattle.std.specs.Prelude.{◌≡◌, ℕ, ◌*◌, ◌^◌, ◌<◌, ◌≤◌, ℤ, pos, neg_ℤ, nat_abs, ◌+ℤ◌, ◌-ℤ◌, ◌*ℤ◌, ◌≤ℤ◌}
use Rattle.mpe_pitch.specs.declared.MpeSensitivity.{MpeSensitivity}
use Rattle.mpe_pitch.specs.declared.OffsetWithRemainder.{OffsetWithRemainder}
use Rattle.mpe_pitch.specs.Pitch.{pitch_offset}
use Rattle.mpe_pitch.specs.Remainder.{scaled}

-- z is nearest to n / d: d times z lies less than half of d from n
abbrev pub NearestTo : ℤ → ℕ → ℤ → Type 0
NearestTo n d z = 2 * nat_abs (pos d *ℤ z -ℤ n) < d

-- n / d lies halfway between z and a neighbour of z
abbrev pub Tie : ℤ → ℕ → ℤ → Type 0
Tie n d z = 2 * nat_abs (pos d *ℤ z -ℤ n) ≡ d

-- the offset is nearest to d × (value − 8192) / 8191, and no other integer is
abbrev pub OffsetNearest : ℕ → MpeSensitivity → ℤ → Type 0
OffsetNearest value s offset =
    NearestTo (scaled value s) 8191 offset × ((z : ℤ) → NearestTo (scaled value s) 8191 z → z ≡ offset)

-- over 8191, which is odd, nothing lies halfway
abbrev pub NoTie : ℕ → MpeSensitivity → Type 0
NoTie value s = (z : ℤ) → Tie (scaled value s) 8191 z → ⊥

-- z lies from −low to high
abbrev pub Within : ℕ → ℕ → ℤ → Type 0
Within low high z = (neg_ℤ (pos low) ≤ℤ z) × (z ≤ℤ pos high)

abbrev pub OffsetWithin : ℤ → Type 0
OffsetWithin offset = Within 1282857 1282700 offset

-- the offset never falls as a 14-bit value rises
abbrev pub OffsetRises : ℕ → MpeSensitivity → ℤ → Type 0
OffsetRises value s offset = (w : ℕ) → value ≤ w → w < 2 ^ 14 → offset ≤ℤ pitch_offset w s

-- n = 8191 × offset + r
abbrev pub Divided : ℤ → OffsetWithRemainder → Type 0
Divided n p = n ≡ pos 8191 *ℤ p.offset +ℤ p.remainder

-- d × (value − 8192) = 8191 × offset + r with r from −4095 to 4095
abbrev pub IsPair : ℕ → MpeSensitivity → OffsetWithRemainder → Type 0
IsPair value s p = Divided (scaled value s) p × Within 4095 4095 p.remainder

-- and no other pair is so
abbrev pub OnlyPair : ℕ → MpeSensitivity → OffsetWithRemainder → Type 0
OnlyPair value s p = (q : OffsetWithRemainder) → IsPair value s q → q ≡ p
