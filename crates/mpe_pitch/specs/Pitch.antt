-- Pitch bend sensitivity, and pitch offsets in hundredths of a cent (M1-100 2.2.5 and Appendix C; document 01, "Layout and pitch").
use Rattle.std.specs.Prelude.{ℕ, ◌+◌, ◌-◌, ◌*◌, ◌/◌, ◌%◌, ◌^◌, min, ltb, eqb, ℤ, pos, negsuc, neg_ℤ, nat_abs}
use Rattle.ump.specs.Choice.{when◌then◌else◌}
use Rattle.mpe_pitch.specs.declared.MpeSensitivity.{MpeSensitivity}

-- M1-100 2.2.5: the sensitivities of a zone that is new, its manager's and its members'
abbrev pub manager_default : MpeSensitivity
manager_default = record { semitones = 2; cents = 0 }

abbrev pub member_default : MpeSensitivity
member_default = record { semitones = 48; cents = 0 }

-- MIDI 1.0 p. 18: the range in hundredths of a cent, of 7-bit semitones and cents
abbrev pub range_of : MpeSensitivity → ℕ
range_of s = (s.semitones % 2 ^ 7 * 100 + s.cents % 2 ^ 7) * 100

-- the whole number nearest to n / d, halves up
abbrev pub nearest : ℕ → ℕ → ℕ
nearest n d = (2 * n + d) / (2 * d)

-- how far two numbers lie apart: one of the two differences is 0
abbrev pub apart : ℕ → ℕ → ℕ
apart a b = (a - b) + (b - a)

-- M1-100 C.5: d × (v − 8192) / 8191, the magnitude to the nearest
abbrev pub offset_in : ℕ → ℕ → ℤ
offset_in d v =
    when ltb v 8192 then neg_ℤ (pos (nearest (d * apart v 8192) 8191)) else pos (nearest (d * apart v 8192) 8191)

-- the offset of the low 14 bits of a value
unfoldable pub pitch_offset : ℕ → MpeSensitivity → ℤ
pitch_offset value s = offset_in (range_of s) (value % 2 ^ 14)

-- k above or below the center by the sign of an offset, held to 14 bits
abbrev pub placed : ℤ → ℕ → ℕ
placed (pos n) k = min 0x3FFF (0x2000 + k)
placed (negsuc n) k = 0x2000 - k

-- M1-100 C.3: 8192 plus or minus 8192 × |z| / d rounded, halves up; the center where the range is empty
abbrev pub bend_in : ℕ → ℤ → ℕ
bend_in d z = when eqb d 0 then 0x2000 else placed z (nearest (8192 * nat_abs z) d)

unfoldable pub pitch_bend_value : ℤ → MpeSensitivity → ℕ
pitch_bend_value offset s = bend_in (range_of s) offset
