-- The unrounded ratio beside the offset (document 02, 2026-04).
use Rattle.std.specs.Prelude.{ℕ, ◌%◌, ◌^◌, ℤ, pos, ◌+ℤ◌, ◌-ℤ◌, ◌*ℤ◌}
use Rattle.mpe_pitch.specs.declared.MpeSensitivity.{MpeSensitivity}
use Rattle.mpe_pitch.specs.declared.OffsetWithRemainder.{OffsetWithRemainder}
use Rattle.mpe_pitch.specs.Pitch.{range_of, pitch_offset}

-- d × (value − 8192), of the low 14 bits of a value
abbrev pub scaled : ℕ → MpeSensitivity → ℤ
scaled value s = pos (range_of s) *ℤ (pos (value % 2 ^ 14) -ℤ pos 8192)

-- what d × (value − 8192) has over 8191 times the offset
unfoldable pub pitch_remainder : ℕ → MpeSensitivity → ℤ
pitch_remainder value s = scaled value s -ℤ pos 8191 *ℤ pitch_offset value s

abbrev pub offset_with_remainder : ℕ → MpeSensitivity → OffsetWithRemainder
offset_with_remainder value s = record { offset = pitch_offset value s; remainder = pitch_remainder value s }

-- two offsets with their remainders, added
abbrev pub sum_of : OffsetWithRemainder → OffsetWithRemainder → OffsetWithRemainder
sum_of p q = record { offset = p.offset +ℤ q.offset; remainder = p.remainder +ℤ q.remainder }
