-- The lines of a sweep (document 02, 2026-04): semitones, cents, bend, offset and, where it is asked for, remainder.
use Rattle.std.specs.Prelude.{ℕ, ◌≤◌, ◌≡◌, Bool, true, false, List, [], ◌∷◌, ◌++◌, ℤ, length, take, drop, replicate}
use Rattle.mpe_pitch.specs.declared.MpeSensitivity.{MpeSensitivity}
use Rattle.mpe_pitch.specs.Pitch.{pitch_offset}
use Rattle.mpe_pitch.specs.Remainder.{pitch_remainder}
use Rattle.sweep_text.specs.declared.line_text.LineText.{LineText}
use Rattle.sweep_text.specs.Decimal.{decimal, signed_decimal}

abbrev pub text_of : LineText → List ℕ
text_of t = drop t.from t.bytes

-- 64 bytes, and before the text nothing but line ends
abbrev pub Filled : LineText → Type 0
Filled t = (t.from ≤ 64) × (length t.bytes ≡ 64) × (take t.from t.bytes ≡ replicate t.from 0x0A)

abbrev pub line_end : List ℕ
line_end = 0x0A ∷ []

-- the line's end, after a fifth column where it is asked for
abbrev pub fifth : ℤ → Bool → List ℕ
fifth remainder false = line_end
fifth remainder true = 0x20 ∷ (signed_decimal remainder ++ line_end)

-- a space between one column and the next
abbrev pub sweep_line : MpeSensitivity → ℕ → Bool → List ℕ
sweep_line s value remainder =
    decimal s.semitones ++ (0x20 ∷ (decimal s.cents ++ (0x20 ∷ (decimal value ++ (0x20 ∷ (
    signed_decimal (pitch_offset value s) ++ fifth (pitch_remainder value s) remainder))))))
