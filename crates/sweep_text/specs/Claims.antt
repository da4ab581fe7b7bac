-- What holds of the text of a line.
use Rattle.std.specs.Prelude.{ℕ, suc, ◌+◌, ◌-◌, ◌*◌, ◌<◌, ◌≤◌, ◌≡◌, Bool, true, false, List, [], ◌∷◌, ◌++◌, map, ℤ, pos, negsuc}
use Rattle.mpe_pitch.specs.declared.MpeSensitivity.{MpeSensitivity}
use Rattle.mpe_pitch.specs.Pitch.{pitch_offset}
use Rattle.mpe_pitch.specs.Remainder.{pitch_remainder}
use Rattle.sweep_text.specs.Line.{sweep_line}

-- the number that digits say, the highest first, after what was said before them
abbrev pub number_said : ℕ → List ℕ → ℕ
number_said before [] = before
number_said before (d ∷ ds) = number_said (10 * before + (d - 0x30)) ds

-- each is a character from '0' to '9'
abbrev pub AllDigits : List ℕ → Type 0
AllDigits [] = Unit {0}
AllDigits (d ∷ ds) = (0x30 ≤ d) × (d ≤ 0x39) × AllDigits ds

-- there is one, and no 0 stands before another
abbrev pub NoLeadingZero : List ℕ → Type 0
NoLeadingZero [] = ⊥
NoLeadingZero (d ∷ []) = Unit {0}
NoLeadingZero (d ∷ e ∷ ds) = 0x30 < d

-- what is printed of a number says it, in digits, without a leading zero
pub record DigitsRead (n : ℕ) (text : List ℕ) : Type 0 where
  pub said : number_said 0 text ≡ n
  pub all_digits : AllDigits text
  pub no_leading_zero : NoLeadingZero text

-- below zero a minus sign stands before the digits
abbrev pub SignedRead : ℤ → List ℕ → Type 0
SignedRead (pos n) text = DigitsRead n text
SignedRead (negsuc n) [] = ⊥
SignedRead (negsuc n) (c ∷ text) = (c ≡ 0x2D) × DigitsRead (suc n) text

-- a fifth column, behind a space and before the line's end
pub record FifthRead (z : ℤ) (rest : List ℕ) : Type 0 where
  pub column : List ℕ
  pub column_read : SignedRead z column
  pub rest_is : rest ≡ 0x20 ∷ (column ++ (0x0A ∷ []))

-- what follows the fourth column: a fifth where it is asked for, or the line's end
abbrev pub RestRead : ℤ → Bool → List ℕ → Type 0
RestRead remainder true rest = FifthRead remainder rest
RestRead remainder false rest = rest ≡ 0x0A ∷ []

-- document 02, 2026-04: "semitones, cents, bend, offset, remainder"; each column says its number
pub record ColumnsRead (s : MpeSensitivity) (value : ℕ) (remainder : Bool) (text : List ℕ) : Type 0 where
  pub semitones : List ℕ
  pub cents : List ℕ
  pub bend : List ℕ
  pub offset : List ℕ
  pub rest : List ℕ
  pub semitones_read : DigitsRead s.semitones semitones
  pub cents_read : DigitsRead s.cents cents
  pub bend_read : DigitsRead value bend
  pub offset_read : SignedRead (pitch_offset value s) offset
  pub rest_read : RestRead (pitch_remainder value s) remainder rest
  pub text_is : text ≡ semitones ++ (0x20 ∷ (cents ++ (0x20 ∷ (bend ++ (0x20 ∷ (offset ++ rest))))))

-- a line that is asked for, and its text
pub record LineExample : Type 0 where
  pub semitones : ℕ
  pub cents : ℕ
  pub bend : ℕ
  pub remainder : Bool
  pub text : List ℕ

abbrev line : ℕ → ℕ → ℕ → Bool → List ℕ → LineExample
line semitones cents bend remainder text =
    record { semitones = semitones; cents = cents; bend = bend; remainder = remainder; text = text }

-- 48 0 12288 240029, then with its remainder 48 0 12288 240029 2461; 2 0 0 -20002 -3618 and 10 100 9 -109893 3563
unfoldable pub line_table : List LineExample
line_table =
    line 48 0 12288 false (0x34 ∷ 0x38 ∷ 0x20 ∷ 0x30 ∷ 0x20 ∷ 0x31 ∷ 0x32 ∷ 0x32 ∷ 0x38 ∷ 0x38 ∷ 0x20 ∷ 0x32 ∷ 0x34 ∷ 0x30 ∷ 0x30 ∷ 0x32 ∷ 0x39 ∷ 0x0A ∷ [])
    ∷ line 48 0 12288 true (0x34 ∷ 0x38 ∷ 0x20 ∷ 0x30 ∷ 0x20 ∷ 0x31 ∷ 0x32 ∷ 0x32 ∷ 0x38 ∷ 0x38 ∷ 0x20 ∷ 0x32 ∷ 0x34 ∷ 0x30 ∷ 0x30 ∷ 0x32 ∷ 0x39 ∷ 0x20 ∷ 0x32 ∷ 0x34 ∷ 0x36 ∷ 0x31 ∷ 0x0A ∷ [])
    ∷ line 2 0 0 true (0x32 ∷ 0x20 ∷ 0x30 ∷ 0x20 ∷ 0x30 ∷ 0x20 ∷ 0x2D ∷ 0x32 ∷ 0x30 ∷ 0x30 ∷ 0x30 ∷ 0x32 ∷ 0x20 ∷ 0x2D ∷ 0x33 ∷ 0x36 ∷ 0x31 ∷ 0x38 ∷ 0x0A ∷ [])
    ∷ line 10 100 9 true (0x31 ∷ 0x30 ∷ 0x20 ∷ 0x31 ∷ 0x30 ∷ 0x30 ∷ 0x20 ∷ 0x39 ∷ 0x20 ∷ 0x2D ∷ 0x31 ∷ 0x30 ∷ 0x39 ∷ 0x38 ∷ 0x39 ∷ 0x33 ∷ 0x20 ∷ 0x33 ∷ 0x35 ∷ 0x36 ∷ 0x33 ∷ 0x0A ∷ [])
    ∷ []

abbrev pub LinesAsTabled : Type 0
LinesAsTabled =
    map (λ e. sweep_line (record { semitones = e.semitones; cents = e.cents }) e.bend e.remainder) line_table
    ≡ map (λ e. e.text) line_table
