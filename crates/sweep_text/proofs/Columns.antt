-- The columns of a line say their numbers.
-- Assumes nothing.
use Prim.Native.Nat.{ℕ, suc}
use mathlib.Core.Path.{◌≡◌, refl}
use mathlib.Core.List.{List}
use mathlib.Core.Bool.{Bool, true, false}
use lib.IntN.{ℤ, pos, negsuc}
use Rattle.mpe_pitch.specs.declared.MpeSensitivity.{MpeSensitivity}
use Rattle.mpe_pitch.specs.Pitch.{pitch_offset}
use Rattle.mpe_pitch.specs.Remainder.{pitch_remainder}
use Rattle.sweep_text.specs.Decimal.{decimal, signed_decimal}
use Rattle.sweep_text.specs.Line.{fifth, sweep_line}
use Rattle.sweep_text.specs.Claims.{SignedRead, RestRead, ColumnsRead}
use Rattle.sweep_text.proofs.Digits.{digits-read}

signed-read : (z : ℤ) → SignedRead z (signed_decimal z)
signed-read (pos n) = digits-read n
signed-read (negsuc n) = (refl, digits-read (suc n))

rest-read-back : (z : ℤ) (remainder : Bool) → RestRead z remainder (fifth z remainder)
rest-read-back z true = record { column = signed_decimal z; column_read = signed-read z; rest_is = refl }
rest-read-back z false = refl

pub columns-read : (s : MpeSensitivity) (value : ℕ) (remainder : Bool) → ColumnsRead s value remainder (sweep_line s value remainder)
columns-read s value remainder =
    record {
      semitones = decimal s.semitones;
      cents = decimal s.cents;
      bend = decimal value;
      offset = signed_decimal (pitch_offset value s);
      rest = fifth (pitch_remainder value s) remainder;
      semitones_read = digits-read s.semitones;
      cents_read = digits-read s.cents;
      bend_read = digits-read value;
      offset_read = signed-read (pitch_offset value s);
      rest_read = rest-read-back (pitch_remainder value s) remainder;
      text_is = refl;
    }

-- what is the text of a line is read so
pub text-read : (s : MpeSensitivity) (value : ℕ) (remainder : Bool) (text : List ℕ) → text ≡ sweep_line s value remainder → ColumnsRead s value remainder text
text-read s value remainder text e = rw e (columns-read s value remainder)
