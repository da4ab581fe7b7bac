-- The lines of the table, by computation.
-- Assumes nothing.
use mathlib.Core.Path.{refl}
use Rattle.mpe_pitch.specs.Pitch.{pitch_offset}
use Rattle.mpe_pitch.specs.Remainder.{pitch_remainder}
use Rattle.sweep_text.specs.Decimal.{digits_in}
use Rattle.sweep_text.specs.Claims.{line_table, LinesAsTabled}

pub tabled : LinesAsTabled
unfolding pitch_offset pitch_remainder digits_in line_table
tabled = refl
