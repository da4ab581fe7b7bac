-- The bench examples hold: the whole table, by computation.
-- Assumes nothing.
use mathlib.Core.Path.{refl}
use Rattle.parameter_event.specs.Apply.{step_cents, step_numbered}
use Rattle.mpe_layout.specs.Layout.{legal_counts, legal, place_of, role_of, left_beside, with_mcm}
use Rattle.mpe_pitch.specs.Pitch.{pitch_offset, pitch_bend_value}
use Rattle.mpe_pitch.specs.Remainder.{pitch_remainder}
use Rattle.mpe_receiver.specs.Bench.{reply_to, table, TableHolds}

pub table_holds : TableHolds
unfolding step_cents step_numbered legal_counts legal place_of role_of left_beside with_mcm pitch_offset pitch_remainder pitch_bend_value reply_to table
table_holds = refl
