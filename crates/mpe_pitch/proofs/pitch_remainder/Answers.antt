-- `mpe_pitch::pitch_remainder` meets its contract: below the center the remainder of the magnitude is turned.
use Rattle.std.proofs.Common.{arith}
use Rattle.std.proofs.lemmas.Int.{ints}
use Rattle.mpe_pitch.proofs.Remainder.{remainder_below}
use Rattle.mpe_pitch.proofs.pitch_remainder.Goals as goal

pub returns-then-v-lt8192-clause-is : goal.returns-then-v-lt8192-clause-is
returns-then-v-lt8192-clause-is c =
    let a = c.args in
    let e = remainder_below a.value a.sensitivity c.units.result c.abs_diff.result (omega arith) c.units.ensures.0 (omega (arith, c.abs_diff.ensures)) in
    omega (arith, ints, e, c.remainder_over_8191-r.ensures.0)
