-- `mpe_pitch::pitch_offset` meets its contract: what is the offset is nearest, and never falls.
use Rattle.std.proofs.Common.{arith}
use Rattle.std.proofs.lemmas.Grind.{common_steps}
use Rattle.mpe_pitch.specs.Pitch.{pitch_offset}
use Rattle.mpe_pitch.proofs.Offset.{offset-nearest, offset-rises}
use Rattle.mpe_pitch.proofs.pitch_offset.Goals as goal

pub returns-then-v-lt8192-clause-is : goal.returns-then-v-lt8192-clause-is
unfolding pitch_offset
returns-then-v-lt8192-clause-is c = grind (arith, common_steps)

pub returns-then-v-lt8192-clause-nearest : goal.returns-then-v-lt8192-clause-nearest
returns-then-v-lt8192-clause-nearest c = rw (returns-then-v-lt8192-clause-is c) (offset-nearest c.args.value c.args.sensitivity)

pub returns-then-v-lt8192-clause-rises : goal.returns-then-v-lt8192-clause-rises
returns-then-v-lt8192-clause-rises c = rw (returns-then-v-lt8192-clause-is c) (offset-rises c.args.value c.args.sensitivity)
