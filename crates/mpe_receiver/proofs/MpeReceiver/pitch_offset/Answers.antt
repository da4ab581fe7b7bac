-- `mpe_receiver::MpeReceiver::pitch_offset` meets its contract: the offset of the pair, and its range.
use mathlib.Core.Path.{◌≡◌, sym, ◌∙◌}
use native.Mathlib.Omega.{arith}
use Rattle.std.proofs.lemmas.Grind.{common_steps}
use Rattle.ump.specs.Outcome.{found}
use Rattle.mpe_receiver.specs.Read.{offset_of}
use Rattle.mpe_receiver.proofs.Range.{offset-range, ranges}
use Rattle.mpe_receiver.proofs.MpeReceiver.pitch_offset.Goals as goal

pub returns-clause-within : goal.returns-clause-within
returns-clause-within c =
    let is : found c.map.result ≡ offset_of c.args.self c.args.channel = grind (arith, common_steps, ranges) in
    λ z e. offset-range c.args.self c.args.channel z (sym is ∙ e)
