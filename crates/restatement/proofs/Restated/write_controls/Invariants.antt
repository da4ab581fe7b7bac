-- `restatement::Restated::write_controls` meets its contract: after k turns the channels below k have their messages.
use Rattle.std.proofs.Common.{◌≡◌}
use Rattle.std.proofs.lemmas.List.Edits.{sets}
use Rattle.settings.specs.Messages.{each_channel, controls_on}
use Rattle.restatement.proofs.Restated.write_controls.Given as goal

abbrev pub invariant-loop-k : goal.invariant-loop-k
invariant-loop-k l = l.out ≡ sets l.initial.out l.at (each_channel (controls_on l.self.settings) l.k)
