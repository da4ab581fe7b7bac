-- `restatement::write_resets` meets its contract: after k turns the channels below k have their message.
use Rattle.std.proofs.Common.{◌≡◌}
use Rattle.std.proofs.lemmas.List.Edits.{sets}
use Rattle.settings.specs.Messages.{each_channel, reset_on}
use Rattle.restatement.proofs.write_resets.Given as goal

abbrev pub invariant-loop-k : goal.invariant-loop-k
invariant-loop-k l = l.out ≡ sets l.initial.out 0 (each_channel reset_on l.k)
