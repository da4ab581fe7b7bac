-- `restatement_reply::channels_allowed` meets its contract: the channels below k are allowed.
use Rattle.std.proofs.Common.{◌≡◌, true}
use Rattle.settings.specs.Settings.{channels_allowed}
use Rattle.restatement_reply.proofs.channels_allowed.Given as goal

abbrev pub invariant-loop-k : goal.invariant-loop-k
invariant-loop-k l = channels_allowed l.settings l.k ≡ true
