-- `mpe_receiver::MpeReceiver::rest` meets its contract.
use mathlib.Core.Path.{◌≡◌}
use Rattle.mpe_receiver.specs.Receive.{rest_upto}
use Rattle.mpe_receiver.proofs.MpeReceiver.rest.Given as goal

abbrev pub invariant-loop-channel : goal.invariant-loop-channel
invariant-loop-channel l = l.self ≡ rest_upto l.initial.self l.mask l.channel
