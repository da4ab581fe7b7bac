-- `byte_call::step_all` meets its contract.
use Rattle.std.proofs.Common.{◌≡◌, take}
use Rattle.receiving_end.specs.Lists.{after_bytes}
use Rattle.byte_call.proofs.step_all.Given as goal

abbrev pub invariant-loop-b : goal.invariant-loop-b
invariant-loop-b l = l.after ≡ after_bytes l.initial.after (take l.b-index l.bytes)
