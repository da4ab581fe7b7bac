-- `bench_calls::gurfemau_offsets` meets its contract: the sum to come, over the channels that are left, is the whole sum.
use Rattle.std.proofs.Common.{◌≡◌, drop}
use Rattle.bench_calls.specs.Runs.{offsets_sum}
use Rattle.bench_calls.proofs.gurfemau_offsets.Given as goal

abbrev pub invariant-loop-channel : goal.invariant-loop-channel
invariant-loop-channel l = offsets_sum l.end l.sum (drop l.channel-index l.channels) ≡ offsets_sum l.end 0 l.channels
