-- `bench_value::gurfemau_replies` meets its contract: the sum to come, over the bytes that are left, is the whole sum.
use Rattle.std.proofs.Common.{◌≡◌, drop}
use Rattle.receiving_end.specs.End.{new_end}
use Rattle.bench_value.specs.Runs.{replies_sum}
use Rattle.bench_value.proofs.gurfemau_replies.Given as goal

abbrev pub invariant-loop-b : goal.invariant-loop-b
invariant-loop-b l = replies_sum l.end l.sum (drop l.b-index l.bytes) ≡ replies_sum new_end 0 l.bytes
