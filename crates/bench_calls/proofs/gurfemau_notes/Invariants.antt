-- `bench_calls::gurfemau_notes` meets its contract: the notes that are left bring the allocator to where all of them bring a new one.
use Rattle.std.proofs.Common.{◌≡◌, drop}
use Rattle.bench_calls.specs.Runs.{noted_all}
use Rattle.bench_calls.proofs.gurfemau_notes.Given as goal

abbrev pub invariant-loop-b : goal.invariant-loop-b
invariant-loop-b l = noted_all l.n (drop l.b-index l.notes) ≡ noted_all l.initial.n l.notes
