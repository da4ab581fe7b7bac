-- `mpe_allocator::MpeNoteAllocator::place` meets its contract. The loop's invariant: the best so far is the foremost of the channels passed, and `least` is its rank.
use Rattle.mpe_allocator.proofs.Ranks.{SoFar}
use Rattle.mpe_allocator.proofs.MpeNoteAllocator.place.Given as goal

abbrev pub invariant-loop-c : goal.invariant-loop-c
invariant-loop-c l = SoFar l.self l.zone l.mark l.first l.c l.best l.least
