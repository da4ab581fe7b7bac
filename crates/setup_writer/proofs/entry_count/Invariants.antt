-- `setup_writer::entry_count` meets its contract: after k turns the entries of the numbers below k are counted.
use mathlib.Core.Path.{◌≡◌}
use lib.ListN.{length}
use Rattle.setup_file.specs.Format.{entries_from}
use Rattle.setup_writer.proofs.entry_count.Given as goal

abbrev pub invariant-loop-k : goal.invariant-loop-k
invariant-loop-k l = l.count ≡ length (entries_from l.section l.settings 0 l.k)
