-- `setup_reader::read_entries` meets its contract: what is left to read gives the answer of the whole.
use Prim.Native.Nat.{◌-◌}
use mathlib.Core.Path.{◌≡◌}
use Rattle.setup_file.specs.Read.{entries_read}
use Rattle.setup_reader.proofs.read_entries.Given as goal

abbrev pub invariant-loop-k : goal.invariant-loop-k
invariant-loop-k l =
    entries_read l.section (l.count - l.k) l.least l.settings l.rest ≡ entries_read l.section l.count 0 l.fn.from.settings l.fn.from.rest.now
