-- `setup_writer::Writable::put_section` meets its contract: after k turns the entries of the numbers below k stand behind the count.
use Prim.Native.Nat.{◌+◌}
use mathlib.Core.Path.{◌≡◌}
use mathlib.Core.List.{flatten}
use lib.ListN.{length}
use lib.Seq.{sets}
use Rattle.setup_file.specs.Format.{entries_from}
use Rattle.setup_writer.proofs.Writable.put_section.Given as goal

abbrev pub invariant-loop-k : goal.invariant-loop-k
invariant-loop-k l =
    (l.place ≡ l.at + 1 + length (flatten (entries_from l.section l.self.settings 0 l.k)))
    × (l.out ≡ sets l.initial.out (l.at + 1) (flatten (entries_from l.section l.self.settings 0 l.k)))
