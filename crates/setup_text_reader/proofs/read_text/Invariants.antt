-- `setup_text_reader::read_text` meets its contract: what is left to read gives the answer of the whole.
use Prim.Native.Nat.{suc}
use mathlib.Core.Path.{◌≡◌}
use lib.ListN.{length, drop}
use Rattle.setup_text.specs.Parse.{text_lines, lines_read, text_read}
use Rattle.setup_text_reader.specs.Progress.{said_so_far}
use Rattle.setup_text_reader.proofs.read_text.Given as goal

abbrev pub invariant-loop-k : goal.invariant-loop-k
invariant-loop-k l =
    lines_read (suc (length l.yielded)) (said_so_far l.progress) (drop (length l.yielded) (text_lines l.text)) ≡ text_read l.text
