-- `setup_text_reader::line_numbers` meets its contract: the numbers so far and those that the words left say are those of the line.
use Prim.Native.Nat.{◌≤◌}
use mathlib.Core.Path.{◌≡◌}
use lib.ListN.{length, take, drop}
use Rattle.setup_text.specs.Text.{line_fields}
use Rattle.setup_text.specs.Parse.{line_words, fields_read}
use Rattle.setup_text_reader.proofs.Words.{numbers_on}
use Rattle.setup_text_reader.proofs.line_numbers.Given as goal

abbrev pub invariant-loop-word : goal.invariant-loop-word
invariant-loop-word l =
    (l.count ≡ length l.yielded) × (l.count ≤ l.fields) × (length l.numbers ≡ 8)
    × (numbers_on (take l.count l.numbers) (drop l.count (line_fields l.section)) (drop l.count (line_words l.line)) ≡ fields_read (line_fields l.section) (line_words l.line))
