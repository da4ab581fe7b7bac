-- The item of a line, by the numbers that were found.
-- Assumes nothing.
use Prim.Native.Nat.{ℕ}
use mathlib.Core.Path.{◌≡◌}
use mathlib.Core.List.{List}
use native.Mathlib.Omega.{arith}
use lib.ListN.{length, take}
use lib.Seq.{get_or-take}
use Rattle.ump.specs.Outcome.{given}
use Rattle.setup_file.specs.declared.Section.{Section}
use Rattle.setup_file.specs.declared.Section.TheVariants.{Zones, Channels}
use Rattle.setup_text.specs.Text.{line_fields}
use Rattle.setup_text.specs.Parse.{no_item, line_words, fields_read, entry_from, says_entry, entry_line_read}

-- an entry is said by as many numbers as its line has words
from_front : (section : Section) (l : List ℕ) → entry_from section (take (length (line_fields section)) l) ≡ entry_from section l
from_front Zones l =
    rw (
      get_or-take 7 l 0 0 (omega arith),
      get_or-take 7 l 1 0 (omega arith),
      get_or-take 7 l 2 0 (omega arith),
      get_or-take 7 l 3 0 (omega arith),
      get_or-take 7 l 4 0 (omega arith),
      get_or-take 7 l 5 0 (omega arith),
      get_or-take 7 l 6 0 (omega arith),
    )
from_front Channels l =
    rw (
      get_or-take 8 l 1 0 (omega arith),
      get_or-take 8 l 3 0 (omega arith),
      get_or-take 8 l 5 0 (omega arith),
      get_or-take 8 l 7 0 (omega arith),
    )

module _ (section : Section) (line : List ℕ) where
  pub entry-found : (numbers : List ℕ) → given (take (length (line_fields section)) numbers) ≡ fields_read (line_fields section) (line_words line)
      → given (says_entry section (entry_from section numbers)) ≡ entry_line_read section line
  entry-found numbers e = rw (← e, from_front section numbers)

  pub entry-not : no_item ≡ fields_read (line_fields section) (line_words line) → no_item ≡ entry_line_read section line
  entry-not e = rw (← e)
