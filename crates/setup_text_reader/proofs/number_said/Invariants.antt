-- `setup_text_reader::number_said` meets its contract: what is left of the digits decides.
use Prim.Native.Nat.{◌<◌, ◌^◌}
use mathlib.Core.Path.{◌≡◌}
use lib.ListN.{drop}
use Rattle.setup_text.specs.Parse.{digits_read}
use Rattle.setup_text_reader.proofs.number_said.Given as goal

abbrev pub invariant-loop-digit : goal.invariant-loop-digit
invariant-loop-digit l = (l.value < 10 ^ l.digit-index) × (digits_read l.value (drop l.digit-index l.word) ≡ digits_read 0 l.word)
