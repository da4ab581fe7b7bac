-- `sweep_text::sweep_line` meets its contract: its text is the line, and a line's columns are read.
use Rattle.std.proofs.Common.{arith}
use Rattle.std.proofs.lemmas.Grind.{common_steps}
use Rattle.sweep_text.proofs.Columns.{text-read}
use Rattle.sweep_text.proofs.sweep_line.Goals as goal

pub returns-clause-read : goal.returns-clause-read
returns-clause-read c = text-read c.args.sensitivity c.args.value c.args.remainder _ (grind (arith, common_steps))
