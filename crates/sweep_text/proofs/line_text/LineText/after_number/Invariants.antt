-- `sweep_text::LineText::after_number` meets its contract: each turn puts the last digit of what is left before the text.
use mathlib.Core.Path.{◌≡◌}
use mathlib.Core.List.{◌++◌}
use Prim.Native.Nat.{◌+◌, ◌-◌, ◌^◌, ◌<◌, ◌≤◌}
use Rattle.sweep_text.specs.Decimal.{decimal}
use Rattle.sweep_text.specs.Line.{text_of}
use Rattle.sweep_text.proofs.line_text.LineText.after_number.Given as goal

abbrev pub invariant-loop-rest : goal.invariant-loop-rest
invariant-loop-rest l =
    record {
      said : decimal l.rest ++ text_of l.line ≡ decimal l.n ++ text_of l.initial.line;
      left : l.rest < 10 ^ (l.line.from + 10 - l.initial.line.from);
      room : l.initial.line.from ≤ l.line.from + 9;
      down : l.line.from ≤ l.initial.line.from;
    }

abbrev pub decreases-loop-rest : goal.decreases-loop-rest
decreases-loop-rest l = l.rest
