-- Demand 3 is not vacuous: each of its hypotheses is met (document 01, "Demand 3 in detail").
use Rattle.std.specs.Prelude.{ℕ, true, false, ◌≡◌, List, [], ◌∷◌, map}
use Rattle.ump.specs.Outcome.{out_of_range}
use Rattle.mpe_layout.specs.Layout.{layout_of}
use Rattle.receiving_end.specs.declared.end.Reply.TheVariants.{Quiet, Dropped}
use Rattle.receiving_end.specs.End.{new_end}
use Rattle.receiving_end.specs.Lists.{Call, byte_by_value, byte_lent, set_layout, set_rpn_reception, rpn_reception, Answer, replied, masked, done, switched, after, answers, after_bytes}
use Rattle.settings.specs.declared.Settings.{Settings}
use Rattle.settings.specs.Demand.{SwitchesAsNew, Arrives, Shown}

-- A history of a new end. RPN reception is switched off on channel 1; a data byte comes without a status byte; the layout (8,7) is asked for, which is
-- illegal; the switch is put back; a pitch bend on channel 1 begins and stays open.
abbrev pub example_history : List Call
example_history =
    set_rpn_reception 1 false
    ∷ rpn_reception 1
    ∷ byte_by_value 0x40
    ∷ set_layout (layout_of 8 7)
    ∷ set_rpn_reception 1 true
    ∷ byte_by_value 0xE1
    ∷ byte_lent 0x12
    ∷ []

-- what its calls answer: the byte is dropped, the layout refused, and no message is completed
abbrev pub example_answers : List Answer
example_answers =
    done
    ∷ switched false
    ∷ replied Dropped
    ∷ masked out_of_range
    ∷ done
    ∷ replied Quiet
    ∷ replied Quiet
    ∷ []

-- bytes on a lent end, with a Timing Clock before each
unfoldable pub clocked : List ℕ → List Call
clocked [] = []
clocked (b ∷ bytes) = byte_by_value 0xF8 ∷ byte_lent b ∷ clocked bytes

-- a witness of each hypothesis of `Demand`, and what follows for a new end
pub record Met (s : Settings) (bytes : List ℕ) : Type 0 where
  -- lists before with the switches as new: none, and the example
  pub none_as_new : SwitchesAsNew new_end
  pub example_answered : answers new_end example_history ≡ example_answers
  pub example_as_new : SwitchesAsNew (after new_end example_history)
  -- calls that bring these bytes
  pub arrive_by_value : Arrives bytes (map byte_by_value bytes)
  pub arrive_clocked : Arrives bytes (clocked bytes)
  -- a new end that receives these bytes alone shows the settings
  pub shown_alone : Shown s (after_bytes new_end bytes)
