-- The messages that select a parameter and change it (MIDI 1.0 p. 17; RP-018), with Group 0.
use Rattle.std.specs.Prelude.{ℕ, ◌/◌, ◌%◌, List, [], ◌∷◌, ltb}
use Rattle.ump.specs.Choice.{when◌then◌else◌}
use Rattle.ump.specs.Outcome.{Outcome, out_of_range, all_of, followed_by}
use Rattle.ump.specs.Word.{control_change}
use Rattle.ump.specs.Controller.{rpn_given}
use Rattle.ump.specs.declared.controller.Rpn.{Rpn}
use Rattle.parameter_event.specs.declared.Parameter.{Parameter}
use Rattle.parameter_event.specs.declared.Parameter.TheVariants.{Registered, NonRegistered}
use Rattle.parameter_event.specs.declared.ParameterChange.{ParameterChange}
use Rattle.parameter_event.specs.declared.ParameterChange.TheVariants.{DataEntryMsb, DataEntryLsb, Increment, Decrement}

-- a number by two controllers; a half above 127 is out of range
abbrev pub number_messages : ℕ → ℕ → ℕ → ℕ → ℕ → Outcome (List ℕ)
number_messages channel cm cl m l = all_of (control_change channel cm m ∷ control_change channel cl l ∷ [])

-- 101 and 100 for a registered number
abbrev pub select_registered : ℕ → Rpn → Outcome (List ℕ)
select_registered channel r = number_messages channel 101 100 (rpn_given r).msb (rpn_given r).lsb

-- 99 and 98 for a non-registered one
abbrev pub select_messages : ℕ → Parameter → Outcome (List ℕ)
select_messages channel (Registered r) = select_registered channel r
select_messages channel (NonRegistered m l) = number_messages channel 99 98 m l

-- 6 and 38 with the data, 96 and 97 with 0
abbrev pub change_message : ℕ → ParameterChange → Outcome ℕ
change_message channel (DataEntryMsb d) = control_change channel 6 d
change_message channel (DataEntryLsb d) = control_change channel 38 d
change_message channel Increment = control_change channel 96 0
change_message channel Decrement = control_change channel 97 0

-- the number, then the upper and the lower half of the value by 6 and 38
unfoldable pub value_messages : ℕ → Parameter → ℕ → Outcome (List ℕ)
value_messages channel p v =
    when ltb 0x3FFF v then out_of_range else
    followed_by (select_messages channel p) (all_of (control_change channel 6 (v / 128) ∷ control_change channel 38 (v % 128) ∷ []))
