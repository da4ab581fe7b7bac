-- The new value of a parameter (MIDI 1.0 p. 12; RP-018). Values have 14 bits: the upper seven are the MSB.
use Rattle.std.specs.Prelude.{ℕ, ◌+◌, ◌*◌, ◌-◌, ◌/◌, ◌%◌, ◌^◌, Bool, true, false, ltb, eqb}
use Rattle.ump.specs.Choice.{when◌then◌else◌}
use Rattle.ump.specs.Controller.{rpn_parts}
use Rattle.parameter_event.specs.declared.Parameter.{Parameter}
use Rattle.parameter_event.specs.declared.Parameter.TheVariants.{Registered, NonRegistered}
use Rattle.parameter_event.specs.declared.ParameterChange.{ParameterChange}
use Rattle.parameter_event.specs.declared.ParameterChange.TheVariants.{DataEntryMsb, DataEntryLsb, Increment, Decrement}
use Rattle.parameter_event.specs.declared.ParameterEvent.{ParameterEvent}

-- one step of a field of this width, stopping at the ends
abbrev pub saturating_step : ℕ → Bool → ℕ → ℕ
saturating_step width true v = when ltb v (2 ^ width - 1) then v + 1 else v
saturating_step width false v = v - 1

-- RPN 0 (RP-018): cents, and from cents 99 or more up to the next semitone; unchanged at semitone 127, and down from 0/0
unfoldable pub step_cents : ℕ → ℕ → Bool → ℕ
step_cents semitones cents true =
    when ltb cents 99 then semitones * 2 ^ 7 + cents + 1 else
    when ltb semitones 127 then (semitones + 1) * 2 ^ 7 else
    semitones * 2 ^ 7 + cents
step_cents semitones cents false =
    when ltb 0 cents then semitones * 2 ^ 7 + cents - 1 else
    when ltb 0 semitones then (semitones - 1) * 2 ^ 7 + 99 else
    semitones * 2 ^ 7 + cents

-- RPN 2, 3 and 4 (RP-018): the upper half
abbrev pub step_upper : ℕ → ℕ → Bool → ℕ
step_upper msb lsb up = saturating_step 7 up msb * 2 ^ 7 + lsb

-- by the number of a registered parameter
unfoldable pub step_numbered : ℕ → ℕ → Bool → ℕ → ℕ
step_numbered m l up v =
    when eqb m 0 then
    (when eqb l 0 then step_cents (v / 2 ^ 7) (v % 2 ^ 7) up else
    when ltb l 2 then saturating_step 14 up v else
    when ltb 4 l then saturating_step 14 up v else
    step_upper (v / 2 ^ 7) (v % 2 ^ 7) up)
    else saturating_step 14 up v

abbrev pub step_parameter : Parameter → Bool → ℕ → ℕ
step_parameter (Registered rpn) up v = step_numbered (rpn_parts rpn).msb (rpn_parts rpn).lsb up v
step_parameter (NonRegistered m l) up v = saturating_step 14 up v

-- controller 6 sets the upper seven bits and clears the lower; 38 sets the lower; 96 and 97 step
abbrev pub changed_by : Parameter → ParameterChange → ℕ → ℕ
changed_by p (DataEntryMsb d) v = d % 2 ^ 7 * 2 ^ 7
changed_by p (DataEntryLsb d) v = v / 2 ^ 7 * 2 ^ 7 + d % 2 ^ 7
changed_by p Increment v = step_parameter p true v
changed_by p Decrement v = step_parameter p false v

abbrev pub applied : ParameterEvent → ℕ → ℕ
applied e v = changed_by e.parameter e.change (v % 2 ^ 14)
