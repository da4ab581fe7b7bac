-- The parameter receiver of one channel (MIDI 1.0 pp. 17, 18; RP-015; document 01, "The message reaches its channel's parameters").
use Rattle.std.specs.Prelude.{ℕ, Bool, true, false, not, ltb, eqb, Option, Some, None}
use Rattle.ump.specs.Choice.{when◌then◌else◌}
use Rattle.ump.specs.Outcome.{Outcome, given, out_of_range}
use Rattle.ump.specs.Word.{opcode_of, first_of, second_of, word_form}
use Rattle.ump.specs.Controller.{rpn_of}
use Rattle.parameter_event.specs.declared.Parameter.{Parameter}
use Rattle.parameter_event.specs.declared.Parameter.TheVariants.{Registered, NonRegistered}
use Rattle.parameter_event.specs.declared.ParameterChange.{ParameterChange}
use Rattle.parameter_event.specs.declared.ParameterChange.TheVariants.{DataEntryMsb, DataEntryLsb, Increment, Decrement}
use Rattle.parameter_event.specs.declared.ParameterEvent.{ParameterEvent}
use Rattle.parameters.specs.declared.Number.{Number}
use Rattle.parameters.specs.declared.ParameterState.{ParameterState}
use Rattle.parameters.specs.declared.ParameterUpdate.{ParameterUpdate}

abbrev pub number : ℕ → ℕ → Number
number m l = record { msb = m; lsb = l }

-- neither half received
abbrev pub missing : Number
missing = number 0x80 0x80

-- 7F 7F selects no parameter (RP-018)
abbrev pub null_number : Number
null_number = number 0x7F 0x7F

-- p. 17, rules 2 and 5: RPN reception on, NRPN reception off
abbrev pub new_state : ParameterState
new_state = record { rpn = missing; nrpn = missing; nrpn_last = false; rpn_on = true; nrpn_on = false }

abbrev pub with_rpn : ParameterState → Number → ParameterState
with_rpn s n =
    record { rpn = n; nrpn = s.nrpn; nrpn_last = false; rpn_on = s.rpn_on; nrpn_on = s.nrpn_on }

abbrev pub with_nrpn : ParameterState → Number → ParameterState
with_nrpn s n =
    record { rpn = s.rpn; nrpn = n; nrpn_last = true; rpn_on = s.rpn_on; nrpn_on = s.nrpn_on }

-- both halves received, and not the null number
abbrev pub selects : ℕ → ℕ → Bool
selects m l =
    when ltb 0x7F m then false else when ltb 0x7F l then false else when eqb m 0x7F then not (eqb l 0x7F) else true

-- the parameter of a number whose reception is on
abbrev pub selected : Bool → Number → Parameter → Option Parameter
selected on n p = when on then (when selects n.msb n.lsb then Some p else None) else None

-- the parameter that a data entry acts on: of the kind stored last, where its reception is on
unfoldable pub selection_of : ParameterState → Option Parameter
selection_of s =
    when s.nrpn_last then selected s.nrpn_on s.nrpn (NonRegistered s.nrpn.msb s.nrpn.lsb)
    else selected s.rpn_on s.rpn (Registered (rpn_of s.rpn.msb s.rpn.lsb))

-- RP-015
abbrev pub nulled : ParameterState → ParameterState
nulled s =
    record {
      rpn = null_number;
      nrpn = null_number;
      nrpn_last = s.nrpn_last;
      rpn_on = s.rpn_on;
      nrpn_on = s.nrpn_on;
    }

-- p. 17, rule 3: going on, it waits again for both halves
abbrev pub number_switched : Number → Bool → Bool → Number
number_switched n was_on on = when on then (when was_on then n else missing) else n

abbrev pub rpn_switched : ParameterState → Bool → ParameterState
rpn_switched s on =
    record {
      rpn = number_switched s.rpn s.rpn_on on;
      nrpn = s.nrpn;
      nrpn_last = s.nrpn_last;
      rpn_on = on;
      nrpn_on = s.nrpn_on;
    }

abbrev pub nrpn_switched : ParameterState → Bool → ParameterState
nrpn_switched s on =
    record {
      rpn = s.rpn;
      nrpn = number_switched s.nrpn s.nrpn_on on;
      nrpn_last = s.nrpn_last;
      rpn_on = s.rpn_on;
      nrpn_on = on;
    }

abbrev pub parameter_update : ParameterState → Option ParameterEvent → ParameterUpdate
parameter_update s e = record { state = s; event = e }

-- an event for the selected parameter, or none
abbrev pub event_for : Option Parameter → ParameterChange → Option ParameterEvent
event_for None change = None
event_for (Some p) change = Some (record { parameter = p; change = change })

abbrev pub entered : ParameterState → ParameterChange → ParameterUpdate
entered s change = parameter_update s (event_for (selection_of s) change)

-- 101 and 100 store the halves of an RPN, 99 and 98 those of an NRPN, and 121 makes both numbers null
unfoldable pub number_stored : ParameterState → ℕ → ℕ → ParameterState
number_stored s n v =
    when eqb n 101 then with_rpn s (number v s.rpn.lsb) else
    when eqb n 100 then with_rpn s (number s.rpn.msb v) else
    when eqb n 99 then with_nrpn s (number v s.nrpn.lsb) else
    when eqb n 98 then with_nrpn s (number s.nrpn.msb v) else
    when eqb n 121 then nulled s else
    s

-- a control change: 6 and 38 are data entries, 96 and 97 steps
unfoldable pub controlled : ParameterState → ℕ → ℕ → ParameterUpdate
controlled s n v =
    when eqb n 6 then entered s (DataEntryMsb v) else
    when eqb n 38 then entered s (DataEntryLsb v) else
    when eqb n 96 then entered s Increment else
    when eqb n 97 then entered s Decrement else
    parameter_update (number_stored s n v) None

-- only control changes act (document 01)
abbrev pub update_by_fields : ParameterState → ℕ → ℕ → ℕ → ParameterUpdate
update_by_fields s opcode a b = when eqb opcode 0xB then controlled s a b else parameter_update s None

abbrev pub update_by_word : ParameterState → ℕ → ParameterUpdate
update_by_word s w = update_by_fields s (opcode_of w) (first_of w) (second_of w)

-- what `receive` answers, by document 01's numbers
abbrev pub parameter_reply : ParameterState → ℕ → Outcome (Option ParameterEvent)
parameter_reply s w = when word_form w then given (update_by_word s w).event else out_of_range

abbrev pub parameter_after : ParameterState → ℕ → ParameterState
parameter_after s w = when word_form w then (update_by_word s w).state else s
