-- The messages that a sender writes for a channel or a note, with Group 0 (M1-100 2.2.1, 2.2.4.3, 2.2.5, 2.4, Appendices B and C).
use Rattle.std.specs.Prelude.{ℕ, Bool, true, false, List, [], ◌∷◌, ◌++◌, ltb, eqb, Result, Ok, Err}
use Rattle.ump.specs.Choice.{when◌then◌else◌}
use Rattle.ump.specs.Outcome.{Outcome, given, out_of_range, all_of, followed_by}
use Rattle.ump.specs.Packet.{packet_value}
use Rattle.ump.specs.Word.{word_of, control_change, two_data_word, one_data_word, bend_word}
use Rattle.ump.specs.declared.controller.Rpn.{Rpn}
use Rattle.ump.specs.declared.reply.OutOfRange.{OutOfRange}
use Rattle.parameter_messages.specs.Writers.{select_messages, change_message}
use Rattle.parameter_event.specs.declared.Parameter.TheVariants.{Registered}
use Rattle.parameter_event.specs.declared.ParameterChange.TheVariants.{DataEntryMsb}
use Rattle.mpe_layout.specs.Layout.{of_legal, members_of, manager_of, lowest_of}
use Rattle.mpe_layout.specs.declared.MpeZone.{MpeZone}
use Rattle.mpe_layout.specs.declared.MpeLayout.{MpeLayout}
use Rattle.mpe_pitch.specs.declared.MpeSensitivity.{MpeSensitivity}
use Rattle.mpe_sender.specs.declared.ActiveZone.{ActiveZone}

-- the word of a Control Change
abbrev pub control_word : ℕ → ℕ → ℕ → ℕ
control_word channel controller value = word_of 0 0xB channel controller value

-- RPN msb lsb with Data Entry MSB and no LSB: controllers 101, 100 and 6
abbrev pub rpn_group : ℕ → ℕ → ℕ → ℕ → List ℕ
rpn_group channel msb lsb value =
    control_word channel 101 msb ∷ control_word channel 100 lsb ∷ control_word channel 6 value ∷ []

-- as the writers of parameters have it: the number, then the data
abbrev pub rpn_messages : ℕ → Rpn → ℕ → Outcome (List ℕ)
rpn_messages channel rpn value =
    followed_by (select_messages channel (Registered rpn)) (all_of (change_message channel (DataEntryMsb value) ∷ []))

-- an MPE Configuration Message is RPN 0 6 on the manager (2.2.1)
unfoldable pub mcm_messages : MpeZone → ℕ → Outcome (List ℕ)
mcm_messages zone members = when ltb 15 members then out_of_range else given (rpn_group (manager_of zone) 0 6 members)

-- the messages that set the Pitch Bend Sensitivity of a channel: RPN 0 0 with the semitones, then Data Entry LSB (38) with the cents (2.2.5, C.2;
-- document 02, 2026-01)
abbrev pub sensitivity_group : ℕ → MpeSensitivity → List ℕ
sensitivity_group channel s = rpn_group channel 0 0 s.semitones ++ control_word channel 38 s.cents ∷ []

-- at most 96 semitones (2.2.5) and at most 99 cents (document 02, 2026-01)
unfoldable pub sensitivity_allowed : MpeSensitivity → Bool
sensitivity_allowed s = when ltb 96 s.semitones then false else when ltb 99 s.cents then false else true

-- to a writer any other sensitivity is out of range
abbrev pub of_allowed : {A : Type 0} → MpeSensitivity → Outcome A → Outcome A
of_allowed s answer = when sensitivity_allowed s then answer else out_of_range

-- on a channel, taken modulo 16
abbrev pub sensitivity_messages : ℕ → MpeSensitivity → Outcome (List ℕ)
sensitivity_messages channel s = of_allowed s (given (sensitivity_group (packet_value channel) s))

-- to a writer an illegal layout and a zone without members are out of range
abbrev pub in_active : {A : Type 0} → MpeLayout → MpeZone → Outcome A → Outcome A
in_active l zone answer = of_legal l (when eqb (members_of l zone) 0 then out_of_range else answer)

-- the lowest member and the member count of a zone
abbrev pub zone_for : MpeLayout → MpeZone → Outcome (ℕ × ℕ)
zone_for l zone = in_active l zone (given (lowest_of l zone, members_of l zone))

-- what the answer gives or declines
abbrev pub zone_found : Result ActiveZone OutOfRange → Outcome (ℕ × ℕ)
zone_found (Ok z) = given (z.lowest, z.members)
zone_found (Err e) = out_of_range

-- Mono Mode On (126) with the member count, or Poly Mode On (127) with 0 (2.2.4.3)
unfoldable pub mode_on : ℕ → ℕ → Bool → Outcome ℕ
mode_on lowest members mono = when mono then control_change lowest 126 members else control_change lowest 127 0

-- on the lowest member of the zone (2.2.4.3)
abbrev pub mode_message : MpeLayout → MpeZone → Bool → Outcome ℕ
mode_message l zone mono = in_active l zone (mode_on (lowest_of l zone) (members_of l zone) mono)

-- the controls of a channel: Pitch Bend, controller 74, Channel Pressure (2.4, Table 4)
abbrev pub channel_messages : ℕ → ℕ → ℕ → ℕ → Outcome (List ℕ)
channel_messages channel bend brightness pressure =
    all_of
    (bend_word 0 (packet_value channel) bend
    ∷ control_change channel 74 brightness
    ∷ one_data_word 0xD 0 (packet_value channel) pressure
    ∷ [])

-- the start of a note: Pitch Bend, controller 74, Channel Pressure, then Note On (2.4, Table 4); velocity 0 would be a Note Off
unfoldable pub note_messages : ℕ → ℕ → ℕ → ℕ → ℕ → ℕ → Outcome (List ℕ)
note_messages channel note velocity bend brightness pressure =
    when eqb velocity 0 then out_of_range else
    all_of
    (bend_word 0 (packet_value channel) bend
    ∷ control_change channel 74 brightness
    ∷ one_data_word 0xD 0 (packet_value channel) pressure
    ∷ two_data_word 0x9 0 (packet_value channel) note velocity
    ∷ [])
