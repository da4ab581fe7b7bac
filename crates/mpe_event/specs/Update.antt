-- What a message does to the zones, and its event (document 01, "The receiver"; M1-100 2.2 and 2.3).
use Rattle.std.specs.Prelude.{ℕ, Bool, true, false, eqb, Option, Some, None}
use Rattle.ump.specs.Choice.{when◌then◌else◌}
use Rattle.ump.specs.Outcome.{Outcome, given, declined, out_of_range}
use Rattle.ump.specs.Word.{opcode_of, channel_of, first_of, word_form}
use Rattle.ump.specs.declared.controller.Rpn.{Rpn}
use Rattle.ump.specs.declared.controller.Rpn.TheVariants as rpn
use Rattle.parameter_event.specs.declared.Parameter.{Parameter}
use Rattle.parameter_event.specs.declared.Parameter.TheVariants.{Registered, NonRegistered}
use Rattle.parameter_event.specs.declared.ParameterChange.{ParameterChange}
use Rattle.parameter_event.specs.declared.ParameterChange.TheVariants.{DataEntryMsb, DataEntryLsb, Increment, Decrement}
use Rattle.parameter_event.specs.declared.ParameterEvent.{ParameterEvent}
use Rattle.mpe_layout.specs.declared.MpeZone.{MpeZone}
use Rattle.mpe_layout.specs.declared.MpeZone.TheVariants.{Lower, Upper}
use Rattle.mpe_layout.specs.declared.MpeRole.{MpeRole}
use Rattle.mpe_layout.specs.declared.MpeRole.TheVariants as role
use Rattle.mpe_layout.specs.Layout.{of_legal, lowest_or_none, members_of}
use Rattle.mpe_event.specs.declared.MpeEvent.{MpeEvent}
use Rattle.mpe_event.specs.declared.MpeEvent.TheVariants.{NoZone, Zone, Layout, Sensitivity, Mode, Ignored}
use Rattle.mpe_event.specs.declared.Decoded.{Decoded}
use Rattle.mpe_event.specs.declared.Decoded.TheVariants.{Nothing, Configuration, BendSensitivity}
use Rattle.mpe_event.specs.declared.ZonesUpdate.{ZonesUpdate}
use Rattle.mpe_zones.specs.declared.Zones.{Zones}
use Rattle.mpe_zones.specs.Zones.{with_mono, mono_of, sensitivity_changed, zones_announced, announced_reply, role_held}

-- the parameter of an event that concerns the receiver: RPN 6, the MPE Configuration Message (M1-100 2.2.1), and RPN 0 (2.2.5)
abbrev pub decoded_rpn : Rpn → ParameterChange → Decoded
decoded_rpn rpn.PitchBendSensitivity change = BendSensitivity change
decoded_rpn rpn.FineTuning change = Nothing
decoded_rpn rpn.CoarseTuning change = Nothing
decoded_rpn rpn.TuningProgramSelect change = Nothing
decoded_rpn rpn.TuningBankSelect change = Nothing
decoded_rpn rpn.ModulationDepthRange change = Nothing
decoded_rpn rpn.Null change = Nothing
decoded_rpn (rpn.Other m l) change = when eqb m 0 then (when eqb l 6 then Configuration change else Nothing) else Nothing

abbrev pub decoded_parameter : Parameter → ParameterChange → Decoded
decoded_parameter (Registered r) change = decoded_rpn r change
decoded_parameter (NonRegistered m l) change = Nothing

abbrev pub decoded_event : Option ParameterEvent → Decoded
decoded_event None = Nothing
decoded_event (Some e) = decoded_parameter e.parameter e.change

-- an event is used only with a control change
abbrev pub decoded : ℕ → Option ParameterEvent → Decoded
decoded opcode e = when eqb opcode 0xB then decoded_event e else Nothing

abbrev pub zones_update : Zones → MpeEvent → ZonesUpdate
zones_update z e = record { zones = z; event = e }

-- a zone announcement that sets the layout answers the reset mask; another is ignored
abbrev pub announcement_event : Outcome ℕ → MpeEvent
announcement_event (given mask) = Layout mask
announcement_event (declined n v) = Ignored

abbrev pub announced : Zones → MpeZone → ℕ → ZonesUpdate
announced z zone members = zones_update (zones_announced z zone members) (announcement_event (announced_reply z zone members))

-- only the Data Entry MSB announces (M1-100 2.2.1)
abbrev pub configured_by : Zones → MpeZone → ParameterChange → ZonesUpdate
configured_by z zone (DataEntryMsb members) = announced z zone members
configured_by z zone (DataEntryLsb d) = zones_update z Ignored
configured_by z zone Increment = zones_update z Ignored
configured_by z zone Decrement = zones_update z Ignored

-- the zone that a channel announces: channel 0 Lower, channel 15 Upper (M1-100 2.2.1)
abbrev pub announced_on : ℕ → Option MpeZone
announced_on channel = when eqb channel 0 then Some Lower else when eqb channel 15 then Some Upper else None

abbrev pub configured_as : Zones → Option MpeZone → ParameterChange → ZonesUpdate
configured_as z None change = zones_update z Ignored
configured_as z (Some zone) change = configured_by z zone change

-- an MPE Configuration Message
abbrev pub configured : Zones → ℕ → ParameterChange → ZonesUpdate
configured z channel change = configured_as z (announced_on channel) change

-- RPN 0 in a zone: the manager's sensitivity, or the one that all members share
abbrev pub sensitivity_update : Zones → MpeRole → ParameterChange → ZonesUpdate
sensitivity_update z role.NoZone change = zones_update z NoZone
sensitivity_update z (role.Manager zone) change = zones_update (sensitivity_changed z zone true change) (Sensitivity zone true)
sensitivity_update z (role.Member zone) change = zones_update (sensitivity_changed z zone false change) (Sensitivity zone false)

-- program change and bank select reach a member only in mode 4 (M1-100 2.3.3)
abbrev pub in_mode4 : MpeZone → Bool → MpeEvent
in_mode4 zone mono = when mono then Zone zone false else Ignored

-- 126 and 127 set the mode on the lowest member (M1-100 2.2.4.3)
abbrev pub mode_event : MpeZone → Bool → MpeEvent
mode_event zone lowest = when lowest then Mode zone else Zone zone false

-- a message on a member that is no control change: poly pressure is prohibited (M1-100 2.2.7), program change is for mode 4 (2.3.3)
abbrev pub other_on_member : MpeZone → Bool → ℕ → MpeEvent
other_on_member zone mono opcode =
    when eqb opcode 0xA then Ignored else when eqb opcode 0xC then in_mode4 zone mono else Zone zone false

-- a message on a member, by the zone's mode and whether the member is the lowest (document 01, "The receiver", 4 to 6)
unfoldable pub on_member : MpeZone → Bool → Bool → ℕ → ℕ → MpeEvent
on_member zone mono lowest opcode a =
    when eqb opcode 0xB then
    (when eqb a 0 then in_mode4 zone mono else
    when eqb a 32 then in_mode4 zone mono else
    when eqb a 126 then mode_event zone lowest else
    when eqb a 127 then mode_event zone lowest else
    Zone zone false)
    else other_on_member zone mono opcode

abbrev pub is_lowest : Outcome ℕ → ℕ → Bool
is_lowest (given c) channel = eqb channel c
is_lowest (declined n v) channel = false

-- the channel is that of the zone's lowest member, which takes the mode messages (M1-100 2.2.4.3)
abbrev pub is_lowest_in : Zones → MpeZone → ℕ → Bool
is_lowest_in z zone channel = is_lowest (of_legal z.layout (lowest_or_none zone (members_of z.layout zone))) channel

-- a message by its channel's role, where no parameter event decides
abbrev pub plain_event : Zones → ℕ → MpeRole → ℕ → ℕ → MpeEvent
plain_event z channel role.NoZone opcode a = NoZone
plain_event z channel (role.Manager zone) opcode a = Zone zone true
plain_event z channel (role.Member zone) opcode a = on_member zone (mono_of z zone) (is_lowest_in z zone channel) opcode a

-- only an event of mode alters the modes: 126 is mono, 127 poly
abbrev pub mode_set : Zones → MpeEvent → ℕ → Zones
mode_set z NoZone a = z
mode_set z (Zone y m) a = z
mode_set z (Layout m) a = z
mode_set z (Sensitivity y m) a = z
mode_set z (Mode y) a = with_mono z y (eqb a 126)
mode_set z Ignored a = z

-- the first case that fits; `plain` is the event where no parameter event decides
abbrev pub updated_as : Zones → ℕ → MpeRole → MpeEvent → Decoded → ℕ → ZonesUpdate
updated_as z channel ro plain (Configuration change) a = configured z channel change
updated_as z channel ro plain (BendSensitivity change) a = sensitivity_update z ro change
updated_as z channel ro plain Nothing a = zones_update (mode_set z plain a) plain

-- a message whose fields are cut, with the event that its channel's parameters gave for it
abbrev pub message_update : Zones → Option ParameterEvent → ℕ → ℕ → ℕ → ZonesUpdate
message_update z e opcode channel a =
    updated_as z channel (role_held z.layout channel) (plain_event z channel (role_held z.layout channel) opcode a) (decoded opcode e) a

-- the same of a word
abbrev pub word_update : Zones → Option ParameterEvent → ℕ → ZonesUpdate
word_update z e w = message_update z e (opcode_of w) (channel_of w) (first_of w)

-- what a word gets, by document 01's numbers: one without the form of a message is out of range, and leaves the zones as they are
abbrev pub zones_reply : Zones → ℕ → Option ParameterEvent → Outcome MpeEvent
zones_reply z w e = when word_form w then given (word_update z e w).event else out_of_range

abbrev pub zones_after : Zones → ℕ → Option ParameterEvent → Zones
zones_after z w e = when word_form w then (word_update z e w).zones else z

-- the channels that an event resets
abbrev pub reset_in : MpeEvent → ℕ
reset_in NoZone = 0
reset_in (Zone z m) = 0
reset_in (Layout m) = m
reset_in (Sensitivity z m) = 0
reset_in (Mode z) = 0
reset_in Ignored = 0

-- an event that reports a change of the zones
abbrev pub changes_by : MpeEvent → Bool
changes_by NoZone = false
changes_by (Zone z m) = false
changes_by (Layout m) = true
changes_by (Sensitivity z m) = true
changes_by (Mode z) = true
changes_by Ignored = false
