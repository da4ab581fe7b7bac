-- Document 01, "The receiver", in its order and its words: what a message does to the zones, and its event. The first case that fits decides.
use Rattle.std.specs.Prelude.{ℕ, ◌+◌, ◌*◌, ◌/◌, ◌%◌, ◌^◌, ◌<◌, ◌≤◌, ◌≡◌, Bool, true, false, ◌⊎◌, eqb, Option, Some, None}
use Rattle.ump.specs.Controller.{rpn_of}
use Rattle.parameter_event.specs.declared.Parameter.TheVariants.{Registered}
use Rattle.parameter_event.specs.declared.ParameterChange.{ParameterChange}
use Rattle.parameter_event.specs.declared.ParameterChange.TheVariants.{DataEntryMsb}
use Rattle.parameter_event.specs.declared.ParameterEvent.{ParameterEvent}
use Rattle.parameter_event.specs.Apply.{applied}
use Rattle.mpe_layout.specs.declared.MpeZone.{MpeZone}
use Rattle.mpe_layout.specs.declared.MpeRole.{MpeRole}
use Rattle.mpe_layout.specs.declared.MpeRole.TheVariants as role
use Rattle.mpe_layout.specs.Layout.{legal, role_of, manager_of, lowest_of, with_mcm}
use Rattle.mpe_reset.specs.Reset.{announcement_mask}
use Rattle.mpe_pitch.specs.declared.MpeSensitivity.{MpeSensitivity}
use Rattle.mpe_event.specs.declared.MpeEvent.TheVariants.{NoZone, Zone, Layout, Sensitivity, Mode, Ignored}
use Rattle.mpe_event.specs.declared.ZonesUpdate.{ZonesUpdate}
use Rattle.mpe_zones.specs.declared.Zones.{Zones}
use Rattle.mpe_zones.specs.Zones.{with_layout, with_mono, mono_of, zone_sensitivity, activated_if}
use Rattle.mpe_event.specs.Update.{zones_update, message_update}
use Rattle.mpe_zones.specs.WellFormed.{ZonesFormed}
use Rattle.mpe_zones.specs.Claims.{Activates}

-- a channel with this role in a legal layout
pub record InRole (z : Zones) (channel : ℕ) (ro : MpeRole) : Type 0 where
  pub layout_legal : legal z.layout ≡ true
  pub is_channel : channel < 16
  pub has_role : role_of z.layout channel ≡ ro

-- the role of a zone's manager or of its members
abbrev pub role_for : MpeZone → Bool → MpeRole
role_for zone true = role.Manager zone
role_for zone false = role.Member zone

-- an event of the registered parameter with MSB 0 and this LSB
abbrev pub change_of : ℕ → ParameterChange → ParameterEvent
change_of lsb change = record { parameter = Registered (rpn_of 0 lsb); change = change }

abbrev pub rpn_event : ℕ → ParameterChange → Option ParameterEvent
rpn_event lsb change = Some (change_of lsb change)

-- the message is no control change with such an event
abbrev pub NoRpn : ℕ → ℕ → Option ParameterEvent → Type 0
NoRpn lsb opcode e = (change : ParameterChange) → opcode ≡ 0xB → e ≡ rpn_event lsb change → ⊥

-- "RPN 6 event: on channel 0 (Lower) or 15 (Upper), data entry MSB 0–15 sets the layout and answers the reset mask"
abbrev pub Announces : Type 0
Announces =
    (z : Zones) (zone : MpeZone) (members a : ℕ) → legal z.layout ≡ true → members ≤ 15 →
    message_update z (rpn_event 6 (DataEntryMsb members)) 0xB (manager_of zone) a
    ≡ zones_update (activated_if members (with_layout z (with_mcm z.layout zone members)) zone)
    (Layout (announcement_mask z.layout (with_mcm z.layout zone members) zone))

-- "all else is ignored"
abbrev pub OtherwiseIgnored : Type 0
OtherwiseIgnored =
    (z : Zones) (change : ParameterChange) (channel a : ℕ) →
    ((zone : MpeZone) (members : ℕ) → channel ≡ manager_of zone → change ≡ DataEntryMsb members → members ≤ 15 → ⊥) →
    message_update z (rpn_event 6 change) 0xB channel a ≡ zones_update z Ignored

-- "RPN 0 event in a zone: the manager's or the members' shared sensitivity changes", to the new 14-bit value, and nothing else does
abbrev pub sensitivity_after : ParameterChange → MpeSensitivity → MpeSensitivity
sensitivity_after change s =
    record {
      semitones = applied (change_of 0 change) (s.semitones * 2 ^ 7 + s.cents) / 2 ^ 7;
      cents = applied (change_of 0 change) (s.semitones * 2 ^ 7 + s.cents) % 2 ^ 7;
    }

pub record SensitivityChanges (z : Zones) (zone : MpeZone) (manager : Bool) (change : ParameterChange) (u : ZonesUpdate) : Type 0 where
  pub its_event : u.event ≡ Sensitivity zone manager
  pub changed : zone_sensitivity u.zones zone manager ≡ sensitivity_after change (zone_sensitivity z zone manager)
  pub others_kept : (y : MpeZone) (m : Bool) → (role_for y m ≡ role_for zone manager → ⊥) → zone_sensitivity u.zones y m ≡ zone_sensitivity z y m
  pub layout_kept : u.zones.layout ≡ z.layout
  pub modes_kept : (y : MpeZone) → mono_of u.zones y ≡ mono_of z y

abbrev pub Sensitivities : Type 0
Sensitivities =
    (z : Zones) (zone : MpeZone) (manager : Bool) (change : ParameterChange) (channel a : ℕ) → ZonesFormed z →
    InRole z channel (role_for zone manager) →
    SensitivityChanges z zone manager change (message_update z (rpn_event 0 change) 0xB channel a)

-- "No zone: NoZone"
abbrev pub InNoZone : Type 0
InNoZone =
    (z : Zones) (e : Option ParameterEvent) (opcode channel a : ℕ) → InRole z channel role.NoZone → NoRpn 6 opcode e →
    message_update z e opcode channel a ≡ zones_update z NoZone

-- "Ignored: poly pressure on a member; in mode 3 (poly) program change and controllers 0, 32 on a member"
abbrev pub BankController : ℕ → Type 0
BankController a = (a ≡ 0) ⊎ (a ≡ 32)

pub record MemberIgnored (z : Zones) (zone : MpeZone) (e : Option ParameterEvent) (channel a : ℕ) : Type 0 where
  pub poly_pressure : message_update z e 0xA channel a ≡ zones_update z Ignored
  pub program_change_message : mono_of z zone ≡ false → message_update z e 0xC channel a ≡ zones_update z Ignored
  pub bank_select : mono_of z zone ≡ false → BankController a → NoRpn 6 0xB e → NoRpn 0 0xB e → message_update z e 0xB channel a ≡ zones_update z Ignored

abbrev pub OnMemberIgnored : Type 0
OnMemberIgnored =
    (z : Zones) (zone : MpeZone) (e : Option ParameterEvent) (channel a : ℕ) → InRole z channel (role.Member zone) → MemberIgnored z zone e channel a

-- "Controller 126 or 127 on the zone's lowest member: mode 4 (mono) or 3"
abbrev pub ModeController : ℕ → Type 0
ModeController a = (a ≡ 126) ⊎ (a ≡ 127)

abbrev pub Modes : Type 0
Modes =
    (z : Zones) (zone : MpeZone) (e : Option ParameterEvent) (channel a : ℕ) → InRole z channel (role.Member zone) → channel ≡ lowest_of z.layout zone →
    NoRpn 6 0xB e → NoRpn 0 0xB e → ModeController a →
    message_update z e 0xB channel a ≡ zones_update (with_mono z zone (eqb a 126)) (Mode zone)

-- "Otherwise Zone"
abbrev pub OnManager : Type 0
OnManager =
    (z : Zones) (zone : MpeZone) (e : Option ParameterEvent) (opcode channel a : ℕ) → InRole z channel (role.Manager zone) → NoRpn 6 opcode e → NoRpn 0 opcode e →
    message_update z e opcode channel a ≡ zones_update z (Zone zone true)

-- a message on a member that neither case 4 nor case 5 fits
pub record Ordinary (z : Zones) (zone : MpeZone) (opcode channel a : ℕ) : Type 0 where
  pub no_poly_pressure : opcode ≡ 0xA → ⊥
  pub no_program_change : mono_of z zone ≡ false → opcode ≡ 0xC → ⊥
  pub no_bank_select : mono_of z zone ≡ false → opcode ≡ 0xB → BankController a → ⊥
  pub no_mode : channel ≡ lowest_of z.layout zone → opcode ≡ 0xB → ModeController a → ⊥

abbrev pub OnMember : Type 0
OnMember =
    (z : Zones) (zone : MpeZone) (e : Option ParameterEvent) (opcode channel a : ℕ) → InRole z channel (role.Member zone) → NoRpn 6 opcode e → NoRpn 0 opcode e →
    Ordinary z zone opcode channel a → message_update z e opcode channel a ≡ zones_update z (Zone zone false)

-- "The event is used only if the message is a control change"
abbrev pub EventUnused : Type 0
EventUnused =
    (z : Zones) (e : Option ParameterEvent) (opcode channel a : ℕ) → (opcode ≡ 0xB → ⊥) → message_update z e opcode channel a ≡ message_update z None opcode channel a

-- the six cases, the event's use, and the values of a zone that is announced or set
pub record ReceiverCases : Type 0 where
  pub case_1 : Announces
  pub case_1_else : OtherwiseIgnored
  pub case_2 : Sensitivities
  pub case_3 : InNoZone
  pub case_4 : OnMemberIgnored
  pub case_5 : Modes
  pub case_6_manager : OnManager
  pub case_6_member : OnMember
  pub event_use : EventUnused
  pub activation : Activates
