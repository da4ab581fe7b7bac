-- The zones of a receiver, and their values when they are announced or set (M1-100 2.2.3 to 2.2.5; document 01, "The receiver").
use Rattle.std.specs.Prelude.{ℕ, ◌+◌, ◌*◌, ◌/◌, ◌%◌, ◌^◌, Bool, true, false, List, get_or, set, ltb}
use Rattle.ump.specs.Choice.{when◌then◌else◌}
use Rattle.ump.specs.Outcome.{Outcome, given, declined, out_of_range}
use Rattle.ump.specs.declared.controller.Rpn.TheVariants.{PitchBendSensitivity}
use Rattle.parameter_event.specs.declared.Parameter.TheVariants.{Registered}
use Rattle.parameter_event.specs.declared.ParameterChange.{ParameterChange}
use Rattle.parameter_event.specs.declared.ParameterEvent.{ParameterEvent}
use Rattle.parameter_event.specs.Apply.{applied}
use Rattle.mpe_layout.specs.declared.MpeZone.{MpeZone}
use Rattle.mpe_layout.specs.declared.MpeZone.TheVariants.{Lower, Upper}
use Rattle.mpe_layout.specs.declared.MpeRole.{MpeRole}
use Rattle.mpe_layout.specs.declared.MpeRole.TheVariants.{NoZone}
use Rattle.mpe_layout.specs.declared.MpeLayout.{MpeLayout}
use Rattle.mpe_layout.specs.Layout.{legal, of_legal, role_given, with_mcm}
use Rattle.mpe_reset.specs.Reset.{announcement_mask, layout_mask, mask_or_zero}
use Rattle.mpe_pitch.specs.declared.MpeSensitivity.{MpeSensitivity}
use Rattle.mpe_pitch.specs.Pitch.{manager_default, member_default}
use Rattle.mpe_zones.specs.declared.Zones.{Zones}

-- one field anew
abbrev pub with_layout : Zones → MpeLayout → Zones
with_layout z l = record z { layout = l }

abbrev pub with_sensitivities : Zones → List ℕ → Zones
with_sensitivities z l = record z { sensitivity = l }

-- mode 4 (mono) or 3 (poly) of a zone
abbrev pub with_mono : Zones → MpeZone → Bool → Zones
with_mono z Lower m = record z { lower_mono = m }
with_mono z Upper m = record z { upper_mono = m }

abbrev pub mono_of : Zones → MpeZone → Bool
mono_of z Lower = z.lower_mono
mono_of z Upper = z.upper_mono

-- where a zone's manager or member sensitivity stands: semitones, then cents
abbrev pub slot_of : MpeZone → Bool → ℕ
slot_of Lower true = 0
slot_of Lower false = 2
slot_of Upper true = 4
slot_of Upper false = 6

abbrev pub sensitivity_at : List ℕ → ℕ → MpeSensitivity
sensitivity_at l k = record { semitones = get_or l k 0; cents = get_or l (k + 1) 0 }

abbrev pub sensitivity_put : List ℕ → ℕ → ℕ → ℕ → List ℕ
sensitivity_put l k semitones cents = set (set l k semitones) (k + 1) cents

-- the manager's or the members' of a zone
abbrev pub zone_sensitivity : Zones → MpeZone → Bool → MpeSensitivity
zone_sensitivity z zone manager = sensitivity_at z.sensitivity (slot_of zone manager)

-- RPN 0 changes the one of a zone's manager or the one that its members share, to the new 14-bit value (M1-100 2.2.5)
abbrev pub sensitivity_event : ParameterChange → ParameterEvent
sensitivity_event change = record { parameter = Registered PitchBendSensitivity; change = change }

abbrev pub sensitivity_applied : List ℕ → ℕ → ParameterChange → List ℕ
sensitivity_applied l k change =
    sensitivity_put l k
    (applied (sensitivity_event change) (get_or l k 0 * 2 ^ 7 + get_or l (k + 1) 0) / 2 ^ 7)
    (applied (sensitivity_event change) (get_or l k 0 * 2 ^ 7 + get_or l (k + 1) 0) % 2 ^ 7)

abbrev pub sensitivity_changed : Zones → MpeZone → Bool → ParameterChange → Zones
sensitivity_changed z zone manager change =
    with_sensitivities z (sensitivity_applied z.sensitivity (slot_of zone manager) change)

-- a zone announced or set with members: sensitivities 2/0 and 48/0, and mode 3
unfoldable pub activated : Zones → MpeZone → Zones
activated z zone =
    with_mono
    (with_sensitivities z
    (sensitivity_put
    (sensitivity_put z.sensitivity (slot_of zone true) manager_default.semitones manager_default.cents)
    (slot_of zone false) member_default.semitones member_default.cents))
    zone false

abbrev pub activated_if : ℕ → Zones → MpeZone → Zones
activated_if members z zone = when ltb 0 members then activated z zone else z

-- the layout changes, and each zone with members is activated (M1-100 2.2.2, 2.2.3)
abbrev pub with_zones_of : Zones → MpeLayout → Zones
with_zones_of z l = activated_if l.upper (activated_if l.lower (with_layout z l) Lower) Upper

-- an announcement with members 0 to 15 sets the layout and answers the channels that it resets, and the zone that it names is activated if it has
-- members; one with more is out of range (M1-100 2.2.1 to 2.2.3), and so is any where the layout held is illegal
abbrev pub with_announced : Zones → MpeZone → ℕ → Zones
with_announced z zone members = activated_if members (with_layout z (with_mcm z.layout zone members)) zone

unfoldable pub zones_announced : Zones → MpeZone → ℕ → Zones
zones_announced z zone members = when ltb 15 members then z else when legal z.layout then with_announced z zone members else z

unfoldable pub announced_reply : Zones → MpeZone → ℕ → Outcome ℕ
announced_reply z zone members =
    when ltb 15 members then out_of_range else
    of_legal z.layout (given (announcement_mask z.layout (with_mcm z.layout zone members) zone))

-- what the layout held gives; from a new receiver on it is legal, so that nothing declines
abbrev pub role_in : Outcome MpeRole → MpeRole
role_in (given r) = r
role_in (declined n v) = NoZone

abbrev pub role_held : MpeLayout → ℕ → MpeRole
role_held l channel = role_in (role_given l channel)

abbrev pub layout_resets : MpeLayout → MpeLayout → ℕ
layout_resets before after = mask_or_zero (of_legal before (of_legal after (given (layout_mask before after))))

-- what `set_layout` answers, and the zones after it: an illegal layout is out of range, and leaves them as they are
abbrev pub zones_set_reply : Zones → MpeLayout → Outcome ℕ
zones_set_reply z l = of_legal l (given (layout_resets z.layout l))

abbrev pub zones_set : Zones → MpeLayout → Zones
zones_set z l = when legal l then with_zones_of z l else z
