-- What the receiver shows (M1-100 2.2.4 to 2.2.8, Appendix C.5).
use Rattle.std.specs.Prelude.{ℕ, Bool, true, false, get_or, ℤ, ◌+ℤ◌}
use Rattle.ump.specs.Choice.{when◌then◌else◌}
use Rattle.ump.specs.Outcome.{Outcome, given, none_there}
use Rattle.ump.specs.Packet.{packet_value}
use Rattle.mpe_layout.specs.declared.MpeZone.{MpeZone}
use Rattle.mpe_layout.specs.declared.MpeRole.{MpeRole}
use Rattle.mpe_layout.specs.declared.MpeRole.TheVariants as role
use Rattle.mpe_layout.specs.Layout.{manager_of}
use Rattle.mpe_pitch.specs.declared.MpeSensitivity.{MpeSensitivity}
use Rattle.mpe_pitch.specs.declared.OffsetWithRemainder.{OffsetWithRemainder}
use Rattle.mpe_pitch.specs.Pitch.{pitch_offset}
use Rattle.mpe_pitch.specs.Remainder.{offset_with_remainder, sum_of}
use Rattle.mpe_receiver.specs.declared.MpeReceiver.{MpeReceiver}
use Rattle.mpe_zones.specs.Zones.{mono_of, role_held}
use Rattle.mpe_zones.specs.Zones as zones
use Rattle.mpe_receiver.specs.State.{zones_of}

-- mode 4 is mono, mode 3 poly
abbrev pub mode_of : MpeReceiver → MpeZone → ℕ
mode_of r zone = when mono_of (zones_of r) zone then 4 else 3

abbrev pub sensitivity_of : MpeReceiver → MpeZone → Bool → MpeSensitivity
sensitivity_of r zone manager = zones.zone_sensitivity (zones_of r) zone manager

-- the channel is taken modulo 16
abbrev pub bend_at : MpeReceiver → ℕ → ℕ
bend_at r channel = get_or r.pitch_bend (packet_value channel) 0

abbrev pub pressure_at : MpeReceiver → ℕ → ℕ
pressure_at r channel = get_or r.pressure (packet_value channel) 0

abbrev pub brightness_at : MpeReceiver → ℕ → ℕ
brightness_at r channel = get_or r.brightness (packet_value channel) 0

-- a manager's offset is its own; a member's is added to its manager's
unfoldable pub manager_offset : MpeReceiver → MpeZone → ℤ
manager_offset r zone = pitch_offset (bend_at r (manager_of zone)) (sensitivity_of r zone true)

unfoldable pub member_offset : MpeReceiver → MpeZone → ℕ → ℤ
member_offset r zone channel = manager_offset r zone +ℤ pitch_offset (bend_at r channel) (sensitivity_of r zone false)

abbrev pub offset_by_role : MpeReceiver → ℕ → MpeRole → Outcome ℤ
offset_by_role r channel role.NoZone = none_there
offset_by_role r channel (role.Manager zone) = given (manager_offset r zone)
offset_by_role r channel (role.Member zone) = given (member_offset r zone channel)

abbrev pub offset_of : MpeReceiver → ℕ → Outcome ℤ
offset_of r channel = offset_by_role r channel (role_held r.layout channel)

-- document 02, 2026-04: the same with the remainder; for a member the manager's offset and remainder are added in
unfoldable pub manager_pair : MpeReceiver → MpeZone → OffsetWithRemainder
manager_pair r zone = offset_with_remainder (bend_at r (manager_of zone)) (sensitivity_of r zone true)

unfoldable pub member_pair : MpeReceiver → MpeZone → ℕ → OffsetWithRemainder
member_pair r zone channel =
    sum_of (manager_pair r zone) (offset_with_remainder (bend_at r channel) (sensitivity_of r zone false))

abbrev pub pair_by_role : MpeReceiver → ℕ → MpeRole → Outcome OffsetWithRemainder
pair_by_role r channel role.NoZone = none_there
pair_by_role r channel (role.Manager zone) = given (manager_pair r zone)
pair_by_role r channel (role.Member zone) = given (member_pair r zone channel)

abbrev pub pair_of : MpeReceiver → ℕ → Outcome OffsetWithRemainder
pair_of r channel = pair_by_role r channel (role_held r.layout channel)
