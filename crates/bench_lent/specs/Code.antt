-- Replies as numbers, for a caller that takes no enum. Different replies have different numbers.
use Rattle.std.specs.Prelude.{ℕ, ◌+◌, ◌*◌, Bool}
use Rattle.ump.specs.Choice.{when◌then◌else◌}
use Rattle.mpe_layout.specs.declared.MpeZone.{MpeZone}
use Rattle.mpe_layout.specs.declared.MpeZone.TheVariants.{Lower, Upper}
use Rattle.mpe_event.specs.declared.MpeEvent.{MpeEvent}
use Rattle.mpe_event.specs.declared.MpeEvent.TheVariants.{NoZone, Zone, Layout, Sensitivity, Mode, Ignored}
use Rattle.receiving_end.specs.declared.end.Reply.{Reply}
use Rattle.receiving_end.specs.declared.end.Reply.TheVariants.{Quiet, Dropped, RealTime, Message}

abbrev pub zone_code : MpeZone → ℕ
zone_code Lower = 0
zone_code Upper = 1

-- a zone's manager or members
abbrev pub part_code : MpeZone → Bool → ℕ
part_code zone manager = when manager then 2 + zone_code zone else zone_code zone

abbrev pub event_code : MpeEvent → ℕ
event_code NoZone = 0
event_code (Zone zone manager) = 1 + 8 * part_code zone manager
event_code (Layout reset) = 2 + 8 * reset
event_code (Sensitivity zone manager) = 3 + 8 * part_code zone manager
event_code (Mode zone) = 4 + 8 * zone_code zone
event_code Ignored = 5

abbrev pub reply_code : Reply → ℕ
reply_code Quiet = 0
reply_code Dropped = 1
reply_code (RealTime b) = 2 + 4 * b
reply_code (Message word event) = 3 + 4 * event_code event + 0x200000 * word
