-- Document 01, "The receiver", in its words: the values of a zone that is announced or set.
use Rattle.std.specs.Prelude.{ℕ, ◌<◌, ◌≡◌, Bool, true, false}
use Rattle.mpe_layout.specs.declared.MpeZone.{MpeZone}
use Rattle.mpe_layout.specs.declared.MpeLayout.{MpeLayout}
use Rattle.mpe_layout.specs.Layout.{legal, other_zone, members_of}
use Rattle.mpe_zones.specs.declared.Zones.{Zones}
use Rattle.mpe_zones.specs.Zones.{mono_of, zone_sensitivity, activated_if, zones_set}
use Rattle.mpe_zones.specs.WellFormed.{ZonesFormed}

-- "A zone announced or set with members gets sensitivities 2/0 and 48/0 and mode 3"; the other zone keeps its own
pub record Activation (z : Zones) (zone : MpeZone) (after : Zones) : Type 0 where
  pub its_manager : zone_sensitivity after zone true ≡ record { semitones = 2; cents = 0 }
  pub its_members : zone_sensitivity after zone false ≡ record { semitones = 48; cents = 0 }
  pub its_mode : mono_of after zone ≡ false
  pub other_sensitivities : (manager : Bool) → zone_sensitivity after (other_zone zone) manager ≡ zone_sensitivity z (other_zone zone) manager
  pub other_mode : mono_of after (other_zone zone) ≡ mono_of z (other_zone zone)
  pub same_layout : after.layout ≡ z.layout

-- a zone with its defaults
pub record Defaults (z : Zones) (zone : MpeZone) : Type 0 where
  pub its_manager : zone_sensitivity z zone true ≡ record { semitones = 2; cents = 0 }
  pub its_members : zone_sensitivity z zone false ≡ record { semitones = 48; cents = 0 }
  pub its_mode : mono_of z zone ≡ false

-- a zone by itself, and the zones of a layout that is set
pub record Activates : Type 0 where
  pub of_zone : (z : Zones) (zone : MpeZone) (members : ℕ) → ZonesFormed z → 0 < members → Activation z zone (activated_if members z zone)
  pub of_layout : (z : Zones) (l : MpeLayout) (zone : MpeZone) → ZonesFormed z → legal l ≡ true → 0 < members_of l zone → Defaults (zones_set z l) zone
