-- RPN 0 changes the sensitivity that it names to its new value, and no other.
-- Assumes nothing.
use Prim.Native.Nat.{◌+◌, ◌*◌, ◌/◌, ◌%◌, ◌^◌, ℕ}
use mathlib.Core.Path.{◌≡◌}
use mathlib.Core.Bool.{Bool}
use native.Mathlib.Omega.{arith}
use Rattle.parameter_event.specs.declared.ParameterChange.{ParameterChange}
use Rattle.parameter_event.specs.Apply.{applied}
use Rattle.mpe_layout.specs.declared.MpeZone.{MpeZone}
use Rattle.mpe_zones.specs.declared.Zones.{Zones}
use Rattle.mpe_zones.specs.Zones.{slot_of, zone_sensitivity, sensitivity_event, sensitivity_changed}
use Rattle.mpe_zones.specs.WellFormed.{ZonesFormed}
use Rattle.mpe_zones.proofs.Slots.{slot-fits, slot-even, put_same, put_other}

pub changed-other : (z : Zones) (zone : MpeZone) (manager : Bool) (change : ParameterChange) (y : MpeZone) (m : Bool)
    → (slot_of y m ≡ slot_of zone manager → ⊥) → zone_sensitivity (sensitivity_changed z zone manager change) y m ≡ zone_sensitivity z y m
changed-other z zone manager change y m ne =
    put_other z.sensitivity (slot_of zone manager) (slot_of y m) _ _ (slot-even zone manager) (slot-even y m) ne

pub changed-same : (z : Zones) (zone : MpeZone) (manager : Bool) (change : ParameterChange) (v : ℕ) → ZonesFormed z
    → v ≡ applied (sensitivity_event change) ((zone_sensitivity z zone manager).semitones * 2 ^ 7 + (zone_sensitivity z zone manager).cents)
    → zone_sensitivity (sensitivity_changed z zone manager change) zone manager ≡ record { semitones = v / 2 ^ 7; cents = v % 2 ^ 7 }
changed-same z zone manager change v w h =
    rw h (put_same z.sensitivity (slot_of zone manager) _ _ (omega (arith, slot-fits zone manager, w.sensitivities)))
