-- Zones that are announced, set or changed stay well formed.
-- Assumes nothing.
use Prim.Native.Nat.{ℕ}
use mathlib.Core.Path.{◌≡◌}
use mathlib.Core.Bool.{Bool, true, false}
use mathlib.Core.List.{List}
use lib.ListN.{length, length-set}
use lib.Dec.{ltb}
use Rattle.ump.proofs.Cases.{of-both}
use Rattle.parameter_event.specs.declared.ParameterChange.{ParameterChange}
use Rattle.mpe_layout.specs.declared.MpeZone.{MpeZone}
use Rattle.mpe_layout.specs.declared.MpeZone.TheVariants.{Lower, Upper}
use Rattle.mpe_layout.specs.declared.MpeLayout.{MpeLayout}
use Rattle.mpe_layout.specs.Layout.{legal}
use Rattle.mpe_layout.proofs.Mcm.{mcm-legal}
use Rattle.mpe_zones.specs.declared.Zones.{Zones}
use Rattle.mpe_zones.specs.Zones.{with_layout, with_sensitivities, with_mono, sensitivity_changed, activated, activated_if, with_zones_of, zones_announced}
use Rattle.mpe_zones.specs.WellFormed.{ZonesFormed}

module _ (z : Zones) (w : ZonesFormed z) where
  sensitivities-formed : (l : List ℕ) → length l ≡ 8 → ZonesFormed (with_sensitivities z l)
  sensitivities-formed l e = record { sensitivities = e; lawful = w.lawful }

  pub laid-formed : (l : MpeLayout) → legal l ≡ true → ZonesFormed (with_layout z l)
  laid-formed l e = record { sensitivities = w.sensitivities; lawful = e }

  pub mono-formed : (zone : MpeZone) (m : Bool) → ZonesFormed (with_mono z zone m)
  mono-formed Lower m = record { sensitivities = w.sensitivities; lawful = w.lawful }
  mono-formed Upper m = record { sensitivities = w.sensitivities; lawful = w.lawful }

activated-formed : (z : Zones) (zone : MpeZone) → ZonesFormed z → ZonesFormed (activated z zone)
unfolding activated
activated-formed z zone w = mono-formed _ (sensitivities-formed z w _ (simp length-set w.sensitivities)) zone false

pub activated-if-formed : (members : ℕ) (z : Zones) (zone : MpeZone) → ZonesFormed z → ZonesFormed (activated_if members z zone)
activated-if-formed members z zone w = of-both ZonesFormed (ltb 0 members) (activated-formed z zone w) w

pub laid-out-formed : (z : Zones) (l : MpeLayout) → ZonesFormed z → legal l ≡ true → ZonesFormed (with_zones_of z l)
laid-out-formed z l w h =
    activated-if-formed l.upper _ Upper (activated-if-formed l.lower _ Lower (laid-formed z w l h))

pub announced-formed : (z : Zones) (zone : MpeZone) (members : ℕ) → ZonesFormed z → ZonesFormed (zones_announced z zone members)
unfolding zones_announced
announced-formed z zone members w =
    of-both ZonesFormed (ltb 15 members) w
    (of-both ZonesFormed (legal z.layout)
    (activated-if-formed members _ zone (laid-formed z w _ (mcm-legal z.layout zone members w.lawful))) w)

pub changed-formed : (z : Zones) (zone : MpeZone) (manager : Bool) (change : ParameterChange) → ZonesFormed z → ZonesFormed (sensitivity_changed z zone manager change)
changed-formed z zone manager change w = sensitivities-formed z w _ (simp length-set w.sensitivities)
