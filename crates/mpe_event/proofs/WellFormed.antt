-- What a message makes of well formed zones is well formed.
-- Assumes nothing.
use Prim.Native.Nat.{ℕ}
use mathlib.Core.Bool.{true, false}
use lib.Dec.{eqb}
use Rattle.std.specs.Prelude.{Option, Some, None}
use Rattle.parameter_event.specs.declared.ParameterChange.{ParameterChange}
use Rattle.parameter_event.specs.declared.ParameterChange.TheVariants.{DataEntryMsb, DataEntryLsb, Increment, Decrement}
use Rattle.parameter_event.specs.declared.ParameterEvent.{ParameterEvent}
use Rattle.mpe_layout.specs.declared.MpeZone.{MpeZone}
use Rattle.mpe_layout.specs.declared.MpeRole.{MpeRole}
use Rattle.mpe_layout.specs.declared.MpeRole.TheVariants as role
use Rattle.mpe_event.specs.declared.MpeEvent.{MpeEvent}
use Rattle.mpe_event.specs.declared.MpeEvent.TheVariants.{NoZone, Zone, Layout, Sensitivity, Mode, Ignored}
use Rattle.mpe_event.specs.declared.Decoded.{Decoded}
use Rattle.mpe_event.specs.declared.Decoded.TheVariants.{Nothing, Configuration, BendSensitivity}
use Rattle.mpe_event.specs.declared.ZonesUpdate.{ZonesUpdate}
use Rattle.mpe_zones.specs.declared.Zones.{Zones}
use Rattle.mpe_event.specs.Update.{configured_by, configured_as, announced_on, sensitivity_update, mode_set, decoded, updated_as, message_update}
use Rattle.mpe_zones.specs.Zones.{role_held}
use Rattle.mpe_zones.specs.WellFormed.{ZonesFormed}
use Rattle.mpe_zones.proofs.WellFormed.{mono-formed, announced-formed, changed-formed}

abbrev UpdateFormed : ZonesUpdate → Type 0
UpdateFormed t = ZonesFormed t.zones

module _ (z : Zones) (w : ZonesFormed z) where
  change-formed : (zone : MpeZone) (change : ParameterChange) → UpdateFormed (configured_by z zone change)
  change-formed zone (DataEntryMsb members) = announced-formed z zone members w
  change-formed zone (DataEntryLsb d) = w
  change-formed zone Increment = w
  change-formed zone Decrement = w

  configured-formed : (on : Option MpeZone) (change : ParameterChange) → UpdateFormed (configured_as z on change)
  configured-formed None change = w
  configured-formed (Some zone) change = change-formed zone change

  sensitivity-formed : (ro : MpeRole) (change : ParameterChange) → UpdateFormed (sensitivity_update z ro change)
  sensitivity-formed role.NoZone change = w
  sensitivity-formed (role.Manager zone) change = changed-formed z zone true change w
  sensitivity-formed (role.Member zone) change = changed-formed z zone false change w

  mode-formed : (e : MpeEvent) (a : ℕ) → ZonesFormed (mode_set z e a)
  mode-formed NoZone a = w
  mode-formed (Zone y m) a = w
  mode-formed (Layout m) a = w
  mode-formed (Sensitivity y m) a = w
  mode-formed (Mode y) a = mono-formed z w y (eqb a 126)
  mode-formed Ignored a = w

  decoded-formed : (channel : ℕ) (ro : MpeRole) (plain : MpeEvent) (d : Decoded) (a : ℕ) → UpdateFormed (updated_as z channel ro plain d a)
  decoded-formed channel ro plain (Configuration change) a = configured-formed (announced_on channel) change
  decoded-formed channel ro plain (BendSensitivity change) a = sensitivity-formed ro change
  decoded-formed channel ro plain Nothing a = mode-formed plain a

  pub update-formed : (e : Option ParameterEvent) (opcode channel a : ℕ) → ZonesFormed (message_update z e opcode channel a).zones
  update-formed e opcode channel a =
      decoded-formed channel (role_held z.layout channel) _ (decoded opcode e) a
