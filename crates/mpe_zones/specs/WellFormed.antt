-- Zones whose sensitivities are eight bytes and whose layout is legal (document 01, "Layout and pitch"): those of every receiver that a new one leads to.
use Rattle.std.specs.Prelude.{◌≡◌, true, length}
use Rattle.mpe_layout.specs.Layout.{legal}
use Rattle.mpe_zones.specs.declared.Zones.{Zones}

pub record ZonesFormed (z : Zones) : Type 0 where
  pub sensitivities : length z.sensitivity ≡ 8
  pub lawful : legal z.layout ≡ true
