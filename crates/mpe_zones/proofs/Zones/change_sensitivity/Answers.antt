-- `mpe_zones::Zones::change_sensitivity` meets its contract: the new value has 14 bits.
use Prim.Native.Nat.{◌+◌, ◌*◌, ◌^◌}
use native.Mathlib.Omega.{arith}
use Rattle.parameter_event.proofs.Steps.{applied-fits}
use Rattle.mpe_zones.specs.Zones.{sensitivity_event}
use Rattle.mpe_zones.proofs.Zones.change_sensitivity.Goals as goal

pub overflow_cast-to : goal.overflow_cast-to
overflow_cast-to c =
    let fits = applied-fits (sensitivity_event c.args.change) (c.sensitivity-semitones.result.semitones * 2 ^ 7 + c.sensitivity-semitones.result.cents) in
    omega (arith, c.apply-value.ensures)
