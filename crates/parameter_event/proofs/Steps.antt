-- A step stays in its width, and every new value has 14 bits.
-- Assumes nothing.
use Prim.Native.Nat.{ℕ, ◌^◌, ◌<◌}
use mathlib.Core.Bool.{Bool}
use native.Mathlib.Omega.{arith}
use Rattle.std.proofs.lemmas.Grind.{common_steps}
use Rattle.parameter_event.specs.Apply.{saturating_step, step_cents, step_numbered, applied}
use Rattle.parameter_event.specs.declared.ParameterEvent.{ParameterEvent}

pub saturating-fits : (width : ℕ) (up : Bool) (v : ℕ) → v < 2 ^ width → saturating_step width up v < 2 ^ width
saturating-fits width up v h = grind (arith, common_steps)

pub applied-fits : (e : ParameterEvent) (v : ℕ) → applied e v < 2 ^ 14
unfolding step_cents step_numbered
applied-fits e v = grind (arith, common_steps)
