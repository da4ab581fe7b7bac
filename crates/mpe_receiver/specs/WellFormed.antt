-- A receiver whose lists have their lengths and whose layout is legal (document 01, "Layout and pitch"): every one that a new receiver leads to.
use Rattle.std.specs.Prelude.{◌≡◌, true, length}
use Rattle.mpe_layout.specs.Layout.{legal}
use Rattle.mpe_receiver.specs.declared.MpeReceiver.{MpeReceiver}

pub record ReceiverFormed (r : MpeReceiver) : Type 0 where
  pub sensitivities : length r.sensitivity ≡ 8
  pub bends : length r.pitch_bend ≡ 16
  pub pressures : length r.pressure ≡ 16
  pub brightnesses : length r.brightness ≡ 16
  pub lawful : legal r.layout ≡ true
