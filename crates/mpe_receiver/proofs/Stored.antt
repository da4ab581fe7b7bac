-- What a message stores is read on its channel, and nothing else is stored.
-- Assumes nothing.
use Prim.Native.Nat.{ℕ, ◌<◌}
use mathlib.Core.Path.{◌≡◌, refl, ◌∙◌}
use mathlib.Core.Logic.{◌≢◌}
use mathlib.Core.List.{List}
use native.Mathlib.Nat.{mod-lt}
use native.Mathlib.Omega.{arith}
use lib.ListN.{length, get_or, set}
use lib.Seq.{get_or-set_same, get_or-set_other}
use lib.Dec.{eqb, lit<}
use borrow.Author.Tests.{ne_eqb}
use Rattle.ump.specs.Packet.{packet_value}
use Rattle.ump.proofs.Cases.{of-both, passed}
use Rattle.mpe_receiver.specs.declared.MpeReceiver.{MpeReceiver}
use Rattle.mpe_receiver.specs.Receive.{stored}
use Rattle.mpe_receiver.specs.Read.{bend_at, pressure_at, brightness_at}
use Rattle.mpe_receiver.specs.Claims.{Controls, ControlsStored}

put-read : (l : List ℕ) (channel v : ℕ) → length l ≡ 16 → get_or (set l (packet_value channel) v) (packet_value channel) 0 ≡ v
put-read l channel v e =
    let m : packet_value channel < 16 = mod-lt channel (lit< tt) in
    get_or-set_same l (packet_value channel) v 0 (omega arith)

-- a channel that is not the message's own reads as before
other-kept : (r : MpeReceiver) (opcode k a b channel : ℕ) → packet_value channel ≢ k
    → Controls (stored r opcode k a b) channel (bend_at r channel) (pressure_at r channel) (brightness_at r channel)
unfolding stored
other-kept r opcode k a b channel n =
    let P : MpeReceiver → Type 0 = λ m. Controls m channel (bend_at r channel) (pressure_at r channel) (brightness_at r channel) in
    let same : P r = record { reads_bend = refl; reads_pressure = refl; reads_brightness = refl } in
    let kept : (l : List ℕ) (v : ℕ) → get_or (set l k v) (packet_value channel) 0 ≡ get_or l (packet_value channel) 0 = λ l v. get_or-set_other l k (packet_value channel) v 0 n in
    of-both P (eqb opcode 0xE)
    (record { reads_bend = kept r.pitch_bend _; reads_pressure = refl; reads_brightness = refl })
    (of-both P (eqb opcode 0xD)
    (record { reads_bend = refl; reads_pressure = kept r.pressure a; reads_brightness = refl })
    (of-both P (eqb opcode 0xB)
    (of-both P (eqb a 74)
    (record { reads_bend = refl; reads_pressure = refl; reads_brightness = kept r.brightness b })
    (of-both P (eqb a 121)
    (record { reads_bend = kept r.pitch_bend 0x2000; reads_pressure = kept r.pressure 0; reads_brightness = refl })
    same))
    same))

pub controls_stored : ControlsStored
unfolding stored
controls_stored =
    record {
      of_bend = λ r k a b w. record { reads_bend = put-read r.pitch_bend k _ w.bends; reads_pressure = refl; reads_brightness = refl };
      of_pressure = λ r k a b w. record { reads_bend = refl; reads_pressure = put-read r.pressure k a w.pressures; reads_brightness = refl };
      of_brightness = λ r k b w. record { reads_bend = refl; reads_pressure = refl; reads_brightness = put-read r.brightness k b w.brightnesses };
      of_reset = λ r k b w.
          record {
            reads_bend = put-read r.pitch_bend k 0x2000 w.bends;
            reads_pressure = put-read r.pressure k 0 w.pressures;
            reads_brightness = refl;
          };
      of_other_controllers = λ r k a b n m. passed _ _ (ne_eqb a 74 n) ∙ passed _ _ (ne_eqb a 121 m);
      of_other_messages = λ r opcode k a b e d c. passed _ _ (ne_eqb opcode 0xE e) ∙ passed _ _ (ne_eqb opcode 0xD d) ∙ passed _ _ (ne_eqb opcode 0xB c);
      on_other_channels = other-kept;
    }
