-- A new receiver is well formed, and each step keeps it so.
-- Assumes nothing.
use Prim.Native.Nat.{ℕ, zero, suc}
use mathlib.Core.Path.{◌≡◌, refl, ◌∙◌}
use mathlib.Core.Bool.{Bool}
use mathlib.Core.List.{List}
use lib.ListN.{length, length-set}
use lib.Dec.{eqb}
use Rattle.ump.specs.Word.{opcode_of, channel_of, first_of, second_of, word_form}
use Rattle.ump.proofs.Cases.{by-test, of-both}
use Rattle.std.specs.Prelude.{Option}
use Rattle.parameter_event.specs.declared.ParameterEvent.{ParameterEvent}
use Rattle.mpe_layout.specs.declared.MpeLayout.{MpeLayout}
use Rattle.mpe_layout.specs.Layout.{legal, legal_counts}
use Rattle.mpe_reset.specs.Reset.{named}
use Rattle.mpe_zones.specs.declared.Zones.{Zones}
use Rattle.mpe_zones.specs.WellFormed as zones
use Rattle.mpe_zones.proofs.WellFormed.{laid-out-formed}
use Rattle.mpe_event.proofs.WellFormed.{update-formed}
use Rattle.mpe_receiver.specs.declared.MpeReceiver.{MpeReceiver}
use Rattle.mpe_receiver.specs.State.{new_receiver, with_bends, with_pressures, with_brightnesses, zones_of, with_zones}
use Rattle.mpe_receiver.specs.Receive.{stored, put_where, rest_upto, received_by_fields, receiver_after, set_state}
use Rattle.mpe_receiver.specs.WellFormed.{ReceiverFormed}

pub new-formed : ReceiverFormed new_receiver
unfolding legal legal_counts
new-formed = record { sensitivities = refl; bends = refl; pressures = refl; brightnesses = refl; lawful = refl }

-- one field anew
module _ (r : MpeReceiver) (w : ReceiverFormed r) where
  bends-formed : (l : List ℕ) → length l ≡ 16 → ReceiverFormed (with_bends r l)
  bends-formed l e =
      record { sensitivities = w.sensitivities; bends = e; pressures = w.pressures; brightnesses = w.brightnesses; lawful = w.lawful }

  pressures-formed : (l : List ℕ) → length l ≡ 16 → ReceiverFormed (with_pressures r l)
  pressures-formed l e =
      record { sensitivities = w.sensitivities; bends = w.bends; pressures = e; brightnesses = w.brightnesses; lawful = w.lawful }

  brightnesses-formed : (l : List ℕ) → length l ≡ 16 → ReceiverFormed (with_brightnesses r l)
  brightnesses-formed l e =
      record { sensitivities = w.sensitivities; bends = w.bends; pressures = w.pressures; brightnesses = e; lawful = w.lawful }

pub stored-formed : (r : MpeReceiver) (opcode channel a b : ℕ) → ReceiverFormed r → ReceiverFormed (stored r opcode channel a b)
unfolding stored
stored-formed r opcode channel a b w =
    of-both ReceiverFormed (eqb opcode 0xE) (bends-formed r w _ (simp length-set w.bends))
    (of-both ReceiverFormed (eqb opcode 0xD) (pressures-formed r w _ (simp length-set w.pressures))
    (of-both ReceiverFormed (eqb opcode 0xB)
    (of-both ReceiverFormed (eqb a 74) (brightnesses-formed r w _ (simp length-set w.brightnesses))
    (of-both ReceiverFormed (eqb a 121)
    (pressures-formed _ (bends-formed r w _ (simp length-set w.bends)) _ (simp length-set w.pressures))
    w))
    w))

pub put-length : (hit : ℕ → Bool) (v : ℕ) (l : List ℕ) (n : ℕ) → length (put_where hit v l n) ≡ length l
unfolding put_where
put-length hit v l zero = refl
put-length hit v l (suc n) =
    of-both (λ (m : List ℕ). length m ≡ length l) (hit n)
    (length-set (put_where hit v l n) n v ∙ put-length hit v l n)
    (put-length hit v l n)

-- the zones of a receiver, and others in their place
zones-formed : (r : MpeReceiver) → ReceiverFormed r → zones.ZonesFormed (zones_of r)
zones-formed r w = record { sensitivities = w.sensitivities; lawful = w.lawful }

-- other zones, and the channels of a mask at rest
rested-formed : (r : MpeReceiver) (z : Zones) (mask : ℕ) → ReceiverFormed r → zones.ZonesFormed z → ReceiverFormed (rest_upto (with_zones r z) mask 16)
rested-formed r z mask w v =
    record {
      sensitivities = v.sensitivities;
      bends = put-length (named mask) 0x2000 r.pitch_bend 16 ∙ w.bends;
      pressures = put-length (named mask) 0 r.pressure 16 ∙ w.pressures;
      brightnesses = put-length (named mask) 64 r.brightness 16 ∙ w.brightnesses;
      lawful = v.lawful;
    }

fields-formed : (r : MpeReceiver) (e : Option ParameterEvent) (opcode channel a b : ℕ) → ReceiverFormed r → ReceiverFormed (received_by_fields r e opcode channel a b).receiver
unfolding received_by_fields
fields-formed r e opcode channel a b w =
    rested-formed (stored r opcode channel a b) _ _ (stored-formed r opcode channel a b w) (update-formed (zones_of r) (zones-formed r w) e opcode channel a)

-- a message keeps a receiver well formed
pub received-formed : (r : MpeReceiver) (word : ℕ) (e : Option ParameterEvent) → ReceiverFormed r → ReceiverFormed (receiver_after r word e)
received-formed r word e w =
    of-both ReceiverFormed (word_form word) (fields-formed r e (opcode_of word) (channel_of word) (first_of word) (second_of word) w) w

-- a layout that is set keeps a receiver well formed
pub set-formed : (r : MpeReceiver) (l : MpeLayout) → ReceiverFormed r → ReceiverFormed (set_state r l)
set-formed r l w =
    by-test (legal l)
    (λ h. rw h (rested-formed r _ _ w (laid-out-formed (zones_of r) l (zones-formed r w) h)))
    (λ h. rw h w)
