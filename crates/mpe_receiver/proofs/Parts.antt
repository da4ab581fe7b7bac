-- A store leaves the zones; a message and a layout that the zones took or declined; a message that changes no zone and resets no channel leaves a receiver as it was.
-- Assumes nothing.
use Prim.Native.Nat.{ℕ, zero, suc}
use mathlib.Core.Path.{◌≡◌, refl, sym, ◌∙◌}
use mathlib.Core.Bool.{false}
use mathlib.Core.List.{List}
use native.Mathlib.Nat.{zero-div}
use lib.Dec.{eqb}
use Rattle.ump.proofs.Cases.{of-both}
use Rattle.std.specs.Prelude.{None}
use Rattle.mpe_reset.specs.Reset.{named}
use Rattle.mpe_event.specs.declared.ZonesUpdate.{ZonesUpdate}
use Rattle.mpe_zones.specs.Zones.{role_held}
use Rattle.mpe_event.specs.Update.{message_update, plain_event, reset_in}
use Rattle.mpe_event.proofs.Kept.{NoMode, none-reset, zones-kept, quiet-event}
use Rattle.mpe_receiver.specs.declared.MpeReceiver.{MpeReceiver}
use Rattle.mpe_receiver.specs.State.{zones_of, with_zones}
use Rattle.mpe_receiver.specs.Receive.{stored, put_where, rest_upto, with_update, received_by_fields}

module _ (r : MpeReceiver) where
  abbrev Same : MpeReceiver → Type 0
  Same s = zones_of s ≡ zones_of r

  pub zones-stored : (opcode channel a b : ℕ) → zones_of (stored r opcode channel a b) ≡ zones_of r
  unfolding stored
  zones-stored opcode channel a b =
      of-both Same (eqb opcode 0xE) refl
      (of-both Same (eqb opcode 0xD) refl
      (of-both Same (eqb opcode 0xB) (of-both Same (eqb a 74) refl (of-both Same (eqb a 121) refl refl)) refl))

-- mask 0 names no channel
pub none_named : (n : ℕ) → named 0 n ≡ false
none_named n = rw zero-div

none-put : (v : ℕ) (l : List ℕ) (n : ℕ) → put_where (named 0) v l n ≡ l
unfolding put_where
none-put v l zero = refl
none-put v l (suc n) = rw (none_named n) (none-put v l n)

pub rest_none : (r : MpeReceiver) → rest_upto r 0 16 ≡ r
rest_none r = rw (none-put 64 r.brightness 16, none-put 0 r.pressure 16, none-put 0x2000 r.pitch_bend 16)

pub nothing-updated : (r : MpeReceiver) (t : ZonesUpdate) → t.zones ≡ zones_of r → reset_in t.event ≡ 0 → (with_update r t).receiver ≡ r
nothing-updated r t p q = (λ i. rest_upto (with_zones r (p i)) (q i) 16) ∙ rest_none r

-- a message that sets no mode, and for which the parameters gave no event, is stored, and no more
pub receiver-quiet : (r : MpeReceiver) (o k a b : ℕ) → NoMode o a → (received_by_fields r None o k a b).receiver ≡ stored r o k a b
unfolding received_by_fields
receiver-quiet r o k a b n =
    let z = zones_of r in
    let ro = role_held z.layout k in
    let f = quiet-event z o k a n in
    let t = message_update z None o k a in
    nothing-updated (stored r o k a b) t
    (zones-kept z k ro (plain_event z k ro o a) o None a f ∙ sym (zones-stored r o k a b))
    (none-reset t.event f)
