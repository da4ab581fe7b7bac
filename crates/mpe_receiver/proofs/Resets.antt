-- Where a change of layout resets channels, those in the mask read at rest, and the others as before.
-- Assumes nothing.
use Prim.Native.Nat.{ℕ, zero, suc, ◌<◌, ◌≤◌}
use mathlib.Core.Path.{◌≡◌, refl, sym, ap, subst, ◌∙◌}
use mathlib.Core.Bool.{Bool, true, false}
use mathlib.Core.Logic.{⊎_elim, ◌≢◌}
use mathlib.Core.List.{List}
use native.Mathlib.Nat.{mod-lt, mod-mod, eq-or-lt_of_le, le_of_suc-le-suc, not-suc-le-zero}
use native.Mathlib.Omega.{arith}
use lib.ListN.{length, get_or}
use lib.Seq.{get_or-set_same, get_or-set_other}
use lib.Dec.{lit<}
use Rattle.ump.specs.Choice.{when◌then◌else◌}
use Rattle.ump.specs.Outcome.{given}
use Rattle.ump.specs.Packet.{packet_value}
use Rattle.ump.specs.Word.{opcode_of, channel_of, first_of, second_of, word_form}
use Rattle.ump.proofs.Cases.{by-test, of-both, chosen, passed}
use Rattle.std.specs.Prelude.{Option}
use Rattle.parameter_event.specs.declared.ParameterEvent.{ParameterEvent}
use Rattle.mpe_layout.specs.declared.MpeLayout.{MpeLayout}
use Rattle.mpe_layout.specs.Layout.{legal}
use Rattle.mpe_reset.specs.Reset.{named}
use Rattle.mpe_zones.specs.declared.Zones.{Zones}
use Rattle.mpe_zones.specs.Zones.{with_zones_of, layout_resets}
use Rattle.mpe_event.specs.declared.MpeEvent.{MpeEvent}
use Rattle.mpe_event.specs.declared.MpeEvent.TheVariants.{NoZone, Zone, Layout, Sensitivity, Mode, Ignored}
use Rattle.mpe_event.specs.Update.{message_update, reset_in}
use Rattle.mpe_receiver.specs.declared.MpeReceiver.{MpeReceiver}
use Rattle.mpe_receiver.specs.State.{zones_of, with_zones}
use Rattle.mpe_receiver.specs.Receive.{put_where, rest_upto, received_by_fields, received_by_word, receiver_reply, receiver_after, set_reply, set_state}
use Rattle.mpe_receiver.specs.Claims.{Rested, Controls, stored_by, MaskRests, ByZones}
use Rattle.mpe_receiver.specs.Read.{bend_at, pressure_at, brightness_at}
use Rattle.mpe_receiver.specs.WellFormed.{ReceiverFormed}
use Rattle.mpe_receiver.proofs.WellFormed.{put-length, stored-formed}
use Rattle.mpe_receiver.proofs.Parts.{none_named}

module _ (hit : ℕ → Bool) (v : ℕ) (l : List ℕ) where
  -- at n and past it nothing is put
  pub put-past : (n i : ℕ) → n ≤ i → get_or (put_where hit v l n) i 0 ≡ get_or l i 0
  unfolding put_where
  put-past zero i h = refl
  put-past (suc n) i h =
      of-both (λ (m : List ℕ). get_or m i 0 ≡ get_or l i 0) (hit n)
      (get_or-set_other (put_where hit v l n) n i v 0 (λ e. omega arith) ∙ put-past n i (omega arith))
      (put-past n i (omega arith))

  pub put-at : (n i : ℕ) → i < n → n ≤ length l → get_or (put_where hit v l n) i 0 ≡ (when hit i then v else get_or l i 0)
  unfolding put_where
  put-at zero i h k = absurd (not-suc-le-zero h)
  put-at (suc n) i h k =
      ⊎_elim
      (λ (e : i ≡ n).
      by-test (hit n)
      (λ t. rw (e, t) (get_or-set_same (put_where hit v l n) n v 0 (omega (arith, put-length hit v l n))))
      (λ t. rw (e, t) (put-past n n (omega arith))))
      (λ (b : i < n).
      of-both (λ (m : List ℕ). get_or m i 0 ≡ (when hit i then v else get_or l i 0)) (hit n)
      (get_or-set_other (put_where hit v l n) n i v 0 (λ e. omega arith) ∙ put-at n i b (omega arith))
      (put-at n i b (omega arith)))
      (eq-or-lt_of_le (le_of_suc-le-suc h))

module _ (r : MpeReceiver) (z : Zones) (mask channel : ℕ) (w : ReceiverFormed r) where
  at_rest : (v : ℕ) (l : List ℕ) → length l ≡ 16
      → get_or (put_where (named mask) v l 16) (packet_value channel) 0 ≡ (when named mask channel then v else get_or l (packet_value channel) 0)
  at_rest v l e =
      let m : named mask (packet_value channel) ≡ named mask channel = rw mod-mod in
      rw m at (put-at (named mask) v l 16 (packet_value channel) (mod-lt channel (lit< tt)) (omega arith))

  -- with whatever zones
  rested : Rested mask r (rest_upto (with_zones r z) mask 16) channel
  rested =
      record {
        its_bend = at_rest 0x2000 r.pitch_bend w.bends;
        its_pressure = at_rest 0 r.pressure w.pressures;
        its_brightness = at_rest 64 r.brightness w.brightnesses;
      }

-- what is answered is the event of a word that has the form
reply-given : (r : MpeReceiver) (e : Option ParameterEvent) (event : MpeEvent) (w : ℕ) → receiver_reply r w e ≡ given event → (word_form w ≡ true) × ((received_by_word r e w).event ≡ event)
reply-given r e event w is =
    by-test (word_form w)
    (λ h. let p = rw h at is in (h, cc))
    (λ h. let p = rw h at is in cc)

-- a message leaves what it stored, put to rest where its event resets the channel
word-rests : (r : MpeReceiver) (e : Option ParameterEvent) (w channel : ℕ) → ReceiverFormed r → word_form w ≡ true → Rested (reset_in (received_by_word r e w).event) (stored_by r w) (receiver_after r w e) channel
unfolding received_by_fields
word-rests r e w channel f t =
    let u = message_update (zones_of r) e (opcode_of w) (channel_of w) (first_of w) in
    subst (λ m. Rested (reset_in u.event) (stored_by r w) m channel) (sym (chosen _ r t))
    (rested (stored_by r w) u.zones (reset_in u.event) channel (stored-formed r (opcode_of w) (channel_of w) (first_of w) (second_of w) f))

message-rests : (r : MpeReceiver) (e : Option ParameterEvent) (w mask channel : ℕ) → ReceiverFormed r → receiver_reply r w e ≡ given (Layout mask) → Rested mask (stored_by r w) (receiver_after r w e) channel
message-rests r e w mask channel f is =
    let g = reply-given r e (Layout mask) w is in
    subst (λ m. Rested m (stored_by r w) (receiver_after r w e) channel) (ap reset_in g.1) (word-rests r e w channel f g.0)

-- an event that is no change of layout resets nothing
none-reset : (event : MpeEvent) → ((mask : ℕ) → event ≢ Layout mask) → reset_in event ≡ 0
none-reset NoZone n = refl
none-reset (Zone z m) n = refl
none-reset (Layout mask) n = absurd (n mask refl)
none-reset (Sensitivity z m) n = refl
none-reset (Mode z) n = refl
none-reset Ignored n = refl

other-message-stored : (r : MpeReceiver) (e : Option ParameterEvent) (event : MpeEvent) (w channel : ℕ) → ReceiverFormed r → receiver_reply r w e ≡ given event → ((mask : ℕ) → event ≢ Layout mask)
    → Controls (receiver_after r w e) channel (bend_at (stored_by r w) channel) (pressure_at (stored_by r w) channel) (brightness_at (stored_by r w) channel)
other-message-stored r e event w channel f is n =
    let g = reply-given r e event w is in
    let c = subst (λ m. Rested m (stored_by r w) (receiver_after r w e) channel) (ap reset_in g.1 ∙ none-reset event n) (word-rests r e w channel f g.0) in
    record {
      reads_bend = c.its_bend ∙ passed _ _ (none_named channel);
      reads_pressure = c.its_pressure ∙ passed _ _ (none_named channel);
      reads_brightness = c.its_brightness ∙ passed _ _ (none_named channel);
    }

layout-rests : (r : MpeReceiver) (l : MpeLayout) (mask channel : ℕ) → ReceiverFormed r → set_reply r l ≡ given mask → Rested mask r (set_state r l) channel
layout-rests r l mask channel w is =
    let resets = layout_resets r.layout l in
    let z = with_zones_of (zones_of r) l in
    by-test (legal l)
    (λ h.
    let p = rw h at is in
    let same : mask ≡ resets = cc in
    subst (λ m. Rested mask r m channel) (sym (chosen (rest_upto (with_zones r z) resets 16) r h)) (rw same (rested r z resets channel w)))
    (λ h. let p = rw h at is in cc)

pub mask_rests : MaskRests
mask_rests = record { of_message = message-rests; of_other_message = other-message-stored; of_layout = layout-rests }

zones-of-chosen : (b : Bool) (x y : MpeReceiver) → zones_of (when b then x else y) ≡ (when b then zones_of x else zones_of y)
zones-of-chosen true x y = refl
zones-of-chosen false x y = refl

pub by_zones : ByZones
unfolding received_by_fields
by_zones =
    record {
      replies = λ r e w. refl;
      zones_left = λ r e w. zones-of-chosen (word_form w) (received_by_word r e w).receiver r;
      declined_left = λ r e w h. passed (received_by_word r e w).receiver r h;
      set_replies = λ r l. refl;
      set_mask = λ r l f h. rw (h, f.lawful);
      set_zones = λ r l. zones-of-chosen (legal l) (rest_upto (with_zones r (with_zones_of (zones_of r) l)) (layout_resets r.layout l) 16) r;
      illegal_left = λ r l h. passed _ r h;
    }
