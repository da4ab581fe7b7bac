-- What the channels read after a change of layout, and after a message (document 01, "The receiver").
use Rattle.std.specs.Prelude.{ℕ, ◌+◌, ◌*◌, ◌^◌, ◌≡◌, true, false, ◌≢◌, Option}
use Rattle.ump.specs.Choice.{when◌then◌else◌}
use Rattle.ump.specs.Outcome.{given}
use Rattle.ump.specs.Packet.{packet_value}
use Rattle.ump.specs.Word.{opcode_of, channel_of, first_of, second_of, word_form}
use Rattle.parameter_event.specs.declared.ParameterEvent.{ParameterEvent}
use Rattle.mpe_layout.specs.declared.MpeLayout.{MpeLayout}
use Rattle.mpe_layout.specs.Layout.{legal}
use Rattle.mpe_reset.specs.Reset.{named, layout_mask}
use Rattle.mpe_zones.specs.Zones.{zones_set_reply, zones_set}
use Rattle.mpe_event.specs.declared.MpeEvent.{MpeEvent}
use Rattle.mpe_event.specs.declared.MpeEvent.TheVariants.{Layout}
use Rattle.mpe_event.specs.Update.{zones_reply, zones_after}
use Rattle.mpe_receiver.specs.declared.MpeReceiver.{MpeReceiver}
use Rattle.mpe_receiver.specs.State.{zones_of}
use Rattle.mpe_receiver.specs.Receive.{stored, receiver_reply, receiver_after, set_reply, set_state}
use Rattle.mpe_receiver.specs.Read.{bend_at, pressure_at, brightness_at}
use Rattle.mpe_receiver.specs.WellFormed.{ReceiverFormed}

-- "Every channel in the mask just returned reads bend 0x2000, pressure 0, brightness 64", and every other as before
pub record Rested (mask : ℕ) (before after : MpeReceiver) (channel : ℕ) : Type 0 where
  pub its_bend : bend_at after channel ≡ (when named mask channel then 0x2000 else bend_at before channel)
  pub its_pressure : pressure_at after channel ≡ (when named mask channel then 0 else pressure_at before channel)
  pub its_brightness : brightness_at after channel ≡ (when named mask channel then 64 else brightness_at before channel)

-- the controls that a channel reads
pub record Controls (r : MpeReceiver) (channel bend pressure brightness : ℕ) : Type 0 where
  pub reads_bend : bend_at r channel ≡ bend
  pub reads_pressure : pressure_at r channel ≡ pressure
  pub reads_brightness : brightness_at r channel ≡ brightness

-- what the message of a word stores
abbrev pub stored_by : MpeReceiver → ℕ → MpeReceiver
stored_by r w = stored r (opcode_of w) (channel_of w) (first_of w) (second_of w)

-- a message that is answered with a mask, its control stored first; any other message, which leaves what it stored; and a layout that is set
pub record MaskRests : Type 0 where
  pub of_message : (r : MpeReceiver) (e : Option ParameterEvent) (w mask channel : ℕ) → ReceiverFormed r → receiver_reply r w e ≡ given (Layout mask) → Rested mask (stored_by r w) (receiver_after r w e) channel
  pub of_other_message : (r : MpeReceiver) (e : Option ParameterEvent) (event : MpeEvent) (w channel : ℕ) → ReceiverFormed r → receiver_reply r w e ≡ given event → ((mask : ℕ) → event ≢ Layout mask) → Controls (receiver_after r w e) channel (bend_at (stored_by r w) channel) (pressure_at (stored_by r w) channel) (brightness_at (stored_by r w) channel)
  pub of_layout : (r : MpeReceiver) (l : MpeLayout) (mask channel : ℕ) → ReceiverFormed r → set_reply r l ≡ given mask → Rested mask r (set_state r l) channel

-- the reply to a message and the zones after it are those of the receiver's zones, and so for a layout that is set, where a legal one is answered with
-- the mask of every channel that has a role before or after; what is declined leaves the receiver
pub record ByZones : Type 0 where
  pub replies : (r : MpeReceiver) (e : Option ParameterEvent) (w : ℕ) → receiver_reply r w e ≡ zones_reply (zones_of r) w e
  pub zones_left : (r : MpeReceiver) (e : Option ParameterEvent) (w : ℕ) → zones_of (receiver_after r w e) ≡ zones_after (zones_of r) w e
  pub declined_left : (r : MpeReceiver) (e : Option ParameterEvent) (w : ℕ) → word_form w ≡ false → receiver_after r w e ≡ r
  pub set_replies : (r : MpeReceiver) (l : MpeLayout) → set_reply r l ≡ zones_set_reply (zones_of r) l
  pub set_mask : (r : MpeReceiver) (l : MpeLayout) → ReceiverFormed r → legal l ≡ true → set_reply r l ≡ given (layout_mask r.layout l)
  pub set_zones : (r : MpeReceiver) (l : MpeLayout) → zones_of (set_state r l) ≡ zones_set (zones_of r) l
  pub illegal_left : (r : MpeReceiver) (l : MpeLayout) → legal l ≡ false → set_state r l ≡ r

-- "first stores bend, pressure or brightness (controller 74) for the channel, whatever its role. Controller 121 puts bend to 0x2000 and pressure to 0 and
-- spares brightness"; every other message stores nothing, and no message anything on another channel
pub record ControlsStored : Type 0 where
  pub of_bend : (r : MpeReceiver) (channel a b : ℕ) → ReceiverFormed r → Controls (stored r 0xE (packet_value channel) a b) channel (b * 2 ^ 7 + a) (pressure_at r channel) (brightness_at r channel)
  pub of_pressure : (r : MpeReceiver) (channel a b : ℕ) → ReceiverFormed r → Controls (stored r 0xD (packet_value channel) a b) channel (bend_at r channel) a (brightness_at r channel)
  pub of_brightness : (r : MpeReceiver) (channel b : ℕ) → ReceiverFormed r → Controls (stored r 0xB (packet_value channel) 74 b) channel (bend_at r channel) (pressure_at r channel) b
  pub of_reset : (r : MpeReceiver) (channel b : ℕ) → ReceiverFormed r → Controls (stored r 0xB (packet_value channel) 121 b) channel 0x2000 0 (brightness_at r channel)
  pub of_other_controllers : (r : MpeReceiver) (k a b : ℕ) → a ≢ 74 → a ≢ 121 → stored r 0xB k a b ≡ r
  pub of_other_messages : (r : MpeReceiver) (opcode k a b : ℕ) → opcode ≢ 0xE → opcode ≢ 0xD → opcode ≢ 0xB → stored r opcode k a b ≡ r
  pub on_other_channels : (r : MpeReceiver) (opcode k a b channel : ℕ) → packet_value channel ≢ k → Controls (stored r opcode k a b) channel (bend_at r channel) (pressure_at r channel) (brightness_at r channel)
