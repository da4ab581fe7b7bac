-- What a message does to a receiver (document 01, "The receiver"; M1-100 2.2 and 2.3): it is stored, the zones are updated, and the channels that its event names are put to rest.
use Rattle.std.specs.Prelude.{ℕ, zero, suc, ◌+◌, ◌*◌, Bool, List, set, eqb, Option}
use Rattle.ump.specs.Choice.{when◌then◌else◌}
use Rattle.ump.specs.Outcome.{Outcome, given, out_of_range}
use Rattle.ump.specs.Word.{opcode_of, channel_of, first_of, second_of, word_form}
use Rattle.parameter_event.specs.declared.ParameterEvent.{ParameterEvent}
use Rattle.mpe_layout.specs.declared.MpeLayout.{MpeLayout}
use Rattle.mpe_layout.specs.Layout.{legal}
use Rattle.mpe_reset.specs.Reset.{named}
use Rattle.mpe_event.specs.declared.MpeEvent.{MpeEvent}
use Rattle.mpe_event.specs.declared.ZonesUpdate.{ZonesUpdate}
use Rattle.mpe_zones.specs.declared.Zones.{Zones}
use Rattle.mpe_zones.specs.Zones.{with_zones_of, layout_resets, zones_set_reply}
use Rattle.mpe_event.specs.Update.{zones_update, message_update, reset_in}
use Rattle.mpe_receiver.specs.declared.MpeReceiver.{MpeReceiver}
use Rattle.mpe_receiver.specs.State.{with_bends, with_pressures, with_brightnesses, zones_of, with_zones}

-- the receiver after a message, and its event
pub record ReceiverUpdate : Type 0 where
  pub receiver : MpeReceiver
  pub event : MpeEvent

abbrev pub receiver_update : MpeReceiver → MpeEvent → ReceiverUpdate
receiver_update r e = record { receiver = r; event = e }

-- bend, pressure and brightness are stored whatever the role; 121 puts bend and pressure to rest and spares brightness (RP-015)
unfoldable pub stored : MpeReceiver → ℕ → ℕ → ℕ → ℕ → MpeReceiver
stored r opcode channel a b =
    when eqb opcode 0xE then with_bends r (set r.pitch_bend channel (b * 128 + a)) else
    when eqb opcode 0xD then with_pressures r (set r.pressure channel a) else
    when eqb opcode 0xB then
    (when eqb a 74 then with_brightnesses r (set r.brightness channel b) else
    when eqb a 121 then with_pressures (with_bends r (set r.pitch_bend channel 0x2000)) (set r.pressure channel 0) else
    r)
    else r

-- a value of l at each channel below n that is hit, put to v
unfoldable pub put_where : (ℕ → Bool) → ℕ → List ℕ → ℕ → List ℕ
put_where hit v l zero = l
put_where hit v l (suc n) = when hit n then set (put_where hit v l n) n v else put_where hit v l n

-- the channels below n that a mask names are put to rest: bend 0x2000, pressure 0, brightness 64 (M1-100 2.2.3)
abbrev pub rest_upto : MpeReceiver → ℕ → ℕ → MpeReceiver
rest_upto r mask n =
    with_bends
    (with_pressures (with_brightnesses r (put_where (named mask) 64 r.brightness n)) (put_where (named mask) 0 r.pressure n))
    (put_where (named mask) 0x2000 r.pitch_bend n)

-- the receiver with an update of its zones: the channels that the event resets are put to rest
abbrev pub with_update : MpeReceiver → ZonesUpdate → ReceiverUpdate
with_update r t = receiver_update (rest_upto (with_zones r t.zones) (reset_in t.event) 16) t.event

-- a message whose fields are cut: first its control is stored, then the zones are updated
unfoldable pub received_by_fields : MpeReceiver → Option ParameterEvent → ℕ → ℕ → ℕ → ℕ → ReceiverUpdate
received_by_fields r e opcode channel a b = with_update (stored r opcode channel a b) (message_update (zones_of r) e opcode channel a)

abbrev pub received_by_word : MpeReceiver → Option ParameterEvent → ℕ → ReceiverUpdate
received_by_word r e w = received_by_fields r e (opcode_of w) (channel_of w) (first_of w) (second_of w)

-- what `receive` answers, by document 01's numbers, and the receiver after it
abbrev pub receiver_reply : MpeReceiver → ℕ → Option ParameterEvent → Outcome MpeEvent
receiver_reply r w e = when word_form w then given (received_by_word r e w).event else out_of_range

abbrev pub receiver_after : MpeReceiver → ℕ → Option ParameterEvent → MpeReceiver
receiver_after r w e = when word_form w then (received_by_word r e w).receiver else r

-- a layout that the application sets (M1-100 2.2.2, 2.2.3)
abbrev pub set_reply : MpeReceiver → MpeLayout → Outcome ℕ
set_reply r l = zones_set_reply (zones_of r) l

abbrev pub set_state : MpeReceiver → MpeLayout → MpeReceiver
set_state r l = when legal l then rest_upto (with_zones r (with_zones_of (zones_of r) l)) (layout_resets r.layout l) 16 else r

-- a message of which the event and the zones after it are known
abbrev pub settled : MpeReceiver → Zones → ℕ → MpeEvent → MpeReceiver
settled r z w e = (with_update (stored r (opcode_of w) (channel_of w) (first_of w) (second_of w)) (zones_update z e)).receiver
