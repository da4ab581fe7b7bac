-- A lent end taken apart: what the by-value functions that the lent byte call makes answer. Private functions cite these; the byte call itself is held to End.antt.
use Rattle.std.specs.Prelude.{ℕ, Bool, true, false, eqb, set, Option, Some, None}
use Rattle.ump.specs.Choice.{when◌then◌else◌}
use Rattle.ump.specs.Word.{opcode_of, channel_of, first_of, second_of, bend_of}
use Rattle.parameter_event.specs.declared.ParameterEvent.{ParameterEvent}
use Rattle.parameters.specs.State as parameter
use Rattle.mpe_layout.specs.declared.MpeZone.{MpeZone}
use Rattle.mpe_layout.specs.declared.MpeRole.{MpeRole}
use Rattle.mpe_layout.specs.declared.MpeRole.TheVariants as role
use Rattle.mpe_receiver.specs.declared.MpeReceiver.{MpeReceiver}
use Rattle.mpe_event.specs.declared.MpeEvent.{MpeEvent}
use Rattle.mpe_event.specs.declared.MpeEvent.TheVariants.{NoZone, Zone, Ignored}
use Rattle.mpe_zones.specs.Zones.{mono_of, role_held}
use Rattle.mpe_event.specs.Update.{on_member}
use Rattle.mpe_receiver.specs.State.{with_bends, with_pressures, with_brightnesses, zones_of}
use Rattle.mpe_receiver.specs.Receive as receiver
use Rattle.byte_reader.specs.declared.Read.{Read}
use Rattle.byte_reader.specs.declared.Read.TheVariants as read
use Rattle.receiving_end.specs.declared.end.End.{End}
use Rattle.receiving_end.specs.declared.end.Reply.{Reply}
use Rattle.receiving_end.specs.declared.end.Reply.TheVariants.{Quiet, Dropped, RealTime, Message}
use Rattle.receiving_end.specs.End.{with_receiver, with_parameter, parameter_at, parameter_event_at, given_or}

-- a message on a member, which need not be the lowest: only the mode messages 126 and 127 ask for that (document 01, "The receiver", 4 to 6)
abbrev pub event_on_member : MpeZone → Bool → ℕ → ℕ → MpeEvent
event_on_member zone mono opcode a = on_member zone mono false opcode a

-- a message that alters no parameter and no zone, by its channel's role
abbrev pub event_by_role : MpeReceiver → MpeRole → ℕ → MpeEvent
event_by_role r role.NoZone w = NoZone
event_by_role r (role.Manager zone) w = Zone zone true
event_by_role r (role.Member zone) w = event_on_member zone (mono_of (zones_of r) zone) (opcode_of w) (first_of w)

-- the reply to it
abbrev pub event_reply : MpeReceiver → ℕ → Reply
event_reply r w = Message w (event_by_role r (role_held r.layout (channel_of w)) w)

-- a control change other than a brightness may change the receiver where the parameters gave an event for it, and where it is 121 (RP-015), 126 or 127 (M1-100 2.2.4.3)
abbrev pub settles_with : Option ParameterEvent → ℕ → Bool
settles_with None a = when eqb a 121 then true else when eqb a 126 then true else eqb a 127
settles_with (Some e) a = true

-- the end after each lent call, and the reply where it is found there
-- a message reaches the receiver, with the event of the parameters
abbrev pub settled_end : End → ℕ → Option ParameterEvent → End
settled_end e w event = with_receiver e (receiver.receiver_after e.receiver w event)

abbrev pub settled_reply : End → ℕ → Option ParameterEvent → Reply
settled_reply e w event = Message w (given_or Ignored (receiver.receiver_reply e.receiver w event))

-- where it may change
abbrev pub updated_end : End → ℕ → Option ParameterEvent → End
updated_end e w event = when settles_with event (first_of w) then settled_end e w event else e

abbrev pub updated_reply : End → ℕ → Option ParameterEvent → Reply
updated_reply e w event = when settles_with event (first_of w) then settled_reply e w event else event_reply e.receiver w

-- a control change other than a brightness reaches the parameters of its channel first (document 01, "The message reaches its channel's parameters")
abbrev pub parameter_end : End → ℕ → End
parameter_end e w = with_parameter e (channel_of w) (parameter.parameter_after (parameter_at e (channel_of w)) w)

abbrev pub control_end : End → ℕ → End
control_end e w = updated_end (parameter_end e w) w (parameter_event_at (parameter_at e (channel_of w)) w)

abbrev pub control_reply : End → ℕ → Reply
control_reply e w = updated_reply e w (parameter_event_at (parameter_at e (channel_of w)) w)

-- a brightness, which alters no parameter and no zone
abbrev pub brightness_end : End → ℕ → End
brightness_end e w =
    with_receiver e (with_brightnesses e.receiver (set e.receiver.brightness (channel_of w) (second_of w)))

-- any control change
abbrev pub changed_end : End → ℕ → End
changed_end e w = when eqb (first_of w) 74 then brightness_end e w else control_end e w

abbrev pub changed_reply : End → ℕ → Reply
changed_reply e w = when eqb (first_of w) 74 then event_reply e.receiver w else control_reply e w

-- a message that is no control change: a bend or a pressure is stored
abbrev pub stored_end : End → ℕ → End
stored_end e w =
    when eqb (opcode_of w) 0xE then
    with_receiver e (with_bends e.receiver (set e.receiver.pitch_bend (channel_of w) (bend_of w)))
    else
    when eqb (opcode_of w) 0xD then
    with_receiver e (with_pressures e.receiver (set e.receiver.pressure (channel_of w) (first_of w)))
    else e

-- a word; the one opcode of no message that a reader can make is F, from a running status that it never gets by bytes
abbrev pub message_end : End → ℕ → End
message_end e w =
    when eqb (opcode_of w) 0xF then e else
    when eqb (opcode_of w) 0xB then changed_end e w else
    stored_end e w

abbrev pub message_reply : End → ℕ → Reply
message_reply e w =
    when eqb (opcode_of w) 0xF then Message w Ignored else
    when eqb (opcode_of w) 0xB then changed_reply e w else
    event_reply e.receiver w

-- what the reader made of a byte; where it is no word, it reaches the reader alone
abbrev pub read_end : End → Read → End
read_end e read.Quiet = e
read_end e read.Dropped = e
read_end e (read.RealTime b) = e
read_end e (read.Message w) = message_end e w

abbrev pub read_reply : End → Read → Reply
read_reply e read.Quiet = Quiet
read_reply e read.Dropped = Dropped
read_reply e (read.RealTime b) = RealTime b
read_reply e (read.Message w) = message_reply e w
