-- The end, and what each call does to it (document 01, "A byte arrives").
use Rattle.std.specs.Prelude.{ℕ, Bool, false, get_or, set, replicate, Option, None}
use Rattle.ump.specs.Outcome.{Outcome, given, declined}
use Rattle.ump.specs.Packet.{packet_value}
use Rattle.ump.specs.Word.{channel_of}
use Rattle.parameters.specs.declared.ParameterState.{ParameterState}
use Rattle.parameter_event.specs.declared.ParameterEvent.{ParameterEvent}
use Rattle.parameters.specs.State.{new_state, number, rpn_switched, nrpn_switched}
use Rattle.parameters.specs.State as parameter
use Rattle.mpe_layout.specs.declared.MpeLayout.{MpeLayout}
use Rattle.mpe_receiver.specs.declared.MpeReceiver.{MpeReceiver}
use Rattle.mpe_event.specs.declared.MpeEvent.TheVariants.{Ignored}
use Rattle.mpe_receiver.specs.State.{new_receiver}
use Rattle.mpe_receiver.specs.Receive as receiver
use Rattle.byte_reader.specs.declared.Reader.{Reader}
use Rattle.byte_reader.specs.declared.Read.{Read}
use Rattle.byte_reader.specs.declared.Read.TheVariants as read
use Rattle.receiving_end.specs.declared.end.End.{End}
use Rattle.receiving_end.specs.declared.end.Reply.{Reply}
use Rattle.receiving_end.specs.declared.end.Reply.TheVariants.{Quiet, Dropped, RealTime, Message}
use Rattle.receiving_end.specs.declared.end.Stepped.{Stepped}
use Rattle.byte_reader.specs.Reader.{new_reader, read_step}

-- a new end ("end" is document 01's term)
abbrev pub new_end : End
new_end = record { reader = new_reader; parameters = replicate 16 new_state; receiver = new_receiver }

abbrev pub with_reader : End → Reader → End
with_reader e r = record { reader = r; parameters = e.parameters; receiver = e.receiver }

abbrev pub with_receiver : End → MpeReceiver → End
with_receiver e r = record { reader = e.reader; parameters = e.parameters; receiver = r }

abbrev pub with_parameter : End → ℕ → ParameterState → End
with_parameter e k p = record { reader = e.reader; parameters = set e.parameters k p; receiver = e.receiver }

-- what stands at no channel
abbrev pub blank_state : ParameterState
blank_state =
    record { rpn = number 0 0; nrpn = number 0 0; nrpn_last = false; rpn_on = false; nrpn_on = false }

-- the parameters of a channel below 16
abbrev pub parameter_at : End → ℕ → ParameterState
parameter_at e k = get_or e.parameters k blank_state

-- the value that a call gives, or d where it declines
abbrev pub given_or : {A : Type 0} → A → Outcome A → A
given_or d (given a) = a
given_or d (declined n v) = d

abbrev pub stepped : End → Reply → Stepped
stepped e r = record { end = e; reply = r }

-- the event that the channel's parameters give for a word; the reader makes no word that they decline
abbrev pub parameter_event_at : ParameterState → ℕ → Option ParameterEvent
parameter_event_at p w = given_or None (parameter.parameter_reply p w)

-- a message reaches its channel's parameters first, and then the receiver with their event
unfoldable pub message_at : End → ℕ → ℕ → Stepped
message_at e k w =
    stepped
    (with_receiver (with_parameter e k (parameter.parameter_after (parameter_at e k) w))
    (receiver.receiver_after e.receiver w (parameter_event_at (parameter_at e k) w)))
    (Message w (given_or Ignored (receiver.receiver_reply e.receiver w (parameter_event_at (parameter_at e k) w))))

abbrev pub message_step : End → ℕ → Stepped
message_step e w = message_at e (channel_of w) w

abbrev pub answer_step : End → Reader → Read → Stepped
answer_step e r read.Quiet = stepped (with_reader e r) Quiet
answer_step e r read.Dropped = stepped (with_reader e r) Dropped
answer_step e r (read.RealTime b) = stepped (with_reader e r) (RealTime b)
answer_step e r (read.Message w) = message_step (with_reader e r) w

unfoldable pub step_of : End → ℕ → Stepped
step_of e b = answer_step e (read_step e.reader b).reader (read_step e.reader b).read

-- a byte's reply, and the end after it
abbrev pub step_reply : End → ℕ → Reply
step_reply e b = (step_of e b).reply

abbrev pub step_end : End → ℕ → End
step_end e b = (step_of e b).end

-- the end after `set_layout` and after the switches; a channel is taken modulo 16
abbrev pub laid_out_end : End → MpeLayout → End
laid_out_end e l = with_receiver e (receiver.set_state e.receiver l)

abbrev pub rpn_switched_at : End → ℕ → Bool → End
rpn_switched_at e channel on =
    with_parameter e (packet_value channel) (rpn_switched (parameter_at e (packet_value channel)) on)

abbrev pub nrpn_switched_at : End → ℕ → Bool → End
nrpn_switched_at e channel on =
    with_parameter e (packet_value channel) (nrpn_switched (parameter_at e (packet_value channel)) on)
