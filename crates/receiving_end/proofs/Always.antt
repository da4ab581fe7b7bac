-- Every list of calls on a new end leaves a well formed one.
-- Assumes nothing.
use Prim.Native.Nat.{ℕ}
use mathlib.Core.Path.{◌∙◌}
use mathlib.Core.List.{List, [], ◌∷◌}
use lib.ListN.{length-set, length-replicate}
use Rattle.parameters.specs.declared.ParameterState.{ParameterState}
use Rattle.parameters.specs.State.{new_state}
use Rattle.mpe_receiver.specs.declared.MpeReceiver.{MpeReceiver}
use Rattle.mpe_receiver.specs.WellFormed.{ReceiverFormed}
use Rattle.mpe_receiver.proofs.WellFormed.{new-formed, received-formed, set-formed}
use Rattle.byte_reader.specs.declared.Reader.{Reader}
use Rattle.byte_reader.specs.declared.Read.{Read}
use Rattle.byte_reader.specs.declared.Read.TheVariants.{Quiet, Dropped, RealTime, Message}
use Rattle.receiving_end.specs.declared.end.End.{End}
use Rattle.byte_reader.specs.Reader.{read_step, read_all, Sound}
use Rattle.receiving_end.specs.End.{new_end, with_reader, with_receiver, with_parameter, message_at, answer_step, step_of, step_end}
use Rattle.receiving_end.specs.Lists.{Call, byte_by_value, byte_lent, set_layout, set_rpn_reception, set_nrpn_reception, layout, mode, sensitivity, pitch_bend, pressure, brightness, pitch_offset, pitch_offset_with_remainder, selection, rpn_reception, nrpn_reception, next, after}
use Rattle.receiving_end.specs.WellFormed.{EndFormed, AlwaysFormed}
use Rattle.byte_reader.proofs.Formed.{new-sound, sound-after}

pub new-end-formed : EndFormed new_end
new-end-formed =
    record { reader_sound = new-sound; channels = length-replicate 16 new_state; receiver_formed = new-formed }

read_by : (e : End) (r : Reader) → Sound r → EndFormed e → EndFormed (with_reader e r)
read_by e r s f = record { reader_sound = s; channels = f.channels; receiver_formed = f.receiver_formed }

received : (e : End) (r : MpeReceiver) → ReceiverFormed r → EndFormed e → EndFormed (with_receiver e r)
received e r w f = record { reader_sound = f.reader_sound; channels = f.channels; receiver_formed = w }

set_at : (e : End) (k : ℕ) (p : ParameterState) → EndFormed e → EndFormed (with_parameter e k p)
set_at e k p f =
    record {
      reader_sound = f.reader_sound;
      channels = length-set e.parameters k p ∙ f.channels;
      receiver_formed = f.receiver_formed;
    }

message-formed : (e : End) (k w : ℕ) → EndFormed e → EndFormed (message_at e k w).end
unfolding message_at
message-formed e k w f = received _ _ (received-formed e.receiver w _ f.receiver_formed) (set_at e k _ f)

answer-formed : (e : End) (r : Reader) (x : Read) → Sound r → EndFormed e → EndFormed (answer_step e r x).end
answer-formed e r Quiet s f = read_by e r s f
answer-formed e r Dropped s f = read_by e r s f
answer-formed e r (RealTime b) s f = read_by e r s f
answer-formed e r (Message w) s f = message-formed (with_reader e r) _ w (read_by e r s f)

step-formed : (e : End) (b : ℕ) → EndFormed e → EndFormed (step_end e b)
unfolding step_of read_all
step-formed e b f =
    answer-formed e (read_step e.reader b).reader (read_step e.reader b).read (sound-after e.reader (b ∷ []) f.reader_sound) f

next-formed : (e : End) (c : Call) → EndFormed e → EndFormed (next e c)
next-formed e (byte_by_value b) f = step-formed e b f
next-formed e (byte_lent b) f = step-formed e b f
next-formed e (set_layout l) f = search (set-formed, f.receiver_formed)
next-formed e (set_rpn_reception channel on) f = set_at e _ _ f
next-formed e (set_nrpn_reception channel on) f = set_at e _ _ f
next-formed e layout f = f
next-formed e (mode zone) f = f
next-formed e (sensitivity zone manager) f = f
next-formed e (pitch_bend channel) f = f
next-formed e (pressure channel) f = f
next-formed e (brightness channel) f = f
next-formed e (pitch_offset channel) f = f
next-formed e (pitch_offset_with_remainder channel) f = f
next-formed e (selection channel) f = f
next-formed e (rpn_reception channel) f = f
next-formed e (nrpn_reception channel) f = f

pub after-formed : (e : End) (calls : List Call) → EndFormed e → EndFormed (after e calls)
unfolding after
after-formed e [] f = f
after-formed e (c ∷ calls) f = after-formed (next e c) calls (next-formed e c f)

pub always-formed : AlwaysFormed
always-formed calls = after-formed new_end calls new-end-formed
