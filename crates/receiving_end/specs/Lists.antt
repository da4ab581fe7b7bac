-- Lists of calls on one end, and their answers (document 01, "Demand 3 in detail").
use Rattle.std.specs.Prelude.{ℕ, ◌≡◌, Bool, List, [], ◌∷◌, ℤ, Option}
use Rattle.ump.specs.Outcome.{Outcome}
use Rattle.ump.specs.Packet.{packet_value}
use Rattle.parameter_event.specs.declared.Parameter.{Parameter}
use Rattle.parameters.specs.State.{selection_of}
use Rattle.mpe_layout.specs.declared.MpeZone.{MpeZone}
use Rattle.mpe_layout.specs.declared.MpeLayout.{MpeLayout}
use Rattle.mpe_pitch.specs.declared.MpeSensitivity.{MpeSensitivity}
use Rattle.mpe_pitch.specs.declared.OffsetWithRemainder.{OffsetWithRemainder}
use Rattle.mpe_receiver.specs.Receive.{set_reply}
use Rattle.mpe_receiver.specs.Read.{mode_of, sensitivity_of, bend_at, pressure_at, brightness_at, offset_of, pair_of}
use Rattle.receiving_end.specs.declared.end.End.{End}
use Rattle.receiving_end.specs.declared.end.Reply.{Reply}
use Rattle.receiving_end.specs.End.{parameter_at, step_reply, step_end, laid_out_end, rpn_switched_at, nrpn_switched_at}

-- a call on the end, with its arguments
pub data Call : Type 0 where
  -- `step` and `byte`: the byte call, by value and lent
  byte_by_value byte_lent : ℕ → Call
  set_layout : MpeLayout → Call
  set_rpn_reception set_nrpn_reception : ℕ → Bool → Call
  layout : Call
  mode : MpeZone → Call
  sensitivity : MpeZone → Bool → Call
  pitch_bend pressure brightness pitch_offset pitch_offset_with_remainder : ℕ → Call
  selection rpn_reception nrpn_reception : ℕ → Call

-- what a call answers
pub data Answer : Type 0 where
  replied : Reply → Answer
  masked : Outcome ℕ → Answer
  done : Answer
  laid_out : MpeLayout → Answer
  counted : ℕ → Answer
  ranged : MpeSensitivity → Answer
  offset : Outcome ℤ → Answer
  paired : Outcome OffsetWithRemainder → Answer
  selected : Option Parameter → Answer
  switched : Bool → Answer

-- the answer of a call; the contract of each call says that it gives this one
abbrev pub answer : End → Call → Answer
answer e (byte_by_value b) = replied (step_reply e b)
answer e (byte_lent b) = replied (step_reply e b)
answer e (set_layout l) = masked (set_reply e.receiver l)
answer e (set_rpn_reception channel on) = done
answer e (set_nrpn_reception channel on) = done
answer e layout = laid_out e.receiver.layout
answer e (mode zone) = counted (mode_of e.receiver zone)
answer e (sensitivity zone manager) = ranged (sensitivity_of e.receiver zone manager)
answer e (pitch_bend channel) = counted (bend_at e.receiver channel)
answer e (pressure channel) = counted (pressure_at e.receiver channel)
answer e (brightness channel) = counted (brightness_at e.receiver channel)
answer e (pitch_offset channel) = offset (offset_of e.receiver channel)
answer e (pitch_offset_with_remainder channel) = paired (pair_of e.receiver channel)
answer e (selection channel) = selected (selection_of (parameter_at e (packet_value channel)))
answer e (rpn_reception channel) = switched (parameter_at e (packet_value channel)).rpn_on
answer e (nrpn_reception channel) = switched (parameter_at e (packet_value channel)).nrpn_on

-- the end that a call returns or leaves, by its contract too; readings leave it as it is
abbrev pub next : End → Call → End
next e (byte_by_value b) = step_end e b
next e (byte_lent b) = step_end e b
next e (set_layout l) = laid_out_end e l
next e (set_rpn_reception channel on) = rpn_switched_at e channel on
next e (set_nrpn_reception channel on) = nrpn_switched_at e channel on
next e layout = e
next e (mode zone) = e
next e (sensitivity zone manager) = e
next e (pitch_bend channel) = e
next e (pressure channel) = e
next e (brightness channel) = e
next e (pitch_offset channel) = e
next e (pitch_offset_with_remainder channel) = e
next e (selection channel) = e
next e (rpn_reception channel) = e
next e (nrpn_reception channel) = e

-- the call c on the end e gives the answer a, and the end after it is n
abbrev pub CallGives : End → Call → Answer → End → Type 0
CallGives e c a n = (a ≡ answer e c) × (n ≡ next e c)

-- the end after a list of calls, each made on the end that the last one left
unfoldable pub after : End → List Call → End
after e [] = e
after e (c ∷ cs) = after (next e c) cs

-- their answers, in order
unfoldable pub answers : End → List Call → List Answer
answers e [] = []
answers e (c ∷ cs) = answer e c ∷ answers (next e c) cs

-- the end after bytes
unfoldable pub after_bytes : End → List ℕ → End
after_bytes e [] = e
after_bytes e (b ∷ bs) = after_bytes (step_end e b) bs
