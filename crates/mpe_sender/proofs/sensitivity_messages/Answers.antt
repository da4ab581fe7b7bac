-- `mpe_sender::sensitivity_messages` meets its contract: refused, or the value messages of RPN 0; and what they leave where they are received.
use mathlib.Core.Path.{◌≡◌, sym, subst, ◌∙◌}
use mathlib.Core.Bool.{true}
use Rattle.ump.specs.Outcome.{given}
use Rattle.ump.specs.Packet.{packet_value}
use Rattle.mpe_pitch.specs.declared.MpeSensitivity.{MpeSensitivity}
use Rattle.mpe_sender.specs.Writers.{sensitivity_group, sensitivity_allowed, sensitivity_messages}
use Rattle.mpe_sender.specs.Claims.{SentEntered}
use Rattle.mpe_sender.proofs.Entered.{sent-entered, group-given}
use Rattle.mpe_sender.proofs.sensitivity_messages.Goals as goal

pub returns : goal.returns
returns c = let a = c.args in
    let s : MpeSensitivity = record { semitones = a.semitones; cents = a.cents } in
    let t : sensitivity_allowed s ≡ true = sym c.sensitivity_allowed.ensures.is ∙ c.if-not-sensitivity_allowed.false in
    let g : sensitivity_messages a.channel s ≡ given (sensitivity_group (packet_value a.channel) s) = rw t in
    let e = c.value_messages.ensures ∙ group-given a.channel s t ∙ sym g in
    record {
      words = e;
      entered = subst (λ o. SentEntered o a.channel a.semitones a.cents) (sym e) (sent-entered a.channel s);
    }
