-- Which sensitivities may be sent, and what their messages do where they are received (document 02, 2026-01; document 01, "The message reaches its
-- channel's parameters").
use Rattle.std.specs.Prelude.{ℕ, ◌+◌, ◌*◌, ◌^◌, ◌≤◌, Bool, true, ◌≡◌, List, [], ◌∷◌, map, replicate, Option, Some, None}
use Rattle.ump.specs.Outcome.{Outcome, given}
use Rattle.ump.specs.Packet.{packet_value}
use Rattle.ump.specs.Word.{channel_of}
use Rattle.ump.specs.declared.controller.Rpn.TheVariants.{PitchBendSensitivity}
use Rattle.parameter_event.specs.declared.Parameter.TheVariants.{Registered}
use Rattle.parameter_event.specs.declared.ParameterChange.TheVariants.{DataEntryMsb, DataEntryLsb}
use Rattle.parameter_event.specs.declared.ParameterEvent.{ParameterEvent}
use Rattle.parameter_event.specs.Apply.{applied}
use Rattle.parameters.specs.declared.ParameterState.{ParameterState}
use Rattle.parameters.specs.State.{update_by_word}
use Rattle.mpe_pitch.specs.declared.MpeSensitivity.{MpeSensitivity}

-- a sensitivity may be sent exactly where its semitones are at most 96 (M1-100 2.2.5) and its cents at most 99
abbrev pub AllowedWithin : MpeSensitivity → Bool → Type 0
AllowedWithin s answer =
    (answer ≡ true → (s.semitones ≤ 96) × (s.cents ≤ 99)) × (s.semitones ≤ 96 → s.cents ≤ 99 → answer ≡ true)

-- the events that the parameters of a channel give for messages, in turn
abbrev pub with_event : Option ParameterEvent → List ParameterEvent → List ParameterEvent
with_event None later = later
with_event (Some e) later = e ∷ later

unfoldable pub events_from : ParameterState → List ℕ → List ParameterEvent
events_from p [] = []
events_from p (w ∷ ws) = with_event (update_by_word p w).event (events_from (update_by_word p w).state ws)

-- a 14-bit value after events
unfoldable pub value_after : List ParameterEvent → ℕ → ℕ
value_after [] v = v
value_after (e ∷ later) v = value_after later (applied e v)

-- four messages on the channel. Where RPN reception is on, and whatever was selected, they give two events of RPN 0, the semitones and then the cents;
-- and these leave both, whatever the value was.
pub record SensitivityEntered (channel semitones cents : ℕ) (words : List ℕ) : Type 0 where
  pub on_channel : map channel_of words ≡ replicate 4 (packet_value channel)
  pub as_events : (p : ParameterState) → p.rpn_on ≡ true
      → events_from p words
      ≡ record { parameter = Registered PitchBendSensitivity; change = DataEntryMsb semitones }
      ∷ record { parameter = Registered PitchBendSensitivity; change = DataEntryLsb cents }
      ∷ []
  pub value_as : (p : ParameterState) (v : ℕ) → p.rpn_on ≡ true → value_after (events_from p words) v ≡ semitones * 2 ^ 7 + cents

-- so of the words that are answered
abbrev pub SentEntered : Outcome (List ℕ) → ℕ → ℕ → ℕ → Type 0
SentEntered o channel semitones cents = (words : List ℕ) → o ≡ given words → SensitivityEntered channel semitones cents words
