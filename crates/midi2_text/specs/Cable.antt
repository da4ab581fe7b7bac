-- A cable: the bytes go to its end, and each message that the end reads to the translator.
use Rattle.std.specs.Prelude.{ℕ, List, [], ◌∷◌, ◌++◌}
use Rattle.ump.specs.Outcome.{Outcome, given}
use Rattle.receiving_end.specs.declared.end.End.{End}
use Rattle.receiving_end.specs.declared.end.Reply.{Reply}
use Rattle.receiving_end.specs.declared.end.Reply.TheVariants.{Message}
use Rattle.receiving_end.specs.End.{new_end, step_reply, step_end}
use Rattle.translate_state.specs.declared.Midi1ToMidi2Group.{Midi1ToMidi2Group}
use Rattle.translate_state.specs.State.{new_record}
use Rattle.translate.specs.Translate.{translation_of, record_after, flush_reply, flushed_record}
use Rattle.translate.specs.Lists.{words_answered}
use Rattle.midi2_text.specs.declared.cable.Cable.{Cable}

abbrev pub cable_of : End → Midi1ToMidi2Group → Cable
cable_of e t = record { end = e; translator = t }

abbrev pub new_cable : Cable
new_cable = cable_of new_end new_record

-- the words for a byte's reply: those of its message, or none
abbrev pub reply_words : Midi1ToMidi2Group → Reply → Outcome (List ℕ)
reply_words t (Message w e) = translation_of t w
reply_words t _ = given []

-- the translator after it
abbrev pub reply_record : Midi1ToMidi2Group → Reply → Midi1ToMidi2Group
reply_record t (Message w e) = record_after t w
reply_record t _ = t

-- a byte's words, and the cable after it
abbrev pub heard_reply : Cable → ℕ → Outcome (List ℕ)
heard_reply c b = reply_words c.translator (step_reply c.end b)

abbrev pub heard_cable : Cable → ℕ → Cable
heard_cable c b = cable_of (step_end c.end b) (reply_record c.translator (step_reply c.end b))

-- the cable after the pending entry of a channel is sent
abbrev pub flushed_cable : Cable → ℕ → Cable
flushed_cable c channel = cable_of c.end (flushed_record c.translator 0 channel)

-- the cable after bytes
unfoldable pub cable_after : Cable → List ℕ → Cable
cable_after c [] = c
cable_after c (b ∷ bs) = cable_after (heard_cable c b) bs

-- the cable after the pending entries of channels are sent
unfoldable pub flushed_after : Cable → List ℕ → Cable
flushed_after c [] = c
flushed_after c (k ∷ ks) = flushed_after (flushed_cable c k) ks

-- the words of bytes, in order
unfoldable pub heard_words : Cable → List ℕ → List ℕ
heard_words c [] = []
heard_words c (b ∷ bs) = words_answered (heard_reply c b) ++ heard_words (heard_cable c b) bs

-- the messages that an end reads, in order
abbrev pub message_in : Reply → List ℕ
message_in (Message w e) = w ∷ []
message_in _ = []

unfoldable pub messages_read : End → List ℕ → List ℕ
messages_read e [] = []
messages_read e (b ∷ bs) = message_in (step_reply e b) ++ messages_read (step_end e b) bs

-- the words of the pending entries of channels, in order
unfoldable pub flushed_words : Cable → List ℕ → List ℕ
flushed_words c [] = []
flushed_words c (k ∷ ks) = words_answered (flush_reply c.translator 0 k) ++ flushed_words (flushed_cable c k) ks
