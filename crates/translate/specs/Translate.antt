-- From MIDI 1.0 to MIDI 2.0 channel voice messages (M2-104 D.3; M2-115; document 02, 2026-02).
use Rattle.std.specs.Prelude.{ℕ, ◌+◌, ◌*◌, ◌^◌, List, [], ◌∷◌, ltb, eqb, set, Option, Some, None, Result, Ok, Err}
use Rattle.ump.specs.Choice.{when◌then◌else◌}
use Rattle.ump.specs.Outcome.{Outcome, given, out_of_range}
use Rattle.ump.specs.Field.{field}
use Rattle.ump.specs.Packet.{packet_value}
use Rattle.ump.specs.Word.{opcode_of, channel_of, first_of, second_of, word_form}
use Rattle.scale.specs.Scale.{widened, zero_extended}
use Rattle.translate_state.specs.declared.ChannelState.{ChannelState}
use Rattle.translate_state.specs.declared.Midi1ToMidi2Group.{Midi1ToMidi2Group}
use Rattle.ump.specs.declared.reply.OutOfRange.{OutOfRange}
use Rattle.translate.specs.declared.Opcode.{Opcode}
use Rattle.translate.specs.declared.Opcode.TheVariants.{RegisteredController, AssignableController, NoteOff, NoteOn, PolyPressure, ControlChange, ProgramChange, ChannelPressure, PitchBend}
use Rattle.translate.specs.declared.Stepped.{Stepped}
use Rattle.translate_state.specs.State.{held, value_in, kind_in, pending_in, null_after_in, state_on, record_allowed, pending_sent, number_selected, mcm_selected, entry_held, completed, controllers_reset, bank_msb_held, bank_lsb_held, bank_sent}

-- the words of a message, none where it has no words
abbrev pub words_given : Option (List ℕ) → List ℕ
words_given (Some words) = words
words_given None = []

-- what a call answers, by the papers' numbers: two words, no words, or out of range
abbrev pub translation_read : Result (Option (List ℕ)) OutOfRange → Outcome (List ℕ)
translation_read (Ok words) = given (words_given words)
translation_read (Err e) = out_of_range

-- the number of an opcode (M2-104 7.4)
abbrev pub opcode_number : Opcode → ℕ
opcode_number RegisteredController = 0x2
opcode_number AssignableController = 0x3
opcode_number NoteOff = 0x8
opcode_number NoteOn = 0x9
opcode_number PolyPressure = 0xA
opcode_number ControlChange = 0xB
opcode_number ProgramChange = 0xC
opcode_number ChannelPressure = 0xD
opcode_number PitchBend = 0xE

-- two words
abbrev pub word_pair : ℕ → ℕ → Option (List ℕ)
word_pair a b = Some (a ∷ b ∷ [])

-- the first word of a MIDI 2.0 channel voice message (M2-104 7.4): type 4, group, opcode, channel and two bytes
abbrev pub first_word : ℕ → ℕ → ℕ → ℕ → ℕ → ℕ
first_word group opcode channel a b =
    4 * 2 ^ 28 + (group * 2 ^ 24 + (opcode * 2 ^ 20 + (channel * 2 ^ 16 + (a * 2 ^ 8 + b))))

-- the data of a controller: index 0 to 31 of a registered one is zero extended, all else widened (M2-115 3.1, 4.1)
abbrev pub controller_data : ℕ → ℕ → ℕ → ℕ
controller_data opcode index value =
    when eqb opcode 0x2 then (when ltb index 32 then zero_extended 14 32 value else widened 14 32 value) else widened 14 32 value

-- a Registered (opcode 2) or Assignable (opcode 3) Controller with a held number, as bank and index: nothing where a half is missing, or for the null
-- number (D.3.3)
unfoldable pub controller_numbered : ℕ → ℕ → ℕ → ℕ → ℕ → ℕ → Option (List ℕ)
controller_numbered g c opcode m l value =
    when eqb m 0 then None else when eqb l 0 then None else
    when eqb m (held 0x7F) then
    (when eqb l (held 0x7F) then None else word_pair (first_word g opcode c (value_in m) (value_in l)) (controller_data opcode (value_in l) value))
    else word_pair (first_word g opcode c (value_in m) (value_in l)) (controller_data opcode (value_in l) value)

-- the selected controller with a value of 14 bits
unfoldable pub controller : ℕ → ℕ → ChannelState → ℕ → Option (List ℕ)
controller g c s value =
    when eqb (kind_in s.flags) 1 then controller_numbered g c 0x2 s.rpn_msb s.rpn_lsb value else
    when eqb (kind_in s.flags) 2 then controller_numbered g c 0x3 s.nrpn_msb s.nrpn_lsb value else
    None

-- a value of 14 bits
abbrev pub joined_value : ℕ → ℕ → ℕ
joined_value msb lsb = msb * 2 ^ 7 + lsb

-- the pending entry, with LSB 0
unfoldable pub pending_words : ℕ → ℕ → ChannelState → Option (List ℕ)
pending_words g c s =
    when pending_in s.flags then
    (when eqb s.data_msb 0 then None else controller g c s (joined_value (value_in s.data_msb) 0))
    else None

abbrev pub channel_step : ChannelState → Option (List ℕ) → Stepped
channel_step s t = record { state = s; reply = t }

-- 6: what is pending is sent and the value is held, pending. Where nothing was sent and RPN 0/6 is selected, which has no LSB, it is sent at once.
unfoldable pub entered_after : Option (List ℕ) → ℕ → ℕ → ChannelState → Stepped
entered_after (Some words) g c s = channel_step s (Some words)
entered_after None g c s = when mcm_selected s then channel_step (pending_sent s) (pending_words g c s) else channel_step s None

abbrev pub msb_entered : ℕ → ℕ → ChannelState → ℕ → Stepped
msb_entered g c s v = entered_after (pending_words g c s) g c (entry_held (pending_sent s) v)

-- 38: the held value is sent with this LSB; where a reset was noted it is ignored, and what is pending is sent (RP-015)
unfoldable pub lsb_entered : ℕ → ℕ → ChannelState → ℕ → Stepped
lsb_entered g c s v =
    when null_after_in s.flags then channel_step (pending_sent s) (pending_words g c s) else
    when eqb s.data_msb 0 then channel_step s None else
    channel_step (completed s) (controller g c s (joined_value (value_in s.data_msb) v))

-- a message that passes on, its value of 7 bits widened to 32
abbrev pub passed_on : ℕ → ℕ → ℕ → ℕ → ℕ → Option (List ℕ)
passed_on g c opcode index value = word_pair (first_word g opcode c index 0) (widened 7 32 value)

-- a control change (D.3.3, D.3.4); 98 to 101 end the last parameter, so that what is pending is sent before the number is stored
unfoldable pub control_changed : ℕ → ℕ → ChannelState → ℕ → ℕ → Stepped
control_changed g c s n v =
    when eqb n 0 then channel_step (bank_msb_held s v) None else
    when eqb n 6 then msb_entered g c s v else
    when eqb n 32 then channel_step (bank_lsb_held s v) None else
    when eqb n 38 then lsb_entered g c s v else
    when eqb n 121 then channel_step (controllers_reset s) (passed_on g c 0xB n v) else
    when ltb n 98 then channel_step s (passed_on g c 0xB n v) else
    when ltb 101 n then channel_step s (passed_on g c 0xB n v) else
    channel_step (number_selected (pending_sent s) n v) (pending_words g c s)

-- a program change carries the held bank, with Bank Valid, and the bank is held no longer (D.3.4)
abbrev pub bank_words : ℕ → ℕ → ChannelState → ℕ → Option (List ℕ)
bank_words g c s program =
    word_pair (first_word g 0xC c 0 1) (program * 2 ^ 24 + (value_in s.bank_msb * 2 ^ 8 + value_in s.bank_lsb))

unfoldable pub program_words : ℕ → ℕ → ChannelState → ℕ → Option (List ℕ)
program_words g c s program =
    when eqb s.bank_msb 0 then
    (when eqb s.bank_lsb 0 then word_pair (first_word g 0xC c 0 0) (program * 2 ^ 24) else bank_words g c s program)
    else bank_words g c s program

-- a note with a velocity of 16 bits (D.3.1, D.3.2)
abbrev pub note_words : ℕ → ℕ → ℕ → ℕ → ℕ → Option (List ℕ)
note_words g c opcode note velocity = word_pair (first_word g opcode c note 0) (velocity * 2 ^ 16)

-- a message of group g and channel c, by its opcode and data bytes; Note On with velocity 0 is Note Off with velocity 0x8000 (D.3.1)
unfoldable pub message_translated : ℕ → ℕ → ChannelState → ℕ → ℕ → ℕ → Stepped
message_translated g c s opcode a b =
    when eqb opcode 0x8 then channel_step s (note_words g c 0x8 a (widened 7 16 b)) else
    when eqb opcode 0x9 then
    (when eqb b 0 then channel_step s (note_words g c 0x8 a 0x8000) else channel_step s (note_words g c 0x9 a (widened 7 16 b))) else
    when eqb opcode 0xA then channel_step s (passed_on g c 0xA a b) else
    when eqb opcode 0xB then control_changed g c s a b else
    when eqb opcode 0xC then channel_step (bank_sent s) (program_words g c s a) else
    when eqb opcode 0xD then channel_step s (passed_on g c 0xD 0 a) else
    channel_step s (word_pair (first_word g 0xE c 0 0) (widened 14 32 (joined_value b a)))

-- the record with another state of a channel
abbrev pub with_state : Midi1ToMidi2Group → ℕ → ChannelState → Midi1ToMidi2Group
with_state r c s = record { state = set r.state c s }

-- a message on its own channel's state
abbrev pub word_step : Midi1ToMidi2Group → ℕ → Stepped
word_step r w =
    message_translated (field 24 4 w) (channel_of w) (state_on r (channel_of w)) (opcode_of w) (first_of w) (second_of w)

-- what `translate_words` answers and leaves: out of range for a record or a word that is not allowed, and then the record stays
abbrev pub translation_of : Midi1ToMidi2Group → ℕ → Outcome (List ℕ)
translation_of r w =
    when record_allowed r then (when word_form w then given (words_given (word_step r w).reply) else out_of_range) else out_of_range

abbrev pub record_after : Midi1ToMidi2Group → ℕ → Midi1ToMidi2Group
record_after r w =
    when record_allowed r then (when word_form w then with_state r (channel_of w) (word_step r w).state else r) else r

-- what `flush` answers and leaves: the pending entry of a channel, group and channel taken modulo 16
abbrev pub flush_reply : Midi1ToMidi2Group → ℕ → ℕ → Outcome (List ℕ)
flush_reply r g c =
    when record_allowed r then given (words_given (pending_words (packet_value g) (packet_value c) (state_on r (packet_value c)))) else out_of_range

abbrev pub flushed_record : Midi1ToMidi2Group → ℕ → ℕ → Midi1ToMidi2Group
flushed_record r g c =
    when record_allowed r then with_state r (packet_value c) (pending_sent (state_on r (packet_value c))) else r
