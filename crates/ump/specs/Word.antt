-- The word of a MIDI 1.0 channel voice message (M2-104 7.3, Table 28; document 01, "A byte arrives").
use Rattle.std.specs.Prelude.{ℕ, ◌+◌, ◌*◌, ◌/◌, ◌%◌, ◌^◌, Bool, true, ◌&&◌, ◌||◌, ltb, leb, eqb}
use Rattle.ump.specs.Choice.{when◌then◌else◌}
use Rattle.ump.specs.Outcome.{Outcome, given, out_of_range}
use Rattle.ump.specs.Field.{field}

-- the parts of a word
abbrev pub opcode_of : ℕ → ℕ
opcode_of w = field 20 4 w

abbrev pub channel_of : ℕ → ℕ
channel_of w = field 16 4 w

abbrev pub first_of : ℕ → ℕ
first_of w = field 8 7 w

abbrev pub second_of : ℕ → ℕ
second_of w = field 0 7 w

-- Pitch Bend's 14 bits: the second data byte is the upper half (Figure 44)
abbrev pub bend_of : ℕ → ℕ
bend_of w = second_of w * 2 ^ 7 + first_of w

-- Program Change and Channel Pressure have one data byte
abbrev pub one_data : ℕ → Bool
one_data opcode = eqb opcode 0xC || eqb opcode 0xD

-- by message type, the bit above each data byte, opcode and second data byte
unfoldable pub form_of : ℕ → ℕ → ℕ → ℕ → ℕ → Bool
form_of type above-first above-second opcode second =
    eqb type 2 && (eqb above-first 0 && (eqb above-second 0 && (leb 0x8 opcode && (leb opcode 0xE &&
    (when one_data opcode then eqb second 0 else true)))))

-- type 2, any group, opcode 8 to E; the bits above the data bytes 0, and no second data byte where there is one only
unfoldable pub word_form : ℕ → Bool
word_form w = form_of (field 28 4 w) (field 15 1 w) (field 7 1 w) (opcode_of w) (second_of w)

-- the word of these parts
abbrev pub word_of : ℕ → ℕ → ℕ → ℕ → ℕ → ℕ
word_of group opcode channel a b =
    2 * 2 ^ 28 + (group * 2 ^ 24 + (opcode * 2 ^ 20 + (channel * 2 ^ 16 + (a * 2 ^ 8 + b))))

-- a message of two 7-bit data bytes, of one, and of one 14-bit value
unfoldable pub two_data_word : ℕ → ℕ → ℕ → ℕ → ℕ → Outcome ℕ
two_data_word opcode group channel a b =
    when ltb 0x7F a then out_of_range else when ltb 0x7F b then out_of_range else given (word_of group opcode channel a b)

unfoldable pub one_data_word : ℕ → ℕ → ℕ → ℕ → Outcome ℕ
one_data_word opcode group channel a =
    when ltb 0x7F a then out_of_range else given (word_of group opcode channel a 0)

unfoldable pub bend_word : ℕ → ℕ → ℕ → Outcome ℕ
bend_word group channel value =
    when ltb 0x3FFF value then out_of_range else given (word_of group 0xE channel (value % 2 ^ 7) (value / 2 ^ 7))

-- a Control Change of group 0; the channel is taken modulo 16
abbrev pub control_change : ℕ → ℕ → ℕ → Outcome ℕ
control_change channel controller value = two_data_word 0xB 0 (channel % 16) controller value
