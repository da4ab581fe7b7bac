-- The byte reader (MIDI 1.0, "Running Status" and Table I; document 01, "A byte arrives"; document 02, 2026-06).
use Rattle.std.specs.Prelude.{ℕ, ◌/◌, ◌%◌, ◌<◌, ◌≤◌, true, ◌≡◌, List, [], ◌∷◌, ◌⊎◌, ltb, eqb}
use Rattle.ump.specs.Choice.{when◌then◌else◌}
use Rattle.ump.specs.Field.{field}
use Rattle.ump.specs.Word.{word_form, word_of}
use Rattle.byte_reader.specs.declared.ByteClass.{ByteClass}
use Rattle.byte_reader.specs.declared.ByteClass.TheVariants as class
use Rattle.byte_reader.specs.declared.Reader.{Reader}
use Rattle.byte_reader.specs.declared.Read.{Read}
use Rattle.byte_reader.specs.declared.Read.TheVariants.{Quiet, Dropped, RealTime, Message}
use Rattle.byte_reader.specs.declared.ReadStep.{ReadStep}

abbrev pub reader_at : ℕ → ℕ → Reader
reader_at status first = record { status = status; first = first }

-- no running status (0), no begun message (0x80)
abbrev pub new_reader : Reader
new_reader = reader_at 0 0x80

abbrev pub reading : Reader → Read → ReadStep
reading r x = record { reader = r; read = x }

-- the classes of bytes, with F4 and F5 among F0 to F7 (document 02, 2026-06)
unfoldable pub class_of_byte : ℕ → ByteClass
class_of_byte b =
    when ltb b 0x80 then class.Data else
    when ltb b 0xF0 then class.Status else
    when ltb b 0xF8 then class.Common else
    when eqb b 0xF9 then class.Undefined else
    when eqb b 0xFD then class.Undefined else
    class.RealTime

-- the word of a status byte and its data bytes: opcode and channel are the status byte's halves, and the group is 0
abbrev pub message_word : ℕ → ℕ → ℕ → ℕ
message_word status first second = word_of 0 (status / 16) (status % 16) first second

-- a data byte of a message with two: it completes the message, or begins it; running status stays
abbrev pub second_data : ℕ → ℕ → ℕ → ReadStep
second_data status first b =
    when ltb first 0x80 then reading (reader_at status 0x80) (Message (message_word status first b)) else
    reading (reader_at status b) Quiet

-- opcodes C and D take one data byte, the others two; without a running status a data byte is dropped
unfoldable pub data_step : ℕ → ℕ → ℕ → ReadStep
data_step status first b =
    when ltb status 0x80 then reading (reader_at status first) Dropped else
    when ltb status 0xC0 then second_data status first b else
    when ltb status 0xE0 then reading (reader_at status first) (Message (message_word status b 0)) else
    second_data status first b

abbrev pub class_step : Reader → ByteClass → ℕ → ReadStep
class_step r class.Data b = data_step r.status r.first b
-- it becomes the running status, and a begun message is forgotten
class_step r class.Status b = reading (reader_at b 0x80) Quiet
-- running status and begun message are forgotten
class_step r class.Common b = reading new_reader Dropped
class_step r class.Undefined b = reading r Dropped
class_step r class.RealTime b = reading r (RealTime b)

abbrev pub read_step : Reader → ℕ → ReadStep
read_step r b = class_step r (class_of_byte b) b

-- the reader after bytes
unfoldable pub read_all : Reader → List ℕ → Reader
read_all r [] = r
read_all r (b ∷ bs) = read_all (read_step r b).reader bs

-- a running status from 80 to EF or none, and a first data byte or none
pub record Sound (r : Reader) : Type 0 where
  pub status_sound : (r.status ≡ 0) ⊎ ((0x80 ≤ r.status) × (r.status < 0xF0))
  pub first_sound : r.first ≤ 0x80

-- every word that a new reader makes, whatever bytes it got before, has the form of a message and group 0
abbrev pub WordsFormed : Reader → Type 0
WordsFormed new =
    (l : List ℕ) (b w : ℕ) → (read_step (read_all new l) b).read ≡ Message w → (word_form w ≡ true) × (field 24 4 w ≡ 0)
