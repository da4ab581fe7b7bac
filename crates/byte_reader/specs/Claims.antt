-- What each of the 256 bytes does to a reader, line by line (document 01, "A byte arrives", with F4 and F5 as document 02, 2026-06, has them).
use Rattle.std.specs.Prelude.{ℕ, ◌/◌, ◌<◌, ◌≤◌, true, false, ◌≡◌, ◌⊎◌}
use Rattle.ump.specs.Word.{one_data}
use Rattle.byte_reader.specs.declared.Reader.{Reader}
use Rattle.byte_reader.specs.declared.Read.TheVariants.{Quiet, Dropped, RealTime, Message}
use Rattle.byte_reader.specs.declared.ReadStep.{ReadStep}
use Rattle.byte_reader.specs.Reader.{reader_at, new_reader, reading, message_word}

-- F8, FA, FB, FC, FE, FF
abbrev pub IsRealTime : ℕ → Type 0
IsRealTime b = (b ≡ 0xF8) ⊎ (((0xFA ≤ b) × (b ≤ 0xFC)) ⊎ ((0xFE ≤ b) × (b ≤ 0xFF)))

-- F9, FD
abbrev pub IsUndefined : ℕ → Type 0
IsUndefined b = (b ≡ 0xF9) ⊎ (b ≡ 0xFD)

-- 00 to 7F, F0 to FF: any byte but a status byte
abbrev pub IsNoStatus : ℕ → Type 0
IsNoStatus b = (b ≤ 0x7F) ⊎ ((0xF0 ≤ b) × (b ≤ 0xFF))

-- the reader r and the byte b give x
pub record EachByte (r : Reader) (b : ℕ) (x : ReadStep) : Type 0 where
  -- 80–EF: quiet; it becomes the running status, and a begun message is forgotten
  pub status : 0x80 ≤ b → b ≤ 0xEF → x ≡ reading (reader_at b 0x80) Quiet
  -- F8, FA, FB, FC, FE, FF: real-time; the reader does not change, not even for FF
  pub real_time : IsRealTime b → x ≡ reading r (RealTime b)
  -- F9, FD: dropped; the reader does not change
  pub undefined : IsUndefined b → x ≡ reading r Dropped
  -- F0–F7: dropped; running status and begun message are forgotten
  pub common : 0xF0 ≤ b → b ≤ 0xF7 → x ≡ reading new_reader Dropped
  -- 00–7F: dropped if there is no running status
  pub no_status : b ≤ 0x7F → r.status < 0x80 → x ≡ reading r Dropped
  -- under opcodes C and D it completes the message; running status stays
  pub one_data_byte : b ≤ 0x7F → 0x80 ≤ r.status → one_data (r.status / 16) ≡ true → x ≡ reading r (Message (message_word r.status b 0))
  -- under the others it is stored, or completes the message; running status stays
  pub first_data_byte : b ≤ 0x7F → 0x80 ≤ r.status → one_data (r.status / 16) ≡ false → 0x80 ≤ r.first → x ≡ reading (reader_at r.status b) Quiet
  pub second_data_byte : b ≤ 0x7F → 0x80 ≤ r.status → one_data (r.status / 16) ≡ false → r.first < 0x80
      → x ≡ reading (reader_at r.status 0x80) (Message (message_word r.status r.first b))
  -- every byte is in one of the lines
  pub listed : b ≤ 0xFF → (b ≤ 0x7F) ⊎ (((0x80 ≤ b) × (b ≤ 0xEF)) ⊎ (((0xF0 ≤ b) × (b ≤ 0xF7)) ⊎ (IsUndefined b ⊎ IsRealTime b)))
