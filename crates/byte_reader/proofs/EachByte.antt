-- What each byte does to a reader, line by line.
-- Assumes nothing.
use Rattle.std.proofs.Common.{◌≡◌, ℕ, ◌<◌, ◌≤◌, ◌⊎◌, arith}
use Rattle.std.proofs.lemmas.Grind.{common_steps}
use Rattle.std.proofs.lemmas.Bool.Decides.{nat_tests}
use Rattle.byte_reader.specs.declared.ByteClass.TheVariants as class
use Rattle.byte_reader.specs.declared.Reader.{Reader}
use Rattle.byte_reader.specs.declared.Read.TheVariants.{Quiet, Dropped, Message}
use Rattle.byte_reader.specs.Reader.{reader_at, new_reader, reading, class_of_byte, message_word, second_data, data_step, read_step}
use Rattle.byte_reader.specs.Claims.{IsNoStatus, IsUndefined, IsRealTime, EachByte}

-- a status byte
pub begins : (r : Reader) (s : ℕ) → 0x80 ≤ s → s < 0xF0 → read_step r s ≡ reading (reader_at s 0x80) Quiet
unfolding class_of_byte
begins r s h g = grind (arith, common_steps, nat_tests)

-- a data byte, and only that has its class
pub data-below : (b : ℕ) → class_of_byte b ≡ class.Data → b < 0x80
unfolding class_of_byte
data-below b e = grind (arith, common_steps, nat_tests)

pub data-read : (s f d : ℕ) → d < 0x80 → read_step (reader_at s f) d ≡ data_step s f d
unfolding class_of_byte
data-read s f d h = grind (arith, common_steps, nat_tests)

-- a data byte under a running status: of a message with two, and with one
pub of_two : (s f d : ℕ) → (s < 0xC0) ⊎ (0xE0 ≤ s) → 0x80 ≤ s → d < 0x80 → read_step (reader_at s f) d ≡ second_data s f d
unfolding class_of_byte data_step
of_two s f d two h hd = grind (arith, common_steps, nat_tests)

pub of_one : (s f d : ℕ) → 0xC0 ≤ s → s < 0xE0 → d < 0x80 → read_step (reader_at s f) d ≡ reading (reader_at s f) (Message (message_word s d 0))
unfolding class_of_byte data_step
of_one s f d h g hd = grind (arith, common_steps, nat_tests)

-- a new reader stays as it is until a status byte
pub new-left : (b : ℕ) → IsNoStatus b → (read_step new_reader b).reader ≡ new_reader
unfolding class_of_byte data_step
new-left b n = grind (arith, common_steps, nat_tests)

-- F0 to F7, F9 and FD, and that every byte is in one of the lines
pub by-common : (r : Reader) (b : ℕ) → 0xF0 ≤ b → b ≤ 0xF7 → read_step r b ≡ reading new_reader Dropped
unfolding class_of_byte
by-common r b h g = grind (arith, common_steps, nat_tests)

pub by-undefined : (r : Reader) (b : ℕ) → IsUndefined b → read_step r b ≡ reading r Dropped
unfolding class_of_byte
by-undefined r b h = grind (arith, common_steps, nat_tests)

pub each-listed : (b : ℕ) → b ≤ 0xFF → (b ≤ 0x7F) ⊎ (((0x80 ≤ b) × (b ≤ 0xEF)) ⊎ (((0xF0 ≤ b) × (b ≤ 0xF7)) ⊎ (IsUndefined b ⊎ IsRealTime b)))
each-listed b h = grind (arith, common_steps, nat_tests)

pub each_byte : (r : Reader) (b : ℕ) → EachByte r b (read_step r b)
unfolding class_of_byte data_step
each_byte r b =
    record {
      status = λ h g. grind (arith, common_steps, nat_tests);
      real_time = λ h. grind (arith, common_steps, nat_tests);
      undefined = by-undefined r b;
      common = by-common r b;
      no_status = λ h n. grind (arith, common_steps, nat_tests);
      one_data_byte = λ h running t. grind (arith, common_steps, nat_tests);
      first_data_byte = λ h running t none. grind (arith, common_steps, nat_tests);
      second_data_byte = λ h running t begun. grind (arith, common_steps, nat_tests);
      listed = each-listed b;
    }
