-- From a new reader on, its state is sound, and every word that it makes has the form of a message and group 0.
-- Assumes nothing.
use Rattle.std.proofs.Common.{◌≡◌, ℕ, ◌/◌, ◌%◌, ◌<◌, ◌≤◌, List, [], ◌∷◌, true, refl, inl, arith}
use Rattle.std.proofs.lemmas.Grind.{common_steps}
use Rattle.std.proofs.lemmas.Bool.Decides.{nat_tests}
use Rattle.ump.specs.Field.{field}
use Rattle.ump.specs.Word.{one_data, word_form}
use Rattle.ump.proofs.Cases.{by-test}
use Rattle.ump.proofs.Words.{PartsFit, group-of-word, form-of-word}
use Rattle.byte_reader.specs.declared.Reader.{Reader}
use Rattle.byte_reader.specs.declared.Read.TheVariants.{Message}
use Rattle.byte_reader.specs.declared.ReadStep.{ReadStep}
use Rattle.byte_reader.specs.Reader.{new_reader, class_of_byte, message_word, data_step, read_step, read_all, Sound, WordsFormed}

-- a word of a running status s and data bytes; opcodes C and D have one
pub record WordRead (s w : ℕ) : Type 0 where
  pub first : ℕ
  pub second : ℕ
  pub is : w ≡ message_word s first second
  pub running : 0x80 ≤ s
  pub first-lt : first < 0x80
  pub second-lt : second < 0x80
  pub one : one_data (s / 16) ≡ true → second ≡ 0

pub word-read : (r : Reader) (b w : ℕ) → (read_step r b).read ≡ Message w → WordRead r.status w
unfolding class_of_byte data_step
word-read r b w e =
    by-test (one_data (r.status / 16))
    (λ t.
    record {
      first = b;
      second = 0;
      is = grind (arith, common_steps, nat_tests);
      running = grind (arith, common_steps, nat_tests);
      first-lt = grind (arith, common_steps, nat_tests);
      second-lt = omega arith;
      one = λ o. refl;
    })
    (λ t.
    record {
      first = r.first;
      second = b;
      is = grind (arith, common_steps, nat_tests);
      running = grind (arith, common_steps, nat_tests);
      first-lt = grind (arith, common_steps, nat_tests);
      second-lt = grind (arith, common_steps, nat_tests);
      one = λ o. grind (arith, common_steps, nat_tests);
    })

pub new-sound : Sound new_reader
new-sound = record { status_sound = inl refl; first_sound = omega arith }

step-sound : (r : Reader) (b : ℕ) → Sound r → Sound (read_step r b).reader
unfolding class_of_byte data_step
step-sound r b s =
    record {
      status_sound = grind (arith, common_steps, nat_tests, s.status_sound);
      first_sound = grind (arith, common_steps, nat_tests, s.first_sound);
    }

pub sound-after : (r : Reader) (l : List ℕ) → Sound r → Sound (read_all r l)
unfolding read_all
sound-after r [] s = s
sound-after r (b ∷ l) s = sound-after (read_step r b).reader l (step-sound r b s)

-- what holds of a step: the reader is sound, and a word that is made has its form
pub record Fine (x : ReadStep) : Type 0 where
  pub sound : Sound x.reader
  pub formed : (w : ℕ) → x.read ≡ Message w → (word_form w ≡ true) × (field 24 4 w ≡ 0)

pub step-fine : (r : Reader) (b : ℕ) → Sound r → Fine (read_step r b)
step-fine r b s =
    record {
      sound = step-sound r b s;
      formed = λ w e.
          let p = word-read r b w e in
          let below : r.status < 0xF0 = grind (arith, p.running, s.status_sound) in
          let running = p.running in
          let first = p.first-lt in
          let second = p.second-lt in
          let fit : PartsFit 0 (r.status / 16) (r.status % 16) p.first p.second =
          record { group-lt = omega arith; opcode-lt = omega arith; channel-lt = omega arith; first-lt = first; second_lt = second } in
          rw p.is (
            form-of-word 0 (r.status / 16) (r.status % 16) p.first p.second fit (omega arith) (omega arith) p.one,
            group-of-word 0 (r.status / 16) (r.status % 16) p.first p.second fit,
          );
    }

pub words-formed : WordsFormed new_reader
words-formed l b = (step-fine (read_all new_reader l) b (sound-after new_reader l new-sound)).formed
