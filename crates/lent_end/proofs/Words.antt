-- The words that a reader makes: each has the form of a message unless its opcode is F, which a running status from F0 up would give.
-- Assumes nothing.
use Prim.Native.Nat.{ℕ, ◌/◌, ◌%◌, ◌^◌, ◌<◌, ◌≤◌}
use mathlib.Core.Path.{◌≡◌}
use mathlib.Core.Bool.{true, false}
use native.Mathlib.Omega.{arith}
use lib.Dec.{eqb}
use borrow.Author.Tests.{eqb-true, eqb-false}
use Rattle.ump.specs.Choice.{when◌then◌else◌}
use Rattle.ump.specs.Word.{opcode_of, one_data, form_of, word_form}
use Rattle.ump.proofs.Cases.{by-test}
use Rattle.ump.proofs.Words.{PartsFit, type-of-word, opcode-of-word, bit-15-of-word, bit-7-of-word, form-of-word}
use Rattle.byte_reader.specs.declared.Reader.{Reader}
use Rattle.byte_reader.specs.declared.Read.{Read}
use Rattle.byte_reader.specs.declared.Read.TheVariants.{Message}
use Rattle.byte_reader.specs.Reader.{message_word, read_step}
use Rattle.byte_reader.proofs.Formed.{word-read}

-- a word of the form of a message, or with opcode F
abbrev pub Formed : ℕ → Type 0
Formed w = word_form w ≡ (when eqb (opcode_of w) 0xF then false else true)

-- what holds of a reading: its word is formed
abbrev pub Fine : Read → Type 0
Fine x = (w : ℕ) → x ≡ Message w → Formed w

-- the word of a running status and data bytes
module _ (s a b : ℕ) (h : 0x80 ≤ s) (g : s < 2 ^ 8) (ha : a < 0x80) (hb : b < 0x80) (z : one_data (s / 16) ≡ true → b ≡ 0) where
  fit : PartsFit 0 (s / 16) (s % 16) a b
  fit =
      record { group-lt = omega arith; opcode-lt = omega arith; channel-lt = omega arith; first-lt = omega arith; second_lt = omega arith }

  -- opcode F is that of no message
  f-unformed : s / 16 ≡ 0xF → word_form (message_word s a b) ≡ false
  unfolding word_form form_of
  f-unformed e =
      rw (
        type-of-word 0 (s / 16) (s % 16) a b fit,
        bit-15-of-word 0 (s / 16) (s % 16) a b fit,
        bit-7-of-word 0 (s / 16) (s % 16) a b fit,
        opcode-of-word 0 (s / 16) (s % 16) a b fit,
        e,
      )

  word-formed : Formed (message_word s a b)
  word-formed =
      rw (opcode-of-word 0 (s / 16) (s % 16) a b fit)
      (by-test (eqb (s / 16) 0xF)
      (λ t. rw t (f-unformed (eqb-true (s / 16) 0xF t)))
      (λ f.
      let n = eqb-false (s / 16) 0xF f in
      let l : s / 16 ≤ 0xE = omega arith in
      rw f (form-of-word 0 (s / 16) (s % 16) a b fit (omega arith) l z)))

-- the word that a byte completes, whatever the reader holds
pub read-fine : (r : Reader) (b : ℕ) → r.status < 2 ^ 8 → Fine (read_step r b).read
read-fine r b g w e =
    let p = word-read r b w e in
    rw p.is (word-formed r.status p.first p.second p.running g p.first-lt p.second-lt p.one)
