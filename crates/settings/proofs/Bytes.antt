-- The bytes of a message: its status byte and two data bytes, or one by its opcode; and the bytes of one list of messages after another's.
-- Assumes nothing.
use Prim.Native.Nat.{ℕ, zero, suc, ◌+◌, ◌*◌, ◌-◌, ◌/◌, ◌%◌, ◌^◌, ◌<◌, ◌≤◌}
use mathlib.Core.Path.{◌≡◌, refl, ap, ap₂, sym, ◌∙◌}
use mathlib.Core.Bool.{true, false}
use mathlib.Core.List.{List, [], ◌∷◌, ◌++◌, append_assoc, append-nil}
use native.Mathlib.Nat.{suc-mul}
use native.Mathlib.Numerals.{add-one}
use native.Mathlib.Omega.{arith}
use lib.ListN.{length, take, drop, get_or, length-append}
use lib.Seq.{take-suc, take-add}
use borrow.Author.Tests.{eq-eqb, ne_eqb}
use Rattle.ump.specs.Word.{one_data, opcode_of, word_of}
use Rattle.ump.proofs.Cases.{by-test}
use Rattle.ump.proofs.Words.{PartsFit, opcode-of-word, channel-of-word, first-of-word, second-of-word}
use Rattle.mpe_sender.specs.Writers.{control_word, rpn_group}
use Rattle.receiving_end.proofs.Parts.{status_of}
use Rattle.receiving_end.proofs.Numbers.{control}
use Rattle.settings.specs.Messages.{each_channel, bytes_of, bytes}

-- Program Change and Channel Pressure have one data byte, the others two
pub one-c : (o : ℕ) → o ≡ 0xC → one_data o ≡ true
one-c o e = rw (eq-eqb o 0xC e)

pub one-d : (o : ℕ) → (o ≡ 0xC → ⊥) → o ≡ 0xD → one_data o ≡ true
one-d o n e = rw (ne_eqb o 0xC n, eq-eqb o 0xD e)

pub two-data : (o : ℕ) → (o ≡ 0xC → ⊥) → (o ≡ 0xD → ⊥) → one_data o ≡ false
two-data o n m = rw (ne_eqb o 0xC n, ne_eqb o 0xD m)

pub length-one : (w : ℕ) → one_data (opcode_of w) ≡ true → length (bytes_of w) ≡ 2
length-one w e = rw e

pub length_two : (w : ℕ) → one_data (opcode_of w) ≡ false → length (bytes_of w) ≡ 3
length_two w e = rw e

pub length-least : (w : ℕ) → 2 ≤ length (bytes_of w)
length-least w = by-test (one_data (opcode_of w)) (λ e. omega (arith, length-one w e)) (λ e. omega (arith, length_two w e))

-- the bytes of a message with two data bytes, and with one
module _ (o k a b : ℕ) (fit : PartsFit 0 o k a b) where
  pub two_bytes : one_data o ≡ false → bytes_of (word_of 0 o k a b) ≡ status_of o k ∷ a ∷ b ∷ []
  two_bytes two =
      rw (opcode-of-word 0 o k a b fit, channel-of-word 0 o k a b fit, first-of-word 0 o k a b fit, second-of-word 0 o k a b fit, two)

  pub one_byte : one_data o ≡ true → bytes_of (word_of 0 o k a b) ≡ status_of o k ∷ a ∷ []
  one_byte one =
      rw (opcode-of-word 0 o k a b fit, channel-of-word 0 o k a b fit, first-of-word 0 o k a b fit, one)

pub control-bytes : (k a b : ℕ) → k < 16 → a < 0x80 → b < 0x80 → bytes_of (control_word k a b) ≡ control k a b
control-bytes k a b hk ha hb =
    two_bytes 0xB k a b
    (record { group-lt = omega arith; opcode-lt = omega arith; channel-lt = hk; first-lt = omega arith; second_lt = omega arith })
    refl

pub bend-bytes : (k v : ℕ) → k < 16 → v < 2 ^ 14 → bytes_of (word_of 0 0xE k (v % 2 ^ 7) (v / 2 ^ 7)) ≡ status_of 0xE k ∷ v % 2 ^ 7 ∷ v / 2 ^ 7 ∷ []
bend-bytes k v hk hv =
    two_bytes 0xE k (v % 2 ^ 7) (v / 2 ^ 7)
    (record { group-lt = omega arith; opcode-lt = omega arith; channel-lt = hk; first-lt = omega arith; second_lt = omega arith })
    refl

pub pressure-bytes : (k v : ℕ) → k < 16 → v < 0x80 → bytes_of (word_of 0 0xD k v 0) ≡ status_of 0xD k ∷ v ∷ []
pressure-bytes k v hk hv =
    one_byte 0xD k v 0
    (record { group-lt = omega arith; opcode-lt = omega arith; channel-lt = hk; first-lt = omega arith; second_lt = omega arith })
    refl

-- a control change alone
pub one-bytes : (k a b : ℕ) → k < 16 → a < 0x80 → b < 0x80 → bytes (control_word k a b ∷ []) ≡ control k a b
unfolding bytes
one-bytes k a b hk ha hb = rw (control-bytes k a b hk ha hb)

-- the three messages of a registered parameter's data entry
pub group-bytes : (k l v : ℕ) → k < 16 → l < 0x80 → v < 0x80 → bytes (rpn_group k 0 l v) ≡ control k 101 0 ++ control k 100 l ++ control k 6 v
unfolding bytes
group-bytes k l v hk hl hv =
    rw (
      control-bytes k 101 0 hk (omega arith) (omega arith),
      control-bytes k 100 l hk (omega arith) hl,
      control-bytes k 6 v hk (omega arith) hv,
    )

-- of one list and then another
pub bytes-append : (u v : List ℕ) → bytes (u ++ v) ≡ bytes u ++ bytes v
unfolding bytes
bytes-append [] v = refl
bytes-append (w ∷ u) v = ap (λ l. bytes_of w ++ l) (bytes-append u v) ∙ rw append_assoc

pub append-length : (u v : List ℕ) → length (bytes (u ++ v)) ≡ length (bytes u) + length (bytes v)
append-length u v = ap length (bytes-append u v) ∙ length-append (bytes u) (bytes v)

pub each-bytes : (f : ℕ → List ℕ) (m n : ℕ) → ((k : ℕ) → k < n → length (bytes (f k)) ≡ m) → length (bytes (each_channel f n)) ≡ n * m
unfolding each_channel bytes
each-bytes f m zero h = omega arith
each-bytes f m (suc n) h =
    append-length (each_channel f n) (f n)
    ∙ ap₂ (λ x y. x + y) (each-bytes f m n (λ k l. h k (omega arith))) (h n (omega arith))
    ∙ sym (suc-mul n m)

-- of the first k messages, and of one more
pub bytes-more : (ws : List ℕ) (k : ℕ) → k < length ws → bytes (take (k + 1) ws) ≡ bytes (take k ws) ++ bytes_of (get_or ws k 0)
unfolding bytes
bytes-more ws k h =
    rw (add-one, take-suc ws k 0 h, bytes-append (take k ws) (get_or ws k 0 ∷ []), append-nil)

pub bytes-within : (ws : List ℕ) (k n : ℕ) → k ≤ n → length (bytes (take k ws)) ≤ length (bytes (take n ws))
bytes-within ws k n h =
    let e : n ≡ k + (n - k) = omega arith in
    rw (e, take-add k (n - k) ws, append-length (take k ws) (take (n - k) (drop k ws))) (omega arith)
