-- What a whole message does to an end, by its opcode, channel and data bytes.
-- Assumes nothing.
use Prim.Native.Nat.{ℕ, ◌+◌, ◌*◌, ◌/◌, ◌%◌, ◌<◌, ◌≤◌}
use mathlib.Core.Path.{◌≡◌, refl, ap, ◌∙◌}
use mathlib.Core.Bool.{Bool, true, false}
use mathlib.Core.List.{[], ◌∷◌}
use mathlib.Core.Logic.{◌⊎◌, inl, inr, ⊎_elim}
use borrow.Author.Tests.{ne_eqb}
use native.Mathlib.Omega.{arith}
use Rattle.ump.specs.Word.{one_data, word_of}
use Rattle.ump.proofs.Words.{PartsFit, opcode-of-word, channel-of-word, first-of-word, second-of-word, form-of-word}
use Rattle.parameters.specs.declared.ParameterUpdate.{ParameterUpdate}
use Rattle.parameters.specs.State as parameter
use Rattle.mpe_receiver.specs.Receive as receiver
use Rattle.receiving_end.specs.declared.end.End.{End}
use Rattle.byte_reader.specs.Reader.{reader_at, message_word}
use Rattle.receiving_end.specs.End.{with_reader, with_receiver, with_parameter, parameter_at, message_at, message_step}
use Rattle.receiving_end.specs.Lists.{after_bytes}
use Rattle.receiving_end.proofs.Messages.{message-read, short-read}

-- what the channel's parameters make of it
abbrev pub parameters_update : End → ℕ → ℕ → ℕ → ℕ → ParameterUpdate
parameters_update e o k a b = parameter.update_by_fields (parameter_at e k) o a b

-- the end after it: the channel's parameters, and the receiver with their event
abbrev pub end_after : End → ℕ → ℕ → ℕ → ℕ → End
end_after e o k a b =
    with_receiver (with_parameter e k (parameters_update e o k a b).state)
    (receiver.received_by_fields e.receiver (parameters_update e o k a b).event o k a b).receiver

module _ (e : End) (o k a b : ℕ) (fit : PartsFit 0 o k a b) (h : 0x8 ≤ o) (g : o ≤ 0xE) (z : one_data o ≡ true → b ≡ 0) where
  pub word-received : (message_step e (word_of 0 o k a b)).end ≡ end_after e o k a b
  unfolding message_at
  word-received =
      rw (
        channel-of-word 0 o k a b fit,
        form-of-word 0 o k a b fit h g z,
        opcode-of-word 0 o k a b fit,
        first-of-word 0 o k a b fit,
        second-of-word 0 o k a b fit,
      )

-- its status byte
abbrev pub status_of : ℕ → ℕ → ℕ
status_of o k = o * 16 + k

-- the word of a status byte is that of its opcode and channel
word-of-status : (o k a b : ℕ) → k < 16 → message_word (status_of o k) a b ≡ word_of 0 o k a b
word-of-status o k a b h =
    let p : status_of o k / 16 ≡ o = omega arith in
    let q : status_of o k % 16 ≡ k = omega arith in
    rw (p, q)

-- as bytes: opcodes with two data bytes, and with one
module _ (e : End) (o k a b : ℕ) (two : (o < 0xC) ⊎ (o ≡ 0xE)) (h : 0x8 ≤ o) (hk : k < 16) (ha : a < 0x80) (hb : b < 0x80) where
  o-le : o ≤ 0xE
  o-le = ⊎_elim (λ (l : o < 0xC). omega arith) (λ (l : o ≡ 0xE). omega arith) two

  fit : PartsFit 0 o k a b
  fit =
      let l = o-le in
      record { group-lt = omega arith; opcode-lt = omega arith; channel-lt = hk; first-lt = omega arith; second_lt = omega arith }

  no_one : one_data o ≡ true → b ≡ 0
  no_one t =
      let c : o ≡ 0xC → ⊥ = λ e. ⊎_elim (λ (l : o < 0xC). omega arith) (λ (l : o ≡ 0xE). omega arith) two in
      let d : o ≡ 0xD → ⊥ = λ e. ⊎_elim (λ (l : o < 0xC). omega arith) (λ (l : o ≡ 0xE). omega arith) two in
      let f : one_data o ≡ false = rw (ne_eqb o 0xC c, ne_eqb o 0xD d) in
      let z : ◌≡◌ {A = Bool} true false = cc in
      let y : ◌≡◌ {A = ℕ} 0 1 = cc in absurd (omega arith)

  pub two-received : after_bytes e (status_of o k ∷ a ∷ b ∷ []) ≡ end_after (with_reader e (reader_at (status_of o k) 0x80)) o k a b
  two-received =
      let l = o-le in
      let two_bytes : (status_of o k < 0xC0) ⊎ (0xE0 ≤ status_of o k) = ⊎_elim (λ (m : o < 0xC). inl (omega arith)) (λ (m : o ≡ 0xE). inr (omega arith)) two in
      message-read e (status_of o k) a b two_bytes (omega arith) (omega arith) ha hb
      ∙ ap (λ w. (message_step (with_reader e (reader_at (status_of o k) 0x80)) w).end) (word-of-status o k a b hk)
      ∙ word-received (with_reader e (reader_at (status_of o k) 0x80)) o k a b fit h l no_one

module _ (e : End) (o k a : ℕ) (h : 0xC ≤ o) (g : o ≤ 0xD) (hk : k < 16) (ha : a < 0x80) where
  pub one-received : after_bytes e (status_of o k ∷ a ∷ []) ≡ end_after (with_reader e (reader_at (status_of o k) 0x80)) o k a 0
  one-received =
      let fit : PartsFit 0 o k a 0 = record { group-lt = omega arith; opcode-lt = omega arith; channel-lt = hk; first-lt = omega arith; second_lt = omega arith } in
      short-read e (status_of o k) a (omega arith) (omega arith) ha
      ∙ ap (λ w. (message_step (with_reader e (reader_at (status_of o k) 0x80)) w).end) (word-of-status o k a 0 hk)
      ∙ word-received (with_reader e (reader_at (status_of o k) 0x80)) o k a 0 fit (omega arith) (omega arith) (λ t. refl)
