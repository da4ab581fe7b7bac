-- What the bytes of one message do to an end, and that a byte from F8 up does nothing to it.
-- Assumes nothing.
use Prim.Native.Nat.{ℕ, ◌<◌, ◌≤◌}
use mathlib.Core.Path.{◌≡◌, refl, ap, ◌∙◌}
use mathlib.Core.Bool.{Bool, true, false}
use mathlib.Core.List.{[], ◌∷◌}
use mathlib.Core.Logic.{◌⊎◌}
use native.Mathlib.Omega.{arith}
use lib.Dec.{eqb}
use Rattle.ump.specs.Choice.{when◌then◌else◌}
use Rattle.ump.proofs.Auto.{auto}
use Rattle.byte_reader.specs.declared.ByteClass.TheVariants as class
use Rattle.byte_reader.specs.declared.Read.TheVariants as read
use Rattle.byte_reader.specs.declared.ReadStep.{ReadStep}
use Rattle.byte_reader.proofs.EachByte.{begins, of_two, of_one}
use Rattle.receiving_end.specs.declared.end.End.{End}
use Rattle.byte_reader.specs.Reader.{reader_at, reading, class_of_byte, message_word, class_step, read_step}
use Rattle.receiving_end.specs.End.{with_reader, message_step, answer_step, step_of, step_end}
use Rattle.receiving_end.specs.Lists.{after_bytes}

-- the end after a byte, by what the reader makes of it
by-reading : (e : End) (b : ℕ) (x : ReadStep) → read_step e.reader b ≡ x → step_end e b ≡ (answer_step e x.reader x.read).end
unfolding step_of
by-reading e b x p = ap (λ y. (answer_step e y.reader y.read).end) p

started : (e : End) (s : ℕ) → 0x80 ≤ s → s < 0xF0 → step_end e s ≡ with_reader e (reader_at s 0x80)
started e s h g = by-reading e s _ (begins e.reader s h g)

-- a message of two data bytes is one step, and running status stays
module _ (e : End) (s a b : ℕ) (two : (s < 0xC0) ⊎ (0xE0 ≤ s)) (h : 0x80 ≤ s) (g : s < 0xF0) (ha : a < 0x80) (hb : b < 0x80) where
  begun : step_end (with_reader e (reader_at s 0x80)) a ≡ with_reader e (reader_at s a)
  begun = by-reading (with_reader e (reader_at s 0x80)) a _ (of_two s 0x80 a two h ha)

  completed : step_end (with_reader e (reader_at s a)) b ≡ (message_step (with_reader e (reader_at s 0x80)) (message_word s a b)).end
  completed =
      by-reading (with_reader e (reader_at s a)) b (reading (reader_at s 0x80) (read.Message (message_word s a b)))
      (of_two s a b two h hb ∙ search auto)

  pub message-read : after_bytes e (s ∷ a ∷ b ∷ []) ≡ (message_step (with_reader e (reader_at s 0x80)) (message_word s a b)).end
  unfolding after_bytes
  message-read = ap (λ x. step_end (step_end x a) b) (started e s h g) ∙ ap (λ x. step_end x b) begun ∙ completed

-- and so is one of one data byte
module _ (e : End) (s a : ℕ) (h : 0xC0 ≤ s) (g : s < 0xE0) (ha : a < 0x80) where
  whole : step_end (with_reader e (reader_at s 0x80)) a ≡ (message_step (with_reader e (reader_at s 0x80)) (message_word s a 0)).end
  whole = by-reading (with_reader e (reader_at s 0x80)) a _ (of_one s 0x80 a h g ha)

  pub short-read : after_bytes e (s ∷ a ∷ []) ≡ (message_step (with_reader e (reader_at s 0x80)) (message_word s a 0)).end
  unfolding after_bytes
  short-read = ap (λ x. step_end x a) (started e s (omega arith) (omega arith)) ∙ whole

-- F8 to FF
system-class : (b : ℕ) → 0xF8 ≤ b → class_of_byte b ≡ (when eqb b 0xF9 then class.Undefined else when eqb b 0xFD then class.Undefined else class.RealTime)
unfolding class_of_byte
system-class b h =
    let a : 0x80 ≤ b = omega arith in
    let c : 0xF0 ≤ b = omega arith in
    search auto

system : (e : End) (b : ℕ) (t u : Bool) →
    (answer_step e
    (class_step e.reader (when t then class.Undefined else when u then class.Undefined else class.RealTime) b).reader
    (class_step e.reader (when t then class.Undefined else when u then class.Undefined else class.RealTime) b).read
    ).end
    ≡ e
system e b true u = refl
system e b false true = refl
system e b false false = refl

pub system-read : (e : End) (b : ℕ) → 0xF8 ≤ b → step_end e b ≡ e
system-read e b h =
    by-reading e b _ (ap (λ k. class_step e.reader k b) (system-class b h)) ∙ system e b (eqb b 0xF9) (eqb b 0xFD)
