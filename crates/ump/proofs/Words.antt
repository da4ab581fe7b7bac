-- The word of five parts: each part is read back, the word has the form of a message, and a word of that form is the word of its parts.
-- Assumes nothing.
use mathlib.Core.Path.{◌≡◌, sym, ◌∙◌}
use mathlib.Core.Bool.{true}
use Prim.Native.Nat.{ℕ, ◌+◌, ◌*◌, ◌/◌, ◌%◌, ◌^◌, ◌<◌, ◌≤◌}
use native.Mathlib.Nat.{div-add-mod', zero-add, div-one, mod-eq_of_lt}
use native.Mathlib.Omega.{arith}
use lib.Pow.{mod-pow-add}
use borrow.Author.Tests.{eqb-true, le-leb, eq-eqb}
use Rattle.ump.specs.Field.{field}
use Rattle.ump.specs.Word.{opcode_of, channel_of, first_of, second_of, bend_of, one_data, form_of, word_form, word_of}
use Rattle.ump.proofs.Cases.{by-test, both}
use Rattle.ump.proofs.Cut.{read-laid, read_below}

-- v stands at bit k, n bits wide, between what is above it and what is below
pub read_between : (k n above v below w : ℕ) → w ≡ above * 2 ^ (n + k) + (v * 2 ^ k + below) → below < 2 ^ k → v < 2 ^ n → field k n w ≡ v
read_between k n above v below w e h l =
    rw e ((rw zero-add at (read_below k n 0 above (v * 2 ^ k + below))) ∙ read-laid k n v below h l)

-- parts that fit their fields
pub record PartsFit (group opcode channel a b : ℕ) : Type 0 where
  pub group-lt : group < 16
  pub opcode-lt : opcode < 16
  pub channel-lt : channel < 16
  pub first-lt : a < 128
  pub second_lt : b < 128

module _ (g o ch a b : ℕ) (fit : PartsFit g o ch a b) where
  pub word_lt : word_of g o ch a b < 2 ^ 32
  word_lt = omega arith

  pub type-of-word : field 28 4 (word_of g o ch a b) ≡ 2
  type-of-word =
      read_between 28 4 0 2 (g * 2 ^ 24 + (o * 2 ^ 20 + (ch * 2 ^ 16 + (a * 2 ^ 8 + b)))) _ (omega arith) (omega arith) (omega arith)

  pub group-of-word : field 24 4 (word_of g o ch a b) ≡ g
  group-of-word = read_between 24 4 2 g (o * 2 ^ 20 + (ch * 2 ^ 16 + (a * 2 ^ 8 + b))) _ (omega arith) (omega arith) (omega arith)

  pub opcode-of-word : opcode_of (word_of g o ch a b) ≡ o
  opcode-of-word = read_between 20 4 (2 * 2 ^ 4 + g) o (ch * 2 ^ 16 + (a * 2 ^ 8 + b)) _ (omega arith) (omega arith) (omega arith)

  -- what stands above the channel
  abbrev top : ℕ
  top = 2 * 2 ^ 8 + (g * 2 ^ 4 + o)

  pub channel-of-word : channel_of (word_of g o ch a b) ≡ ch
  channel-of-word = read_between 16 4 top ch (a * 2 ^ 8 + b) _ (omega arith) (omega arith) (omega arith)

  pub bit-15-of-word : field 15 1 (word_of g o ch a b) ≡ 0
  bit-15-of-word = read_between 15 1 (top * 2 ^ 4 + ch) 0 (a * 2 ^ 8 + b) _ (omega arith) (omega arith) (omega arith)

  pub first-of-word : first_of (word_of g o ch a b) ≡ a
  first-of-word = read_between 8 7 (top * 2 ^ 5 + ch * 2) a b _ (omega arith) (omega arith) (omega arith)

  pub bit-7-of-word : field 7 1 (word_of g o ch a b) ≡ 0
  bit-7-of-word = read_between 7 1 (top * 2 ^ 12 + (ch * 2 ^ 8 + a)) 0 b _ (omega arith) (omega arith) (omega arith)

  pub second-of-word : second_of (word_of g o ch a b) ≡ b
  second-of-word = read_between 0 7 (top * 2 ^ 13 + (ch * 2 ^ 9 + a * 2)) b 0 _ (omega arith) (omega arith) (omega arith)

  -- with an opcode of a message, and no second data byte where there is one only
  pub form-of-word : 0x8 ≤ o → o ≤ 0xE → (one_data o ≡ true → b ≡ 0) → word_form (word_of g o ch a b) ≡ true
  unfolding word_form form_of
  form-of-word l h z =
      rw (type-of-word, bit-15-of-word, bit-7-of-word, opcode-of-word, second-of-word, le-leb 0x8 o l, le-leb o 0xE h)
      (by-test (one_data o) (λ e. rw e (eq-eqb b 0 (z e))) (λ e. rw e))

-- a word of 32 bits, by its fields
by-fields : (w : ℕ) → w < 2 ^ 32
    → w ≡ field 28 4 w * 2 ^ 28 + (field 24 4 w * 2 ^ 24 + (opcode_of w * 2 ^ 20 + (channel_of w * 2 ^ 16 + (field 15 1 w * 2 ^ 15 + (first_of w * 2 ^ 8 + (field 7 1 w * 2 ^ 7 + second_of w))))))
by-fields w l =
    sym (mod-eq_of_lt l)
    ∙ rw (
      mod-pow-add w 4 28,
      mod-pow-add w 4 24,
      mod-pow-add w 4 20,
      mod-pow-add w 4 16,
      mod-pow-add w 1 15,
      mod-pow-add w 7 8,
      mod-pow-add w 1 7,
      div-one,
    )

pub word-of-form : (w : ℕ) → word_form w ≡ true → w < 2 ^ 32 → word_of (field 24 4 w) (opcode_of w) (channel_of w) (first_of w) (second_of w) ≡ w
unfolding word_form form_of
word-of-form w h l =
    let p = both _ _ h in
    let q = both _ _ p.1 in
    let r = both _ _ q.1 in
    let t : field 28 4 w ≡ 2 = eqb-true _ _ p.0 in
    let u : field 15 1 w ≡ 0 = eqb-true _ _ q.0 in
    let v : field 7 1 w ≡ 0 = eqb-true _ _ r.0 in
    omega (arith, by-fields w l)

-- the two halves of a Pitch Bend
pub bend-of-word : (g ch v : ℕ) → g < 16 → ch < 16 → v < 2 ^ 14 → bend_of (word_of g 0xE ch (v % 2 ^ 7) (v / 2 ^ 7)) ≡ v
bend-of-word g ch v hg hc hv =
    let fit : PartsFit g 0xE ch (v % 2 ^ 7) (v / 2 ^ 7) =
    record { group-lt = hg; opcode-lt = omega arith; channel-lt = hc; first-lt = omega arith; second_lt = omega arith } in
    rw (second-of-word g 0xE ch (v % 2 ^ 7) (v / 2 ^ 7) fit, first-of-word g 0xE ch (v % 2 ^ 7) (v / 2 ^ 7) fit) (div-add-mod' v (2 ^ 7))
