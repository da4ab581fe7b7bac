-- Which bytes are allowed, by sums that are 0 for those alone.
-- Assumes nothing.
use mathlib.Core.Path.{◌≡◌, refl, sym, ap, ◌∙◌}
use mathlib.Core.Bool.{Bool, true, false, ◌&&◌, not}
use Prim.Native.Nat.{ℕ, ◌+◌, ◌*◌, ◌/◌, ◌%◌, ◌^◌, ◌<◌, ◌≤◌}
use native.Mathlib.Omega.{arith}
use Rattle.std.specs.Int.Bits.{or_zero_l}
use Rattle.std.proofs.lemmas.Nat.{le_or_l}
use lib.Bits.{bit_and, bit_or, bit_xor, and_block, and_high}
use lib.Dec.{ltb, leb, eqb}
use borrow.Author.Tests.{leb-true, leb-false, eqb-true, eqb-false, ne_eqb, ltb-true}
use Rattle.ump.proofs.Cases.{by-test, both}
use Rattle.ump.proofs.Below.{every_below, at}
use Rattle.translate_state.specs.State.{held_allowed, flags_allowed}
use Rattle.translate_state.proofs.Allowed.{and-false}

-- a sum is 0 where both of its parts are
pub sum-zero : (a b : ℕ) → eqb (a + b) 0 ≡ eqb a 0 && eqb b 0
sum-zero a b =
    by-test (eqb a 0)
    (λ t. let z : a ≡ 0 = eqb-true a 0 t in let e : a + b ≡ b = omega arith in rw (t, e) refl)
    (λ f. rw f (ne_eqb (a + b) 0 (λ e. eqb-false a 0 f (omega arith))))

-- and so is one of bits that are set in either
pub or_is_zero : (a b : ℕ) → eqb (bit_or a b) 0 ≡ eqb a 0 && eqb b 0
or_is_zero a b =
    by-test (eqb a 0)
    (λ t. rw (t, eqb-true a 0 t, or_zero_l b) refl)
    (λ f.
    let l : a ≤ bit_or a b = le_or_l a b in
    rw f (ne_eqb (bit_or a b) 0 (λ e. eqb-false a 0 f (omega arith))))

-- a number that is 0 for the bytes that are allowed, and for no other
test-as : (y x : ℕ) → (x ≤ 128 → y ≡ 0) → (128 < x → 0 < y) → eqb y 0 ≡ held_allowed x
test-as y x below above =
    by-test (leb x 128)
    (λ t. rw (t, below (leb-true x 128 t)) refl)
    (λ f. let h : 0 < y = above (leb-false x 128 f) in rw f (ne_eqb y 0 (λ e. omega arith)))

-- bit 8 of a byte and 127
abbrev bit8 : ℕ → ℕ
bit8 x = (x + 127) / 2 ^ 8 % 2 ^ 1 * 2 ^ 8

module _ (a b c d : ℕ) (ha : a < 2 ^ 8) (hb : b < 2 ^ 8) (hc : c < 2 ^ 8) (hd : d < 2 ^ 8) where
  abbrev masked : ℕ
  masked = bit_and (a + b * 0x10000 + c * 0x100000000 + d * 0x1000000000000 + 0x7F007F007F007F) 0x100010001000100

  masked-parts : masked ≡ bit8 a + (bit8 b * 2 ^ 16 + (bit8 c * 2 ^ 32 + bit8 d * 2 ^ 48))
  masked-parts =
      let e : a + b * 0x10000 + c * 0x100000000 + d * 0x1000000000000 + 0x7F007F007F007F ≡ (((d + 127) * 2 ^ 16 + (c + 127)) * 2 ^ 16 + (b + 127)) * 2 ^ 16 + (a + 127) = omega arith in
      rw e
      (and_block 16 (((d + 127) * 2 ^ 16 + (c + 127)) * 2 ^ 16 + (b + 127)) 0x10001000100 (a + 127) 0x100 (omega arith) (omega arith)
      ∙ rw (and_block 16 ((d + 127) * 2 ^ 16 + (c + 127)) 0x1000100 (b + 127) 0x100 (omega arith) (omega arith), and_block 16 (d + 127) 0x100 (c + 127) 0x100 (omega arith) (omega arith), and_high (a + 127) 1 8, and_high (b + 127) 1 8, and_high (c + 127) 1 8, and_high (d + 127) 1 8) (omega arith))

  pub masked_tests : eqb masked 0 ≡ held_allowed a && (held_allowed b && (held_allowed c && held_allowed d))
  masked_tests =
      rw (masked-parts, sum-zero (bit8 a), sum-zero (bit8 b * 2 ^ 16), sum-zero (bit8 c * 2 ^ 32))
      (rw (
        test-as (bit8 a) a (λ h. omega arith) (λ h. omega arith),
        test-as (bit8 b * 2 ^ 16) b (λ h. omega arith) (λ h. omega arith),
        test-as (bit8 c * 2 ^ 32) c (λ h. omega arith) (λ h. omega arith),
        test-as (bit8 d * 2 ^ 48) d (λ h. omega arith) (λ h. omega arith),
      ) refl)

-- two tests with the same outcome
abbrev alike : Bool → Bool → Bool
alike true y = y
alike false y = not y

alike_same : (x y : Bool) → alike x y ≡ true → x ≡ y
alike_same true y h = sym h
alike_same false true h = h
alike_same false false h = refl

abbrev pub flags_over : ℕ → ℕ → ℕ
flags_over mask f = bit_or (f / 16) (bit_and (bit_and (bit_xor f 4) (bit_xor f 4 / 2)) mask)

abbrev pub flags_test : ℕ → ℕ → Bool
flags_test mask f = alike (eqb (flags_over mask f) 0) (flags_allowed f) && ltb (flags_over mask f) 32

-- with a mask for which the test passes at every byte, the number is 0 for the flags that are allowed, and for no other
pub flags_tested : (mask : ℕ) → every_below (flags_test mask) 256 ≡ true → (f : ℕ) → f < 256
    → (eqb (flags_over mask f) 0 ≡ flags_allowed f) × (flags_over mask f < 32)
flags_tested mask t f h =
    let b = both (alike (eqb (flags_over mask f) 0) (flags_allowed f)) (ltb (flags_over mask f) 32) (at (flags_test mask) 256 t f h) in
    (alike_same _ _ b.0, ltb-true _ _ b.1)

-- the bytes of a channel by turns, and its flags
pub regrouped : (a b c d e f g h : Bool) → ((a && (c && (e && g))) && (b && (d && (f && true)))) && h ≡ a && (b && (c && (d && (e && (f && (g && h))))))
regrouped false b c d e f g h = refl
regrouped true false c d e f g h = ap (λ x. x && h) (and-false (c && (e && g)))
regrouped true true false d e f g h = refl
regrouped true true true false e f g h = ap (λ x. x && h) (and-false (e && g))
regrouped true true true true false f g h = refl
regrouped true true true true true false g h = ap (λ x. x && h) (and-false g)
regrouped true true true true true true false h = refl
regrouped true true true true true true true h = refl
