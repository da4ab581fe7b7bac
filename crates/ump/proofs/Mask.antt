-- A mask made of a test at each bit: its size, and what a bit of it is.
-- Assumes nothing.
use mathlib.Core.Path.{◌≡◌, refl, ◌∙◌, sym, subst}
use mathlib.Core.Bool.{Bool, true, false}
use mathlib.Core.Logic.{⊎_elim}
use Prim.Native.Nat.{ℕ, zero, suc, ◌+◌, ◌*◌, ◌-◌, ◌%◌, ◌^◌, ◌<◌}
use native.Mathlib.Nat.{pow-suc, one-mul, zero-mul, mul_assoc, mul-add-div_right, mul-add-mod_self_right, eq-or-lt_of_le, le_of_suc-le-suc, not-suc-le-zero}
use native.Mathlib.Omega.{arith}
use lib.Dec.{lit<}
use lib.Pow.{pow_pos, pow-add}
use lib.Arith.{digits_div}
use Rattle.ump.specs.Field.{field, bit_for, mask_to}

below : (b : Bool) (m p : ℕ) → m < p → bit_for b * p + m < p * 2
below true m p h = rw one-mul (omega arith)
below false m p h = rw zero-mul (omega arith)

pub mask_lt : (f : ℕ → Bool) (n : ℕ) → mask_to f n < 2 ^ n
unfolding mask_to
mask_lt f zero = lit< tt
mask_lt f (suc n) = rw pow-suc (below (f n) (mask_to f n) (2 ^ n) (mask_lt f n))

bit-mod : (b : Bool) → bit_for b % 2 ^ 1 ≡ bit_for b
bit-mod true = refl
bit-mod false = refl

at_top : (b : Bool) (n m : ℕ) → m < 2 ^ n → field n 1 (bit_for b * 2 ^ n + m) ≡ bit_for b
at_top b n m h = rw (digits_div (bit_for b) h) (bit-mod b)

under : (b : Bool) (d j m : ℕ) → field j 1 (bit_for b * 2 ^ (suc d + j) + m) ≡ field j 1 m
under b d j m =
    rw (pow-add, ← mul_assoc, mul-add-div_right (pow_pos j), pow-suc 2 d, ← mul_assoc, mul-add-mod_self_right)

-- bit j of the mask is the test at j
pub mask-bit : (f : ℕ → Bool) (n j : ℕ) → j < n → field j 1 (mask_to f n) ≡ bit_for (f j)
unfolding mask_to
mask-bit f zero j h = absurd (not-suc-le-zero h)
mask-bit f (suc n) j h =
    ⊎_elim
    (λ (e : j ≡ n). rw e (at_top (f n) n (mask_to f n) (mask_lt f n)))
    (λ (l : j < n).
    let e : n ≡ suc (n - suc j) + j = omega arith in
    (subst (λ (k : ℕ). field j 1 (bit_for (f n) * 2 ^ k + mask_to f n) ≡ field j 1 (mask_to f n)) (sym e) (under (f n) (n - suc j) j (mask_to f n)))
    ∙ mask-bit f n j l)
    (eq-or-lt_of_le (le_of_suc-le-suc h))
