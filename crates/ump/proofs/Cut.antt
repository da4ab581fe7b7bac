-- Fields: a shift and a mask cut one out, a shift and an or lay one in, and what is laid is read back. Each law is over the place and the width.
-- Assumes nothing.
use mathlib.Core.Path.{◌≡◌}
use Prim.Native.Nat.{ℕ, ◌+◌, ◌*◌, ◌/◌, ◌-◌, ◌%◌, ◌^◌, ◌<◌, ◌≤◌}
use native.Mathlib.Nat.{lt_of_lt_of_le, mod-eq_of_lt, mod-lt, div-one, mul_assoc, mul-add-div_right, mul-add-mod_self_right}
use lib.Bits.{bit_and, bit_or, and_mask, mask_lt, or_shifted_r}
use lib.Pow.{pow_mono, pow_pos, pow-add}
use lib.Arith.{digits_div}
use mir.Syntax.{w8}
use mir.Val.{Fits}
use Rattle.ump.specs.Field.{field}

-- the n bits from bit k up, as the code cuts them
pub cut : (k n w : ℕ) → bit_and (w / 2 ^ k) (2 ^ n - 1) ≡ field k n w
cut k n w = and_mask (w / 2 ^ k) n

-- at bit 0 no shift is written
pub low : (n w : ℕ) → bit_and w (2 ^ n - 1) ≡ field 0 n w
low n w = rw div-one (and_mask w n)

-- at most eight bits fit a byte
pub cut_fits : (k n w : ℕ) → n ≤ 8 → Fits w8 (bit_and (w / 2 ^ k) (2 ^ n - 1))
cut_fits k n w h = record { fits = lt_of_lt_of_le (mask_lt (w / 2 ^ k) n) (pow_mono h) }

pub low_fits : (n w : ℕ) → n ≤ 8 → Fits w8 (bit_and w (2 ^ n - 1))
low_fits n w h = record { fits = lt_of_lt_of_le (mask_lt w n) (pow_mono h) }

-- a field of n bits is below 2 ^ n
pub field_lt : (k n w : ℕ) → field k n w < 2 ^ n
field_lt k n w = mod-lt (w / 2 ^ k) (pow_pos n)

-- a field that is shifted to bit k, above what is there already
pub laid : (a k b w : ℕ) → b < 2 ^ k → a * 2 ^ k < 2 ^ w → bit_or b (a * 2 ^ k % 2 ^ w) ≡ a * 2 ^ k + b
laid a k b w h l = rw (mod-eq_of_lt l) (or_shifted_r a k b h)

-- what is laid at bit k is read there
pub read-laid : (k n a b : ℕ) → b < 2 ^ k → a < 2 ^ n → field k n (a * 2 ^ k + b) ≡ a
read-laid k n a b h l = rw (digits_div a h) (mod-eq_of_lt l)

-- a field is not changed by what is laid above it
pub read_below : (k n d a b : ℕ) → field k n (a * 2 ^ (d + n + k) + b) ≡ field k n b
read_below k n d a b =
    rw (pow-add 2 (d + n) k, ← mul_assoc, mul-add-div_right (pow_pos k), pow-add 2 d n, ← mul_assoc, mul-add-mod_self_right)
