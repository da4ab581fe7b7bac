-- Rounding to the nearest: a product over a divisor in two steps, at 8191 and in steps of 64 and 128.
-- Assumes nothing.
use mathlib.Core.Path.{◌≡◌, ◌∙◌, sym, ap}
use Prim.Native.Nat.{ℕ, ◌+◌, ◌*◌, ◌/◌, ◌%◌, ◌<◌, ◌≤◌}
use native.Mathlib.Nat.{div-add-mod', add-mul, one-mul, mul-le-mul, mul-le-mul_left, mul_left_comm, mul_right_comm, mod-lt, div-lt_iff_lt-mul, div-eq_of_lt-le, le-div_iff_mul-le}
use native.Mathlib.Omega.{arith}
use Rattle.mpe_pitch.specs.Pitch.{nearest}

-- d times m, by the quotient and the remainder of d
pub parted : (k d m : ℕ) → d * m ≡ d / k * m * k + d % k * m
parted k d m = ap (λ (n : ℕ). n * m) (sym (div-add-mod' d k)) ∙ (add-mul (d / k * k) (d % k) m ∙ ap (λ (n : ℕ). n + d % k * m) (mul_right_comm (d / k) k m))

pub up : (d m : ℕ) → 8191 ≤ 2 * (d % 8191 * m % 8191) → d / 8191 * m + d % 8191 * m / 8191 + 1 ≡ nearest (d * m) 8191
up d m h = omega (arith, parted 8191 d m)

pub down : (d m : ℕ) → 2 * (d % 8191 * m % 8191) < 8191 → d / 8191 * m + d % 8191 * m / 8191 ≡ nearest (d * m) 8191
down d m h = omega (arith, parted 8191 d m)

-- the product of a range and a distance from the center
pub product : (d m : ℕ) → d ≤ 1282700 → m ≤ 8192 → d * m ≤ 1282700 * 8192
product d m h n = mul-le-mul {n₂ = 1282700} {m₂ = 8192} h n

pub ruleset over_8191 = (up, down, product)

twice : (p d : ℕ) → p * (2 * d) ≡ 2 * (p * d)
twice p d = mul_left_comm p 2 d

-- a whole number and a rest of at least a half, and of less
pub rounds-up : (p z d : ℕ) → z < d → d ≤ 2 * z → p + 1 ≡ nearest (p * d + z) d
rounds-up p z d h l = sym (div-eq_of_lt-le (2 * d) (omega (arith, twice p d, add-mul p 1 (2 * d), one-mul (2 * d))) (omega (arith, twice p d, add-mul p 1 (2 * d), add-mul (p + 1) 1 (2 * d), one-mul (2 * d))))

pub rounds-down : (p z d : ℕ) → 2 * z < d → p ≡ nearest (p * d + z) d
rounds-down p z d l = sym (div-eq_of_lt-le (2 * d) (omega (arith, twice p d)) (omega (arith, twice p d, add-mul p 1 (2 * d), one-mul (2 * d))))

-- 8192 times n over d is at least 8192 where n is at least d
pub full : (n d : ℕ) → 0 < d → d ≤ n → 8192 ≤ nearest (8192 * n) d
full n d h l =
    (le-div_iff_mul-le {k = 2 * d} {x = 8192} {y = 2 * (8192 * n) + d} (omega arith)).1 (omega (arith, mul-le-mul_left 8192 l, mul_left_comm 8192 2 d))

-- 8192 times n over d, in two steps of 64 and 128: the first quotient, and the whole by the two quotients and the last rest
pub high : (n d : ℕ) → n < d → n * 64 / d < 64
high n d h = (div-lt_iff_lt-mul {k = d} {x = n * 64} {y = 64} (omega arith)).1 (omega arith)

pub low : (n d : ℕ) → n < d → n * 64 % d * 128 / d < 128
low n d h = let l : n * 64 % d < d = mod-lt (n * 64) (omega arith) in (div-lt_iff_lt-mul {k = d} {x = n * 64 % d * 128} {y = 128} (omega arith)).1 (omega arith)

whole : (n d : ℕ) → 8192 * n ≡ (n * 64 / d * 128 + n * 64 % d * 128 / d) * d + n * 64 % d * 128 % d
whole n d =
    let a = n * 64 in
    let b = a % d * 128 in
    omega (arith, div-add-mod' a d, div-add-mod' b d, add-mul (a / d * 128) (b / d) d, mul_right_comm (a / d) 128 d)

pub up_8192 : (n d : ℕ) → n < d → d ≤ 2 * (n * 64 % d * 128 % d) → n * 64 / d * 128 + n * 64 % d * 128 / d + 1 ≡ nearest (8192 * n) d
up_8192 n d h l = rounds-up (n * 64 / d * 128 + n * 64 % d * 128 / d) (n * 64 % d * 128 % d) d (mod-lt _ (omega arith)) l ∙ ap (λ (m : ℕ). nearest m d) (sym (whole n d))

pub down_8192 : (n d : ℕ) → 2 * (n * 64 % d * 128 % d) < d → n * 64 / d * 128 + n * 64 % d * 128 / d ≡ nearest (8192 * n) d
down_8192 n d l = rounds-down (n * 64 / d * 128 + n * 64 % d * 128 / d) (n * 64 % d * 128 % d) d l ∙ ap (λ (m : ℕ). nearest m d) (sym (whole n d))

pub ruleset over_d = (high, low, up_8192, down_8192)
