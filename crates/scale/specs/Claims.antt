-- What holds of scaled values, over all widths (M2-115 3.2, 3.3, 4.2 to 4.4).
use Rattle.std.specs.Prelude.{◌≡◌, ◌⊎◌, ℕ, ◌+◌, ◌-◌, ◌*◌, ◌/◌, ◌%◌, ◌^◌, ◌<◌, ◌≤◌, Result, Ok}
use Rattle.ump.specs.Outcome.{given, answered}
use Rattle.ump.specs.Field.{field}
use Rattle.ump.specs.declared.reply.OutOfRange.{OutOfRange}
use Rattle.scale.specs.Scale.{upscaled, zero_upscaled}

-- a fact of the value that a call gives
abbrev pub OfValue : Result ℕ OutOfRange → (ℕ → Type 0) → Type 0
OfValue r fact = (x : ℕ) → r ≡ Ok x → fact x

-- 3.3: x is the value v of s bits widened to d
pub record Widened (s d v x : ℕ) : Type 0 where
  pub fits : x < 2 ^ d
  -- Figure 2: 1 bit goes to the lowest or to the highest
  pub zero_bit : s ≡ 1 → v ≡ 0 → x ≡ 0
  pub one_bit : s ≡ 1 → v ≡ 1 → x ≡ 2 ^ d - 1
  -- up to the center the value is shifted
  pub up_to_center : 2 ≤ s → v ≤ 2 ^ (s - 1) → x ≡ v * 2 ^ (d - s)
  -- Figure 1: above it, the value's own bits are the highest, and each bit below them equals the bit s - 1 places above it
  pub own_bits : 2 ≤ s → 2 ^ (s - 1) < v → x / 2 ^ (d - s) ≡ v
  pub repeats : 2 ≤ s → 2 ^ (s - 1) < v → (j : ℕ) → j < d - s → field j 1 x ≡ field (j + (s - 1)) 1 x

-- no other number is
abbrev pub OneWidened : ℕ → ℕ → ℕ → ℕ → Type 0
OneWidened s d v x = (y : ℕ) → Widened s d v y → x ≡ y

-- 3.2: the lowest and the highest value are kept, and from 2 bits up the center
pub record Kept (s d : ℕ) : Type 0 where
  pub lowest : upscaled 0 s d ≡ given 0
  pub highest : upscaled (2 ^ s - 1) s d ≡ given (2 ^ d - 1)
  pub center : 2 ≤ s → upscaled (2 ^ (s - 1)) s d ≡ given (2 ^ (d - 1))

abbrev pub UpscaleKeeps : ℕ → ℕ → Type 0
UpscaleKeeps s d = 1 ≤ s → s < d → d ≤ 32 → Kept s d

-- a higher value is widened to a higher one
abbrev pub UpscaleRises : ℕ → ℕ → Type 0
UpscaleRises s d = (v w x y : ℕ) → upscaled v s d ≡ given x → upscaled w s d ≡ given y → v < w → x < y

-- 3.2: a value that was widened from d bits to s is returned by narrowing it from s to d
abbrev pub DownscaleReturns : ℕ → ℕ → ℕ → Result ℕ OutOfRange → Type 0
DownscaleReturns value s d r = (v : ℕ) → upscaled v d s ≡ given value → answered r ≡ given v

-- 4.2: the same of Zero-Extension
abbrev pub ZeroDownscaleReturns : ℕ → ℕ → ℕ → Result ℕ OutOfRange → Type 0
ZeroDownscaleReturns value s d r = (v : ℕ) → zero_upscaled v d s ≡ given value → answered r ≡ given v

-- 3.4: x is the value v of s bits without its s - d low bits, the highest that lies below v or at it once it is shifted back
pub record Narrowed (s d v x : ℕ) : Type 0 where
  pub fits : x < 2 ^ d
  pub below : x * 2 ^ (s - d) ≤ v
  pub next_above : v < (x + 1) * 2 ^ (s - d)

-- 4.3: the value's own bits are the highest, and those below them are 0
pub record ZeroExtended (s d v x : ℕ) : Type 0 where
  pub fits : x < 2 ^ d
  pub own_bits : x / 2 ^ (d - s) ≡ v
  pub zeros : x % 2 ^ (d - s) ≡ 0

-- x is nearest to n / q, halves up: x times q lies at most half of q above n, or less than half below
abbrev pub NearestUp : ℕ → ℕ → ℕ → Type 0
NearestUp n q x = (2 * (x * q) ≤ 2 * n + q) × (2 * n < 2 * (x * q) + q)

-- n / q lies half or more above x
abbrev pub HalfAbove : ℕ → ℕ → ℕ → Type 0
HalfAbove n q x = 2 * (x * q) + q ≤ 2 * n

-- 4.4: x is nearest to v / 2 ^ (s - d), halves up, or it is the highest of d bits where the nearest is past that
pub record Rounded (s d v x : ℕ) : Type 0 where
  pub fits : x < 2 ^ d
  pub nearest : NearestUp v (2 ^ (s - d)) x ⊎ ((x ≡ 2 ^ d - 1) × HalfAbove v (2 ^ (s - d)) x)
