-- Values scaled between resolutions (M2-115): from s bits to d.
use Rattle.std.specs.Prelude.{ℕ, zero, suc, ◌+◌, ◌-◌, ◌*◌, ◌/◌, ◌^◌, min, Bool, ◌&&◌, ltb, leb, eqb}
use Rattle.ump.specs.Choice.{when◌then◌else◌}
use Rattle.ump.specs.Outcome.{Outcome, given, out_of_range}
use Rattle.ump.specs.Field.{field}

-- from 1 bit or more to more bits, at most 32, and the value has s bits
unfoldable pub widens : ℕ → ℕ → ℕ → Bool
widens s d v = leb 1 s && (leb d 32 && (ltb s d && ltb v (2 ^ s)))

-- from at most 32 bits to fewer, at least 1, and the value has s bits
unfoldable pub narrows : ℕ → ℕ → ℕ → Bool
narrows s d v = leb 1 d && (leb s 32 && (ltb d s && ltb v (2 ^ s)))

-- 3.3, Figure 1: the value with k bits more below its own, each equal to the bit s - 1 places above it
unfoldable pub repeated : ℕ → ℕ → ℕ → ℕ
repeated s v zero = v
repeated s v (suc k) = repeated s v k * 2 + field (s - 2) 1 (repeated s v k)

-- 3.3, Min-Center-Max: 1 bit to the lowest or the highest; up to the center the value is shifted, above it its bits are repeated
unfoldable pub widened : ℕ → ℕ → ℕ → ℕ
widened s d v =
    when eqb s 1 then (when eqb v 0 then 0 else 2 ^ d - 1) else
    when leb v (2 ^ (s - 1)) then v * 2 ^ (d - s) else
    repeated s v (d - s)

-- 3.4: the low bits are cut off
unfoldable pub narrowed : ℕ → ℕ → ℕ → ℕ
narrowed s d v = v / 2 ^ (s - d)

-- 4.3, Zero-Extension: the added low bits are 0
unfoldable pub zero_extended : ℕ → ℕ → ℕ → ℕ
zero_extended s d v = v * 2 ^ (d - s)

-- 4.4: to the nearest, halves up, held to the highest
unfoldable pub rounded : ℕ → ℕ → ℕ → ℕ
rounded s d v = min ((v + 2 ^ (s - d - 1)) / 2 ^ (s - d)) (2 ^ d - 1)

-- what each call answers
unfoldable pub upscaled : ℕ → ℕ → ℕ → Outcome ℕ
upscaled v s d = when widens s d v then given (widened s d v) else out_of_range

unfoldable pub downscaled : ℕ → ℕ → ℕ → Outcome ℕ
downscaled v s d = when narrows s d v then given (narrowed s d v) else out_of_range

-- 4.3: not for 1 bit
unfoldable pub zero_upscaled : ℕ → ℕ → ℕ → Outcome ℕ
zero_upscaled v s d = when leb 2 s && widens s d v then given (zero_extended s d v) else out_of_range

unfoldable pub zero_downscaled : ℕ → ℕ → ℕ → Outcome ℕ
zero_downscaled v s d = when narrows s d v then given (rounded s d v) else out_of_range
