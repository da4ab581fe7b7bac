-- Numbers in decimal, as ASCII text.
use Rattle.std.specs.Prelude.{ℕ, zero, suc, ◌+◌, ◌/◌, ◌%◌, List, [], ◌∷◌, ◌++◌, ltb, ℤ, pos, negsuc}
use Rattle.ump.specs.Choice.{when◌then◌else◌}

-- the digits of a number that has at most so many, the highest first
unfoldable pub digits_in : ℕ → ℕ → List ℕ
digits_in zero n = []
digits_in (suc most) n = when ltb n 10 then (0x30 + n) ∷ [] else digits_in most (n / 10) ++ ((0x30 + n % 10) ∷ [])

-- n has at most n + 1 digits
abbrev pub decimal : ℕ → List ℕ
decimal n = digits_in (suc n) n

-- a minus sign goes before a number below zero
abbrev pub signed_decimal : ℤ → List ℕ
signed_decimal (pos n) = decimal n
signed_decimal (negsuc n) = 0x2D ∷ decimal (suc n)
