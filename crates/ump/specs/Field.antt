-- Fields of a word, and masks.
use Rattle.std.specs.Prelude.{ℕ, zero, suc, ◌+◌, ◌*◌, ◌/◌, ◌%◌, ◌^◌, Bool, true, false}

-- the n bits from bit k up
abbrev pub field : ℕ → ℕ → ℕ → ℕ
field k n w = w / 2 ^ k % 2 ^ n

abbrev pub bit_for : Bool → ℕ
bit_for true = 1
bit_for false = 0

-- the number whose bit j is 1 exactly where f j, for each j below n
unfoldable pub mask_to : (ℕ → Bool) → ℕ → ℕ
mask_to f zero = 0
mask_to f (suc n) = bit_for (f n) * 2 ^ n + mask_to f n
