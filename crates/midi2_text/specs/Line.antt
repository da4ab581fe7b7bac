-- The text of two words: eight hexadecimal digits each, upper case, highest first (document 01's hexadecimal).
use Rattle.std.specs.Prelude.{ℕ, ◌+◌, ◌-◌, ◌/◌, ◌%◌, ◌^◌, List, [], ◌∷◌, ◌++◌, map, ltb}
use Rattle.ump.specs.Choice.{when◌then◌else◌}

-- the character of a value below 16: '0' to '9', then 'A' to 'F'
unfoldable pub hex_digit : ℕ → ℕ
hex_digit n = when ltb n 10 then 0x30 + n else 0x37 + n

-- digit i of a word's eight, 0 the highest
abbrev pub digit_at : ℕ → ℕ → ℕ
digit_at w i = hex_digit (w / 16 ^ (7 - i) % 16)

abbrev pub word_text : ℕ → List ℕ
word_text w = map (digit_at w) (0 ∷ 1 ∷ 2 ∷ 3 ∷ 4 ∷ 5 ∷ 6 ∷ 7 ∷ [])

-- a space between the words, a line's end behind them
abbrev pub pair_line : ℕ → ℕ → List ℕ
pair_line a b = word_text a ++ (0x20 ∷ (word_text b ++ (0x0A ∷ [])))
