-- A run of translations by value, and the sum of its answers, kept to 64 bits.
use Rattle.std.specs.Prelude.{ℕ, ◌+◌, ◌*◌, ◌%◌, ◌^◌, List, [], ◌∷◌}
use Rattle.ump.specs.Outcome.{Outcome, given, declined}
use Rattle.translate_state.specs.declared.Midi1ToMidi2Group.{Midi1ToMidi2Group}
use Rattle.translate.specs.Translate.{translation_of, record_after}

-- words as one number, the first lowest
abbrev pub words_code : List ℕ → ℕ
words_code [] = 0
words_code (w ∷ ws) = w + words_code ws * 2 ^ 32

-- an answer as a number: its words, 0 for none, 1 for a refusal. Different answers have different numbers: a first word is 2 ^ 30 or more.
abbrev pub answer_code : Outcome (List ℕ) → ℕ
answer_code (given words) = words_code words
answer_code (declined n v) = 1

abbrev pub added_answer : ℕ → ℕ → ℕ
added_answer sum n = (sum + n) % 2 ^ 64

-- the record takes the messages, and their answers are added
unfoldable pub translations_sum : Midi1ToMidi2Group → ℕ → List ℕ → ℕ
translations_sum r sum [] = sum
translations_sum r sum (w ∷ ws) = translations_sum (record_after r w) (added_answer sum (answer_code (translation_of r w))) ws
