-- Texts, and the files of what they say or the line that is refused, as one table; and files with their texts, as another.
use Rattle.std.specs.Prelude.{ℕ, ◌≡◌, List, [], ◌∷◌, ◌++◌, map}
use Prim.Native.String.{String}
use Rattle.ump.specs.Outcome.{Outcome, given, declined}
use Rattle.setup_file.specs.Read.{file_read}
use Rattle.setup_text.specs.Text.{ascii, text_in}
use Rattle.setup_text.specs.Parse.{file_of_text}

pub record TextExample : Type 0 where
  pub text : String
  pub answer : Outcome (List ℕ)

abbrev taken : String → List ℕ → TextExample
taken t file = record { text = t; answer = given file }

-- refused by such a number, at such a line
abbrev refused : ℕ → ℕ → String → TextExample
refused number line t = record { text = t; answer = declined number (line ∷ []) }

-- both zones with other numbers in each field, channels 3 and 15, and a label
abbrev both_zones : List ℕ
both_zones =
    2 ∷ (0 ∷ 7 ∷ 1 ∷ 2 ∷ 3 ∷ 4 ∷ 3 ∷ []) ++ (1 ∷ 6 ∷ 5 ∷ 6 ∷ 7 ∷ 8 ∷ 4 ∷ [])
    ++ 2 ∷ (3 ∷ 0x50 ∷ 1 ∷ 9 ∷ 10 ∷ []) ++ (15 ∷ 0 ∷ 0x7F ∷ 11 ∷ 12 ∷ [])
    ++ 9 ∷ ascii "Tuning II"

abbrev both_zones_text : String
both_zones_text = "lower 7 1 2 3 4 poly\nupper 6 5 6 7 8 mono\nchannel 3 bend 10241 pressure 9 brightness 10\nchannel 15 bend 127 pressure 11 brightness 12\nlabel Tuning II\n"

unfoldable pub text_table : List TextExample
text_table =
    taken "" (0 ∷ 0 ∷ 0 ∷ [])
    ∷ taken both_zones_text both_zones
    ∷ taken "# a remark\n\nupper 07 0 0 96 99 poly" (1 ∷ 1 ∷ 7 ∷ 0 ∷ 0 ∷ 96 ∷ 99 ∷ 3 ∷ 0 ∷ 0 ∷ [])
    ∷ taken "label \n" (0 ∷ 0 ∷ 0 ∷ [])
    ∷ taken "label # ~" (0 ∷ 0 ∷ 3 ∷ ascii "# ~")
    ∷ refused 4 1 "lower 7 2 0 48 0"
    ∷ refused 4 1 "lower 7 2 0 48 0 poly "
    ∷ refused 4 1 "lower  7 2 0 48 0 poly"
    ∷ refused 4 1 "Lower 7 2 0 48 0 poly"
    ∷ refused 4 3 "\n\nlower 7 2 0 48 0 duo\n"
    ∷ refused 4 1 "lower 7 2 -1 48 0 poly"
    ∷ refused 4 1 "channel 3 bend 100000 pressure 0 brightness 64"
    ∷ refused 4 1 "channel 3 pressure 0 bend 0 brightness 64"
    ∷ refused 4 1 "label"
    ∷ refused 1 1 "lower 0 2 0 48 0 poly"
    ∷ refused 1 1 "lower 16 2 0 48 0 poly"
    ∷ refused 1 1 "lower 7 97 0 48 0 poly"
    ∷ refused 1 1 "lower 7 2 0 48 100 poly"
    ∷ refused 1 1 "lower 263 2 0 48 0 poly"
    ∷ refused 1 1 "channel 16 bend 0 pressure 0 brightness 64"
    ∷ refused 1 1 "channel 3 bend 16384 pressure 0 brightness 64"
    ∷ refused 1 1 "channel 3 bend 99999 pressure 0 brightness 64"
    ∷ refused 1 1 "channel 3 bend 0 pressure 128 brightness 64"
    ∷ refused 1 1 "label 123456789012345678901234567890123"
    ∷ refused 1 1 "label \t"
    ∷ refused 1 2 "lower 8 2 0 48 0 poly\nupper 7 2 0 48 0 poly\n"
    ∷ refused 5 1 "channel 3 bend 8192 pressure 0 brightness 64"
    ∷ refused 5 2 "channel 3 bend 0 pressure 0 brightness 64\nchannel 3 bend 1 pressure 0 brightness 64\n"
    ∷ refused 5 2 "upper 7 2 0 48 0 poly\nlower 7 2 0 48 0 poly\n"
    ∷ refused 5 2 "channel 0 bend 0 pressure 0 brightness 64\nupper 7 2 0 48 0 poly\n"
    ∷ refused 5 2 "label a\nchannel 15 bend 0 pressure 0 brightness 64\n"
    ∷ refused 5 2 "label a\nlabel b\n"
    ∷ []

-- the reader answers so, and the writer writes so
pub record TextsAsTabled : Type 0 where
  pub read_so : map (λ e. file_of_text (ascii e.text)) text_table ≡ map (λ e. e.answer) text_table
  pub written_so : text_in (file_read both_zones) ≡ ascii both_zones_text
  pub nothing_written : text_in (file_read (0 ∷ 0 ∷ 0 ∷ [])) ≡ []
