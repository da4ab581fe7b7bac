-- Setup files and what the reader answers (document 02, 2026-07), as one table.
use Rattle.std.specs.Prelude.{ℕ, ◌≡◌, List, [], ◌∷◌, ◌++◌, map, replicate}
use Rattle.ump.specs.Outcome.{Outcome, given, declined}
use Rattle.mpe_layout.specs.Layout.{layout_of}
use Rattle.settings.specs.declared.Settings.{Settings}
use Rattle.settings.specs.Settings.{new_settings}
use Rattle.setup_file.specs.Read.{file_read}

pub record FileExample : Type 0 where
  pub file : List ℕ
  pub answer : Outcome (Settings × List ℕ)

abbrev example : List ℕ → Outcome (Settings × List ℕ) → FileExample
example f a = record { file = f; answer = a }

-- entries: Lower or Upper with so many members, 2/0, 48/0, mode 3; a channel that is bent by a quarter of the range; one at rest
abbrev zone_of_mode : ℕ → ℕ → ℕ → List ℕ
zone_of_mode number members mode = number ∷ members ∷ 2 ∷ 0 ∷ 48 ∷ 0 ∷ mode ∷ []

abbrev zone_with : ℕ → ℕ → List ℕ
zone_with number members = zone_of_mode number members 3

abbrev bent_channel : ℕ → List ℕ
bent_channel number = number ∷ 0x50 ∷ 0 ∷ 0 ∷ 64 ∷ []

abbrev resting_channel : ℕ → List ℕ
resting_channel number = number ∷ 0x40 ∷ 0 ∷ 0 ∷ 64 ∷ []

-- Both zones with other numbers in each field, channels 3 and 15, and a label; and the settings that it says, field by field.
abbrev good_file : List ℕ
good_file =
    2 ∷ (0 ∷ 7 ∷ 1 ∷ 2 ∷ 3 ∷ 4 ∷ 3 ∷ []) ++ (1 ∷ 6 ∷ 5 ∷ 6 ∷ 7 ∷ 8 ∷ 4 ∷ [])
    ++ 2 ∷ (3 ∷ 0x50 ∷ 1 ∷ 9 ∷ 10 ∷ []) ++ (15 ∷ 0 ∷ 0x7F ∷ 11 ∷ 12 ∷ [])
    ++ 2 ∷ 0x20 ∷ 0x7E ∷ []

abbrev good_settings : Settings
good_settings =
    record {
      layout = layout_of 7 6;
      lower = record { manager = record { semitones = 1; cents = 2 }; member = record { semitones = 3; cents = 4 }; mode = 3 };
      upper = record { manager = record { semitones = 5; cents = 6 }; member = record { semitones = 7; cents = 8 }; mode = 4 };
      pitch_bend = replicate 3 0x2000 ++ 0x2801 ∷ replicate 11 0x2000 ++ 0x7F ∷ [];
      pressure = replicate 3 0 ++ 9 ∷ replicate 11 0 ++ 11 ∷ [];
      brightness = replicate 3 64 ++ 10 ∷ replicate 11 64 ++ 12 ∷ [];
    }

-- the refusals, by their numbers
abbrev refused_by : ℕ → Outcome (Settings × List ℕ)
refused_by n = declined n []

unfoldable pub file_table : List FileExample
file_table =
    example (0 ∷ 0 ∷ 0 ∷ []) (given (new_settings, []))
    ∷ example good_file (given (good_settings, 0x20 ∷ 0x7E ∷ []))
    ∷ example [] (refused_by 4)
    ∷ example (3 ∷ []) (refused_by 1)
    ∷ example (1 ∷ []) (refused_by 4)
    ∷ example (1 ∷ 0 ∷ 0 ∷ []) (refused_by 4)
    ∷ example (1 ∷ zone_with 2 7) (refused_by 1)
    ∷ example (1 ∷ zone_with 0 0) (refused_by 1)
    ∷ example (1 ∷ zone_of_mode 0 7 5) (refused_by 1)
    ∷ example (2 ∷ zone_with 1 7 ++ zone_with 0 7) (refused_by 5)
    ∷ example (2 ∷ zone_with 0 7 ++ zone_with 0 7) (refused_by 5)
    ∷ example (2 ∷ zone_with 0 7 ++ zone_with 0 16) (refused_by 1)
    ∷ example (2 ∷ zone_with 0 8 ++ zone_with 1 7) (refused_by 1)
    ∷ example (2 ∷ zone_with 0 8 ++ 1 ∷ 7 ∷ []) (refused_by 4)
    ∷ example (2 ∷ zone_with 1 8 ++ zone_with 0 7) (refused_by 5)
    ∷ example (0 ∷ 17 ∷ []) (refused_by 1)
    ∷ example (0 ∷ 1 ∷ 16 ∷ []) (refused_by 4)
    ∷ example (0 ∷ 1 ∷ resting_channel 3) (refused_by 5)
    ∷ example (0 ∷ 1 ∷ resting_channel 16) (refused_by 1)
    ∷ example (0 ∷ 2 ∷ bent_channel 3 ++ bent_channel 3) (refused_by 5)
    ∷ example (0 ∷ 2 ∷ bent_channel 3 ++ 3 ∷ 0x50 ∷ 0 ∷ 128 ∷ 64 ∷ []) (refused_by 1)
    ∷ example (0 ∷ 0 ∷ 33 ∷ []) (refused_by 1)
    ∷ example (0 ∷ 0 ∷ 2 ∷ 0x49 ∷ []) (refused_by 4)
    ∷ example (0 ∷ 0 ∷ 2 ∷ 0x7F ∷ []) (refused_by 4)
    ∷ example (good_file ++ 0 ∷ []) (refused_by 4)
    ∷ example (0 ∷ 0 ∷ 1 ∷ 0x1F ∷ 0 ∷ []) (refused_by 1)
    ∷ []

-- the reader answers so
abbrev pub FilesAsTabled : Type 0
FilesAsTabled = map (λ e. file_read e.file) file_table ≡ map (λ e. e.answer) file_table
