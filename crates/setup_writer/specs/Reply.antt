-- What the writer of a setup file answers, and how long a file is (document 02, 2026-07).
use Rattle.std.specs.Prelude.{ℕ, ◌+◌, ◌*◌, ◌≤◌, ◌≡◌, List, ltb, length}
use Rattle.ump.specs.Choice.{when◌then◌else◌}
use Rattle.ump.specs.Outcome.{Outcome, given, out_of_range, too_small}
use Rattle.settings.specs.declared.Settings.{Settings}
use Rattle.settings.specs.Settings.{allowed}
use Rattle.setup_file.specs.declared.Section.TheVariants.{Zones, Channels}
use Rattle.setup_file.specs.Format.{label_allowed, entries_of, setup_file}
use Rattle.setup_file.specs.Claims.{Writable}

-- 1 for settings that are not legal or a label past its limits, then 2 for a buffer that is too small, and else how many bytes were written
unfoldable pub file_reply : Settings → List ℕ → ℕ → Outcome ℕ
file_reply s label got =
    when allowed s then
    (when label_allowed label then
    (when ltb got (length (setup_file s label)) then too_small (length (setup_file s label)) got else given (length (setup_file s label)))
    else out_of_range)
    else out_of_range

-- three counts, seven bytes for each zone with members, five for each channel that is not at rest, and the label: at most 129
pub record FileSizes : Type 0 where
  pub size : (s : Settings) (label : List ℕ)
      → length (setup_file s label) ≡ 3 + 7 * length (entries_of Zones s) + 5 * length (entries_of Channels s) + length label
  pub at_most : (s : Settings) (label : List ℕ) → Writable s label → length (setup_file s label) ≤ 129
