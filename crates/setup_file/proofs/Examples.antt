-- The table of setup files, by computation.
-- Assumes nothing.
use mathlib.Core.Path.{refl}
use Rattle.mpe_layout.specs.Layout.{legal_counts, legal}
use Rattle.mpe_sender.specs.Writers.{sensitivity_allowed}
use Rattle.settings.specs.Settings.{zone_allowed}
use Rattle.setup_file.specs.Format.{zone_entry_within, channel_entry_within, at_rest, printable}
use Rattle.setup_file.specs.Read.{entry_read, entries_read}
use Rattle.setup_file.specs.Examples.{file_table, FilesAsTabled}

pub files-as-tabled : FilesAsTabled
unfolding legal_counts legal sensitivity_allowed zone_allowed zone_entry_within channel_entry_within at_rest printable entry_read entries_read file_table
files-as-tabled = refl
