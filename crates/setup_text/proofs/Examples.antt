-- The tables of texts and files, computed.
-- Assumes nothing.
use mathlib.Core.Path.{refl}
use mathlib.Core.List.{flatten}
use Rattle.mpe_layout.specs.Layout.{legal_counts, legal}
use Rattle.mpe_sender.specs.Writers.{sensitivity_allowed}
use Rattle.settings.specs.Settings.{zone_allowed}
use Rattle.setup_file.specs.Format.{zone_entry_within, channel_entry_within, at_rest, entries_from, printable, label_allowed}
use Rattle.setup_file.specs.Read.{entry_read, entries_read}
use Rattle.sweep_text.specs.Decimal.{digits_in}
use Rattle.setup_text.specs.Text.{field_texts, spaced}
use Rattle.setup_text.specs.Parse.{parts_at, digits_read, number_read, same_bytes, field_read, fields_read, item_read, entry_taken, label_taken, lines_read}
use Rattle.setup_text.specs.Examples.{text_table, TextsAsTabled}

pub texts-as-tabled : TextsAsTabled
unfolding flatten text_table legal legal_counts sensitivity_allowed zone_allowed zone_entry_within channel_entry_within at_rest entries_from printable label_allowed entry_read entries_read digits_in field_texts spaced parts_at digits_read number_read same_bytes field_read fields_read item_read entry_taken label_taken lines_read
texts-as-tabled = record { read_so = refl; written_so = refl; nothing_written = refl }
