-- The reply for an entry of a setup file, what it leaves of the settings, and its bytes as the fields of a record (document 02, 2026-07).
use Rattle.std.specs.Prelude.{ℕ, List, get_or, Result, Ok, Err}
use Rattle.ump.specs.Outcome.{Outcome, given, declined, out_of_range}
use Rattle.settings.specs.declared.Settings.{Settings}
use Rattle.setup_file.specs.declared.Section.{Section}
use Rattle.setup_file.specs.Format.{number_in, members_from, zone_from, settings_with}
use Rattle.setup_file.specs.Read.{wrong_length, out_of_order, and_then, entry_read}
use Rattle.setup_entry.specs.declared.ZoneEntry.{ZoneEntry}
use Rattle.setup_entry.specs.declared.ChannelEntry.{ChannelEntry}
use Rattle.setup_entry.specs.declared.SetupError.{SetupError}
use Rattle.setup_entry.specs.declared.SetupError.TheVariants as setup_error

-- the reading of a refusal, and of a reply
abbrev pub refused_by : {A : Type 0} → SetupError → Outcome A
refused_by setup_error.OutOfRange = out_of_range
refused_by setup_error.WrongLength = wrong_length
refused_by setup_error.OutOfOrder = out_of_order

abbrev pub setup_read : {A : Type 0} → Result A SetupError → Outcome A
setup_read (Ok a) = given a
setup_read (Err e) = refused_by e

-- the settings with what an entry says that is taken, or why it is refused
abbrev pub entry_answered : Section → ℕ → List ℕ → Settings → Outcome Settings
entry_answered section least bytes s = and_then (entry_read section least bytes) (λ number. given (settings_with section bytes s))

-- the first settings where something was read, and the second where it was refused
abbrev pub settings_by : {A : Type 0} → Outcome A → Settings → Settings → Settings
settings_by (given a) s t = s
settings_by (declined n v) s t = t

-- settings with what an entry says that is taken; one that is refused leaves them as they were
abbrev pub settings_taken : Section → ℕ → List ℕ → Settings → Settings
settings_taken section least bytes s = settings_by (entry_read section least bytes) (settings_with section bytes s) s

-- the bytes of an entry by their names
abbrev pub zone_entry_in : List ℕ → ZoneEntry
zone_entry_in bytes = record { number = number_in bytes; members = members_from bytes; zone = zone_from bytes }

abbrev pub channel_entry_in : List ℕ → ChannelEntry
channel_entry_in bytes =
    record { number = number_in bytes; msb = get_or bytes 1 0; lsb = get_or bytes 2 0; pressure = get_or bytes 3 0; brightness = get_or bytes 4 0 }
