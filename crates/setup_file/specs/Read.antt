-- What a setup file says, or the refusal of its leftmost faulty count, entry or label (document 02, 2026-07).
use Rattle.std.specs.Prelude.{ℕ, zero, suc, List, [], ◌∷◌, ltb, length, take, drop}
use Rattle.ump.specs.Choice.{when◌then◌else◌}
use Rattle.ump.specs.Outcome.{Outcome, given, declined, out_of_range}
use Rattle.mpe_layout.specs.Layout.{legal}
use Rattle.settings.specs.declared.Settings.{Settings}
use Rattle.settings.specs.Settings.{new_settings}
use Rattle.setup_file.specs.declared.Section.{Section}
use Rattle.setup_file.specs.declared.Section.TheVariants.{Zones, Channels}
use Rattle.setup_file.specs.Format.{most, entry_size, number_in, entry_within, unlisted, settings_with, most_label, printable}

-- 4, the file ends before or inside a section, or goes on after the label
abbrev pub wrong_length : {A : Type 0} → Outcome A
wrong_length = declined 4 []

-- 5, an entry out of rising order, or a channel at rest
abbrev pub out_of_order : {A : Type 0} → Outcome A
out_of_order = declined 5 []

-- what follows something that was read; the refusal, if it was refused
abbrev pub and_then : {A B : Type 0} → Outcome A → (A → Outcome B) → Outcome B
and_then (given a) next = next a
and_then (declined n v) next = declined n v

-- An entry at the front of these bytes, whose number has to be `least` or more, gives its number. One that is cut short is 4, whatever it holds; in a
-- whole entry 1 goes before 5.
unfoldable pub entry_read : Section → ℕ → List ℕ → Outcome ℕ
entry_read section least bytes =
    when ltb (length bytes) (entry_size section) then wrong_length else
    when entry_within section bytes then
    (when ltb (number_in bytes) least then out_of_order else when unlisted section bytes then out_of_order else given (number_in bytes))
    else out_of_range

-- so many entries, from left to right, rising without repeats: the settings with what they say, and the bytes after them
unfoldable pub entries_read : Section → ℕ → ℕ → Settings → List ℕ → Outcome (Settings × List ℕ)
entries_read section zero least s bytes = given (s, bytes)
entries_read section (suc left) least s bytes =
    and_then (entry_read section least bytes)
    (λ number. entries_read section left (suc number) (settings_with section bytes s) (drop (entry_size section) bytes))

-- a section: a count over its limit is 1 where it stands
abbrev pub section_read : Section → Settings → List ℕ → Outcome (Settings × List ℕ)
section_read section s [] = wrong_length
section_read section s (count ∷ bytes) = when ltb (most section) count then out_of_range else entries_read section count 0 s bytes

-- the zones; their pair is tested after its section and before the channels' count
abbrev pub zones_read : List ℕ → Outcome (Settings × List ℕ)
zones_read bytes = and_then (section_read Zones new_settings bytes) (λ r. when legal r.0.layout then given r else out_of_range)

-- the label, and nothing after it: cut short it is 4, whatever it holds; whole, with a byte outside 0x20 to 0x7E, it is 1, and what follows it is 4
abbrev pub label_read : Settings → List ℕ → Outcome (Settings × List ℕ)
label_read s [] = wrong_length
label_read s (count ∷ bytes) =
    when ltb most_label count then out_of_range else
    when ltb (length bytes) count then wrong_length else
    when printable (take count bytes) then (when ltb count (length bytes) then wrong_length else given (s, bytes)) else out_of_range

-- the settings and the label of a file: zones, channels, label; what an entry does not say is as in new settings
abbrev pub file_read : List ℕ → Outcome (Settings × List ℕ)
file_read file =
    and_then (zones_read file)
    (λ z. and_then (section_read Channels z.0 z.1)
    (λ c. label_read c.0 c.1))

-- of these, what a call hands back: the settings or the refusal; settings in any case, new ones where the file is refused; and the label, empty there
abbrev pub settings_in : Outcome (Settings × List ℕ) → Outcome Settings
settings_in (given r) = given r.0
settings_in (declined n v) = declined n v

abbrev pub settings_or_new : Outcome (Settings × List ℕ) → Settings
settings_or_new (given r) = r.0
settings_or_new (declined n v) = new_settings

abbrev pub label_in : Outcome (Settings × List ℕ) → List ℕ
label_in (given r) = r.1
label_in (declined n v) = []
