-- What a text says, or the refusal of its first faulty line, with the number of the line, counted from 1. The numbers are those of the file (document 02,
-- 2026-07): 1, out of range; 5, an entry or a label out of order, or a channel at rest; and 4 is a line that has not the words of an item.
use Rattle.std.specs.Prelude.{ℕ, suc, ◌+◌, ◌-◌, ◌*◌, Bool, true, List, [], ◌∷◌, ltb, eqb, nat_eq, length, get_or, take, drop}
use Rattle.std.specs.List.{slice_split}
use lib.Pointwise.{pointwise}
use Rattle.ump.specs.Choice.{when◌then◌else◌}
use Rattle.ump.specs.Outcome.{Outcome, given, declined, out_of_range, joined}
use Rattle.mpe_layout.specs.Layout.{legal}
use Rattle.settings.specs.declared.Settings.{Settings}
use Rattle.settings.specs.Settings.{new_settings}
use Rattle.setup_file.specs.declared.Section.{Section}
use Rattle.setup_file.specs.declared.Section.TheVariants.{Zones, Channels}
use Rattle.setup_file.specs.Format.{most, number_in, members_from, zone_from, zone_entry, channel_entry, label_allowed, settings_with, setup_file}
use Rattle.setup_file.specs.Read.{wrong_length, out_of_order, and_then, entry_read}
use Rattle.setup_text.specs.declared.Field.{Field}
use Rattle.setup_text.specs.declared.Field.TheVariants.{Zone, Mode, Channel, Bend, Pressure, Brightness, Number}
use Rattle.setup_text.specs.Text.{ascii, line_fields, label_start}

-- 4: words are missing, there are more, or they are others
abbrev pub no_item : {A : Type 0} → Outcome A
no_item = wrong_length

-- the parts of a text between one such byte and the next
unfoldable pub parts_at : ℕ → List ℕ → List (List ℕ)
parts_at stop text = slice_split (λ b. eqb b stop) text

-- lines, up to LF; the last may lack it, or is empty
abbrev pub text_lines : List ℕ → List (List ℕ)
text_lines text = parts_at 0x0A text

-- words, with one space between them
abbrev pub line_words : List ℕ → List (List ℕ)
line_words line = parts_at 0x20 line

-- a number: 1 to 5 decimal digits
unfoldable pub digits_read : ℕ → List ℕ → Outcome ℕ
digits_read before [] = given before
digits_read before (d ∷ digits) =
    when ltb d 0x30 then no_item else
    when ltb 0x39 d then no_item else
    digits_read (10 * before + (d - 0x30)) digits

unfoldable pub number_read : List ℕ → Outcome ℕ
number_read word =
    when eqb (length word) 0 then no_item else
    when ltb 5 (length word) then no_item else
    digits_read 0 word

unfoldable pub same_bytes : List ℕ → List ℕ → Bool
same_bytes l m = pointwise nat_eq l m

-- the number that a word says; a word that has to stand as it is says 0
unfoldable pub field_read : Field → List ℕ → Outcome ℕ
field_read Zone word = when same_bytes word (ascii "lower") then given 0 else when same_bytes word (ascii "upper") then given 1 else no_item
field_read Mode word = when same_bytes word (ascii "poly") then given 3 else when same_bytes word (ascii "mono") then given 4 else no_item
field_read Channel word = when same_bytes word (ascii "channel") then given 0 else no_item
field_read Bend word = when same_bytes word (ascii "bend") then given 0 else no_item
field_read Pressure word = when same_bytes word (ascii "pressure") then given 0 else no_item
field_read Brightness word = when same_bytes word (ascii "brightness") then given 0 else no_item
field_read Number word = number_read word

-- the numbers that all words of a line say
unfoldable pub fields_read : List Field → List (List ℕ) → Outcome (List ℕ)
fields_read [] [] = given []
fields_read [] (w ∷ words) = no_item
fields_read (f ∷ fields) [] = no_item
fields_read (f ∷ fields) (w ∷ words) = joined (field_read f w) (fields_read fields words)

-- the entry of the file that they say
abbrev pub entry_from : Section → List ℕ → List ℕ
entry_from Zones numbers = zone_entry (number_in numbers) (members_from numbers) (zone_from numbers)
entry_from Channels numbers = channel_entry (get_or numbers 1 0) (get_or numbers 3 0) (get_or numbers 5 0) (get_or numbers 7 0)

-- what a line says: nothing, an entry of the file, or the label
pub data Item : Type 0 where
  says_nothing : Item
  says_entry : Section → List ℕ → Item
  says_label : List ℕ → Item

-- an empty line and one that begins with '#' say nothing
abbrev pub silent : List ℕ → Bool
silent [] = true
silent (b ∷ line) = eqb b 0x23

abbrev pub entry_line_read : Section → List ℕ → Outcome Item
entry_line_read section line = and_then (fields_read (line_fields section) (line_words line)) (λ numbers. given (says_entry section (entry_from section numbers)))

abbrev pub or_else : {A : Type 0} → Outcome A → Outcome A → Outcome A
or_else (given a) other = given a
or_else (declined n v) other = other

unfoldable pub item_read : List ℕ → Outcome Item
item_read line =
    when silent line then given says_nothing else
    when same_bytes (take 6 line) label_start then given (says_label (drop 6 line)) else
    or_else (entry_line_read Zones line) (entry_line_read Channels line)

-- what the lines so far have said, and the least place that the next item may have
pub record SoFar : Type 0 where
  pub settings : Settings
  pub label : List ℕ
  pub least : ℕ

abbrev pub so_far : Settings → List ℕ → ℕ → SoFar
so_far settings label least = record { settings = settings; label = label; least = least }

abbrev pub nothing_said : SoFar
nothing_said = so_far new_settings [] 0

-- the places: Lower 0, Upper 1, channels 2 to 17, the label 18
abbrev pub first_place : Section → ℕ
first_place Zones = 0
first_place Channels = most Zones

abbrev pub label_place : ℕ
label_place = most Zones + most Channels

-- an entry is taken as in a file, if its place comes after those before it; and the zones have to be a legal pair
abbrev pub pair_tested : Settings → List ℕ → ℕ → Outcome SoFar
pair_tested s label least = when legal s.layout then given (so_far s label least) else out_of_range

unfoldable pub entry_taken : Section → List ℕ → SoFar → Outcome SoFar
entry_taken section entry r =
    and_then (entry_read section (r.least - first_place section) entry)
    (λ number. pair_tested (settings_with section entry r.settings) r.label (suc (first_place section + number)))

-- a label is taken once, after the entries
unfoldable pub label_taken : List ℕ → SoFar → Outcome SoFar
label_taken label r =
    when label_allowed label then
    (when ltb label_place r.least then out_of_order else given (so_far r.settings label (suc label_place)))
    else out_of_range

abbrev pub item_taken : SoFar → Item → Outcome SoFar
item_taken r says_nothing = given r
item_taken r (says_entry section entry) = entry_taken section entry r
item_taken r (says_label label) = label_taken label r

abbrev pub line_taken : SoFar → List ℕ → Outcome SoFar
line_taken r line = and_then (item_read line) (item_taken r)

-- a refusal names the line
abbrev pub on_line : {A : Type 0} → ℕ → Outcome A → Outcome A
on_line number (given a) = given a
on_line number (declined reason v) = declined reason (number ∷ [])

-- the lines from such a number on, after what was said so far
unfoldable pub lines_read : ℕ → SoFar → List (List ℕ) → Outcome (Settings × List ℕ)
lines_read number r [] = given (r.settings, r.label)
lines_read number r (line ∷ lines) = and_then (on_line number (line_taken r line)) (λ next. lines_read (suc number) next lines)

-- the settings and the label that a text says; what it does not say is as in new settings
abbrev pub said_by : List (List ℕ) → Outcome (Settings × List ℕ)
said_by lines = lines_read 1 nothing_said lines

abbrev pub text_read : List ℕ → Outcome (Settings × List ℕ)
text_read text = said_by (text_lines text)

-- the file of what a text says
abbrev pub file_of_text : List ℕ → Outcome (List ℕ)
file_of_text text = and_then (text_read text) (λ r. given (setup_file r.0 r.1))

-- the faulty line, and 0 where there is none
abbrev pub line_in : Outcome (Settings × List ℕ) → ℕ
line_in (given r) = 0
line_in (declined reason lines) = get_or lines 0 0
