-- The text form of a setup file: a line for each entry of the file (document 02, 2026-07), in the file's order, and one for the label. Its words are
-- ours: document 02 has the file alone.
use Rattle.std.specs.Prelude.{ℕ, ltb, eqb, length, get_or, drop}
use Prim.Native.Char.{code}
use Prim.Native.String.{String, [] as empty, ◌∷◌ as ◌then◌}
use mathlib.Core.List.{List, [], ◌∷◌, ◌++◌, map, flatten}
use Rattle.ump.specs.Choice.{when◌then◌else◌}
use Rattle.ump.specs.Outcome.{Outcome, given, declined, too_small}
use Rattle.settings.specs.declared.Settings.{Settings}
use Rattle.setup_file.specs.declared.Section.{Section}
use Rattle.setup_file.specs.declared.Section.TheVariants.{Zones, Channels}
use Rattle.setup_file.specs.Format.{number_in, bend_from, entries_of}
use Rattle.sweep_text.specs.Decimal.{decimal}
use Rattle.sweep_text.specs.Line.{line_end}
use Rattle.setup_text.specs.declared.Field.{Field}
use Rattle.setup_text.specs.declared.Field.TheVariants.{Zone, Mode, Channel, Bend, Pressure, Brightness, Number}

-- the bytes of a quoted text
abbrev pub ascii : String → List ℕ
ascii empty = []
ascii (c then text) = code c ∷ ascii text

-- the words of a line, for example
--   lower 7 2 0 48 0 poly: members, manager semitones and cents, member semitones and cents
--   channel 3 bend 8292 pressure 0 brightness 64
abbrev pub line_fields : Section → List Field
line_fields Zones = Zone ∷ Number ∷ Number ∷ Number ∷ Number ∷ Number ∷ Mode ∷ []
line_fields Channels = Channel ∷ Number ∷ Bend ∷ Number ∷ Pressure ∷ Number ∷ Brightness ∷ Number ∷ []

-- the word for a number: in decimal; of a zone lower for 0 and upper for 1; of a mode poly for 3 and mono for 4; the others stand as they are
abbrev pub field_text : Field → ℕ → List ℕ
field_text Zone n = when eqb n 0 then ascii "lower" else ascii "upper"
field_text Mode n = when eqb n 3 then ascii "poly" else ascii "mono"
field_text Channel n = ascii "channel"
field_text Bend n = ascii "bend"
field_text Pressure n = ascii "pressure"
field_text Brightness n = ascii "brightness"
field_text Number n = decimal n

unfoldable pub field_texts : List Field → List ℕ → List (List ℕ)
field_texts [] numbers = []
field_texts (f ∷ fields) numbers = field_text f (get_or numbers 0 0) ∷ field_texts fields (drop 1 numbers)

-- one space between a word and the next
unfoldable pub spaced : List (List ℕ) → List ℕ
spaced [] = []
spaced (w ∷ []) = w
spaced (w ∷ v ∷ words) = w ++ (0x20 ∷ spaced (v ∷ words))

-- the line that says such numbers, one for each word
abbrev pub line_saying : Section → List ℕ → List ℕ
line_saying section numbers = spaced (field_texts (line_fields section) numbers) ++ line_end

-- the numbers of an entry: of a zone its bytes; of a channel its number, bend, pressure and brightness, each behind its word, which says none
abbrev pub numbers_of : Section → List ℕ → List ℕ
numbers_of Zones entry =
    get_or entry 0 0 ∷ get_or entry 1 0 ∷ get_or entry 2 0 ∷ get_or entry 3 0 ∷ get_or entry 4 0 ∷ get_or entry 5 0 ∷ get_or entry 6 0 ∷ []
numbers_of Channels entry = 0 ∷ number_in entry ∷ 0 ∷ bend_from entry ∷ 0 ∷ get_or entry 3 0 ∷ 0 ∷ get_or entry 4 0 ∷ []

-- the line of an entry of the file
abbrev pub line_of : Section → List ℕ → List ℕ
line_of section entry = line_saying section (numbers_of section entry)

abbrev pub lines_of : Section → List (List ℕ) → List ℕ
lines_of section entries = flatten (map (line_of section) entries)

-- "label " and the label, if it is not empty
abbrev pub label_start : List ℕ
label_start = ascii "label "

abbrev pub label_line : List ℕ → List ℕ
label_line [] = []
label_line (b ∷ label) = label_start ++ (b ∷ label) ++ line_end

-- the text of settings and a label: a line for each zone and each channel that the file lists, and one for the label
abbrev pub setup_text : Settings → List ℕ → List ℕ
setup_text s label = lines_of Zones (entries_of Zones s) ++ lines_of Channels (entries_of Channels s) ++ label_line label

-- of what a file says, what the writer of its text answers: the refusal of the file, then 2 for a buffer that is too small, and else how many bytes were
-- written; and the text that it writes
abbrev pub text_reply : Outcome (Settings × List ℕ) → ℕ → Outcome ℕ
text_reply (given r) got =
    when ltb got (length (setup_text r.0 r.1)) then too_small (length (setup_text r.0 r.1)) got else given (length (setup_text r.0 r.1))
text_reply (declined n v) got = declined n v

abbrev pub text_in : Outcome (Settings × List ℕ) → List ℕ
text_in (given r) = setup_text r.0 r.1
text_in (declined n v) = []
