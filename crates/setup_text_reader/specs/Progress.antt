-- How far a text has been read, what the steps of the reader found, and what it answers.
use Rattle.std.specs.Prelude.{ℕ, List, [], ◌∷◌, ◌++◌, map, ltb, length, take, Option, Some, None, Result, Ok, Err}
use Rattle.ump.specs.Choice.{when◌then◌else◌}
use Rattle.ump.specs.Outcome.{Outcome, given}
use Rattle.settings.specs.declared.Settings.{Settings}
use Rattle.setup_file.specs.declared.Section.{Section}
use Rattle.setup_file.specs.declared.Section.TheVariants.{Zones, Channels}
use Rattle.setup_entry.specs.declared.SetupError.{SetupError}
use Rattle.setup_entry.specs.Entry.{refused_by}
use Rattle.setup_text_reader.specs.declared.TextError.{TextError}
use Rattle.setup_text_reader.specs.declared.Item.{Item}
use Rattle.setup_text_reader.specs.declared.Item.TheVariants as item
use Rattle.setup_text_reader.specs.declared.Progress.{Progress}
use Rattle.setup_text.specs.Text.{line_fields}
use Rattle.setup_text.specs.Parse.{no_item, entry_from, Item as TextItem, says_nothing, says_entry, says_label, SoFar, so_far, on_line}

-- what a word says
abbrev pub said_read : Option ℕ → Outcome ℕ
said_read (Some n) = given n
said_read None = no_item

-- the numbers that a line says in the form of a section
abbrev pub numbers_found : Section → Option (List ℕ) → Outcome (List ℕ)
numbers_found section (Some numbers) = given (take (length (line_fields section)) numbers)
numbers_found section None = no_item

-- the item of a line
abbrev pub item_said : Item → TextItem
item_said item.Nothing = says_nothing
item_said (item.Entry section numbers) = says_entry section (entry_from section numbers)
item_said (item.Label label) = says_label label.now

abbrev pub item_found : Result Item SetupError → Outcome TextItem
item_found (Ok i) = given (item_said i)
item_found (Err e) = refused_by e

-- a number as a byte, and the bytes of the entry that the numbers of a line say: one above 255 is 255, which is outside every limit
abbrev pub byte_for : ℕ → ℕ
byte_for n = when ltb n 255 then n else 255

abbrev pub entry_bytes : Section → List ℕ → List ℕ
entry_bytes Zones numbers = map byte_for (entry_from Zones numbers)
entry_bytes Channels numbers = map byte_for (entry_from Channels numbers) ++ (0 ∷ 0 ∷ [])

-- what a text said so far, or why its line is refused
abbrev pub said_so_far : Progress → SoFar
said_so_far p = so_far p.settings p.label.now p.least

abbrev pub read_so_far : Result Progress SetupError → Outcome SoFar
read_so_far (Ok p) = given (said_so_far p)
read_so_far (Err e) = refused_by e

-- what a text is answered: a refusal names the line, and there is no faulty line in one that is read
abbrev pub text_answered : {A : Type 0} → Result A TextError → Outcome A
text_answered (Ok a) = given a
text_answered (Err e) = on_line e.line (refused_by e.refusal)

abbrev pub fault_line : {A : Type 0} → Result A TextError → ℕ
fault_line (Ok a) = 0
fault_line (Err e) = e.line

-- the whole text
abbrev pub whole_read : Result Progress TextError → Outcome (Settings × List ℕ)
whole_read (Ok p) = given (p.settings, p.label.now)
whole_read (Err e) = on_line e.line (refused_by e.refusal)
