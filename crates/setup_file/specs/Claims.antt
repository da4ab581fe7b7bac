-- What holds of all setup files: equal settings, in the fields that are read, and equal labels exactly when equal bytes; the leftmost fault decides; and
-- what a course relies on (document 02, 2026-07).
use Rattle.std.specs.Prelude.{ℕ, true, ◌≡◌, ◌⊎◌, List, ◌∷◌, ◌++◌}
use Rattle.ump.specs.Outcome.{given, out_of_range}
use Rattle.receiving_end.specs.declared.end.End.{End}
use Rattle.receiving_end.specs.End.{new_end}
use Rattle.receiving_end.specs.Lists.{Call, after, answers}
use Rattle.settings.specs.declared.Settings.{Settings}
use Rattle.settings.specs.Settings.{allowed}
use Rattle.settings.specs.Messages.{restatement}
use Rattle.settings.specs.Demand.{SwitchesAsNew, Arrives, Shown}
use Rattle.settings.specs.Witnesses.{Met}
use Rattle.setup_file.specs.Format.{label_allowed, setup_file, seen}
use Rattle.setup_file.specs.Read.{wrong_length, out_of_order, file_read}

-- settings and a label that may be written
pub record Writable (s : Settings) (label : List ℕ) : Type 0 where
  pub settings_allowed : allowed s ≡ true
  pub allowed_label : label_allowed label ≡ true

-- what was read may be written, no field of it is left unread, and written again it is the file to the byte
pub record Rewritten (file : List ℕ) (s : Settings) (label : List ℕ) : Type 0 where
  pub writable : Writable s label
  pub all_seen : seen s ≡ s
  pub same_bytes : setup_file s label ≡ file

-- the writer's form is the only one that the reader takes
pub record OnlyForm : Type 0 where
  -- what is written is taken, and gives back the settings in the fields that are read, and the label
  pub read_back : (s : Settings) (label : List ℕ) → Writable s label → file_read (setup_file s label) ≡ given (seen s, label)
  -- what is taken is written again
  pub rewritten : (file : List ℕ) (s : Settings) (label : List ℕ) → file_read file ≡ given (s, label) → Rewritten file s label
  -- equal settings, in the fields that are read, and equal labels exactly when equal bytes
  pub equal_bytes : (s t : Settings) (label other : List ℕ) → Writable s label → Writable t other → seen s ≡ seen t → label ≡ other
      → setup_file s label ≡ setup_file t other
  pub equal_settings : (s t : Settings) (label other : List ℕ) → Writable s label → Writable t other → setup_file s label ≡ setup_file t other
      → (seen s ≡ seen t) × (label ≡ other)

-- the fields that are read are those that the readings of demand 3 show, and no others
pub record SeenIsShown : Type 0 where
  pub same_restatement : (s t : Settings) → seen s ≡ seen t → restatement s ≡ restatement t
  pub same_shown : (s t : Settings) (e : End) → seen s ≡ seen t → Shown s e → Shown t e
  pub shown_alike : (s t : Settings) (e : End) → Shown s e → Shown t e → seen s ≡ seen t

-- the leftmost faulty count, entry or label is reported: whatever comes behind a fault, the refusal stands; a file that is taken is refused by 4 where
-- it is cut short anywhere, and where anything follows it
pub record Leftmost : Type 0 where
  pub refused : (file : List ℕ) → ((r : Settings × List ℕ) → file_read file ≡ given r → ⊥)
      → (file_read file ≡ out_of_range) ⊎ ((file_read file ≡ wrong_length) ⊎ (file_read file ≡ out_of_order))
  pub range_stands : (file more : List ℕ) → file_read file ≡ out_of_range → file_read (file ++ more) ≡ out_of_range
  pub order_stands : (file more : List ℕ) → file_read file ≡ out_of_order → file_read (file ++ more) ≡ out_of_order
  pub goes_on : (file : List ℕ) (b : ℕ) (more : List ℕ) (r : Settings × List ℕ) → file_read file ≡ given r → file_read (file ++ b ∷ more) ≡ wrong_length
  pub cut_short : (file : List ℕ) (b : ℕ) (more : List ℕ) (r : Settings × List ℕ) → file_read (file ++ b ∷ more) ≡ given r → file_read file ≡ wrong_length

-- What a teacher relies on: of a file that is taken, the restatement of what was read, received by any two ends that meet the conditions of demand 3, leaves
-- both showing it, and they answer every later list of calls alike.
pub record CourseShown (file : List ℕ) : Type 0 where
  pub both_show : (s : Settings) (label : List ℕ) → file_read file ≡ given (s, label)
      → (one other one-calls other-calls : List Call)
      → SwitchesAsNew (after new_end one) → Arrives (restatement s) one-calls
      → SwitchesAsNew (after new_end other) → Arrives (restatement s) other-calls
      → Shown s (after (after new_end one) one-calls) × Shown s (after (after new_end other) other-calls)
  pub both_answer : (s : Settings) (label : List ℕ) → file_read file ≡ given (s, label)
      → (one other one-calls other-calls later : List Call)
      → SwitchesAsNew (after new_end one) → Arrives (restatement s) one-calls
      → SwitchesAsNew (after new_end other) → Arrives (restatement s) other-calls
      → answers (after (after new_end one) one-calls) later ≡ answers (after (after new_end other) other-calls) later
  -- lists of calls that meet these conditions
  pub met : (s : Settings) (label : List ℕ) → file_read file ≡ given (s, label) → Met s (restatement s)
