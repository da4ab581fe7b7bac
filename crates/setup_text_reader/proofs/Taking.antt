-- An entry or a label after what was said so far, by the reply for it.
-- Assumes nothing.
use Prim.Native.Nat.{ℕ, suc, ◌+◌, ◌-◌}
use mathlib.Core.Path.{◌≡◌, sym, ◌∙◌}
use mathlib.Core.Bool.{true, false}
use mathlib.Core.List.{List}
use native.Mathlib.Numerals.{add-one}
use Rattle.ump.specs.Outcome.{given, out_of_range}
use Rattle.mpe_layout.specs.Layout.{legal}
use Rattle.settings.specs.declared.Settings.{Settings}
use Rattle.setup_file.specs.declared.Section.{Section}
use Rattle.setup_file.specs.Format.{number_in, settings_with}
use Rattle.setup_file.specs.Read.{entry_read}
use Rattle.setup_file.proofs.Taken.{taken-read, read_taken}
use Rattle.setup_entry.specs.declared.SetupError.{SetupError}
use Rattle.setup_entry.specs.Entry.{refused_by, entry_answered}
use Rattle.setup_entry.proofs.Onward.{entry-taken, settings-with, refused-alike}
use Rattle.setup_text.specs.Parse.{SoFar, so_far, first_place, pair_tested, entry_taken, entry_from}
use Rattle.setup_text_reader.specs.Progress.{entry_bytes}
use Rattle.setup_text_reader.proofs.Capped.{capped-read, capped-with}

module _ (section : Section) (numbers : List ℕ) (so : SoFar) where
  -- an entry that is refused
  pub numbers-refused : (q : SetupError) → refused_by q ≡ entry_answered section (so.least - first_place section) (entry_bytes section numbers) so.settings
      → refused_by q ≡ entry_taken section (entry_from section numbers) so
  unfolding entry_taken
  numbers-refused q e =
      rw (← capped-read section (so.least - first_place section) numbers)
      (refused-alike q (entry_read section (so.least - first_place section) (entry_bytes section numbers))
      (λ n. settings_with section (entry_bytes section numbers) so.settings)
      (λ number. pair_tested (settings_with section (entry_from section numbers) so.settings) so.label (suc (first_place section + number))) e)

  -- or taken
  module _ (s : Settings) (e : given s ≡ entry_answered section (so.least - first_place section) (entry_bytes section numbers) so.settings) where
    number_is : entry_read section (so.least - first_place section) (entry_from section numbers) ≡ given (number_in (entry_bytes section numbers))
    number_is =
        sym (capped-read section (so.least - first_place section) numbers)
        ∙ taken-read section (so.least - first_place section) (entry_bytes section numbers)
        (entry-taken section (so.least - first_place section) (entry_bytes section numbers) so.settings s e)

    settings-are : settings_with section (entry_from section numbers) so.settings ≡ s
    settings-are =
        sym (capped-with section numbers (read_taken section (so.least - first_place section) (entry_from section numbers) number_is).0.within so.settings)
        ∙ settings-with section (so.least - first_place section) (entry_bytes section numbers) so.settings s e

    pub pair-refused : legal s.layout ≡ false → out_of_range ≡ entry_taken section (entry_from section numbers) so
    unfolding entry_taken
    pair-refused l = rw (number_is, settings-are, l)

    pub numbers-taken : legal s.layout ≡ true
        → given (so_far s so.label (first_place section + number_in (entry_bytes section numbers) + 1)) ≡ entry_taken section (entry_from section numbers) so
    unfolding entry_taken
    numbers-taken l = rw (number_is, settings-are, l, add-one)
