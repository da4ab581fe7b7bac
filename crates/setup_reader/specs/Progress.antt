-- How far a setup file has been read (document 02, 2026-07).
use Rattle.std.specs.Prelude.{ℕ, List, Result, Ok, Err}
use Rattle.ump.specs.Outcome.{Outcome, given}
use Rattle.settings.specs.declared.Settings.{Settings}
use Rattle.setup_entry.specs.declared.SetupError.{SetupError}
use Rattle.setup_entry.specs.Entry.{refused_by}
use Rattle.setup_reader.specs.declared.Progress.{Progress}

-- the settings so far and the bytes that are left, or the refusal
abbrev pub progress_read : Result Progress SetupError → Outcome (Settings × List ℕ)
progress_read (Ok p) = given (p.settings, p.rest.now)
progress_read (Err e) = refused_by e
