-- What a course relies on: what was read from a file that is taken, restated to two ends, is shown by both, and they answer alike.
-- Assumes nothing.
use Prim.Native.Nat.{ℕ}
use mathlib.Core.Path.{◌≡◌, sym, ◌∙◌}
use mathlib.Core.List.{List}
use Rattle.ump.specs.Outcome.{given}
use Rattle.settings.specs.declared.Settings.{Settings}
use Rattle.settings.specs.Messages.{restatement}
use Rattle.settings.specs.Demand.{Demand}
use Rattle.settings.proofs.Demand.{demand-holds}
use Rattle.settings.proofs.Witnesses.{demand-met}
use Rattle.setup_file.specs.Read.{file_read}
use Rattle.setup_file.specs.Claims.{CourseShown}
use Rattle.setup_file.proofs.OnlyForm.{rewritten}

-- settings that were read are allowed, so demand 3 holds of their restatement
read-demand : (file : List ℕ) (s : Settings) (label : List ℕ) → file_read file ≡ given (s, label) → Demand s (restatement s)
read-demand file s label e = demand-holds s (rewritten file s label e).writable.settings_allowed

pub course-shown : (file : List ℕ) → CourseShown file
course-shown file =
    record {
      both_show = λ s label e one other one-calls other-calls as-new arrive as-new' arrive'.
          let d = read-demand file s label e in
          (d.shown one one-calls as-new arrive, d.shown other other-calls as-new' arrive');
      both_answer = λ s label e one other one-calls other-calls later as-new arrive as-new' arrive'.
          let d = read-demand file s label e in
          d.answered_alike one one-calls later as-new arrive ∙ sym (d.answered_alike other other-calls later as-new' arrive');
      met = λ s label e. demand-met s (rewritten file s label e).writable.settings_allowed;
    }
