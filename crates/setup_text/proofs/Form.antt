-- The text of a file says what the file says, and the file of a text what the text says.
-- Assumes nothing.
use mathlib.Core.Path.{ap, ◌∙◌}
use Rattle.ump.specs.Outcome.{given}
use Rattle.settings.specs.declared.Settings.{Settings}
use Rattle.setup_file.proofs.OnlyForm.{rewritten}
use Rattle.setup_text.specs.Claims.{TextForm}
use Rattle.setup_text.proofs.TextBack.{text-of-settings}
use Rattle.setup_text.proofs.FileBack.{file_back}

pub text-form : TextForm
text-form =
    record {
      text_back = λ file s label e.
          let w = rewritten file s label e in
          text-of-settings s label w.writable ∙ ap (λ (t : Settings). given (t, label)) w.all_seen;
      file_back = file_back;
    }
