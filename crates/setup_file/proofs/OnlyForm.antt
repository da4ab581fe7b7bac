-- The writer's form of settings and a label is the only one that the reader takes.
-- Assumes nothing.
use Prim.Native.Nat.{ℕ}
use mathlib.Core.Path.{◌≡◌, ap, sym, ◌∙◌}
use mathlib.Core.List.{List}
use Rattle.ump.specs.Outcome.{given}
use Rattle.settings.specs.declared.Settings.{Settings}
use Rattle.setup_file.specs.Format.{setup_file, seen}
use Rattle.setup_file.specs.Read.{file_read}
use Rattle.setup_file.specs.Claims.{Writable, Rewritten, OnlyForm}
use Rattle.setup_file.proofs.Outcomes.{same-given}
use Rattle.setup_file.proofs.ReadBack.{read_back}
use Rattle.setup_file.proofs.Rewritten.{read-written}

pub rewritten : (file : List ℕ) (s : Settings) (label : List ℕ) → file_read file ≡ given (s, label) → Rewritten file s label
rewritten file s label e =
    let w = read-written file s label e in
    record {
      writable = w.0;
      all_seen = ap (λ (r : Settings × List ℕ). r.0) (same-given (seen s, label) (s, label) (sym (read_back s label w.0) ∙ ap file_read w.1 ∙ e));
      same_bytes = w.1;
    }

-- the settings in the fields that are read are the same bytes
seen_bytes : (s : Settings) (label : List ℕ) → Writable s label → setup_file (seen s) label ≡ setup_file s label
seen_bytes s label w = (rewritten (setup_file s label) (seen s) label (read_back s label w)).same_bytes

pub only-form : OnlyForm
only-form =
    record {
      read_back = read_back;
      rewritten = rewritten;
      equal_bytes = λ s t label other v w e f.
          sym (seen_bytes s label v) ∙ ap (λ a. setup_file a label) e ∙ ap (setup_file (seen t)) f ∙ seen_bytes t other w;
      equal_settings = λ s t label other v w e.
          let p = same-given (seen s, label) (seen t, other) (sym (read_back s label v) ∙ ap file_read e ∙ read_back t other w) in
          (ap (λ (r : Settings × List ℕ). r.0) p, ap (λ (r : Settings × List ℕ). r.1) p);
    }
