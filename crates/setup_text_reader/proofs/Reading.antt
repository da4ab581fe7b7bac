-- Lines are read one after the other: one that is taken leaves the rest to be read, one that is refused gives the answer, with its number.
-- Assumes nothing.
use Prim.Native.Nat.{ℕ, suc}
use mathlib.Core.Path.{◌≡◌, refl, ap, ◌∙◌}
use mathlib.Core.List.{List, ◌∷◌}
use Rattle.ump.specs.Outcome.{given}
use Rattle.setup_file.specs.Read.{and_then}
use Rattle.setup_entry.specs.declared.SetupError.{SetupError}
use Rattle.setup_entry.specs.declared.SetupError.TheVariants as setup_error
use Rattle.setup_entry.specs.Entry.{refused_by}
use Rattle.setup_text.specs.Parse.{SoFar, line_taken, on_line, lines_read}

module _ (number : ℕ) (r : SoFar) (line : List ℕ) (lines : List (List ℕ)) where
  pub line_refused : (q : SetupError) → refused_by q ≡ line_taken r line → on_line number (refused_by q) ≡ lines_read number r (line ∷ lines)
  unfolding lines_read
  line_refused q e = of q ∙ ap (λ o. and_then (on_line number o) (λ next. lines_read (suc number) next lines)) e
    where
      of : (q : SetupError) → on_line number (refused_by q) ≡ and_then (on_line number (refused_by q)) (λ next. lines_read (suc number) next lines)
      of setup_error.OutOfRange = refl
      of setup_error.WrongLength = refl
      of setup_error.OutOfOrder = refl

  pub line_read : (s : SoFar) → given s ≡ line_taken r line → lines_read (suc number) s lines ≡ lines_read number r (line ∷ lines)
  unfolding lines_read
  line_read s e = rw (← e)
