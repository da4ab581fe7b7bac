-- What the writer of a setup file answers, test by test, and what a count says.
-- Assumes nothing.
use Prim.Native.Nat.{ℕ, ◌<◌, ◌≤◌}
use mathlib.Core.Path.{◌≡◌, refl}
use mathlib.Core.Bool.{Bool, true, false}
use mathlib.Core.List.{List}
use native.Mathlib.Omega.{arith}
use lib.Dec.{ltb}
use lib.ListN.{length}
use borrow.Author.Tests.{lt-ltb, le-ltb, ltb-false}
use Rattle.ump.specs.Choice.{when◌then◌else◌}
use Rattle.ump.specs.Outcome.{given, out_of_range, too_small}
use Rattle.settings.specs.declared.Settings.{Settings}
use Rattle.settings.specs.Settings.{allowed}
use Rattle.setup_file.specs.Format.{label_allowed, setup_file}
use Rattle.setup_file.specs.Claims.{Writable}
use Rattle.setup_writer.specs.Reply.{file_reply}

module _ (s : Settings) (label : List ℕ) (got : ℕ) where
  pub settings-refused : allowed s ≡ false → out_of_range ≡ file_reply s label got
  unfolding file_reply
  settings-refused h = rw h

  pub label-refused : allowed s ≡ true → label_allowed label ≡ false → out_of_range ≡ file_reply s label got
  unfolding file_reply
  label-refused h l = rw (h, l)

  module _ (h : allowed s ≡ true) (l : label_allowed label ≡ true) {needed : ℕ} (n : needed ≡ length (setup_file s label)) where
    pub too_small_lem : got < needed → too_small needed got ≡ file_reply s label got
    unfolding file_reply
    too_small_lem short = rw (h, l, ← n, lt-ltb got needed short)

    pub fitting : needed ≤ got → given needed ≡ file_reply s label got
    unfolding file_reply
    fitting fits = rw (h, l, ← n, le-ltb got needed fits)

  -- a count: the settings and the label may be written, it is what is needed, and the buffer holds it
  pub record Counted (n : ℕ) : Type 0 where
    pub writable : Writable s label
    pub is-needed : length (setup_file s label) ≡ n
    pub fits : length (setup_file s label) ≤ got

  pub counted : (n : ℕ) → given n ≡ file_reply s label got → Counted n
  unfolding file_reply
  counted n e =
      let c = cases (allowed s) (label_allowed label) (ltb got (length (setup_file s label))) (length (setup_file s label)) e in
      record {
        writable = record { settings_allowed = c.0; allowed_label = c.1 };
        is-needed = c.3;
        fits = ltb-false got (length (setup_file s label)) c.2;
      }
    where
      cases : (a b c : Bool) (m : ℕ) → given n ≡ (when a then (when b then (when c then too_small m got else given m) else out_of_range) else out_of_range)
          → (a ≡ true) × (b ≡ true) × (c ≡ false) × (m ≡ n)
      cases false b c m e = absurd (let z : ◌≡◌ {A = ℕ} 0 1 = cc in omega arith)
      cases true false c m e = absurd (let z : ◌≡◌ {A = ℕ} 0 1 = cc in omega arith)
      cases true true true m e = absurd (let z : ◌≡◌ {A = ℕ} 0 1 = cc in omega arith)
      cases true true false m e = (refl, refl, refl, cc)
