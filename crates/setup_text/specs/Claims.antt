-- What holds of all texts: the text of a file says what the file says, and the file of a text what the text says; and the line that a refusal names is the
-- first at fault.
use Rattle.std.specs.Prelude.{ℕ, suc, ◌<◌, ◌≡◌, ◌⊎◌, List, [], ◌∷◌, ◌++◌, length, take}
use Rattle.ump.specs.Outcome.{given, declined}
use Rattle.settings.specs.declared.Settings.{Settings}
use Rattle.setup_file.specs.Format.{setup_file}
use Rattle.setup_file.specs.Read.{file_read}
use Rattle.setup_text.specs.Text.{setup_text}
use Rattle.setup_text.specs.Parse.{said_by, text_read}

pub record TextForm : Type 0 where
  pub text_back : (file : List ℕ) (s : Settings) (label : List ℕ) → file_read file ≡ given (s, label) → text_read (setup_text s label) ≡ given (s, label)
  pub file_back : (text : List ℕ) (s : Settings) (label : List ℕ) → text_read text ≡ given (s, label) → file_read (setup_file s label) ≡ given (s, label)

-- such a refusal of lines names one of them: without it and those behind it they are taken; with it they are refused; and by 1, 4 or 5
pub record FaultAt (lines : List (List ℕ)) (reason : ℕ) (values : List ℕ) : Type 0 where
  pub before : ℕ
  pub names_next : values ≡ suc before ∷ []
  pub is_line : before < length lines
  pub said : Settings × List ℕ
  pub taken_before : said_by (take before lines) ≡ given said
  pub refused_with : said_by (take (suc before) lines) ≡ declined reason values
  pub reason_is : (reason ≡ 1) ⊎ ((reason ≡ 4) ⊎ (reason ≡ 5))

pub record FirstFault : Type 0 where
  pub fault_at : (lines : List (List ℕ)) (reason : ℕ) (values : List ℕ) → said_by lines ≡ declined reason values → FaultAt lines reason values
  -- and it stands whatever comes behind
  pub stands : (lines more : List (List ℕ)) (reason : ℕ) (values : List ℕ) → said_by lines ≡ declined reason values
      → said_by (lines ++ more) ≡ declined reason values
