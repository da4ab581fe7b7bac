-- The words of a line are read one after the other: each adds a number, or the line has not this form.
-- Assumes nothing.
use Prim.Native.Nat.{ℕ, suc, ◌+◌, ◌<◌, ◌≤◌}
use mathlib.Core.Path.{◌≡◌, refl, sym, ap, ◌∙◌}
use mathlib.Core.List.{List, [], ◌∷◌, ◌++◌, append-nil, append_assoc}
use native.Mathlib.Numerals.{add-one}
use lib.ListN.{length, get_or, take, drop, set, drop_of_length-le}
use lib.Seq.{drop-cons, take-suc-set}
use Rattle.ump.specs.Outcome.{Outcome, given, declined, joined, followed_by}
use Rattle.setup_text.specs.declared.Field.{Field}
use Rattle.setup_text.specs.declared.Field.TheVariants as field
use Rattle.setup_text.specs.Parse.{no_item, field_read, fields_read}

-- some numbers, and those that the words that are left say
abbrev pub numbers_on : List ℕ → List Field → List (List ℕ) → Outcome (List ℕ)
numbers_on said fields words = followed_by (given said) (fields_read fields words)

nothing-before : (o : Outcome (List ℕ)) → followed_by (given []) o ≡ o
nothing-before (given l) = refl
nothing-before (declined n v) = refl

one-before : (said : List ℕ) (n : ℕ) (o : Outcome (List ℕ)) → followed_by (given said) (joined (given n) o) ≡ followed_by (given (said ++ (n ∷ []))) o
one-before said n (given l) = ap given (sym (append_assoc said (n ∷ []) l))
one-before said n (declined r v) = refl

pub numbers-start : (fields : List Field) (words : List (List ℕ)) → numbers_on [] fields words ≡ fields_read fields words
numbers-start fields words = nothing-before (fields_read fields words)

module _ (said : List ℕ) (fields : List Field) (k : ℕ) where
  module _ (h : k < length fields) where
    -- a word is missing
    pub numbers-short : numbers_on said (drop k fields) [] ≡ no_item
    unfolding fields_read
    numbers-short = rw (drop-cons fields k field.Number h)

    module _ (word : List ℕ) (words : List (List ℕ)) where
      -- a word says nothing that belongs there
      pub numbers-other : field_read (get_or fields k field.Number) word ≡ no_item → numbers_on said (drop k fields) (word ∷ words) ≡ no_item
      unfolding fields_read
      numbers-other n = rw (drop-cons fields k field.Number h, n)

      -- or it says a number
      pub numbers_more : (n : ℕ) → field_read (get_or fields k field.Number) word ≡ given n
          → numbers_on said (drop k fields) (word ∷ words) ≡ numbers_on (said ++ (n ∷ [])) (drop (k + 1) fields) words
      unfolding fields_read
      numbers_more n g =
          rw (drop-cons fields k field.Number h, g, add-one k) (one-before said n (fields_read (drop (suc k) fields) words))

  -- every field has its word: the line ends, or goes on
  module _ (h : length fields ≤ k) where
    pub numbers-end : numbers_on said (drop k fields) [] ≡ given said
    unfolding fields_read
    numbers-end = ap (λ f. numbers_on said f []) (drop_of_length-le fields h) ∙ rw (append-nil said)

    pub numbers-over : (word : List ℕ) (words : List (List ℕ)) → numbers_on said (drop k fields) (word ∷ words) ≡ no_item
    unfolding fields_read
    numbers-over word words = ap (λ f. numbers_on said f (word ∷ words)) (drop_of_length-le fields h)

-- one number more in the array
pub taken_more : (l : List ℕ) (k n : ℕ) → k < length l → take (k + 1) (set l k n) ≡ take k l ++ (n ∷ [])
taken_more l k n h = rw (add-one k) (take-suc-set l k n h)
