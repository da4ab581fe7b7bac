-- What is written is read back: a number, a word, the words of a line, and the line.
-- Assumes nothing.
use Prim.Native.Nat.{ℕ, zero, suc, ◌+◌, ◌*◌, ◌-◌, ◌<◌, ◌≤◌}
use mathlib.Core.Path.{◌≡◌, refl, ap, ◌∙◌}
use mathlib.Core.Bool.{true, false}
use mathlib.Core.Logic.{◌⊎◌, inl, inr, ⊎_elim}
use mathlib.Core.List.{List, [], ◌∷◌}
use native.Mathlib.Omega.{arith}
use lib.Dec.{eqb}
use lib.ListN.{length, get_or, take, drop}
use borrow.Author.Tests.{ne_eqb, le-ltb}
use Rattle.ump.specs.Outcome.{given}
use Rattle.ump.proofs.Cases.{by-test}
use Rattle.settings.specs.declared.Settings.{Settings}
use Rattle.settings.specs.Settings.{bend_on}
use Rattle.setup_file.specs.declared.Section.{Section}
use Rattle.setup_file.specs.declared.Section.TheVariants.{Zones, Channels}
use Rattle.setup_file.specs.Format.{entry_within, entry_of}
use Rattle.setup_file.specs.Read.{and_then}
use Rattle.setup_file.proofs.Entries.{within-number, channel-within}
use Rattle.sweep_text.specs.Decimal.{decimal}
use Rattle.sweep_text.specs.Claims.{number_said, AllDigits}
use Rattle.sweep_text.proofs.Digits.{digits-read}
use Rattle.setup_text.specs.declared.Field.{Field}
use Rattle.setup_text.specs.declared.Field.TheVariants as field
use Rattle.setup_text.specs.Text.{line_fields, field_text, field_texts, spaced, numbers_of, label_start}
use Rattle.setup_text.specs.Parse.{no_item, parts_at, line_words, digits_read, number_read, same_bytes, field_read, fields_read, entry_from, says_entry, silent, entry_line_read, or_else, item_read}
use Rattle.setup_text.proofs.Limits.{zone-limits, bend-whole}
use Rattle.setup_text.proofs.Parts.{Without, without-append, parts-one, parts_more}
use Rattle.setup_text.proofs.DigitCounts.{digits-most, digits-some}

-- digits say their number
digits-said : (before : ℕ) (l : List ℕ) → AllDigits l → digits_read before l ≡ given (number_said before l)
unfolding digits_read
digits-said before [] h = refl
digits-said before (d ∷ l) h = rw (le-ltb d 0x30 h.0, le-ltb 0x39 d h.1) (digits-said (10 * before + (d - 0x30)) l h.2)

pub number_digits : (l : List ℕ) → (length l ≡ 0 → ⊥) → length l ≤ 5 → number_read l ≡ digits_read 0 l
unfolding number_read
number_digits l h g = rw (ne_eqb (length l) 0 h, le-ltb 5 (length l) g)

number-back : (n : ℕ) → n < 100000 → number_read (decimal n) ≡ given n
number-back n h =
    let d = digits-read n in
    let s = digits-some n in
    number_digits (decimal n) (λ e. omega arith) (digits-most 4 n (omega arith)) ∙ digits-said 0 (decimal n) d.all_digits ∙ ap given d.said

-- numbers for which there is a word
abbrev Sayable : Field → ℕ → Type 0
Sayable field.Zone n = (n ≡ 0) ⊎ (n ≡ 1)
Sayable field.Mode n = (n ≡ 3) ⊎ (n ≡ 4)
Sayable field.Channel n = n ≡ 0
Sayable field.Bend n = n ≡ 0
Sayable field.Pressure n = n ≡ 0
Sayable field.Brightness n = n ≡ 0
Sayable field.Number n = n < 100000

field_back : (f : Field) (n : ℕ) → Sayable f n → field_read f (field_text f n) ≡ given n
unfolding field_read same_bytes
field_back field.Zone n h = ⊎_elim (λ e. rw e) (λ e. rw e) h
field_back field.Mode n h = ⊎_elim (λ e. rw e) (λ e. rw e) h
field_back field.Channel n h = rw h
field_back field.Bend n h = rw h
field_back field.Pressure n h = rw h
field_back field.Brightness n h = rw h
field_back field.Number n h = number-back n h

abbrev AllSayable : List Field → List ℕ → Type 0
AllSayable [] [] = Unit {0}
AllSayable [] (n ∷ numbers) = ⊥
AllSayable (f ∷ fields) [] = ⊥
AllSayable (f ∷ fields) (n ∷ numbers) = Sayable f n × AllSayable fields numbers

fields_back : (fields : List Field) (numbers : List ℕ) → AllSayable fields numbers → fields_read fields (field_texts fields numbers) ≡ given numbers
unfolding fields_read field_texts
fields_back [] [] h = refl
fields_back [] (n ∷ numbers) h = absurd h
fields_back (f ∷ fields) [] h = absurd h
fields_back (f ∷ fields) (n ∷ numbers) h = rw (field_back f n h.0, fields_back fields numbers h.1)

-- a word has neither a space nor a line's end: its bytes are digits and letters
abbrev Lettered : List ℕ → Type 0
Lettered [] = Unit {0}
Lettered (b ∷ word) = (0x30 ≤ b) × Lettered word

digits-lettered : (l : List ℕ) → AllDigits l → Lettered l
digits-lettered [] h = tt
digits-lettered (d ∷ l) h = (h.0, digits-lettered l h.2)

field-lettered : (f : Field) (n : ℕ) → Lettered (field_text f n)
field-lettered field.Zone n = by-test (eqb n 0) (λ e. rw e (omega arith)) (λ e. rw e (omega arith))
field-lettered field.Mode n = by-test (eqb n 3) (λ e. rw e (omega arith)) (λ e. rw e (omega arith))
field-lettered field.Channel n = omega arith
field-lettered field.Bend n = omega arith
field-lettered field.Pressure n = omega arith
field-lettered field.Brightness n = omega arith
field-lettered field.Number n = digits-lettered (decimal n) (digits-read n).all_digits

lettered-without : (stop : ℕ) → stop < 0x30 → (word : List ℕ) → Lettered word → Without stop word
lettered-without stop s [] h = tt
lettered-without stop s (b ∷ word) h = (λ e. omega (arith, h.0), lettered-without stop s word h.1)

-- the words of a line come back, and no line's end stands in it
abbrev AllLettered : List (List ℕ) → Type 0
AllLettered [] = Unit {0}
AllLettered (w ∷ words) = Lettered w × AllLettered words

texts-lettered : (fields : List Field) (numbers : List ℕ) → AllLettered (field_texts fields numbers)
unfolding field_texts
texts-lettered [] numbers = tt
texts-lettered (f ∷ fields) numbers = (field-lettered f (get_or numbers 0 0), texts-lettered fields (drop 1 numbers))

words_back : (w : List ℕ) (words : List (List ℕ)) → AllLettered (w ∷ words) → parts_at 0x20 (spaced (w ∷ words)) ≡ w ∷ words
unfolding spaced
words_back w [] h = parts-one 0x20 w (lettered-without 0x20 (omega arith) w h.0)
words_back w (v ∷ words) h =
    parts_more 0x20 w (spaced (v ∷ words)) (lettered-without 0x20 (omega arith) w h.0) ∙ ap (λ l. w ∷ l) (words_back v words h.1)

spaced-without : (words : List (List ℕ)) → AllLettered words → Without 0x0A (spaced words)
unfolding spaced
spaced-without [] h = tt
spaced-without (w ∷ []) h = lettered-without 0x0A (omega arith) w h.0
spaced-without (w ∷ v ∷ words) h =
    without-append 0x0A w (0x20 ∷ spaced (v ∷ words)) (lettered-without 0x0A (omega arith) w h.0) (λ e. omega arith, spaced-without (v ∷ words) h.1)

-- the line that says such numbers, without its end
abbrev pub body : Section → List ℕ → List ℕ
body section numbers = spaced (field_texts (line_fields section) numbers)

pub body-without : (section : Section) (numbers : List ℕ) → Without 0x0A (body section numbers)
body-without section numbers = spaced-without (field_texts (line_fields section) numbers) (texts-lettered (line_fields section) numbers)

body-words : (section : Section) (numbers : List ℕ) → line_words (body section numbers) ≡ field_texts (line_fields section) numbers
unfolding field_texts
body-words Zones numbers = words_back _ _ (texts-lettered (line_fields Zones) numbers)
body-words Channels numbers = words_back _ _ (texts-lettered (line_fields Channels) numbers)

line-back : (section : Section) (numbers : List ℕ) → AllSayable (line_fields section) numbers
    → entry_line_read section (body section numbers) ≡ given (says_entry section (entry_from section numbers))
line-back section numbers h = rw (body-words section numbers, fields_back (line_fields section) numbers h)

-- an item is told by its first word
neither : (l : List ℕ) → silent l ≡ false → same_bytes (take 6 l) label_start ≡ false → item_read l ≡ or_else (entry_line_read Zones l) (entry_line_read Channels l)
unfolding item_read
neither l a b = rw (a, b)

not-silent : (section : Section) (numbers : List ℕ) → silent (body section numbers) ≡ false
unfolding field_texts spaced
not-silent Zones numbers = by-test (eqb (get_or numbers 0 0) 0) (λ e. rw e) (λ e. rw e)
not-silent Channels numbers = refl

not-label : (section : Section) (numbers : List ℕ) → same_bytes (take 6 (body section numbers)) label_start ≡ false
unfolding field_texts spaced same_bytes
not-label Zones numbers = by-test (eqb (get_or numbers 0 0) 0) (λ e. rw e) (λ e. rw e)
not-label Channels numbers = refl

no-zone : (numbers : List ℕ) → entry_line_read Zones (body Channels numbers) ≡ no_item
unfolding fields_read field_read field_texts same_bytes
no-zone numbers = ap (λ words. and_then (fields_read (line_fields Zones) words) (λ n. given (says_entry Zones (entry_from Zones n)))) (body-words Channels numbers)

told-so : (section : Section) (numbers : List ℕ)
    → entry_line_read section (body section numbers) ≡ given (says_entry section (entry_from section numbers))
    → or_else (entry_line_read Zones (body section numbers)) (entry_line_read Channels (body section numbers)) ≡ given (says_entry section (entry_from section numbers))
told-so Zones numbers e = ap (λ o. or_else o (entry_line_read Channels (body Zones numbers))) e
told-so Channels numbers e = ap (λ o. or_else o (entry_line_read Channels (body Channels numbers))) (no-zone numbers) ∙ e

item_back : (section : Section) (numbers : List ℕ) → AllSayable (line_fields section) numbers
    → item_read (body section numbers) ≡ given (says_entry section (entry_from section numbers))
item_back section numbers h =
    neither (body section numbers) (not-silent section numbers) (not-label section numbers) ∙ told-so section numbers (line-back section numbers h)

-- the numbers of a listed entry can be said, and say it
own-sayable : (section : Section) (s : Settings) (k : ℕ) → entry_within section (entry_of section s k) ≡ true
    → AllSayable (line_fields section) (numbers_of section (entry_of section s k))
own-sayable Zones s k h =
    let z = zone-limits _ _ _ h in (
      zone-cases k z.number-in,
      (
        omega (arith, z.members_fit),
        (
          omega (arith, z.manager_semitones),
          (
            omega (arith, z.manager_cents),
            (
              omega (arith, z.member_semitones),
              (
                omega (arith, z.member_cents),
                (z.mode-in, tt),
              ),
            ),
          ),
        ),
      ),
    )
  where
    zone-cases : (n : ℕ) → n ≤ 1 → (n ≡ 0) ⊎ (n ≡ 1)
    zone-cases zero l = inl refl
    zone-cases (suc zero) l = inr refl
    zone-cases (suc (suc n)) l = absurd (omega arith)
own-sayable Channels s k h =
    let n : k < 16 = within-number Channels (entry_of Channels s k) h in
    let c = channel-within _ _ _ _ _ h in
    (refl, (omega arith, (refl, (omega (arith, c.0, c.1), (refl, (omega (arith, c.2), (refl, (omega (arith, c.3), tt))))))))

own-from : (section : Section) (s : Settings) (k : ℕ) → entry_from section (numbers_of section (entry_of section s k)) ≡ entry_of section s k
own-from Zones s k = refl
own-from Channels s k = rw (bend-whole (bend_on s k))

pub own-item : (section : Section) (s : Settings) (k : ℕ) → entry_within section (entry_of section s k) ≡ true
    → item_read (body section (numbers_of section (entry_of section s k))) ≡ given (says_entry section (entry_of section s k))
own-item section s k h =
    item_back section (numbers_of section (entry_of section s k)) (own-sayable section s k h) ∙ ap (λ e. given (says_entry section e)) (own-from section s k)
