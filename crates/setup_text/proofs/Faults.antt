-- The line that a refusal names is the first at fault, and the refusal is one of 1, 4 and 5.
-- Assumes nothing.
use Prim.Native.Nat.{ℕ, suc, ◌+◌, ◌-◌, ◌*◌, ◌<◌}
use mathlib.Core.Path.{◌≡◌, refl, sym, ap, ◌∙◌}
use mathlib.Core.Logic.{◌⊎◌, inl, inr}
use mathlib.Core.List.{List, [], ◌∷◌, ◌++◌}
use native.Mathlib.Omega.{arith}
use lib.Dec.{ltb, eqb}
use lib.ListN.{length, take}
use Rattle.ump.specs.Outcome.{Outcome, given, declined, joined}
use Rattle.ump.proofs.Cases.{of-both}
use Rattle.mpe_layout.specs.Layout.{legal}
use Rattle.settings.specs.declared.Settings.{Settings}
use Rattle.setup_file.specs.declared.Section.{Section}
use Rattle.setup_file.specs.declared.Section.TheVariants.{Zones, Channels}
use Rattle.setup_file.specs.Format.{entry_size, number_in, entry_within, unlisted, label_allowed, settings_with}
use Rattle.setup_file.specs.Read.{and_then, entry_read}
use Rattle.setup_text.specs.declared.Field.{Field}
use Rattle.setup_text.specs.declared.Field.TheVariants as field
use Rattle.setup_text.specs.Text.{line_fields, label_start}
use Rattle.setup_text.specs.Parse.{line_words, digits_read, number_read, same_bytes, field_read, fields_read, Item, says_nothing, says_entry, says_label, silent, entry_line_read, or_else, item_read, SoFar, nothing_said, first_place, label_place, entry_taken, label_taken, item_taken, line_taken, on_line, lines_read}
use Rattle.setup_text.specs.Claims.{FirstFault}

-- an answer that is given, or refused by 1, 4 or 5
abbrev OneFourFive : ℕ → Type 0
OneFourFive n = (n ≡ 1) ⊎ ((n ≡ 4) ⊎ (n ≡ 5))

abbrev Numbered : {A : Type 0} → Outcome A → Type 0
Numbered (given a) = Unit {0}
Numbered (declined n v) = OneFourFive n

range : OneFourFive 1
range = inl refl

form : OneFourFive 4
form = inr (inl refl)

order : OneFourFive 5
order = inr (inr refl)

then-numbered : {A B : Type 0} (o : Outcome A) (next : A → Outcome B) → Numbered o → ((a : A) → Numbered (next a)) → Numbered (and_then o next)
then-numbered (given a) next h g = g a
then-numbered (declined n v) next h g = h

joined-numbered : (o : Outcome ℕ) (p : Outcome (List ℕ)) → Numbered o → Numbered p → Numbered (joined o p)
joined-numbered (given a) (given l) h g = tt
joined-numbered (given a) (declined n v) h g = g
joined-numbered (declined n v) p h g = h

either-numbered : {A : Type 0} (o p : Outcome A) → Numbered p → Numbered (or_else o p)
either-numbered (given a) p g = tt
either-numbered (declined n v) p g = g

-- the words of a line
digits-numbered : (before : ℕ) (l : List ℕ) → Numbered (digits_read before l)
unfolding digits_read
digits-numbered before [] = tt
digits-numbered before (d ∷ l) =
    of-both Numbered (ltb d 0x30) form (of-both Numbered (ltb 0x39 d) form (digits-numbered (10 * before + (d - 0x30)) l))

field-numbered : (f : Field) (word : List ℕ) → Numbered (field_read f word)
unfolding field_read number_read
field-numbered field.Zone word = of-both Numbered (same_bytes word _) tt (of-both Numbered (same_bytes word _) tt form)
field-numbered field.Mode word = of-both Numbered (same_bytes word _) tt (of-both Numbered (same_bytes word _) tt form)
field-numbered field.Channel word = of-both Numbered (same_bytes word _) tt form
field-numbered field.Bend word = of-both Numbered (same_bytes word _) tt form
field-numbered field.Pressure word = of-both Numbered (same_bytes word _) tt form
field-numbered field.Brightness word = of-both Numbered (same_bytes word _) tt form
field-numbered field.Number word =
    of-both Numbered (eqb (length word) 0) form (of-both Numbered (ltb 5 (length word)) form (digits-numbered 0 word))

fields-numbered : (fields : List Field) (words : List (List ℕ)) → Numbered (fields_read fields words)
unfolding fields_read
fields-numbered [] [] = tt
fields-numbered [] (w ∷ words) = form
fields-numbered (f ∷ fields) [] = form
fields-numbered (f ∷ fields) (w ∷ words) = joined-numbered (field_read f w) (fields_read fields words) (field-numbered f w) (fields-numbered fields words)

item-numbered : (line : List ℕ) → Numbered (item_read line)
unfolding item_read
item-numbered line =
    of-both Numbered (silent line) tt
    (of-both Numbered (same_bytes (take 6 line) label_start) tt
    (either-numbered (entry_line_read Zones line) (entry_line_read Channels line)
    (then-numbered (fields_read (line_fields Channels) (line_words line)) _ (fields-numbered (line_fields Channels) (line_words line)) (λ n. tt))))

-- an item after what was said so far
entry-numbered : (section : Section) (least : ℕ) (l : List ℕ) → Numbered (entry_read section least l)
unfolding entry_read
entry-numbered section least l =
    of-both Numbered (ltb (length l) (entry_size section)) form
    (of-both Numbered (entry_within section l)
    (of-both Numbered (ltb (number_in l) least) order (of-both Numbered (unlisted section l) order tt))
    range)

taken-numbered : (r : SoFar) (item : Item) → Numbered (item_taken r item)
unfolding entry_taken label_taken
taken-numbered r says_nothing = tt
taken-numbered r (says_entry section entry) =
    then-numbered (entry_read section (r.least - first_place section) entry) _ (entry-numbered section (r.least - first_place section) entry)
    (λ number. of-both Numbered (legal (settings_with section entry r.settings).layout) tt range)
taken-numbered r (says_label label) =
    of-both Numbered (label_allowed label) (of-both Numbered (ltb label_place r.least) order tt) range

line-numbered : (r : SoFar) (line : List ℕ) → Numbered (line_taken r line)
line-numbered r line = then-numbered (item_read line) (item_taken r) (item-numbered line) (taken-numbered r)

-- lines from a number on that are refused: the one at fault
record Found (number : ℕ) (r : SoFar) (lines : List (List ℕ)) (reason : ℕ) (values : List ℕ) : Type 0 where
  pub before : ℕ
  pub names-it : values ≡ (number + before) ∷ []
  pub is_line : before < length lines
  pub said : Settings × List ℕ
  pub taken_before : lines_read number r (take before lines) ≡ given said
  pub refused_with : lines_read number r (take (suc before) lines) ≡ declined reason values
  pub reason_is : OneFourFive reason

-- one line, by what is answered for it
first-line : (number : ℕ) (r : SoFar) (line : List ℕ) (lines : List (List ℕ)) (reason : ℕ) (values : List ℕ) (o : Outcome SoFar) → line_taken r line ≡ o
    → Numbered o → and_then (on_line number o) (λ next. lines_read (suc number) next lines) ≡ declined reason values
    → ((next : SoFar) → lines_read (suc number) next lines ≡ declined reason values → Found (suc number) next lines reason values)
    → Found number r (line ∷ lines) reason values
unfolding lines_read
first-line number r line lines reason values (given next) e h f later =
    let d = later next f in
    record {
      before = suc d.before;
      names-it = d.names-it ∙ ap (λ n. n ∷ []) (let z : suc number + d.before ≡ number + suc d.before = omega arith in z);
      is_line = omega (arith, d.is_line);
      said = d.said;
      taken_before = rw e d.taken_before;
      refused_with = rw e d.refused_with;
      reason_is = d.reason_is;
    }
first-line number r line lines reason values (declined n v) e h f later =
    let same : n ≡ reason = cc in
    record {
      before = 0;
      names-it = let z : number ∷ [] ≡ values = cc in sym z ∙ ap (λ n. n ∷ []) (let z : number ≡ number + 0 = omega arith in z);
      is_line = omega arith;
      said = (r.settings, r.label);
      taken_before = refl;
      refused_with = rw e f;
      reason_is = rw same at h;
    }

lines-found : (lines : List (List ℕ)) (number : ℕ) (r : SoFar) (reason : ℕ) (values : List ℕ) → lines_read number r lines ≡ declined reason values
    → Found number r lines reason values
unfolding lines_read
lines-found [] number r reason values e = absurd (let z : ◌≡◌ {A = ℕ} 0 1 = cc in omega arith)
lines-found (line ∷ lines) number r reason values e =
    first-line number r line lines reason values (line_taken r line) refl (line-numbered r line) e (λ next f. lines-found lines (suc number) next reason values f)

-- a refusal stands, whatever comes behind
first-stands : {A : Type 0} (number : ℕ) (o : Outcome SoFar) (next longer : SoFar → Outcome A) (reason : ℕ) (values : List ℕ)
    → ((r : SoFar) → next r ≡ declined reason values → longer r ≡ declined reason values) → and_then (on_line number o) next ≡ declined reason values
    → and_then (on_line number o) longer ≡ declined reason values
first-stands number (given r) next longer reason values h e = h r e
first-stands number (declined n v) next longer reason values h e = e

lines-stand : (lines more : List (List ℕ)) (number : ℕ) (r : SoFar) (reason : ℕ) (values : List ℕ) → lines_read number r lines ≡ declined reason values
    → lines_read number r (lines ++ more) ≡ declined reason values
unfolding lines_read
lines-stand [] more number r reason values e = absurd (let z : ◌≡◌ {A = ℕ} 0 1 = cc in omega arith)
lines-stand (line ∷ lines) more number r reason values e =
    first-stands number (line_taken r line) _ _ reason values (λ next f. lines-stand lines more (suc number) next reason values f) e

pub first-fault : FirstFault
first-fault =
    record {
      fault_at = λ lines reason values e.
          let d = lines-found lines 1 nothing_said reason values e in
          record {
            before = d.before;
            names_next = d.names-it ∙ ap (λ n. n ∷ []) (let z : 1 + d.before ≡ suc d.before = omega arith in z);
            is_line = d.is_line;
            said = d.said;
            taken_before = d.taken_before;
            refused_with = d.refused_with;
            reason_is = d.reason_is;
          };
      stands = λ lines more reason values e. lines-stand lines more 1 nothing_said reason values e;
    }
