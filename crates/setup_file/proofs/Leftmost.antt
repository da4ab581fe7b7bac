-- The leftmost fault of a file decides: a refusal by 1 or 5 stands whatever comes behind it, and a file that is taken can neither be cut short nor go on.
-- Assumes nothing.
use Prim.Native.Nat.{ℕ, zero, suc, ◌≤◌}
use mathlib.Core.Path.{◌≡◌, refl, ap, sym, ◌∙◌}
use mathlib.Core.Bool.{Bool, true, false}
use mathlib.Core.Logic.{◌⊎◌, inl, inr}
use mathlib.Core.List.{List, [], ◌∷◌, ◌++◌, append-nil}
use native.Mathlib.Omega.{arith}
use lib.Dec.{ltb}
use lib.ListN.{length, take, drop, length-append}
use lib.Seq.{take-append-le, drop-append-le}
use borrow.Author.Tests.{ltb-false, lt-ltb, le-ltb}
use Rattle.ump.specs.Choice.{when◌then◌else◌}
use Rattle.ump.specs.Outcome.{Outcome, given, out_of_range}
use Rattle.ump.proofs.Cases.{by-test}
use Rattle.mpe_layout.specs.Layout.{legal}
use Rattle.settings.specs.declared.Settings.{Settings}
use Rattle.settings.specs.Settings.{new_settings}
use Rattle.setup_file.specs.declared.Section.{Section}
use Rattle.setup_file.specs.declared.Section.TheVariants.{Zones, Channels}
use Rattle.setup_file.specs.Format.{most, entry_size, number_in, entry_within, unlisted, settings_with, most_label, printable}
use Rattle.setup_file.specs.Read.{wrong_length, out_of_order, and_then, entry_read, entries_read, section_read, zones_read, label_read, file_read}
use Rattle.setup_file.specs.Claims.{Leftmost}
use Rattle.setup_file.proofs.Outcomes.{same-refusal, not-given}
use Rattle.setup_file.proofs.Entries.{front-append, number-front, within-front, unlisted-front, placed-front}
use Rattle.setup_file.proofs.Taken.{read_taken}

-- what a reading gave, and what it gives where more comes behind: what was given leads to this, 1 and 5 stand, and of 4 nothing is said
data Goes {A : Type 0} (leads : A → Outcome A) (o p : Outcome A) : Type 0 where
  on : (a : A) → o ≡ given a → p ≡ leads a → Goes leads o p
  range : o ≡ out_of_range → p ≡ out_of_range → Goes leads o p
  order : o ≡ out_of_order → p ≡ out_of_order → Goes leads o p
  short : o ≡ wrong_length → Goes leads o p

-- one reading after the other
and-goes : {A B : Type 0} (step : A → A) {leads : B → Outcome B} (o p : Outcome A) (next next' : A → Outcome B)
    → Goes (λ a. given (step a)) o p → ((a : A) → o ≡ given a → Goes leads (next a) (next' (step a))) → Goes leads (and_then o next) (and_then p next')
and-goes step o p next next' (on a e f) h = rw (e, f) (h a e)
and-goes step o p next next' (range e f) h = range (rw e) (rw f)
and-goes step o p next next' (order e f) h = order (rw e) (rw f)
and-goes step o p next next' (short e) h = short (rw e)

-- a whole entry is the same with more behind it
module _ (section : Section) (l more : List ℕ) (h : entry_size section ≤ length l) where
  same_number : number_in (l ++ more) ≡ number_in l
  same_number = sym (number-front section (l ++ more)) ∙ ap number_in (front-append section l more h) ∙ number-front section l

  same-within : entry_within section (l ++ more) ≡ entry_within section l
  same-within = sym (within-front section (l ++ more)) ∙ ap (entry_within section) (front-append section l more h) ∙ within-front section l

  same-unlisted : unlisted section (l ++ more) ≡ unlisted section l
  same-unlisted = sym (unlisted-front section (l ++ more)) ∙ ap (unlisted section) (front-append section l more h) ∙ unlisted-front section l

  same-placed : (t : Settings) → settings_with section (l ++ more) t ≡ settings_with section l t
  same-placed t = sym (placed-front section (l ++ more) t) ∙ ap (λ e. settings_with section e t) (front-append section l more h) ∙ placed-front section l t

  still-long : entry_size section ≤ length (l ++ more)
  still-long = omega (arith, length-append l more)

-- what the tests of a whole entry come to
abbrev tested : Bool → Bool → Bool → ℕ → Outcome ℕ
tested b c d n = when b then (when c then out_of_order else when d then out_of_order else given n) else out_of_range

settled : (b c d : Bool) (n : ℕ) → Goes given (tested b c d n) (tested b c d n)
settled false c d n = range refl refl
settled true true d n = order refl refl
settled true false true n = order refl refl
settled true false false n = on n refl refl

entry-goes : (section : Section) (least : ℕ) (l more : List ℕ) → Goes given (entry_read section least l) (entry_read section least (l ++ more))
unfolding entry_read
entry-goes section least l more =
    by-test (ltb (length l) (entry_size section))
    (λ e. short (rw e))
    (λ e.
    let h = ltb-false (length l) (entry_size section) e in
    rw (
      e,
      le-ltb (length (l ++ more)) (entry_size section) (still-long section l more h),
      same_number section l more h,
      same-within section l more h,
      same-unlisted section l more h,
    )
    (settled (entry_within section l) (ltb (number_in l) least) (unlisted section l) (number_in l)))

-- the settings, and the bytes behind
abbrev longer : List ℕ → Settings × List ℕ → Settings × List ℕ
longer more r = (r.0, r.1 ++ more)

entries-goes : (section : Section) (left least : ℕ) (t : Settings) (l more : List ℕ)
    → Goes (λ r. given (longer more r)) (entries_read section left least t l) (entries_read section left least t (l ++ more))
unfolding entries_read
entries-goes section zero least t l more = on (t, l) refl refl
entries-goes section (suc left) least t l more =
    and-goes (λ n. n) (entry_read section least l) (entry_read section least (l ++ more)) _ _ (entry-goes section least l more)
    (λ n e.
    let h = (read_taken section least l e).0.long in
    rw (same-placed section l more h t, drop-append-le (entry_size section) l more h)
    (entries-goes section left (suc n) (settings_with section l t) (drop (entry_size section) l) more))

section-goes : (section : Section) (t : Settings) (l more : List ℕ)
    → Goes (λ r. given (longer more r)) (section_read section t l) (section_read section t (l ++ more))
section-goes section t [] more = short refl
section-goes section t (count ∷ l) more =
    by-test (ltb (most section) count) (λ e. range (rw e) (rw e)) (λ e. rw e (entries-goes section count 0 t l more))

zones-goes : (l more : List ℕ) → Goes (λ r. given (longer more r)) (zones_read l) (zones_read (l ++ more))
zones-goes l more =
    and-goes (longer more) (section_read Zones new_settings l) (section_read Zones new_settings (l ++ more)) _ _ (section-goes Zones new_settings l more)
    (λ r e. by-test (legal r.0.layout) (λ h. on r (rw h) (rw h)) (λ h. range (rw h) (rw h)))

-- the label is the end
abbrev ends : List ℕ → Settings × List ℕ → Outcome (Settings × List ℕ)
ends [] r = given r
ends (b ∷ more) r = wrong_length

at-end : (s : Settings) (count : ℕ) (l more : List ℕ) → count ≤ length l → length l ≤ count
    → (when ltb count (length (l ++ more)) then wrong_length else given (s, l ++ more)) ≡ ends more (s, l)
at-end s count l [] a b = rw (append-nil l, le-ltb count (length l) b)
at-end s count l (c ∷ more) a b = rw (lt-ltb count (length (l ++ c ∷ more)) (omega (arith, length-append l (c ∷ more))))

label-goes : (s : Settings) (l more : List ℕ) → Goes (ends more) (label_read s l) (label_read s (l ++ more))
label-goes s [] more = short refl
label-goes s (count ∷ l) more =
    by-test (ltb most_label count)
    (λ e. range (rw e) (rw e))
    (λ e.
    by-test (ltb (length l) count)
    (λ f. short (rw (e, f)))
    (λ f.
    let a = ltb-false (length l) count f in
    rw (e, f, le-ltb (length (l ++ more)) count (omega (arith, length-append l more)), take-append-le count l more a)
    (by-test (printable (take count l))
    (λ g. rw g
    (by-test (ltb count (length l))
    (λ i. short (rw i))
    (λ i. on (s, l) (rw i) (at-end s count l more a (ltb-false count (length l) i)))))
    (λ g. range (rw g) (rw g)))))

file-goes : (file more : List ℕ) → Goes (ends more) (file_read file) (file_read (file ++ more))
file-goes file more =
    and-goes (longer more) (zones_read file) (zones_read (file ++ more)) _ _ (zones-goes file more)
    (λ z e.
    and-goes (longer more) (section_read Channels z.0 z.1) (section_read Channels z.0 (z.1 ++ more)) _ _ (section-goes Channels z.0 z.1 more)
    (λ c f. label-goes c.0 c.1 more))

-- what follows for what was given or refused
one_of : {A : Type 0} {leads : A → Outcome A} {o p : Outcome A} → Goes leads o p → ((a : A) → o ≡ given a → ⊥)
    → (o ≡ out_of_range) ⊎ ((o ≡ wrong_length) ⊎ (o ≡ out_of_order))
one_of (on a e f) no-given = absurd (no-given a e)
one_of (range e f) no-given = inl e
one_of (order e f) no-given = inr (inr e)
one_of (short e) no-given = inr (inl e)

range-after : {A : Type 0} {leads : A → Outcome A} {o p : Outcome A} → Goes leads o p → o ≡ out_of_range → p ≡ out_of_range
range-after (on a e f) h = not-given (sym h ∙ e)
range-after (range e f) h = f
range-after (order e f) h = absurd (omega (arith, same-refusal (sym e ∙ h)))
range-after (short e) h = absurd (omega (arith, same-refusal (sym e ∙ h)))

order-after : {A : Type 0} {leads : A → Outcome A} {o p : Outcome A} → Goes leads o p → o ≡ out_of_order → p ≡ out_of_order
order-after (on a e f) h = not-given (sym h ∙ e)
order-after (range e f) h = absurd (omega (arith, same-refusal (sym e ∙ h)))
order-after (order e f) h = f
order-after (short e) h = absurd (omega (arith, same-refusal (sym e ∙ h)))

given-after : {A : Type 0} {o p : Outcome A} {a : A} → Goes (λ a. wrong_length) o p → o ≡ given a → p ≡ wrong_length
given-after (on a e f) h = f
given-after (range e f) h = not-given (sym e ∙ h)
given-after (order e f) h = not-given (sym e ∙ h)
given-after (short e) h = not-given (sym e ∙ h)

given-before : {A : Type 0} {o p : Outcome A} {a : A} → Goes (λ a. wrong_length) o p → p ≡ given a → o ≡ wrong_length
given-before (on a e f) h = not-given (sym f ∙ h)
given-before (range e f) h = not-given (sym f ∙ h)
given-before (order e f) h = not-given (sym f ∙ h)
given-before (short e) h = e

pub leftmost : Leftmost
leftmost =
    record {
      refused = λ file no-given. one_of (file-goes file []) no-given;
      range_stands = λ file more. range-after (file-goes file more);
      order_stands = λ file more. order-after (file-goes file more);
      goes_on = λ file b more r. given-after (file-goes file (b ∷ more));
      cut_short = λ file b more r. given-before (file-goes file (b ∷ more));
    }
