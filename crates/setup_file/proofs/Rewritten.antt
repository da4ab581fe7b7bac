-- What is taken may be written, and written again it is the file.
-- Assumes nothing.
use Prim.Native.Nat.{ℕ, zero, suc, ◌+◌, ◌-◌, ◌<◌, ◌≤◌}
use mathlib.Core.Path.{◌≡◌, refl, ap, ap₂, sym, ◌∙◌, subst}
use mathlib.Core.Bool.{Bool, true, false}
use mathlib.Core.List.{List, [], ◌∷◌, ◌++◌, append_assoc, flatten}
use native.Mathlib.Nat.{le_refl}
use native.Mathlib.Omega.{arith}
use lib.Dec.{ltb, eqb}
use lib.ListN.{length, take, drop}
use lib.Seq.{take_all}
use borrow.Author.Tests.{ltb-false, eqb-true, eqb-false}
use Rattle.ump.specs.Choice.{when◌then◌else◌}
use Rattle.ump.specs.Outcome.{Outcome, given, out_of_range}
use Rattle.ump.proofs.Cases.{by-test}
use Rattle.mpe_layout.specs.Layout.{legal}
use Rattle.settings.specs.declared.ZoneSettings.{ZoneSettings}
use Rattle.settings.specs.declared.Settings.{Settings}
use Rattle.settings.specs.Settings.{new_settings, bend_on, pressure_on, brightness_on, zone_allowed, allowed}
use Rattle.settings.proofs.Allowed.{passed}
use Rattle.settings.proofs.Limits.{channels-pass}
use Rattle.setup_file.specs.declared.Section.{Section}
use Rattle.setup_file.specs.declared.Section.TheVariants.{Zones, Channels}
use Rattle.setup_file.specs.Format.{most, entry_size, number_in, zone_entry_within, entry_within, unlisted, entry_of, entries_from, section_of, most_label, printable, label_allowed, setup_file, settings_with}
use Rattle.setup_file.specs.Read.{wrong_length, and_then, entry_read, entries_read, section_read, zones_read, label_read, file_read}
use Rattle.setup_file.specs.Claims.{Writable}
use Rattle.setup_file.proofs.Outcomes.{same-given, not-given, both-given}
use Rattle.setup_file.proofs.Entries.{front, front_rest, within-front, unlisted-front, within-number, channel-within, Sized, new-sized, placed-sized, placed-there, placed-elsewhere, other_section, placed-beside, of-each, same_layout, rest-values, new-unlisted}
use Rattle.setup_file.proofs.Taken.{Taken, read_taken}

-- an entry that is inside its limits, if it has to be listed
abbrev Inside : Section → List ℕ → Type 0
Inside section entry = unlisted section entry ≡ false → entry_within section entry ≡ true

-- settings whose listed entries are all inside
pub record Proper (t : Settings) : Type 0 where
  pub sized : Sized t
  pub inside : (section : Section) (j : ℕ) → j < most section → Inside section (entry_of section t j)

pub new-proper : Proper new_settings
new-proper = record { sized = new-sized; inside = λ section j b u. apart (unlisted section (entry_of section new_settings j)) (new-unlisted section j b) u }
  where
    apart : {P : Type 0} (b : Bool) → b ≡ true → b ≡ false → P
    apart b t f = absurd (let z : ◌≡◌ {A = ℕ} 0 1 = cc in omega arith)

pub placed-proper : (section : Section) (l : List ℕ) (t : Settings) → entry_within section l ≡ true → Proper t → Proper (settings_with section l t)
placed-proper section l t h p =
    record {
      sized = placed-sized section l t p.sized;
      inside =
          of-each (λ other. (j : ℕ) → j < most other → Inside other (entry_of other (settings_with section l t) j)) section
          (λ j b.
          by-test (eqb j (number_in l))
          (λ e. rw (eqb-true j (number_in l) e, placed-there section l t p.sized h) (λ u. within-front section l ∙ h))
          (λ e. rw (placed-elsewhere section l t j h b (eqb-false j (number_in l) e)) (p.inside section j b)))
          (λ j b. rw (placed-beside section l t j) (p.inside (other_section section) j b));
    }

-- no entry is listed from `least` on
abbrev Resting : Section → ℕ → Settings → Type 0
Resting section least t = (j : ℕ) → least ≤ j → j < most section → unlisted section (entry_of section t j) ≡ true

-- numbers from k up to j that are not listed are passed over
skip : (section : Section) (t : Settings) (n k j m : ℕ) → k + n ≡ j + m → k ≤ j
    → ((i : ℕ) → k ≤ i → i < j → unlisted section (entry_of section t i) ≡ true) → entries_from section t k n ≡ entries_from section t j m
unfolding entries_from
skip section t zero k j m e l r = let z : m ≡ 0 = omega arith in rw z
skip section t (suc n) k j m e l r =
    by-test (eqb k j)
    (λ i. let x = eqb-true k j i in let y : suc n ≡ m = omega arith in ap₂ (entries_from section t) x y)
    (λ i.
    let x = eqb-false k j i in
    rw (r k (le_refl k) (omega arith)) (skip section t n (suc k) j m (omega arith) (omega arith) (λ i u. r i (omega arith))))

-- entries that were read from the front of a list into t, which is then t': t' lists these and no others from `least` on, and the others are as before
record Back (section : Section) (left least : ℕ) (t t' : Settings) (l rest : List ℕ) : Type 0 where
  pub proper : Proper t'
  pub entries : List (List ℕ)
  pub all : (n : ℕ) → least + n ≡ most section → entries_from section t' least n ≡ entries
  pub count : left ≡ length entries
  pub bytes : l ≡ flatten entries ++ rest
  pub kept : (j : ℕ) → j < least → entry_of section t' j ≡ entry_of section t j
  pub beside : (j : ℕ) → entry_of (other_section section) t' j ≡ entry_of (other_section section) t j

none-back : (section : Section) (least : ℕ) (t : Settings) (l : List ℕ) → Proper t → Resting section least t → Back section 0 least t t l l
unfolding flatten entries_from
none-back section least t l p r =
    record {
      proper = p;
      entries = [];
      all = λ n e. skip section t n least (least + n) 0 (omega arith) (omega arith) (λ i a b. r i a (omega arith));
      count = refl;
      bytes = refl;
      kept = λ j b. refl;
      beside = λ j. refl;
    }

one-back : (section : Section) (left least : ℕ) (t t' : Settings) (l rest : List ℕ) → Resting section least t → Sized t → Taken section least l
    → Back section left (suc (number_in l)) (settings_with section l t) t' (drop (entry_size section) l) rest → Back section (suc left) least t t' l rest
unfolding flatten entries_from
one-back section left least t t' l rest r z a b =
    let k = number_in l in
    let n : k < most section = within-number section l a.within in
    let c : least ≤ k = a.rising in
    let there : entry_of section t' k ≡ front section l = b.kept k (omega arith) ∙ placed-there section l t z a.within in
    record {
      proper = b.proper;
      entries = front section l ∷ b.entries;
      all = λ m e.
          skip section t' m least k (suc (most section - suc k)) (omega arith) c (λ i u v. ap (unlisted section) (before i v) ∙ r i u (omega arith))
          ∙ rw (there, unlisted-front section l, a.listed) (ap {B = List (List ℕ)} (λ es. front section l ∷ es) (b.all (most section - suc k) (omega arith)));
      count = ap suc b.count;
      bytes = front_rest section l a.long ∙ ap (λ m. front section l ++ m) b.bytes ∙ sym (append_assoc (front section l) (flatten b.entries) rest);
      kept = λ j m. before j (omega arith);
      beside = λ j. b.beside j ∙ placed-beside section l t j;
    }
  where
    before : (j : ℕ) → j < number_in l → entry_of section t' j ≡ entry_of section t j
    before j m =
        let n = within-number section l a.within in
        b.kept j (omega arith) ∙ placed-elsewhere section l t j a.within (omega arith) (λ i. omega arith)

-- one entry, and those after it
one-read : (section : Section) (left least : ℕ) (t t' : Settings) (l rest : List ℕ) → Proper t → Resting section least t
    → and_then (entry_read section least l) (λ n. entries_read section left (suc n) (settings_with section l t) (drop (entry_size section) l)) ≡ given (t', rest)
    → (Proper (settings_with section l t) → Resting section (suc (number_in l)) (settings_with section l t)
    → entries_read section left (suc (number_in l)) (settings_with section l t) (drop (entry_size section) l) ≡ given (t', rest)
    → Back section left (suc (number_in l)) (settings_with section l t) t' (drop (entry_size section) l) rest)
    → Back section (suc left) least t t' l rest
one-read section left least t t' l rest p r e next =
    let g = both-given (entry_read section least l) _ (t', rest) e in
    let h = read_taken section least l g.1 in
    let a = h.0 in
    let c : least ≤ number_in l = a.rising in
    one-back section left least t t' l rest r p.sized a
    (next
    (placed-proper section l t a.within p)
    (λ j m b. ap (unlisted section) (placed-elsewhere section l t j a.within b (λ i. omega arith)) ∙ r j (omega arith) b)
    (ap (λ n. entries_read section left (suc n) (settings_with section l t) (drop (entry_size section) l)) (sym h.1) ∙ g.2))

entries-back : (section : Section) (left least : ℕ) (t t' : Settings) (l rest : List ℕ) → Proper t → Resting section least t
    → entries_read section left least t l ≡ given (t', rest) → Back section left least t t' l rest
unfolding entries_read
entries-back section zero least t t' l rest p r e =
    let s = same-given (t, l) (t', rest) e in
    subst (λ (q : Settings × List ℕ). Back section 0 least t q.0 l q.1) s (none-back section least t l p r)
entries-back section (suc left) least t t' l rest p r e =
    one-read section left least t t' l rest p r e
    (entries-back section left (suc (number_in l)) (settings_with section l t) t' (drop (entry_size section) l) rest)

-- a section that was read
record SectionBack (section : Section) (t t' : Settings) (l rest : List ℕ) : Type 0 where
  pub proper : Proper t'
  pub bytes : l ≡ section_of section t' ++ rest
  pub beside : (j : ℕ) → entry_of (other_section section) t' j ≡ entry_of (other_section section) t j

pub unless : {A : Type 0} (b : Bool) (o : Outcome A) (a : A) → (when b then out_of_range else o) ≡ given a → o ≡ given a
unless true o a e = not-given e
unless false o a e = e

section-back : (section : Section) (t t' : Settings) (l rest : List ℕ) → Proper t → Resting section 0 t
    → section_read section t l ≡ given (t', rest) → SectionBack section t t' l rest
section-back section t t' [] rest p r e = not-given e
section-back section t t' (count ∷ l) rest p r e =
    let b = entries-back section count 0 t t' l rest p r (unless (ltb (most section) count) _ (t', rest) e) in
    let a = b.all (most section) (omega arith) in
    record { proper = b.proper; bytes = rw (a, ← b.count) (ap (λ m. count ∷ m) b.bytes); beside = b.beside }

-- the same entries are the same bytes
same-listed : (section : Section) (s t : Settings) → ((j : ℕ) → entry_of section s j ≡ entry_of section t j)
    → (n k : ℕ) → entries_from section s k n ≡ entries_from section t k n
unfolding entries_from
same-listed section s t h zero k = refl
same-listed section s t h (suc n) k = rw (h k, same-listed section s t h n (suc k))

same-section : (section : Section) (s t : Settings) → ((j : ℕ) → entry_of section s j ≡ entry_of section t j) → section_of section s ≡ section_of section t
same-section section s t h = ap (λ entries. length entries ∷ flatten entries) (same-listed section s t h (most section) 0)

-- a legal pair and entries inside their limits: allowed
zone-allowed : (n members : ℕ) (zone : ZoneSettings) → (eqb members 0 ≡ false → zone_entry_within n members zone ≡ true) → zone_allowed members zone ≡ true
unfolding zone_entry_within zone_allowed
zone-allowed n members zone h =
    by-test (eqb members 0)
    (λ e. rw e)
    (λ e.
    let p = passed (ltb 1 n) _ (h e) in
    let q = passed (eqb members 0) _ p.1 in
    (passed (ltb 15 members) _ q.1).1)

channel-limits : (t : Settings) (k : ℕ) → Inside Channels (entry_of Channels t k) → (bend_on t k ≤ 0x3FFF) × (pressure_on t k ≤ 127) × (brightness_on t k ≤ 127)
channel-limits t k h =
    by-test (unlisted Channels (entry_of Channels t k))
    (λ e. let v = rest-values _ _ _ _ e in (omega (arith, v.0, v.1), omega (arith, v.2), omega (arith, v.3)))
    (λ e. let v = channel-within _ _ _ _ _ (h e) in (omega (arith, v.0, v.1), v.2, v.3))

pub proper-allowed : (t : Settings) → Proper t → legal t.layout ≡ true → allowed t ≡ true
unfolding allowed
proper-allowed t p h =
    rw (
      h,
      zone-allowed 0 t.layout.lower t.lower (p.inside Zones 0 (omega arith)),
      zone-allowed 1 t.layout.upper t.upper (p.inside Zones 1 (omega arith)),
    )
    (channels-pass t 16 (λ k b. channel-limits t k (p.inside Channels k b)))

-- the zones are a section with a legal pair
zones-back : (l : List ℕ) (t : Settings) (rest : List ℕ) → zones_read l ≡ given (t, rest) → SectionBack Zones new_settings t l rest × (legal t.layout ≡ true)
zones-back l t rest e =
    let g = both-given (section_read Zones new_settings l) _ (t, rest) e in
    let c = pair (legal g.0.0.layout) g.0 (t, rest) g.2 in (
      section-back Zones new_settings t l rest new-proper (λ j u b. new-unlisted Zones j b) (g.1 ∙ ap given c.1),
      ap (λ (q : Settings × List ℕ). legal q.0.layout) (sym c.1) ∙ c.0,
    )
  where
    pair : (b : Bool) (r q : Settings × List ℕ) → (when b then given r else out_of_range) ≡ given q → (b ≡ true) × (r ≡ q)
    pair true r q e = (refl, same-given r q e)
    pair false r q e = not-given e

-- the channels are read into settings that have none of theirs
channels-back : (l m rest : List ℕ) (t s : Settings) → SectionBack Zones new_settings t l m → section_read Channels t m ≡ given (s, rest)
    → SectionBack Channels t s m rest
channels-back l m rest t s zones e =
    section-back Channels t s m rest zones.proper (λ j u b. ap (unlisted Channels) (zones.beside j) ∙ new-unlisted Channels j b) e

-- the label
label-tests : (a b c d : Bool) (r q : Settings × List ℕ)
    → (when a then out_of_range else when b then wrong_length else when c then (when d then wrong_length else given r) else out_of_range) ≡ given q
    → (a ≡ false) × (b ≡ false) × (c ≡ true) × (d ≡ false) × (r ≡ q)
label-tests true b c d r q e = not-given e
label-tests false true c d r q e = not-given e
label-tests false false false d r q e = not-given e
label-tests false false true true r q e = not-given e
label-tests false false true false r q e = (refl, refl, refl, refl, same-given r q e)

pub label-back : (s t : Settings) (l label : List ℕ) → label_read s l ≡ given (t, label) → (l ≡ length label ∷ label) × (s ≡ t) × (label_allowed label ≡ true)
unfolding label_allowed
label-back s t [] label e = not-given e
label-back s t (count ∷ l) label e =
    let c = label-tests (ltb most_label count) (ltb (length l) count) (printable (take count l)) (ltb count (length l)) (s, l) (t, label) e in
    let x : l ≡ label = ap (λ (q : Settings × List ℕ). q.1) c.4 in
    let u = ltb-false (length l) count c.1 in
    let v = ltb-false count (length l) c.3 in
    let n : count ≡ length label = let m : count ≡ length l = omega arith in m ∙ ap length x in
    let y : printable label ≡ true = ap printable (sym x ∙ sym (take_all count l v)) ∙ c.2 in
    (ap₂ ◌∷◌ n x, ap (λ (q : Settings × List ℕ). q.0) c.4, rw (← n, c.0) y)

-- the three sections, one after the other
sections-back : (file l m label : List ℕ) (t s : Settings) → SectionBack Zones new_settings t file l → SectionBack Channels t s l m → m ≡ length label ∷ label
    → setup_file s label ≡ file
sections-back file l m label t s zones channels e =
    append_assoc (section_of Zones s) (section_of Channels s) (length label ∷ label)
    ∙ ap₂ (λ a b. a ++ (section_of Channels s ++ b)) (same-section Zones s t channels.beside) (sym e)
    ∙ ap (λ b. section_of Zones t ++ b) (sym channels.bytes)
    ∙ sym zones.bytes

pub read-written : (file : List ℕ) (s : Settings) (label : List ℕ) → file_read file ≡ given (s, label) → Writable s label × (setup_file s label ≡ file)
read-written file s label e =
    let g = both-given (zones_read file) _ (s, label) e in
    let z = g.0 in
    let h = both-given (section_read Channels z.0 z.1) _ (s, label) g.2 in
    let c = h.0 in
    let zones = zones-back file z.0 z.1 g.1 in
    let channels = channels-back file z.1 c.1 z.0 c.0 zones.0 h.1 in
    let named = label-back c.0 s c.1 label h.2 in
    let fits : legal c.0.layout ≡ true = ap legal (same_layout c.0 z.0 (λ j b. channels.beside j)) ∙ zones.1 in
    subst (λ t. Writable t label × (setup_file t label ≡ file)) named.1 (
      record { settings_allowed = proper-allowed c.0 channels.proper fits; allowed_label = named.2 },
      sections-back file z.1 c.1 label z.0 c.0 zones.0 channels named.0,
    )
