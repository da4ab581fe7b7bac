-- What is written of allowed settings and a label is taken, and gives them back in the fields that are read.
-- Assumes nothing.
use Prim.Native.Nat.{ℕ, zero, suc, ◌+◌, ◌<◌, ◌≤◌}
use mathlib.Core.Path.{◌≡◌, refl, ap, sym, ◌∙◌}
use mathlib.Core.Bool.{true, false}
use mathlib.Core.Logic.{⊎_elim}
use mathlib.Core.List.{List, ◌∷◌, ◌++◌, append_assoc, flatten}
use native.Mathlib.Nat.{eq-or-lt_of_le, le_of_suc-le-suc, le_refl, not-suc-le-zero}
use native.Mathlib.Omega.{arith}
use lib.Dec.{ltb}
use lib.ListN.{length}
use lib.Seq.{take-length}
use borrow.Author.Tests.{le-ltb}
use Rattle.ump.specs.Outcome.{Outcome, given}
use Rattle.ump.proofs.Cases.{by-test}
use Rattle.mpe_layout.specs.Layout.{legal}
use Rattle.settings.specs.declared.Settings.{Settings}
use Rattle.settings.specs.Settings.{new_settings, allowed}
use Rattle.settings.proofs.Allowed.{passed, allowed-legal}
use Rattle.setup_file.specs.declared.Section.{Section}
use Rattle.setup_file.specs.declared.Section.TheVariants.{Zones, Channels}
use Rattle.setup_file.specs.Format.{most, unlisted, entry_of, entries_from, entries_of, section_of, most_label, label_allowed, setup_file, seen, settings_with}
use Rattle.setup_file.specs.Read.{entries_read, section_read, label_read, file_read}
use Rattle.setup_file.specs.Claims.{Writable}
use Rattle.setup_file.proofs.Entries.{own-front, own-rest, own-number, Sized, new-sized, placed-sized, placed-there, placed-elsewhere, other_section, placed-beside, of-each, same_layout, same_entries, seen-sized, seen-listed, seen-unlisted}
use Rattle.setup_file.proofs.Taken.{Taken, taken-read, own-taken}

-- entries of s below k have been placed: below k as the settings in the fields that are read, and from k on as in new settings
record Stands (section : Section) (s t : Settings) (k : ℕ) : Type 0 where
  pub sized : Sized t
  pub below : (j : ℕ) → j < k → entry_of section t j ≡ entry_of section (seen s) j
  pub from : (j : ℕ) → k ≤ j → j < most section → entry_of section t j ≡ entry_of section new_settings j

-- nothing is placed for an entry that is not listed
skipped : (section : Section) (s t : Settings) (k : ℕ) → k < most section → unlisted section (entry_of section s k) ≡ true
    → Stands section s t k → Stands section s t (suc k)
skipped section s t k b u h =
    record {
      sized = h.sized;
      below = λ j l.
          ⊎_elim
          (λ (e : j ≡ k). rw e (h.from k (le_refl k) b ∙ sym (seen-unlisted section s k b u)))
          (λ (l : j < k). h.below j l)
          (eq-or-lt_of_le (le_of_suc-le-suc l));
      from = λ j l. h.from j (omega arith);
    }

-- and a listed one is placed
placed-own : (section : Section) (s t : Settings) (k : ℕ) (rest : List ℕ) → k < most section → unlisted section (entry_of section s k) ≡ false
    → Taken section k (entry_of section s k ++ rest) → Sized t → entry_of section (settings_with section (entry_of section s k ++ rest) t) k ≡ entry_of section (seen s) k
placed-own section s t k rest b u a z =
    ap (entry_of section (settings_with section (entry_of section s k ++ rest) t)) (sym (own-number section s k rest))
    ∙ placed-there section (entry_of section s k ++ rest) t z a.within
    ∙ own-front section s k rest
    ∙ sym (seen-listed section s k b u)

placed : (section : Section) (s t : Settings) (k : ℕ) (rest : List ℕ) → k < most section → unlisted section (entry_of section s k) ≡ false
    → Taken section k (entry_of section s k ++ rest) → Stands section s t k → Stands section s (settings_with section (entry_of section s k ++ rest) t) (suc k)
placed section s t k rest b u a h =
    let e = entry_of section s k ++ rest in
    let n = own-number section s k rest in
    record {
      sized = placed-sized section e t h.sized;
      below = λ j l.
          ⊎_elim
          (λ (i : j ≡ k). rw i (placed-own section s t k rest b u a h.sized))
          (λ (l : j < k). placed-elsewhere section e t j a.within (omega arith) (λ i. omega arith) ∙ h.below j l)
          (eq-or-lt_of_le (le_of_suc-le-suc l));
      from = λ j l m. placed-elsewhere section e t j a.within m (λ i. omega arith) ∙ h.from j (omega arith) m;
    }

-- entries that are read from the front of a list, up to its rest
record ReadTo (section : Section) (s t : Settings) (reading : Outcome (Settings × List ℕ)) (rest : List ℕ) : Type 0 where
  pub end : Settings
  pub taken : reading ≡ given (end, rest)
  pub stands : Stands section s end (most section)
  pub beside : (j : ℕ) → entry_of (other_section section) end j ≡ entry_of (other_section section) t j

-- the listed entries of n numbers from k on, and then the rest
abbrev ReadFrom : (section : Section) (s : Settings) (n k least : ℕ) (t : Settings) (rest : List ℕ) → Type 0
ReadFrom section s n k least t rest =
    ReadTo section s t (entries_read section (length (entries_from section s k n)) least t (flatten (entries_from section s k n) ++ rest)) rest

none_left : (section : Section) (s : Settings) (k least : ℕ) → k ≡ most section → (t : Settings) → Stands section s t k
    → (rest : List ℕ) → ReadFrom section s 0 k least t rest
unfolding entries_from entries_read flatten
none_left section s k least e t a rest = record { end = t; taken = refl; stands = rw e at a; beside = λ j. refl }

-- one number more at the front
one_more : (section : Section) (s : Settings) → allowed s ≡ true → (n k least : ℕ) → k < most section → least ≤ k → (t : Settings) → Stands section s t k
    → (rest : List ℕ) → ((m : ℕ) (u : Settings) → m ≤ suc k → Stands section s u (suc k) → ReadFrom section s n (suc k) m u rest)
    → ReadFrom section s (suc n) k least t rest
unfolding entries_from entries_read flatten
one_more section s h n k least b l t a rest next =
    by-test (unlisted section (entry_of section s k))
    (λ u. rw u (next least t (omega arith) (skipped section s t k b u a)))
    (λ u. rw (u, append_assoc)
    (let more = flatten (entries_from section s (suc k) n) ++ rest in
    let entry = entry_of section s k ++ more in
    let r = next (suc k) (settings_with section entry t) (le_refl (suc k)) (placed section s t k more b u (own-taken section s k k more h b (le_refl k) u) a) in
    record {
      end = r.end;
      taken = rw (taken-read section least entry (own-taken section s k least more h b l u), own-number section s k more, own-rest section s k more) r.taken;
      stands = r.stands;
      beside = λ j. r.beside j ∙ placed-beside section entry t j;
    }))

entries-read : (section : Section) (s : Settings) → allowed s ≡ true → (n k least : ℕ) → k + n ≡ most section → least ≤ k → (t : Settings) → Stands section s t k
    → (rest : List ℕ) → ReadFrom section s n k least t rest
entries-read section s h zero k least e l t a rest = none_left section s k least (omega arith) t a rest
entries-read section s h (suc n) k least e l t a rest =
    one_more section s h n k least (omega arith) l t a rest (λ m u c d. entries-read section s h n (suc k) m (omega arith) c u d rest)

-- no more entries than numbers
count-le : (section : Section) (s : Settings) (n k : ℕ) → length (entries_from section s k n) ≤ n
unfolding entries_from
count-le section s zero k = le_refl 0
count-le section s (suc n) k =
    let c = count-le section s n (suc k) in
    by-test (unlisted section (entry_of section s k)) (λ u. rw u (omega arith)) (λ u. rw u (omega arith))

section-read : (section : Section) (s : Settings) → allowed s ≡ true → (t : Settings) → Stands section s t 0
    → (rest : List ℕ) → ReadTo section s t (section_read section t (section_of section s ++ rest)) rest
section-read section s h t a rest =
    rw (le-ltb (most section) (length (entries_of section s)) (count-le section s (most section) 0))
    (entries-read section s h (most section) 0 0 (omega arith) (le_refl 0) t a rest)

-- the label
label-read : (s : Settings) (label : List ℕ) → label_allowed label ≡ true → label_read s (length label ∷ label) ≡ given (s, label)
unfolding label_allowed
label-read s label h =
    let p = passed (ltb most_label (length label)) _ h in
    rw (p.0, le-ltb (length label) (length label) (le_refl (length label)), take-length label, p.1)

-- both sections are as the settings in the fields that are read
both-seen : (s t : Settings) → Sized t → ((j : ℕ) → j < 2 → entry_of Zones t j ≡ entry_of Zones (seen s) j)
    → ((j : ℕ) → j < 16 → entry_of Channels t j ≡ entry_of Channels (seen s) j) → t ≡ seen s
both-seen s t z h g =
    same_entries t (seen s) z (seen-sized s) (of-each (λ section. (j : ℕ) → j < most section → entry_of section t j ≡ entry_of section (seen s) j) Zones h g)

-- the zones, whose pair is legal; the channels; and the label
pub read_back : (s : Settings) (label : List ℕ) → Writable s label → file_read (setup_file s label) ≡ given (seen s, label)
read_back s label w =
    let h = w.settings_allowed in
    let tail = length label ∷ label in
    let new : Stands Zones s new_settings 0 = record { sized = new-sized; below = λ j l. absurd (not-suc-le-zero l); from = λ j l m. refl } in
    let z = section-read Zones s h new_settings new (section_of Channels s ++ tail) in
    let rest : Stands Channels s z.end 0 = record { sized = z.stands.sized; below = λ j l. absurd (not-suc-le-zero l); from = λ j l m. z.beside j } in
    let c = section-read Channels s h z.end rest tail in
    let fits : legal z.end.layout ≡ true = ap legal (same_layout z.end (seen s) z.stands.below) ∙ allowed-legal s h in
    let same = both-seen s c.end c.stands.sized (λ j l. c.beside j ∙ z.stands.below j l) c.stands.below in
    ap file_read (append_assoc (section_of Zones s) (section_of Channels s) tail)
    ∙ rw (z.taken, fits, c.taken, same) (label-read (seen s) label w.allowed_label)
