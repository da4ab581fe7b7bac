-- Entries, one after the other: one that is taken leaves the rest to be read, one that is refused gives the answer.
-- Assumes nothing.
use Prim.Native.Nat.{ℕ, suc, ◌+◌, ◌-◌, ◌<◌, ◌≤◌}
use mathlib.Core.Path.{◌≡◌, refl, sym, ap, ◌∙◌}
use mathlib.Core.List.{List}
use native.Mathlib.Omega.{arith}
use native.Mathlib.Numerals.{add-one}
use lib.ListN.{length, drop}
use Rattle.ump.specs.Outcome.{Outcome, given, declined, out_of_range}
use Rattle.settings.specs.declared.Settings.{Settings}
use Rattle.setup_file.specs.declared.Section.{Section}
use Rattle.setup_file.specs.declared.Section.TheVariants.{Zones, Channels}
use Rattle.setup_file.specs.Format.{most, entry_size, number_in, settings_with}
use Rattle.setup_file.specs.Read.{and_then, entry_read, entries_read}
use Rattle.setup_file.proofs.Outcomes.{same-given, not-given, both-given}
use Rattle.setup_file.proofs.Entries.{within-number}
use Rattle.setup_file.proofs.Taken.{Taken, taken-read, read_taken}
use Rattle.setup_entry.specs.declared.SetupError.{SetupError}
use Rattle.setup_entry.specs.declared.SetupError.TheVariants as setup_error
use Rattle.setup_entry.specs.Entry.{refused_by, entry_answered}

-- a refusal is nothing given
pub refused-not : {A P : Type 0} (q : SetupError) (a : A) → refused_by q ≡ given a → P
refused-not setup_error.OutOfRange a e = not-given e
refused-not setup_error.WrongLength a e = not-given e
refused-not setup_error.OutOfOrder a e = not-given e

-- it is the answer of all that would follow, whatever that is
pub refused-on : {A B : Type 0} (q : SetupError) (next : A → Outcome B) → refused_by {A = B} q ≡ and_then (refused_by {A = A} q) next
refused-on setup_error.OutOfRange next = refl
refused-on setup_error.WrongLength next = refl
refused-on setup_error.OutOfOrder next = refl

-- and of all that would follow something else
pub refused-alike : {A B C : Type 0} (q : SetupError) (o : Outcome C) (x : C → A) (next : C → Outcome B)
    → refused_by q ≡ and_then o (λ c. given (x c)) → refused_by q ≡ and_then o next
refused-alike q (given c) x next e = refused-not q (x c) e
refused-alike q (declined n v) x next e = refused-on q (λ a. out_of_range) ∙ ap (λ o. and_then o (λ a. out_of_range)) e

module _ (section : Section) (least : ℕ) (b : List ℕ) (s : Settings) where
  -- settings after an entry that was taken: it is whole and inside its limits, its number is that of a zone or a channel, and they have what it says
  module _ (t : Settings) (e : given t ≡ entry_answered section least b s) where
    both : (n : ℕ) × (entry_read section least b ≡ given n) × (given (settings_with section b s) ≡ given t)
    both = both-given (entry_read section least b) (λ n. given (settings_with section b s)) t (sym e)

    pub entry-taken : Taken section least b
    entry-taken = (read_taken section least b both.1).0

    pub number_small : number_in b < 16
    number_small = small section (within-number section b entry-taken.within)
      where
        small : (n : Section) → number_in b < most n → number_in b < 16
        small Zones w = omega arith
        small Channels w = w

    -- it has a first byte
    pub first : 0 < length b
    first = at-first section entry-taken.long
      where
        at-first : (n : Section) → entry_size n ≤ length b → 0 < length b
        at-first Zones w = omega arith
        at-first Channels w = omega arith

    pub settings-with : settings_with section b s ≡ t
    settings-with = same-given (settings_with section b s) t both.2

    -- the entries that are left are read on
    pub entries-on : (left : ℕ)
        → entries_read section left (number_in b + 1) t (drop (entry_size section) b) ≡ entries_read section (suc left) least s b
    unfolding entries_read
    entries-on left = rw (← settings-with, taken-read section least b entry-taken, add-one)

  -- one that is refused is the answer
  pub entries-refused : (left : ℕ) (q : SetupError) → refused_by q ≡ entry_answered section least b s → refused_by q ≡ entries_read section (suc left) least s b
  unfolding entries_read
  entries-refused left q e =
      refused-alike q (entry_read section least b) (λ n. settings_with section b s)
      (λ n. entries_read section left (suc n) (settings_with section b s) (drop (entry_size section) b)) e

-- so many entries are left
pub one_left : (section : Section) (count k least : ℕ) (s : Settings) (b : List ℕ) → k < count
    → entries_read section (suc (count - (k + 1))) least s b ≡ entries_read section (count - k) least s b
one_left section count k least s b h = ap (λ n. entries_read section n least s b) (omega arith)
