-- One entry: when it is taken, and that every listed entry of allowed settings is.
-- Assumes nothing.
use Prim.Native.Nat.{ℕ, ◌/◌, ◌%◌, ◌^◌, ◌<◌, ◌≤◌}
use mathlib.Core.Path.{◌≡◌, ap, sym, ◌∙◌}
use mathlib.Core.Bool.{true, false}
use mathlib.Core.List.{List, ◌++◌}
use native.Mathlib.Omega.{arith}
use lib.Dec.{ltb, eqb}
use lib.ListN.{length}
use borrow.Author.Tests.{ltb-false, le-ltb}
use Rattle.ump.specs.Outcome.{given}
use Rattle.ump.proofs.Cases.{by-test}
use Rattle.mpe_layout.specs.declared.MpeZone.TheVariants.{Lower, Upper}
use Rattle.mpe_layout.proofs.Legal.{members-le}
use Rattle.settings.specs.declared.Settings.{Settings}
use Rattle.settings.specs.Settings.{bend_on, pressure_on, brightness_on, allowed}
use Rattle.settings.proofs.Allowed.{parts, allowed-channel}
use Rattle.setup_file.specs.declared.Section.{Section}
use Rattle.setup_file.specs.declared.Section.TheVariants.{Zones, Channels}
use Rattle.setup_file.specs.Format.{most, entry_size, number_in, zone_entry_within, channel_entry_within, entry_within, unlisted, entry_of}
use Rattle.setup_file.specs.Read.{entry_read}
use Rattle.setup_file.proofs.Outcomes.{same-given, not-given}
use Rattle.setup_file.proofs.Entries.{own-front, own-long, own-number, within-front, unlisted-front}

-- a whole entry, inside its limits, whose number is not too small, and that has to be listed
pub record Taken (section : Section) (least : ℕ) (l : List ℕ) : Type 0 where
  pub long : entry_size section ≤ length l
  pub within : entry_within section l ≡ true
  pub rising : least ≤ number_in l
  pub listed : unlisted section l ≡ false

pub taken-read : (section : Section) (least : ℕ) (l : List ℕ) → Taken section least l → entry_read section least l ≡ given (number_in l)
unfolding entry_read
taken-read section least l t =
    rw (le-ltb (length l) (entry_size section) t.long, t.within, le-ltb (number_in l) least t.rising, t.listed)

pub read_taken : (section : Section) (least : ℕ) (l : List ℕ) {n : ℕ} → entry_read section least l ≡ given n → Taken section least l × (n ≡ number_in l)
unfolding entry_read
read_taken section least l {n} e =
    by-test (ltb (length l) (entry_size section))
    (λ short. not-given (rw short at e))
    (λ long. by-test (entry_within section l)
    (λ within. by-test (ltb (number_in l) least)
    (λ low. not-given (rw (long, within, low) at e))
    (λ rising. by-test (unlisted section l)
    (λ rest. not-given (rw (long, within, rising, rest) at e))
    (λ listed. (
      record { long = ltb-false _ _ long; within = within; rising = ltb-false _ _ rising; listed = listed },
      sym (same-given (number_in l) n (rw (long, within, rising, listed) at e)),
    ))))
    (λ outside. not-given (rw (long, outside) at e)))

-- what allowed settings list is inside its limits
pub own-within : (section : Section) (s : Settings) (k : ℕ) → allowed s ≡ true → k < most section → unlisted section (entry_of section s k) ≡ false
    → entry_within section (entry_of section s k) ≡ true
unfolding zone_entry_within channel_entry_within
own-within Zones s k h b u =
    let p = parts s h in
    by-test (eqb k 0)
    (λ e. rw (e, le-ltb 1 k (omega arith), (rw e at u), le-ltb 15 s.layout.lower (members-le s.layout Lower p.is-legal)) p.is-lower)
    (λ e. rw (e, le-ltb 1 k (omega arith), (rw e at u), le-ltb 15 s.layout.upper (members-le s.layout Upper p.is-legal)) p.is-upper)
own-within Channels s k h b u =
    let c = allowed-channel s h k b in
    rw (
      le-ltb 15 k (omega arith),
      le-ltb 127 (bend_on s k / 2 ^ 7) (omega (arith, c.0)),
      le-ltb 127 (bend_on s k % 2 ^ 7) (omega arith),
      le-ltb 127 (pressure_on s k) c.1,
      le-ltb 127 (brightness_on s k) c.2,
    )

pub own-taken : (section : Section) (s : Settings) (k least : ℕ) (rest : List ℕ) → allowed s ≡ true → k < most section → least ≤ k
    → unlisted section (entry_of section s k) ≡ false → Taken section least (entry_of section s k ++ rest)
own-taken section s k least rest h b r u =
    let f = own-front section s k rest in
    record {
      long = own-long section s k rest;
      within = sym (within-front section (entry_of section s k ++ rest)) ∙ ap (entry_within section) f ∙ own-within section s k h b u;
      rising = rw (own-number section s k rest) r;
      listed = sym (unlisted-front section (entry_of section s k ++ rest)) ∙ ap (unlisted section) f ∙ u;
    }
