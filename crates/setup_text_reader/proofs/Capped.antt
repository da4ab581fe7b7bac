-- A number above 255 as the byte 255: no test of an entry tells them apart, since every limit is below.
-- Assumes nothing.
use Prim.Native.Nat.{ℕ, ◌/◌, ◌%◌, ◌^◌, ◌<◌, ◌≤◌}
use mathlib.Core.Path.{◌≡◌, sym, ap, ◌∙◌}
use mathlib.Core.Bool.{true}
use mathlib.Core.List.{List}
use native.Mathlib.Omega.{arith}
use lib.Dec.{ltb, eqb}
use lib.ListN.{get_or}
use borrow.Author.Tests.{lt-ltb, ne_eqb, ltb-false}
use Rattle.ump.proofs.Cases.{by-test}
use Rattle.mpe_sender.specs.Writers.{sensitivity_allowed}
use Rattle.settings.specs.declared.Settings.{Settings}
use Rattle.settings.specs.Settings.{zone_allowed}
use Rattle.setup_file.specs.declared.Section.{Section}
use Rattle.setup_file.specs.declared.Section.TheVariants.{Zones, Channels}
use Rattle.setup_file.specs.Format.{number_in, zone_entry_within, channel_entry_within, entry_within, unlisted, settings_with}
use Rattle.setup_file.specs.Read.{entry_read}
use Rattle.setup_file.proofs.Entries.{front, number-front, unlisted-front, placed-front}
use Rattle.setup_text.specs.Parse.{entry_from}
use Rattle.setup_text.proofs.Limits.{zone-limits, mode-le, channel-limits}
use Rattle.setup_text_reader.specs.Progress.{byte_for, entry_bytes}

over : (limit n : ℕ) → limit < 255 → ltb limit (byte_for n) ≡ ltb limit n
over limit n h =
    by-test (ltb n 255)
    (λ t. rw t)
    (λ f. let g : limit < n = omega (arith, ltb-false n 255 f) in rw (f, lt-ltb limit 255 h, lt-ltb limit n g))

same : (n m : ℕ) → m < 255 → eqb (byte_for n) m ≡ eqb n m
same n m h =
    by-test (ltb n 255)
    (λ t. rw t)
    (λ f. let g = ltb-false n 255 f in rw (f, ne_eqb 255 m (λ e. omega arith), ne_eqb n m (λ e. omega arith)))

small : {n limit : ℕ} → n ≤ limit → limit < 255 → byte_for n ≡ n
small {n} h g = rw (lt-ltb n 255 (let z : n < 255 = omega arith in z))

-- inside its limits as bytes, or not
capped-within : (section : Section) (numbers : List ℕ) → entry_within section (entry_bytes section numbers) ≡ entry_within section (entry_from section numbers)
unfolding zone_entry_within channel_entry_within zone_allowed sensitivity_allowed
capped-within Zones numbers =
    rw (
      over 1 (get_or numbers 0 0) (omega arith),
      same (get_or numbers 1 0) 0 (omega arith),
      over 15 (get_or numbers 1 0) (omega arith),
      over 96 (get_or numbers 2 0) (omega arith),
      over 99 (get_or numbers 3 0) (omega arith),
      over 96 (get_or numbers 4 0) (omega arith),
      over 99 (get_or numbers 5 0) (omega arith),
      same (get_or numbers 6 0) 3 (omega arith),
      same (get_or numbers 6 0) 4 (omega arith),
    )
capped-within Channels numbers =
    rw (
      over 15 (get_or numbers 1 0) (omega arith),
      over 127 (get_or numbers 3 0 / 2 ^ 7) (omega arith),
      over 127 (get_or numbers 3 0 % 2 ^ 7) (omega arith),
      over 127 (get_or numbers 5 0) (omega arith),
      over 127 (get_or numbers 7 0) (omega arith),
    )

-- and inside they are the numbers themselves
same-front : (section : Section) (numbers : List ℕ) → entry_within section (entry_from section numbers) ≡ true
    → front section (entry_bytes section numbers) ≡ front section (entry_from section numbers)
same-front Zones numbers h =
    let z = zone-limits _ _ _ h in
    rw (
      small z.number-in (omega arith),
      small z.members_fit (omega arith),
      small z.manager_semitones (omega arith),
      small z.manager_cents (omega arith),
      small z.member_semitones (omega arith),
      small z.member_cents (omega arith),
      small (mode-le z.mode-in) (omega arith),
    )
same-front Channels numbers h =
    let c = channel-limits (get_or numbers 1 0) (get_or numbers 3 0) (get_or numbers 5 0) (get_or numbers 7 0) h in
    let m : get_or numbers 3 0 / 2 ^ 7 ≤ 127 = omega (arith, c.bend-in) in
    let l : get_or numbers 3 0 % 2 ^ 7 ≤ 127 = omega arith in
    rw (
      small c.number-in (omega arith),
      small m (omega arith),
      small l (omega arith),
      small c.pressure-in (omega arith),
      small c.brightness-in (omega arith),
    )

module _ (section : Section) (numbers : List ℕ) (w : entry_within section (entry_from section numbers) ≡ true) where
  same_number : number_in (entry_bytes section numbers) ≡ number_in (entry_from section numbers)
  same_number = sym (number-front section (entry_bytes section numbers)) ∙ ap number_in (same-front section numbers w) ∙ number-front section (entry_from section numbers)

  same-unlisted : unlisted section (entry_bytes section numbers) ≡ unlisted section (entry_from section numbers)
  same-unlisted =
      sym (unlisted-front section (entry_bytes section numbers))
      ∙ ap (unlisted section) (same-front section numbers w)
      ∙ unlisted-front section (entry_from section numbers)

  pub capped-with : (s : Settings) → settings_with section (entry_bytes section numbers) s ≡ settings_with section (entry_from section numbers) s
  capped-with s =
      sym (placed-front section (entry_bytes section numbers) s)
      ∙ ap (λ l. settings_with section l s) (same-front section numbers w)
      ∙ placed-front section (entry_from section numbers) s

pub capped-read : (section : Section) (least : ℕ) (numbers : List ℕ)
    → entry_read section least (entry_bytes section numbers) ≡ entry_read section least (entry_from section numbers)
unfolding entry_read
capped-read Zones least numbers =
    by-test (entry_within Zones (entry_from Zones numbers))
    (λ w. rw (capped-within Zones numbers, w, same_number Zones numbers w, same-unlisted Zones numbers w))
    (λ w. rw (capped-within Zones numbers, w))
capped-read Channels least numbers =
    by-test (entry_within Channels (entry_from Channels numbers))
    (λ w. rw (capped-within Channels numbers, w, same_number Channels numbers w, same-unlisted Channels numbers w))
    (λ w. rw (capped-within Channels numbers, w))
