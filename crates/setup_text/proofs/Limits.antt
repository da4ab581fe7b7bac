-- What the numbers of a line are that is inside its limits, and which word stands at each place of a line.
-- Assumes nothing.
use Prim.Native.Nat.{ℕ, zero, suc, ◌+◌, ◌*◌, ◌/◌, ◌%◌, ◌^◌, ◌<◌, ◌≤◌}
use mathlib.Core.Path.{◌≡◌, refl}
use mathlib.Core.Bool.{Bool, true, false}
use mathlib.Core.Logic.{◌⊎◌, inl, inr, ⊎_elim}
use native.Mathlib.Omega.{arith}
use lib.Dec.{ltb, eqb}
use lib.ListN.{length, get_or}
use borrow.Author.Tests.{ltb-false, eqb-true, lt-ltb, le-ltb}
use Rattle.ump.specs.Choice.{when◌then◌else◌}
use Rattle.mpe_sender.specs.Writers.{sensitivity_allowed}
use Rattle.mpe_sender.proofs.Entered.{allowed-limits}
use Rattle.settings.specs.declared.ZoneSettings.{ZoneSettings}
use Rattle.settings.specs.Settings.{zone_allowed}
use Rattle.settings.proofs.Allowed.{both, passed}
use Rattle.setup_file.specs.declared.Section.{Section}
use Rattle.setup_file.specs.declared.Section.TheVariants.{Zones, Channels}
use Rattle.setup_file.specs.Format.{zone_entry_within, entry_within, channel_entry}
use Rattle.setup_file.proofs.Entries.{within-number, channel-within}
use Rattle.setup_text.specs.declared.Field.TheVariants as field
use Rattle.setup_text.specs.Text.{line_fields}

-- a zone: 0 or 1, members 1 to 15, semitones to 96, cents to 99, mode 3 or 4
pub record ZoneLimits (number members : ℕ) (zone : ZoneSettings) : Type 0 where
  pub number-in : number ≤ 1
  pub members_fit : members ≤ 15
  pub manager_semitones : zone.manager.semitones ≤ 96
  pub manager_cents : zone.manager.cents ≤ 99
  pub member_semitones : zone.member.semitones ≤ 96
  pub member_cents : zone.member.cents ≤ 99
  pub mode-in : (zone.mode ≡ 3) ⊎ (zone.mode ≡ 4)

mode-cases : (mode : ℕ) (b : Bool) → eqb mode 3 ≡ b → (when b then true else eqb mode 4) ≡ true → (mode ≡ 3) ⊎ (mode ≡ 4)
mode-cases mode true e h = inl (eqb-true mode 3 e)
mode-cases mode false e h = inr (eqb-true mode 4 h)

pub zone-limits : (number members : ℕ) (zone : ZoneSettings) → zone_entry_within number members zone ≡ true → ZoneLimits number members zone
unfolding zone_entry_within zone_allowed
zone-limits number members zone h =
    let a = passed (ltb 1 number) _ h in
    let b = passed (eqb members 0) _ a.1 in
    let c = passed (ltb 15 members) _ b.1 in
    let d : (when sensitivity_allowed zone.manager then (when sensitivity_allowed zone.member then (when eqb zone.mode 3 then true else eqb zone.mode 4) else false) else false) ≡ true =
    rw b.0 at c.1 in
    let e = both (sensitivity_allowed zone.manager) _ d in
    let f = both (sensitivity_allowed zone.member) _ e.1 in
    let m = allowed-limits zone.manager e.0 in
    let n = allowed-limits zone.member f.0 in
    record {
      number-in = ltb-false 1 number a.0;
      members_fit = ltb-false 15 members c.0;
      manager_semitones = m.0;
      manager_cents = m.1;
      member_semitones = n.0;
      member_cents = n.1;
      mode-in = mode-cases zone.mode (eqb zone.mode 3) refl f.1;
    }

pub mode-le : {mode : ℕ} → (mode ≡ 3) ⊎ (mode ≡ 4) → mode ≤ 4
mode-le h = ⊎_elim (λ e. omega arith) (λ e. omega arith) h

-- a channel: 0 to 15, bend to 0x3FFF, pressure and brightness to 127
pub record ChannelLimits (number bend pressure brightness : ℕ) : Type 0 where
  pub number-in : number ≤ 15
  pub bend-in : bend ≤ 0x3FFF
  pub pressure-in : pressure ≤ 127
  pub brightness-in : brightness ≤ 127

pub channel-limits : (number bend pressure brightness : ℕ) → entry_within Channels (channel_entry number bend pressure brightness) ≡ true
    → ChannelLimits number bend pressure brightness
channel-limits number bend pressure brightness h =
    let n : number < 16 = within-number Channels (channel_entry number bend pressure brightness) h in
    let w = channel-within _ _ _ _ _ h in
    record { number-in = omega arith; bend-in = omega (arith, w.0, w.1); pressure-in = w.2; brightness-in = w.3 }

-- a bend's halves are inside their limits exactly if it is
pub bend-over : (bend : ℕ) → 0x3FFF < bend → ltb 127 (bend / 2 ^ 7) ≡ true
bend-over bend h = lt-ltb 127 (bend / 2 ^ 7) (let z : 127 < bend / 2 ^ 7 = omega arith in z)

pub bend-inside : (bend : ℕ) → bend ≤ 0x3FFF → (ltb 127 (bend / 2 ^ 7) ≡ false) × (ltb 127 (bend % 2 ^ 7) ≡ false)
bend-inside bend h = (
  le-ltb 127 (bend / 2 ^ 7) (let z : bend / 2 ^ 7 ≤ 127 = omega arith in z),
  le-ltb 127 (bend % 2 ^ 7) (let z : bend % 2 ^ 7 ≤ 127 = omega arith in z),
)

-- at the other places of a line stand numbers
pub zone-number : (k : ℕ) → (k ≡ 0 → ⊥) → (k ≡ 6 → ⊥) → field.Number ≡ get_or (line_fields Zones) k field.Number
zone-number zero a b = absurd (a refl)
zone-number (suc zero) a b = refl
zone-number (suc (suc zero)) a b = refl
zone-number (suc (suc (suc zero))) a b = refl
zone-number (suc (suc (suc (suc zero)))) a b = refl
zone-number (suc (suc (suc (suc (suc zero))))) a b = refl
zone-number (suc (suc (suc (suc (suc (suc zero)))))) a b = absurd (b refl)
zone-number (suc (suc (suc (suc (suc (suc (suc k))))))) a b = refl

pub channel-number : (k : ℕ) → (k ≡ 0 → ⊥) → (k ≡ 2 → ⊥) → (k ≡ 4 → ⊥) → (k ≡ 6 → ⊥) → field.Number ≡ get_or (line_fields Channels) k field.Number
channel-number zero a b c d = absurd (a refl)
channel-number (suc zero) a b c d = refl
channel-number (suc (suc zero)) a b c d = absurd (b refl)
channel-number (suc (suc (suc zero))) a b c d = refl
channel-number (suc (suc (suc (suc zero)))) a b c d = absurd (c refl)
channel-number (suc (suc (suc (suc (suc zero))))) a b c d = refl
channel-number (suc (suc (suc (suc (suc (suc zero)))))) a b c d = absurd (d refl)
channel-number (suc (suc (suc (suc (suc (suc (suc zero))))))) a b c d = refl
channel-number (suc (suc (suc (suc (suc (suc (suc (suc k)))))))) a b c d = refl

-- a bend is made of its halves
pub bend-whole : (bend : ℕ) → bend / 2 ^ 7 * 2 ^ 7 + bend % 2 ^ 7 ≡ bend
bend-whole bend = omega arith

-- no line has more than eight words
pub fields-most : (section : Section) → length (line_fields section) ≤ 8
fields-most Zones = omega arith
fields-most Channels = omega arith
