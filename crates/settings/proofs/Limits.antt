-- Which settings may be restated, those inside the papers' limits and no others, and what a writer answers for them.
-- Assumes nothing.
use Prim.Native.Nat.{ℕ, zero, suc, ◌<◌, ◌≤◌}
use mathlib.Core.Path.{◌≡◌, refl, ◌∙◌}
use mathlib.Core.Bool.{true}
use mathlib.Core.Logic.{⊎_elim}
use native.Mathlib.Omega.{arith}
use lib.Dec.{eqb}
use borrow.Author.Tests.{le-ltb, lt-ltb, eq-eqb, eqb-false}
use Rattle.ump.specs.Outcome.{Outcome}
use Rattle.ump.proofs.Cases.{by-test}
use Rattle.mpe_layout.specs.declared.MpeZone.{MpeZone}
use Rattle.mpe_layout.specs.declared.MpeZone.TheVariants.{Lower, Upper}
use Rattle.mpe_sender.proofs.Entered.{allowed-limits, allowed-within}
use Rattle.settings.specs.declared.ZoneSettings.{ZoneSettings}
use Rattle.settings.specs.declared.Settings.{Settings}
use Rattle.settings.specs.Settings.{zone_of, members_in, bend_on, pressure_on, brightness_on, zone_allowed, channel_allowed, channels_allowed, allowed}
use Rattle.settings.specs.Limits.{ZoneWithin, SettingsWithin, AnsweredWithin}
use Rattle.settings.specs.Messages.{restated_reply}
use Rattle.settings.proofs.Allowed.{allowed-legal, allowed-zone, allowed-channel}

-- allowed settings are inside
zone-inside : (s : Settings) → allowed s ≡ true → (zone : MpeZone) → 0 < members_in s zone → ZoneWithin (zone_of s zone)
zone-inside s h zone some =
    let f = allowed-zone s h zone some in
    let a = allowed-limits (zone_of s zone).manager f.0 in
    let b = allowed-limits (zone_of s zone).member f.1 in
    record { manager_semitones = a.0; manager_cents = a.1; member_semitones = b.0; member_cents = b.1; mode_3_or_4 = f.2 }

-- a zone that is empty, or inside, passes
zone-passes : (members : ℕ) (z : ZoneSettings) → (0 < members → ZoneWithin z) → zone_allowed members z ≡ true
unfolding zone_allowed
zone-passes members z within =
    by-test (eqb members 0)
    (λ e. rw e)
    (λ e.
    let w = within (omega (arith, eqb-false members 0 e)) in
    let a = (allowed-within z.manager).1 w.manager_semitones w.manager_cents in
    let b = (allowed-within z.member).1 w.member_semitones w.member_cents in
    rw (e, a, b)
    (⊎_elim
    (λ (three : z.mode ≡ 3). rw (eq-eqb z.mode 3 three))
    (λ (four : z.mode ≡ 4). rw four)
    w.mode_3_or_4))

pub channels-pass : (s : Settings) (n : ℕ) → ((k : ℕ) → k < n → (bend_on s k ≤ 0x3FFF) × (pressure_on s k ≤ 127) × (brightness_on s k ≤ 127)) → channels_allowed s n ≡ true
unfolding channels_allowed channel_allowed
channels-pass s zero within = refl
channels-pass s (suc n) within =
    let c = within n (omega arith) in
    rw (
      channels-pass s n (λ k l. within k (omega arith)),
      le-ltb 0x3FFF (bend_on s n) c.0,
      le-ltb 127 (pressure_on s n) c.1,
      le-ltb 127 (brightness_on s n) c.2,
    )

inside-allowed : (s : Settings) → SettingsWithin s → allowed s ≡ true
unfolding allowed
inside-allowed s w =
    rw (
      w.layout_legal,
      zone-passes (members_in s Lower) s.lower (w.zones_within Lower),
      zone-passes (members_in s Upper) s.upper (w.zones_within Upper),
    )
    (channels-pass s 16 w.channels_within)

allowed-inside : (s : Settings) → allowed s ≡ true → SettingsWithin s
allowed-inside s h = record { layout_legal = allowed-legal s h; zones_within = zone-inside s h; channels_within = allowed-channel s h }

pub answered_within : (s : Settings) (needed got : ℕ) (reply : Outcome ℕ) → reply ≡ restated_reply s needed got → AnsweredWithin s needed got reply
unfolding restated_reply
answered_within s needed got reply r =
    record {
      outside_limits = λ no. by-test (allowed s) (λ h. absurd (no (allowed-inside s h))) (λ h. r ∙ rw h);
      with_room = λ w fits. r ∙ rw (inside-allowed s w, le-ltb got needed fits);
      without_room = λ w short. r ∙ rw (inside-allowed s w, lt-ltb got needed short);
    }
