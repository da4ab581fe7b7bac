-- What allowed settings keep: a legal layout, and the limits of each field that is read.
-- Assumes nothing.
use mathlib.Core.Path.{◌≡◌, refl}
use mathlib.Core.Bool.{Bool, true, false}
use mathlib.Core.Logic.{◌⊎◌, inl, inr, ⊎_elim}
use Prim.Native.Nat.{ℕ, zero, suc, ◌<◌, ◌≤◌}
use native.Mathlib.Nat.{eq-or-lt_of_le, le_of_suc-le-suc, not-suc-le-zero}
use native.Mathlib.Omega.{arith}
use lib.Dec.{ltb, eqb}
use borrow.Author.Tests.{ltb-false, eqb-true, ne_eqb}
use Rattle.ump.specs.Choice.{when◌then◌else◌}
use Rattle.ump.specs.Outcome.{given, out_of_range}
use Rattle.mpe_layout.specs.Layout.{legal, of_legal}
use Rattle.mpe_layout.specs.declared.MpeZone.{MpeZone}
use Rattle.mpe_layout.specs.declared.MpeZone.TheVariants.{Lower, Upper}
use Rattle.mpe_layout.specs.declared.MpeLayout.{MpeLayout}
use Rattle.mpe_sender.specs.Writers.{sensitivity_allowed}
use Rattle.settings.specs.Settings.{zone_of, members_in, bend_on, pressure_on, brightness_on, zone_allowed, channel_allowed, channels_allowed, allowed}
use Rattle.settings.specs.declared.ZoneSettings.{ZoneSettings}
use Rattle.settings.specs.declared.Settings.{Settings}

-- a test that must hold did, and what follows it
pub both : (b x : Bool) → (when b then x else false) ≡ true → (b ≡ true) × (x ≡ true)
both true x h = (refl, h)
both false x h = absurd (let z : ◌≡◌ {A = ℕ} 0 1 = cc in omega arith)

-- a refusing test did not refuse
pub passed : (b x : Bool) → (when b then false else x) ≡ true → (b ≡ false) × (x ≡ true)
passed true x h = absurd (let z : ◌≡◌ {A = ℕ} 0 1 = cc in omega arith)
passed false x h = (refl, h)

-- an accepting test accepted, or what follows it
either : (b x : Bool) → (when b then true else x) ≡ true → (b ≡ true) ⊎ (x ≡ true)
either true x h = inl refl
either false x h = inr h

zone-limits : (members : ℕ) (z : ZoneSettings) → zone_allowed members z ≡ true → 0 < members
    → (sensitivity_allowed z.manager ≡ true) × (sensitivity_allowed z.member ≡ true) × ((z.mode ≡ 3) ⊎ (z.mode ≡ 4))
unfolding zone_allowed
zone-limits members z h some =
    let e : eqb members 0 ≡ false = ne_eqb members 0 (λ n. omega arith) in
    let p = both (sensitivity_allowed z.manager) _ (rw e at h) in
    let q = both (sensitivity_allowed z.member) _ p.1 in (
      p.0,
      q.0,
      ⊎_elim (λ t. inl (eqb-true z.mode 3 t)) (λ f. inr (eqb-true z.mode 4 f)) (either (eqb z.mode 3) (eqb z.mode 4) q.1),
    )

channel-limits : (bend pressure brightness : ℕ) → channel_allowed bend pressure brightness ≡ true
    → (bend ≤ 0x3FFF) × (pressure ≤ 127) × (brightness ≤ 127)
unfolding channel_allowed
channel-limits bend pressure brightness h =
    let p = passed (ltb 0x3FFF bend) _ h in
    let q = passed (ltb 127 pressure) _ p.1 in
    let r = passed (ltb 127 brightness) _ q.1 in
    (ltb-false 0x3FFF bend p.0, ltb-false 127 pressure q.0, ltb-false 127 brightness r.0)

channels-limits : (s : Settings) (n : ℕ) → channels_allowed s n ≡ true → (k : ℕ) → k < n
    → (bend_on s k ≤ 0x3FFF) × (pressure_on s k ≤ 127) × (brightness_on s k ≤ 127)
unfolding channels_allowed
channels-limits s zero h k b = absurd (not-suc-le-zero b)
channels-limits s (suc n) h k b =
    let p = both (channels_allowed s n) _ h in
    ⊎_elim
    (λ (e : k ≡ n). rw e (channel-limits (bend_on s n) (pressure_on s n) (brightness_on s n) p.1))
    (λ (l : k < n). channels-limits s n p.0 k l)
    (eq-or-lt_of_le (le_of_suc-le-suc b))

-- the four parts of the test
pub record Parts (s : Settings) : Type 0 where
  pub is-legal : legal s.layout ≡ true
  pub is-lower : zone_allowed (members_in s Lower) s.lower ≡ true
  pub is-upper : zone_allowed (members_in s Upper) s.upper ≡ true
  pub is-channels : channels_allowed s 16 ≡ true

pub parts : (s : Settings) → allowed s ≡ true → Parts s
unfolding allowed
parts s h =
    let p = both (legal s.layout) _ h in
    let q = both (zone_allowed (members_in s Lower) s.lower) _ p.1 in
    let r = both (zone_allowed (members_in s Upper) s.upper) _ q.1 in
    record { is-legal = p.0; is-lower = q.0; is-upper = r.0; is-channels = r.1 }

-- a layout that is made is the legal one that was asked for
pub made-legal : (l : MpeLayout) {m : MpeLayout} → given m ≡ of_legal l (given l) → (legal l ≡ true) × (m ≡ l)
made-legal l e = cases l (legal l) e
  where
    cases : (l : MpeLayout) {m : MpeLayout} (b : Bool) → given m ≡ (when b then given l else out_of_range) → (b ≡ true) × (m ≡ l)
    cases l true e = (refl, cc)
    cases l false e = absurd (let z : ◌≡◌ {A = ℕ} 0 1 = cc in omega arith)

pub made_none : (l : MpeLayout) → out_of_range ≡ of_legal l (given l) → legal l ≡ false
made_none l e = cases l (legal l) e
  where
    cases : (l : MpeLayout) (b : Bool) → out_of_range ≡ (when b then given l else out_of_range) → b ≡ false
    cases l true e = absurd (let z : ◌≡◌ {A = ℕ} 0 1 = cc in omega arith)
    cases l false e = refl

pub allowed-legal : (s : Settings) → allowed s ≡ true → legal s.layout ≡ true
allowed-legal s h = (parts s h).is-legal

-- of a zone with members
pub allowed-zone : (s : Settings) → allowed s ≡ true → (zone : MpeZone) → 0 < members_in s zone
    → (sensitivity_allowed (zone_of s zone).manager ≡ true) × (sensitivity_allowed (zone_of s zone).member ≡ true) × (((zone_of s zone).mode ≡ 3) ⊎ ((zone_of s zone).mode ≡ 4))
allowed-zone s h Lower some = zone-limits (members_in s Lower) s.lower (parts s h).is-lower some
allowed-zone s h Upper some = zone-limits (members_in s Upper) s.upper (parts s h).is-upper some

pub allowed-channel : (s : Settings) → allowed s ≡ true → (k : ℕ) → k < 16
    → (bend_on s k ≤ 0x3FFF) × (pressure_on s k ≤ 127) × (brightness_on s k ≤ 127)
allowed-channel s h k b = channels-limits s 16 (parts s h).is-channels k b
