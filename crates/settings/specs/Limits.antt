-- The limits of settings, and what they decide, in the papers' words (document 01, "Restatement" and "Replies that decline"; document 02, 2026-01).
use Rattle.std.specs.Prelude.{ℕ, ◌<◌, ◌≤◌, true, ◌≡◌, ◌⊎◌}
use Rattle.ump.specs.Outcome.{Outcome, given, out_of_range, too_small}
use Rattle.mpe_layout.specs.declared.MpeZone.{MpeZone}
use Rattle.mpe_layout.specs.Layout.{legal}
use Rattle.settings.specs.declared.ZoneSettings.{ZoneSettings}
use Rattle.settings.specs.declared.Settings.{Settings}
use Rattle.settings.specs.Settings.{zone_of, members_in, bend_on, pressure_on, brightness_on}

-- manager and member semitones 0 to 96 and cents 0 to 99, and a mode, 3 or 4
pub record ZoneWithin (z : ZoneSettings) : Type 0 where
  pub manager_semitones : z.manager.semitones ≤ 96
  pub manager_cents : z.manager.cents ≤ 99
  pub member_semitones : z.member.semitones ≤ 96
  pub member_cents : z.member.cents ≤ 99
  pub mode_3_or_4 : (z.mode ≡ 3) ⊎ (z.mode ≡ 4)

-- a layout that `new` accepts; for each zone with members its fields, and of an empty one nothing; for each channel bend, pressure and brightness
pub record SettingsWithin (s : Settings) : Type 0 where
  pub layout_legal : legal s.layout ≡ true
  pub zones_within : (zone : MpeZone) → 0 < members_in s zone → ZoneWithin (zone_of s zone)
  pub channels_within : (k : ℕ) → k < 16 → (bend_on s k ≤ 0x3FFF) × (pressure_on s k ≤ 127) × (brightness_on s k ≤ 127)

-- what a writer answers that needs so many elements: 1 for settings outside their limits; then 2 for a buffer with fewer, and else it writes them
pub record AnsweredWithin (s : Settings) (needed got : ℕ) (reply : Outcome ℕ) : Type 0 where
  pub outside_limits : (SettingsWithin s → ⊥) → reply ≡ out_of_range
  pub with_room : SettingsWithin s → needed ≤ got → reply ≡ given needed
  pub without_room : SettingsWithin s → got < needed → reply ≡ too_small needed got
