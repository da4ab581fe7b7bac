-- Settings, and their limits (document 01, "Restatement").
use Rattle.std.specs.Prelude.{ℕ, zero, suc, Bool, true, false, ltb, eqb, get_or, replicate}
use Rattle.ump.specs.Choice.{when◌then◌else◌}
use Rattle.mpe_layout.specs.declared.MpeZone.{MpeZone}
use Rattle.mpe_layout.specs.declared.MpeZone.TheVariants.{Lower, Upper}
use Rattle.mpe_layout.specs.Layout.{layout_of, legal, members_of}
use Rattle.mpe_pitch.specs.declared.MpeSensitivity.{MpeSensitivity}
use Rattle.mpe_pitch.specs.Pitch.{manager_default, member_default}
use Rattle.mpe_sender.specs.Writers.{sensitivity_allowed}
use Rattle.settings.specs.declared.ZoneSettings.{ZoneSettings}
use Rattle.settings.specs.declared.Settings.{Settings}

-- what a zone without members shows: the default sensitivities (M1-100 2.2.5) and mode 3
abbrev pub new_zone : ZoneSettings
new_zone = record { manager = manager_default; member = member_default; mode = 3 }

-- no zone, and every channel at rest
abbrev pub new_settings : Settings
new_settings =
    record {
      layout = layout_of 0 0;
      lower = new_zone;
      upper = new_zone;
      pitch_bend = replicate 16 0x2000;
      pressure = replicate 16 0;
      brightness = replicate 16 64;
    }

abbrev pub zone_of : Settings → MpeZone → ZoneSettings
zone_of s Lower = s.lower
zone_of s Upper = s.upper

abbrev pub members_in : Settings → MpeZone → ℕ
members_in s zone = members_of s.layout zone

-- mode 4 is mono, mode 3 poly
abbrev pub is_mono : ZoneSettings → Bool
is_mono z = eqb z.mode 4

-- the sensitivity that a zone shows: the settings', or in an empty zone 2/0 and 48/0 (document 01, "Demand 3 in detail")
abbrev pub sensitivity_for : ZoneSettings → Bool → MpeSensitivity
sensitivity_for z true = z.manager
sensitivity_for z false = z.member

abbrev pub default_for : Bool → MpeSensitivity
default_for true = manager_default
default_for false = member_default

abbrev pub shown_sensitivity : Settings → MpeZone → Bool → MpeSensitivity
shown_sensitivity s zone manager =
    when eqb (members_in s zone) 0 then default_for manager else sensitivity_for (zone_of s zone) manager

-- the mode that a zone shows: the settings', or in an empty zone 3
abbrev pub shown_mode : Settings → MpeZone → ℕ
shown_mode s zone = when eqb (members_in s zone) 0 then 3 else (zone_of s zone).mode

-- what is set for a channel below 16
abbrev pub bend_on : Settings → ℕ → ℕ
bend_on s k = get_or s.pitch_bend k 0

abbrev pub pressure_on : Settings → ℕ → ℕ
pressure_on s k = get_or s.pressure k 0

abbrev pub brightness_on : Settings → ℕ → ℕ
brightness_on s k = get_or s.brightness k 0

-- sensitivities that may be sent (M1-100 2.2.5; document 02, 2026-01), and mode 3 or 4; the fields of an empty zone are not read
unfoldable pub zone_allowed : ℕ → ZoneSettings → Bool
zone_allowed members z =
    when eqb members 0 then true else
    when sensitivity_allowed z.manager then
    (when sensitivity_allowed z.member then (when eqb z.mode 3 then true else eqb z.mode 4) else false)
    else false

-- bend 0 to 0x3FFF, pressure and brightness 0 to 127
unfoldable pub channel_allowed : ℕ → ℕ → ℕ → Bool
channel_allowed bend pressure brightness =
    when ltb 0x3FFF bend then false else
    when ltb 127 pressure then false else
    when ltb 127 brightness then false else
    true

-- each channel below n
abbrev pub and_channel : Bool → ℕ → ℕ → ℕ → Bool
and_channel below bend pressure brightness = when below then channel_allowed bend pressure brightness else false

unfoldable pub channels_allowed : Settings → ℕ → Bool
channels_allowed s zero = true
channels_allowed s (suc n) = and_channel (channels_allowed s n) (bend_on s n) (pressure_on s n) (brightness_on s n)

-- a legal layout, and every field that is read inside its limits
unfoldable pub allowed : Settings → Bool
allowed s =
    when legal s.layout then
    (when zone_allowed (members_in s Lower) s.lower then
    (when zone_allowed (members_in s Upper) s.upper then channels_allowed s 16 else false)
    else false)
    else false
