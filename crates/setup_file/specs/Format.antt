-- The setup file of a course: three sections in a fixed order, each after a one-byte count, and the only bytes that say given settings and a label
-- (document 02, 2026-07). "Setup file" is the papers' own term.
use Rattle.std.specs.Prelude.{ℕ, zero, suc, ◌*◌, ◌+◌, ◌/◌, ◌%◌, ◌^◌, Bool, true, false, ◌&&◌, nat_le, ltb, eqb, length, get_or, set}
use Rattle.std.specs.List.{list_all}
use mathlib.Core.List.{List, [], ◌∷◌, ◌++◌, flatten}
use Rattle.ump.specs.Choice.{when◌then◌else◌}
use Rattle.mpe_layout.specs.declared.MpeZone.{MpeZone}
use Rattle.mpe_layout.specs.declared.MpeZone.TheVariants.{Lower, Upper}
use Rattle.mpe_layout.specs.Layout.{layout_of}
use Rattle.settings.specs.declared.ZoneSettings.{ZoneSettings}
use Rattle.settings.specs.declared.Settings.{Settings}
use Rattle.settings.specs.Settings.{new_zone, zone_of, members_in, bend_on, pressure_on, brightness_on, zone_allowed}
use Rattle.settings.specs.Messages.{each_channel}
use Rattle.setup_file.specs.declared.Section.{Section}
use Rattle.setup_file.specs.declared.Section.TheVariants.{Zones, Channels}

-- the largest count of a section; its entries are of as many numbers, from 0
abbrev pub most : Section → ℕ
most Zones = 2
most Channels = 16

-- the bytes of an entry
abbrev pub entry_size : Section → ℕ
entry_size Zones = 7
entry_size Channels = 5

-- the first byte of an entry is its number: of a zone, 0 Lower or 1 Upper, or of a channel
abbrev pub number_in : List ℕ → ℕ
number_in entry = get_or entry 0 0

abbrev pub zone_numbered : ℕ → MpeZone
zone_numbered number = when eqb number 0 then Lower else Upper

-- Zones: number, members, manager semitones and cents, member semitones and cents, mode
abbrev pub members_from : List ℕ → ℕ
members_from entry = get_or entry 1 0

abbrev pub zone_from : List ℕ → ZoneSettings
zone_from entry =
    record {
      manager = record { semitones = get_or entry 2 0; cents = get_or entry 3 0 };
      member = record { semitones = get_or entry 4 0; cents = get_or entry 5 0 };
      mode = get_or entry 6 0;
    }

-- Channels: number, bend MSB, bend LSB, pressure, brightness
abbrev pub bend_from : List ℕ → ℕ
bend_from entry = get_or entry 1 0 * 2 ^ 7 + get_or entry 2 0

-- every byte of a whole entry is inside its limits: zone 0 or 1, members 1 to 15, semitones 0 to 96, cents 0 to 99, mode 3 or 4
unfoldable pub zone_entry_within : ℕ → ℕ → ZoneSettings → Bool
zone_entry_within number members zone =
    when ltb 1 number then false else
    when eqb members 0 then false else
    when ltb 15 members then false else
    zone_allowed members zone

-- channel 0 to 15, and the others 0 to 127
unfoldable pub channel_entry_within : ℕ → ℕ → ℕ → ℕ → ℕ → Bool
channel_entry_within number msb lsb pressure brightness =
    when ltb 15 number then false else
    when ltb 127 msb then false else
    when ltb 127 lsb then false else
    when ltb 127 pressure then false else
    when ltb 127 brightness then false else
    true

abbrev pub entry_within : Section → List ℕ → Bool
entry_within Zones entry = zone_entry_within (number_in entry) (members_from entry) (zone_from entry)
entry_within Channels entry = channel_entry_within (number_in entry) (get_or entry 1 0) (get_or entry 2 0) (get_or entry 3 0) (get_or entry 4 0)

-- an entry that is not listed: a zone without members, a channel at bend 0x2000 (MSB 64, LSB 0), pressure 0, brightness 64
unfoldable pub at_rest : ℕ → ℕ → ℕ → ℕ → Bool
at_rest msb lsb pressure brightness =
    when eqb msb 64 then (when eqb lsb 0 then (when eqb pressure 0 then eqb brightness 64 else false) else false) else false

abbrev pub unlisted : Section → List ℕ → Bool
unlisted Zones entry = eqb (members_from entry) 0
unlisted Channels entry = at_rest (get_or entry 1 0) (get_or entry 2 0) (get_or entry 3 0) (get_or entry 4 0)

-- the entry of a number, as settings have it
abbrev pub zone_entry : ℕ → ℕ → ZoneSettings → List ℕ
zone_entry number members z =
    number
    ∷ members
    ∷ z.manager.semitones
    ∷ z.manager.cents
    ∷ z.member.semitones
    ∷ z.member.cents
    ∷ z.mode
    ∷ []

abbrev pub channel_entry : ℕ → ℕ → ℕ → ℕ → List ℕ
channel_entry number bend pressure brightness = number ∷ bend / 2 ^ 7 ∷ bend % 2 ^ 7 ∷ pressure ∷ brightness ∷ []

abbrev pub entry_of : Section → Settings → ℕ → List ℕ
entry_of Zones s number = zone_entry number (members_in s (zone_numbered number)) (zone_of s (zone_numbered number))
entry_of Channels s number = channel_entry number (bend_on s number) (pressure_on s number) (brightness_on s number)

-- the entries of n numbers from k on, rising: those that are listed
unfoldable pub entries_from : Section → Settings → ℕ → ℕ → List (List ℕ)
entries_from section s k zero = []
entries_from section s k (suc n) =
    when unlisted section (entry_of section s k) then entries_from section s (suc k) n
    else entry_of section s k ∷ entries_from section s (suc k) n

abbrev pub entries_of : Section → Settings → List (List ℕ)
entries_of section s = entries_from section s 0 (most section)

-- a section: how many entries, and then these
abbrev pub section_of : Section → Settings → List ℕ
section_of section s = length (entries_of section s) ∷ flatten (entries_of section s)

-- a label: at most 32 bytes, each 0x20 to 0x7E
unfoldable pub printable : List ℕ → Bool
printable label = list_all (λ b. nat_le 0x20 b && nat_le b 0x7E) label

abbrev pub most_label : ℕ
most_label = 32

unfoldable pub label_allowed : List ℕ → Bool
label_allowed label = when ltb most_label (length label) then false else printable label

-- the file of settings and a label
abbrev pub setup_file : Settings → List ℕ → List ℕ
setup_file s label = section_of Zones s ++ section_of Channels s ++ (length label ∷ label)

-- the settings in the fields that are read: of a zone without members none, and it is as in new settings (document 01, "Restatement")
abbrev pub seen_zone : ℕ → ZoneSettings → ZoneSettings
seen_zone members z = when eqb members 0 then new_zone else z

abbrev pub seen : Settings → Settings
seen s =
    record {
      layout = s.layout;
      lower = seen_zone (members_in s Lower) s.lower;
      upper = seen_zone (members_in s Upper) s.upper;
      pitch_bend = each_channel (λ k. bend_on s k ∷ []) 16;
      pressure = each_channel (λ k. pressure_on s k ∷ []) 16;
      brightness = each_channel (λ k. brightness_on s k ∷ []) 16;
    }

-- settings with what an entry says in the place of what they had for its number
abbrev pub with_zone : ℕ → ℕ → ZoneSettings → Settings → Settings
with_zone number members zone s =
    when eqb number 0 then
    record {
      layout = layout_of members s.layout.upper;
      lower = zone;
      upper = s.upper;
      pitch_bend = s.pitch_bend;
      pressure = s.pressure;
      brightness = s.brightness;
    }
    else
    record {
      layout = layout_of s.layout.lower members;
      lower = s.lower;
      upper = zone;
      pitch_bend = s.pitch_bend;
      pressure = s.pressure;
      brightness = s.brightness;
    }

abbrev pub with_channel : ℕ → ℕ → ℕ → ℕ → Settings → Settings
with_channel number bend pressure brightness s =
    record {
      layout = s.layout;
      lower = s.lower;
      upper = s.upper;
      pitch_bend = set s.pitch_bend number bend;
      pressure = set s.pressure number pressure;
      brightness = set s.brightness number brightness;
    }

abbrev pub settings_with : Section → List ℕ → Settings → Settings
settings_with Zones entry s = with_zone (number_in entry) (members_from entry) (zone_from entry) s
settings_with Channels entry s = with_channel (number_in entry) (bend_from entry) (get_or entry 3 0) (get_or entry 4 0) s
