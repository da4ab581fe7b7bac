-- The messages that restate settings, as words and as bytes (document 01, "Restatement").
use Rattle.std.specs.Prelude.{ℕ, zero, suc, ◌+◌, ◌*◌, ◌-◌, ◌/◌, ◌%◌, ◌^◌, true, ◌≡◌, List, [], ◌∷◌, ◌++◌, ltb, eqb, length}
use Rattle.ump.specs.Choice.{when◌then◌else◌}
use Rattle.ump.specs.Outcome.{Outcome, given, declined, out_of_range, too_small}
use Rattle.ump.specs.Word.{opcode_of, channel_of, first_of, second_of, one_data, word_of}
use Rattle.mpe_layout.specs.declared.MpeZone.{MpeZone}
use Rattle.mpe_layout.specs.declared.MpeZone.TheVariants.{Lower, Upper}
use Rattle.mpe_layout.specs.declared.MpeLayout.{MpeLayout}
use Rattle.mpe_layout.specs.Layout.{manager_of, lowest_of}
use Rattle.mpe_sender.specs.Writers.{control_word, rpn_group}
use Rattle.zone_sender.specs.Zone.{zone_words}
use Rattle.settings.specs.declared.Settings.{Settings}
use Rattle.settings.specs.Settings.{zone_of, members_in, is_mono, bend_on, pressure_on, brightness_on, allowed}

-- the messages of each channel below n, channels rising, one channel's together
unfoldable pub each_channel : (ℕ → List ℕ) → ℕ → List ℕ
each_channel f zero = []
each_channel f (suc n) = each_channel f n ++ f n

-- A. Reset All Controllers on a channel (RP-015)
abbrev pub reset_on : ℕ → List ℕ
reset_on k = control_word k 121 0 ∷ []

abbrev pub resets : List ℕ
resets = each_channel reset_on 16

-- B. MPE Configuration Messages (M1-100 2.2.1): whatever the layout was, it is (7,7), and then the settings'
abbrev pub announcement : MpeZone → ℕ → List ℕ
announcement zone members = rpn_group (manager_of zone) 0 6 members

abbrev pub announcements : MpeLayout → List ℕ
announcements l =
    announcement Lower 7 ++ announcement Upper 7 ++ announcement Lower l.lower ++ announcement Upper l.upper

-- C. the sensitivities of a zone (M1-100 2.2.5), if it has members
unfoldable pub sensitivities : Settings → MpeZone → List ℕ
sensitivities s zone =
    when eqb (members_in s zone) 0 then [] else
    zone_words s.layout zone (zone_of s zone).manager (zone_of s zone).member

-- D. the mode message of a zone on its lowest member (M1-100 2.2.4.3), if it has members
unfoldable pub modes : Settings → MpeZone → List ℕ
modes s zone =
    when eqb (members_in s zone) 0 then [] else
    (when is_mono (zone_of s zone) then control_word (lowest_of s.layout zone) 126 (members_in s zone)
    else control_word (lowest_of s.layout zone) 127 0)
    ∷ []

-- E. the null parameter selected on a channel (RP-018)
abbrev pub deselection_on : ℕ → List ℕ
deselection_on k = control_word k 101 127 ∷ control_word k 100 127 ∷ []

abbrev pub deselections : List ℕ
deselections = each_channel deselection_on 16

-- F. Pitch Bend, controller 74 for the brightness, and Channel Pressure of a channel
abbrev pub brightness_controller : ℕ
brightness_controller = 74

abbrev pub controls_on : Settings → ℕ → List ℕ
controls_on s k =
    word_of 0 0xE k (bend_on s k % 2 ^ 7) (bend_on s k / 2 ^ 7)
    ∷ control_word k brightness_controller (brightness_on s k)
    ∷ word_of 0 0xD k (pressure_on s k) 0
    ∷ []

abbrev pub controls : Settings → List ℕ
controls s = each_channel (controls_on s) 16

-- all of them, in this order
unfoldable pub messages : Settings → List ℕ
messages s =
    resets
    ++ announcements s.layout
    ++ sensitivities s Lower
    ++ sensitivities s Upper
    ++ modes s Lower
    ++ modes s Upper
    ++ deselections
    ++ controls s

-- a message as bytes: its own status byte, and one data byte or two (MIDI 1.0, Table I)
abbrev pub bytes_of : ℕ → List ℕ
bytes_of w =
    when one_data (opcode_of w) then (opcode_of w * 16 + channel_of w) ∷ first_of w ∷ []
    else (opcode_of w * 16 + channel_of w) ∷ first_of w ∷ second_of w ∷ []

unfoldable pub bytes : List ℕ → List ℕ
bytes [] = []
bytes (w ∷ ws) = bytes_of w ++ bytes ws

-- the restatement
abbrev pub restatement : Settings → List ℕ
restatement s = bytes (messages s)

-- z active zones and m members in all: 108 + 5z + 4m messages (document 02, 2026-01)
abbrev pub one_if_any : ℕ → ℕ
one_if_any members = when eqb members 0 then 0 else 1

unfoldable pub message_count : MpeLayout → ℕ
message_count l = 108 + 5 * (one_if_any l.lower + one_if_any l.upper) + 4 * (l.lower + l.upper)

-- three bytes each, less one for each of the sixteen pressures
unfoldable pub byte_count : MpeLayout → ℕ
byte_count l = 3 * message_count l - 16

-- the formulas count the messages and the bytes that there are
abbrev pub CountsHold : Type 0
CountsHold =
    (s : Settings) → allowed s ≡ true → (length (messages s) ≡ message_count s.layout) × (length (restatement s) ≡ byte_count s.layout)

-- what a writer answers: settings out of range, then a buffer that is too small, else how many elements it wrote
unfoldable pub restated_reply : Settings → ℕ → ℕ → Outcome ℕ
restated_reply s needed got =
    when allowed s then (when ltb got needed then too_small needed got else given needed) else out_of_range

-- the words that were given, and how many were written
abbrev pub words_in : Outcome (List ℕ) → List ℕ
words_in (given words) = words
words_in (declined n v) = []

abbrev pub count_in : Outcome ℕ → ℕ
count_in (given n) = n
count_in (declined n v) = 0
