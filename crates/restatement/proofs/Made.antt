-- What the writers of messages give for allowed settings: the words that a restatement has.
-- Assumes nothing.
use Prim.Native.Nat.{ℕ, ◌+◌, ◌*◌, ◌-◌, ◌<◌, ◌≤◌}
use mathlib.Core.Path.{◌≡◌, refl, sym}
use mathlib.Core.Bool.{Bool, true, false}
use mathlib.Core.List.{List, [], ◌∷◌, ◌++◌}
use native.Mathlib.Nat.{le_refl, mod-eq_of_lt}
use native.Mathlib.Omega.{arith}
use lib.Dec.{eqb}
use lib.ListN.{length, drop}
use borrow.Rule.Slice.PartMut.{mid_of, mid_len}
use borrow.Author.Tests.{le-ltb, eqb-false}
use Rattle.ump.specs.Choice.{when◌then◌else◌}
use Rattle.std.specs.Result.{IsOk, result_unwrap_or}
use Rattle.std.specs.Prelude.{Result, Ok, Err}
use Rattle.ump.specs.Outcome.{given, all_of, answered}
use Rattle.ump.specs.declared.reply.OutOfRange.{OutOfRange}
use Rattle.zone_sender.specs.declared.WriteError.{WriteError}
use Rattle.zone_sender.specs.declared.WriteError.TheVariants as write_error
use Rattle.ump.specs.Word.{control_change, two_data_word, one_data_word, bend_word}
use Rattle.ump.proofs.Cases.{by-test}
use Rattle.mpe_layout.specs.Layout.{legal, manager_of, lowest_of}
use Rattle.mpe_layout.specs.declared.MpeZone.{MpeZone}
use Rattle.mpe_layout.proofs.Legal.{members-le}
use Rattle.mpe_sender.specs.Writers.{control_word, mcm_messages, mode_on, mode_message, channel_messages}
use Rattle.mpe_sender.proofs.Zones.{lowest-lt}
use Rattle.zone_sender.specs.Zone.{group_size, zone_groups, zone_words, fill_reply, zone_reply, filled, written_read}
use Rattle.zone_sender.proofs.Groups.{groups-length}
use Rattle.settings.specs.Settings.{zone_of, members_in, is_mono, shown_sensitivity, shown_mode, bend_on, pressure_on, brightness_on, allowed}
use Rattle.settings.specs.Messages.{announcement, sensitivities, modes, controls_on, words_in, count_in}
use Rattle.settings.specs.declared.Settings.{Settings}
use Rattle.settings.proofs.Allowed.{allowed-legal, allowed-zone, allowed-channel}

-- what a call answers that gives a value
pub is-ok : {A : Type 0} (r : Result A OutOfRange) (x : A) → answered r ≡ given x → IsOk r
is-ok (Ok y) x e = refl
is-ok (Err z) x e = absurd (let z : ◌≡◌ {A = ℕ} 0 1 = cc in omega arith)

pub value-of : {A : Type 0} (r : Result A OutOfRange) (x y : A) → answered r ≡ given x → r ≡ Ok y → y ≡ x
value-of r x y e f =
    let g : given y ≡ given x = rw f at e in
    cc

-- the count that a writer gives, and 0 for a refusal
pub count-or-0 : (r : Result ℕ WriteError) → result_unwrap_or r 0 ≡ count_in (written_read r)
count-or-0 (Ok n) = refl
count-or-0 (Err write_error.OutOfRange) = refl
count-or-0 (Err (write_error.TooSmall needed got)) = refl

pub control-made : (k controller value : ℕ) → k < 16 → controller ≤ 0x7F → value ≤ 0x7F → control_change k controller value ≡ given (control_word k controller value)
unfolding two_data_word
control-made k controller value h a v = rw (le-ltb 0x7F controller a, le-ltb 0x7F value v, mod-eq_of_lt h)

-- F, of one channel
pub controls-made : (s : Settings) (k : ℕ) → allowed s ≡ true → k < 16
    → channel_messages k (bend_on s k) (brightness_on s k) (pressure_on s k) ≡ given (controls_on s k)
unfolding bend_word one_data_word
controls-made s k h l =
    let f = allowed-channel s h k l in
    rw (
      control-made k 74 (brightness_on s k) l (omega arith) f.2,
      le-ltb 0x3FFF (bend_on s k) f.0,
      le-ltb 0x7F (pressure_on s k) f.1,
      mod-eq_of_lt l,
    )

-- B, of one zone
pub announcement-made : (zone : MpeZone) (members : ℕ) → members ≤ 15 → mcm_messages zone members ≡ given (announcement zone members)
unfolding mcm_messages
announcement-made zone members h = rw (le-ltb 15 members h)

mode-on : (s : Settings) (zone : MpeZone) (mono : Bool) → legal s.layout ≡ true → 0 < members_in s zone
    → mode_on (lowest_of s.layout zone) (members_in s zone) mono
    ≡ given (when mono then control_word (lowest_of s.layout zone) 126 (members_in s zone) else control_word (lowest_of s.layout zone) 127 0)
unfolding mode_on
mode-on s zone true h some =
    control-made (lowest_of s.layout zone) 126 (members_in s zone) (lowest-lt s.layout zone h some) (omega arith) (omega (arith, members-le s.layout zone h))
mode-on s zone false h some = control-made (lowest_of s.layout zone) 127 0 (lowest-lt s.layout zone h some) (omega arith) (omega arith)

-- D
pub mode-made : (s : Settings) (zone : MpeZone) → allowed s ≡ true
    → words_in (all_of (mode_message s.layout zone (eqb (shown_mode s zone) 4) ∷ [])) ≡ modes s zone
unfolding modes
mode-made s zone h =
    let g = allowed-legal s h in
    by-test (eqb (members_in s zone) 0)
    (λ e. rw (g, e))
    (λ e. rw (g, e, mode-on s zone (is_mono (zone_of s zone)) g (omega (arith, eqb-false (members_in s zone) 0 e))))

-- C: how many words are written, and the buffer
pub record Written (s : Settings) (zone : MpeZone) (got : ℕ) : Type 0 where
  pub count : count_in (zone_reply s.layout zone (shown_sensitivity s zone true) (shown_sensitivity s zone false) got) ≡ length (sensitivities s zone)
  pub buffer : (part : List ℕ) → filled (zone_reply s.layout zone (shown_sensitivity s zone true) (shown_sensitivity s zone false) got) (zone_words s.layout zone (shown_sensitivity s zone true) (shown_sensitivity s zone false)) part
      ≡ sensitivities s zone ++ drop (length (sensitivities s zone)) part

sensitivities-made : (s : Settings) (zone : MpeZone) (got : ℕ) → allowed s ≡ true → length (sensitivities s zone) ≤ got → Written s zone got
unfolding sensitivities fill_reply
sensitivities-made s zone got h l =
    let g = allowed-legal s h in
    by-test (eqb (members_in s zone) 0)
    (λ e. record { count = rw (g, e); buffer = λ part. rw (g, e) })
    (λ e.
    let z = allowed-zone s h zone (omega (arith, eqb-false (members_in s zone) 0 e)) in
    let m = group_size * (members_in s zone + 1) in
    let n : length (zone_words s.layout zone (zone_of s zone).manager (zone_of s zone).member) ≡ m =
    groups-length (zone_groups (manager_of zone) (lowest_of s.layout zone) (zone_of s zone).manager (zone_of s zone).member) (members_in s zone + 1) in
    let f : length (zone_words s.layout zone (zone_of s zone).manager (zone_of s zone).member) ≤ got = rw e at l in
    let fits : m ≤ got = rw n at f in
    let manager : shown_sensitivity s zone true ≡ (zone_of s zone).manager = rw e in
    let member : shown_sensitivity s zone false ≡ (zone_of s zone).member = rw e in
    record {
      count = rw (manager, member, g, e, z.0, z.1, le-ltb got m fits) (sym n);
      buffer = λ part. rw (manager, member, g, e, z.0, z.1, le-ltb got m fits, n);
    })

-- the same for a part of a buffer from a place on
pub part-made : (s : Settings) (zone : MpeZone) (at : ℕ) (xs : List ℕ) → allowed s ≡ true → at + length (sensitivities s zone) ≤ length xs
    → Written s zone (length (mid_of at (length xs - at) xs))
part-made s zone at xs h l =
    let n : length (mid_of at (length xs - at) xs) ≡ length xs - at = mid_len at (length xs) xs (le_refl (length xs)) in
    sensitivities-made s zone (length (mid_of at (length xs - at) xs)) h (omega arith)
