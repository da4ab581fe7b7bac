-- How many messages a restatement has, and how many bytes.
-- Assumes nothing.
use Prim.Native.Nat.{ℕ, zero, suc, ◌+◌, ◌*◌, ◌<◌, ◌≤◌}
use mathlib.Core.Path.{◌≡◌, refl, ap, ap₂, sym, ◌∙◌}
use mathlib.Core.Bool.{true, false}
use mathlib.Core.List.{List, [], ◌∷◌, append-nil}
use native.Mathlib.Nat.{suc-mul}
use native.Mathlib.Numerals.{add-one}
use native.Mathlib.Omega.{arith}
use lib.Dec.{eqb}
use lib.ListN.{length, length-append}
use borrow.Author.Tests.{eqb-true, eqb-false}
use Rattle.ump.proofs.Cases.{by-test, of-both}
use Rattle.mpe_layout.specs.Layout.{legal, members_of, manager_of, lowest_of}
use Rattle.mpe_layout.specs.declared.MpeZone.{MpeZone}
use Rattle.mpe_layout.specs.declared.MpeZone.TheVariants.{Lower, Upper}
use Rattle.mpe_layout.specs.declared.MpeLayout.{MpeLayout}
use Rattle.mpe_layout.proofs.Legal.{members-le, both-le}
use Rattle.mpe_pitch.specs.declared.MpeSensitivity.{MpeSensitivity}
use Rattle.mpe_sender.specs.Writers.{control_word, rpn_group, sensitivity_group, sensitivity_allowed}
use Rattle.mpe_sender.proofs.Zones.{manager-lt, members_fit, lowest-lt}
use Rattle.mpe_sender.proofs.Entered.{allowed-limits, allowed-within}
use Rattle.zone_sender.specs.Zone.{group_size, channel_at, sensitivity_at_place, zone_groups, group_at, groups, zone_words, InRange}
use Rattle.zone_sender.proofs.Groups.{groups-length, channel-lt, on-allowed}
use Rattle.settings.specs.Settings.{zone_of, members_in, is_mono, bend_on, pressure_on, brightness_on, allowed}
use Rattle.settings.specs.Messages.{each_channel, reset_on, resets, announcement, announcements, sensitivities, modes, deselection_on, deselections, brightness_controller, controls_on, controls, messages, bytes_of, bytes, restatement, one_if_any, message_count, byte_count, CountsHold}
use Rattle.settings.specs.declared.Settings.{Settings}
use Rattle.settings.proofs.Allowed.{allowed-legal, allowed-zone, allowed-channel}
use Rattle.settings.proofs.Bytes.{control-bytes, one-bytes, group-bytes, append-length, each-bytes, bend-bytes, pressure-bytes}

-- so many messages for each channel
pub each-length : (f : ℕ → List ℕ) (m : ℕ) → ((k : ℕ) → length (f k) ≡ m) → (n : ℕ) → length (each_channel f n) ≡ n * m
unfolding each_channel
each-length f m h zero = omega arith
each-length f m h (suc n) =
    length-append (each_channel f n) (f n) ∙ ap₂ (λ x y. x + y) (each-length f m h n) (h n) ∙ sym (suc-mul n m)

pub one_le : (members : ℕ) → one_if_any members ≤ 1
one_le members = by-test (eqb members 0) (λ e. rw e (omega arith)) (λ e. rw e (omega arith))

-- the messages of each group
pub resets-length : length resets ≡ 16
resets-length = each-length reset_on 1 (λ k. refl) 16

pub announcements-length : (l : MpeLayout) → length (announcements l) ≡ 12
announcements-length l = refl

pub sensitivities-length : (s : Settings) (zone : MpeZone) → length (sensitivities s zone) ≡ group_size * (one_if_any (members_in s zone) + members_in s zone)
unfolding sensitivities
sensitivities-length s zone =
    by-test (eqb (members_in s zone) 0)
    (λ e. rw e (omega (arith, eqb-true (members_in s zone) 0 e)))
    (λ e. rw e (simp groups-length (omega arith)))

pub modes-length : (s : Settings) (zone : MpeZone) → length (modes s zone) ≡ one_if_any (members_in s zone)
unfolding modes
modes-length s zone = by-test (eqb (members_in s zone) 0) (λ e. rw e) (λ e. rw e)

pub deselections-length : length deselections ≡ 32
deselections-length = each-length deselection_on 2 (λ k. refl) 16

pub controls-length : (s : Settings) → length (controls s) ≡ 48
controls-length s = each-length (controls_on s) 3 (λ k. refl) 16

-- 108 + 5z + 4m
pub message-count : (s : Settings) → allowed s ≡ true → length (messages s) ≡ message_count s.layout
unfolding messages message_count
message-count s h =
    simp length-append
    (omega (
      arith,
      resets-length,
      announcements-length s.layout,
      sensitivities-length s Lower,
      sensitivities-length s Upper,
      modes-length s Lower,
      modes-length s Upper,
      deselections-length,
      controls-length s,
    ))

-- by its parts
pub parts-count : (s : Settings)
    → message_count s.layout ≡ 108 + length (sensitivities s Lower) + length (sensitivities s Upper) + length (modes s Lower) + length (modes s Upper)
unfolding message_count
parts-count s =
    omega (arith, sensitivities-length s Lower, sensitivities-length s Upper, modes-length s Lower, modes-length s Upper)

-- no legal layout has more than (7,7)
pub most-messages : (l : MpeLayout) → legal l ≡ true → message_count l ≤ 174
unfolding message_count
most-messages l h =
    by-test (eqb l.lower 0)
    (λ e. rw e (omega (arith, eqb-true l.lower 0 e, members-le l Upper h, one_le l.upper)))
    (λ e.
    by-test (eqb l.upper 0)
    (λ f. rw (e, f) (omega (arith, eqb-true l.upper 0 f, members-le l Lower h)))
    (λ f. rw (e, f) (omega (arith, both-le l h (some l.lower e) (some l.upper f)))))
  where
    some : (n : ℕ) → eqb n 0 ≡ false → 0 < n
    some n e = omega (arith, eqb-false n 0 e)

-- the bytes of each group
resets-bytes : length (bytes resets) ≡ 48
unfolding bytes
resets-bytes =
    each-bytes reset_on 3 16 (λ k l. simp length-append (omega (arith, ap length (control-bytes k 121 0 l (omega arith) (omega arith)))))

announcements-bytes : (l : MpeLayout) → legal l ≡ true → length (bytes (announcements l)) ≡ 36
announcements-bytes l h =
    simp append-length
    (omega (
      arith,
      of_zone Lower 7 (omega arith),
      of_zone Upper 7 (omega arith),
      of_zone Lower l.lower (members-le l Lower h),
      of_zone Upper l.upper (members-le l Upper h),
    ))
  where
    of_zone : (zone : MpeZone) (members : ℕ) → members ≤ 15 → length (bytes (announcement zone members)) ≡ 9
    of_zone zone members b = ap length (group-bytes (manager_of zone) 6 members (manager-lt zone) (omega arith) (omega arith))

group-of-bytes : (k : ℕ) (s : MpeSensitivity) → k < 16 → sensitivity_allowed s ≡ true → length (bytes (sensitivity_group k s)) ≡ 12
group-of-bytes k s hk h =
    let l = allowed-limits s h in
    append-length (rpn_group k 0 0 s.semitones) (control_word k 38 s.cents ∷ [])
    ∙ omega (
      arith,
      ap length (group-bytes k 0 s.semitones hk (omega arith) (omega (arith, l.0))),
      ap length (one-bytes k 38 s.cents hk (omega arith) (omega (arith, l.1))),
    )

groups-bytes : (manager lowest : ℕ) (a b : MpeSensitivity) (n : ℕ) → InRange (zone_groups manager lowest a b) n → length (bytes (groups (zone_groups manager lowest a b) n)) ≡ 12 * n
unfolding groups bytes
groups-bytes manager lowest a b zero r = refl
groups-bytes manager lowest a b (suc n) r =
    let z = zone_groups manager lowest a b in
    let q : InRange z n = record { manager_in = r.manager_in; members_fit = omega (arith, r.members_fit); manager_allowed = r.manager_allowed; member_allowed = r.member_allowed } in
    let t : InRange z (n + 1) = rw add-one r in
    append-length (groups z n) (group_at z n)
    ∙ omega (
      arith,
      groups-bytes manager lowest a b n q,
      group-of-bytes (channel_at manager lowest n) (sensitivity_at_place a b n) (channel-lt z n t) (on-allowed z n (n + 1) t),
    )

-- of a whole zone, whatever sensitivities are stated
zone-bytes : (l : MpeLayout) (zone : MpeZone) (a b : MpeSensitivity) → legal l ≡ true → sensitivity_allowed a ≡ true → sensitivity_allowed b ≡ true
    → length (bytes (zone_words l zone a b)) ≡ 3 * length (zone_words l zone a b)
zone-bytes l zone a b h p q =
    let m = members_of l zone in
    let z = zone_groups (manager_of zone) (lowest_of l zone) a b in
    let r : InRange z (m + 1) = record { manager_in = manager-lt zone; members_fit = omega (arith, members_fit l zone h); manager_allowed = p; member_allowed = q } in
    omega (arith, groups-bytes (manager_of zone) (lowest_of l zone) a b (m + 1) r, groups-length z (m + 1))

sensitivities-bytes : (s : Settings) (zone : MpeZone) → allowed s ≡ true → length (bytes (sensitivities s zone)) ≡ 3 * length (sensitivities s zone)
unfolding sensitivities bytes
sensitivities-bytes s zone h =
    by-test (eqb (members_in s zone) 0)
    (λ e. rw e)
    (λ e.
    let f = allowed-zone s h zone (omega (arith, eqb-false (members_in s zone) 0 e)) in
    let x = allowed-limits (zone_of s zone).manager f.0 in
    let y = allowed-limits (zone_of s zone).member f.1 in
    rw e
    (zone-bytes s.layout zone _ _ (allowed-legal s h)
    ((allowed-within _).1 (omega (arith, x.0)) (omega (arith, x.1)))
    ((allowed-within _).1 (omega (arith, y.0)) (omega (arith, y.1)))))

modes-bytes : (s : Settings) (zone : MpeZone) → allowed s ≡ true → length (bytes (modes s zone)) ≡ 3 * length (modes s zone)
unfolding modes bytes
modes-bytes s zone h =
    by-test (eqb (members_in s zone) 0)
    (λ e. rw e)
    (λ e.
    let g = allowed-legal s h in
    let lt = lowest-lt s.layout zone g (omega (arith, eqb-false (members_in s zone) 0 e)) in
    let mono = ap length (control-bytes (lowest_of s.layout zone) 126 (members_in s zone) lt (omega arith) (omega (arith, members-le s.layout zone g))) in
    let poly = ap length (control-bytes (lowest_of s.layout zone) 127 0 lt (omega arith) (omega arith)) in
    rw (e, append-nil) (of-both (λ w. length (bytes_of w) ≡ 3) (is_mono (zone_of s zone)) mono poly))

deselections-bytes : length (bytes deselections) ≡ 96
unfolding bytes
deselections-bytes =
    each-bytes deselection_on 6 16
    (λ k l. simp length-append
    (omega (arith, ap length (control-bytes k 101 127 l (omega arith) (omega arith)), ap length (control-bytes k 100 127 l (omega arith) (omega arith)))))

controls-bytes : (s : Settings) → allowed s ≡ true → length (bytes (controls s)) ≡ 128
unfolding bytes
controls-bytes s h =
    each-bytes (controls_on s) 8 16
    (λ k l.
    let f = allowed-channel s h k l in
    let bend = ap length (bend-bytes k (bend_on s k) l (omega (arith, f.0))) in
    let pressure = ap length (pressure-bytes k (pressure_on s k) l (omega (arith, f.1))) in
    simp length-append (omega (arith, bend, ap length (control-bytes k brightness_controller (brightness_on s k) l (omega arith) (omega (arith, f.2))), pressure)))

-- three bytes each, less one for each pressure
pub byte-count : (s : Settings) → allowed s ≡ true → length (restatement s) ≡ byte_count s.layout
unfolding messages message_count byte_count
byte-count s h =
    simp append-length
    (omega (
      arith,
      resets-bytes,
      simp append-length at (announcements-bytes s.layout (allowed-legal s h)),
      sensitivities-bytes s Lower h,
      sensitivities-bytes s Upper h,
      sensitivities-length s Lower,
      sensitivities-length s Upper,
      modes-bytes s Lower h,
      modes-bytes s Upper h,
      modes-length s Lower,
      modes-length s Upper,
      deselections-bytes,
      controls-bytes s h,
    ))

pub counts-hold : CountsHold
counts-hold s h = (message-count s h, byte-count s h)
