-- The words that are written for a zone stand in order, and are as many as its channels need.
-- Assumes nothing.
use Prim.Native.Nat.{ℕ, zero, suc, ◌+◌, ◌*◌, ◌-◌, ◌<◌}
use mathlib.Core.Path.{◌≡◌, ap, sym, ◌∙◌}
use mathlib.Core.Bool.{Bool, true, false}
use mathlib.Core.List.{List}
use mathlib.Core.Logic.{⊎_elim}
use native.Mathlib.Nat.{eq-or-lt_of_le, le_of_suc-le-suc, not-suc-le-zero}
use native.Mathlib.Omega.{arith}
use lib.Dec.{ltb, eqb}
use lib.ListN.{length, take, drop, length-drop}
use lib.Seq.{take_at, drop_at, take_all, take-append-le, drop-append-le}
use borrow.Author.Tests.{ne_eqb, le-ltb, lt-ltb}
use Rattle.ump.specs.Choice.{when◌then◌else◌}
use Rattle.ump.specs.Outcome.{Outcome, given, out_of_range, too_small}
use Rattle.mpe_layout.specs.Layout.{legal, members_of, manager_of, lowest_of}
use Rattle.mpe_layout.specs.declared.MpeZone.{MpeZone}
use Rattle.mpe_layout.specs.declared.MpeLayout.{MpeLayout}
use Rattle.mpe_pitch.specs.declared.MpeSensitivity.{MpeSensitivity}
use Rattle.mpe_sender.specs.Writers.{sensitivity_allowed}
use Rattle.zone_sender.specs.declared.ZoneGroups.{ZoneGroups}
use Rattle.zone_sender.specs.Zone.{group_size, channel_at, sensitivity_at_place, zone_groups, group_at, groups, zone_words, fill_reply, zone_reply, filled}
use Rattle.zone_sender.specs.Claims.{needed_for, InOrder, WrittenInOrder, AnsweredByNeed}
use Rattle.zone_sender.proofs.Groups.{group-length, groups-length}

-- the k-th of n groups
group_at_lem : (z : ZoneGroups) (k n : ℕ) → k < n → take group_size (drop (group_size * k) (groups z n)) ≡ group_at z k
unfolding groups
group_at_lem z k zero h = absurd (not-suc-le-zero h)
group_at_lem z k (suc n) h =
    ⊎_elim
    (λ (e : k ≡ n).
    rw e
    (ap (take group_size) (drop_at (groups z n) (group_at z n) (group_size * n) (groups-length z n))
    ∙ take_all group_size (group_at z n) (omega (arith, group-length (channel_at z.manager z.lowest n) (sensitivity_at_place z.at_manager z.at_member n)))))
    (λ (l : k < n).
    ap (take group_size) (drop-append-le (group_size * k) (groups z n) (group_at z n) (omega (arith, groups-length z n)))
    ∙ take-append-le group_size (drop (group_size * k) (groups z n)) (group_at z n) (simp length-drop (omega (arith, groups-length z n)))
    ∙ group_at_lem z k n l)
    (eq-or-lt_of_le (le_of_suc-le-suc h))

-- all of a zone
words-in-order : (l : MpeLayout) (zone : MpeZone) (a b : MpeSensitivity) → InOrder l zone a b (zone_words l zone a b)
unfolding channel_at sensitivity_at_place
words-in-order l zone a b =
    let z = zone_groups (manager_of zone) (lowest_of l zone) a b in
    let m = members_of l zone in
    record {
      four_a_channel = groups-length z (m + 1) ∙ omega arith;
      manager_first = group_at_lem z 0 (m + 1) (omega arith);
      members_rising = λ n h.
          let e : eqb (1 + n) 0 ≡ false = ne_eqb (1 + n) 0 (λ p. omega arith) in
          let s : (1 + n) - 1 ≡ n = omega arith in
          group_at_lem z (1 + n) (m + 1) (omega arith) ∙ rw (e, s);
    }

-- a count is what is needed
counted : (a b c d e : Bool) (needed got n : ℕ)
    → (when a then (when b then out_of_range else (when c then (when d then (when e then too_small needed got else given needed) else out_of_range) else out_of_range)) else out_of_range) ≡ given n
    → n ≡ needed
counted true true c d e needed got n h = absurd (let z : ◌≡◌ {A = ℕ} 0 1 = cc in omega arith)
counted true false true true true needed got n h = absurd (let z : ◌≡◌ {A = ℕ} 0 1 = cc in omega arith)
counted true false true true false needed got n h = cc
counted true false true false e needed got n h = absurd (let z : ◌≡◌ {A = ℕ} 0 1 = cc in omega arith)
counted true false false d e needed got n h = absurd (let z : ◌≡◌ {A = ℕ} 0 1 = cc in omega arith)
counted false b c d e needed got n h = absurd (let z : ◌≡◌ {A = ℕ} 0 1 = cc in omega arith)

pub written-in-order : (l : MpeLayout) (zone : MpeZone) (a b : MpeSensitivity) (reply : Outcome ℕ) (before after : List ℕ)
    → reply ≡ zone_reply l zone a b (length before) → after ≡ filled (zone_reply l zone a b (length before)) (zone_words l zone a b) before
    → WrittenInOrder l zone a b reply after
unfolding fill_reply
written-in-order l zone a b reply before after r p n e =
    let m = group_size * (members_of l zone + 1) in
    let q : zone_reply l zone a b (length before) ≡ given n = sym r ∙ e in
    let k : n ≡ m = counted (legal l) (eqb (members_of l zone) 0) (sensitivity_allowed a) (sensitivity_allowed b) (ltb (length before) m) m (length before) n q in
    let f : take n after ≡ zone_words l zone a b =
    ap (take n) (p ∙ ap (λ o. filled o (zone_words l zone a b) before) q)
    ∙ take_at (zone_words l zone a b) (drop n before) n (groups-length (zone_groups (manager_of zone) (lowest_of l zone) a b) (members_of l zone + 1) ∙ sym k) in
    rw f (words-in-order l zone a b)

pub answered-by-need : (l : MpeLayout) (zone : MpeZone) (a b : MpeSensitivity) (got : ℕ) (reply : Outcome ℕ) → reply ≡ zone_reply l zone a b got → AnsweredByNeed l zone a b got reply
unfolding fill_reply
answered-by-need l zone a b got reply r h some p q =
    let e : eqb (members_of l zone) 0 ≡ false = ne_eqb (members_of l zone) 0 (λ z. omega arith) in
    let m : group_size * (members_of l zone + 1) ≡ needed_for l zone = omega arith in
    (λ fits. r ∙ rw (h, e, p, q, m, le-ltb got (needed_for l zone) fits), λ short. r ∙ rw (h, e, p, q, m, lt-ltb got (needed_for l zone) short))
