-- Groups of messages at the front of a buffer, and one group more behind those that are written.
-- Assumes nothing.
use mathlib.Core.Path.{◌≡◌, refl, ◌∙◌}
use mathlib.Core.Bool.{true}
use mathlib.Core.List.{List, ◌++◌, append_assoc, append-nil}
use Prim.Native.Nat.{ℕ, zero, suc, ◌+◌, ◌*◌, ◌-◌, ◌<◌, ◌≤◌}
use native.Mathlib.Nat.{le_refl}
use native.Mathlib.Numerals.{add-one}
use native.Mathlib.Omega.{arith}
use lib.Dec.{eqb}
use lib.ListN.{length, take, drop, length-append, length-drop}
use lib.Seq.{take_at, drop_at, drop-drop, take_all, drop-length}
use borrow.Author.Tests.{eqb-false}
use borrow.Rule.Slice.PartMut.{mid_of, put_mid, Post-is}
use Rattle.ump.proofs.Cases.{by-test}
use Rattle.mpe_pitch.specs.declared.MpeSensitivity.{MpeSensitivity}
use Rattle.mpe_sender.specs.Writers.{sensitivity_group, sensitivity_allowed}
use Rattle.zone_sender.specs.Zone.{group_size, channel_at, sensitivity_at_place, group_at, InRange, groups}
use Rattle.zone_sender.specs.declared.ZoneGroups.{ZoneGroups}

pub group-length : (channel : ℕ) (s : MpeSensitivity) → length (sensitivity_group channel s) ≡ group_size
group-length channel s = refl

pub groups-length : (z : ZoneGroups) (n : ℕ) → length (groups z n) ≡ group_size * n
unfolding groups
groups-length z zero = refl
groups-length z (suc n) = simp length-append (omega (arith, groups-length z n))

-- the part from a on is what lies there, and ys in its place end the list
tail-mid : (a : ℕ) (xs : List ℕ) → mid_of a (length xs - a) xs ≡ drop a xs
tail-mid a xs = take_all (length xs - a) (drop a xs) (simp length-drop (le_refl (length xs - a)))

tail-put : (a : ℕ) (xs ys : List ℕ) → a ≤ length xs → put_mid a (length xs - a) xs ys ≡ take a xs ++ ys
tail-put a xs ys h = rw (Post-is a (length xs) xs h, drop-length, append-nil)

-- what is written, p, grows by g, and the rest is still what was there
grown : (xs₀ xs p g ys : List ℕ) (a m : ℕ) → length p ≡ a → a ≤ length xs → xs ≡ p ++ drop a xs₀ → ys ≡ g ++ drop m (mid_of a (length xs - a) xs)
    → put_mid a (length xs - a) xs ys ≡ (p ++ g) ++ drop (a + m) xs₀
grown xs₀ xs p g ys a m hp h e y =
    let t : take a xs ≡ p = rw e (take_at p (drop a xs₀) a hp) in
    let d : drop a xs ≡ drop a xs₀ = rw e (drop_at p (drop a xs₀) a hp) in
    let z : ys ≡ g ++ drop (a + m) xs₀ = y ∙ rw (tail-mid, d, drop-drop) in
    rw (tail-put a xs ys h, t, z, append_assoc)

-- one group more
pub groups-more : (z : ZoneGroups) (k : ℕ) (xs₀ xs ys : List ℕ) → group_size * k ≤ length xs → xs ≡ groups z k ++ drop (group_size * k) xs₀
    → ys ≡ group_at z k ++ drop group_size (mid_of (group_size * k) (length xs - group_size * k) xs)
    → put_mid (group_size * k) (length xs - group_size * k) xs ys ≡ groups z (k + 1) ++ drop (group_size * (k + 1)) xs₀
unfolding groups
groups-more z k xs₀ xs ys h e y =
    let m : group_size * suc k ≡ group_size * k + group_size = omega arith in
    rw (add-one, m) (grown xs₀ xs (groups z k) (group_at z k) ys (group_size * k) group_size (groups-length z k) h e y)

-- the k-th channel is one, and its sensitivity is allowed
pub channel-lt : (z : ZoneGroups) (k : ℕ) → InRange z (k + 1) → channel_at z.manager z.lowest k < 16
unfolding channel_at
channel-lt z k r =
    by-test (eqb k 0)
    (λ e. rw e r.manager_in)
    (λ e. rw e (omega (arith, r.members_fit, eqb-false k 0 e)))

pub on-allowed : (z : ZoneGroups) (k n : ℕ) → InRange z n → sensitivity_allowed (sensitivity_at_place z.at_manager z.at_member k) ≡ true
unfolding sensitivity_at_place
on-allowed z k n r = by-test (eqb k 0) (λ e. rw e r.manager_allowed) (λ e. rw e r.member_allowed)
