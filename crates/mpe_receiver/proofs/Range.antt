-- A channel's offset, as the receiver shows it, lies from −2,565,714 to 2,565,400.
-- Assumes nothing.
use Prim.Native.Nat.{ℕ}
use mathlib.Core.Path.{◌≡◌, subst}
use mathlib.Core.Bool.{true, false}
use lib.Dec.{lit≤}
use lib.IntN.{ℤ}
use Rattle.ump.specs.Outcome.{given}
use Rattle.mpe_layout.specs.declared.MpeRole.{MpeRole}
use Rattle.mpe_layout.specs.declared.MpeRole.TheVariants.{NoZone, Manager, Member}
use Rattle.mpe_layout.specs.Layout.{manager_of}
use Rattle.mpe_pitch.specs.Claims.{Within}
use Rattle.mpe_pitch.proofs.Order.{widen}
use Rattle.mpe_pitch.proofs.Offset.{offset-within, sum-within}
use Rattle.mpe_receiver.specs.declared.MpeReceiver.{MpeReceiver}
use Rattle.mpe_zones.specs.Zones.{role_held}
use Rattle.mpe_receiver.proofs.Ratio.{pair-offset, pair-none}
use Rattle.mpe_receiver.specs.Read.{bend_at, sensitivity_of, manager_offset, member_offset, offset_by_role, offset_of}

by-role : (r : MpeReceiver) (c : ℕ) (role : MpeRole) (z : ℤ) → offset_by_role r c role ≡ given z → Within 2565714 2565400 z
unfolding manager_offset member_offset
by-role r c NoZone z e = cc
by-role r c (Manager zone) z e =
    let p : manager_offset r zone ≡ z = cc in
    subst (λ x. Within 2565714 2565400 x) p
    (widen 1282857 1282700 2565714 2565400 _ (lit≤ tt) (lit≤ tt)
    (offset-within (bend_at r (manager_of zone)) (sensitivity_of r zone true)))
by-role r c (Member zone) z e =
    let p : member_offset r zone c ≡ z = cc in
    subst (λ x. Within 2565714 2565400 x) p
    (sum-within (bend_at r (manager_of zone)) (bend_at r c) (sensitivity_of r zone true) (sensitivity_of r zone false))

pub offset-range : (r : MpeReceiver) (c : ℕ) (z : ℤ) → offset_of r c ≡ given z → Within 2565714 2565400 z
offset-range r c z e = by-role r c (role_held r.layout c) z e

pub ruleset ranges = (offset-range, pair-offset, pair-none)
