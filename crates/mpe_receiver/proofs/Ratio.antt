-- A channel's offset with its remainder: the unrounded ratio, by the role; and the offset is `pitch_offset`'s.
-- Assumes nothing.
use Prim.Native.Nat.{ℕ}
use mathlib.Core.Path.{◌≡◌, refl, ◌∙◌, ap, sym, subst}
use mathlib.Core.Bool.{Bool, true, false}
use lib.ListN.{get_or}
use native.Mathlib.Omega.{arith}
use Rattle.ump.specs.Choice.{when◌then◌else◌}
use Rattle.ump.specs.Outcome.{Outcome, given, out_of_range, none_there}
use Rattle.ump.specs.Packet.{packet_value}
use Rattle.mpe_layout.specs.declared.MpeZone.{MpeZone}
use Rattle.mpe_layout.specs.declared.MpeZone.TheVariants.{Lower, Upper}
use Rattle.mpe_layout.specs.declared.MpeRole.{MpeRole}
use Rattle.mpe_layout.specs.declared.MpeRole.TheVariants.{NoZone, Manager, Member}
use Rattle.mpe_layout.specs.Layout.{manager_of, legal, role_of}
use Rattle.mpe_layout.proofs.Roles.{managers-channel}
use Rattle.mpe_pitch.specs.declared.OffsetWithRemainder.{OffsetWithRemainder}
use Rattle.mpe_pitch.specs.Remainder.{offset_with_remainder}
use Rattle.mpe_pitch.specs.Claims.{IsPair}
use Rattle.mpe_pitch.proofs.Order.{sum}
use Rattle.mpe_pitch.proofs.Remainder.{is-pair, divided-sum}
use Rattle.mpe_zones.specs.Zones.{role_in, role_held}
use Rattle.mpe_receiver.specs.declared.MpeReceiver.{MpeReceiver}
use Rattle.mpe_receiver.specs.Read.{bend_at, sensitivity_of, manager_offset, member_offset, offset_by_role, offset_of, manager_pair, member_pair, pair_by_role, pair_of}
use Rattle.mpe_receiver.specs.Ratio.{RatioAs, RatioByRole}

-- a channel with the manager's role is the manager's
managers-bend : (r : MpeReceiver) (channel : ℕ) (zone : MpeZone) → role_held r.layout channel ≡ Manager zone → bend_at r (manager_of zone) ≡ bend_at r channel
managers-bend r channel zone e =
    ap (λ k. get_or r.pitch_bend k 0) (below-16 zone ∙ sym (managers-channel r.layout (packet_value channel) zone (omega arith) (by (legal r.layout) e)))
  where
    below-16 : (zone : MpeZone) → packet_value (manager_of zone) ≡ manager_of zone
    below-16 Lower = refl
    below-16 Upper = refl

    by : (t : Bool) → role_in (when t then given (role_of r.layout (packet_value channel)) else out_of_range) ≡ Manager zone → role_of r.layout (packet_value channel) ≡ Manager zone
    by true e = e
    by false e = cc

by-role : (r : MpeReceiver) (channel : ℕ) (role : MpeRole) → role_held r.layout channel ≡ role → RatioAs r channel role (pair_by_role r channel role)
unfolding manager_offset member_offset manager_pair member_pair
by-role r channel NoZone e = refl
by-role r channel (Manager zone) e =
    record {
      own = manager_pair r zone;
      own_pair = subst (λ v. IsPair v (sensitivity_of r zone true) (manager_pair r zone)) (managers-bend r channel zone e) (is-pair (bend_at r (manager_of zone)) (sensitivity_of r zone true));
      answered = refl;
      its_offset = ap (offset_by_role r channel) e;
    }
by-role r channel (Member zone) e =
    let m = is-pair (bend_at r (manager_of zone)) (sensitivity_of r zone true) in
    let o = is-pair (bend_at r channel) (sensitivity_of r zone false) in
    record {
      managers = manager_pair r zone;
      own = offset_with_remainder (bend_at r channel) (sensitivity_of r zone false);
      managers_pair = m;
      own_pair = o;
      answered = refl;
      its_offset = ap (offset_by_role r channel) e;
      divided = divided-sum _ _ (manager_pair r zone) (offset_with_remainder (bend_at r channel) (sensitivity_of r zone false)) m.0 o.0;
      its_range = sum 4095 4095 4095 4095 _ _ m.1 o.1;
    }

pub ratio-by-role : (r : MpeReceiver) (channel : ℕ) → RatioByRole r channel (pair_of r channel)
ratio-by-role r channel = by-role r channel (role_held r.layout channel) refl

pub ratio_of : (r : MpeReceiver) (channel : ℕ) (answer : Outcome OffsetWithRemainder) → answer ≡ pair_of r channel → RatioByRole r channel answer
ratio_of r channel answer e = subst (RatioByRole r channel) (sym e) (ratio-by-role r channel)

-- ---- the offset of what is answered

offset-given : (r : MpeReceiver) (channel : ℕ) (role : MpeRole) (p : OffsetWithRemainder) → pair_by_role r channel role ≡ given p → offset_by_role r channel role ≡ given p.offset
unfolding manager_offset member_offset manager_pair member_pair
offset-given r channel NoZone p e = cc
offset-given r channel (Manager zone) p e =
    let q : manager_pair r zone ≡ p = cc in
    ap (λ (x : OffsetWithRemainder). given x.offset) q
offset-given r channel (Member zone) p e =
    let q : member_pair r zone channel ≡ p = cc in
    ap (λ (x : OffsetWithRemainder). given x.offset) q

pub pair-offset : (r : MpeReceiver) (channel : ℕ) (p : OffsetWithRemainder) → pair_of r channel ≡ given p → offset_of r channel ≡ given p.offset
pair-offset r channel p e = offset-given r channel (role_held r.layout channel) p e

none-given : (r : MpeReceiver) (channel : ℕ) (role : MpeRole) → pair_by_role r channel role ≡ none_there → offset_by_role r channel role ≡ none_there
none-given r channel NoZone e = refl
none-given r channel (Manager zone) e = cc
none-given r channel (Member zone) e = cc

pub pair-none : (r : MpeReceiver) (channel : ℕ) → pair_of r channel ≡ none_there → offset_of r channel ≡ none_there
pair-none r channel e = none-given r channel (role_held r.layout channel) e
