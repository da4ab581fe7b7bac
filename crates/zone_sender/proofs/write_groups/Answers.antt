-- `zone_sender::write_groups` meets its contract: after k turns the first k groups stand in front of what was there.
use Rattle.std.proofs.Common.{◌*◌, ◌≤◌, length, arith, refl}
use Rattle.zone_sender.specs.Zone.{group_size, groups}
use Rattle.zone_sender.proofs.Groups.{groups-more}
use Rattle.zone_sender.proofs.write_groups.Goals as goal

pub loop-k-init : goal.loop-k-init
unfolding groups
loop-k-init c = refl

pub loop-k-preserved : goal.loop-k-preserved
loop-k-preserved c =
    let k = c.loop-k.k in
    let h : group_size * k ≤ length c.loop-k.out = omega arith in
    groups-more c.args.zone k c.args.out.now c.loop-k.out _ h c.loop-k.invariant c.write_at.ensures
