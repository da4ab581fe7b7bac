-- `zone_sender::write_groups` meets its contract: after k turns the first k groups stand in front of what was there.
use Rattle.std.proofs.Common.{◌≡◌, ◌++◌, ◌*◌, drop}
use Rattle.zone_sender.specs.Zone.{group_size, groups}
use Rattle.zone_sender.proofs.write_groups.Given as goal

abbrev pub invariant-loop-k : goal.invariant-loop-k
invariant-loop-k l = l.out ≡ groups l.zone l.k ++ drop (group_size * l.k) l.initial.out
