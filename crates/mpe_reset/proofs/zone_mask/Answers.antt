-- `mpe_reset::zone_mask` meets its contract: the law of the masks of the zones, by the zone; a legal layout has at most 15 members.
use native.Mathlib.Omega.{arith}
use Rattle.mpe_layout.proofs.Legal.{counted}
use Rattle.mpe_reset.proofs.Masks.{zone-mask, no-bits, lower-bits, upper-bits}
use Rattle.mpe_reset.proofs.zone_mask.Goals as goal

pub overflow_sub-result : goal.overflow_sub-result
overflow_sub-result c = omega (arith, (counted c.args.layout c.args.zone c.in_ok-members.members c.in_ok-members.ensures).below)

pub overflow_sub-result-in-Upper-default : goal.overflow_sub-result-in-Upper-default
overflow_sub-result-in-Upper-default c = omega (arith, (counted c.args.layout c.args.zone c.in_ok-members.members c.in_ok-members.ensures).below)

pub returns-in_default-eq0 : goal.returns-in_default-eq0
returns-in_default-eq0 c =
    let m = counted c.args.layout c.args.zone c.in_ok-members.members c.in_ok-members.ensures in
    record { lawful = m.lawful; is = cc (zone-mask c.args.layout c.args.zone _ m, no-bits c.args.zone) }

pub returns-in-Lower-default : goal.returns-in-Lower-default
returns-in-Lower-default c =
    let m = counted c.args.layout c.args.zone c.in_ok-members.members c.in_ok-members.ensures in
    record { lawful = m.lawful; is = cc (zone-mask c.args.layout c.args.zone _ m, lower-bits c.in_ok-members.members c.in-Lower-default.is-1.1) }

pub returns-in-Upper-default : goal.returns-in-Upper-default
returns-in-Upper-default c =
    let m = counted c.args.layout c.args.zone c.in_ok-members.members c.in_ok-members.ensures in
    record { lawful = m.lawful; is = cc (zone-mask c.args.layout c.args.zone _ m, upper-bits c.in_ok-members.members c.in-Upper-default.is-1.1) }
