-- `zone_sender::zone_sensitivity_messages` meets its contract: refused in an inactive zone, else `fill` with the zone's numbers.
use lib.ListN.{length}
use native.Mathlib.Omega.{arith}
use mathlib.Core.Path.{◌≡◌}
use Rattle.mpe_sender.proofs.Zones.{active, manager-lt, members_fit}
use Rattle.zone_sender.specs.Zone.{zone_words, zone_reply, filled, written_read}
use Rattle.zone_sender.proofs.Order.{written-in-order, answered-by-need}
use Rattle.zone_sender.proofs.zone_sensitivity_messages.Goals as goal

pub fill-requires : goal.fill-requires
fill-requires c = let a = c.args in
    let z = active a.layout a.zone _ _ c.in_ok-lowest.ensures in (
      omega (arith, c.manager.ensures, manager-lt a.zone),
      omega (arith, z.is-lowest, z.is-members, members_fit a.layout a.zone z.is-legal),
    )

pub returns : goal.returns
returns c = let a = c.args in
    let z = active a.layout a.zone _ _ c.in_ok-lowest.ensures in
    let xs = a.out.now in
    let p : (written_read c.fill.result ≡ zone_reply a.layout a.zone a.manager a.member (length xs)) × (c.fill.new.out ≡ filled (zone_reply a.layout a.zone a.manager a.member (length xs)) (zone_words a.layout a.zone a.manager a.member) xs) =
    rw (z.is-legal, z.some, ← z.is-lowest, ← z.is-members, ← c.manager.ensures) (c.fill.ensures.reply, c.fill.ensures.buffer) in
    record {
      reply = p.0;
      buffer = p.1;
      order = written-in-order a.layout a.zone a.manager a.member _ xs _ p.0 p.1;
      need = answered-by-need a.layout a.zone a.manager a.member (length xs) _ p.0;
    }
