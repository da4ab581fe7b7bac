-- `mpe_reset::reset` meets its contract: the law of the masks of the zones, by the kind of change.
use mathlib.Core.Path.{◌≡◌}
use Rattle.std.specs.Prelude.{Some, None}
use Rattle.mpe_layout.specs.declared.MpeZone.TheVariants.{Lower, Upper}
use Rattle.mpe_reset.proofs.Masks.{zones-mask}
use Rattle.mpe_reset.proofs.reset.Goals as goal

pub returns-in-Some-Lower : goal.returns-in-Some-Lower
returns-in-Some-Lower c =
    let i = c.in-Some-Lower in
    let zone : i.field-0 ≡ Lower = rw i.is at i.field-0-is in
    rw (i.is, zone) (zones-mask (Some Lower) _ _ _ _ _ _ c.in_ok-a.ensures c.in_ok-b.ensures c.in_ok-c.ensures c.in_ok-d.ensures)

pub returns-in-Some-Upper : goal.returns-in-Some-Upper
returns-in-Some-Upper c =
    let i = c.in-Some-Upper in
    let zone : i.field-0 ≡ Upper = rw i.is at i.field-0-is in
    rw (i.is, zone) (zones-mask (Some Upper) _ _ _ _ _ _ c.in_ok-a.ensures c.in_ok-b.ensures c.in_ok-c.ensures c.in_ok-d.ensures)

pub returns-in-None : goal.returns-in-None
returns-in-None c = rw c.in-None.is (zones-mask None _ _ _ _ _ _ c.in_ok-a.ensures c.in_ok-b.ensures c.in_ok-c.ensures c.in_ok-d.ensures)
