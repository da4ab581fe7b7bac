-- `scale::downscale` meets its contract: what it answers, and the claims that follow from that.
use Prim.Native.Nat.{◌-◌, ◌/◌, ◌^◌}
use mathlib.Core.Path.{sym, ◌∙◌}
use Rattle.std.specs.Prelude.{Ok, Err}
use Rattle.scale.specs.Scale.{downscaled, narrowed}
use Rattle.scale.proofs.Claims.{downscale-claims}
use Rattle.scale.proofs.downscale.Goals as goal

pub returns-then-not-can_downscale : goal.returns-then-not-can_downscale
unfolding downscaled
returns-then-not-can_downscale c =
    let a = c.args in
    let p = downscale-claims (Err _) a.value a.src_bits a.dst_bits (rw (sym c.can_downscale.ensures.is ∙ c.if-not-can_downscale.true)) in
    record { is = p.0; cut = p.1.0; returns = p.1.1 }

pub returns : goal.returns
unfolding downscaled narrowed
returns c =
    let a = c.args in
    let p = downscale-claims (Ok (a.value / 2 ^ (a.src_bits - a.dst_bits))) a.value a.src_bits a.dst_bits (rw (sym c.can_downscale.ensures.is ∙ c.if-not-can_downscale.false)) in
    record { is = p.0; cut = p.1.0; returns = p.1.1 }
