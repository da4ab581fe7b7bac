-- `scale::zero_extend_downscale` meets its contract: what it answers, and the claims that follow from that.
use native.Mathlib.Omega.{arith}
use Prim.Native.Nat.{◌+◌, ◌-◌, ◌/◌, ◌^◌, min}
use mathlib.Core.Path.{sym, ap, ◌∙◌}
use Rattle.std.specs.Prelude.{Ok, Err}
use Rattle.ump.specs.Outcome.{given}
use Rattle.scale.specs.Scale.{zero_downscaled, rounded}
use Rattle.scale.proofs.Claims.{zero-extend-downscale-claims}
use Rattle.scale.proofs.Range.{one_shifted}
use Rattle.scale.proofs.zero_extend_downscale.Goals as goal

pub returns-then-not-can_downscale : goal.returns-then-not-can_downscale
unfolding zero_downscaled
returns-then-not-can_downscale c =
    let a = c.args in
    let p = zero-extend-downscale-claims (Err _) a.value a.src_bits a.dst_bits (rw (sym c.can_downscale.ensures.is ∙ c.if-not-can_downscale.true)) in
    record { is = p.0; nearest = p.1.0; returns = p.1.1 }

pub returns : goal.returns
unfolding zero_downscaled rounded
returns c =
    let a = c.args in
    let k = a.src_bits - a.dst_bits in
    let r = c.min.ensures ∙ (λ i. min ((a.value + one_shifted (k - 1) 64 (omega arith) i) / 2 ^ k) (c.max_value-max.ensures i)) in
    let p = zero-extend-downscale-claims (Ok c.min.result) a.value a.src_bits a.dst_bits (rw (sym c.can_downscale.ensures.is ∙ c.if-not-can_downscale.false) (ap given r)) in
    record { is = p.0; nearest = p.1.0; returns = p.1.1 }
