-- `scale::zero_extend_upscale` meets its contract: what it answers, and the claims that follow from that.
use native.Mathlib.Omega.{arith}
use Prim.Native.Nat.{◌-◌, ◌*◌, ◌%◌, ◌^◌}
use mathlib.Core.Path.{sym, ap, ◌∙◌}
use borrow.Author.Tests.{le-leb}
use Rattle.std.specs.Prelude.{Ok}
use Rattle.ump.specs.Outcome.{given}
use Rattle.scale.specs.Scale.{zero_upscaled, zero_extended}
use Rattle.scale.proofs.Claims.{zero-extend-upscale-claims}
use Rattle.scale.proofs.Range.{shifted}
use Rattle.scale.proofs.zero_extend_upscale.Goals as goal

pub returns : goal.returns
unfolding zero_upscaled zero_extended
returns c =
    let a = c.args in
    let p = zero-extend-upscale-claims
    (Ok (a.value * 2 ^ (a.dst_bits - a.src_bits) % 2 ^ 32)) a.value a.src_bits a.dst_bits
    (rw (le-leb 2 a.src_bits (omega arith), sym c.can_upscale.ensures.is ∙ c.if-not-can_upscale.false) (ap given (shifted a.src_bits a.dst_bits a.value (omega arith) (omega arith) (omega arith)))) in
    record { is = p.0; bits = p.1 }
