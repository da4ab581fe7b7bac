-- `translate::up` meets its contract.
use mathlib.Core.Path.{◌∙◌}
use Rattle.scale.proofs.Range.{Ranged}
use Rattle.scale.proofs.Widen.{upscaled-given, widened-lt}
use Prim.Native.Nat.{◌^◌}
use Rattle.translate.proofs.Given.{value-given}
use Rattle.translate.proofs.up.Goals as goal

pub returns : goal.returns
returns c =
    let a = c.args in
    let p = c.requires in
    let r : Ranged a.src_bits a.dst_bits (2 ^ a.src_bits) a.value = record { low = p.0; top = p.2; more = p.1; fits = p.3 } in
    let e = c.unwrap_or.ensures ∙ value-given _ _ (c.upscale.ensures.is ∙ upscaled-given a.src_bits a.dst_bits a.value r) in
    record { is = e; fits = rw e (widened-lt a.src_bits a.dst_bits a.value r) }
