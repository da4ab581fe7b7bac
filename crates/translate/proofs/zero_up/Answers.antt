-- `translate::zero_up` meets its contract.
use mathlib.Core.Path.{◌∙◌}
use native.Mathlib.Omega.{arith}
use Rattle.scale.proofs.Widen.{zero-upscaled-given}
use Rattle.translate.proofs.Given.{value-given}
use Rattle.translate.proofs.zero_up.Goals as goal

pub returns : goal.returns
returns c =
    let g = zero-upscaled-given 14 32 c.args.value (omega arith) (record { low = omega arith; top = omega arith; more = omega arith; fits = c.requires }) in
    c.unwrap_or.ensures ∙ value-given _ _ (c.zero_extend_upscale.ensures.is ∙ g)
