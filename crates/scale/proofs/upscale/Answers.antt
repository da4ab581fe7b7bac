-- `scale::upscale` meets its contract: what it answers, and the claims that follow from that.
use mathlib.Core.Path.{sym, ap, ◌∙◌}
use Rattle.std.specs.Prelude.{Ok, Err}
use Rattle.ump.specs.Outcome.{given}
use Rattle.scale.specs.Scale.{upscaled}
use Rattle.scale.proofs.Claims.{upscale-claims}
use Rattle.scale.proofs.upscale.Goals as goal

pub returns-then-not-can_upscale : goal.returns-then-not-can_upscale
unfolding upscaled
returns-then-not-can_upscale c =
    let a = c.args in
    let p = upscale-claims (Err _) a.value a.src_bits a.dst_bits (rw (sym c.can_upscale.ensures.is ∙ c.if-not-can_upscale.true)) in
    record { is = p.0; bits = p.1.0; one = p.1.1.0; kept = p.1.1.1.0; rises = p.1.1.1.1.0; examples = p.1.1.1.1.1 }

pub returns : goal.returns
unfolding upscaled
returns c =
    let a = c.args in
    let p = let t = sym c.can_upscale.ensures.is ∙ c.if-not-can_upscale.false in
    upscale-claims (Ok c.min_center_max.result) a.value a.src_bits a.dst_bits (rw t (ap given c.min_center_max.ensures)) in
    record { is = p.0; bits = p.1.0; one = p.1.1.0; kept = p.1.1.1.0; rises = p.1.1.1.1.0; examples = p.1.1.1.1.1 }
