-- `mpe_reset::names` meets its contract: the law of a field, at the channel's bit, one bit wide, and that of a mask.
use mathlib.Core.Path.{ap, ◌∙◌}
use Prim.Native.Nat.{◌%◌}
use lib.Dec.{eqb}
use Rattle.ump.proofs.Cut.{cut}
use Rattle.mpe_reset.specs.Reset.{hit_by, named}
use Rattle.mpe_reset.proofs.Named.{mask-named}
use Rattle.mpe_reset.proofs.names.Goals as goal

pub returns : goal.returns
returns c =
    let a = c.args in
    let bit = ap (λ x. eqb x 1) (cut (a.channel % 16) 1 a.mask) in
    record {
      is = bit;
      hit = λ announced before after e. bit ∙ ap (λ m. named m a.channel) e ∙ mask-named (hit_by announced before after) a.channel;
    }
