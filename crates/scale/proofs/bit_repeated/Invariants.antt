-- `scale::bit_repeated` meets its contract. The loop's invariant: what is left to add is the next repeat, and n bits lower the others.
-- The measure is the next repeat.
use Rattle.scale.specs.Scale.{repeated}
use Rattle.scale.proofs.Repeat.{Left}
use Rattle.scale.proofs.bit_repeated.Given as goal

abbrev pub invariant-loop-repeat : goal.invariant-loop-repeat
invariant-loop-repeat l =
    Left l.repeat_bits (repeated l.src_bits l.value l.scale_bits) l.result l.repeat

abbrev pub decreases-loop-repeat : goal.decreases-loop-repeat
decreases-loop-repeat l = l.repeat
