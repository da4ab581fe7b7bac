-- `scale::bit_repeated` meets its contract. The loop's invariant: what is left to add is the next repeat, and n bits lower the others.
-- The measure is the next repeat.
use mathlib.Core.Path.{◌∙◌, ap}
use Prim.Native.Nat.{ℕ, ◌+◌, ◌-◌, ◌*◌, ◌/◌, ◌^◌, ◌≤◌}
use native.Mathlib.Nat.{lt_of_le_of_lt, lt_of_lt_of_le}
use native.Mathlib.Omega.{arith}
use lib.Pow.{pow_mono}
use Rattle.scale.proofs.Range.{shifted}
use Rattle.scale.proofs.Repeat.{starts, turn, within, falls, ended, repeated_lt}
use Rattle.scale.proofs.bit_repeated.Goals as goal

pub loop-repeat-init : goal.loop-repeat-init
loop-repeat-init c =
    let a = c.args in
    let k = a.dst_bits - a.src_bits in
    let n = a.src_bits - 1 in
    let e = c.first_repeat-repeat.ensures ∙ ap (λ (y : ℕ). y * 2 ^ k / 2 ^ n) c.low_bits.ensures in
    rw (shifted a.src_bits a.dst_bits a.value (omega arith) (omega arith) (omega arith), e)
    (starts a.src_bits a.value k (omega arith))

pub overflow_add-result : goal.overflow_add-result
overflow_add-result c =
    let a = c.args in
    let h : a.src_bits + (a.dst_bits - a.src_bits) ≤ 32 = omega arith in
    record {
      fits = lt_of_le_of_lt (within c.loop-repeat.invariant) (lt_of_lt_of_le (repeated_lt a.src_bits a.value (a.dst_bits - a.src_bits) (omega arith)) (pow_mono h));
    }

pub loop-repeat-smaller : goal.loop-repeat-smaller
loop-repeat-smaller c = falls _ c.loop-repeat.repeat (omega arith) (omega arith)

pub loop-repeat-preserved : goal.loop-repeat-preserved
loop-repeat-preserved c = turn c.loop-repeat.invariant

pub returns : goal.returns
returns c = ended (omega arith) c.loop-repeat.invariant (omega arith)
