-- `mpe_receiver::MpeReceiver::member_pair` meets its contract: the two pairs are added in 32 bits.
use mathlib.Core.Path.{◌≡◌, ◌∙◌}
use mathlib.Core.Bool.{true, false}
use Rattle.mpe_layout.specs.declared.MpeZone.{MpeZone}
use Rattle.mpe_layout.specs.Layout.{manager_of}
use Rattle.mpe_pitch.specs.declared.OffsetWithRemainder.{OffsetWithRemainder}
use Rattle.mpe_pitch.specs.Remainder.{offset_with_remainder, sum_of}
use Rattle.mpe_receiver.specs.declared.MpeReceiver.{MpeReceiver}
use Rattle.mpe_receiver.specs.Read.{bend_at, sensitivity_of, manager_pair, member_pair}
use Rattle.mpe_receiver.proofs.Offsets.{Bounded, bounded, offsets-fit, offsets-back, remainders-fit, remainders-back}
use Rattle.mpe_receiver.proofs.MpeReceiver.member_pair.Goals as goal

managers-bounded : (p : OffsetWithRemainder) (r : MpeReceiver) (zone : MpeZone) → p ≡ manager_pair r zone → Bounded p
unfolding manager_pair
managers-bounded p r zone e = bounded p (bend_at r (manager_of zone)) (sensitivity_of r zone true) e

pub overflow_add-result : goal.overflow_add-result
overflow_add-result c =
    let m = managers-bounded _ c.args.self c.args.zone c.manager_pair-manager.ensures in
    let o = bounded _ _ _ c.pitch_offset_with_remainder-own.ensures.is in
    search (offsets-fit, remainders-fit, m, o)

pub overflow_add-result-2 : goal.overflow_add-result-2
overflow_add-result-2 c =
    let m = managers-bounded _ c.args.self c.args.zone c.manager_pair-manager.ensures in
    let o = bounded _ _ _ c.pitch_offset_with_remainder-own.ensures.is in
    search (offsets-fit, remainders-fit, m, o)

pub returns : goal.returns
unfolding member_pair
returns c =
    let m = managers-bounded _ c.args.self c.args.zone c.manager_pair-manager.ensures in
    let o = bounded _ _ _ c.pitch_offset_with_remainder-own.ensures.is in
    let own : c.pitch_offset_with_remainder-own.result ≡ offset_with_remainder (bend_at c.args.self c.args.channel) (sensitivity_of c.args.self c.args.zone false) =
    c.pitch_offset_with_remainder-own.ensures.is ∙ (λ i. offset_with_remainder (c.pitch_bend.ensures i) (c.sensitivity.ensures i)) in
    (λ i. record { offset = offsets-back m o i; remainder = remainders-back m o i }) ∙ (λ i. sum_of (c.manager_pair-manager.ensures i) (own i))
