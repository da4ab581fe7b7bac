-- `mpe_allocator::MpeNoteAllocator::note_on` meets its contract: by what `lowest_member` answered.
use Rattle.std.proofs.Common.{arith}
use Rattle.mpe_allocator.proofs.Noted.{refused, found-lowest, found-count, members-end, in-channels}
use Rattle.mpe_allocator.proofs.MpeNoteAllocator.note_on.Goals as goal

pub overflow_add-end : goal.overflow_add-end
overflow_add-end c =
    let a = c.args in
    let low = found-lowest a.layout a.zone c.in-Ok.first c.in-Ok.ensures in
    let n = found-count a.layout a.zone c.unwrap.result (rw c.unwrap.ensures at c.members.ensures) in
    omega (arith, members-end a.layout a.zone low.0)

pub place-requires : goal.place-requires
place-requires c =
    let a = c.args in
    let low = found-lowest a.layout a.zone c.in-Ok.first c.in-Ok.ensures in
    let n = found-count a.layout a.zone c.unwrap.result (rw c.unwrap.ensures at c.members.ensures) in
    (omega arith, omega (arith, members-end a.layout a.zone low.0))

pub returns-in-Err : goal.returns-in-Err
returns-in-Err c =
    let a = c.args in
    let p = refused a.self a.layout a.zone a.note _ (c.in-Err.ensures) in
    record { chosen = p.0; is = p.1.0; listed = p.1.1.0; member = p.1.1.1.0; one = p.1.1.1.1.0; recall = p.1.1.1.1.1.0; least = p.1.1.1.1.1.1.0; turned = p.1.1.1.1.1.1.1 }

pub returns-in-Ok : goal.returns-in-Ok
returns-in-Ok c =
    let a = c.args in
    let low = found-lowest a.layout a.zone c.in-Ok.first c.in-Ok.ensures in
    let n = found-count a.layout a.zone c.unwrap.result (rw c.unwrap.ensures at c.members.ensures) in
    let p = in-channels a.self a.layout a.zone a.note _ _ c.place.result low.0 low.1 low.2 n c.place.ensures in
    record { chosen = p.0; is = p.1.0; listed = p.1.1.0; member = p.1.1.1.0; one = p.1.1.1.1.0; recall = p.1.1.1.1.1.0; least = p.1.1.1.1.1.1.0; turned = p.1.1.1.1.1.1.1 }
