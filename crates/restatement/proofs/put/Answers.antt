-- `restatement::put` meets its contract: the part that is copied to comes back as the messages.
use Rattle.std.proofs.Common.{◌≡◌, ◌+◌, ◌-◌, length, sym, ap, ◌∙◌, arith}
use borrow.Rule.Slice.PartMut.{mid_len}
use Rattle.restatement.proofs.Sets.{put-sets}
use Rattle.restatement.proofs.put.Goals as goal

pub returns-clause-buffer : goal.returns-clause-buffer
returns-clause-buffer g c =
    let a = c.args in
    let n = g.row.N in
    let e = c.copy_from_slice.ensures.after in
    let k : length a.messages ≡ a.at + n - a.at = ap length (sym e) ∙ c.copy_from_slice.ensures.len ∙ mid_len a.at (a.at + n) a.out.now c.requires in
    put-sets a.out.now _ a.messages a.at (a.at + n - a.at) (omega arith) e (sym k)
