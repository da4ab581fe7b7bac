-- `setup_writer::put` meets its contract: the part that is copied to comes back as the bytes.
use Prim.Native.Nat.{◌+◌, ◌-◌}
use mathlib.Core.Path.{◌≡◌, sym}
use native.Mathlib.Omega.{arith}
use lib.ListN.{length}
use Rattle.restatement.proofs.Sets.{put-sets}
use Rattle.setup_writer.proofs.put.Goals as goal

pub returns-clause-buffer : goal.returns-clause-buffer
returns-clause-buffer c =
    let a = c.args in
    let n = length a.bytes.now in
    let e = c.copy_from_slice.ensures.after in
    let k : n ≡ a.at + n - a.at = omega arith in
    put-sets a.out.now _ a.bytes.now a.at (a.at + n - a.at) (omega arith) e (sym k)
