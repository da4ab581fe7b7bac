-- `restatement::write_deselections` meets its contract: after k turns the channels below k have their messages.
use Rattle.std.proofs.Common.{◌≡◌, ◌+◌, ◌*◌, refl, ◌∙◌, arith}
use Rattle.std.proofs.lemmas.List.Edits.{sets}
use Rattle.settings.specs.Messages.{deselection_on}
use Rattle.restatement.proofs.Sets.{turn}
use Rattle.restatement.proofs.Made.{is-ok, value-of, control-made}
use Rattle.restatement.proofs.write_deselections.Goals as goal

pub unwrap-msb-requires : goal.unwrap-msb-requires
unwrap-msb-requires c =
    is-ok _ _ (c.control_change.ensures ∙ control-made c.loop-k.k 101 127 (omega arith) (omega arith) (omega arith))

pub unwrap-lsb-requires : goal.unwrap-lsb-requires
unwrap-lsb-requires c =
    is-ok _ _ (c.control_change-in-loop-k.ensures ∙ control-made c.loop-k.k 100 127 (omega arith) (omega arith) (omega arith))

pub loop-k-preserved : goal.loop-k-preserved
loop-k-preserved c =
    let i = c.loop-k in
    let a = c.args in
    let m = value-of _ _ _ (c.control_change.ensures ∙ control-made i.k 101 127 (omega arith) (omega arith) (omega arith)) c.unwrap-msb.ensures in
    let l = value-of _ _ _ (c.control_change-in-loop-k.ensures ∙ control-made i.k 100 127 (omega arith) (omega arith) (omega arith)) c.unwrap-lsb.ensures in
    let e : c.put.new.out ≡ sets i.out (a.at + i.k * 2) (deselection_on i.k) = c.put.ensures.buffer ∙ rw (m, l) in
    turn deselection_on 2 (λ n. refl) a.out.now a.at i.k (a.at + i.k * 2) i.invariant refl e
