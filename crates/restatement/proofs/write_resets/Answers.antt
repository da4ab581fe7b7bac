-- `restatement::write_resets` meets its contract: after k turns the channels below k have their message.
use Rattle.std.proofs.Common.{◌≡◌, [], ◌∷◌, refl, ap, ◌∙◌, arith}
use Rattle.std.proofs.lemmas.List.Edits.{sets}
use Rattle.settings.specs.Messages.{reset_on}
use Rattle.restatement.proofs.Sets.{turn}
use Rattle.restatement.proofs.Made.{is-ok, value-of, control-made}
use Rattle.restatement.proofs.write_resets.Goals as goal

pub unwrap-requires : goal.unwrap-requires
unwrap-requires c =
    is-ok _ _ (c.control_change.ensures ∙ control-made c.loop-k.k 121 0 (omega arith) (omega arith) (omega arith))

pub loop-k-preserved : goal.loop-k-preserved
loop-k-preserved c =
    let i = c.loop-k in
    let w = value-of _ _ _ (c.control_change.ensures ∙ control-made i.k 121 0 (omega arith) (omega arith) (omega arith)) c.unwrap.ensures in
    let e : c.put.new.out ≡ sets i.out i.k (reset_on i.k) = c.put.ensures.buffer ∙ ap (λ m. sets i.out i.k (m ∷ [])) w in
    turn reset_on 1 (λ n. refl) c.args.out.now 0 i.k i.k i.invariant (omega arith) e
