-- `restatement::Restated::write_controls` meets its contract: after k turns the channels below k have their messages.
use Rattle.std.proofs.Common.{◌≡◌, ◌+◌, ◌*◌, refl, ap, ◌∙◌, arith}
use Rattle.std.proofs.lemmas.List.Edits.{sets}
use Rattle.settings.specs.Messages.{controls_on}
use Rattle.restatement.proofs.Sets.{turn}
use Rattle.restatement.proofs.Made.{is-ok, value-of, controls-made}
use Rattle.restatement.proofs.Restated.write_controls.Goals as goal

pub unwrap-requires : goal.unwrap-requires
unwrap-requires c =
    is-ok _ _ (c.channel_messages-messages.ensures ∙ controls-made c.args.self.settings c.loop-k.k c.args.self.is_allowed (omega arith))

pub loop-k-preserved : goal.loop-k-preserved
loop-k-preserved c =
    let i = c.loop-k in
    let a = c.args in
    let w = value-of _ _ _ (c.channel_messages-messages.ensures ∙ controls-made a.self.settings i.k c.args.self.is_allowed (omega arith)) c.unwrap.ensures in
    let e : c.put.new.out ≡ sets i.out (a.at + i.k * 3) (controls_on a.self.settings i.k) = c.put.ensures.buffer ∙ ap (λ m. sets i.out (a.at + i.k * 3) m) w in
    turn (controls_on a.self.settings) 3 (λ n. refl) a.out.now a.at i.k (a.at + i.k * 3) i.invariant refl e

pub returns : goal.returns
returns c =
    let e : c.loop-k.k ≡ 16 = omega arith in
    rw e at c.loop-k.invariant
