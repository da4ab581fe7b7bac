-- `mpe_receiver::MpeReceiver::rest` meets its contract.
use mathlib.Core.Path.{◌≡◌, refl}
use mathlib.Core.Bool.{true, false}
use Rattle.mpe_reset.specs.Reset.{named}
use Rattle.mpe_receiver.specs.Receive.{put_where}
use Rattle.mpe_receiver.proofs.Rest.{rest-next}
use Rattle.mpe_receiver.proofs.MpeReceiver.rest.Goals as goal
use Rattle.mpe_receiver.proofs.MpeReceiver.rest.Goals.{then-names, else-names}

pub loop-channel-init : goal.loop-channel-init
unfolding put_where
loop-channel-init c = refl

pub loop-channel-preserved : goal.loop-channel-preserved
loop-channel-preserved c =
    let at = c.loop-channel in
    elim c.if-names.branch [
      | then-names w ↦ let e : named c.args.mask at.channel ≡ true = cc in rest-next c.args.self c.args.mask at.channel at.invariant (rw e w.self-is)
      | else-names w ↦ let e : named c.args.mask at.channel ≡ false = cc in rest-next c.args.self c.args.mask at.channel at.invariant (rw e w.self-is)
    ]
