-- `translate::on_channel` meets its contract.
use native.Mathlib.Omega.{arith}
use Rattle.translate_state.proofs.Allowed.{data-allowed}
use Rattle.translate.proofs.on_channel.Goals as goal

pub invariant_of-result : goal.invariant_of-result
invariant_of-result c =
    record {
      group_fits = omega arith;
      channel_fits = omega arith;
      entry_fits = data-allowed c.args.translator.state c.requires.0 _ c.requires.2;
    }
