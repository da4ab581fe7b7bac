-- `translate_state::flags_excess` meets its contract: one test that antt computes over every byte.
use mathlib.Core.Path.{refl}
use native.Mathlib.Omega.{arith}
use Rattle.translate_state.proofs.Excess.{flags_tested}
use Rattle.translate_state.proofs.flags_excess.Goals as goal

pub returns : goal.returns
returns c = (flags_tested _ refl c.args.flags (omega arith)).0
