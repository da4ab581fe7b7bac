-- `translate_state::Midi1ToMidi2Group::is_allowed` meets its contract.
use mathlib.Core.Path.{◌≡◌}
use lib.Dec.{eqb}
use Rattle.translate_state.specs.State.{allowed_to}
use Rattle.translate_state.proofs.Midi1ToMidi2Group.is_allowed.Given as goal

abbrev pub invariant-loop-state : goal.invariant-loop-state
invariant-loop-state l = eqb l.over 0 ≡ allowed_to l.state-items l.state-index
