-- What a control change that enters no data, and a message that is no control change, do to an end.
-- Assumes nothing.
use Prim.Native.Nat.{ℕ}
use mathlib.Core.Path.{◌≡◌, ap, ◌∙◌}
use borrow.Author.Tests.{ne_eqb}
use Rattle.std.specs.Prelude.{None}
use Rattle.parameters.specs.declared.ParameterState.{ParameterState}
use Rattle.parameters.specs.State.{number_stored, controlled, parameter_update}
use Rattle.parameters.specs.State as parameter
use Rattle.mpe_receiver.specs.Receive.{stored, received_by_fields}
use Rattle.mpe_event.proofs.Kept.{NoMode}
use Rattle.mpe_receiver.proofs.Parts.{receiver-quiet}
use Rattle.receiving_end.specs.declared.end.End.{End}
use Rattle.receiving_end.specs.End.{with_receiver, with_parameter, parameter_at}
use Rattle.receiving_end.proofs.Parts.{parameters_update, end_after}

-- a control change that is no data entry and no step
pub record NoEntry (a : ℕ) : Type 0 where
  pub not-6 : a ≡ 6 → ⊥
  pub not-38 : a ≡ 38 → ⊥
  pub not-96 : a ≡ 96 → ⊥
  pub not-97 : a ≡ 97 → ⊥

pub stores : (p : ParameterState) (a b : ℕ) → NoEntry a → parameter.update_by_fields p 0xB a b ≡ parameter_update (number_stored p a b) None
unfolding controlled
stores p a b n = rw (ne_eqb a 6 n.not-6, ne_eqb a 38 n.not-38, ne_eqb a 96 n.not-96, ne_eqb a 97 n.not-97)

module _ (e : End) (k a b : ℕ) (n : NoEntry a) (m : NoMode 0xB a) where
  pub control-received : end_after e 0xB k a b ≡ with_receiver (with_parameter e k (number_stored (parameter_at e k) a b)) (stored e.receiver 0xB k a b)
  control-received =
      ap (λ h. with_receiver (with_parameter e k h.state) (received_by_fields e.receiver h.event 0xB k a b).receiver) (stores (parameter_at e k) a b n)
      ∙ ap (λ r. with_receiver (with_parameter e k (number_stored (parameter_at e k) a b)) r) (receiver-quiet e.receiver 0xB k a b m)

-- a message that is no control change leaves the parameters
module _ (e : End) (o k a b : ℕ) (n : o ≡ 0xB → ⊥) where
  no-update : parameters_update e o k a b ≡ parameter_update (parameter_at e k) None
  no-update = rw (ne_eqb o 0xB n)

  pub other-received : end_after e o k a b ≡ with_receiver (with_parameter e k (parameter_at e k)) (stored e.receiver o k a b)
  other-received =
      ap (λ h. with_receiver (with_parameter e k h.state) (received_by_fields e.receiver h.event o k a b).receiver) no-update
      ∙ ap (λ r. with_receiver (with_parameter e k (parameter_at e k)) r) (receiver-quiet e.receiver o k a b (λ q. absurd (n q)))
