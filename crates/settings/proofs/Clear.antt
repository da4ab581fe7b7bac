-- Group A: after Reset All Controllers on each channel, no channel waits for a number.
-- Assumes nothing.
use Prim.Native.Nat.{ℕ, suc, ◌<◌}
use mathlib.Core.Path.{◌≡◌, refl, sym, ◌∙◌, subst}
use mathlib.Core.Bool.{true, false}
use native.Mathlib.Omega.{arith}
use native.Mathlib.Nat.{not-suc-le-zero}
use Rattle.parameters.specs.declared.ParameterState.{ParameterState}
use Rattle.parameters.specs.State.{null_number, nulled, number_stored}
use Rattle.mpe_receiver.specs.State.{zones_of}
use Rattle.mpe_receiver.specs.Receive.{stored}
use Rattle.receiving_end.specs.declared.end.End.{End}
use Rattle.byte_reader.specs.Reader.{reader_at}
use Rattle.receiving_end.specs.End.{with_reader, with_receiver, with_parameter, parameter_at}
use Rattle.receiving_end.specs.WellFormed.{EndFormed}
use Rattle.receiving_end.proofs.Parts.{status_of}
use Rattle.receiving_end.proofs.Receive.{control-received}
use Rattle.settings.specs.Messages.{reset_on, resets, bytes}
use Rattle.settings.proofs.Received.{received-all, control-all, bytes-formed, each-received}
use Rattle.settings.proofs.Stage.{Stage, all_set}

-- reception on for registered and off for non-registered numbers
pub record AsNew (p : ParameterState) : Type 0 where
  pub rpn-on : p.rpn_on ≡ true
  pub nrpn-off : p.nrpn_on ≡ false

-- the channels below n are cleared
record Ready (n : ℕ) (e : End) : Type 0 where
  pub formed : EndFormed e
  pub as-new : (k : ℕ) → k < 16 → AsNew (parameter_at e k)
  pub nulls : (k : ℕ) → k < n → (parameter_at e k).nrpn ≡ null_number

reset-received : (e : End) (k : ℕ) → k < 16
    → received-all e (reset_on k)
    ≡ with_receiver (with_parameter (with_reader e (reader_at (status_of 0xB k) 0x80)) k (nulled (parameter_at e k))) (stored e.receiver 0xB k 121 0)
unfolding number_stored
reset-received e k hk =
    control-all e k 121 0 hk (omega arith) (omega arith)
    ∙ control-received (with_reader e (reader_at (status_of 0xB k) 0x80)) k 121 0
    (record { not-6 = λ z. omega arith; not-38 = λ z. omega arith; not-96 = λ z. omega arith; not-97 = λ z. omega arith })
    (λ z. (λ y. omega arith, λ y. omega arith))

one_more : (n : ℕ) (e : End) → n < 16 → Ready n e → Ready (suc n) (received-all e (reset_on n))
one_more n e hn r =
    let p = reset-received e n hn in
    let c = r.formed.channels in
    record {
      formed = bytes-formed e (bytes (reset_on n)) r.formed;
      as-new = λ k hk.
          subst (λ x. AsNew (parameter_at x k)) (sym p)
          (all_set AsNew e.parameters n _ c (record { rpn-on = (r.as-new n hn).rpn-on; nrpn-off = (r.as-new n hn).nrpn-off }) k hk (λ z. r.as-new k hk));
      nulls = λ k hk.
          subst (λ x. (parameter_at x k).nrpn ≡ null_number) (sym p)
          (all_set (λ q. q.nrpn ≡ null_number) e.parameters n _ c refl k (omega arith) (λ z. r.nulls k (omega arith)));
    }

pub reset-stage : (e : End) → EndFormed e → ((k : ℕ) → k < 16 → AsNew (parameter_at e k)) → Stage (zones_of (received-all e resets).receiver) (received-all e resets)
reset-stage e f n =
    let r = each-received Ready reset_on one_more 16 e (omega arith) (record { formed = f; as-new = n; nulls = λ k h. absurd (not-suc-le-zero h) }) in
    record {
      formed = r.formed;
      cleared = λ k h. record { nrpn-null = r.nulls k h; rpn-on = (r.as-new k h).rpn-on; nrpn-off = (r.as-new k h).nrpn-off };
      zones = refl;
    }
