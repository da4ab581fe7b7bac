-- What is known of an end on its way through a restatement: channels that wait for no number, and its zones.
-- Assumes nothing.
use Prim.Native.Nat.{ℕ, ◌<◌}
use mathlib.Core.Path.{◌≡◌, ap, sym, ◌∙◌, subst}
use mathlib.Core.Bool.{Bool, true, false}
use mathlib.Core.List.{List}
use lib.Dec.{eqb}
use lib.ListN.{get_or, set, length}
use lib.Seq.{get_or-set_same, get_or-set_other}
use native.Mathlib.Omega.{arith}
use borrow.Author.Tests.{eqb-true, eqb-false}
use Rattle.ump.proofs.Cases.{by-test}
use Rattle.parameters.specs.declared.ParameterState.{ParameterState}
use Rattle.parameters.specs.declared.Number.{Number}
use Rattle.parameters.specs.State.{null_number, with_rpn}
use Rattle.mpe_layout.specs.declared.MpeLayout.{MpeLayout}
use Rattle.mpe_zones.specs.declared.Zones.{Zones}
use Rattle.mpe_receiver.specs.declared.MpeReceiver.{MpeReceiver}
use Rattle.mpe_receiver.specs.State.{zones_of}
use Rattle.byte_reader.specs.declared.Reader.{Reader}
use Rattle.receiving_end.specs.declared.end.End.{End}
use Rattle.receiving_end.specs.End.{blank_state, with_reader, with_receiver, with_parameter, parameter_at}
use Rattle.receiving_end.specs.WellFormed.{EndFormed}

-- parameters whose non-registered number is null, with the switches as new
pub record Cleared (p : ParameterState) : Type 0 where
  pub nrpn-null : p.nrpn ≡ null_number
  pub rpn-on : p.rpn_on ≡ true
  pub nrpn-off : p.nrpn_on ≡ false

-- another registered number leaves them so
pub cleared-with : (p : ParameterState) (n : Number) → Cleared p → Cleared (with_rpn p n)
cleared-with p n c = record { nrpn-null = c.nrpn-null; rpn-on = c.rpn-on; nrpn-off = c.nrpn-off }

abbrev pub zones_at : MpeLayout → Bool → Bool → List ℕ → Zones
zones_at l lower upper s = record { layout = l; lower_mono = lower; upper_mono = upper; sensitivity = s }

pub record Stage (z : Zones) (e : End) : Type 0 where
  pub formed : EndFormed e
  pub cleared : (k : ℕ) → k < 16 → Cleared (parameter_at e k)
  pub zones : zones_of e.receiver ≡ z

-- a property of every channel, where one channel is set
pub all_set : (P : ParameterState → Type 0) (l : List ParameterState) (k : ℕ) (q : ParameterState) → length l ≡ 16 → P q
    → (j : ℕ) → j < 16 → ((j ≡ k → ⊥) → P (get_or l j blank_state)) → P (get_or (set l k q) j blank_state)
all_set P l k q sized h j hj before =
    by-test (eqb j k)
    (λ e.
    let p : j ≡ k = eqb-true j k e in
    subst P (sym (ap (λ i. get_or (set l k q) i blank_state) p ∙ get_or-set_same l k q blank_state (omega arith))) h)
    (λ e.
    let n : j ≡ k → ⊥ = eqb-false j k e in
    subst P (sym (get_or-set_other l k j q blank_state n)) (before n))

-- a message that leaves a channel's parameters cleared
pub stage_at : {z y : Zones} (e x : End) (k : ℕ) (rd : Reader) (q : ParameterState) (r : MpeReceiver) → Stage z e → EndFormed x
    → x ≡ with_receiver (with_parameter (with_reader e rd) k q) r → Cleared q → zones_of r ≡ y → Stage y x
stage_at e x k rd q r s f p c h =
    record {
      formed = f;
      cleared = λ j hj.
          subst (λ y. Cleared (parameter_at y j)) (sym p)
          (all_set Cleared e.parameters k q s.formed.channels c j hj (λ n. s.cleared j hj));
      zones = ap (λ y. zones_of y.receiver) p ∙ h;
    }
