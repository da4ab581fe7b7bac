-- Three messages that choose a registered parameter and enter its data, as bytes.
-- Assumes nothing.
use Prim.Native.Nat.{ℕ, ◌<◌}
use mathlib.Core.Path.{◌≡◌, ap, ◌∙◌}
use mathlib.Core.Bool.{true}
use mathlib.Core.List.{List, [], ◌∷◌, ◌++◌}
use mathlib.Core.Logic.{inl}
use native.Mathlib.Omega.{arith}
use lib.ListN.{length}
use lib.Seq.{get_or-set_same, set-set}
use Rattle.ump.specs.Controller.{rpn_of}
use Rattle.parameter_event.specs.declared.Parameter.TheVariants.{Registered}
use Rattle.parameter_event.specs.declared.ParameterChange.TheVariants.{DataEntryMsb}
use Rattle.parameter_event.specs.declared.ParameterEvent.{ParameterEvent}
use Rattle.parameters.specs.declared.ParameterState.{ParameterState}
use Rattle.std.specs.Prelude.{Some}
use Rattle.parameters.specs.State.{number, with_rpn, selects, selection_of, number_stored, controlled, parameter_update}
use Rattle.parameters.specs.State as parameter
use Rattle.mpe_receiver.specs.Receive.{stored, received_by_fields}
use Rattle.receiving_end.specs.declared.end.End.{End}
use Rattle.byte_reader.specs.Reader.{reader_at}
use Rattle.receiving_end.specs.End.{blank_state, with_reader, with_receiver, with_parameter, parameter_at}
use Rattle.receiving_end.specs.Lists.{after_bytes}
use Rattle.receiving_end.proofs.Bytes.{bytes-after-bytes}
use Rattle.receiving_end.proofs.Parts.{end_after, status_of, two-received}
use Rattle.receiving_end.proofs.Receive.{control-received}

-- the bytes of a control change
abbrev pub control : ℕ → ℕ → ℕ → List ℕ
control k a b = status_of 0xB k ∷ a ∷ b ∷ []

pub control-read : (e : End) (k a b : ℕ) → k < 16 → a < 0x80 → b < 0x80 → after_bytes e (control k a b) ≡ end_after (with_reader e (reader_at (status_of 0xB k) 0x80)) 0xB k a b
control-read e k a b hk ha hb = two-received e 0xB k a b (inl (omega arith)) (omega arith) hk ha hb

abbrev pub entry_of : ℕ → ℕ → ParameterEvent
entry_of l v = record { parameter = Registered (rpn_of 0 l); change = DataEntryMsb v }

-- the parameters of a channel, chosen number 0 l
entered-as : (p : ParameterState) (l v : ℕ) → p.rpn_on ≡ true → selects 0 l ≡ true
    → parameter.update_by_fields (with_rpn p (number 0 l)) 0xB 6 v ≡ parameter_update (with_rpn p (number 0 l)) (Some (entry_of l v))
unfolding controlled selection_of
entered-as p l v on sel = rw (on, sel)

module _ (e : End) (k l v : ℕ) (hk : k < 16) (hl : l < 0x80) (hv : v < 0x80) (sized : length e.parameters ≡ 16) (on : (parameter_at e k).rpn_on ≡ true) (sel : selects 0 l ≡ true) where
  p : ParameterState
  p = parameter_at e k

  -- the end with other parameters of channel k
  abbrev at : ParameterState → End
  at q = with_parameter (with_reader e (reader_at (status_of 0xB k) 0x80)) k q

  at-k : (q : ParameterState) → parameter_at (at q) k ≡ q
  at-k q = get_or-set_same e.parameters k q blank_state (omega arith)

  first : after_bytes e (control k 101 0) ≡ at (with_rpn p (number 0 p.rpn.lsb))
  unfolding number_stored stored p
  first =
      control-read e k 101 0 hk (omega arith) (omega arith)
      ∙ control-received (with_reader e (reader_at (status_of 0xB k) 0x80)) k 101 0
      (record { not-6 = λ z. omega arith; not-38 = λ z. omega arith; not-96 = λ z. omega arith; not-97 = λ z. omega arith })
      (λ z. (λ y. omega arith, λ y. omega arith))

  second : after_bytes (at (with_rpn p (number 0 p.rpn.lsb))) (control k 100 l) ≡ at (with_rpn p (number 0 l))
  unfolding number_stored stored
  second =
      control-read (at (with_rpn p (number 0 p.rpn.lsb))) k 100 l hk (omega arith) hl
      ∙ control-received (at (with_rpn p (number 0 p.rpn.lsb))) k 100 l
      (record { not-6 = λ z. omega arith; not-38 = λ z. omega arith; not-96 = λ z. omega arith; not-97 = λ z. omega arith })
      (λ z. (λ y. omega arith, λ y. omega arith))
      ∙ ap (λ q. with_parameter (at (with_rpn p (number 0 p.rpn.lsb))) k (number_stored q 100 l)) (at-k (with_rpn p (number 0 p.rpn.lsb)))
      ∙ ap (λ t. record { reader = reader_at (status_of 0xB k) 0x80; parameters = t; receiver = e.receiver }) (set-set e.parameters k _ _)

  third : after_bytes (at (with_rpn p (number 0 l))) (control k 6 v)
      ≡ with_receiver (at (with_rpn p (number 0 l))) (received_by_fields e.receiver (Some (entry_of l v)) 0xB k 6 v).receiver
  unfolding p
  third =
      control-read (at (with_rpn p (number 0 l))) k 6 v hk (omega arith) hv
      ∙ ap (λ q. with_receiver (with_parameter (at (with_rpn p (number 0 l))) k (parameter.update_by_fields q 0xB 6 v).state) (received_by_fields e.receiver (parameter.update_by_fields q 0xB 6 v).event 0xB k 6 v).receiver)
      (at-k (with_rpn p (number 0 l)))
      ∙ ap (λ h. with_receiver (with_parameter (at (with_rpn p (number 0 l))) k h.state) (received_by_fields e.receiver h.event 0xB k 6 v).receiver) (entered-as p l v on sel)
      ∙ ap (λ t. record { reader = reader_at (status_of 0xB k) 0x80; parameters = t; receiver = (received_by_fields e.receiver (Some (entry_of l v)) 0xB k 6 v).receiver }) (set-set e.parameters k _ _)

  -- all three
  pub entry_read : after_bytes e (control k 101 0 ++ control k 100 l ++ control k 6 v)
      ≡ with_receiver (at (with_rpn (parameter_at e k) (number 0 l))) (received_by_fields e.receiver (Some (entry_of l v)) 0xB k 6 v).receiver
  unfolding p
  entry_read =
      bytes-after-bytes e (control k 101 0) (control k 100 l ++ control k 6 v)
      ∙ ap (λ x. after_bytes x (control k 100 l ++ control k 6 v)) first
      ∙ bytes-after-bytes (at (with_rpn p (number 0 p.rpn.lsb))) (control k 100 l) (control k 6 v)
      ∙ ap (λ x. after_bytes x (control k 6 v)) second
      ∙ third
