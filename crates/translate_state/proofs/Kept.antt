-- A channel that is allowed stays so, whatever is held or sent.
-- Assumes nothing.
use mathlib.Core.Path.{◌≡◌}
use mathlib.Core.Bool.{true, false}
use Prim.Native.Nat.{ℕ, ◌/◌, ◌≤◌}
use native.Mathlib.Omega.{arith}
use lib.Dec.{eqb}
use Rattle.ump.proofs.Cases.{by-test, of-both}
use Rattle.translate_state.specs.declared.ChannelState.{ChannelState}
use Rattle.translate_state.specs.State.{held, pending_in, null_after_in, with_kind, with_pending, without_pending, with_null_after, without_null_after, with_held_rpn, with_held_nrpn, with_bank, with_entry, selection_nulled, flags_allowed, pending_sent, number_held, kind_of_number, number_selected, entry_held, completed, controllers_reset, bank_msb_held, bank_lsb_held, bank_sent}
use Rattle.translate_state.proofs.Allowed.{Allowed}
use Rattle.translate_state.proofs.Flags.{sent_flags, kind-alone, kind_1, kind_2, now-pending, no-longer-pending, sent-then-null, reset-pending, reset-at-once}

held-le : (v : ℕ) → held v ≤ 128
held-le v = omega arith

module _ (s : ChannelState) (a : Allowed s) where
  bank-kept : (m l : ℕ) → m ≤ 128 → l ≤ 128 → Allowed (with_bank s m l)
  bank-kept m l p q =
      record {
        rpn-msb = a.rpn-msb;
        rpn-lsb = a.rpn-lsb;
        nrpn-msb = a.nrpn-msb;
        nrpn-lsb = a.nrpn-lsb;
        data-msb = a.data-msb;
        bank_msb = p;
        bank_lsb = q;
        flags_of = a.flags_of;
      }

  entry_kept : (d f : ℕ) → d ≤ 128 → flags_allowed f ≡ true → Allowed (with_entry s d f)
  entry_kept d f p q =
      record {
        rpn-msb = a.rpn-msb;
        rpn-lsb = a.rpn-lsb;
        nrpn-msb = a.nrpn-msb;
        nrpn-lsb = a.nrpn-lsb;
        data-msb = p;
        bank_msb = a.bank_msb;
        bank_lsb = a.bank_lsb;
        flags_of = q;
      }

  nulled-kept : (f : ℕ) → flags_allowed (without_null_after f) ≡ true → Allowed (selection_nulled s f)
  nulled-kept f q =
      record {
        rpn-msb = omega arith;
        rpn-lsb = omega arith;
        nrpn-msb = omega arith;
        nrpn-lsb = omega arith;
        data-msb = a.data-msb;
        bank_msb = a.bank_msb;
        bank_lsb = a.bank_lsb;
        flags_of = q;
      }

  pub sent-kept : Allowed (pending_sent s)
  unfolding pending_sent
  sent-kept =
      of-both Allowed (pending_in s.flags)
      (by-test (null_after_in s.flags)
      (λ n. rw n (nulled-kept (without_pending s.flags) (sent-then-null s.flags a.flags_of)))
      (λ n. rw n (entry_kept s.data_msb (without_pending s.flags) a.data-msb (no-longer-pending s.flags a.flags_of n))))
      a

  -- and nothing is pending
  pub sent-kind : (pending_sent s).flags / 4 ≡ 0
  unfolding pending_sent
  sent-kind =
      let alone : sent_flags s.flags / 4 ≡ 0 = kind-alone s.flags a.flags_of in
      by-test (pending_in s.flags)
      (λ p. by-test (null_after_in s.flags) (λ n. rw (p, n) (rw (p, n) at alone)) (λ n. rw (p, n) (rw (p, n) at alone)))
      (λ p. rw p (rw p at alone))

  pub reset-kept : Allowed (controllers_reset s)
  unfolding controllers_reset
  reset-kept =
      by-test (pending_in s.flags)
      (λ p. rw p (entry_kept s.data_msb (with_null_after s.flags) a.data-msb (reset-pending s.flags a.flags_of p)))
      (λ p. rw p (nulled-kept s.flags (reset-at-once s.flags a.flags_of p)))

  rpn-kept : (m l : ℕ) → m ≤ 128 → l ≤ 128 → Allowed (with_held_rpn s m l)
  rpn-kept m l p q =
      record {
        rpn-msb = p;
        rpn-lsb = q;
        nrpn-msb = a.nrpn-msb;
        nrpn-lsb = a.nrpn-lsb;
        data-msb = a.data-msb;
        bank_msb = a.bank_msb;
        bank_lsb = a.bank_lsb;
        flags_of = a.flags_of;
      }

  nrpn-kept : (m l : ℕ) → m ≤ 128 → l ≤ 128 → Allowed (with_held_nrpn s m l)
  nrpn-kept m l p q =
      record {
        rpn-msb = a.rpn-msb;
        rpn-lsb = a.rpn-lsb;
        nrpn-msb = p;
        nrpn-lsb = q;
        data-msb = a.data-msb;
        bank_msb = a.bank_msb;
        bank_lsb = a.bank_lsb;
        flags_of = a.flags_of;
      }

  number-kept : (n v : ℕ) → Allowed (number_held s n v)
  number-kept n v =
      of-both Allowed (eqb n 101) (rpn-kept (held v) s.rpn_lsb (held-le v) a.rpn-lsb)
      (of-both Allowed (eqb n 100) (rpn-kept s.rpn_msb (held v) a.rpn-msb (held-le v))
      (of-both Allowed (eqb n 99) (nrpn-kept (held v) s.nrpn_lsb (held-le v) a.nrpn-lsb)
      (nrpn-kept s.nrpn_msb (held v) a.nrpn-msb (held-le v))))

module _ (s : ChannelState) (a : Allowed s) where
  pub selected-kept : (n v : ℕ) → Allowed (number_selected s n v)
  unfolding number_selected
  selected-kept n v =
      entry_kept (number_held s n v) (number-kept s a n v) 0 (with_kind s.flags (kind_of_number n)) (omega arith)
      (of-both (λ k. flags_allowed (with_kind s.flags k) ≡ true) (eqb n 101) (kind_1 s.flags a.flags_of)
      (of-both (λ k. flags_allowed (with_kind s.flags k) ≡ true) (eqb n 100) (kind_1 s.flags a.flags_of) (kind_2 s.flags a.flags_of)))

  pub entered-kept : (v : ℕ) → Allowed (entry_held s v)
  unfolding entry_held
  entered-kept v = entry_kept s a (held v) (with_pending s.flags) (held-le v) (now-pending s.flags a.flags_of)

  pub completed-kept : null_after_in s.flags ≡ false → Allowed (completed s)
  unfolding completed
  completed-kept n =
      entry_kept s a s.data_msb (without_pending s.flags) a.data-msb (no-longer-pending s.flags a.flags_of n)

  pub msb-kept : (v : ℕ) → Allowed (bank_msb_held s v)
  msb-kept v = bank-kept s a (held v) (held 0) (held-le v) (held-le 0)

  pub lsb-kept : (v : ℕ) → Allowed (bank_lsb_held s v)
  lsb-kept v = bank-kept s a s.bank_msb (held v) a.bank_msb (held-le v)

  pub bank-sent-kept : Allowed (bank_sent s)
  bank-sent-kept = bank-kept s a 0 0 (omega arith) (omega arith)
