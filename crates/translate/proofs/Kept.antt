-- A channel that is allowed stays so, whatever message comes.
-- Assumes nothing.
use Prim.Native.Nat.{ℕ}
use lib.Dec.{ltb, eqb}
use Rattle.ump.proofs.Cases.{by-test, of-both}
use Rattle.translate_state.specs.declared.ChannelState.{ChannelState}
use Rattle.translate_state.specs.State.{null_after_in, pending_sent, mcm_selected, entry_held}
use Rattle.translate_state.proofs.Allowed.{Allowed}
use Rattle.translate_state.proofs.Kept.{sent-kept, reset-kept, selected-kept, entered-kept, completed-kept, msb-kept, lsb-kept, bank-sent-kept}
use Rattle.std.specs.Prelude.{List, Option, Some, None}
use Rattle.translate.specs.declared.Stepped.{Stepped}
use Rattle.translate.specs.Translate.{pending_words, entered_after, lsb_entered, control_changed, message_translated}

abbrev Kept : Stepped → Type 0
Kept x = Allowed x.state

module _ (g c : ℕ) (s : ChannelState) (a : Allowed s) where
  after_kept : (out : Option (List ℕ)) → Kept (entered_after out g c s)
  unfolding entered_after
  after_kept (Some x) = a
  after_kept None = of-both Kept (mcm_selected s) (sent-kept s a) a

  lsb-entered-kept : (v : ℕ) → Kept (lsb_entered g c s v)
  unfolding lsb_entered
  lsb-entered-kept v =
      by-test (null_after_in s.flags)
      (λ n. rw n (sent-kept s a))
      (λ n. rw n (of-both Kept (eqb s.data_msb 0) a (completed-kept s a n)))

module _ (g c : ℕ) (s : ChannelState) (a : Allowed s) where
  control-kept : (n v : ℕ) → Kept (control_changed g c s n v)
  unfolding control_changed
  control-kept n v =
      of-both Kept (eqb n 0) (msb-kept s a v)
      (of-both Kept (eqb n 6)
      (after_kept g c (entry_held (pending_sent s) v) (entered-kept (pending_sent s) (sent-kept s a) v) (pending_words g c s))
      (of-both Kept (eqb n 32) (lsb-kept s a v)
      (of-both Kept (eqb n 38) (lsb-entered-kept g c s a v)
      (of-both Kept (eqb n 121) (reset-kept s a)
      (of-both Kept (ltb n 98) a
      (of-both Kept (ltb 101 n) a (selected-kept (pending_sent s) (sent-kept s a) n v)))))))

  -- what any message leaves of a channel
  pub step_kept : (o x y : ℕ) → Kept (message_translated g c s o x y)
  unfolding message_translated
  step_kept o x y =
      of-both Kept (eqb o 0x8) a
      (of-both Kept (eqb o 0x9) (of-both Kept (eqb y 0) a a)
      (of-both Kept (eqb o 0xA) a
      (of-both Kept (eqb o 0xB) (control-kept x y)
      (of-both Kept (eqb o 0xC) (bank-sent-kept s a)
      (of-both Kept (eqb o 0xD) a a)))))
