-- Each value that a byte may have is given by the list of messages beside it.
-- Assumes nothing.
use mathlib.Core.Path.{◌≡◌, refl, sym, ap, ◌∙◌}
use mathlib.Core.Bool.{true, false, true≢false}
use mathlib.Core.List.{List, [], ◌∷◌, map}
use Prim.Native.Nat.{ℕ, ◌+◌, ◌-◌, ◌%◌, ◌^◌, ◌<◌, ◌≤◌}
use native.Mathlib.Omega.{arith}
use borrow.Author.Tests.{eqb-true, eqb-false, leb-true}
use lib.Dec.{eqb}
use lib.ListN.{get_or-replicate}
use Rattle.ump.specs.Choice.{when◌then◌else◌}
use Rattle.ump.specs.Word.{word_form}
use Rattle.ump.proofs.Cases.{by-test}
use Rattle.translate_state.specs.declared.ChannelState.{ChannelState}
use Rattle.translate_state.specs.declared.Midi1ToMidi2Group.{Midi1ToMidi2Group}
use Rattle.translate_state.specs.State.{empty_state, new_record, state_on, flags_allowed, pending_sent, number_selected, mcm_selected, entry_held, controllers_reset}
use Rattle.translate.specs.Translate.{pending_words, entered_after, control_changed, message_translated, record_after}
use Rattle.translate.specs.Lists.{translate_words, translator_after_all, byte_of, byte_allowed, control, controller_of, leading_to_flags, leading_to, all_messages, Formed}
use Rattle.translate_state.proofs.Flags.{flags-lt}
use Rattle.translate.proofs.Always.{new-formed, after-formed}
use Rattle.translate.proofs.Each.{Each, nothing, ◌and◌, at}
use Rattle.translate.proofs.Messages.{Fits, fits-B, state-of}

module _ (c : ℕ) (h : c < 16) where
  -- the state that a control change leaves
  abbrev left : ChannelState → ℕ → ℕ → ChannelState
  left s n v = (control_changed 0 c s n v).state

  fits : (n v : ℕ) → n < 128 → v < 128 → Fits 0 0xB c n v
  fits n v a b = fits-B 0 c n v (omega arith) h a b

  control-form : (n v : ℕ) → n < 128 → v < 128 → word_form (control 0 c n v) ≡ true
  control-form n v a b = (fits n v a b).form

  one : (r : Midi1ToMidi2Group) → Formed r → (n v : ℕ) → n < 128 → v < 128 → state_on (record_after r (control 0 c n v)) c ≡ left (state_on r c) n v
  unfolding message_translated
  one r f n v a b = state-of r f 0 0xB c n v (fits n v a b)

  two : (r : Midi1ToMidi2Group) → Formed r → (n v m u : ℕ) → n < 128 → v < 128 → m < 128 → u < 128
      → state_on (record_after (record_after r (control 0 c n v)) (control 0 c m u)) c ≡ left (left (state_on r c) n v) m u
  two r f n v m u a b d e =
      one (record_after r (control 0 c n v)) (after-formed r f (translate_words (control 0 c n v))) m u d e
      ∙ ap (λ s. left s m u) (one r f n v a b)

  -- Reset All Controllers after two others
  then-121 : (r : Midi1ToMidi2Group) → Formed r → (n v m u : ℕ) → n < 128 → v < 128 → m < 128 → u < 128
      → state_on (record_after (record_after (record_after r (control 0 c n v)) (control 0 c m u)) (control 0 c 121 0)) c ≡ left (left (left (state_on r c) n v) m u) 121 0
  then-121 r f n v m u a b d e =
      two (record_after r (control 0 c n v)) (after-formed r f (translate_words (control 0 c n v))) m u 121 0 d e (omega arith) (omega arith)
      ∙ ap (λ s. left (left s m u) 121 0) (one r f n v a b)

  empty : state_on new_record c ≡ empty_state
  empty = get_or-replicate 16 c empty_state empty_state h

  -- messages that give byte k the value x
  abbrev Leads : ℕ → ℕ → List ℕ → Type 0
  Leads k x ws =
      (all_messages ws ≡ true) × (byte_of (state_on (translator_after_all new_record (map translate_words ws)) c) k ≡ x)

  by-none : (k : ℕ) → byte_of empty_state k ≡ 0 → Leads k 0 []
  unfolding all_messages translator_after_all
  by-none k e = (refl, rw empty e)

  by_one : (k x n v : ℕ) → n < 128 → v < 128 → byte_of (left empty_state n v) k ≡ x → Leads k x (control 0 c n v ∷ [])
  unfolding all_messages translator_after_all
  by_one k x n v a b e = (rw (control-form n v a b), rw (one new_record new-formed n v a b, empty) e)

  by_two : (x n v m u : ℕ) → n < 128 → v < 128 → m < 128 → u < 128 → (left (left empty_state n v) m u).flags ≡ x → Leads 7 x (control 0 c n v ∷ control 0 c m u ∷ [])
  unfolding all_messages translator_after_all
  by_two x n v m u a b d e g =
      (rw (control-form n v a b, control-form m u d e), rw (two new_record new-formed n v m u a b d e, empty) g)

  by_three : (x n v m u : ℕ) → n < 128 → v < 128 → m < 128 → u < 128 → (left (left (left empty_state n v) m u) 121 0).flags ≡ x
      → Leads 7 x (control 0 c n v ∷ control 0 c m u ∷ control 0 c 121 0 ∷ [])
  unfolding all_messages translator_after_all
  by_three x n v m u a b d e g = (
    rw (control-form n v a b, control-form m u d e, control-form 121 0 (omega arith) (omega arith)),
    rw (then-121 new_record new-formed n v m u a b d e, empty) g,
  )

  none_allowed : {P : Type 0} → false ≡ true → P
  none_allowed e = absurd (true≢false (sym e))

  abbrev FlagsLead : ℕ → Type 0
  FlagsLead x = flags_allowed x ≡ true → Leads 7 x (leading_to_flags c x)

  flags-lead : Each FlagsLead 16
  unfolding leading_to_flags control_changed number_selected pending_sent pending_words entered_after mcm_selected entry_held controllers_reset
  flags-lead =
      nothing
      and (λ a. by-none 7 refl)
      and (λ a. by_one 7 1 101 0 (omega arith) (omega arith) refl)
      and (λ a. by_one 7 2 99 0 (omega arith) (omega arith) refl)
      and none_allowed
      and (λ a. by_one 7 4 6 0 (omega arith) (omega arith) refl)
      and (λ a. by_two 5 101 0 6 0 (omega arith) (omega arith) (omega arith) (omega arith) refl)
      and (λ a. by_two 6 99 0 6 0 (omega arith) (omega arith) (omega arith) (omega arith) refl)
      and none_allowed
      and none_allowed
      and none_allowed
      and none_allowed
      and none_allowed
      and (λ a. by_two 12 6 0 121 0 (omega arith) (omega arith) (omega arith) (omega arith) refl)
      and (λ a. by_three 13 101 0 6 0 (omega arith) (omega arith) (omega arith) (omega arith) refl)
      and (λ a. by_three 14 99 0 6 0 (omega arith) (omega arith) (omega arith) (omega arith) refl)
      and none_allowed

  -- a held byte: no message, or one of its controller
  held-lead : (k : ℕ) → controller_of k < 128 → byte_of empty_state k ≡ 0
      → ((v : ℕ) → byte_of (left empty_state (controller_of k) v) k ≡ v % 2 ^ 7 + 1)
      → (x : ℕ) → x ≤ 128 → Leads k x (when eqb x 0 then [] else control 0 c (controller_of k) (x - 1) ∷ [])
  held-lead k n e f x l =
      by-test (eqb x 0)
      (λ z. rw (z, eqb-true x 0 z) (by-none k e))
      (λ z.
      let p : x ≡ 0 → ⊥ = eqb-false x 0 z in
      let q : (x - 1) % 2 ^ 7 + 1 ≡ x = omega arith in
      rw z (by_one k x (controller_of k) (x - 1) n (omega arith) (f (x - 1) ∙ q)))

  abbrev ByteLead : ℕ → Type 0
  ByteLead k = (x : ℕ) → byte_allowed k x ≡ true → Leads k x (leading_to c k x)

  bytes-lead : Each ByteLead 8
  unfolding leading_to control_changed number_selected pending_sent pending_words entered_after mcm_selected entry_held
  bytes-lead =
      nothing
      and (λ x a. held-lead 0 (omega arith) refl (λ v. refl) x (leb-true x 128 a))
      and (λ x a. held-lead 1 (omega arith) refl (λ v. refl) x (leb-true x 128 a))
      and (λ x a. held-lead 2 (omega arith) refl (λ v. refl) x (leb-true x 128 a))
      and (λ x a. held-lead 3 (omega arith) refl (λ v. refl) x (leb-true x 128 a))
      and (λ x a. held-lead 4 (omega arith) refl (λ v. refl) x (leb-true x 128 a))
      and (λ x a. held-lead 5 (omega arith) refl (λ v. refl) x (leb-true x 128 a))
      and (λ x a. held-lead 6 (omega arith) refl (λ v. refl) x (leb-true x 128 a))
      and (λ x a. at flags-lead x (flags-lt x a) a)

  pub leads : (k x : ℕ) → k < 8 → byte_allowed k x ≡ true → Leads k x (leading_to c k x)
  leads k x l a = at bytes-lead k l x a
