-- Messages that pass on, the bank of a program change, and what a message does not alter.
-- Assumes nothing.
use mathlib.Core.Path.{◌≡◌, refl, sym, ap, ◌∙◌}
use mathlib.Core.Bool.{Bool, true, false, ◌&&◌, ◌||◌, true≢false}
use Prim.Native.Nat.{ℕ, ◌+◌, ◌-◌, ◌*◌, ◌^◌, ◌<◌}
use native.Mathlib.Nat.{add-zero, zero-add, mod-eq_of_lt}
use native.Mathlib.Omega.{arith}
use borrow.Author.Tests.{ltb-false, le-leb, ne_eqb}
use lib.Dec.{ltb, leb, eqb}
use lib.Seq.{set-get_or}
use Rattle.ump.specs.Choice.{when◌then◌else◌}
use Rattle.ump.specs.Packet.{packet_value}
use Rattle.ump.specs.Word.{channel_of, form_of, word_form, word_of}
use Rattle.ump.proofs.Cases.{by-test, of-both}
use Rattle.ump.proofs.Words.{PartsFit, type-of-word, bit-15-of-word, bit-7-of-word, opcode-of-word, second-of-word}
use Rattle.translate_state.specs.declared.ChannelState.{ChannelState}
use Rattle.translate_state.specs.declared.Midi1ToMidi2Group.{Midi1ToMidi2Group}
use Rattle.translate_state.specs.State.{held, kind_in, pending_in, null_after_in, empty_state, state_on, record_allowed, pending_sent, mcm_selected, entry_held, controllers_reset, bank_sent, with_bank}
use Rattle.std.specs.Prelude.{List, Option, Some, None}
use Rattle.ump.specs.Outcome.{given}
use Rattle.translate.specs.declared.Stepped.{Stepped}
use Rattle.translate.specs.Translate.{word_pair, words_given, first_word, controller_numbered, controller, pending_words, channel_step, entered_after, lsb_entered, passed_on, control_changed, program_words, message_translated, with_state, record_after, flushed_record}
use Rattle.translate.specs.Lists.{translate_words, Formed}
use Rattle.translate.specs.Rules.{program_change, PassesAs, held_controller, control_words, PassingRules, BankRules}
use Rattle.translate.proofs.Always.{on-other, after-formed}
use Rattle.translate.proofs.Messages.{Fits, fits_8, fits-9, fits-A, fits-B, fits-C, fits-D, fits-E, answer-of, record_of, state-of, ended, message, said, silent}

neither : (x y : Bool) → x || y ≡ false → (x ≡ false) × (y ≡ false)
neither true y h = absurd (true≢false h)
neither false y h = (refl, h)

-- a controller that is not held
passed : (g c : ℕ) (s : ChannelState) (n v : ℕ) → held_controller n ≡ false
    → control_changed g c s n v ≡ channel_step (when eqb n 121 then controllers_reset s else s) (passed_on g c 0xB n v)
unfolding control_changed
passed g c s n v not-held =
    let n0 = neither (eqb n 0) _ not-held in
    let n32 = neither (eqb n 32) _ n0.1 in
    let n6 = neither (eqb n 6) _ n32.1 in
    let n38 = neither (eqb n 38) _ n6.1 in
    rw (n0.0, n32.0, n6.0, n38.0)
    (by-test (eqb n 121)
    (λ e. rw e)
    (λ e.
    by-test (ltb n 98)
    (λ a. rw (e, a))
    (λ a.
    by-test (ltb 101 n)
    (λ b. rw (e, a, b))
    (λ b.
    let within : (leb 98 n && leb n 101) ≡ true = rw (le-leb 98 n (ltb-false n 98 a), le-leb n 101 (ltb-false 101 n b)) in
    absurd (true≢false (sym within ∙ n38.1))))))

module _ (r : Midi1ToMidi2Group) (f : Formed r) where
  -- a message that leaves its channel leaves the record
  same : (c : ℕ) → with_state r c (state_on r c) ≡ r
  same c = ap (λ l. record { state = l }) (set-get_or r.state c empty_state)

  module _ (g c : ℕ) (hg : g < 16) (hc : c < 16) where
    passes : (o a b : ℕ) → Fits g o c a b → (x y : ℕ) → message_translated g c (state_on r c) o a b ≡ channel_step (state_on r c) (word_pair x y) → PassesAs r (word_of g o c a b) x y
    passes o a b m x y e = (
      answer-of r f g o c a b m ∙ ap (λ q. given (words_given q.reply)) e,
      record_of r f g o c a b m ∙ ap (λ q. with_state r c q.state) e ∙ same c,
    )

    pub passing-rules : PassingRules r g c
    unfolding message_translated
    passing-rules =
        record {
          note_on_0 = λ n hn. passes 0x9 n 0 (fits-9 g c n 0 hg hc hn (omega arith)) _ _ refl;
          note_on = λ n v hn l hv. passes 0x9 n v (fits-9 g c n v hg hc hn hv) _ _ (rw (ne_eqb v 0 (λ e. omega arith)));
          note_off = λ n v hn hv. passes 0x8 n v (fits_8 g c n v hg hc hn hv) _ _ refl;
          poly_pressure = λ n v hn hv. passes 0xA n v (fits-A g c n v hg hc hn hv) _ _ refl;
          channel_pressure = λ v hv. passes 0xD v 0 (fits-D g c v hg hc hv) _ _ refl;
          pitch_bend_message = λ l m hl hm. passes 0xE l m (fits-E g c l m hg hc hl hm) _ _ refl;
          controllers =
              λ n v hn hv not-held.
              answer-of r f g 0xB c n v (fits-B g c n v hg hc hn hv) ∙ ap (λ q. given (words_given q.reply)) (passed g c (state_on r c) n v not-held);
          controllers_hold_nothing =
              λ n v hn hv not-held other.
              record_of r f g 0xB c n v (fits-B g c n v hg hc hn hv)
              ∙ ap (λ q. with_state r c q.state) (passed g c (state_on r c) n v not-held)
              ∙ rw (ne_eqb n 121 other) (same c);
        }

-- a held value is there, and is read back
pub some : (x : ℕ) → eqb (x + 1) 0 ≡ false
some x = ne_eqb (x + 1) 0 (λ e. omega arith)

pub back : (x : ℕ) → x + 1 - 1 ≡ x
back x = omega arith

-- the bank
module _ (g c : ℕ) (s : ChannelState) where
  -- a program change with a bank, a held byte being the value and 1 added
  pub with-bank : (p m l : ℕ) → message_translated g c (with_bank s (m + 1) (l + 1)) 0xC p 0 ≡ channel_step (bank_sent s) (word_pair (first_word g 0xC c 0 1) (p * 2 ^ 24 + (m * 2 ^ 8 + l)))
  unfolding message_translated program_words
  with-bank p m l = rw (some m, back m, back l)

  -- with an MSB alone, which sets the LSB to 0
  with-msb : (p m : ℕ) → message_translated g c (with_bank s (m + 1) 1) 0xC p 0 ≡ channel_step (bank_sent s) (word_pair (first_word g 0xC c 0 1) (p * 2 ^ 24 + m * 2 ^ 8))
  with-msb p m = with-bank p m 0 ∙ rw (add-zero (m * 2 ^ 8))

  -- with an LSB alone
  with-lsb : (p l : ℕ) → message_translated g c (with_bank s 0 (l + 1)) 0xC p 0 ≡ channel_step (bank_sent s) (word_pair (first_word g 0xC c 0 1) (p * 2 ^ 24 + l))
  unfolding message_translated program_words
  with-lsb p l = rw (some l, back l, zero-add l)

  pub held-0 : (m : ℕ) → m < 128 → control_changed g c s 0 m ≡ channel_step (with_bank s (m + 1) 1) None
  unfolding control_changed
  held-0 m h = rw (mod-eq_of_lt h)

  pub held-32 : (l : ℕ) → l < 128 → control_changed g c s 32 l ≡ channel_step (with_bank s s.bank_msb (l + 1)) None
  unfolding control_changed
  held-32 l h = rw (mod-eq_of_lt h)

  -- 121 with a bank held
  reset-with-bank : (m l v : ℕ) → control_changed g c (with_bank s m l) 121 v ≡ channel_step (with_bank (controllers_reset s) m l) (passed_on g c 0xB 121 v)
  unfolding control_changed controllers_reset
  reset-with-bank m l v = by-test (pending_in s.flags) (λ e. rw e) (λ e. rw e)

module _ (r : Midi1ToMidi2Group) (f : Formed r) (g c : ℕ) (hg : g < 16) (hc : c < 16) where
  -- after a program change no bank is held
  after-program : (q : ℕ) → q < 128 → state_on (record_after r (program_change g c q)) c ≡ bank_sent (state_on r c)
  unfolding message_translated
  after-program q h = state-of r f g 0xC c q 0 (fits-C g c q hg hc h)

  pub bank-rules : BankRules r g c
  unfolding message_translated program_words
  bank-rules =
      record {
        bank =
            λ m l p hm hl hp.
            (silent g c hg hc 0 m (omega arith) hm (held-0 g c (state_on r c) m hm)
            (silent g c hg hc 32 l (omega arith) hl (held-32 g c _ l hl)
            (message g c 0xC p 0 (fits-C g c p hg hc hp) _ _ (with-bank g c (state_on r c) p m l) refl (ended c _)))
            ).gives r f refl;
        bank_msb =
            λ m p hm hp.
            (silent g c hg hc 0 m (omega arith) hm (held-0 g c (state_on r c) m hm)
            (message g c 0xC p 0 (fits-C g c p hg hc hp) _ _ (with-msb g c (state_on r c) p m) refl (ended c _))
            ).gives r f refl;
        bank_kept_by_121 =
            λ m l v p hm hl hv hp.
            (silent g c hg hc 0 m (omega arith) hm (held-0 g c (state_on r c) m hm)
            (silent g c hg hc 32 l (omega arith) hl (held-32 g c _ l hl)
            (said g c hg hc 121 v (omega arith) hv _ (control_words g c 121 v) (reset-with-bank g c (state_on r c) (m + 1) (l + 1) v) refl
            (message g c 0xC p 0 (fits-C g c p hg hc hp) _ _ (with-bank g c (controllers_reset (state_on r c)) p m l) refl (ended c _))))
            ).gives r f refl;
        bank_lsb =
            λ q l p hq hl hp.
            (silent g c hg hc 32 l (omega arith) hl (held-32 g c (bank_sent (state_on r c)) l hl)
            (message g c 0xC p 0 (fits-C g c p hg hc hp) _ _ (with-lsb g c (state_on r c) p l) refl (ended c _))
            ).gives (record_after r (program_change g c q)) (after-formed r f (translate_words (program_change g c q))) (after-program q hq);
        no_bank =
            λ q p hq hp.
            answer-of (record_after r (program_change g c q)) (after-formed r f (translate_words (program_change g c q))) g 0xC c p 0 (fits-C g c p hg hc hp)
            ∙ rw (after-program q hq);
      }

-- what other channels hold
module _ (r : Midi1ToMidi2Group) (f : Formed r) where
  pub others_kept : (w d : ℕ) → (d ≡ channel_of w → ⊥) → state_on (record_after r w) d ≡ state_on r d
  others_kept w d n =
      of-both (λ q. state_on q d ≡ state_on r d) (record_allowed r)
      (of-both (λ q. state_on q d ≡ state_on r d) (word_form w) (on-other r f (channel_of w) d _ n) refl)
      refl

  pub others-kept-flushed : (h c d : ℕ) → (d ≡ packet_value c → ⊥) → state_on (flushed_record r h c) d ≡ state_on r d
  others-kept-flushed h c d n = of-both (λ q. state_on q d ≡ state_on r d) (record_allowed r) (on-other r f (packet_value c) d _ n) refl

-- two groups
alike : {A : Type 0} (R : A → A → Type 0) (b : Bool) {x y z w : A} → R x z → R y w → R (when b then x else y) (when b then z else w)
alike R true p q = p
alike R false p q = q

abbrev is_nothing : Option (List ℕ) → Bool
is_nothing (Some a) = false
is_nothing None = true

abbrev SameAnswer : Option (List ℕ) → Option (List ℕ) → Type 0
SameAnswer x y = is_nothing x ≡ is_nothing y

abbrev SameState : Stepped → Stepped → Type 0
SameState x y = x.state ≡ y.state

module _ (g h c : ℕ) where
  same-numbered : (o m l v : ℕ) → SameAnswer (controller_numbered g c o m l v) (controller_numbered h c o m l v)
  unfolding controller_numbered
  same-numbered o m l v =
      alike SameAnswer (eqb m 0) refl
      (alike SameAnswer (eqb l 0) refl
      (alike SameAnswer (eqb m (held 0x7F)) (alike SameAnswer (eqb l (held 0x7F)) refl refl) refl))

  same-pending : (s : ChannelState) → SameAnswer (pending_words g c s) (pending_words h c s)
  unfolding pending_words controller
  same-pending s =
      alike SameAnswer (pending_in s.flags)
      (alike SameAnswer (eqb s.data_msb 0) refl
      (alike SameAnswer (eqb (kind_in s.flags) 1) (same-numbered 0x2 _ _ _)
      (alike SameAnswer (eqb (kind_in s.flags) 2) (same-numbered 0x3 _ _ _) refl)))
      refl

  same-entered : (x y : Option (List ℕ)) (s : ChannelState) → SameAnswer x y → SameState (entered_after x g c s) (entered_after y h c s)
  unfolding entered_after
  same-entered (Some a) (Some d) s i = refl
  same-entered (Some a) None s i = absurd (true≢false (sym i))
  same-entered None (Some d) s i = absurd (true≢false i)
  same-entered None None s i = alike SameState (mcm_selected s) refl refl

  same-lsb : (s : ChannelState) (v : ℕ) → SameState (lsb_entered g c s v) (lsb_entered h c s v)
  unfolding lsb_entered
  same-lsb s v = alike SameState (null_after_in s.flags) refl (alike SameState (eqb s.data_msb 0) refl refl)

  same-control : (s : ChannelState) (n v : ℕ) → SameState (control_changed g c s n v) (control_changed h c s n v)
  unfolding control_changed
  same-control s n v =
      alike SameState (eqb n 0) refl
      (alike SameState (eqb n 6) (same-entered (pending_words g c s) (pending_words h c s) (entry_held (pending_sent s) v) (same-pending s))
      (alike SameState (eqb n 32) refl
      (alike SameState (eqb n 38) (same-lsb s v)
      (alike SameState (eqb n 121) refl
      (alike SameState (ltb n 98) refl
      (alike SameState (ltb 101 n) refl refl))))))

  same_step : (s : ChannelState) (o a b : ℕ) → SameState (message_translated g c s o a b) (message_translated h c s o a b)
  unfolding message_translated
  same_step s o a b =
      alike SameState (eqb o 0x8) refl
      (alike SameState (eqb o 0x9) (alike SameState (eqb b 0) refl refl)
      (alike SameState (eqb o 0xA) refl
      (alike SameState (eqb o 0xB) (same-control s a b)
      (alike SameState (eqb o 0xC) refl
      (alike SameState (eqb o 0xD) refl refl)))))

form-by-parts : (g o c a b : ℕ) → PartsFit g o c a b → word_form (word_of g o c a b) ≡ form_of 2 0 0 o b
unfolding word_form
form-by-parts g o c a b p =
    rw (type-of-word g o c a b p, bit-15-of-word g o c a b p, bit-7-of-word g o c a b p, opcode-of-word g o c a b p, second-of-word g o c a b p)

pub same-record : (r : Midi1ToMidi2Group) → Formed r → (g h o c a b : ℕ) → g < 16 → h < 16 → o < 16 → c < 16 → a < 128 → b < 128
    → record_after r (word_of g o c a b) ≡ record_after r (word_of h o c a b)
same-record r f g h o c a b hg hh ho hc ha hb =
    let p : PartsFit g o c a b = record { group-lt = hg; opcode-lt = ho; channel-lt = hc; first-lt = ha; second_lt = hb } in
    let q : PartsFit h o c a b = record { group-lt = hh; opcode-lt = ho; channel-lt = hc; first-lt = ha; second_lt = hb } in
    let i = form-by-parts g o c a b p in
    let j = form-by-parts h o c a b q in
    by-test (form_of 2 0 0 o b)
    (λ e.
    record_of r f g o c a b (record { parts = p; form = i ∙ e })
    ∙ ap (λ t. with_state r c t) (same_step g h c (state_on r c) o a b)
    ∙ sym (record_of r f h o c a b (record { parts = q; form = j ∙ e })))
    (λ e. rw (f.allowed, i ∙ e, j ∙ e))
