-- A message by the parts of its word, and lists of messages on one channel.
-- Assumes nothing.
use mathlib.Core.Path.{◌≡◌, refl, sym, ap, ◌∙◌}
use mathlib.Core.Bool.{true, false, true≢false}
use mathlib.Core.List.{List, [], ◌∷◌, ◌++◌, append-nil}
use Prim.Native.Nat.{ℕ, ◌<◌}
use native.Mathlib.Nat.{mod-eq_of_lt}
use native.Mathlib.Omega.{arith}
use Rattle.ump.specs.Outcome.{given}
use Rattle.ump.specs.Word.{word_form, word_of}
use Rattle.ump.proofs.Words.{PartsFit, group-of-word, opcode-of-word, channel-of-word, first-of-word, second-of-word, form-of-word}
use Rattle.translate_state.specs.declared.ChannelState.{ChannelState}
use Rattle.translate_state.specs.declared.Midi1ToMidi2Group.{Midi1ToMidi2Group}
use Rattle.translate_state.specs.State.{state_on, pending_sent}
use Rattle.std.specs.Prelude.{Option, None}
use Rattle.translate.specs.Translate.{words_given, pending_words, channel_step, control_changed, message_translated, with_state, word_step, translation_of, record_after, flush_reply, flushed_record}
use Rattle.translate.specs.Lists.{translate_words, words_answered, words_from, translator_after_all, control, Formed}
use Rattle.translate.specs.Rules.{record_after_all}
use Rattle.translate.proofs.Refused.{answer-accepted, record-accepted}
use Rattle.translate.proofs.Always.{on-set, after-formed}

-- parts that fit, of a word that has the form of a message
pub record Fits (g o c a b : ℕ) : Type 0 where
  pub parts : PartsFit g o c a b
  pub form : word_form (word_of g o c a b) ≡ true

module _ (g c a b : ℕ) (hg : g < 16) (hc : c < 16) (ha : a < 128) (hb : b < 128) where
  parts-fit : (o : ℕ) → o < 16 → PartsFit g o c a b
  parts-fit o h = record { group-lt = hg; opcode-lt = h; channel-lt = hc; first-lt = ha; second_lt = hb }

  no_one : {P : Type 0} → false ≡ true → P
  no_one z = absurd (true≢false (sym z))

  pub fits_8 : Fits g 0x8 c a b
  fits_8 = let p = parts-fit 0x8 (omega arith) in record { parts = p; form = form-of-word g 0x8 c a b p (omega arith) (omega arith) no_one }

  pub fits-9 : Fits g 0x9 c a b
  fits-9 = let p = parts-fit 0x9 (omega arith) in record { parts = p; form = form-of-word g 0x9 c a b p (omega arith) (omega arith) no_one }

  pub fits-A : Fits g 0xA c a b
  fits-A = let p = parts-fit 0xA (omega arith) in record { parts = p; form = form-of-word g 0xA c a b p (omega arith) (omega arith) no_one }

  pub fits-B : Fits g 0xB c a b
  fits-B = let p = parts-fit 0xB (omega arith) in record { parts = p; form = form-of-word g 0xB c a b p (omega arith) (omega arith) no_one }

  pub fits-E : Fits g 0xE c a b
  fits-E = let p = parts-fit 0xE (omega arith) in record { parts = p; form = form-of-word g 0xE c a b p (omega arith) (omega arith) no_one }

module _ (g c a : ℕ) (hg : g < 16) (hc : c < 16) (ha : a < 128) where
  pub fits-C : Fits g 0xC c a 0
  fits-C =
      let p = parts-fit g c a 0 hg hc ha (omega arith) 0xC (omega arith) in
      record { parts = p; form = form-of-word g 0xC c a 0 p (omega arith) (omega arith) (λ z. refl) }

  pub fits-D : Fits g 0xD c a 0
  fits-D =
      let p = parts-fit g c a 0 hg hc ha (omega arith) 0xD (omega arith) in
      record { parts = p; form = form-of-word g 0xD c a 0 p (omega arith) (omega arith) (λ z. refl) }

module _ (r : Midi1ToMidi2Group) (f : Formed r) (g o c a b : ℕ) (m : Fits g o c a b) where
  by_parts : word_step r (word_of g o c a b) ≡ message_translated g c (state_on r c) o a b
  by_parts =
      let p = m.parts in
      λ i.
      message_translated (group-of-word g o c a b p i) (channel-of-word g o c a b p i) (state_on r (channel-of-word g o c a b p i)) (opcode-of-word g o c a b p i) (first-of-word g o c a b p i) (second-of-word g o c a b p i)

  pub answer-of : translation_of r (word_of g o c a b) ≡ given (words_given (message_translated g c (state_on r c) o a b).reply)
  answer-of = answer-accepted r (word_of g o c a b) f.allowed m.form ∙ (λ i. given (words_given (by_parts i).reply))

  pub record_of : record_after r (word_of g o c a b) ≡ with_state r c (message_translated g c (state_on r c) o a b).state
  record_of =
      record-accepted r (word_of g o c a b) f.allowed m.form
      ∙ (λ i. with_state r (channel-of-word g o c a b m.parts i) (by_parts i).state)

  pub state-of : state_on (record_after r (word_of g o c a b)) c ≡ (message_translated g c (state_on r c) o a b).state
  state-of = ap (λ q. state_on q c) record_of ∙ on-set r f c _ m.parts.channel-lt

-- what `flush` answers, and the state that it leaves
module _ (r : Midi1ToMidi2Group) (f : Formed r) (h c : ℕ) (hh : h < 16) (hc : c < 16) where
  pub flush-answer : flush_reply r h c ≡ given (words_given (pending_words h c (state_on r c)))
  flush-answer = rw (f.allowed, mod-eq_of_lt hh, mod-eq_of_lt hc)

  pub flush-state : state_on (flushed_record r h c) c ≡ pending_sent (state_on r c)
  flush-state = rw (f.allowed, mod-eq_of_lt hc) (on-set r f c (pending_sent (state_on r c)) hc)

-- from a state of the channel, messages give these words and leave this state
pub record Gives (c : ℕ) (s : ChannelState) (ws out : List ℕ) (t : ChannelState) : Type 0 where
  pub gives : (r : Midi1ToMidi2Group) → Formed r → state_on r c ≡ s → words_from r ws ≡ out
  pub leaves : (r : Midi1ToMidi2Group) → Formed r → state_on r c ≡ s → state_on (record_after_all r ws) c ≡ t

pub ended : (c : ℕ) (s : ChannelState) → Gives c s [] [] s
unfolding words_from translator_after_all
ended c s = record { gives = λ r f e. refl; leaves = λ r f e. e }

module _ {s t u : ChannelState} {ws : List ℕ} (g c : ℕ) where
  -- a message, and then the rest
  pub message : {out : List ℕ} (o a b : ℕ) → Fits g o c a b → (x : Option (List ℕ)) (words : List ℕ) → message_translated g c s o a b ≡ channel_step t x → words_given x ≡ words
      → Gives c t ws out u → Gives c s (word_of g o c a b ∷ ws) (words ++ out) u
  unfolding words_from translator_after_all
  message o a b m x words e i k =
      let w = word_of g o c a b in
      let left : (r : Midi1ToMidi2Group) → Formed r → state_on r c ≡ s → state_on (record_after r w) c ≡ t =
      λ r f j. state-of r f g o c a b m ∙ ap (λ q. (message_translated g c q o a b).state) j ∙ ap (λ q. q.state) e in
      let answer : (r : Midi1ToMidi2Group) → Formed r → state_on r c ≡ s → translation_of r w ≡ given words =
      λ r f j. answer-of r f g o c a b m ∙ ap (λ q. given (words_given (message_translated g c q o a b).reply)) j ∙ ap (λ q. given (words_given q.reply)) e ∙ ap given i in
      record {
        gives =
            λ r f j. λ n.
            words_answered (answer r f j n) ++ k.gives (record_after r w) (after-formed r f (translate_words w)) (left r f j) n;
        leaves = λ r f j. k.leaves (record_after r w) (after-formed r f (translate_words w)) (left r f j);
      }

  module _ (hg : g < 16) (hc : c < 16) (n v : ℕ) (hn : n < 128) (hv : v < 128) where
    -- a control change that gives words, and one that gives none
    pub said : {out : List ℕ} (x : Option (List ℕ)) (words : List ℕ) → control_changed g c s n v ≡ channel_step t x → words_given x ≡ words → Gives c t ws out u
        → Gives c s (control g c n v ∷ ws) (words ++ out) u
    unfolding message_translated
    said x words e i k = message 0xB n v (fits-B g c n v hg hc hn hv) x words e i k

    pub silent : {out : List ℕ} → control_changed g c s n v ≡ channel_step t None → Gives c t ws out u → Gives c s (control g c n v ∷ ws) out u
    silent e k = said None [] e refl k

    -- one that gives words, with nothing after it
    pub said-last : (x : Option (List ℕ)) (words : List ℕ) → control_changed g c s n v ≡ channel_step t x → words_given x ≡ words → Gives c t ws [] u
        → Gives c s (control g c n v ∷ ws) words u
    said-last x words e i k =
        let all : Gives c s (control g c n v ∷ ws) (words ++ []) u = said x words e i k in
        rw append-nil at all
