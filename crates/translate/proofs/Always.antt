-- What every list of calls on a new record leaves: sixteen channels, each of them allowed.
-- Assumes nothing.
use mathlib.Core.Path.{◌≡◌, refl, ◌∙◌}
use mathlib.Core.List.{List, [], ◌∷◌}
use Prim.Native.Nat.{ℕ, ◌%◌, ◌<◌}
use native.Mathlib.Nat.{mod-lt}
use borrow.Author.Tests.{eqb-true, eqb-false}
use lib.Dec.{eqb, lit<}
use lib.ListN.{set, length-set}
use lib.Seq.{get_or-set_same, get_or-set_other}
use Rattle.ump.specs.Word.{channel_of, word_form}
use Rattle.ump.proofs.Cases.{by-test, of-both}
use Rattle.ump.proofs.Cut.{field_lt}
use Rattle.translate_state.specs.declared.ChannelState.{ChannelState}
use Rattle.translate_state.specs.declared.Midi1ToMidi2Group.{Midi1ToMidi2Group}
use Rattle.translate_state.specs.State.{empty_state, new_record, state_on, state_allowed, allowed_to, record_allowed}
use Rattle.translate.specs.Translate.{with_state}
use Rattle.translate.specs.Lists.{TranslatorCall, translate_words, flush, translator_after, translator_after_all, Formed}
use Rattle.translate_state.proofs.Allowed.{Allowed, parts-allowed, of_parts, each-allowed, all-allowed}
use Rattle.translate_state.proofs.Kept.{sent-kept}
use Rattle.translate.proofs.Kept.{step_kept}

pub new-formed : Formed new_record
unfolding allowed_to state_allowed
new-formed = record { size = refl; allowed = refl }

module _ (r : Midi1ToMidi2Group) (f : Formed r) where
  -- a channel of it
  pub on-allowed : (c : ℕ) → c < 16 → Allowed (state_on r c)
  on-allowed c h = parts-allowed (state_on r c) (each-allowed r.state 16 f.allowed c h)

  -- another state of a channel is read there, and nowhere else
  pub on-set : (c : ℕ) (s : ChannelState) → c < 16 → state_on (with_state r c s) c ≡ s
  on-set c s h = get_or-set_same r.state c s empty_state (rw f.size h)

  pub on-other : (c d : ℕ) (s : ChannelState) → (d ≡ c → ⊥) → state_on (with_state r c s) d ≡ state_on r d
  on-other c d s n = get_or-set_other r.state c d s empty_state n

  pub set-formed : (c : ℕ) (s : ChannelState) → c < 16 → Allowed s → Formed (with_state r c s)
  set-formed c s h a =
      record {
        size = length-set r.state c s ∙ f.size;
        allowed =
            all-allowed (set r.state c s) 16
            (λ (k : ℕ) (b : k < 16).
            by-test (eqb k c)
            (λ e. rw (eqb-true k c e, on-set c s h) (of_parts s a))
            (λ e. rw (on-other c k s (eqb-false k c e)) (each-allowed r.state 16 f.allowed k b)));
      }

  pub after-formed : (call : TranslatorCall) → Formed (translator_after r call)
  after-formed (translate_words w) =
      of-both Formed (record_allowed r)
      (of-both Formed (word_form w)
      (set-formed (channel_of w) _ (field_lt 16 4 w)
      (step_kept _ _ (state_on r (channel_of w)) (on-allowed (channel_of w) (field_lt 16 4 w)) _ _ _))
      f)
      f
  after-formed (flush g c) =
      of-both Formed (record_allowed r)
      (set-formed (c % 16) _ (mod-lt c (lit< tt)) (sent-kept (state_on r (c % 16)) (on-allowed (c % 16) (mod-lt c (lit< tt)))))
      f

pub always-formed : (r : Midi1ToMidi2Group) → Formed r → (calls : List TranslatorCall) → Formed (translator_after_all r calls)
unfolding translator_after_all
always-formed r f [] = f
always-formed r f (call ∷ calls) = always-formed (translator_after r call) (after-formed r f call) calls
