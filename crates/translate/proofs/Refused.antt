-- A record with a value that is not accepted is refused, whichever channel it belongs to.
-- Assumes nothing.
use mathlib.Core.Path.{◌≡◌, sym, ◌∙◌}
use mathlib.Core.Bool.{true, false, true≢false}
use Prim.Native.Nat.{ℕ, ◌<◌}
use borrow.Author.Tests.{le-leb}
use Rattle.ump.proofs.Cases.{by-test}
use Rattle.translate_state.specs.declared.ChannelState.{ChannelState}
use Rattle.translate_state.specs.declared.Midi1ToMidi2Group.{Midi1ToMidi2Group}
use Rattle.translate_state.specs.State.{state_on, state_allowed, record_allowed}
use Rattle.translate_state.proofs.Allowed.{Allowed, parts-allowed, one-refused}
use Rattle.ump.specs.Outcome.{given}
use Rattle.ump.specs.Word.{channel_of, word_form}
use Rattle.translate.specs.Translate.{words_given, with_state, word_step, translation_of, record_after}
use Rattle.translate.specs.Lists.{byte_of, byte_allowed, OthersRefused}
use Rattle.translate.proofs.Each.{Each, nothing, ◌and◌, at}

-- each byte of a channel that is allowed
pub bytes-allowed : (s : ChannelState) → Allowed s → Each (λ k. byte_allowed k (byte_of s k) ≡ true) 8
bytes-allowed s a =
    nothing
    and le-leb _ _ a.rpn-msb
    and le-leb _ _ a.rpn-lsb
    and le-leb _ _ a.nrpn-msb
    and le-leb _ _ a.nrpn-lsb
    and le-leb _ _ a.data-msb
    and le-leb _ _ a.bank_msb
    and le-leb _ _ a.bank_lsb
    and a.flags_of

-- a byte that is not accepted
state-refused : (s : ChannelState) (k : ℕ) → k < 8 → byte_allowed k (byte_of s k) ≡ false → state_allowed s ≡ false
state-refused s k l n =
    by-test (state_allowed s)
    (λ e. absurd (true≢false (sym (at (bytes-allowed s (parts-allowed s e)) k l) ∙ n)))
    (λ e. e)

pub others-refused : (r : Midi1ToMidi2Group) → OthersRefused r
others-refused r =
    record {
      message_refused =
          λ c k w h l n.
          let e : record_allowed r ≡ false = one-refused r.state 16 c h (state-refused (state_on r c) k l n) in
          (rw e, rw e);
      flush_refused =
          λ c k g d h l n.
          let e : record_allowed r ≡ false = one-refused r.state 16 c h (state-refused (state_on r c) k l n) in
          (rw e, rw e);
    }

-- a record that is accepted is not: a message is answered, and leaves what its channel's state becomes
pub answer-accepted : (r : Midi1ToMidi2Group) (w : ℕ) → record_allowed r ≡ true → word_form w ≡ true
    → translation_of r w ≡ given (words_given (word_step r w).reply)
answer-accepted r w a m = rw (a, m)

pub record-accepted : (r : Midi1ToMidi2Group) (w : ℕ) → record_allowed r ≡ true → word_form w ≡ true
    → record_after r w ≡ with_state r (channel_of w) (word_step r w).state
record-accepted r w a m = rw (a, m)
