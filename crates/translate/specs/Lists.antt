-- Lists of calls on one record, and the words of a list of messages (document 02, 2026-02).
use Rattle.std.specs.Prelude.{◌≡◌, Bool, true, false, ◌&&◌, List, [], ◌∷◌, ◌++◌, map, ℕ, ◌-◌, ◌<◌, eqb, length}
use Rattle.ump.specs.Choice.{when◌then◌else◌}
use Rattle.ump.specs.Outcome.{Outcome, given, declined, out_of_range}
use Rattle.ump.specs.Word.{word_form, word_of}
use Rattle.translate_state.specs.declared.ChannelState.{ChannelState}
use Rattle.translate_state.specs.declared.Midi1ToMidi2Group.{Midi1ToMidi2Group}
use Rattle.translate_state.specs.State.{empty_state, with_entry, new_record, state_on, held_allowed, flags_allowed, record_allowed}
use Rattle.translate.specs.Translate.{with_state, translation_of, record_after, flush_reply, flushed_record}

-- the calls on a record: a message's word, a flush of a group and a channel. (A reset gives a new record, and a list of calls begins again.)
pub data TranslatorCall : Type 0 where
  translate_words : ℕ → TranslatorCall
  flush : ℕ → ℕ → TranslatorCall

-- what a call answers
abbrev pub answer_to : Midi1ToMidi2Group → TranslatorCall → Outcome (List ℕ)
answer_to r (translate_words w) = translation_of r w
answer_to r (flush g c) = flush_reply r g c

-- the record after a call
abbrev pub translator_after : Midi1ToMidi2Group → TranslatorCall → Midi1ToMidi2Group
translator_after r (translate_words w) = record_after r w
translator_after r (flush g c) = flushed_record r g c

-- a call gives this answer and leaves this record: what the contract of each call says
abbrev pub TranslatorGives : Midi1ToMidi2Group → TranslatorCall → Outcome (List ℕ) → Midi1ToMidi2Group → Type 0
TranslatorGives r call answer left = (answer ≡ answer_to r call) × (left ≡ translator_after r call)

-- the record after a list of calls
unfoldable pub translator_after_all : Midi1ToMidi2Group → List TranslatorCall → Midi1ToMidi2Group
translator_after_all r [] = r
translator_after_all r (call ∷ calls) = translator_after_all (translator_after r call) calls

-- the words that an answer gives
abbrev pub words_answered : Outcome (List ℕ) → List ℕ
words_answered (given words) = words
words_answered (declined n v) = []

-- the words of a list of messages, from a record
unfoldable pub words_from : Midi1ToMidi2Group → List ℕ → List ℕ
words_from r [] = []
words_from r (w ∷ ws) = words_answered (translation_of r w) ++ words_from (record_after r w) ws

-- the words of a list of messages, from a new record
abbrev pub words_of : List ℕ → List ℕ
words_of ws = words_from new_record ws

-- the words of a list: none of an empty one; else those of its first message, none where it is declined, and then those of the rest, from the record
-- that is left. What the contract of `translate_words` says.
pub record ListContinues (r : Midi1ToMidi2Group) (w : ℕ) (answer : Outcome (List ℕ)) (left : Midi1ToMidi2Group) : Type 0 where
  pub first_then_rest : (ws : List ℕ) → words_from r (w ∷ ws) ≡ words_answered answer ++ words_from left ws
  pub none_declined : words_answered out_of_range ≡ []
  pub none_of_none : words_from r [] ≡ []

-- a byte of a channel, by its place among the eight
abbrev pub byte_of : ChannelState → ℕ → ℕ
byte_of s k =
    when eqb k 0 then s.rpn_msb else when eqb k 1 then s.rpn_lsb else when eqb k 2 then s.nrpn_msb else
    when eqb k 3 then s.nrpn_lsb else when eqb k 4 then s.data_msb else when eqb k 5 then s.bank_msb else
    when eqb k 6 then s.bank_lsb else s.flags

-- a value that is accepted for it
abbrev pub byte_allowed : ℕ → ℕ → Bool
byte_allowed k x = when eqb k 7 then flags_allowed x else held_allowed x

-- a Control Change
abbrev pub control : ℕ → ℕ → ℕ → ℕ → ℕ
control g c n v = word_of g 0xB c n v

-- the controller that gives a held byte its value
abbrev pub controller_of : ℕ → ℕ
controller_of k =
    when eqb k 0 then 101 else when eqb k 1 then 100 else when eqb k 2 then 99 else when eqb k 3 then 98 else
    when eqb k 4 then 6 else when eqb k 5 then 0 else 32

-- messages on channel c that give its flags a value, for each of the nine
unfoldable pub leading_to_flags : ℕ → ℕ → List ℕ
leading_to_flags c f =
    when eqb f 1 then control 0 c 101 0 ∷ [] else
    when eqb f 2 then control 0 c 99 0 ∷ [] else
    when eqb f 4 then control 0 c 6 0 ∷ [] else
    when eqb f 5 then control 0 c 101 0 ∷ control 0 c 6 0 ∷ [] else
    when eqb f 6 then control 0 c 99 0 ∷ control 0 c 6 0 ∷ [] else
    when eqb f 12 then control 0 c 6 0 ∷ control 0 c 121 0 ∷ [] else
    when eqb f 13 then control 0 c 101 0 ∷ control 0 c 6 0 ∷ control 0 c 121 0 ∷ [] else
    when eqb f 14 then control 0 c 99 0 ∷ control 0 c 6 0 ∷ control 0 c 121 0 ∷ [] else
    []

-- messages on channel c that give its byte k the value x
unfoldable pub leading_to : ℕ → ℕ → ℕ → List ℕ
leading_to c k x =
    when eqb k 7 then leading_to_flags c x else when eqb x 0 then [] else control 0 c (controller_of k) (x - 1) ∷ []

-- each word of a list has the word form
unfoldable pub all_messages : List ℕ → Bool
all_messages [] = true
all_messages (w ∷ ws) = word_form w && all_messages ws

-- words were given, or none, and nothing was declined
pub data Given : Outcome (List ℕ) → Type 0 where
  with_words : (words : List ℕ) → Given (given words)

-- a record of sixteen channels that is accepted
pub record Formed (r : Midi1ToMidi2Group) : Type 0 where
  pub size : length r.state ≡ 16
  pub allowed : record_allowed r ≡ true

-- of a new record: the values that a byte may have are exactly those that are accepted
pub record ExactlyAccepted (new : Midi1ToMidi2Group) : Type 0 where
  -- whatever calls it has had, each byte of each channel has a value that is accepted
  pub kept : (calls : List TranslatorCall) (c k : ℕ) → c < 16 → k < 8
      → byte_allowed k (byte_of (state_on (translator_after_all new calls) c) k) ≡ true
  pub formed : (calls : List TranslatorCall) → Formed (translator_after_all new calls)
  -- so that no message and no flush is declined
  pub message_answered : (calls : List TranslatorCall) (w : ℕ) → word_form w ≡ true → Given (translation_of (translator_after_all new calls) w)
  pub flush_answered : (calls : List TranslatorCall) (g c : ℕ) → Given (flush_reply (translator_after_all new calls) g c)
  -- and each value that is accepted is given by some list of messages
  pub reached : (c k x : ℕ) → c < 16 → k < 8 → byte_allowed k x ≡ true
      → (all_messages (leading_to c k x) ≡ true) × (byte_of (state_on (translator_after_all new (map translate_words (leading_to c k x))) c) k ≡ x)

-- a record with another value in some byte, of whichever channel, is out of range for every message and every flush, and stays
pub record OthersRefused (r : Midi1ToMidi2Group) : Type 0 where
  pub message_refused : (c k w : ℕ) → c < 16 → k < 8 → byte_allowed k (byte_of (state_on r c) k) ≡ false
      → TranslatorGives r (translate_words w) out_of_range r
  pub flush_refused : (c k g d : ℕ) → c < 16 → k < 8 → byte_allowed k (byte_of (state_on r c) k) ≡ false
      → TranslatorGives r (flush g d) out_of_range r

-- there are such records: a new one but for flags 8 on channel 15
abbrev pub reset_without_pending : Midi1ToMidi2Group
reset_without_pending = with_state new_record 15 (with_entry empty_state 0 8)

abbrev pub OthersMet : Type 0
OthersMet = byte_allowed 7 (byte_of (state_on reset_without_pending 15) 7) ≡ false
