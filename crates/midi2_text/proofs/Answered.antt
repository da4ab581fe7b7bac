-- The cable after bytes; after whatever bytes of a new one, no byte and no flush is declined.
-- Assumes nothing.
use Prim.Native.Nat.{ℕ}
use mathlib.Core.Path.{◌≡◌, refl}
use mathlib.Core.List.{List, [], ◌∷◌, ◌++◌, map}
use Rattle.byte_reader.specs.declared.Reader.{Reader}
use Rattle.byte_reader.specs.declared.Read.{Read}
use Rattle.byte_reader.specs.declared.Read.TheVariants as read
use Rattle.byte_reader.specs.Reader.{read_step, read_all}
use Rattle.byte_reader.proofs.Formed.{words-formed}
use Rattle.receiving_end.specs.declared.end.End.{End}
use Rattle.receiving_end.specs.declared.end.Reply.{Reply}
use Rattle.receiving_end.specs.declared.end.Reply.TheVariants.{Quiet, Dropped, RealTime, Message}
use Rattle.receiving_end.specs.End.{new_end, message_at, answer_step, step_of, step_reply, step_end}
use Rattle.translate_state.specs.declared.Midi1ToMidi2Group.{Midi1ToMidi2Group}
use Rattle.translate_state.specs.State.{new_record}
use Rattle.translate.specs.Translate.{translation_of, flush_reply}
use Rattle.translate.specs.Lists.{TranslatorCall, translate_words, flush, translator_after, translator_after_all, Given, with_words}
use Rattle.translate.proofs.Exact.{exactly-accepted}
use Rattle.midi2_text.proofs.Words.{heard-more, flushed-more, none-heard, none-flushed, new-messages}
use Rattle.midi2_text.specs.declared.cable.Cable.{Cable}
use Rattle.midi2_text.specs.Cable.{new_cable, reply_words, reply_record, heard_reply, heard_cable, flushed_cable, cable_after, flushed_after, message_in, messages_read}

-- one byte more before a list, and no bytes
pub one_more : (c d : Cable) (b : ℕ) (bs : List ℕ) → d ≡ heard_cable c b → cable_after c (b ∷ bs) ≡ cable_after d bs
unfolding cable_after
one_more c d b bs p = rw p

pub none_after : (c : Cable) → cable_after c [] ≡ c
unfolding cable_after
none_after c = refl

pub one-flush-more : (c d : Cable) (k : ℕ) (ks : List ℕ) → d ≡ flushed_cable c k → flushed_after c (k ∷ ks) ≡ flushed_after d ks
unfolding flushed_after
one-flush-more c d k ks p = rw p

pub no-flush-after : (c : Cable) → flushed_after c [] ≡ c
unfolding flushed_after
no-flush-after c = refl

-- the calls on the translator for the messages that an end reads
abbrev calls_for : End → List ℕ → List TranslatorCall
calls_for e bs = map translate_words (messages_read e bs)

-- a byte's message, if it has one, is the first call
call-first : (t : Midi1ToMidi2Group) (r : Reply) (ws : List ℕ)
    → translator_after_all (reply_record t r) (map translate_words ws) ≡ translator_after_all t (map translate_words (message_in r ++ ws))
unfolding translator_after_all
call-first t Quiet ws = refl
call-first t Dropped ws = refl
call-first t (RealTime b) ws = refl
call-first t (Message w e) ws = refl

translator-after : (c : Cable) (bs : List ℕ) → (cable_after c bs).translator ≡ translator_after_all c.translator (calls_for c.end bs)
unfolding cable_after messages_read translator_after_all
translator-after c [] = refl
translator-after c (b ∷ bs) =
    rw (translator-after (heard_cable c b) bs) (call-first c.translator (step_reply c.end b) (messages_read (step_end c.end b) bs))

-- flushes are calls on it too, and they go on from the record that the messages leave
translator-flushed : (c : Cable) (ks : List ℕ) → (flushed_after c ks).translator ≡ translator_after_all c.translator (map (flush 0) ks)
unfolding flushed_after translator_after_all
translator-flushed c [] = refl
translator-flushed c (k ∷ ks) = translator-flushed (flushed_cable c k) ks

calls-after-calls : (t : Midi1ToMidi2Group) (a b : List TranslatorCall) → translator_after_all (translator_after_all t a) b ≡ translator_after_all t (a ++ b)
unfolding translator_after_all
calls-after-calls t [] b = refl
calls-after-calls t (x ∷ a) b = calls-after-calls (translator_after t x) a b

-- the reader of an end after a byte
answer-reader : (e : End) (r : Reader) (x : Read) → (answer_step e r x).end.reader ≡ r
unfolding message_at
answer-reader e r read.Quiet = refl
answer-reader e r read.Dropped = refl
answer-reader e r (read.RealTime b) = refl
answer-reader e r (read.Message w) = refl

step-reader : (e : End) (b : ℕ) → (step_end e b).reader ≡ (read_step e.reader b).reader
unfolding step_of
step-reader e b = answer-reader e (read_step e.reader b).reader (read_step e.reader b).read

reader-after : (c : Cable) (bs : List ℕ) → (cable_after c bs).end.reader ≡ read_all c.end.reader bs
unfolding cable_after read_all
reader-after c [] = refl
reader-after c (b ∷ bs) = rw (reader-after (heard_cable c b) bs, step-reader c.end b)

-- a byte is answered where the word that it completes, if it does, is
reply-answered : (t : Midi1ToMidi2Group) (e : End) (r : Reader) (x : Read)
    → ((w : ℕ) → x ≡ read.Message w → Given (translation_of t w)) → Given (reply_words t (answer_step e r x).reply)
unfolding message_at
reply-answered t e r read.Quiet f = with_words []
reply-answered t e r read.Dropped f = with_words []
reply-answered t e r (read.RealTime b) f = with_words []
reply-answered t e r (read.Message w) f = f w refl

module _ (bs : List ℕ) where
  word-answered : (b w : ℕ) → (read_step (cable_after new_cable bs).end.reader b).read ≡ read.Message w → Given (translation_of (cable_after new_cable bs).translator w)
  word-answered b w e =
      rw (translator-after new_cable bs)
      (exactly-accepted.message_answered (calls_for new_end bs) w (words-formed bs b w (rw (reader-after new_cable bs) at e)).0)

  heard-answered : (b : ℕ) → Given (heard_reply (cable_after new_cable bs) b)
  unfolding step_of
  heard-answered b = reply-answered (cable_after new_cable bs).translator (cable_after new_cable bs).end _ _ (word-answered b)

  flushed-answered : (ks : List ℕ) (k : ℕ) → Given (flush_reply (flushed_after (cable_after new_cable bs) ks).translator 0 k)
  flushed-answered ks k =
      rw (
        translator-flushed (cable_after new_cable bs) ks,
        translator-after new_cable bs,
        calls-after-calls new_record (calls_for new_end bs) (map (flush 0) ks),
      )
      (exactly-accepted.flush_answered (calls_for new_end bs ++ map (flush 0) ks) 0 k)

module _ (c : Cable) (new : c ≡ new_cable) (bs : List ℕ) where
  pub byte-answered : (b : ℕ) → Given (heard_reply (cable_after c bs) b)
  byte-answered b = rw new (heard-answered bs b)

  pub flush_answered : (ks : List ℕ) (k : ℕ) → Given (flush_reply (flushed_after (cable_after c bs) ks).translator 0 k)
  flush_answered ks k = rw new (flushed-answered bs ks k)

-- what a cable promises of lists of bytes and of channels
pub ruleset lists = (one_more, none_after, one-flush-more, no-flush-after, heard-more, none-heard, flushed-more, none-flushed, new-messages, byte-answered, flush_answered)
