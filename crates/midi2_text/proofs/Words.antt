-- One byte or one channel more before the words of a list; the words of bytes are those of their messages.
-- Assumes nothing.
use Prim.Native.Nat.{ℕ}
use mathlib.Core.Path.{◌≡◌, refl}
use mathlib.Core.List.{List, [], ◌∷◌, ◌++◌}
use Rattle.ump.specs.Outcome.{Outcome}
use Rattle.receiving_end.specs.declared.end.Reply.{Reply}
use Rattle.receiving_end.specs.declared.end.Reply.TheVariants.{Quiet, Dropped, RealTime, Message}
use Rattle.receiving_end.specs.End.{new_end, step_reply, step_end}
use Rattle.translate_state.specs.declared.Midi1ToMidi2Group.{Midi1ToMidi2Group}
use Rattle.translate.specs.Translate.{flush_reply}
use Rattle.translate.specs.Lists.{words_answered, words_from, words_of}
use Rattle.midi2_text.specs.declared.cable.Cable.{Cable}
use Rattle.midi2_text.specs.Cable.{new_cable, reply_words, reply_record, heard_reply, heard_cable, flushed_cable, heard_words, message_in, messages_read, flushed_words}

pub heard-more : (c d : Cable) (b : ℕ) (o : Outcome (List ℕ)) (bs : List ℕ) → o ≡ heard_reply c b → d ≡ heard_cable c b
    → heard_words c (b ∷ bs) ≡ words_answered o ++ heard_words d bs
unfolding heard_words
heard-more c d b o bs p q = rw (p, q)

pub flushed-more : (c d : Cable) (k : ℕ) (o : Outcome (List ℕ)) (ks : List ℕ) → o ≡ flush_reply c.translator 0 k → d ≡ flushed_cable c k
    → flushed_words c (k ∷ ks) ≡ words_answered o ++ flushed_words d ks
unfolding flushed_words
flushed-more c d k o ks p q = rw (p, q)

-- no bytes and no channels give no words
pub none-heard : (c : Cable) → heard_words c [] ≡ []
unfolding heard_words
none-heard c = refl

pub none-flushed : (c : Cable) → flushed_words c [] ≡ []
unfolding flushed_words
none-flushed c = refl

-- a byte's words come first where its message, if it has one, does
reply-first : (t : Midi1ToMidi2Group) (r : Reply) (ws : List ℕ) → words_answered (reply_words t r) ++ words_from (reply_record t r) ws ≡ words_from t (message_in r ++ ws)
unfolding words_from
reply-first t Quiet ws = refl
reply-first t Dropped ws = refl
reply-first t (RealTime b) ws = refl
reply-first t (Message w e) ws = refl

heard-messages : (c : Cable) (bs : List ℕ) → heard_words c bs ≡ words_from c.translator (messages_read c.end bs)
unfolding heard_words messages_read words_from
heard-messages c [] = refl
heard-messages c (b ∷ bs) =
    rw (heard-messages (heard_cable c b) bs) (reply-first c.translator (step_reply c.end b) (messages_read (step_end c.end b) bs))

pub new-messages : (c : Cable) → c ≡ new_cable → (bs : List ℕ) → heard_words c bs ≡ words_of (messages_read new_end bs)
new-messages c e bs = rw e (heard-messages new_cable bs)
