-- The values that a byte may have after calls on a new record are those that are accepted, and a list of messages goes on from the record that is left.
-- Assumes nothing.
use mathlib.Core.Path.{◌≡◌, refl, sym}
use mathlib.Core.List.{List, ◌++◌}
use Prim.Native.Nat.{ℕ}
use Rattle.ump.specs.Outcome.{Outcome}
use Rattle.translate_state.specs.declared.Midi1ToMidi2Group.{Midi1ToMidi2Group}
use Rattle.translate_state.specs.State.{new_record, state_on}
use Rattle.translate.specs.Translate.{translation_of, record_after}
use Rattle.translate.specs.Lists.{translator_after_all, words_answered, words_from, ListContinues, with_words, ExactlyAccepted}
use Rattle.translate.proofs.Always.{new-formed, on-allowed, always-formed}
use Rattle.translate.proofs.Each.{at}
use Rattle.translate.proofs.Reached.{leads}
use Rattle.translate.proofs.Refused.{bytes-allowed}

pub exactly-accepted : ExactlyAccepted new_record
exactly-accepted =
    record {
      kept =
          λ calls c k h l.
          let f = always-formed new_record new-formed calls in
          at (bytes-allowed (state_on (translator_after_all new_record calls) c) (on-allowed (translator_after_all new_record calls) f c h)) k l;
      formed = λ calls. always-formed new_record new-formed calls;
      message_answered = λ calls w m. rw ((always-formed new_record new-formed calls).allowed, m) (with_words _);
      flush_answered =
          λ calls g c.
          rw (always-formed new_record new-formed calls).allowed (with_words _);
      reached = λ c k x h l a. leads c h k x l a;
    }

-- the words of a list, from its first message on
pub continues : (r : Midi1ToMidi2Group) (w : ℕ) (answer : Outcome (List ℕ)) (left : Midi1ToMidi2Group)
    → answer ≡ translation_of r w → left ≡ record_after r w → ListContinues r w answer left
unfolding words_from
continues r w answer left e l =
    record {
      first_then_rest = λ ws. λ i. words_answered (sym e i) ++ words_from (sym l i) ws;
      none_declined = refl;
      none_of_none = refl;
    }
