-- The offset with its remainder, of every end that calls lead to (document 02, 2026-04).
use Rattle.std.specs.Prelude.{ℕ, ◌≡◌, List, [], ◌∷◌, ◌++◌, map, ℤ, pos, neg_ℤ}
use Rattle.ump.specs.Outcome.{Outcome, given, none_there}
use Rattle.mpe_layout.specs.Layout.{layout_of}
use Rattle.mpe_pitch.specs.declared.OffsetWithRemainder.{OffsetWithRemainder}
use Rattle.mpe_receiver.specs.Ratio.{RatioByRole}
use Rattle.receiving_end.specs.declared.end.End.{End}
use Rattle.receiving_end.specs.End.{new_end}
use Rattle.receiving_end.specs.Lists.{Call, byte_by_value, set_layout, pitch_offset_with_remainder, Answer, paired, answer, after, answers}

-- what an end answers is the unrounded ratio of its bends and sensitivities
pub record AnswersRatio (e : End) (channel : ℕ) : Type 0 where
  pub pair_or_none : Outcome OffsetWithRemainder
  pub answered : answer e (pitch_offset_with_remainder channel) ≡ paired pair_or_none
  pub its_ratio : RatioByRole e.receiver channel pair_or_none

-- the bytes of a pitch bend message
abbrev bent : ℕ → ℕ → ℕ → List Call
bent status first second = byte_by_value status ∷ byte_by_value first ∷ byte_by_value second ∷ []

-- one member in each zone; Lower's manager and member bent to 7969 and 333, Upper's to 224 and 7860
abbrev pub limit_calls : List Call
limit_calls =
    set_layout (layout_of 1 1) ∷ (bent 0xE0 33 62 ++ (bent 0xE1 77 2 ++ (bent 0xEF 96 1 ++ bent 0xEE 52 61)))

abbrev pair : ℤ → ℤ → Answer
pair offset remainder = paired (given (record { offset = offset; remainder = remainder }))

-- what their channels answer, and one with no role
abbrev pub limit_answers : List Answer
limit_answers =
    pair (neg_ℤ (pos 545)) (pos 4095)
    ∷ pair (neg_ℤ (pos 461090)) (pos 8190)
    ∷ paired none_there
    ∷ pair (neg_ℤ (pos 38910)) (neg_ℤ (pos 8190))
    ∷ pair (neg_ℤ (pos 19455)) (neg_ℤ (pos 4095))
    ∷ []

-- whatever was called on a new end: on a manager's channel r lies from −4095 to 4095, on a member's from −8190 to 8190; and calls lead to each limit
pub record AlwaysRatio : Type 0 where
  pub ratio : (calls : List Call) (channel : ℕ) → AnswersRatio (after new_end calls) channel
  pub limits : answers (after new_end limit_calls) (map pitch_offset_with_remainder (0 ∷ 1 ∷ 2 ∷ 14 ∷ 15 ∷ [])) ≡ limit_answers
