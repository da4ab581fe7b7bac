-- The bench examples that document 01, "Bench examples", marks with a star, and that of document 02, 2026-04, as one table: layouts, pitch and RPN 0.
use Rattle.std.specs.Prelude.{ℕ, ◌+◌, ◌*◌, ◌^◌, List, [], ◌∷◌, map, ◌≡◌, ℤ, pos, neg_ℤ}
use Rattle.ump.specs.Outcome.{Outcome, given, out_of_range}
use Rattle.ump.specs.declared.controller.Rpn.TheVariants.{PitchBendSensitivity}
use Rattle.parameter_event.specs.declared.Parameter.TheVariants.{Registered}
use Rattle.parameter_event.specs.declared.ParameterChange.{ParameterChange}
use Rattle.parameter_event.specs.declared.ParameterChange.TheVariants.{Increment, Decrement}
use Rattle.parameter_event.specs.Apply.{applied}
use Rattle.mpe_layout.specs.declared.MpeZone.{MpeZone}
use Rattle.mpe_layout.specs.declared.MpeZone.TheVariants.{Lower, Upper}
use Rattle.mpe_layout.specs.declared.MpeRole.{MpeRole}
use Rattle.mpe_layout.specs.declared.MpeRole.TheVariants.{Member}
use Rattle.mpe_layout.specs.declared.MpeLayout.{MpeLayout}
use Rattle.mpe_layout.specs.Layout.{layout_of, new_layout, mcm_layout, role_given}
use Rattle.mpe_pitch.specs.declared.MpeSensitivity.{MpeSensitivity}
use Rattle.mpe_pitch.specs.declared.OffsetWithRemainder.{OffsetWithRemainder}
use Rattle.mpe_pitch.specs.Pitch.{pitch_offset, pitch_bend_value}
use Rattle.mpe_pitch.specs.Remainder.{offset_with_remainder}

-- a call, with its arguments
pub data BenchCall : Type 0 where
  new : ℕ → ℕ → BenchCall
  call_with_mcm : MpeLayout → MpeZone → ℕ → BenchCall
  role : MpeLayout → ℕ → BenchCall
  call_pitch_bend_value : ℤ → MpeSensitivity → BenchCall
  pitch-offset pitch-offset-with-remainder : ℕ → MpeSensitivity → BenchCall
  -- of RPN 0, a change of semitones and cents
  apply : ParameterChange → ℕ → ℕ → BenchCall

-- what a call answers
pub data BenchReply : Type 0 where
  as_layout : Outcome MpeLayout → BenchReply
  as_role : Outcome MpeRole → BenchReply
  as_value : ℕ → BenchReply
  as_offset : ℤ → BenchReply
  as_pair : OffsetWithRemainder → BenchReply

-- semitones and cents as one value of 14 bits
abbrev in_all : ℕ → ℕ → ℕ
in_all semitones cents = semitones * 2 ^ 7 + cents

abbrev sensitivity : ℕ → ℕ → MpeSensitivity
sensitivity semitones cents = record { semitones = semitones; cents = cents }

abbrev pair : ℤ → ℤ → BenchReply
pair offset remainder = as_pair (record { offset = offset; remainder = remainder })

-- what the call answers, by the term that its contract cites
unfoldable pub reply_to : BenchCall → BenchReply
reply_to (new lower upper) = as_layout (new_layout lower upper)
reply_to (call_with_mcm l zone members) = as_layout (mcm_layout l zone members)
reply_to (role l channel) = as_role (role_given l channel)
reply_to (call_pitch_bend_value offset s) = as_value (pitch_bend_value offset s)
reply_to (pitch-offset value s) = as_offset (pitch_offset value s)
reply_to (pitch-offset-with-remainder value s) = as_pair (offset_with_remainder value s)
reply_to (apply change semitones cents) =
    as_value (applied (record { parameter = Registered PitchBendSensitivity; change = change }) (in_all semitones cents))

pub record Example : Type 0 where
  pub call : BenchCall
  pub reply : BenchReply

abbrev example : BenchCall → BenchReply → Example
example c r = record { call = c; reply = r }

unfoldable pub table : List Example
table =
    example (new 13 1) (as_layout (given (layout_of 13 1)))
    ∷ example (new 15 0) (as_layout (given (layout_of 15 0)))
    ∷ example (new 8 7) (as_layout out_of_range)
    ∷ example (call_with_mcm (layout_of 7 7) Lower 10) (as_layout (given (layout_of 10 4)))
    ∷ example (call_with_mcm (layout_of 7 7) Lower 14) (as_layout (given (layout_of 14 0)))
    ∷ example (call_with_mcm (layout_of 7 7) Upper 0) (as_layout (given (layout_of 7 0)))
    ∷ example (call_with_mcm (layout_of 7 7) Lower 16) (as_layout (given (layout_of 7 7)))
    ∷ example (role (layout_of 15 0) 15) (as_role (given (Member Lower)))
    ∷ example (call_pitch_bend_value (pos 10000) (sensitivity 2 0)) (as_value 12288)
    ∷ example (call_pitch_bend_value (pos 19999) (sensitivity 2 0)) (as_value 16383)
    ∷ example (call_pitch_bend_value (neg_ℤ (pos 19999)) (sensitivity 2 0)) (as_value 0)
    ∷ example (pitch-offset 0 (sensitivity 48 0)) (as_offset (neg_ℤ (pos 480059)))
    ∷ example (pitch-offset 16383 (sensitivity 48 0)) (as_offset (pos 480000))
    ∷ example (pitch-offset 12288 (sensitivity 48 0)) (as_offset (pos 240029))
    ∷ example (pitch-offset-with-remainder 12288 (sensitivity 48 0)) (pair (pos 240029) (pos 2461))
    ∷ example (apply Increment 2 110) (as_value (in_all 3 0))
    ∷ example (apply Decrement 3 0) (as_value (in_all 2 99))
    ∷ []

-- each call of the table gives the reply beside it
abbrev pub TableHolds : Type 0
TableHolds = map (λ e. reply_to e.call) table ≡ map (λ e. e.reply) table
