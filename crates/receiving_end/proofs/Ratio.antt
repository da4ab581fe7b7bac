-- Every list of calls on a new end leaves one that answers with the unrounded ratio.
-- Assumes nothing.
use Prim.Native.Nat.{ℕ}
use mathlib.Core.Path.{◌≡◌, refl}
use mathlib.Core.List.{List, [], ◌∷◌, map}
use Rattle.ump.specs.Word.{word_form, form_of}
use Rattle.ump.specs.Field.{mask_to}
use Rattle.mpe_layout.specs.Layout.{legal_counts, legal, place_of, role_of}
use Rattle.mpe_reset.specs.Reset.{layout_roles, layout_hit}
use Rattle.mpe_pitch.specs.Pitch.{pitch_offset}
use Rattle.mpe_pitch.specs.Remainder.{pitch_remainder}
use Rattle.mpe_zones.specs.Zones.{activated}
use Rattle.mpe_event.specs.Update.{on_member}
use Rattle.mpe_receiver.specs.Receive.{stored, put_where, received_by_fields}
use Rattle.byte_reader.specs.Reader.{class_of_byte, data_step}
use Rattle.mpe_receiver.specs.Read.{pair_of, manager_pair, member_pair}
use Rattle.mpe_receiver.proofs.Ratio.{ratio-by-role}
use Rattle.receiving_end.specs.End.{new_end, message_at, step_of}
use Rattle.receiving_end.specs.Lists.{Call, pitch_offset_with_remainder, after, answers}
use Rattle.receiving_end.specs.Ratio.{AnswersRatio, limit_calls, limit_answers, AlwaysRatio}

ratio-answered : (calls : List Call) (channel : ℕ) → AnswersRatio (after new_end calls) channel
ratio-answered calls channel =
    let r = (after new_end calls).receiver in
    record { pair_or_none = pair_of r channel; answered = refl; its_ratio = ratio-by-role r channel }

-- by computation
limits-answered : answers (after new_end limit_calls) (map pitch_offset_with_remainder (0 ∷ 1 ∷ 2 ∷ 14 ∷ 15 ∷ [])) ≡ limit_answers
unfolding word_form form_of mask_to legal_counts legal role_of place_of layout_roles layout_hit pitch_offset pitch_remainder activated on_member received_by_fields put_where stored manager_pair member_pair class_of_byte data_step message_at step_of after answers
limits-answered = refl

pub always-ratio : AlwaysRatio
always-ratio = record { ratio = ratio-answered; limits = limits-answered }
