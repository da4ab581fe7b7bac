-- Where notes go that are played into an empty allocator: a zone fills from its manager (document 02, 2026-03).
use Rattle.std.specs.Prelude.{◌≡◌, ℕ, ◌+◌, ◌-◌, ◌<◌, true, List, [], ◌∷◌, length, Ok}
use Rattle.mpe_layout.specs.Layout.{legal, members_of}
use Rattle.mpe_layout.specs.declared.MpeZone.{MpeZone}
use Rattle.mpe_layout.specs.declared.MpeZone.TheVariants.{Lower, Upper}
use Rattle.mpe_layout.specs.declared.MpeLayout.{MpeLayout}
use Rattle.mpe_allocator.specs.declared.MpeNoteAllocator.{MpeNoteAllocator}
use Rattle.mpe_allocator.specs.Calls.{AllocatorCall, note_on, note_reply, answer_of, after_calls}

-- the member at a place from the manager, the nearest at 0: Lower counts up from channel 1, Upper down from channel 14
abbrev pub from_manager : MpeZone → ℕ → ℕ
from_manager Lower place = 1 + place
from_manager Upper place = 14 - place

-- a note-on for each of the notes
unfoldable pub note_ons : MpeLayout → MpeZone → List ℕ → List AllocatorCall
note_ons l zone [] = []
note_ons l zone (note ∷ notes) = note_on l zone note ∷ note_ons l zone notes

-- while a member is left without one, each note goes to the nearest of these
abbrev pub FillsFromManager : MpeNoteAllocator → Type 0
FillsFromManager empty =
    (l : MpeLayout) (zone : MpeZone) (notes : List ℕ) (note : ℕ) →
    legal l ≡ true →
    length notes < members_of l zone →
    answer_of (after_calls empty (note_ons l zone notes)) (note_on l zone note) ≡ note_reply (Ok (from_manager zone (length notes)))
