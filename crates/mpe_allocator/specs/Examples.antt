-- Calls on an allocator and the answers to them, as one table: the examples of document 02, 2026-03, and the rules of document 01, "The sending side".
use Rattle.std.specs.Prelude.{◌≡◌, ℕ, true, false, List, [], ◌∷◌, map, replicate, slice_set, Ok, Err}
use Rattle.mpe_layout.specs.Layout.{layout_of}
use Rattle.mpe_layout.specs.declared.MpeZone.TheVariants.{Lower, Upper}
use Rattle.mpe_allocator.specs.declared.MpeNoteAllocator.{MpeNoteAllocator}
use Rattle.mpe_layout.specs.declared.MemberError.TheVariants as member_error
use Rattle.mpe_allocator.specs.Allocator.{emptied}
use Rattle.mpe_allocator.specs.Calls.{AllocatorCall, note_on, note_off, active_notes, same_note, set_same_note, reset, AllocatorAnswer, note_reply, count, option, nothing, answer_of, after_call}

-- the answers to a list of calls
unfoldable pub answers_to : MpeNoteAllocator → List AllocatorCall → List AllocatorAnswer
answers_to a [] = []
answers_to a (call ∷ calls) = answer_of a call ∷ answers_to (after_call a call) calls

pub record AllocatorExample : Type 0 where
  pub from : MpeNoteAllocator
  pub calls : List AllocatorCall
  pub answers : List AllocatorAnswer

abbrev example : MpeNoteAllocator → List AllocatorCall → List AllocatorAnswer → AllocatorExample
example a calls answers = record { from = a; calls = calls; answers = answers }

-- a note in a zone of two members, of three or of eight
abbrev upper2 : ℕ → AllocatorCall
upper2 note = note_on (layout_of 0 2) Upper note

abbrev lower2 : ℕ → AllocatorCall
lower2 note = note_on (layout_of 2 0) Lower note

abbrev upper3 : ℕ → AllocatorCall
upper3 note = note_on (layout_of 0 3) Upper note

abbrev lower3 : ℕ → AllocatorCall
lower3 note = note_on (layout_of 3 0) Lower note

abbrev upper8 : ℕ → AllocatorCall
upper8 note = note_on (layout_of 0 8) Upper note

abbrev on : ℕ → AllocatorAnswer
on channel = note_reply (Ok channel)

-- same-note on; note 60 was the last of channels 1, 2, 13 and 14, and they were released at the same clock
abbrev released_together : MpeNoteAllocator
released_together =
    record {
      active = replicate 16 0;
      last_note = slice_set (slice_set (slice_set (slice_set (replicate 16 0) 1 0xBC) 2 0xBC) 13 0xBC) 14 0xBC;
      last_off = slice_set (slice_set (slice_set (slice_set (replicate 16 0) 1 5) 2 5) 13 5) 14 5;
      clock = 5;
      same_note = true;
    }

-- this clock, this count on channel 1, and nothing else
abbrev at_clock : ℕ → ℕ → MpeNoteAllocator
at_clock clock held =
    record {
      active = slice_set (replicate 16 0) 1 held;
      last_note = replicate 16 0;
      last_off = replicate 16 0;
      clock = clock;
      same_note = false;
    }

unfoldable pub allocator_table : List AllocatorExample
allocator_table =
    -- a zone fills from its manager, and then begins again
    example (emptied false) (upper3 60 ∷ upper3 60 ∷ upper3 60 ∷ upper3 60 ∷ []) (on 14 ∷ on 13 ∷ on 12 ∷ on 14 ∷ [])
    ∷ example (emptied false) (lower3 60 ∷ lower3 60 ∷ lower3 60 ∷ lower3 60 ∷ []) (on 1 ∷ on 2 ∷ on 3 ∷ on 1 ∷ [])
    -- the smaller count goes first
    ∷ example (emptied false) (upper2 60 ∷ upper2 61 ∷ note_off 13 ∷ upper2 62 ∷ []) (on 14 ∷ on 13 ∷ nothing ∷ on 13 ∷ [])
    -- then the older release
    ∷ example (emptied false) (upper2 60 ∷ upper2 61 ∷ note_off 13 ∷ note_off 14 ∷ upper2 62 ∷ []) (on 14 ∷ on 13 ∷ nothing ∷ nothing ∷ on 13 ∷ [])
    ∷ example (emptied false) (lower2 60 ∷ lower2 61 ∷ note_off 2 ∷ note_off 1 ∷ lower2 62 ∷ []) (on 1 ∷ on 2 ∷ nothing ∷ nothing ∷ on 2 ∷ [])
    -- with same-note on the free channel of the note, without it the older release
    ∷ example (emptied true) (lower2 60 ∷ lower2 61 ∷ note_off 1 ∷ note_off 2 ∷ lower2 61 ∷ []) (on 1 ∷ on 2 ∷ nothing ∷ nothing ∷ on 2 ∷ [])
    ∷ example (emptied false) (lower2 60 ∷ lower2 61 ∷ note_off 1 ∷ note_off 2 ∷ lower2 61 ∷ []) (on 1 ∷ on 2 ∷ nothing ∷ nothing ∷ on 1 ∷ [])
    -- of two free channels of the note the later release
    ∷ example (emptied true) (upper2 60 ∷ upper2 60 ∷ note_off 14 ∷ note_off 13 ∷ upper2 60 ∷ []) (on 14 ∷ on 13 ∷ nothing ∷ nothing ∷ on 13 ∷ [])
    -- a channel that holds the note is not free
    ∷ example (emptied true) (lower2 60 ∷ lower2 60 ∷ []) (on 1 ∷ on 2 ∷ [])
    -- a tie among the free channels of the note; by counts and releases it would be 12 and 3
    ∷ example released_together (upper3 60 ∷ lower3 60 ∷ []) (on 14 ∷ on 1 ∷ [])
    -- a note is told from every other, and is taken modulo 128
    ∷ example (emptied true)
    (upper8 60 ∷ upper8 61 ∷ upper8 62 ∷ upper8 56 ∷ upper8 52 ∷ upper8 44 ∷ upper8 28 ∷ upper8 124 ∷ note_off 14 ∷ note_off 13 ∷ note_off 12 ∷ note_off 11 ∷ note_off 10 ∷ note_off 9 ∷ note_off 8 ∷ note_off 7 ∷ upper8 60 ∷ upper8 252 ∷ [])
    (on 14 ∷ on 13 ∷ on 12 ∷ on 11 ∷ on 10 ∷ on 9 ∷ on 8 ∷ on 7 ∷ nothing ∷ nothing ∷ nothing ∷ nothing ∷ nothing ∷ nothing ∷ nothing ∷ nothing ∷ on 14 ∷ on 7 ∷ [])
    -- a release counts where another note is still held
    ∷ example (emptied false)
    (upper2 60 ∷ upper2 60 ∷ upper2 60 ∷ upper2 60 ∷ note_off 13 ∷ note_off 14 ∷ upper2 60 ∷ [])
    (on 14 ∷ on 13 ∷ on 14 ∷ on 13 ∷ nothing ∷ nothing ∷ on 13 ∷ [])
    -- the release after 4,294,967,295 is 0
    ∷ example (at_clock 4294967294 0) (lower2 60 ∷ lower2 61 ∷ note_off 1 ∷ note_off 2 ∷ lower2 62 ∷ []) (on 1 ∷ on 2 ∷ nothing ∷ nothing ∷ on 2 ∷ [])
    -- a count stops at 255; a note-off without a note changes nothing
    ∷ example (at_clock 0 255) (note_on (layout_of 1 0) Lower 60 ∷ active_notes 1 ∷ note_off 1 ∷ active_notes 17 ∷ note_off 2 ∷ active_notes 2 ∷ []) (on 1 ∷ count 255 ∷ nothing ∷ count 254 ∷ nothing ∷ count 0 ∷ [])
    -- a reset keeps the option
    ∷ example (emptied false) (set_same_note true ∷ lower2 60 ∷ reset ∷ same_note ∷ active_notes 1 ∷ []) (nothing ∷ on 1 ∷ nothing ∷ option true ∷ count 0 ∷ [])
    -- an illegal layout, and a zone without members
    ∷ example (emptied false) (note_on (layout_of 8 7) Upper 60 ∷ note_on (layout_of 3 0) Upper 60 ∷ []) (note_reply (Err member_error.OutOfRange) ∷ note_reply (Err member_error.NoMembers) ∷ [])
    ∷ []

-- each list of calls of the table gets the answers beside it
abbrev pub AllocatesAsTabled : Type 0
AllocatesAsTabled = map (λ e. answers_to e.from e.calls) allocator_table ≡ map (λ e. e.answers) allocator_table
