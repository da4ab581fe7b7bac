-- Lists of calls on one allocator: what each answers and leaves, and what the counts sum to (document 01, "The sending side").
use Rattle.std.specs.Prelude.{◌≡◌, ℕ, ◌+◌, Bool, false, ◌||◌, List, [], ◌∷◌, ◌==◌, nat_le, Result, Ok, Err}
use Rattle.ump.specs.Choice.{when◌then◌else◌}
use Rattle.ump.specs.Packet.{packet_value}
use Rattle.mpe_layout.specs.declared.MpeZone.{MpeZone}
use Rattle.mpe_layout.specs.declared.MpeLayout.{MpeLayout}
use Rattle.mpe_allocator.specs.declared.MpeNoteAllocator.{MpeNoteAllocator}
use Rattle.mpe_layout.specs.declared.MemberError.{MemberError}
use Rattle.mpe_layout.specs.declared.MemberError.TheVariants as member_error
use Rattle.mpe_allocator.specs.Choice.{held_on}
use Rattle.mpe_allocator.specs.Allocator.{emptied, allocation_of, without_note, with_option}

-- the calls on an allocator
pub data AllocatorCall : Type 0 where
  note_on : MpeLayout → MpeZone → ℕ → AllocatorCall
  note_off : ℕ → AllocatorCall
  active_notes : ℕ → AllocatorCall
  same_note : AllocatorCall
  set_same_note : Bool → AllocatorCall
  reset : AllocatorCall

-- what a call answers: the reply to a note, a count, the option, or nothing beside the allocator
pub data AllocatorAnswer : Type 0 where
  note_reply : Result ℕ MemberError → AllocatorAnswer
  count : ℕ → AllocatorAnswer
  option : Bool → AllocatorAnswer
  nothing : AllocatorAnswer

abbrev pub answer_of : MpeNoteAllocator → AllocatorCall → AllocatorAnswer
answer_of a (note_on l zone note) = note_reply (allocation_of a l zone note).reply
answer_of a (note_off channel) = nothing
answer_of a (active_notes channel) = count (held_on a (packet_value channel))
answer_of a same_note = option a.same_note
answer_of a (set_same_note on) = nothing
answer_of a reset = nothing

-- the allocator after a call
abbrev pub after_call : MpeNoteAllocator → AllocatorCall → MpeNoteAllocator
after_call a (note_on l zone note) = (allocation_of a l zone note).allocator
after_call a (note_off channel) = without_note a (packet_value channel)
after_call a (active_notes channel) = a
after_call a same_note = a
after_call a (set_same_note on) = with_option a on
after_call a reset = emptied a.same_note

-- a call gives this answer and leaves this allocator: what the contract of each call says
abbrev pub AllocatorGives : MpeNoteAllocator → AllocatorCall → AllocatorAnswer → MpeNoteAllocator → Type 0
AllocatorGives a call answer left = (answer ≡ answer_of a call) × (left ≡ after_call a call)

unfoldable pub after_calls : MpeNoteAllocator → List AllocatorCall → MpeNoteAllocator
after_calls a [] = a
after_calls a (call ∷ calls) = after_calls (after_call a call) calls

unfoldable pub sum : List ℕ → ℕ
sum [] = 0
sum (n ∷ ns) = n + sum ns

-- a count has reached 255
unfoldable pub full : List ℕ → Bool
full [] = false
full (n ∷ ns) = nat_le 255 n || full ns

-- since the last reset: note-ons that got a channel, note-offs that met a count above 0, and whether a count has reached 255
pub record Tally : Type 0 where
  pub ons : ℕ
  pub offs : ℕ
  pub reached : Bool

abbrev pub no_tally : Tally
no_tally = record { ons = 0; offs = 0; reached = false }

-- 1 for a note that got a channel
abbrev pub got : Result ℕ MemberError → ℕ
got (Ok c) = 1
got (Err member_error.OutOfRange) = 0
got (Err member_error.NoMembers) = 0

-- 1 for a count above 0
abbrev pub one_if_held : ℕ → ℕ
one_if_held held = when held == 0 then 0 else 1

-- a tally after a call on allocator a
unfoldable pub tallied : MpeNoteAllocator → Tally → AllocatorCall → Tally
tallied a t (note_on l zone note) =
    record {
      ons = t.ons + got (allocation_of a l zone note).reply;
      offs = t.offs;
      reached = t.reached || full (allocation_of a l zone note).allocator.active;
    }
tallied a t (note_off channel) =
    record { ons = t.ons; offs = t.offs + one_if_held (held_on a (packet_value channel)); reached = t.reached }
tallied a t (active_notes channel) = t
tallied a t same_note = t
tallied a t (set_same_note on) = t
tallied a t reset = no_tally

unfoldable pub tally : MpeNoteAllocator → Tally → List AllocatorCall → Tally
tally a t [] = t
tally a t (call ∷ calls) = tally (after_call a call) (tallied a t call) calls

-- after any calls on a new allocator, the counts sum to the note-ons less the note-offs, while none has reached 255
abbrev pub CountsSum : MpeNoteAllocator → Type 0
CountsSum new =
    (calls : List AllocatorCall) →
    (tally new no_tally calls).reached ≡ false →
    sum (after_calls new calls).active + (tally new no_tally calls).offs ≡ (tally new no_tally calls).ons
