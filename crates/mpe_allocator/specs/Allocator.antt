-- What each call of a note allocator answers, and the allocator after it (M1-100 2.2.4.1, Appendix A.3; document 01, "The sending side").
use Rattle.std.specs.Prelude.{◌≡◌, ℕ, ◌+◌, ◌-◌, ◌%◌, ◌^◌, min, Bool, true, false, replicate, ◌==◌, nat_eq, slice_set, Result, Ok, Err}
use Rattle.ump.specs.Choice.{when◌then◌else◌}
use Rattle.ump.specs.Outcome.{Outcome, given, out_of_range, none_there}
use Rattle.mpe_layout.specs.Layout.{legal, members_of, lowest_of}
use Rattle.mpe_layout.specs.declared.MpeZone.{MpeZone}
use Rattle.mpe_layout.specs.declared.MpeLayout.{MpeLayout}
use Rattle.mpe_allocator.specs.declared.MpeNoteAllocator.{MpeNoteAllocator}
use Rattle.mpe_allocator.specs.declared.Allocation.{Allocation}
use Rattle.mpe_layout.specs.declared.MemberError.{MemberError}
use Rattle.mpe_layout.specs.declared.MemberError.TheVariants as member_error
use Rattle.mpe_allocator.specs.Choice.{held_on, mark_of, Foremost, Chosen, choice}

-- no held note, no release, with the same-note option on or off
abbrev pub emptied : Bool → MpeNoteAllocator
emptied option =
    record {
      active = replicate 16 0;
      last_note = replicate 16 0;
      last_off = replicate 16 0;
      clock = 0;
      same_note = option;
    }

-- an allocator after `note_on`, and its answer
abbrev pub with_reply : MpeNoteAllocator → Result ℕ MemberError → Allocation
with_reply a reply = record { allocator = a; reply = reply }

-- one held note more, and no more than 255
abbrev pub one_more : ℕ → ℕ
one_more held = min 255 (held + 1)

-- a note of this mark on channel c
unfoldable pub with_note : MpeNoteAllocator → ℕ → ℕ → MpeNoteAllocator
with_note a mark c =
    record {
      active = slice_set a.active c (one_more (held_on a c));
      last_note = slice_set a.last_note c mark;
      last_off = a.last_off;
      clock = a.clock;
      same_note = a.same_note;
    }

abbrev pub placed_on : MpeNoteAllocator → ℕ → ℕ → Allocation
placed_on a mark c = with_reply (with_note a mark c) (Ok c)

-- a note of this mark in a zone, on the foremost channel from `first` up to below `end`
pub record Placed (a : MpeNoteAllocator) (zone : MpeZone) (mark first end : ℕ) (r : Allocation) : Type 0 where
  pub channel : ℕ
  pub foremost : Foremost a zone mark first end channel
  pub is : r ≡ placed_on a mark channel

-- what a note gets, and the allocator after it: an illegal layout is out of range, then a zone without members is none
pub data AllocatedAs (a : MpeNoteAllocator) (l : MpeLayout) (zone : MpeZone) (note : ℕ) : Outcome ℕ → MpeNoteAllocator → Type 0 where
  illegal : legal l ≡ false → AllocatedAs a l zone note out_of_range a
  empty : legal l ≡ true → members_of l zone ≡ 0 → AllocatedAs a l zone note none_there a
  placed : {c : ℕ} → legal l ≡ true → Chosen a l zone note c → AllocatedAs a l zone note (given c) (with_note a (mark_of note) c)

-- the same, computed
unfoldable pub allocation_of : MpeNoteAllocator → MpeLayout → MpeZone → ℕ → Allocation
allocation_of a l zone note =
    when legal l then
    (when nat_eq (members_of l zone) 0 then with_reply a (Err member_error.NoMembers) else
    placed_on a (mark_of note) (choice a zone (mark_of note) (lowest_of l zone) (members_of l zone - 1)))
    else with_reply a (Err member_error.OutOfRange)

-- the release clock steps from 4,294,967,295 to 0
abbrev pub tick : ℕ → ℕ
tick clock = (clock + 1) % 2 ^ 32

-- a held note fewer on channel c, released now
abbrev pub one_fewer : MpeNoteAllocator → ℕ → MpeNoteAllocator
one_fewer a c =
    record {
      active = slice_set a.active c (held_on a c - 1);
      last_note = a.last_note;
      last_off = slice_set a.last_off c (tick a.clock);
      clock = tick a.clock;
      same_note = a.same_note;
    }

-- a channel without a held note changes nothing
unfoldable pub without_note : MpeNoteAllocator → ℕ → MpeNoteAllocator
without_note a c = when held_on a c == 0 then a else one_fewer a c

-- the same-note option on or off
abbrev pub with_option : MpeNoteAllocator → Bool → MpeNoteAllocator
with_option a on =
    record {
      active = a.active;
      last_note = a.last_note;
      last_off = a.last_off;
      clock = a.clock;
      same_note = on;
    }
