-- What a note-on and a note-off leave on each channel, after whatever calls on a new allocator (document 01, "The sending side").
use Rattle.std.specs.Prelude.{◌≡◌, ℕ, ◌+◌, ◌%◌, ◌<◌, min, List, ◌≢◌, Ok}
use Rattle.mpe_layout.specs.declared.MpeZone.{MpeZone}
use Rattle.mpe_layout.specs.declared.MpeLayout.{MpeLayout}
use Rattle.mpe_allocator.specs.declared.MpeNoteAllocator.{MpeNoteAllocator}
use Rattle.mpe_allocator.specs.Choice.{held_on, last_on, released_on}
use Rattle.mpe_allocator.specs.Calls.{AllocatorCall, note_on, note_off, note_reply, answer_of, after_call, after_calls}

-- a note that got channel c is one more there, up to 255, and the last one there, modulo 128 and with 0x80 added; nothing else changes
pub record NoteStored (a after : MpeNoteAllocator) (note c : ℕ) : Type 0 where
  pub one_more : held_on after c ≡ min 255 (held_on a c + 1)
  pub last : last_on after c ≡ 0x80 + note % 128
  pub other_counts : (b : ℕ) → (b ≢ c) → held_on after b ≡ held_on a b
  pub other_notes : (b : ℕ) → (b ≢ c) → last_on after b ≡ last_on a b
  pub releases : (b : ℕ) → released_on after b ≡ released_on a b
  pub same_clock : after.clock ≡ a.clock
  pub same_option : after.same_note ≡ a.same_note

-- a note-off that met a note on channel c: one fewer there, released at the next clock, which is 0 after 4,294,967,295; nothing else changes
pub record NoteReleased (a after : MpeNoteAllocator) (c : ℕ) : Type 0 where
  pub one_fewer : held_on after c + 1 ≡ held_on a c
  pub released : released_on after c ≡ (a.clock + 1) % 4294967296
  pub next_clock : after.clock ≡ (a.clock + 1) % 4294967296
  pub other_counts : (b : ℕ) → (b ≢ c) → held_on after b ≡ held_on a b
  pub other_releases : (b : ℕ) → (b ≢ c) → released_on after b ≡ released_on a b
  pub notes : (b : ℕ) → last_on after b ≡ last_on a b
  pub same_option : after.same_note ≡ a.same_note

-- each note-on that gets a channel and each note-off, its channel taken modulo 16; one that meets no note changes nothing
pub record CallsStore (a : MpeNoteAllocator) : Type 0 where
  pub stored : (l : MpeLayout) (zone : MpeZone) (note c : ℕ) → answer_of a (note_on l zone note) ≡ note_reply (Ok c) → NoteStored a (after_call a (note_on l zone note)) note c
  pub released : (channel : ℕ) → 0 < held_on a (channel % 16) → NoteReleased a (after_call a (note_off channel)) (channel % 16)
  pub unmet : (channel : ℕ) → held_on a (channel % 16) ≡ 0 → after_call a (note_off channel) ≡ a

abbrev pub AlwaysStored : MpeNoteAllocator → Type 0
AlwaysStored new = (calls : List AllocatorCall) → CallsStore (after_calls new calls)
