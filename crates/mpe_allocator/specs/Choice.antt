-- Which member channel takes a new note (M1-100 2.2.4.1, Appendix A.3; document 01, "The sending side"; document 02, 2026-03).
use Rattle.std.specs.Prelude.{◌≡◌, ℕ, zero, suc, ◌+◌, ◌%◌, ◌^◌, ◌<◌, ◌≤◌, Bool, true, false, ◌==◌, nat_eq, nat_le, nat_lt, slice_index}
use Rattle.ump.specs.Choice.{when◌then◌else◌}
use Rattle.mpe_layout.specs.Layout.{members_of, lowest_of}
use Rattle.mpe_layout.specs.declared.MpeZone.{MpeZone}
use Rattle.mpe_layout.specs.declared.MpeZone.TheVariants.{Lower, Upper}
use Rattle.mpe_layout.specs.declared.MpeLayout.{MpeLayout}
use Rattle.mpe_allocator.specs.declared.MpeNoteAllocator.{MpeNoteAllocator}

-- of a channel: how many notes it holds, the mark of its last note, and the clock at its last release
abbrev pub held_on : MpeNoteAllocator → ℕ → ℕ
held_on a c = slice_index a.active c

abbrev pub last_on : MpeNoteAllocator → ℕ → ℕ
last_on a c = slice_index a.last_note c

abbrev pub released_on : MpeNoteAllocator → ℕ → ℕ
released_on a c = slice_index a.last_off c

-- the mark of a note: its low 7 bits below a set bit, since 0 is no note
abbrev pub mark_of : ℕ → ℕ
mark_of note = 0x80 + note % 2 ^ 7

-- of two members that tie, the one nearer to the manager of the zone goes first: in Lower the lower, in Upper the higher (document 02, 2026-03)
unfoldable pub tie_first : MpeZone → ℕ → ℕ → Bool
tie_first Lower c b = nat_le c b
tie_first Upper c b = nat_le b c

-- the smaller number goes first, and equal ones leave it to the rest
unfoldable pub smaller_first : ℕ → ℕ → Bool → Bool
smaller_first x y rest = when x == y then rest else nat_lt x y

-- under the same-note option, a free channel recalls the note that it played last (A.3)
unfoldable pub recalls : Bool → ℕ → ℕ → ℕ → Bool
recalls option held last mark = when option then (when nat_eq held 0 then (last == mark) else false) else false

abbrev pub recalls_on : MpeNoteAllocator → ℕ → ℕ → Bool
recalls_on a mark c = recalls a.same_note (held_on a c) (last_on a c) mark

-- the latest release goes first
unfoldable pub latest_first : MpeNoteAllocator → MpeZone → ℕ → ℕ → Bool
latest_first a zone c b = smaller_first (released_on a b) (released_on a c) (tie_first zone c b)

-- the smallest pair of held notes and last release goes first
unfoldable pub idlest_first : MpeNoteAllocator → MpeZone → ℕ → ℕ → Bool
idlest_first a zone c b =
    smaller_first (held_on a c) (held_on a b) (smaller_first (released_on a c) (released_on a b) (tie_first zone c b))

-- a channel that recalls goes before one that does not; of two that recall `latest` decides, of two others `idlest`
unfoldable pub by_recall : Bool → Bool → Bool → Bool → Bool
by_recall c b latest idlest = when c then (when b then latest else true) else (when b then false else idlest)

-- channel c goes before channel b, for a note of this mark in a zone
unfoldable pub goes_first : MpeNoteAllocator → MpeZone → ℕ → ℕ → ℕ → Bool
goes_first a zone mark c b =
    by_recall (recalls_on a mark c) (recalls_on a mark b) (latest_first a zone c b) (idlest_first a zone c b)

-- c is one of the channels from `first` up to below `end`, and goes before each of them
pub record Foremost (a : MpeNoteAllocator) (zone : MpeZone) (mark first end c : ℕ) : Type 0 where
  pub from : first ≤ c
  pub below : c < end
  pub before : (b : ℕ) → first ≤ b → b < end → goes_first a zone mark c b ≡ true

-- the member of a zone that takes a note: it goes before each member
abbrev pub Chosen : MpeNoteAllocator → MpeLayout → MpeZone → ℕ → ℕ → Type 0
Chosen a l zone note c = Foremost a zone (mark_of note) (lowest_of l zone) (lowest_of l zone + members_of l zone) c

-- the same, computed: the foremost of `first` and the n channels above it
abbrev pub foremost_of : MpeNoteAllocator → MpeZone → ℕ → ℕ → ℕ → ℕ
foremost_of a zone mark b c = when goes_first a zone mark c b then c else b

unfoldable pub choice : MpeNoteAllocator → MpeZone → ℕ → ℕ → ℕ → ℕ
choice a zone mark first zero = first
choice a zone mark first (suc n) = foremost_of a zone mark (choice a zone mark first n) (first + suc n)
