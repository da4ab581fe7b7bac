-- Which channel a note got, as the two sentences of document 01, "The sending side", have it, with the tie of document 02, 2026-03.
use Rattle.std.specs.Prelude.{◌≡◌, ℕ, ◌+◌, ◌%◌, ◌<◌, ◌≤◌, true, ◌⊎◌, Result, Ok}
use Rattle.mpe_layout.specs.Layout.{members_of, lowest_of, role_of}
use Rattle.mpe_layout.specs.declared.MpeZone.{MpeZone}
use Rattle.mpe_layout.specs.declared.MpeZone.TheVariants.{Lower, Upper}
use Rattle.mpe_layout.specs.declared.MpeRole.TheVariants.{Member}
use Rattle.mpe_layout.specs.declared.MpeLayout.{MpeLayout}
use Rattle.mpe_allocator.specs.declared.MpeNoteAllocator.{MpeNoteAllocator}
use Rattle.mpe_layout.specs.declared.MemberError.{MemberError}
use Rattle.mpe_allocator.specs.Choice.{held_on, last_on, released_on, mark_of, recalls_on, Foremost, Chosen}

-- a fact of the channel that a note got
abbrev pub OfChannel : Result ℕ MemberError → (ℕ → Type 0) → Type 0
OfChannel reply fact = (c : ℕ) → reply ≡ Ok c → fact c

-- a member, by its number
abbrev pub MemberOf : MpeLayout → MpeZone → ℕ → Type 0
MemberOf l zone b = (lowest_of l zone ≤ b) × (b < lowest_of l zone + members_of l zone)

-- the channel has the role of a member
abbrev pub ChosenIsMember : MpeLayout → MpeZone → ℕ → Type 0
ChosenIsMember l zone c = role_of l c ≡ Member zone

-- no other channel is chosen
abbrev pub OneChosen : MpeNoteAllocator → MpeLayout → MpeZone → ℕ → ℕ → Type 0
OneChosen a l zone note c = (d : ℕ) → Chosen a l zone note d → c ≡ d

-- of two that tie, Lower takes the lower channel and Upper the higher
abbrev pub TakenOnTie : MpeZone → ℕ → ℕ → Type 0
TakenOnTie Lower c b = c ≤ b
TakenOnTie Upper c b = b ≤ c

-- with same-note on, a free channel whose last note is this one; notes are taken modulo 128, and a last note is kept with 0x80 added
abbrev pub LastPlayed : MpeNoteAllocator → ℕ → ℕ → Type 0
LastPlayed a note b = (a.same_note ≡ true) × (held_on a b ≡ 0) × (last_on a b ≡ 0x80 + note % 128)

-- such a member goes first: the chosen one is such a member, and of two of them it was released later, or at the same clock and is taken on the tie
abbrev pub RecallChosen : MpeNoteAllocator → MpeLayout → MpeZone → ℕ → ℕ → Type 0
RecallChosen a l zone note c =
    (b : ℕ) → MemberOf l zone b → LastPlayed a note b →
    LastPlayed a note c
    × ((released_on a b < released_on a c) ⊎ ((released_on a b ≡ released_on a c) × TakenOnTie zone c b))

-- where no member is such, the chosen one has the smallest (held count, last release), or has it with others and is taken on the tie
abbrev pub LeastChosen : MpeNoteAllocator → MpeLayout → MpeZone → ℕ → ℕ → Type 0
LeastChosen a l zone note c =
    ((d : ℕ) → MemberOf l zone d → LastPlayed a note d → ⊥) →
    (b : ℕ) → MemberOf l zone b →
    (held_on a c < held_on a b)
    ⊎ ((held_on a c ≡ held_on a b)
    × ((released_on a c < released_on a b) ⊎ ((released_on a c ≡ released_on a b) × TakenOnTie zone c b)))

-- the member that the Rust takes: the lowest on a tie, in either zone (mpe.rs, `note_on`)
abbrev pub LowestOnTie : MpeNoteAllocator → MpeLayout → MpeZone → ℕ → ℕ → Type 0
LowestOnTie a l zone note d = Foremost a Lower (mark_of note) (lowest_of l zone) (lowest_of l zone + members_of l zone) d

-- only a tie is turned round: the chosen member and the one that the Rust takes are alike in all that the searches compare, and in Lower they are one
abbrev pub OnlyTiesTurned : MpeNoteAllocator → MpeLayout → MpeZone → ℕ → ℕ → Type 0
OnlyTiesTurned a l zone note c =
    (d : ℕ) → LowestOnTie a l zone note d →
    (recalls_on a (mark_of note) c ≡ recalls_on a (mark_of note) d)
    × (held_on a c ≡ held_on a d)
    × (released_on a c ≡ released_on a d)
    × (zone ≡ Lower → c ≡ d)
