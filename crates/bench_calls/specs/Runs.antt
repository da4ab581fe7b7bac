-- Runs of calls by value, and the sums of their answers, kept to 64 bits.
use Rattle.std.specs.Prelude.{ℕ, ◌+◌, ◌%◌, ◌^◌, false, List, [], ◌∷◌, ℤ, nat_lt, unsigned_abs}
use Rattle.ump.specs.Choice.{when◌then◌else◌}
use Rattle.ump.specs.Outcome.{Outcome, given, declined}
use Rattle.ump.specs.Packet.{packet_value}
use Rattle.mpe_layout.specs.declared.MpeLayout.{MpeLayout}
use Rattle.mpe_layout.specs.declared.MpeZone.TheVariants.{Lower}
use Rattle.mpe_layout.specs.Layout.{member_found}
use Rattle.mpe_receiver.specs.Read.{offset_of}
use Rattle.mpe_allocator.specs.declared.Allocation.{Allocation}
use Rattle.mpe_allocator.specs.Allocator.{emptied, allocation_of, without_note}
use Rattle.receiving_end.specs.declared.end.End.{End}
use Rattle.bench_calls.specs.declared.Noted.{Noted}

-- the magnitude of an offset, 0 where there is none
abbrev pub magnitude_in : Outcome ℤ → ℕ
magnitude_in (given z) = unsigned_abs z
magnitude_in (declined n v) = 0

-- the channel of a note, 0 where there is none
abbrev pub channel_in : Outcome ℕ → ℕ
channel_in (given c) = c
channel_in (declined n v) = 0

abbrev pub added : ℕ → ℕ → ℕ
added sum n = (sum + n) % 2 ^ 64

-- the end gives the offset of each of the channels, and their magnitudes are added
unfoldable pub offsets_sum : End → ℕ → List ℕ → ℕ
offsets_sum e sum [] = sum
offsets_sum e sum (c ∷ cs) = offsets_sum e (added sum (magnitude_in (offset_of e.receiver c))) cs

-- a Lower zone of fifteen members
abbrev pub fifteen : MpeLayout
fifteen = record { lower = 15; upper = 0 }

abbrev pub begun : Noted → Allocation → Noted
begun n on = record { allocator = on.allocator; sum = added n.sum (channel_in (member_found on.reply)) }

abbrev pub ended : Noted → ℕ → Noted
ended n c = record { allocator = without_note n.allocator (packet_value c); sum = n.sum }

-- a byte below 80 starts a note, any other ends one
unfoldable pub noted : Noted → ℕ → Noted
noted n b = when nat_lt b 0x80 then begun n (allocation_of n.allocator fifteen Lower b) else ended n b

unfoldable pub noted_all : Noted → List ℕ → Noted
noted_all n [] = n
noted_all n (b ∷ bs) = noted_all (noted n b) bs

abbrev pub notes_sum : List ℕ → ℕ
notes_sum bs = (noted_all (record { allocator = emptied false; sum = 0 }) bs).sum
