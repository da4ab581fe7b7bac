-- Groups and channels (M2-104 2.1.2): packet values 0 to 15, user-facing numbers 1 to 16.
use Rattle.std.specs.Prelude.{ℕ, ◌-◌, ◌%◌, ltb, eqb, Result, Ok, Err}
use Rattle.ump.specs.Choice.{when◌then◌else◌}
use Rattle.ump.specs.Outcome.{Outcome, given, out_of_range}
use Rattle.ump.specs.declared.reply.OutOfRange.{OutOfRange}

-- what a call answers that makes one, by its packet value
abbrev pub numbered_as : {A : Type 0} → (A → ℕ) → Result A OutOfRange → Outcome ℕ
numbered_as index_of (Ok a) = given (index_of a)
numbered_as index_of (Err e) = out_of_range

-- the low 4 bits
abbrev pub packet_value : ℕ → ℕ
packet_value v = v % 16

-- a packet value, refused above 15
abbrev pub from_index : ℕ → Outcome ℕ
from_index i = when ltb 0xF i then out_of_range else given i

-- a user-facing number, refused outside 1 to 16
abbrev pub from_number : ℕ → Outcome ℕ
from_number n = when eqb n 0 then out_of_range else when ltb 16 n then out_of_range else given (n - 1)
