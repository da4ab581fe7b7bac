-- A run of byte calls by value, and the sum of its replies, kept to 64 bits.
use Rattle.std.specs.Prelude.{ℕ, ◌+◌, ◌%◌, ◌^◌, List, [], ◌∷◌}
use Rattle.receiving_end.specs.declared.end.End.{End}
use Rattle.receiving_end.specs.End.{step_reply, step_end}
use Rattle.bench_lent.specs.Code.{reply_code}

abbrev pub added_reply : ℕ → ℕ → ℕ
added_reply sum n = (sum + n) % 2 ^ 64

-- the end receives the bytes, and their replies are added
unfoldable pub replies_sum : End → ℕ → List ℕ → ℕ
replies_sum e sum [] = sum
replies_sum e sum (b ∷ bs) = replies_sum (step_end e b) (added_reply sum (reply_code (step_reply e b))) bs
