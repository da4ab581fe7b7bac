-- A run of calls goes on as it began: one byte taken, and the rest left.
-- Assumes nothing.
use Rattle.std.proofs.Common.{◌≡◌, ℕ, ◌+◌, ◌<◌, List, length, get_or, drop, add-one, drop-cons}
use Rattle.receiving_end.specs.declared.end.End.{End}
use Rattle.receiving_end.specs.End.{step_reply, step_end}
use Rattle.bench_lent.specs.Code.{reply_code}
use Rattle.bench_value.specs.Runs.{added_reply, replies_sum}

pub replies_left : (e next : End) (sum added : ℕ) (l : List ℕ) (i : ℕ) → i < length l
    → next ≡ step_end e (get_or l i 0) → added ≡ added_reply sum (reply_code (step_reply e (get_or l i 0)))
    → replies_sum next added (drop (i + 1) l) ≡ replies_sum e sum (drop i l)
unfolding replies_sum
replies_left e next sum added l i h n a = rw (add-one, drop-cons l i 0 h, n, a)
