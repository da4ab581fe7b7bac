-- A run of calls goes on as it began: one element taken, and the rest left.
-- Assumes nothing.
use Rattle.std.proofs.Common.{◌≡◌, ℕ, ◌+◌, ◌<◌, List, length, get_or, drop, add-one, drop-cons}
use Rattle.mpe_receiver.specs.Read.{offset_of}
use Rattle.receiving_end.specs.declared.end.End.{End}
use Rattle.bench_calls.specs.declared.Noted.{Noted}
use Rattle.bench_calls.specs.Runs.{added, magnitude_in, offsets_sum, noted, noted_all}

pub offsets_left : (e : End) (sum next : ℕ) (l : List ℕ) (i : ℕ) → i < length l
    → next ≡ added sum (magnitude_in (offset_of e.receiver (get_or l i 0)))
    → offsets_sum e next (drop (i + 1) l) ≡ offsets_sum e sum (drop i l)
unfolding offsets_sum
offsets_left e sum next l i h n = rw (add-one, drop-cons l i 0 h, n)

pub notes_left : (n next : Noted) (l : List ℕ) (i : ℕ) → i < length l → next ≡ noted n (get_or l i 0)
    → noted_all next (drop (i + 1) l) ≡ noted_all n (drop i l)
unfolding noted_all
notes_left n next l i h e = rw (add-one, drop-cons l i 0 h, e)
