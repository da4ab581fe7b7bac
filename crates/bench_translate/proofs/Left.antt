-- A run of translations goes on as it began: one message taken, and the rest left.
-- Assumes nothing.
use Rattle.std.proofs.Common.{◌≡◌, ℕ, ◌+◌, ◌<◌, List, length, get_or, drop, add-one, drop-cons}
use Rattle.translate_state.specs.declared.Midi1ToMidi2Group.{Midi1ToMidi2Group}
use Rattle.translate.specs.Translate.{translation_of, record_after}
use Rattle.bench_translate.specs.Runs.{added_answer, answer_code, translations_sum}

pub translations-left : (r next : Midi1ToMidi2Group) (sum added : ℕ) (l : List ℕ) (i : ℕ) → i < length l
    → next ≡ record_after r (get_or l i 0) → added ≡ added_answer sum (answer_code (translation_of r (get_or l i 0)))
    → translations_sum next added (drop (i + 1) l) ≡ translations_sum r sum (drop i l)
unfolding translations_sum
translations-left r next sum added l i h n a = rw (add-one, drop-cons l i 0 h, n, a)
