-- Lists of bytes: one byte more, and one list after another.
-- Assumes nothing.
use Prim.Native.Nat.{ℕ, ◌+◌, ◌<◌}
use mathlib.Core.Path.{◌≡◌, refl, ap, sym, ◌∙◌}
use mathlib.Core.List.{List, [], ◌∷◌, ◌++◌, map}
use native.Mathlib.Numerals.{add-one}
use lib.ListN.{length, take, get_or}
use lib.Seq.{take-suc}
use Rattle.receiving_end.specs.declared.end.End.{End}
use Rattle.receiving_end.specs.End.{step_end}
use Rattle.receiving_end.specs.Lists.{byte_by_value, after, after_bytes}

-- bytes are a list of byte calls
pub bytes_are_calls : (e : End) (bytes : List ℕ) → after e (map byte_by_value bytes) ≡ after_bytes e bytes
unfolding after_bytes after
bytes_are_calls e [] = refl
bytes_are_calls e (b ∷ bytes) = bytes_are_calls (step_end e b) bytes

pub bytes-after-bytes : (e : End) (a b : List ℕ) → after_bytes e (a ++ b) ≡ after_bytes (after_bytes e a) b
unfolding after_bytes
bytes-after-bytes e [] b = refl
bytes-after-bytes e (x ∷ a) b = bytes-after-bytes (step_end e x) a b

pub one_byte_more : (e : End) {x y : End} (l : List ℕ) (i : ℕ) → i < length l → x ≡ after_bytes e (take i l) → y ≡ step_end x (get_or l i 0)
    → y ≡ after_bytes e (take (i + 1) l)
unfolding after_bytes
one_byte_more e {x} l i h p q =
    rw (add-one, take-suc l i 0)
    (q ∙ ap (λ z. step_end z (get_or l i 0)) p ∙ sym (bytes-after-bytes e (take i l) (get_or l i 0 ∷ [])))
