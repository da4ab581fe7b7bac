-- The byte at a place of a list.
-- Assumes nothing.
use Prim.Native.Nat.{ℕ, ◌+◌, ◌<◌}
use mathlib.Core.Path.{◌≡◌, sym, ap, ◌∙◌}
use mathlib.Core.List.{List, ◌∷◌}
use native.Mathlib.Nat.{add-zero}
use native.Mathlib.Numerals.{add-one}
use lib.ListN.{length, get_or, drop}
use lib.Seq.{drop-cons, get_or-drop}

-- a byte at a place before the end, and those behind it
pub drop-byte : (at : ℕ) (l : List ℕ) → at < length l → drop at l ≡ get_or l at 0 ∷ drop (at + 1) l
drop-byte at l h = drop-cons l at 0 h ∙ ap (λ n. get_or l at 0 ∷ drop n l) (sym (add-one at))

-- the byte at the place
pub get_or-here : (at : ℕ) (l : List ℕ) → get_or (drop at l) 0 0 ≡ get_or l at 0
get_or-here at l = get_or-drop at l 0 0 ∙ ap (λ k. get_or l k 0) (add-zero at)
