-- What stands before a text after one more byte.
-- Assumes nothing.
use mathlib.Core.Path.{◌≡◌, ◌∙◌, sym, ap}
use mathlib.Core.List.{List}
use Prim.Native.Nat.{ℕ, ◌≤◌}
use lib.ListN.{take, set, replicate}
use lib.Seq.{take-take}
use Rattle.std.proofs.lemmas.List.{take-set, take-replicate}

pub rest_before : (l : List ℕ) (i n v b : ℕ) → i ≤ n → take n l ≡ replicate n v → take i (set l i b) ≡ replicate i v
rest_before l i n v b h e = rw take-set (sym (take-take i n l h) ∙ ap (take i) e ∙ take-replicate i n v h)
