-- The parts of a text between one byte and the next.
-- Assumes nothing.
use Prim.Native.Nat.{ℕ}
use mathlib.Core.Path.{◌≡◌, refl, ap}
use mathlib.Core.List.{List, [], ◌∷◌, ◌++◌}
use borrow.Author.Tests.{eq-eqb, ne_eqb}
use Rattle.std.specs.List.{onto_first}
use Rattle.setup_text.specs.Parse.{parts_at}

-- a text without such a byte
abbrev pub Without : ℕ → List ℕ → Type 0
Without stop [] = Unit {0}
Without stop (b ∷ text) = (b ≡ stop → ⊥) × Without stop text

pub without-append : (stop : ℕ) (u v : List ℕ) → Without stop u → Without stop v → Without stop (u ++ v)
without-append stop [] v h g = g
without-append stop (b ∷ u) v h g = (h.0, without-append stop u v h.1 g)

-- it is one part
pub parts-one : (stop : ℕ) (u : List ℕ) → Without stop u → parts_at stop u ≡ u ∷ []
unfolding parts_at
parts-one stop [] h = refl
parts-one stop (b ∷ u) h = rw (ne_eqb b stop h.0) (ap (onto_first b) (parts-one stop u h.1))

-- and before such a byte it is the first part
pub parts_more : (stop : ℕ) (u v : List ℕ) → Without stop u → parts_at stop (u ++ (stop ∷ v)) ≡ u ∷ parts_at stop v
unfolding parts_at
parts_more stop [] v h = rw (eq-eqb stop stop refl)
parts_more stop (b ∷ u) v h = rw (ne_eqb b stop h.0) (ap (onto_first b) (parts_more stop u v h.1))
