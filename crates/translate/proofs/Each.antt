-- A fact of each number below a bound, and of any one of them.
-- Assumes nothing.
use mathlib.Core.Path.{◌≡◌, sym, subst}
use mathlib.Core.Logic.{⊎_elim}
use Prim.Native.Nat.{ℕ, zero, suc, ◌<◌}
use native.Mathlib.Nat.{eq-or-lt_of_le, not-suc-le-zero, le_of_suc-le-suc}

-- a fact of each number below n
pub data Each (P : ℕ → Type 0) : ℕ → Type 0 where
  nothing : Each P zero
  ◌and◌ : {n : ℕ} → Each P n → P n → Each P (suc n)

infixl 1 ◌and◌
pub at : {P : ℕ → Type 0} {n : ℕ} → Each P n → (k : ℕ) → k < n → P k
at nothing k h = absurd (not-suc-le-zero h)
at {P} (all and p) k h =
    ⊎_elim (λ (e : k ≡ _). subst P (sym e) p) (λ b. at all k b) (eq-or-lt_of_le (le_of_suc-le-suc h))
