-- A rule of every number below n by one test that antt computes, carried to each of them; and a rule of n numbers from k on, shown of each by itself.
-- Assumes nothing.
use mathlib.Core.Path.{◌≡◌, sym, subst}
use mathlib.Core.Bool.{Bool, true, ◌&&◌}
use mathlib.Core.Logic.{⊎_elim}
use Prim.Native.Nat.{ℕ, zero, suc, ◌+◌, ◌<◌, ◌≤◌}
use native.Mathlib.Omega.{arith}
use lib.Dec.{eqb}
use borrow.Author.Tests.{eqb-true, eqb-false}
use native.Mathlib.Nat.{eq-or-lt_of_le, le_of_suc-le-suc, not-suc-le-zero}
use Rattle.ump.proofs.Cases.{by-test, both}

-- a test at every number below n
abbrev pub every_below : (ℕ → Bool) → ℕ → Bool
every_below p zero = true
every_below p (suc n) = every_below p n && p n

pub at : (p : ℕ → Bool) (n : ℕ) → every_below p n ≡ true → (k : ℕ) → k < n → p k ≡ true
at p zero e k h = absurd (not-suc-le-zero h)
at p (suc n) e k h =
    ⊎_elim
    (λ (i : k ≡ n). rw i (both (every_below p n) (p n) e).1)
    (λ (b : k < n). at p n (both (every_below p n) (p n) e).0 k b)
    (eq-or-lt_of_le (le_of_suc-le-suc h))

-- what holds of n numbers from k on, of each by itself, holds of every number there
abbrev pub FromOn : (ℕ → Type 0) → ℕ → ℕ → Type 0
FromOn P zero k = Unit {0}
FromOn P (suc n) k = P k × FromOn P n (suc k)

pub of-each : (P : ℕ → Type 0) (n k : ℕ) → FromOn P n k → (i : ℕ) → k ≤ i → i < k + n → P i
of-each P zero k p i h g = absurd (omega arith)
of-each P (suc n) k p i h g =
    by-test (eqb i k)
    (λ e. subst P (sym (eqb-true i k e)) p.0)
    (λ e. let d = eqb-false i k e in of-each P n (suc k) p.1 i (omega arith) (omega arith))
