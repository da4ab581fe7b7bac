-- What was given is no refusal, and says what it is; and what was given after another reading.
-- Assumes nothing.
use Prim.Native.Nat.{ℕ}
use mathlib.Core.Path.{◌≡◌, refl}
use mathlib.Core.List.{List}
use native.Mathlib.Omega.{arith}
use Rattle.ump.specs.Outcome.{Outcome, given, declined}
use Rattle.setup_file.specs.Read.{and_then}

pub same-given : {A : Type 0} (a b : A) → given a ≡ given b → a ≡ b
same-given a b e = cc

pub same-refusal : {A : Type 0} {m n : ℕ} {u v : List ℕ} → ◌≡◌ {A = Outcome A} (declined m u) (declined n v) → m ≡ n
same-refusal e = cc

pub not-given : {A P : Type 0} {n : ℕ} {v : List ℕ} {a : A} → declined n v ≡ given a → P
not-given e = absurd (let z : ◌≡◌ {A = ℕ} 0 1 = cc in omega arith)

-- of two readings, one after the other, both gave something
pub both-given : {A B : Type 0} (o : Outcome A) (next : A → Outcome B) (b : B) → and_then o next ≡ given b → (a : A) × (o ≡ given a) × (next a ≡ given b)
both-given (given a) next b e = (a, refl, e)
both-given (declined n v) next b e = not-given e
