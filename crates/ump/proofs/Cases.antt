-- Two cases by a test, two tests at once, and a choice by a test.
-- Assumes nothing.
use mathlib.Core.Path.{◌≡◌, refl, ap}
use mathlib.Core.Bool.{Bool, true, false, ◌&&◌}
use Prim.Native.Nat.{ℕ}
use native.Mathlib.Omega.{arith}
use Rattle.ump.specs.Choice.{when◌then◌else◌}

pub by-test : {P : Type 0} (b : Bool) → (b ≡ true → P) → (b ≡ false → P) → P
by-test true t f = t refl
by-test false t f = f refl

-- two tests that hold together
pub both : (x y : Bool) → x && y ≡ true → (x ≡ true) × (y ≡ true)
both true y h = (refl, h)
both false y h = absurd (let z : ◌≡◌ {A = ℕ} 0 1 = cc in omega arith)

-- what holds of both is true of the one that is chosen
pub of-both : {A : Type 0} (P : A → Type 0) (b : Bool) {x y : A} → P x → P y → P (when b then x else y)
of-both P true p q = p
of-both P false p q = q

-- a choice whose test holds, and one whose test fails
pub chosen : {A : Type 0} {b : Bool} (x y : A) → b ≡ true → (when b then x else y) ≡ x
chosen x y p = ap (λ t. when t then x else y) p

pub passed : {A : Type 0} {b : Bool} (x y : A) → b ≡ false → (when b then x else y) ≡ y
passed x y p = ap (λ t. when t then x else y) p
