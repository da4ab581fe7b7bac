-- How many digits a number has.
-- Assumes nothing.
use Prim.Native.Nat.{ℕ, zero, suc, ◌+◌, ◌/◌, ◌%◌, ◌^◌, ◌<◌, ◌≤◌}
use mathlib.Core.Path.{ap, ◌∙◌}
use mathlib.Core.List.{[], ◌∷◌}
use native.Mathlib.Nat.{pow-suc}
use native.Mathlib.Omega.{arith}
use lib.Dec.{ltb}
use lib.ListN.{length, length-append}
use borrow.Author.Tests.{ltb-true, ltb-false}
use Rattle.ump.proofs.Cases.{by-test}
use Rattle.sweep_text.specs.Decimal.{decimal}
use Rattle.sweep_text.proofs.Digits.{one-digit, more-digits}

-- a number below 10 ^ k has at most k digits, and it has one
pub digits-most : (k n : ℕ) → n < 10 ^ suc k → length (decimal n) ≤ suc k
digits-most zero n h = let e = ap length (one-digit n (omega (arith, pow-suc 10 0))) in omega arith
digits-most (suc k) n h =
    by-test (ltb n 10)
    (λ t. let e = ap length (one-digit n (ltb-true n 10 t)) in omega arith)
    (λ f.
    let l = ltb-false n 10 f in
    let m : n / 10 < 10 ^ suc k = omega (arith, pow-suc 10 (suc k)) in
    let e = ap length (more-digits n l) ∙ length-append (decimal (n / 10)) ((0x30 + n % 10) ∷ []) in
    omega (arith, digits-most k (n / 10) m))

pub digits-some : (n : ℕ) → 1 ≤ length (decimal n)
digits-some n =
    by-test (ltb n 10)
    (λ t. let e = ap length (one-digit n (ltb-true n 10 t)) in omega arith)
    (λ f. let e = ap length (more-digits n (ltb-false n 10 f)) ∙ length-append (decimal (n / 10)) ((0x30 + n % 10) ∷ []) in omega arith)
