-- A channel at rest, by its whole bend.
-- Assumes nothing.
use Prim.Native.Nat.{ℕ, ◌/◌, ◌%◌, ◌^◌}
use mathlib.Core.Path.{◌≡◌}
use mathlib.Core.Bool.{◌&&◌}
use native.Mathlib.Omega.{arith}
use lib.Dec.{eqb}
use borrow.Author.Tests.{ne_eqb, eqb-true, eqb-false}
use Rattle.ump.proofs.Cases.{by-test}
use Rattle.setup_file.specs.Format.{at_rest}

-- the halves of a bend are at rest exactly at 0x2000
pub rest_of_bend : (bend pressure brightness : ℕ)
    → at_rest (bend / 2 ^ 7) (bend % 2 ^ 7) pressure brightness ≡ (eqb bend 0x2000 && (eqb pressure 0 && eqb brightness 64))
unfolding at_rest
rest_of_bend bend pressure brightness =
    by-test (eqb bend 0x2000)
    (λ t.
    let e : bend ≡ 0x2000 = eqb-true bend 0x2000 t in
    by-test (eqb pressure 0) (λ p. rw (e, p)) (λ p. rw (e, p)))
    (λ f.
    let n = eqb-false bend 0x2000 f in
    by-test (eqb (bend / 2 ^ 7) 64)
    (λ t.
    let m : bend / 2 ^ 7 ≡ 64 = eqb-true (bend / 2 ^ 7) 64 t in
    let l : bend % 2 ^ 7 ≡ 0 → ⊥ = λ z. n (omega arith) in
    rw (f, t, ne_eqb (bend % 2 ^ 7) 0 l))
    (λ t. rw (f, t)))
