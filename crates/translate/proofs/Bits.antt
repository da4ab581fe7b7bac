-- Bits of a byte of flags: where one is not set there is room for it, and where it is set the byte is no less.
-- Assumes nothing.
use mathlib.Core.Path.{◌≡◌, refl}
use mathlib.Core.Bool.{Bool, true, false, ◌||◌}
use Prim.Native.Nat.{ℕ, ◌+◌, ◌/◌, ◌%◌, ◌^◌, ◌<◌, ◌≤◌}
use native.Mathlib.Nat.{le-div_iff_mul-le}
use native.Mathlib.Omega.{arith}
use lib.Pow.{pow_pos}
use lib.Dec.{ltb}
use borrow.Author.Tests.{ltb-true, eqb-true}
use Rattle.ump.proofs.Below.{every_below, at}
use Rattle.translate_state.specs.State.{bit_in}

or-right : (x y : Bool) → x || y ≡ true → x ≡ false → y ≡ true
or-right true y h f = cc
or-right false y h f = h

abbrev room : ℕ → ℕ → Bool
room f k = bit_in k f || ltb (f + 2 ^ k) (2 ^ 8)

pub room_for_bit : (f k : ℕ) → f < 2 ^ 8 → k < 8 → bit_in k f ≡ false → f + 2 ^ k < 2 ^ 8
room_for_bit f k h l n =
    let all : every_below (λ g. every_below (room g) 8) 256 ≡ true = refl in
    ltb-true (f + 2 ^ k) (2 ^ 8) (or-right (bit_in k f) (ltb (f + 2 ^ k) (2 ^ 8)) (at (room f) 8 (at (λ g. every_below (room g) 8) 256 all f h) k l) n)

pub bit_below : (f k : ℕ) → bit_in k f ≡ true → 2 ^ k ≤ f
bit_below f k s =
    let e : f / 2 ^ k % 2 ^ 1 ≡ 1 = eqb-true (f / 2 ^ k % 2 ^ 1) 1 s in
    omega (arith, (le-div_iff_mul-le {k = 2 ^ k} {x = 1} {y = f} (pow_pos k)).0 (omega arith))
