-- Widths and values in range, and shifts that lose nothing.
-- Assumes nothing.
use mathlib.Core.Path.{◌≡◌, ◌∙◌, sym, subst}
use mathlib.Core.Bool.{Bool, true, ◌&&◌}
use Prim.Native.Nat.{ℕ, ◌-◌, ◌*◌, ◌/◌, ◌%◌, ◌^◌, ◌<◌, ◌≤◌}
use native.Mathlib.Nat.{lt_trans, lt_of_lt_of_le, one-mul, mul_comm, mod-eq_of_lt, div-lt_iff_lt-mul}
use native.Mathlib.Omega.{arith}
use lib.Dec.{ltb, leb}
use lib.Bits.{bit_and, and_mask}
use lib.Pow.{pow_pos, pow_mono, pow-add, pow-lt, shl_exact, shl_lt}
use mir.Syntax.{w32}
use mir.Val.{Fits}
use borrow.Author.Tests.{leb-true, ltb-true, le-leb, lt-ltb}
use Rattle.ump.proofs.Cases.{both}
use Rattle.scale.specs.Scale.{widens, narrows}

-- widths from 1 to 32, one of them the lesser, and a value below p
pub record Ranged (few many p v : ℕ) : Type 0 where
  pub low : 1 ≤ few
  pub top : many ≤ 32
  pub more : few < many
  pub fits : v < p

abbrev test : ℕ → ℕ → ℕ → ℕ → Bool
test few many p v = leb 1 few && (leb many 32 && (ltb few many && ltb v p))

ranged : (few many p v : ℕ) → test few many p v ≡ true → Ranged few many p v
ranged few many p v h =
    let a = both (leb 1 few) (leb many 32 && (ltb few many && ltb v p)) h in
    let b = both (leb many 32) (ltb few many && ltb v p) a.1 in
    let c = both (ltb few many) (ltb v p) b.1 in
    record { low = leb-true 1 few a.0; top = leb-true many 32 b.0; more = ltb-true few many c.0; fits = ltb-true v p c.1 }

holds : (few many p v : ℕ) → Ranged few many p v → test few many p v ≡ true
holds few many p v r =
    rw (le-leb 1 few r.low, le-leb many 32 r.top, lt-ltb few many r.more, lt-ltb v p r.fits)

pub widening : (s d v : ℕ) → widens s d v ≡ true → Ranged s d (2 ^ s) v
unfolding widens
widening s d v h = ranged s d (2 ^ s) v h

pub widens-holds : (s d v : ℕ) → Ranged s d (2 ^ s) v → widens s d v ≡ true
unfolding widens
widens-holds s d v r = holds s d (2 ^ s) v r

pub narrowing : (s d v : ℕ) → narrows s d v ≡ true → Ranged d s (2 ^ s) v
unfolding narrows
narrowing s d v h = ranged d s (2 ^ s) v h

pub narrows-holds : (s d v : ℕ) → Ranged d s (2 ^ s) v → narrows s d v ≡ true
unfolding narrows
narrows-holds s d v r = holds d s (2 ^ s) v r

-- a value of a word has any more bits
pub within : (v n : ℕ) → v < 2 ^ 32 → 32 ≤ n → leb 32 n ≡ ltb v (2 ^ n)
within v n h l = le-leb 32 n l ∙ sym (lt-ltb v (2 ^ n) (lt_of_lt_of_le h (pow_mono l)))

-- 1 shifted inside a word
pub one_shifted : (k w : ℕ) → k < w → 1 * 2 ^ k % 2 ^ w ≡ 2 ^ k
one_shifted k w h = rw (one-mul (2 ^ k)) (mod-eq_of_lt (pow-lt h))

-- a mask of the n low bits
pub masked : (v n : ℕ) → n < 32 → bit_and v (1 * 2 ^ n % 2 ^ 32 - 1) ≡ v % 2 ^ n
masked v n h = rw (one_shifted n 32 h) (and_mask v n)

-- a value of s bits, shifted to d
pub shifted : (s d v : ℕ) → s ≤ d → d ≤ 32 → v < 2 ^ s → v * 2 ^ (d - s) % 2 ^ 32 ≡ v * 2 ^ (d - s)
shifted s d v h t l = shl_exact s (d - s) 32 l (omega arith)

-- n bits, shifted up by k and down by n, are k bits
pub up-down-lt : (a n k : ℕ) → a < 2 ^ n → a * 2 ^ k / 2 ^ n < 2 ^ k
up-down-lt a n k h =
    (div-lt_iff_lt-mul {k = 2 ^ n} {x = a * 2 ^ k} {y = 2 ^ k} (pow_pos n)).1
    (subst (λ (x : ℕ). a * 2 ^ k < x) (pow-add 2 n k ∙ mul_comm (2 ^ n) (2 ^ k)) (shl_lt n k h))

pub up-down-fits : (a n k : ℕ) → a < 2 ^ n → n < 32 → k < 32 → Fits w32 (a * 2 ^ k % 2 ^ 64 / 2 ^ n)
up-down-fits a n k h m l =
    record { fits = rw (shl_exact n k 64 h (omega arith)) (lt_trans (up-down-lt a n k h) (pow-lt l)) }

pub ruleset repeats = (shl_exact, up-down-fits)
