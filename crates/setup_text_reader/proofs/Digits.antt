-- The digits of a number, one after the other.
-- Assumes nothing.
use Prim.Native.Nat.{ℕ, ◌+◌, ◌-◌, ◌*◌, ◌^◌, ◌<◌, ◌≤◌}
use mathlib.Core.Path.{◌≡◌}
use mathlib.Core.List.{List}
use native.Mathlib.Nat.{pow-suc, pow-le-pow_right}
use native.Mathlib.Numerals.{add-one}
use native.Mathlib.Omega.{arith}
use lib.ListN.{length, get_or, drop, drop_of_length-le}
use borrow.Author.Tests.{lt-ltb, le-ltb}
use Rattle.ump.specs.Outcome.{given}
use Rattle.setup_file.proofs.Printable.{drop-byte}
use Rattle.setup_text.specs.Parse.{no_item, digits_read}

pub digits-end : (v : ℕ) (l : List ℕ) (k : ℕ) → length l ≤ k → digits_read v (drop k l) ≡ given v
unfolding digits_read
digits-end v l k h = rw (drop_of_length-le l h)

module _ (v : ℕ) (l : List ℕ) (k : ℕ) (h : k < length l) where
  pub digits_low : get_or l k 0 < 0x30 → digits_read v (drop k l) ≡ no_item
  unfolding digits_read
  digits_low low = rw (drop-byte k l h, lt-ltb (get_or l k 0) 0x30 low)

  pub digits-high : 0x39 < get_or l k 0 → digits_read v (drop k l) ≡ no_item
  unfolding digits_read
  digits-high high = rw (drop-byte k l h, le-ltb (get_or l k 0) 0x30 (let z : 0x30 ≤ get_or l k 0 = omega arith in z), lt-ltb 0x39 (get_or l k 0) high)

  pub digits-next : 0x30 ≤ get_or l k 0 → get_or l k 0 ≤ 0x39 → digits_read v (drop k l) ≡ digits_read (10 * v + (get_or l k 0 - 0x30)) (drop (k + 1) l)
  unfolding digits_read
  digits-next low high = rw (drop-byte k l h, le-ltb (get_or l k 0) 0x30 low, le-ltb 0x39 (get_or l k 0) high)

-- k digits say less than 10 ^ k
pub digit-more : (v d k : ℕ) → v < 10 ^ k → d ≤ 9 → 10 * v + d < 10 ^ (k + 1)
digit-more v d k h g = rw (add-one k, pow-suc 10 k) (omega arith)

pub five-digits : (v k : ℕ) → k ≤ 5 → v < 10 ^ k → v < 100000
five-digits v k h g = let z : 10 ^ k ≤ 10 ^ 5 = pow-le-pow_right (omega arith) h in omega arith
