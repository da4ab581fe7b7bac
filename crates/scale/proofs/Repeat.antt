-- A value with its bits repeated below it: its own bits stay on top, each bit below them equals the one s - 1 places above it, and it is the sum
-- of the repeats.
-- Assumes nothing.
use mathlib.Core.Path.{◌≡◌, sym, ap, ◌∙◌, subst}
use Prim.Native.Nat.{ℕ, zero, suc, ◌+◌, ◌-◌, ◌*◌, ◌/◌, ◌%◌, ◌^◌, ◌<◌, ◌≤◌}
use native.Mathlib.Nat.{zero-add, suc-add, add_comm, pow-succ', mul_comm, mul_assoc, mod-one, div-one, lt_of_lt_of_le, div-eq_of_lt, div-lt_self, div-lt_iff_lt-mul, div-div-eq-div-mul, mul-add-div_right, mod-lt, add-zero}
use native.Mathlib.Numerals.{add-one}
use native.Mathlib.Omega.{arith}
use lib.Pow.{pow_pos, pow_mono, pow-add, shr-shr, shl-shr, split, high, mod-pow-add}
use lib.Pow as P
use lib.Dec.{leb, eqb, lit<}
use borrow.Author.Tests.{leb-true, leb-false, eqb-true, eqb-false}
use lib.Arith.{digits_div, digits_mod}
use Rattle.ump.specs.Field.{field}
use Rattle.ump.proofs.Cases.{by-test}
use Rattle.ump.proofs.Cut.{field_lt}
use Rattle.scale.specs.Scale.{repeated}

-- the added bit is the lowest
halved : (s v k : ℕ) → repeated s v (suc k) / 2 ≡ repeated s v k
unfolding repeated
halved s v k = digits_div (repeated s v k) (field_lt _ 1 (repeated s v k))

lowest : (s v k : ℕ) → repeated s v (suc k) % 2 ≡ field (s - 2) 1 (repeated s v k)
unfolding repeated
lowest s v k = digits_mod (repeated s v k) (field_lt (s - 2) 1 (repeated s v k))

-- without its last j bits, it is the value with j bits fewer added
pub above : (s v k j : ℕ) → repeated s v (j + k) / 2 ^ j ≡ repeated s v k
above s v k zero = rw (zero-add k) (div-one (repeated s v k))
above s v k (suc j) =
    rw (suc-add, pow-succ' 2 j, ← div-div-eq-div-mul, halved s v (j + k)) (above s v k j)

-- the value's own bits are on top
pub own : (s v k : ℕ) → repeated s v k / 2 ^ k ≡ v
unfolding repeated
own s v k = subst (λ (x : ℕ). repeated s v x / 2 ^ k ≡ v) (add-zero k) (above s v 0 k)

-- it has k bits more
pub repeated_lt : (s v k : ℕ) → v < 2 ^ s → repeated s v k < 2 ^ (s + k)
repeated_lt s v k h =
    rw (pow-add 2 s k) ((div-lt_iff_lt-mul {k = 2 ^ k} {x = repeated s v k} {y = 2 ^ s} (pow_pos k)).0 (rw (own s v k) h))

module _ (s : ℕ) (h : 2 ≤ s) where
  power : 2 ^ (s - 1) ≡ 2 * 2 ^ (s - 2)
  power =
      let e : s - 1 ≡ suc (s - 2) = omega arith in
      rw (e, pow-succ' 2 (s - 2))

  -- the added bit, and the bit s - 1 places above it
  place : (v k : ℕ) → repeated s v (suc k) / 2 ^ (s - 1) % 2 ≡ field (s - 2) 1 (repeated s v k)
  place v k = rw (power, ← div-div-eq-div-mul, halved s v k)

  same : (v k : ℕ) → repeated s v (suc k) % 2 ≡ repeated s v (suc k) / 2 ^ (s - 1) % 2
  same v k = lowest s v k ∙ sym (place v k)

  -- each added bit equals the one s - 1 places above it
  pub bits : (v k j : ℕ) → j < k → field j 1 (repeated s v k) ≡ field (j + (s - 1)) 1 (repeated s v k)
  bits v k j l =
      let e : k ≡ j + suc (k - suc j) = omega arith in
      let up : repeated s v k / 2 ^ j ≡ repeated s v (suc (k - suc j)) =
      subst (λ (x : ℕ). repeated s v x / 2 ^ j ≡ repeated s v (suc (k - suc j))) (sym e) (above s v (suc (k - suc j)) j) in
      rw (← shr-shr, up) (same v (k - suc j))

  -- a number of suc k bits, by its lowest
  parted : (x k : ℕ) → x % 2 ^ suc k ≡ x / 2 % 2 ^ k * 2 + x % 2
  parted x k = subst (λ (e : ℕ). x % 2 ^ e ≡ x / 2 % 2 ^ k * 2 + x % 2) (add-one k) (mod-pow-add x k 1)

  swapped : (x : ℕ) → x / 2 ^ (s - 1) / 2 ≡ x / 2 / 2 ^ (s - 1)
  swapped x = div-div-eq-div-mul x (2 ^ (s - 1)) 2 ∙ ap (λ (y : ℕ). x / y) (mul_comm (2 ^ (s - 1)) 2) ∙ sym (div-div-eq-div-mul x 2 (2 ^ (s - 1)))

  -- the added bits, together
  pub tail : (v k : ℕ) → repeated s v k % 2 ^ k ≡ repeated s v k / 2 ^ (s - 1) % 2 ^ k
  tail v zero = mod-one (repeated s v 0) ∙ sym (mod-one (repeated s v 0 / 2 ^ (s - 1)))
  tail v (suc k) =
      let x = repeated s v (suc k) in
      let e : x / 2 % 2 ^ k ≡ x / 2 ^ (s - 1) / 2 % 2 ^ k =
      ap (λ (y : ℕ). y % 2 ^ k) (halved s v k) ∙ tail v k ∙ ap (λ (y : ℕ). y / 2 ^ (s - 1) % 2 ^ k) (sym (halved s v k)) ∙ ap (λ (y : ℕ). y % 2 ^ k) (sym (swapped x)) in
      parted x k ∙ (λ i. e i * 2 + same v k i) ∙ sym (parted (x / 2 ^ (s - 1)) k)

-- a number with v on top whose other bits equal those s - 1 places above them, without its last k - i bits
module _ (s v k x : ℕ) (h : 2 ≤ s) (top : x / 2 ^ k ≡ v) (low : (j : ℕ) → j < k → field j 1 x ≡ field (j + (s - 1)) 1 x) where
  so_far : (i : ℕ) → i ≤ k → x / 2 ^ (k - i) ≡ repeated s v i
  unfolding repeated
  so_far zero l =
      let e : k - 0 ≡ k = omega arith in
      rw e top
  so_far (suc i) l =
      let j = k - suc i in
      let e : k - i ≡ suc j = omega arith in
      let g : j + (s - 1) ≡ suc j + (s - 2) = omega arith in
      let up : x / 2 ^ suc j ≡ repeated s v i = subst (λ (y : ℕ). x / 2 ^ y ≡ repeated s v i) e (so_far i (omega arith)) in
      let half : x / 2 ^ j / 2 ≡ repeated s v i = shr-shr x j 1 ∙ ap (λ (y : ℕ). x / 2 ^ y) (add-one j) ∙ up in
      let bit : x / 2 ^ j % 2 ≡ field (s - 2) 1 (repeated s v i) =
      low j (omega arith) ∙ ap (λ (y : ℕ). x / 2 ^ y % 2) g ∙ ap (λ (y : ℕ). y % 2) (sym (shr-shr x (suc j) (s - 2))) ∙ ap (λ (y : ℕ). field (s - 2) 1 y) up in
      sym (split (x / 2 ^ j) 1) ∙ (λ t. half t * 2 + bit t)

  -- no other number is the repeated value
  pub only : x ≡ repeated s v k
  only =
      let e : k - k ≡ 0 = omega arith in
      sym (div-one x) ∙ subst (λ (y : ℕ). x / 2 ^ y ≡ repeated s v k) e (so_far k (omega arith))

-- no carry: what lies below bit k is divided apart from what lies above
pub no-carry : (a k t m : ℕ) → t < 2 ^ k → (a * 2 ^ k + t) / 2 ^ m ≡ a * 2 ^ k / 2 ^ m + t / 2 ^ m
no-carry a k t m h =
    by-test
    (leb m k)
    (λ y.
    let l : m ≤ k = leb-true m k y in
    let e : k ≡ (k - m) + m = omega arith in
    let w : a * 2 ^ k ≡ a * 2 ^ (k - m) * 2 ^ m = ap (λ (x : ℕ). a * 2 ^ x) e ∙ ap (λ (x : ℕ). a * x) (pow-add 2 (k - m) m) ∙ sym (mul_assoc a (2 ^ (k - m)) (2 ^ m)) in
    ap (λ (x : ℕ). (x + t) / 2 ^ m) w
    ∙ mul-add-div_right (pow_pos m) (a * 2 ^ (k - m)) t
    ∙ ap (λ (x : ℕ). x + t / 2 ^ m) (sym (shl-shr (a * 2 ^ (k - m)) m) ∙ ap (λ (x : ℕ). x / 2 ^ m) (sym w)))
    (λ n.
    let l : k < m = leb-false m k n in
    let e : k + (m - k) ≡ m = omega arith in
    let z : t / 2 ^ m ≡ 0 = div-eq_of_lt (lt_of_lt_of_le h (pow_mono (omega arith))) in
    let cut : (x : ℕ) → x / 2 ^ k / 2 ^ (m - k) ≡ x / 2 ^ m = λ x. shr-shr x k (m - k) ∙ ap (λ (y : ℕ). x / 2 ^ y) e in
    sym (cut (a * 2 ^ k + t))
    ∙ ap (λ (x : ℕ). x / 2 ^ (m - k)) (high a k h ∙ sym (shl-shr a k))
    ∙ cut (a * 2 ^ k)
    ∙ sym (ap (λ (x : ℕ). a * 2 ^ k / 2 ^ m + x) z ∙ add-zero (a * 2 ^ k / 2 ^ m)))

-- what is yet to be added of x, by repeats of n bits: the next one, and n bits lower the others
pub record Left (n x result repeat : ℕ) : Type 0 where
  pub rest : ℕ
  pub sum : result + rest ≡ x
  pub parts : (j : ℕ) → rest / 2 ^ j ≡ repeat / 2 ^ j + rest / 2 ^ (n + j)

-- the next repeat, and what follows it
next : {n x result repeat : ℕ} (l : Left n x result repeat) → l.rest ≡ repeat + l.rest / 2 ^ n
next {n} {x} {result} {repeat} l =
    let e : l.rest ≡ repeat / 2 ^ 0 + l.rest / 2 ^ (n + 0) = sym (div-one l.rest) ∙ l.parts 0 in
    e ∙ (λ i. div-one repeat i + l.rest / 2 ^ (add-zero n i))

-- at first, the value is shifted, and its bits but the highest stand right below it
pub starts : (s v k : ℕ) → 2 ≤ s → Left (s - 1) (repeated s v k) (v * 2 ^ k) (v % 2 ^ (s - 1) * 2 ^ k / 2 ^ (s - 1))
starts s v k h =
    let x = repeated s v k in
    let n = s - 1 in
    let t = x % 2 ^ k in
    let p = v % 2 ^ n * 2 ^ k in
    let whole : x % 2 ^ (k + n) ≡ p + t =
    ap (λ (y : ℕ). x % 2 ^ y) (add_comm k n) ∙ mod-pow-add x n k ∙ ap (λ (y : ℕ). y % 2 ^ n * 2 ^ k + t) (own s v k) in
    let e : t ≡ (p + t) / 2 ^ n =
    tail s h v k ∙ sym (P.field x k n) ∙ ap (λ (y : ℕ). y / 2 ^ n) whole in
    record {
      rest = t;
      sum = ap (λ (y : ℕ). y * 2 ^ k + t) (sym (own s v k)) ∙ split x k;
      parts = λ j.
          ap (λ (y : ℕ). y / 2 ^ j) e ∙ shr-shr (p + t) n j ∙ no-carry (v % 2 ^ n) k t (n + j) (mod-lt x (pow_pos k))
          ∙ ap (λ (y : ℕ). y + t / 2 ^ (n + j)) (sym (shr-shr p n j));
    }

pub turn : {n x result repeat : ℕ} → Left n x result repeat → Left n x (result + repeat) (repeat / 2 ^ n)
turn {n} {x} {result} {repeat} l =
    record {
      rest = l.rest / 2 ^ n;
      sum = omega (arith, l.sum, next l);
      parts = λ j.
          shr-shr l.rest n j ∙ l.parts (n + j) ∙ (λ i. sym (shr-shr repeat n j) i + sym (shr-shr l.rest n (n + j)) i);
    }

-- a sum so far, with the next repeat, is at most the whole
pub within : {n x result repeat : ℕ} → Left n x result repeat → result + repeat ≤ x
within l = omega (arith, l.sum, next l)

-- a repeat falls
pub falls : (n repeat : ℕ) → 1 ≤ n → (repeat ≡ 0 → ⊥) → repeat / 2 ^ n < repeat
falls n repeat h l = div-lt_self (omega arith) (lt_of_lt_of_le (lit< {m = 1} {n = 2 ^ 1} tt) (pow_mono h))

-- after the last repeat, the sum is the whole
pub ended : {n x result repeat : ℕ} → 1 ≤ n → Left n x result repeat → repeat ≡ 0 → result ≡ x
ended {n} h l z =
    by-test
    (eqb l.rest 0)
    (λ y. omega (arith, l.sum, eqb-true l.rest 0 y))
    (λ y. absurd (omega (arith, next l, falls n l.rest h (eqb-false l.rest 0 y))))
