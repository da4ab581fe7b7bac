-- Widened values, over the widths: their size, that narrowing returns them, and their order.
-- Assumes nothing.
use mathlib.Core.Path.{◌≡◌, sym, ap, ◌∙◌, subst}
use Prim.Native.Nat.{ℕ, ◌+◌, ◌-◌, ◌*◌, ◌/◌, ◌^◌, ◌<◌, ◌≤◌}
use native.Mathlib.Nat.{zero-div}
use native.Mathlib.Omega.{arith}
use lib.Dec.{eqb, leb, ltb}
use lib.Pow.{pow_pos, shl_lt, shl-shr, shr_mono, ones_lt, ones_split, high}
use borrow.Author.Tests.{le-leb, eqb-true, eqb-false, leb-true, leb-false, ltb-true, ltb-false}
use Rattle.ump.specs.Outcome.{given, out_of_range}
use Rattle.ump.proofs.Cases.{by-test, chosen}
use Rattle.scale.specs.Scale.{repeated, widened, upscaled, zero_extended, zero_upscaled}
use Rattle.scale.proofs.Range.{Ranged, widens-holds}
use Rattle.scale.proofs.Repeat.{own, repeated_lt}

-- the four cases of a widened value
pub by-widening :
    (P : ℕ → Type 0) (s d v : ℕ) → Ranged s d (2 ^ s) v → (s ≡ 1 → v ≡ 0 → P 0) → (s ≡ 1 → v ≡ 1 → P (2 ^ d - 1)) →
    (2 ≤ s → v ≤ 2 ^ (s - 1) → P (v * 2 ^ (d - s))) → (2 ≤ s → 2 ^ (s - 1) < v → P (repeated s v (d - s))) → P (widened s d v)
unfolding widened
by-widening P s d v r zero_bit one_bit low high =
    by-test
    (eqb s 1)
    (λ e.
    let o : s ≡ 1 = eqb-true s 1 e in
    let h : v < 2 = subst (λ (x : ℕ). v < 2 ^ x) o r.fits in
    by-test
    (eqb v 0)
    (λ z. rw (e, z) (zero_bit o (eqb-true v 0 z)))
    (λ z. rw (e, z) (one_bit o (omega (arith, eqb-false v 0 z)))))
    (λ e.
    let o : 2 ≤ s = omega (arith, eqb-false s 1 e) in
    by-test
    (leb v (2 ^ (s - 1)))
    (λ l. rw (e, l) (low o (leb-true v (2 ^ (s - 1)) l)))
    (λ l. rw (e, l) (high o (leb-false v (2 ^ (s - 1)) l))))

-- the bits of both parts
whole : (s d : ℕ) → s < d → s + (d - s) ≡ d
whole s d h = omega arith

-- a widened value has d bits
pub widened-lt : (s d v : ℕ) → Ranged s d (2 ^ s) v → widened s d v < 2 ^ d
widened-lt s d v r =
    by-widening
    (λ x. x < 2 ^ d)
    s
    d
    v
    r
    (λ o z. pow_pos d)
    (λ o z. ones_lt d)
    (λ o l. subst (λ (x : ℕ). v * 2 ^ (d - s) < 2 ^ x) (whole s d r.more) (shl_lt s (d - s) r.fits))
    (λ o l. subst (λ (x : ℕ). repeated s v (d - s) < 2 ^ x) (whole s d r.more) (repeated_lt s v (d - s) r.fits))

-- its highest s bits are the value
pub widened-back : (s d v : ℕ) → Ranged s d (2 ^ s) v → widened s d v / 2 ^ (d - s) ≡ v
widened-back s d v r =
    by-widening
    (λ x. x / 2 ^ (d - s) ≡ v)
    s
    d
    v
    r
    (λ o z. zero-div (2 ^ (d - s)) ∙ sym z)
    (λ o z.
    let e : d ≡ 1 + (d - s) = omega arith in
    let p : 2 ^ d - 1 ≡ (2 ^ 1 - 1) * 2 ^ (d - s) + (2 ^ (d - s) - 1) = subst (λ (x : ℕ). 2 ^ x - 1 ≡ (2 ^ 1 - 1) * 2 ^ (d - s) + (2 ^ (d - s) - 1)) (sym e) (ones_split 1 (d - s)) in
    ap (λ (x : ℕ). x / 2 ^ (d - s)) p ∙ high 1 (d - s) (ones_lt (d - s)) ∙ sym z)
    (λ o l. shl-shr v (d - s))
    (λ o l. own s v (d - s))

-- a higher value is widened to a higher one
pub widened-rises : (s d v w : ℕ) → Ranged s d (2 ^ s) v → Ranged s d (2 ^ s) w → v < w → widened s d v < widened s d w
widened-rises s d v w r t h =
    by-test
    (ltb (widened s d v) (widened s d w))
    (ltb-true (widened s d v) (widened s d w))
    (λ f.
    let l = shr_mono (d - s) (ltb-false (widened s d v) (widened s d w) f) in
    absurd (omega (arith, l, widened-back s d v r, widened-back s d w t)))

-- a zero-extended value has d bits
pub zero-extended-lt : (s d v : ℕ) → s < d → v < 2 ^ s → zero_extended s d v < 2 ^ d
unfolding zero_extended
zero-extended-lt s d v h l = subst (λ (x : ℕ). v * 2 ^ (d - s) < 2 ^ x) (whole s d h) (shl_lt s (d - s) l)

-- what the calls answer in range
pub upscaled-given : (s d v : ℕ) → Ranged s d (2 ^ s) v → upscaled v s d ≡ given (widened s d v)
unfolding upscaled
upscaled-given s d v r = chosen (given (widened s d v)) out_of_range (widens-holds s d v r)

pub zero-upscaled-given : (s d v : ℕ) → 2 ≤ s → Ranged s d (2 ^ s) v → zero_upscaled v s d ≡ given (zero_extended s d v)
unfolding zero_upscaled
zero-upscaled-given s d v h r = rw (le-leb 2 s h, widens-holds s d v r)
