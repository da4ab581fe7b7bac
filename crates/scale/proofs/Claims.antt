-- The claims on scaled values hold, of whatever answers as the contracts say.
-- Assumes nothing.
use mathlib.Core.Path.{◌≡◌, refl, sym, ap, ◌∙◌, subst}
use mathlib.Core.Bool.{Bool, true, false, ◌&&◌}
use mathlib.Core.Logic.{inl, inr}
use Prim.Native.Nat.{ℕ, suc, ◌+◌, ◌-◌, ◌*◌, ◌/◌, ◌%◌, ◌^◌, ◌<◌, ◌≤◌, min}
use native.Mathlib.Nat.{pow-suc, one-mul, add-mul, le_of_lt, lt_of_le_of_lt, min-eq_left, min-eq_right, min-le_right, zero-mul, mul-mod_left, le-div_iff_mul-le, mod-lt, div-add-mod', div-lt_iff_lt-mul}
use native.Mathlib.Omega.{arith}
use lib.Dec.{leb}
use lib.Pow.{pow_pos, pow-add, pow-lt, shl-shr, ones_lt, le_ones, ones_split, high}
use borrow.Author.Tests.{eq-eqb, ne_eqb, le-leb, lt-leb, leb-true, leb-false}
use Rattle.ump.specs.Choice.{when◌then◌else◌}
use Rattle.ump.specs.Outcome.{given, out_of_range, answered}
use Rattle.ump.specs.Field.{field}
use Rattle.ump.proofs.Cases.{by-test, both}
use Rattle.ump.specs.declared.reply.OutOfRange.{OutOfRange}
use Rattle.std.specs.Prelude.{Result}
use Rattle.scale.specs.Scale.{widens, narrows, repeated, widened, narrowed, zero_extended, rounded, upscaled, downscaled, zero_upscaled, zero_downscaled}
use Rattle.scale.specs.Claims.{OfValue, Widened, OneWidened, UpscaleKeeps, UpscaleRises, DownscaleReturns, Narrowed, ZeroDownscaleReturns, ZeroExtended, NearestUp, HalfAbove, Rounded}
use Rattle.scale.specs.Examples.{ScalesAsTabled, scale_table, scale_answer}
use Rattle.scale.proofs.Range.{Ranged, widening, narrowing, narrows-holds}
use Rattle.scale.proofs.Repeat.{bits, only}
use Rattle.scale.proofs.Widen.{by-widening, widened-lt, widened-back, widened-rises, zero-extended-lt, upscaled-given}

-- what is given where a test holds
gave : (b : Bool) (y x : ℕ) → (when b then given y else out_of_range) ≡ given x → (b ≡ true) × (x ≡ y)
gave true y x e = (refl, cc)
gave false y x e =
    let z : ◌≡◌ {A = ℕ} 0 1 = cc in
    absurd (omega arith)

pub upscaled-told : (v s d x : ℕ) → upscaled v s d ≡ given x → Ranged s d (2 ^ s) v × (x ≡ widened s d v)
unfolding upscaled
upscaled-told v s d x e =
    let g = gave (widens s d v) (widened s d v) x e in
    (widening s d v g.0, g.1)

zero-upscaled-told : (v s d x : ℕ) → zero_upscaled v s d ≡ given x → (2 ≤ s) × Ranged s d (2 ^ s) v × (x ≡ zero_extended s d v)
unfolding zero_upscaled
zero-upscaled-told v s d x e =
    let g = gave (leb 2 s && widens s d v) (zero_extended s d v) x e in
    let b = both (leb 2 s) (widens s d v) g.0 in
    (leb-true 2 s b.0, widening s d v b.1, g.1)

zero-downscaled-told : (v s d x : ℕ) → zero_downscaled v s d ≡ given x → Ranged d s (2 ^ s) v × (x ≡ rounded s d v)
unfolding zero_downscaled
zero-downscaled-told v s d x e =
    let g = gave (narrows s d v) (rounded s d v) x e in
    (narrowing s d v g.0, g.1)

-- a widened value, by its bits
pub widened_is : (s d v : ℕ) → Ranged s d (2 ^ s) v → Widened s d v (widened s d v)
unfolding widened
widened_is s d v r =
    record {
      fits = widened-lt s d v r;
      zero_bit = λ o z. rw (eq-eqb s 1 o, eq-eqb v 0 z);
      one_bit = λ o z. rw (eq-eqb s 1 o, ne_eqb v 0 (omega arith));
      up_to_center = λ h l. rw (ne_eqb s 1 (omega arith), le-leb v (2 ^ (s - 1)) l);
      own_bits = λ h l. widened-back s d v r;
      repeats = λ h l j m. rw (ne_eqb s 1 (omega arith), lt-leb v (2 ^ (s - 1)) l) (bits s h v (d - s) j m);
    }

pub widened-only : (s d v y : ℕ) → Ranged s d (2 ^ s) v → Widened s d v y → y ≡ widened s d v
widened-only s d v y r w =
    by-widening
    (λ x. y ≡ x)
    s
    d
    v
    r
    w.zero_bit
    w.one_bit
    w.up_to_center
    (λ h l. only s v (d - s) y h (w.own_bits h l) (w.repeats h l))

-- each bit of the highest value is 1
all_ones : (d j : ℕ) → j < d → field j 1 (2 ^ d - 1) ≡ 1
all_ones d j h =
    let m = d - suc j in
    let e : suc m + j ≡ d = omega arith in
    let p : 2 ^ d - 1 ≡ (2 ^ suc m - 1) * 2 ^ j + (2 ^ j - 1) = subst (λ (x : ℕ). 2 ^ x - 1 ≡ (2 ^ suc m - 1) * 2 ^ j + (2 ^ j - 1)) e (ones_split (suc m) j) in
    let up : (2 ^ d - 1) / 2 ^ j ≡ 2 ^ suc m - 1 = ap (λ (x : ℕ). x / 2 ^ j) p ∙ high (2 ^ suc m - 1) j (ones_lt j) in
    ap (λ (x : ℕ). x % 2) up ∙ omega (arith, pow-suc 2 m, pow_pos m)

highest-is : (s d : ℕ) → 1 ≤ s → s < d → Widened s d (2 ^ s - 1) (2 ^ d - 1)
highest-is s d h l =
    let e : s + (d - s) ≡ d = omega arith in
    let k = d - s in
    let p : 2 ^ d - 1 ≡ (2 ^ s - 1) * 2 ^ k + (2 ^ k - 1) = subst (λ (x : ℕ). 2 ^ x - 1 ≡ (2 ^ s - 1) * 2 ^ k + (2 ^ k - 1)) e (ones_split s k) in
    record {
      fits = ones_lt d;
      zero_bit = λ o z. absurd (omega (arith, z, ap (λ (x : ℕ). 2 ^ x) o));
      one_bit = λ o z. refl;
      up_to_center = λ m c.
          let f : suc (s - 1) ≡ s = omega arith in
          let g : 2 ^ (s - 1) * 2 ≡ 2 ^ s = sym (pow-suc 2 (s - 1)) ∙ ap (λ (x : ℕ). 2 ^ x) f in
          absurd (omega (arith, c, g, pow-lt {i = 0} {j = s - 1} (omega arith)));
      own_bits = λ m c. ap (λ (x : ℕ). x / 2 ^ k) p ∙ high (2 ^ s - 1) k (ones_lt k);
      repeats = λ m c j i. all_ones d j (omega arith) ∙ sym (all_ones d (j + (s - 1)) (omega arith));
    }

pub keeps : (s d : ℕ) → UpscaleKeeps s d
unfolding widened
keeps s d h l t =
    record {
      lowest =
          let r : Ranged s d (2 ^ s) 0 = record { low = h; top = t; more = l; fits = pow_pos s } in
          upscaled-given s d 0 r ∙ ap given (by-widening (λ x. x ≡ 0) s d 0 r (λ o z. refl) (λ o z. absurd (omega arith)) (λ o z. zero-mul (2 ^ (d - s))) (λ o z. absurd (omega arith)));
      highest =
          let r : Ranged s d (2 ^ s) (2 ^ s - 1) = record { low = h; top = t; more = l; fits = ones_lt s } in
          upscaled-given s d (2 ^ s - 1) r ∙ ap given (sym (widened-only s d (2 ^ s - 1) (2 ^ d - 1) r (highest-is s d h l)));
      center = λ m.
          let r : Ranged s d (2 ^ s) (2 ^ (s - 1)) = record { low = h; top = t; more = l; fits = pow-lt (omega arith) } in
          let e : (s - 1) + (d - s) ≡ d - 1 = omega arith in
          upscaled-given s d (2 ^ (s - 1)) r
          ∙ ap given ((widened_is s d (2 ^ (s - 1)) r).up_to_center m (omega arith) ∙ sym (pow-add 2 (s - 1) (d - s)) ∙ ap (λ (x : ℕ). 2 ^ x) e);
    }

pub rises : (s d : ℕ) → UpscaleRises s d
rises s d v w x y e f h =
    let a = upscaled-told v s d x e in
    let b = upscaled-told w s d y f in
    omega (arith, a.1, b.1, widened-rises s d v w a.0 b.0 h)

pub table-holds : ScalesAsTabled
unfolding scale_table scale_answer upscaled downscaled zero_upscaled zero_downscaled widens narrows widened narrowed zero_extended rounded repeated
table-holds = refl

-- narrowing a widened value returns it
returned : (v s d x : ℕ) → upscaled v s d ≡ given x → downscaled x d s ≡ given v
unfolding downscaled narrowed
returned v s d x e =
    let a = upscaled-told v s d x e in
    let r = a.0 in
    let n : narrows d s x ≡ true =
    narrows-holds d s x (record { low = r.low; top = r.top; more = r.more; fits = rw a.1 (widened-lt s d v r) }) in
    rw n (ap given (ap (λ (y : ℕ). y / 2 ^ (d - s)) a.1 ∙ widened-back s d v r))

-- the low bits are cut off
narrowed-is : (v s d x : ℕ) → downscaled v s d ≡ given x → Narrowed s d v x
unfolding downscaled narrowed
narrowed-is v s d x e =
    let g = gave (narrows s d v) (v / 2 ^ (s - d)) x e in
    let r = narrowing s d v g.0 in
    let q = 2 ^ (s - d) in
    let f : s ≡ d + (s - d) = omega arith in
    let t : v < 2 ^ d * q = subst (λ (y : ℕ). v < y) (ap (λ (y : ℕ). 2 ^ y) f ∙ pow-add 2 d (s - d)) r.fits in
    let m = mod-lt v (pow_pos (s - d)) in
    record {
      fits = rw g.1 ((div-lt_iff_lt-mul {k = q} {x = v} {y = 2 ^ d} (pow_pos (s - d))).1 t);
      below = rw g.1 (omega (arith, div-add-mod' v q));
      next_above = rw (g.1, add-mul (v / q) 1 q, one-mul q) (omega (arith, div-add-mod' v q));
    }

-- a half, below the value's own bits, is cut off
half-lost : (v k : ℕ) → 1 ≤ k → (v * 2 ^ k + 2 ^ (k - 1)) / 2 ^ k ≡ v
half-lost v k h = high v k (pow-lt (omega arith))

zero-returned : (v s d x : ℕ) → zero_upscaled v s d ≡ given x → zero_downscaled x d s ≡ given v
unfolding zero_downscaled rounded zero_extended
zero-returned v s d x e =
    let a = zero-upscaled-told v s d x e in
    let r = a.1 in
    let k = d - s in
    let n : narrows d s x ≡ true =
    narrows-holds d s x (record { low = r.low; top = r.top; more = r.more; fits = rw a.2 (zero-extended-lt s d v r.more r.fits) }) in
    rw n
    (ap given
    (ap (λ (y : ℕ). min ((y + 2 ^ (k - 1)) / 2 ^ k) (2 ^ s - 1)) a.2
    ∙ ap (λ (y : ℕ). min y (2 ^ s - 1)) (half-lost v k (omega arith))
    ∙ min-eq_left (le_ones s r.fits)))

zero-extended-is : (v s d x : ℕ) → zero_upscaled v s d ≡ given x → ZeroExtended s d v x
unfolding zero_extended
zero-extended-is v s d x e =
    let a = zero-upscaled-told v s d x e in
    let r = a.1 in
    record {
      fits = rw a.2 (zero-extended-lt s d v r.more r.fits);
      own_bits = rw a.2 (shl-shr v (d - s));
      zeros = rw a.2 (mul-mod_left v (2 ^ (d - s)));
    }

-- a quotient of q, with a half of it added, is nearest
quotient-nearest : (v q half : ℕ) → q ≡ half * 2 → 0 < q → NearestUp v q ((v + half) / q)
quotient-nearest v q half e h =
    let y = (v + half) / q in
    (omega (arith, div-add-mod' (v + half) q), omega (arith, div-add-mod' (v + half) q, mod-lt (v + half) h))

-- where it is past m, v / q lies half or more above m
quotient-past : (v q half m : ℕ) → q ≡ half * 2 → 0 < q → m < (v + half) / q → HalfAbove v q m
quotient-past v q half m e h l =
    omega (arith, (le-div_iff_mul-le {k = q} {x = m + 1} {y = v + half} h).0 (omega arith), add-mul m 1 q, one-mul q)

rounded-is : (v s d x : ℕ) → zero_downscaled v s d ≡ given x → Rounded s d v x
unfolding rounded
rounded-is v s d x e =
    let a = zero-downscaled-told v s d x e in
    let r = a.0 in
    let k = s - d in
    let y = (v + 2 ^ (k - 1)) / 2 ^ k in
    let f : suc (k - 1) ≡ k = omega arith in
    let twice : 2 ^ k ≡ 2 ^ (k - 1) * 2 = ap (λ (z : ℕ). 2 ^ z) (sym f) ∙ pow-suc 2 (k - 1) in
    let m = 2 ^ d - 1 in
    record {
      fits = rw a.1 (lt_of_le_of_lt (min-le_right y m) (ones_lt d));
      nearest =
          by-test
          (leb y m)
          (λ t.
          let i : x ≡ y = a.1 ∙ min-eq_left (leb-true y m t) in
          inl (rw i (quotient-nearest v (2 ^ k) (2 ^ (k - 1)) twice (pow_pos k))))
          (λ t.
          let l = leb-false y m t in
          let i : x ≡ m = a.1 ∙ min-eq_right (le_of_lt l) in
          inr (i, rw i (quotient-past v (2 ^ k) (2 ^ (k - 1)) m twice (pow_pos k) l)));
    }

-- all that is promised of an answer, of each call
pub upscale-claims :
    (r : Result ℕ OutOfRange) (v s d : ℕ) → answered r ≡ upscaled v s d →
    (answered r ≡ upscaled v s d)
    × (OfValue r (Widened s d v) × (OfValue r (OneWidened s d v) × (UpscaleKeeps s d × (UpscaleRises s d × ScalesAsTabled))))
upscale-claims r v s d e = (
  e,
  (
    (λ x g.
        let a = upscaled-told v s d x (sym e ∙ ap answered g) in
        subst (λ (y : ℕ). Widened s d v y) (sym a.1) (widened_is s d v a.0)),
    (
      (λ x g y w.
          let a = upscaled-told v s d x (sym e ∙ ap answered g) in
          a.1 ∙ sym (widened-only s d v y a.0 w)),
      (keeps s d, (rises s d, table-holds)),
    ),
  ),
)

pub downscale-claims :
    (r : Result ℕ OutOfRange) (v s d : ℕ) → answered r ≡ downscaled v s d →
    (answered r ≡ downscaled v s d) × (OfValue r (Narrowed s d v) × DownscaleReturns v s d r)
downscale-claims r v s d e =
    (e, ((λ x g. narrowed-is v s d x (sym e ∙ ap answered g)), (λ w g. e ∙ returned w d s v g)))

pub zero-extend-upscale-claims :
    (r : Result ℕ OutOfRange) (v s d : ℕ) → answered r ≡ zero_upscaled v s d →
    (answered r ≡ zero_upscaled v s d) × OfValue r (ZeroExtended s d v)
zero-extend-upscale-claims r v s d e = (e, (λ x g. zero-extended-is v s d x (sym e ∙ ap answered g)))

pub zero-extend-downscale-claims :
    (r : Result ℕ OutOfRange) (v s d : ℕ) → answered r ≡ zero_downscaled v s d →
    (answered r ≡ zero_downscaled v s d) × (OfValue r (Rounded s d v) × ZeroDownscaleReturns v s d r)
zero-extend-downscale-claims r v s d e =
    (e, ((λ x g. rounded-is v s d x (sym e ∙ ap answered g)), (λ w g. e ∙ zero-returned w d s v g)))
