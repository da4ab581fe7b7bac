-- `goes_first` is an order on channels: each goes before itself, one of any two goes first, and two that go before each other are one.
-- Assumes nothing.
use Rattle.std.proofs.Common.{◌≡◌, ℕ, ◌<◌, ◌≤◌, Bool, true, false, eqb, ltb, ◌⊎◌, refl, inl, inr, ⊎_elim, arith, ltb-false, ltb-true, lt-ltb, eq-eqb, ne_eqb, eqb-true, le-leb, leb-false, leb-true}
use borrow.Author.Tests.{eqb-false}
use Rattle.ump.specs.Choice.{when◌then◌else◌}
use Rattle.mpe_layout.specs.declared.MpeZone.{MpeZone}
use Rattle.mpe_layout.specs.declared.MpeZone.TheVariants.{Lower, Upper}
use Rattle.mpe_allocator.specs.declared.MpeNoteAllocator.{MpeNoteAllocator}
use Rattle.mpe_allocator.specs.Choice.{held_on, released_on, tie_first, smaller_first, recalls_on, latest_first, idlest_first, by_recall, goes_first}

pub never : {A : Type 0} → true ≡ false → A
never e = let z : ◌≡◌ {A = ℕ} 0 1 = cc in absurd (omega arith)

-- ---- the smaller number

by-test : (x y : ℕ) (t e : Bool) → eqb x y ≡ e → (when e then t else ltb x y) ≡ true → (x < y) ⊎ ((x ≡ y) × (t ≡ true))
by-test x y t true e h = inr (eqb-true x y e, h)
by-test x y t false e h = inl (ltb-true x y h)

pub view : (x y : ℕ) (t : Bool) → smaller_first x y t ≡ true → (x < y) ⊎ ((x ≡ y) × (t ≡ true))
unfolding smaller_first
view x y t h = by-test x y t (eqb x y) refl h

pub less : (x y : ℕ) (t : Bool) → x < y → smaller_first x y t ≡ true
unfolding smaller_first
less x y t h = rw (ne_eqb x y (λ e. omega arith), lt-ltb x y h)

pub equal : (x y : ℕ) (t : Bool) → x ≡ y → t ≡ true → smaller_first x y t ≡ true
unfolding smaller_first
equal x y t e h = rw (eq-eqb x y e) h

smaller-trans : (x y z : ℕ) (t u v : Bool) → (t ≡ true → u ≡ true → v ≡ true) → smaller_first x y t ≡ true → smaller_first y z u ≡ true → smaller_first x z v ≡ true
smaller-trans x y z t u v f p q =
    ⊎_elim
    (λ (l : x < y). ⊎_elim (λ (m : y < z). less x z v (omega arith)) (λ (m : (y ≡ z) × (u ≡ true)). less x z v (omega arith)) (view y z u q))
    (λ (e : (x ≡ y) × (t ≡ true)).
    ⊎_elim
    (λ (m : y < z). less x z v (omega arith))
    (λ (m : (y ≡ z) × (u ≡ true)). equal x z v (omega arith) (f e.1 m.1))
    (view y z u q))
    (view x y t p)

total-by : (x y : ℕ) (t u e : Bool) → eqb x y ≡ e → (t ≡ false → u ≡ true) → (when e then t else ltb x y) ≡ false → smaller_first y x u ≡ true
total-by x y t u true e f h =
    let d : y ≡ x = omega (arith, eqb-true x y e) in
    equal y x u d (f h)
total-by x y t u false e f h =
    let n : x ≡ y → ⊥ = eqb-false x y e in
    let l : y ≤ x = ltb-false x y h in
    less y x u (omega arith)

smaller-total : (x y : ℕ) (t u : Bool) → (t ≡ false → u ≡ true) → smaller_first x y t ≡ false → smaller_first y x u ≡ true
unfolding smaller_first
smaller-total x y t u f h = total-by x y t u (eqb x y) refl f h

pub smaller-anti : (x y : ℕ) (t u : Bool) → smaller_first x y t ≡ true → smaller_first y x u ≡ true → (x ≡ y) × (t ≡ true) × (u ≡ true)
smaller-anti x y t u p q =
    ⊎_elim
    (λ (l : x < y). ⊎_elim (λ (m : y < x). absurd (omega arith)) (λ (m : (y ≡ x) × (u ≡ true)). absurd (omega arith)) (view y x u q))
    (λ (e : (x ≡ y) × (t ≡ true)).
    ⊎_elim (λ (m : y < x). absurd (omega arith)) (λ (m : (y ≡ x) × (u ≡ true)). (e.0, e.1, m.1)) (view y x u q))
    (view x y t p)

-- ---- the tie

tie-trans : (zone : MpeZone) (c b d : ℕ) → tie_first zone c b ≡ true → tie_first zone b d ≡ true → tie_first zone c d ≡ true
unfolding tie_first
tie-trans Lower c b d p q = le-leb c d (omega (arith, leb-true c b p, leb-true b d q))
tie-trans Upper c b d p q = le-leb d c (omega (arith, leb-true b c p, leb-true d b q))

tie-total : (zone : MpeZone) (c b : ℕ) → tie_first zone c b ≡ false → tie_first zone b c ≡ true
unfolding tie_first
tie-total Lower c b p = le-leb b c (omega (arith, leb-false c b p))
tie-total Upper c b p = le-leb c b (omega (arith, leb-false b c p))

tie-anti : (zone : MpeZone) (c b : ℕ) → tie_first zone c b ≡ true → tie_first zone b c ≡ true → c ≡ b
unfolding tie_first
tie-anti Lower c b p q = omega (arith, leb-true c b p, leb-true b c q)
tie-anti Upper c b p q = omega (arith, leb-true b c p, leb-true c b q)

tie-refl : (zone : MpeZone) (c : ℕ) → tie_first zone c c ≡ true
unfolding tie_first
tie-refl Lower c = le-leb c c (omega arith)
tie-refl Upper c = le-leb c c (omega arith)

-- ---- those that recall, before the others

recall-trans : (p q r f g h i j k : Bool) → (f ≡ true → g ≡ true → h ≡ true) → (i ≡ true → j ≡ true → k ≡ true) → by_recall p q f i ≡ true → by_recall q r g j ≡ true → by_recall p r h k ≡ true
unfolding by_recall
recall-trans true true true f g h i j k m n x y = m x y
recall-trans true true false f g h i j k m n x y = refl
recall-trans true false true f g h i j k m n x y = never (cc)
recall-trans true false false f g h i j k m n x y = refl
recall-trans false true r f g h i j k m n x y = never (cc)
recall-trans false false true f g h i j k m n x y = y
recall-trans false false false f g h i j k m n x y = n x y

recall-total : (p q f g i j : Bool) → (f ≡ false → g ≡ true) → (i ≡ false → j ≡ true) → by_recall p q f i ≡ false → by_recall q p g j ≡ true
unfolding by_recall
recall-total true true f g i j m n x = m x
recall-total true false f g i j m n x = never x
recall-total false true f g i j m n x = refl
recall-total false false f g i j m n x = n x

pub recall-anti : (p q f g i j : Bool) → by_recall p q f i ≡ true → by_recall q p g j ≡ true → ((p ≡ true) × (q ≡ true) × (f ≡ true) × (g ≡ true)) ⊎ ((p ≡ false) × (q ≡ false) × (i ≡ true) × (j ≡ true))
unfolding by_recall
recall-anti true true f g i j x y = inl (refl, refl, x, y)
recall-anti true false f g i j x y = never (cc)
recall-anti false true f g i j x y = never (cc)
recall-anti false false f g i j x y = inr (refl, refl, x, y)

recall-refl : (p f i : Bool) → f ≡ true → i ≡ true → by_recall p p f i ≡ true
unfolding by_recall
recall-refl true f i x y = x
recall-refl false f i x y = y

-- ---- the order

module _ (a : MpeNoteAllocator) (zone : MpeZone) (mark : ℕ) where
  latest-trans : (c b d : ℕ) → latest_first a zone c b ≡ true → latest_first a zone b d ≡ true → latest_first a zone c d ≡ true
  unfolding latest_first
  latest-trans c b d p q =
      smaller-trans (released_on a d) (released_on a b) (released_on a c) _ _ _ (λ x y. tie-trans _ c b d y x) q p

  idlest-trans : (c b d : ℕ) → idlest_first a zone c b ≡ true → idlest_first a zone b d ≡ true → idlest_first a zone c d ≡ true
  unfolding idlest_first
  idlest-trans c b d =
      smaller-trans (held_on a c) (held_on a b) (held_on a d) _ _ _
      (smaller-trans (released_on a c) (released_on a b) (released_on a d) _ _ _ (tie-trans _ c b d))

  pub first-trans : (c b d : ℕ) → goes_first a zone mark c b ≡ true → goes_first a zone mark b d ≡ true → goes_first a zone mark c d ≡ true
  unfolding goes_first
  first-trans c b d p q =
      recall-trans (recalls_on a mark c) (recalls_on a mark b) (recalls_on a mark d) (latest_first a zone c b) (latest_first a zone b d) (latest_first a zone c d) (idlest_first a zone c b) (idlest_first a zone b d) (idlest_first a zone c d)
      (latest-trans c b d) (idlest-trans c b d) p q

  latest-total : (c b : ℕ) → latest_first a zone c b ≡ false → latest_first a zone b c ≡ true
  unfolding latest_first
  latest-total c b = smaller-total (released_on a b) (released_on a c) _ _ (tie-total _ c b)

  idlest-total : (c b : ℕ) → idlest_first a zone c b ≡ false → idlest_first a zone b c ≡ true
  unfolding idlest_first
  idlest-total c b =
      smaller-total (held_on a c) (held_on a b) _ _
      (smaller-total (released_on a c) (released_on a b) _ _ (tie-total _ c b))

  pub first-total : (c b : ℕ) → goes_first a zone mark c b ≡ false → goes_first a zone mark b c ≡ true
  unfolding goes_first
  first-total c b p =
      recall-total (recalls_on a mark c) (recalls_on a mark b) (latest_first a zone c b) (latest_first a zone b c) (idlest_first a zone c b) (idlest_first a zone b c)
      (latest-total c b) (idlest-total c b) p

  latest-anti : (c b : ℕ) → latest_first a zone c b ≡ true → latest_first a zone b c ≡ true → c ≡ b
  unfolding latest_first
  latest-anti c b p q =
      let t = smaller-anti (released_on a b) (released_on a c) _ _ p q in
      tie-anti _ c b t.1 t.2

  idlest-anti : (c b : ℕ) → idlest_first a zone c b ≡ true → idlest_first a zone b c ≡ true → c ≡ b
  unfolding idlest_first
  idlest-anti c b p q =
      let s = smaller-anti (held_on a c) (held_on a b) _ _ p q in
      let t = smaller-anti (released_on a c) (released_on a b) _ _ s.1 s.2 in
      tie-anti _ c b t.1 t.2

  pub first-anti : (c b : ℕ) → goes_first a zone mark c b ≡ true → goes_first a zone mark b c ≡ true → c ≡ b
  unfolding goes_first
  first-anti c b p q =
      ⊎_elim
      (λ x. latest-anti c b x.2 x.3)
      (λ x. idlest-anti c b x.2 x.3)
      (recall-anti (recalls_on a mark c) (recalls_on a mark b) (latest_first a zone c b) (latest_first a zone b c) (idlest_first a zone c b) (idlest_first a zone b c) p q)

  latest-refl : (c : ℕ) → latest_first a zone c c ≡ true
  unfolding latest_first
  latest-refl c = equal (released_on a c) (released_on a c) _ refl (tie-refl _ c)

  idlest-refl : (c : ℕ) → idlest_first a zone c c ≡ true
  unfolding idlest_first
  idlest-refl c =
      equal (held_on a c) (held_on a c) _ refl (equal (released_on a c) (released_on a c) _ refl (tie-refl _ c))

  pub first-refl : (c : ℕ) → goes_first a zone mark c c ≡ true
  unfolding goes_first
  first-refl c = recall-refl (recalls_on a mark c) (latest_first a zone c c) (idlest_first a zone c c) (latest-refl c) (idlest-refl c)
