-- A layout is legal exactly if its member counts keep their bounds: at most 15 each, and at most 14 together if both zones are active.
-- Assumes nothing.
use mathlib.Core.Path.{◌≡◌, refl}
use mathlib.Core.Bool.{Bool, true, false}
use mathlib.Core.Logic.{◌⊎◌, inl, inr}
use Prim.Native.Nat.{ℕ, ◌+◌, ◌<◌, ◌≤◌}
use native.Mathlib.Omega.{arith}
use lib.Dec.{ltb, eqb}
use borrow.Author.Tests.{ltb-true, ltb-false, leb-true, eqb-false, le-ltb, le-leb, ne_eqb}
use Rattle.ump.specs.Choice.{when◌then◌else◌}
use Rattle.ump.specs.Outcome.{given}
use Rattle.mpe_layout.specs.Layout.{legal_counts, legal, of_legal, members_of}
use Rattle.mpe_layout.specs.declared.MpeZone.{MpeZone}
use Rattle.mpe_layout.specs.declared.MpeZone.TheVariants.{Lower, Upper}
use Rattle.mpe_layout.specs.declared.MpeLayout.{MpeLayout}

-- two numbers, either way round
side : (a b : ℕ) (t : Bool) → ltb a b ≡ t → (a < b) ⊎ (b ≤ a)
side a b true e = inl (ltb-true a b e)
side a b false e = inr (ltb-false a b e)

pub sides : (a b : ℕ) → (a < b) ⊎ (b ≤ a)
sides a b = side a b (ltb a b) refl

pub record Bounds (lower upper : ℕ) : Type 0 where
  pub in-lower : lower ≤ 15
  pub in-upper : upper ≤ 15
  pub in_both : 0 < lower → 0 < upper → lower + upper ≤ 14

-- a refusing test did not refuse
passed : (b x : Bool) → (when b then false else x) ≡ true → (b ≡ false) × (x ≡ true)
passed true x h = cc
passed false x h = (refl, h)

-- neither of two accepting tests accepted
through : (b c x : Bool) → (when b then true else when c then true else x) ≡ true → b ≡ false → c ≡ false → x ≡ true
through b c x h p q = rw (p, q) at h

counts-bounds : (lower upper : ℕ) → legal_counts lower upper ≡ true → Bounds lower upper
unfolding legal_counts
counts-bounds lower upper h =
    let p = passed (ltb 15 lower) _ h in
    let q = passed (ltb 15 upper) _ p.1 in
    record {
      in-lower = ltb-false 15 lower p.0;
      in-upper = ltb-false 15 upper q.0;
      in_both = λ a b. leb-true (lower + upper) 14
          (through (eqb lower 0) (eqb upper 0) _ q.1 (ne_eqb lower 0 (λ e. omega arith)) (ne_eqb upper 0 (λ e. omega arith)));
    }

accepted : (b c x : Bool) → (b ≡ false → c ≡ false → x ≡ true) → (when b then true else when c then true else x) ≡ true
accepted true c x f = refl
accepted false true x f = refl
accepted false false x f = f refl refl

bounds-counts : (lower upper : ℕ) → Bounds lower upper → legal_counts lower upper ≡ true
unfolding legal_counts
bounds-counts lower upper b =
    rw (le-ltb 15 lower b.in-lower, le-ltb 15 upper b.in-upper)
    (accepted (eqb lower 0) (eqb upper 0) _
    (λ p q. le-leb (lower + upper) 14 (b.in_both (omega (arith, eqb-false lower 0 p)) (omega (arith, eqb-false upper 0 q)))))

pub legal-bounds : (l : MpeLayout) → legal l ≡ true → Bounds l.lower l.upper
unfolding legal
legal-bounds l h = counts-bounds l.lower l.upper h

pub bounds-legal : (l : MpeLayout) → Bounds l.lower l.upper → legal l ≡ true
unfolding legal
bounds-legal l b = bounds-counts l.lower l.upper b

-- a zone has at most 15 members
pub members-le : (l : MpeLayout) (zone : MpeZone) → legal l ≡ true → members_of l zone ≤ 15
members-le l Lower h = (legal-bounds l h).in-lower
members-le l Upper h = (legal-bounds l h).in-upper

-- two active zones have at most 14 members in all
pub both-le : (l : MpeLayout) → legal l ≡ true → 0 < l.lower → 0 < l.upper → l.lower + l.upper ≤ 14
both-le l h = (legal-bounds l h).in_both

-- a call that gives a member count has tested the layout
pub record Counted (l : MpeLayout) (zone : MpeZone) (members : ℕ) : Type 0 where
  pub lawful : legal l ≡ true
  pub is : members ≡ members_of l zone
  pub below : members < 16

counted_if : (b : Bool) (l : MpeLayout) (zone : MpeZone) (members : ℕ) → legal l ≡ b → given members ≡ of_legal l (given (members_of l zone)) → Counted l zone members
counted_if true l zone members t e =
    let m : members ≡ members_of l zone = let f = rw t at e in cc in
    record { lawful = t; is = m; below = omega (arith, members-le l zone t) }
counted_if false l zone members t e = let f = rw t at e in cc

pub counted : (l : MpeLayout) (zone : MpeZone) (members : ℕ) → given members ≡ of_legal l (given (members_of l zone)) → Counted l zone members
counted l zone members e = counted_if (legal l) l zone members refl e
