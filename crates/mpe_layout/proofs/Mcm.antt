-- What a zone announcement makes of a layout: the named zone gets its members, the other keeps at most its own, and a legal layout stays legal.
-- Assumes nothing.
use mathlib.Core.Path.{◌≡◌, refl}
use mathlib.Core.Bool.{Bool, true, false}
use mathlib.Core.Logic.{⊎_elim}
use Prim.Native.Nat.{ℕ, ◌+◌, ◌-◌, ◌<◌, ◌≤◌}
use native.Mathlib.Nat.{le_refl}
use native.Mathlib.Omega.{arith}
use lib.Dec.{ltb, leb, eqb}
use borrow.Author.Tests.{ltb-true, ltb-false, leb-false, eqb-true, lt-ltb, le-ltb}
use Rattle.mpe_layout.specs.Layout.{legal, layout_of, members_of, other_zone, left_beside, with_mcm}
use Rattle.mpe_layout.specs.declared.MpeZone.{MpeZone}
use Rattle.mpe_layout.specs.declared.MpeZone.TheVariants.{Lower, Upper}
use Rattle.mpe_layout.specs.declared.MpeLayout.{MpeLayout}
use Rattle.mpe_layout.proofs.Legal.{sides, bounds-legal, members-le}

-- what is left of the other zone: never more than it had, and with both active at most what 14 leaves
record Left (members other left : ℕ) : Type 0 where
  pub no_more : left ≤ other
  pub in_both : 0 < members → 0 < left → members + left ≤ 14

left_by : (members other : ℕ) (a b c : Bool) → eqb members 0 ≡ a → leb 14 members ≡ b → ltb (14 - members) other ≡ c → Left members other (left_beside members other)
unfolding left_beside
left_by members other true b c p q r =
    rw p (record { no_more = le_refl other; in_both = λ x y. absurd (omega (arith, eqb-true members 0 p)) })
left_by members other false true c p q r = rw (p, q) (record { no_more = omega arith; in_both = λ x y. absurd (omega arith) })
left_by members other false false true p q r =
    rw (p, q, r) (record { no_more = omega (arith, ltb-true (14 - members) other r); in_both = λ x y. omega (arith, leb-false 14 members q) })
left_by members other false false false p q r =
    rw (p, q, r) (record { no_more = le_refl other; in_both = λ x y. omega (arith, leb-false 14 members q, ltb-false (14 - members) other r) })

left : (members other : ℕ) → Left members other (left_beside members other)
left members other = left_by members other _ _ _ refl refl refl

-- a count above 15 changes nothing
pub mcm-above : (l : MpeLayout) (zone : MpeZone) (members : ℕ) → 15 < members → with_mcm l zone members ≡ l
unfolding with_mcm
mcm-above l zone members h = rw (lt-ltb 15 members h)

-- the named zone has the announced members
pub mcm-members : (l : MpeLayout) (zone : MpeZone) (members : ℕ) → members ≤ 15 → members_of (with_mcm l zone members) zone ≡ members
unfolding with_mcm
mcm-members l Lower members h = rw (le-ltb 15 members h)
mcm-members l Upper members h = rw (le-ltb 15 members h)

-- the other zone has no more than before
pub mcm-other-le : (l : MpeLayout) (zone : MpeZone) (members : ℕ) → members ≤ 15 → members_of (with_mcm l zone members) (other_zone zone) ≤ members_of l (other_zone zone)
unfolding with_mcm
mcm-other-le l Lower members h = rw (le-ltb 15 members h) (left members l.upper).no_more
mcm-other-le l Upper members h = rw (le-ltb 15 members h) (left members l.lower).no_more

within : (l : MpeLayout) (zone : MpeZone) (members : ℕ) → legal l ≡ true → members ≤ 15 → legal (with_mcm l zone members) ≡ true
unfolding with_mcm
within l Lower members h m =
    let o = left members l.upper in
    rw (le-ltb 15 members m)
    (bounds-legal (layout_of members (left_beside members l.upper))
    (record { in-lower = m; in-upper = omega (arith, members-le l Upper h, o.no_more); in_both = o.in_both }))
within l Upper members h m =
    let o = left members l.lower in
    rw (le-ltb 15 members m)
    (bounds-legal (layout_of (left_beside members l.lower) members)
    (record { in-lower = omega (arith, members-le l Lower h, o.no_more); in-upper = m; in_both = λ x y. omega (arith, o.in_both y x) }))

-- an announcement keeps a layout legal
pub mcm-legal : (l : MpeLayout) (zone : MpeZone) (members : ℕ) → legal l ≡ true → legal (with_mcm l zone members) ≡ true
mcm-legal l zone members h = ⊎_elim (λ above. rw (mcm-above l zone members above) h) (within l zone members h) (sides 15 members)
