-- An active zone: what a writer answers in one, that it refuses in any other, and that a zone's channels are channels.
-- Assumes nothing.
use mathlib.Core.Path.{◌≡◌, refl}
use mathlib.Core.Bool.{Bool, true, false}
use Prim.Native.Nat.{ℕ, ◌+◌, ◌<◌, ◌≤◌}
use native.Mathlib.Omega.{arith}
use lib.Dec.{eqb, lit<}
use Rattle.ump.specs.Choice.{when◌then◌else◌}
use Rattle.ump.specs.Outcome.{Outcome, given, out_of_range}
use Rattle.mpe_layout.specs.Layout.{legal, members_of, manager_of, lowest_of}
use Rattle.mpe_layout.specs.declared.MpeZone.{MpeZone}
use Rattle.mpe_layout.specs.declared.MpeZone.TheVariants.{Lower, Upper}
use Rattle.mpe_layout.specs.declared.MpeLayout.{MpeLayout}
use Rattle.mpe_layout.proofs.Legal.{members-le}
use Rattle.mpe_sender.specs.Writers.{zone_for}

pub record Active (l : MpeLayout) (zone : MpeZone) (lowest members : ℕ) : Type 0 where
  pub is-legal : legal l ≡ true
  pub is-lowest : lowest ≡ lowest_of l zone
  pub is-members : members ≡ members_of l zone
  pub some : eqb (members_of l zone) 0 ≡ false

tests : (a b : Bool) (x y lowest members : ℕ) → ◌≡◌ {A = Outcome (ℕ × ℕ)} (given (lowest, members)) (when a then (when b then out_of_range else given (x, y)) else out_of_range)
    → (a ≡ true) × (b ≡ false) × (lowest ≡ x) × (members ≡ y)
tests true true x y lowest members e = absurd (let z : ◌≡◌ {A = ℕ} 0 1 = cc in omega arith)
tests true false x y lowest members e =
    let p : ◌≡◌ {A = ℕ × ℕ} (lowest, members) (x, y) = cc in
    (refl, refl, λ i. (p i).0, λ i. (p i).1)
tests false b x y lowest members e = absurd (let z : ◌≡◌ {A = ℕ} 0 1 = cc in omega arith)

pub active : (l : MpeLayout) (zone : MpeZone) (lowest members : ℕ) → ◌≡◌ {A = Outcome (ℕ × ℕ)} (given (lowest, members)) (zone_for l zone) → Active l zone lowest members
active l zone lowest members e =
    let t = tests (legal l) (eqb (members_of l zone) 0) (lowest_of l zone) (members_of l zone) lowest members e in
    record { is-legal = t.0; is-lowest = t.2; is-members = t.3; some = t.1 }

-- a manager is a channel
pub manager-lt : (zone : MpeZone) → manager_of zone < 16
manager-lt Lower = lit< tt
manager-lt Upper = lit< tt

-- a zone's members are channels
pub members_fit : (l : MpeLayout) (zone : MpeZone) → legal l ≡ true → lowest_of l zone + members_of l zone ≤ 16
members_fit l Lower h = omega (arith, members-le l Lower h)
members_fit l Upper h = omega (arith, members-le l Upper h)

pub lowest-lt : (l : MpeLayout) (zone : MpeZone) → legal l ≡ true → 0 < members_of l zone → lowest_of l zone < 16
lowest-lt l zone h some = omega (arith, members_fit l zone h)
