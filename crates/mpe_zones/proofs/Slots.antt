-- A sensitivity's two bytes stand within the eight, apart from those of the others: what is put is read, and the others read as before.
-- Assumes nothing.
use Prim.Native.Nat.{ℕ, ◌+◌, ◌%◌, ◌<◌}
use mathlib.Core.Path.{◌≡◌, refl}
use mathlib.Core.Bool.{Bool, true, false}
use mathlib.Core.List.{List}
use native.Mathlib.Omega.{arith}
use lib.ListN.{length, set}
use lib.Dec.{lit<}
use lib.Seq.{get_or-set_same, get_or-set_other, lt-length-set}
use Rattle.mpe_layout.specs.declared.MpeZone.{MpeZone}
use Rattle.mpe_layout.specs.declared.MpeZone.TheVariants.{Lower, Upper}
use Rattle.mpe_layout.specs.Layout.{other_zone}
use Rattle.mpe_zones.specs.Zones.{slot_of, sensitivity_at, sensitivity_put}

pub slot-fits : (zone : MpeZone) (manager : Bool) → slot_of zone manager < 7
slot-fits Lower true = lit< tt
slot-fits Lower false = lit< tt
slot-fits Upper true = lit< tt
slot-fits Upper false = lit< tt

pub slot-even : (zone : MpeZone) (manager : Bool) → slot_of zone manager % 2 ≡ 0
slot-even Lower true = refl
slot-even Lower false = refl
slot-even Upper true = refl
slot-even Upper false = refl

-- manager and members of one zone, and the two zones
pub halves-apart : (zone : MpeZone) → slot_of zone true ≡ slot_of zone false → ⊥
halves-apart Lower e = omega arith
halves-apart Upper e = omega arith

pub zones-apart : (zone : MpeZone) (m n : Bool) → slot_of (other_zone zone) m ≡ slot_of zone n → ⊥
zones-apart Lower true true e = omega arith
zones-apart Lower true false e = omega arith
zones-apart Lower false true e = omega arith
zones-apart Lower false false e = omega arith
zones-apart Upper true true e = omega arith
zones-apart Upper true false e = omega arith
zones-apart Upper false true e = omega arith
zones-apart Upper false false e = omega arith

pub put_same : (l : List ℕ) (k s c : ℕ) → k + 1 < length l → sensitivity_at (sensitivity_put l k s c) k ≡ record { semitones = s; cents = c }
put_same l k s c h =
    rw (
      get_or-set_other (set l k s) (k + 1) k c 0 (λ e. omega arith),
      get_or-set_same l k s 0 (omega arith),
      get_or-set_same (set l k s) (k + 1) c 0 (lt-length-set l k s h),
    )

pub put_other : (l : List ℕ) (k j s c : ℕ) → k % 2 ≡ 0 → j % 2 ≡ 0 → (j ≡ k → ⊥) → sensitivity_at (sensitivity_put l k s c) j ≡ sensitivity_at l j
put_other l k j s c p q ne =
    rw (
      get_or-set_other (set l k s) (k + 1) j c 0 (λ e. omega arith),
      get_or-set_other l k j s 0 ne,
      get_or-set_other (set l k s) (k + 1) (j + 1) c 0 (λ e. ne (omega arith)),
      get_or-set_other l k (j + 1) s 0 (λ e. omega arith),
    )
