-- Masks as sets of channels: what or and exclusive or make of two masks, the masks of the two zones, and the channels that a change of legal layouts resets.
-- Assumes nothing.
use mathlib.Core.Path.{◌≡◌, refl, ap, ◌∙◌, sym, ap₂}
use mathlib.Core.Bool.{Bool, true, false, ◌&&◌, ◌||◌, beq, xor}
use mathlib.Core.Logic.{⊎_elim}
use Prim.Native.Nat.{ℕ, zero, suc, ◌+◌, ◌*◌, ◌-◌, ◌/◌, ◌%◌, ◌^◌, ◌<◌}
use native.Mathlib.Nat.{lt-suc_self}
use native.Mathlib.Omega.{arith}
use lib.Dec.{eqb}
use lib.Bits.{bit_or, bit_xor, or_block, xor_block}
use borrow.Author.Tests.{eqb-true, ne_eqb}
use Rattle.std.specs.Prelude.{Option, Some, None}
use Rattle.ump.specs.Choice.{when◌then◌else◌}
use Rattle.ump.specs.Outcome.{given}
use Rattle.ump.specs.Field.{bit_for, mask_to}
use Rattle.ump.proofs.Below.{at}
use Rattle.ump.proofs.Cases.{both}
use Rattle.ump.proofs.Mask.{mask_lt}
use Rattle.mpe_layout.specs.Layout.{legal, of_legal, members_of, place_of, inside, role_at, role_of}
use Rattle.mpe_layout.specs.declared.MpeZone.{MpeZone}
use Rattle.mpe_layout.specs.declared.MpeZone.TheVariants.{Lower, Upper}
use Rattle.mpe_layout.specs.declared.MpeRole.{MpeRole}
use Rattle.mpe_layout.specs.declared.MpeLayout.{MpeLayout}
use Rattle.mpe_layout.proofs.Legal.{Counted}
use Rattle.mpe_layout.proofs.Roles.{placed, place_is, one-zone}
use Rattle.mpe_reset.specs.Reset.{announcement_roles, announcement_hit, layout_roles, layout_hit, hit_by, in_lower, in_upper, in_the_zone, ZoneMask}

-- a mask depends on the test below its width alone
mask-ext : (f g : ℕ → Bool) (n : ℕ) → ((j : ℕ) → j < n → f j ≡ g j) → mask_to f n ≡ mask_to g n
unfolding mask_to
mask-ext f g zero h = refl
mask-ext f g (suc n) h =
    ap₂ (λ (b : Bool) (m : ℕ). bit_for b * 2 ^ n + m) (h n (lt-suc_self n)) (mask-ext f g n (λ j l. h j (omega arith)))

or-bit : (a b : Bool) → bit_or (bit_for a) (bit_for b) ≡ bit_for (a || b)
or-bit true true = refl
or-bit true false = refl
or-bit false true = refl
or-bit false false = refl

xor-bit : (a b : Bool) → bit_xor (bit_for a) (bit_for b) ≡ bit_for (xor a b)
unfolding xor
xor-bit true true = refl
xor-bit true false = refl
xor-bit false true = refl
xor-bit false false = refl

-- or and exclusive or of two masks, bit by bit
mask-or : (f g : ℕ → Bool) (n : ℕ) → bit_or (mask_to f n) (mask_to g n) ≡ mask_to (λ j. f j || g j) n
unfolding mask_to
mask-or f g zero = refl
mask-or f g (suc n) =
    or_block n (bit_for (f n)) (bit_for (g n)) (mask_to f n) (mask_to g n) (mask_lt f n) (mask_lt g n)
    ∙ ap₂ (λ (b m : ℕ). b * 2 ^ n + m) (or-bit (f n) (g n)) (mask-or f g n)

mask-xor : (f g : ℕ → Bool) (n : ℕ) → bit_xor (mask_to f n) (mask_to g n) ≡ mask_to (λ j. xor (f j) (g j)) n
unfolding mask_to
mask-xor f g zero = refl
mask-xor f g (suc n) =
    xor_block n (bit_for (f n)) (bit_for (g n)) (mask_to f n) (mask_to g n) (mask_lt f n) (mask_lt g n)
    ∙ ap₂ (λ (b m : ℕ). b * 2 ^ n + m) (xor-bit (f n) (g n)) (mask-xor f g n)

-- the masks of the zones: of none without members, else of the low or of the high bits, computed for each member count
abbrev pub zone_bits : MpeZone → ℕ → ℕ
zone_bits Lower n = when eqb n 0 then 0 else 65535 / 2 ^ (15 - n)
zone_bits Upper n = when eqb n 0 then 0 else 65535 * 2 ^ (15 - n) % 2 ^ 16

abbrev zone_law : MpeZone → ℕ → Bool
zone_law zone n = eqb (zone_bits zone n) (mask_to (in_the_zone zone n) 16)

zone-bits : (zone : MpeZone) (n : ℕ) → n < 16 → zone_bits zone n ≡ mask_to (in_the_zone zone n) 16
unfolding mask_to in_lower in_upper place_of
zone-bits Lower n h = eqb-true _ _ (at (zone_law Lower) 16 refl n h)
zone-bits Upper n h = eqb-true _ _ (at (zone_law Upper) 16 refl n h)

-- the mask of a zone with a member count that a call gives
pub zone-mask : (l : MpeLayout) (zone : MpeZone) (n : ℕ) → Counted l zone n → zone_bits zone n ≡ mask_to (in_the_zone zone (members_of l zone)) 16
zone-mask l zone n c = zone-bits zone n c.below ∙ ap (λ m. mask_to (in_the_zone zone m) 16) c.is

pub no-bits : (zone : MpeZone) → zone_bits zone 0 ≡ 0
no-bits Lower = refl
no-bits Upper = refl

pub lower-bits : (n : ℕ) → (n ≡ 0 → ⊥) → zone_bits Lower n ≡ 65535 / 2 ^ (15 - n)
lower-bits n h = rw (ne_eqb n 0 h)

pub upper-bits : (n : ℕ) → (n ≡ 0 → ⊥) → zone_bits Upper n ≡ 65535 * 2 ^ (15 - n) % 2 ^ 16
upper-bits n h = rw (ne_eqb n 0 h)

-- a test of n truth values
abbrev Test : ℕ → Type 0
Test zero = Bool
Test (suc n) = Bool → Test n

-- it passes at all of them
abbrev always : (n : ℕ) → Test n → Bool
always zero t = t
always (suc n) t = always n (t true) && always n (t false)

abbrev Holds : (n : ℕ) → Test n → Type 0
Holds zero t = t ≡ true
Holds (suc n) t = (b : Bool) → Holds n (t b)

by-truth : (P : Bool → Type 0) → P true → P false → (b : Bool) → P b
by-truth P t f true = t
by-truth P t f false = f

always-at : (n : ℕ) (t : Test n) → always n t ≡ true → Holds n t
always-at zero t h = h
always-at (suc n) t h =
    by-truth (λ b. Holds n (t b))
    (always-at n (t true) (both (always n (t true)) (always n (t false)) h).0)
    (always-at n (t false) (both (always n (t true)) (always n (t false)) h).1)

-- the change resets a channel with these roles before and after
abbrev roles_hit : Option MpeZone → MpeRole → MpeRole → Bool
roles_hit (Some zone) r s = announcement_roles r s zone
roles_hit None r s = layout_roles r s

-- the change resets a channel that is in Lower, in Upper before, in Lower, in Upper after
abbrev zones_hit : Option MpeZone → Bool → Bool → Bool → Bool → Bool
zones_hit (Some Lower) a b c d = (a || c) || xor b d
zones_hit (Some Upper) a b c d = (b || d) || xor a c
zones_hit None a b c d = ((a || b) || c) || d

-- the two agree where no channel is in both zones: one row of a table
abbrev row : Option MpeZone → Bool → Bool → Bool → Bool → Bool → Bool → Bool
row announced first last a b c d =
    ((a && b) || (c && d))
    || beq (roles_hit announced (role_at (placed a first) (placed b last)) (role_at (placed c first) (placed d last))) (zones_hit announced a b c d)

all-rows : (announced : Option MpeZone) → always 6 (row announced) ≡ true
unfolding announcement_roles layout_roles xor
all-rows (Some Lower) = refl
all-rows (Some Upper) = refl
all-rows None = refl

same : (a b : Bool) → beq a b ≡ true → a ≡ b
same true true h = refl
same true false h = sym h
same false true h = h
same false false h = refl

row_is : (announced : Option MpeZone) (first last a b c d : Bool) → (a && b) ≡ false → (c && d) ≡ false
    → roles_hit announced (role_at (placed a first) (placed b last)) (role_at (placed c first) (placed d last)) ≡ zones_hit announced a b c d
row_is announced first last a b c d p q =
    let t = always-at 6 (row announced) (all-rows announced) first last a b c d in
    same _ _ (rw (p, q) at t)

-- no channel is in both zones
apart : (l : MpeLayout) (channel : ℕ) → legal l ≡ true → channel < 16 → (in_lower l.lower channel && in_upper l.upper channel) ≡ false
unfolding in_lower in_upper
apart l channel h b =
    ⊎_elim
    (λ e. rw e)
    (λ e. rw e (never (inside (place_of l.lower channel))))
    (one-zone l channel h b)
  where
    never : (x : Bool) → (x && false) ≡ false
    never true = refl
    never false = refl

role-is : (l : MpeLayout) (channel : ℕ)
    → role_of l channel ≡ role_at (placed (in_lower l.lower channel) (eqb channel 0)) (placed (in_upper l.upper channel) (eqb (15 - channel) 0))
unfolding role_of in_lower in_upper
role-is l channel = ap₂ role_at (place_is l.lower channel) (place_is l.upper (15 - channel))

hit-roles : (announced : Option MpeZone) (before after : MpeLayout) (channel : ℕ) → hit_by announced before after channel ≡ roles_hit announced (role_of before channel) (role_of after channel)
unfolding announcement_hit layout_hit
hit-roles (Some zone) before after channel = refl
hit-roles None before after channel = refl

-- the channels that a change of legal layouts resets, by the zones they are in
hit-zones : (announced : Option MpeZone) (before after : MpeLayout) → legal before ≡ true → legal after ≡ true → (channel : ℕ) → channel < 16
    → hit_by announced before after channel
    ≡ zones_hit announced (in_lower before.lower channel) (in_upper before.upper channel) (in_lower after.lower channel) (in_upper after.upper channel)
hit-zones announced before after p q channel b =
    hit-roles announced before after channel
    ∙ ap₂ (roles_hit announced) (role-is before channel) (role-is after channel)
    ∙ row_is announced (eqb channel 0) (eqb (15 - channel) 0) _ _ _ _ (apart before channel p b) (apart after channel q b)

-- the mask that a change makes of the masks of Lower and Upper before and after
abbrev pub zones_mask : Option MpeZone → ℕ → ℕ → ℕ → ℕ → ℕ
zones_mask (Some Lower) a b c d = bit_or (bit_or a c) (bit_xor b d)
zones_mask (Some Upper) a b c d = bit_or (bit_or b d) (bit_xor a c)
zones_mask None a b c d = bit_or (bit_or (bit_or a b) c) d

mask-zones : (announced : Option MpeZone) (a b c d : ℕ → Bool)
    → zones_mask announced (mask_to a 16) (mask_to b 16) (mask_to c 16) (mask_to d 16) ≡ mask_to (λ j. zones_hit announced (a j) (b j) (c j) (d j)) 16
mask-zones (Some Lower) a b c d = rw (mask-or a c 16, mask-xor b d 16) (mask-or _ _ 16)
mask-zones (Some Upper) a b c d = rw (mask-or b d 16, mask-xor a c 16) (mask-or _ _ 16)
mask-zones None a b c d = rw (mask-or a b 16, mask-or _ c 16) (mask-or _ d 16)

-- of the masks of the zones it is the mask of the channels that the change resets
pub zones-mask : (announced : Option MpeZone) (before after : MpeLayout) (a b c d : ℕ)
    → ZoneMask before Lower a → ZoneMask before Upper b → ZoneMask after Lower c → ZoneMask after Upper d
    → given (zones_mask announced a b c d) ≡ of_legal before (of_legal after (given (mask_to (hit_by announced before after) 16)))
zones-mask announced before after a b c d p q r s =
    rw (p.lawful, r.lawful)
    (ap given
    ((λ i. zones_mask announced (p.is i) (q.is i) (r.is i) (s.is i))
    ∙ mask-zones announced _ _ _ _
    ∙ sym (mask-ext _ _ 16 (hit-zones announced before after p.lawful r.lawful))))
