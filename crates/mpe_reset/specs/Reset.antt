-- The channels that a change of layout resets (M1-100 2.2.3; document 01, "The receiver").
use Rattle.std.specs.Prelude.{ℕ, ◌-◌, ◌≡◌, Bool, true, false, not, ◌||◌, eqb, Option, Some, None}
use Rattle.ump.specs.Outcome.{Outcome, given, declined}
use Rattle.ump.specs.Packet.{packet_value}
use Rattle.ump.specs.Field.{field, mask_to}
use Rattle.mpe_layout.specs.Layout.{legal, members_of, place_of, inside, role_of}
use Rattle.mpe_layout.specs.declared.MpeZone.{MpeZone}
use Rattle.mpe_layout.specs.declared.MpeZone.TheVariants.{Lower, Upper}
use Rattle.mpe_layout.specs.declared.MpeRole.{MpeRole}
use Rattle.mpe_layout.specs.declared.MpeRole.TheVariants.{NoZone, Manager, Member}
use Rattle.mpe_layout.specs.declared.MpeLayout.{MpeLayout}

abbrev pub same_zone : MpeZone → MpeZone → Bool
same_zone Lower Lower = true
same_zone Lower Upper = false
same_zone Upper Lower = false
same_zone Upper Upper = true

-- a role in this zone, as its manager or a member
abbrev pub in_zone : MpeRole → MpeZone → Bool
in_zone NoZone zone = false
in_zone (Manager z) zone = same_zone z zone
in_zone (Member z) zone = same_zone z zone

abbrev pub in_any_zone : MpeRole → Bool
in_any_zone NoZone = false
in_any_zone (Manager z) = true
in_any_zone (Member z) = true

abbrev pub same_role : MpeRole → MpeRole → Bool
same_role NoZone NoZone = true
same_role NoZone (Manager z) = false
same_role NoZone (Member z) = false
same_role (Manager y) NoZone = false
same_role (Manager y) (Manager z) = same_zone y z
same_role (Manager y) (Member z) = false
same_role (Member y) NoZone = false
same_role (Member y) (Manager z) = false
same_role (Member y) (Member z) = same_zone y z

-- a zone announcement resets a channel whose role changes, or that is in the named zone before or after
unfoldable pub announcement_roles : MpeRole → MpeRole → MpeZone → Bool
announcement_roles before after zone = not (same_role before after) || (in_zone before zone || in_zone after zone)

unfoldable pub announcement_hit : MpeLayout → MpeLayout → MpeZone → ℕ → Bool
announcement_hit before after zone channel = announcement_roles (role_of before channel) (role_of after channel) zone

-- a layout that is set resets a channel with a role before or after
unfoldable pub layout_roles : MpeRole → MpeRole → Bool
layout_roles before after = in_any_zone before || in_any_zone after

unfoldable pub layout_hit : MpeLayout → MpeLayout → ℕ → Bool
layout_hit before after channel = layout_roles (role_of before channel) (role_of after channel)

-- the channels that a change resets: of the zone that is announced, or of the whole layout, which is set
abbrev pub hit_by : Option MpeZone → MpeLayout → MpeLayout → ℕ → Bool
hit_by (Some zone) before after = announcement_hit before after zone
hit_by None before after = layout_hit before after

-- the masks: bit n is the channel with packet value n
abbrev pub announcement_mask : MpeLayout → MpeLayout → MpeZone → ℕ
announcement_mask before after zone = mask_to (announcement_hit before after zone) 16

abbrev pub layout_mask : MpeLayout → MpeLayout → ℕ
layout_mask before after = mask_to (layout_hit before after) 16

-- the channels of Lower with so many members, and of Upper
unfoldable pub in_lower : ℕ → ℕ → Bool
in_lower members channel = inside (place_of members channel)

unfoldable pub in_upper : ℕ → ℕ → Bool
in_upper members channel = inside (place_of members (15 - channel))

abbrev pub in_the_zone : MpeZone → ℕ → ℕ → Bool
in_the_zone Lower members = in_lower members
in_the_zone Upper members = in_upper members

-- a mask of the channels of a zone, in a legal layout; private functions alone cite it
pub record ZoneMask (l : MpeLayout) (zone : MpeZone) (mask : ℕ) : Type 0 where
  pub lawful : legal l ≡ true
  pub is : mask ≡ mask_to (in_the_zone zone (members_of l zone)) 16

-- the mask has this channel's bit
abbrev pub named : ℕ → ℕ → Bool
named mask channel = eqb (field (packet_value channel) 1 mask) 1

-- of a mask that a change of layout gives, a channel is named exactly where the change resets it
abbrev pub NamesHit : ℕ → ℕ → Bool → Type 0
NamesHit mask channel answer =
    (announced : Option MpeZone) (before after : MpeLayout) →
    mask ≡ mask_to (hit_by announced before after) 16 → answer ≡ hit_by announced before after (packet_value channel)

-- the channels of a mask, or none
abbrev pub mask_or_zero : Outcome ℕ → ℕ
mask_or_zero (given m) = m
mask_or_zero (declined n v) = 0
