-- Zones, the roles of channels in them, and the layouts that MPE Configuration Messages make (M1-100 1.5.1, 2.2.1, Appendix B).
use Rattle.std.specs.Prelude.{ℕ, ◌+◌, ◌-◌, Bool, true, false, ◌||◌, ltb, leb, eqb, Result, Ok, Err}
use Rattle.ump.specs.Choice.{when◌then◌else◌}
use Rattle.ump.specs.Outcome.{Outcome, given, out_of_range, none_there}
use Rattle.ump.specs.Packet.{packet_value}
use Rattle.mpe_layout.specs.declared.MpeZone.{MpeZone}
use Rattle.mpe_layout.specs.declared.MpeZone.TheVariants.{Lower, Upper}
use Rattle.mpe_layout.specs.declared.MpeRole.{MpeRole}
use Rattle.mpe_layout.specs.declared.MpeRole.TheVariants.{NoZone, Manager, Member}
use Rattle.mpe_layout.specs.declared.ZonePlace.{ZonePlace}
use Rattle.mpe_layout.specs.declared.ZonePlace.TheVariants.{Outside, AsManager, AsMember}
use Rattle.mpe_layout.specs.declared.MpeLayout.{MpeLayout}
use Rattle.mpe_layout.specs.declared.MemberError.{MemberError}
use Rattle.mpe_layout.specs.declared.MemberError.TheVariants as member_error

abbrev pub layout_of : ℕ → ℕ → MpeLayout
layout_of lower upper = record { lower = lower; upper = upper }

-- the layout of a new receiver: no zone is active (M1-100 2.2.1)
abbrev pub no_zones : MpeLayout
no_zones = layout_of 0 0

-- one zone of all sixteen channels: Lower with 15 members (M1-100 2.2.2)
abbrev pub default_layout : MpeLayout
default_layout = layout_of 15 0

-- a zone has 0 to 15 members, and two active zones have at most 14 in all, so that no channel is in both (M1-100 2.2.1)
unfoldable pub legal_counts : ℕ → ℕ → Bool
legal_counts lower upper =
    when ltb 15 lower then false else when ltb 15 upper then false else
    when eqb lower 0 then true else when eqb upper 0 then true else leb (lower + upper) 14

unfoldable pub legal : MpeLayout → Bool
legal l = legal_counts l.lower l.upper

-- what a call answers that takes a layout: it is tested first (document 01, "Replies that decline")
abbrev pub of_legal : {A : Type 0} → MpeLayout → Outcome A → Outcome A
of_legal l answer = when legal l then answer else out_of_range

-- the member count of a zone; 0: the zone is inactive
abbrev pub members_of : MpeLayout → MpeZone → ℕ
members_of l Lower = l.lower
members_of l Upper = l.upper

abbrev pub other_zone : MpeZone → MpeZone
other_zone Lower = Upper
other_zone Upper = Lower

-- the manager: MIDI Channel 1 or 16, packet value 0 or 15 (M1-100 2.2.1)
abbrev pub manager_of : MpeZone → ℕ
manager_of Lower = 0
manager_of Upper = 15

-- at least one zone is active (M1-100 2.2.1)
unfoldable pub active : ℕ → ℕ → Bool
active lower upper = ltb 0 lower || ltb 0 upper

-- a channel at a distance from the manager of a zone with so many members: members follow the manager without a gap (M1-100 2.2.1)
unfoldable pub place_of : ℕ → ℕ → ZonePlace
place_of members distance =
    when eqb members 0 then Outside else when eqb distance 0 then AsManager else when leb distance members then AsMember else Outside

-- a place in the zone, as its manager or a member
abbrev pub inside : ZonePlace → Bool
inside Outside = false
inside AsManager = true
inside AsMember = true

-- the role by the places in Lower and in Upper; in a legal layout one of the two is outside
abbrev pub role_at : ZonePlace → ZonePlace → MpeRole
role_at AsManager upper = Manager Lower
role_at AsMember upper = Member Lower
role_at Outside AsManager = Manager Upper
role_at Outside AsMember = Member Upper
role_at Outside Outside = NoZone

-- the role of a channel below 16 (M1-100 1.5.1): Lower counts up from channel 0, Upper down from channel 15
unfoldable pub role_of : MpeLayout → ℕ → MpeRole
role_of l channel = role_at (place_of l.lower channel) (place_of l.upper (15 - channel))

-- the lowest member of an active zone, which takes the mode messages (M1-100 2.2.4.3)
abbrev pub lowest_in : MpeZone → ℕ → ℕ
lowest_in Lower members = 1
lowest_in Upper members = 15 - members

abbrev pub lowest_of : MpeLayout → MpeZone → ℕ
lowest_of l zone = lowest_in zone (members_of l zone)

-- what is left of a zone when the other is given members (M1-100 2.2.1, Appendix B)
unfoldable pub left_beside : ℕ → ℕ → ℕ
left_beside members other =
    when eqb members 0 then other else
    when leb 14 members then 0 else
    when ltb (14 - members) other then 14 - members else other

-- the layout with these members in a zone and those in the other
abbrev pub layout_for : MpeZone → ℕ → ℕ → MpeLayout
layout_for Lower members other = layout_of members other
layout_for Upper members other = layout_of other members

-- the layout after an MPE Configuration Message (M1-100 2.2.1, Appendix B): no change above 15
unfoldable pub with_mcm : MpeLayout → MpeZone → ℕ → MpeLayout
with_mcm l zone members =
    when ltb 15 members then l else layout_for zone members (left_beside members (members_of l (other_zone zone)))

-- what `new`, `with_mcm` and `role` give or decline (document 01, "Layout and pitch"); a channel is taken modulo 16
abbrev pub new_layout : ℕ → ℕ → Outcome MpeLayout
new_layout lower upper = of_legal (layout_of lower upper) (given (layout_of lower upper))

abbrev pub mcm_layout : MpeLayout → MpeZone → ℕ → Outcome MpeLayout
mcm_layout l zone members = of_legal l (given (with_mcm l zone members))

abbrev pub role_given : MpeLayout → ℕ → Outcome MpeRole
role_given l channel = of_legal l (given (role_of l (packet_value channel)))

-- what `lowest_member` gives or declines
abbrev pub member_found : Result ℕ MemberError → Outcome ℕ
member_found (Ok channel) = given channel
member_found (Err member_error.OutOfRange) = out_of_range
member_found (Err member_error.NoMembers) = none_there

-- the lowest member of a zone with so many, or none
abbrev pub lowest_or_none : MpeZone → ℕ → Outcome ℕ
lowest_or_none zone members = when eqb members 0 then none_there else given (lowest_in zone members)
