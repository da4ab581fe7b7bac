-- The sensitivity messages of a whole zone (M1-100 2.2.5), and the buffer that they are written to.
use Rattle.std.specs.Prelude.{ℕ, zero, suc, ◌+◌, ◌*◌, ◌-◌, ◌<◌, ◌≤◌, true, ◌≡◌, List, [], ◌++◌, ltb, eqb, length, drop, Result, Ok, Err}
use Rattle.ump.specs.Choice.{when◌then◌else◌}
use Rattle.ump.specs.Outcome.{Outcome, given, declined, out_of_range, too_small}
use Rattle.mpe_layout.specs.Layout.{members_of, manager_of, lowest_of}
use Rattle.mpe_layout.specs.declared.MpeZone.{MpeZone}
use Rattle.mpe_layout.specs.declared.MpeLayout.{MpeLayout}
use Rattle.mpe_pitch.specs.declared.MpeSensitivity.{MpeSensitivity}
use Rattle.mpe_pitch.specs.Pitch.{manager_default}
use Rattle.mpe_sender.specs.Writers.{sensitivity_group, sensitivity_allowed, of_allowed, in_active}
use Rattle.zone_sender.specs.declared.ZoneGroups.{ZoneGroups}
use Rattle.zone_sender.specs.declared.WriteError.{WriteError}
use Rattle.zone_sender.specs.declared.WriteError.TheVariants as write_error

-- how many messages set the sensitivity of a channel: the same number for any
abbrev pub group_size : ℕ
group_size = length (sensitivity_group 0 manager_default)

-- the channels of a zone: the manager, then the members rising
unfoldable pub channel_at : ℕ → ℕ → ℕ → ℕ
channel_at manager lowest k = when eqb k 0 then manager else lowest + (k - 1)

-- their sensitivities: the manager's, then the members'
unfoldable pub sensitivity_at_place : MpeSensitivity → MpeSensitivity → ℕ → MpeSensitivity
sensitivity_at_place manager member k = when eqb k 0 then manager else member

abbrev pub zone_groups : ℕ → ℕ → MpeSensitivity → MpeSensitivity → ZoneGroups
zone_groups manager lowest a b = record { manager = manager; lowest = lowest; at_manager = a; at_member = b }

-- the group of the k-th channel
abbrev pub group_at : ZoneGroups → ℕ → List ℕ
group_at z k =
    sensitivity_group (channel_at z.manager z.lowest k) (sensitivity_at_place z.at_manager z.at_member k)

-- the first n channels are channels, and their sensitivities are allowed
pub record InRange (z : ZoneGroups) (n : ℕ) : Type 0 where
  pub manager_in : z.manager < 16
  pub members_fit : z.lowest + n ≤ 17
  pub manager_allowed : sensitivity_allowed z.at_manager ≡ true
  pub member_allowed : sensitivity_allowed z.at_member ≡ true

-- the groups of the first n channels, one after the other
unfoldable pub groups : ZoneGroups → ℕ → List ℕ
groups z zero = []
groups z (suc n) = groups z n ++ group_at z n

-- the messages of a zone: a group for its manager and for each member
abbrev pub zone_words : MpeLayout → MpeZone → MpeSensitivity → MpeSensitivity → List ℕ
zone_words l zone manager member =
    groups (zone_groups (manager_of zone) (lowest_of l zone) manager member) (members_of l zone + 1)

-- how many words: both sensitivities allowed, and a buffer that holds a group for the manager and for each member
unfoldable pub fill_reply : ℕ → MpeSensitivity → MpeSensitivity → ℕ → Outcome ℕ
fill_reply members manager member got =
    of_allowed manager
    (of_allowed member
    (when ltb got (group_size * (members + 1)) then too_small (group_size * (members + 1)) got else
    given (group_size * (members + 1))))

abbrev pub zone_reply : MpeLayout → MpeZone → MpeSensitivity → MpeSensitivity → ℕ → Outcome ℕ
zone_reply l zone manager member got = in_active l zone (fill_reply (members_of l zone) manager member got)

-- a buffer afterwards: the words at its front and the rest as it was, or on a refusal all as it was
abbrev pub filled : Outcome ℕ → List ℕ → List ℕ → List ℕ
filled (given n) words out = words ++ drop n out
filled (declined n v) words out = out

-- what the answer gives or declines
abbrev pub written_read : Result ℕ WriteError → Outcome ℕ
written_read (Ok n) = given n
written_read (Err write_error.OutOfRange) = out_of_range
written_read (Err (write_error.TooSmall needed got)) = too_small needed got
