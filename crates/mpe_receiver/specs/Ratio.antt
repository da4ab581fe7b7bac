-- The unrounded ratio of a channel's offset (document 02, 2026-04).
use Rattle.std.specs.Prelude.{ℕ, ◌≡◌, true, false, ◌+ℤ◌}
use Rattle.ump.specs.Outcome.{Outcome, given, none_there}
use Rattle.mpe_layout.specs.declared.MpeZone.{MpeZone}
use Rattle.mpe_layout.specs.declared.MpeRole.{MpeRole}
use Rattle.mpe_layout.specs.declared.MpeRole.TheVariants.{NoZone, Manager, Member}
use Rattle.mpe_layout.specs.Layout.{manager_of}
use Rattle.mpe_pitch.specs.declared.OffsetWithRemainder.{OffsetWithRemainder}
use Rattle.mpe_pitch.specs.Remainder.{scaled, sum_of}
use Rattle.mpe_pitch.specs.Claims.{Within, Divided, IsPair}
use Rattle.mpe_zones.specs.Zones.{role_held}
use Rattle.mpe_receiver.specs.declared.MpeReceiver.{MpeReceiver}
use Rattle.mpe_receiver.specs.Read.{sensitivity_of, bend_at, offset_of}

-- a manager's own pair: of its bend and its sensitivity, with the offset that `pitch_offset` answers
pub record ManagerRatio (r : MpeReceiver) (zone : MpeZone) (channel : ℕ) (answer : Outcome OffsetWithRemainder) : Type 0 where
  pub own : OffsetWithRemainder
  pub own_pair : IsPair (bend_at r channel) (sensitivity_of r zone true) own
  pub answered : answer ≡ given own
  pub its_offset : offset_of r channel ≡ given own.offset

-- a member's: the manager's pair and its own, added; so that
-- d_manager × (bend_manager − 8192) + d_member × (bend − 8192) = 8191 × offset + r with r from −8190 to 8190
pub record MemberRatio (r : MpeReceiver) (zone : MpeZone) (channel : ℕ) (answer : Outcome OffsetWithRemainder) : Type 0 where
  pub managers : OffsetWithRemainder
  pub own : OffsetWithRemainder
  pub managers_pair : IsPair (bend_at r (manager_of zone)) (sensitivity_of r zone true) managers
  pub own_pair : IsPair (bend_at r channel) (sensitivity_of r zone false) own
  pub answered : answer ≡ given (sum_of managers own)
  pub its_offset : offset_of r channel ≡ given (managers.offset +ℤ own.offset)
  pub divided : Divided (scaled (bend_at r (manager_of zone)) (sensitivity_of r zone true) +ℤ scaled (bend_at r channel) (sensitivity_of r zone false)) (sum_of managers own)
  pub its_range : Within 8190 8190 (sum_of managers own).remainder

-- by the role; none without one
abbrev pub RatioAs : MpeReceiver → ℕ → MpeRole → Outcome OffsetWithRemainder → Type 0
RatioAs r channel NoZone answer = answer ≡ none_there
RatioAs r channel (Manager zone) answer = ManagerRatio r zone channel answer
RatioAs r channel (Member zone) answer = MemberRatio r zone channel answer

abbrev pub RatioByRole : MpeReceiver → ℕ → Outcome OffsetWithRemainder → Type 0
RatioByRole r channel answer = RatioAs r channel (role_held r.layout channel) answer
