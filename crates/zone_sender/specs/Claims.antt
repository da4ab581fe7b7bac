-- The words of a zone: how many a buffer needs, and their order (document 01, "The sending side"; document 02, 2026-01: four words a channel).
use Rattle.std.specs.Prelude.{ℕ, ◌+◌, ◌*◌, ◌<◌, ◌≤◌, true, ◌≡◌, List, length, take, drop}
use Rattle.ump.specs.Outcome.{Outcome, given, too_small}
use Rattle.mpe_layout.specs.Layout.{legal, members_of, manager_of, lowest_of}
use Rattle.mpe_layout.specs.declared.MpeZone.{MpeZone}
use Rattle.mpe_layout.specs.declared.MpeLayout.{MpeLayout}
use Rattle.mpe_pitch.specs.declared.MpeSensitivity.{MpeSensitivity}
use Rattle.mpe_sender.specs.Writers.{sensitivity_group, sensitivity_allowed}

-- four words for the manager and for each member
abbrev pub needed_for : MpeLayout → MpeZone → ℕ
needed_for l zone = 4 * (1 + members_of l zone)

-- these words: those of the manager first, with its sensitivity, and then those of each member with the members', from the lowest up
pub record InOrder (l : MpeLayout) (zone : MpeZone) (manager member : MpeSensitivity) (words : List ℕ) : Type 0 where
  pub four_a_channel : length words ≡ needed_for l zone
  pub manager_first : take 4 words ≡ sensitivity_group (manager_of zone) manager
  pub members_rising : (n : ℕ) → n < members_of l zone → take 4 (drop (4 * (1 + n)) words) ≡ sensitivity_group (lowest_of l zone + n) member

-- so they stand at the front of a buffer, where a count is answered
abbrev pub WrittenInOrder : MpeLayout → MpeZone → MpeSensitivity → MpeSensitivity → Outcome ℕ → List ℕ → Type 0
WrittenInOrder l zone manager member reply out = (n : ℕ) → reply ≡ given n → InOrder l zone manager member (take n out)

-- of a zone with members, and of sensitivities that may be sent, the words are written where the buffer holds them, and else it is too small
abbrev pub AnsweredByNeed : MpeLayout → MpeZone → MpeSensitivity → MpeSensitivity → ℕ → Outcome ℕ → Type 0
AnsweredByNeed l zone manager member got reply =
    legal l ≡ true → 0 < members_of l zone → sensitivity_allowed manager ≡ true → sensitivity_allowed member ≡ true
    → (needed_for l zone ≤ got → reply ≡ given (needed_for l zone)) × (got < needed_for l zone → reply ≡ too_small (needed_for l zone) got)
