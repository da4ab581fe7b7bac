-- Demand 3: what a restatement does to an end with any history (document 01, "Demand 3 in detail").
use Rattle.std.specs.Prelude.{ℕ, ◌≤◌, Bool, ◌≡◌, List, [], ◌∷◌}
use Rattle.ump.specs.Packet.{packet_value}
use Rattle.mpe_layout.specs.declared.MpeZone.{MpeZone}
use Rattle.receiving_end.specs.declared.end.End.{End}
use Rattle.receiving_end.specs.End.{new_end}
use Rattle.receiving_end.specs.Lists.{Call, byte_by_value, byte_lent, layout, mode, sensitivity, pitch_bend, pressure, brightness, rpn_reception, nrpn_reception, laid_out, counted, ranged, answer, after, answers, after_bytes}
use Rattle.settings.specs.declared.Settings.{Settings}
use Rattle.settings.specs.Settings.{shown_sensitivity, shown_mode, bend_on, pressure_on, brightness_on}

-- every reception switch reads as on a new end
pub record SwitchesAsNew (e : End) : Type 0 where
  pub rpn_as_new : (channel : ℕ) → answer e (rpn_reception channel) ≡ answer new_end (rpn_reception channel)
  pub nrpn_as_new : (channel : ℕ) → answer e (nrpn_reception channel) ≡ answer new_end (nrpn_reception channel)

-- these calls bring these bytes whole, each by value or lent, with at most bytes F8 to FF before, between and after them
pub data Arrives : List ℕ → List Call → Type 0 where
  whole : Arrives [] []
  by_value : {b : ℕ} {bytes : List ℕ} {calls : List Call} → Arrives bytes calls → Arrives (b ∷ bytes) (byte_by_value b ∷ calls)
  lent : {b : ℕ} {bytes : List ℕ} {calls : List Call} → Arrives bytes calls → Arrives (b ∷ bytes) (byte_lent b ∷ calls)
  between_by_value : {b : ℕ} {bytes : List ℕ} {calls : List Call} → 0xF8 ≤ b → Arrives bytes calls → Arrives bytes (byte_by_value b ∷ calls)
  between_lent : {b : ℕ} {bytes : List ℕ} {calls : List Call} → 0xF8 ≤ b → Arrives bytes calls → Arrives bytes (byte_lent b ∷ calls)

-- the readings on the end give the settings
pub record Shown (s : Settings) (e : End) : Type 0 where
  pub shows_layout : answer e layout ≡ laid_out s.layout
  pub shows_sensitivity : (zone : MpeZone) (manager : Bool) → answer e (sensitivity zone manager) ≡ ranged (shown_sensitivity s zone manager)
  pub shows_mode : (zone : MpeZone) → answer e (mode zone) ≡ counted (shown_mode s zone)
  pub shows_bend : (channel : ℕ) → answer e (pitch_bend channel) ≡ counted (bend_on s (packet_value channel))
  pub shows_pressure : (channel : ℕ) → answer e (pressure channel) ≡ counted (pressure_on s (packet_value channel))
  pub shows_brightness : (channel : ℕ) → answer e (brightness channel) ≡ counted (brightness_on s (packet_value channel))

-- Whatever was called on a new end, if the switches are as new and then these bytes arrive, the end shows the settings, and every later list of
-- calls gets the answers of a new end that received these bytes alone.
pub record Demand (s : Settings) (bytes : List ℕ) : Type 0 where
  pub shown : (before calls : List Call) → SwitchesAsNew (after new_end before) → Arrives bytes calls
      → Shown s (after (after new_end before) calls)
  pub answered_alike : (before calls later : List Call) → SwitchesAsNew (after new_end before) → Arrives bytes calls
      → answers (after (after new_end before) calls) later ≡ answers (after_bytes new_end bytes) later
