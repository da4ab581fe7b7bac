-- What a message leaves of the zones: RPN 0 changes one sensitivity, and where an event reports no change there is none.
-- Assumes nothing.
use Prim.Native.Nat.{ℕ}
use mathlib.Core.Path.{◌≡◌, refl, sym, ◌∙◌}
use mathlib.Core.Bool.{Bool, true, false, true≢false}
use lib.Dec.{ltb, eqb}
use Rattle.std.specs.Prelude.{Option, Some, None}
use borrow.Author.Tests.{eqb-true, ne_eqb}
use Rattle.ump.proofs.Cases.{by-test, of-both}
use Rattle.parameter_event.specs.declared.ParameterChange.{ParameterChange}
use Rattle.parameter_event.specs.declared.ParameterChange.TheVariants.{DataEntryMsb, DataEntryLsb, Increment, Decrement}
use Rattle.parameter_event.specs.declared.ParameterEvent.{ParameterEvent}
use Rattle.mpe_layout.specs.declared.MpeZone.{MpeZone}
use Rattle.mpe_layout.specs.declared.MpeRole.{MpeRole}
use Rattle.mpe_layout.specs.declared.MpeRole.TheVariants as role
use Rattle.mpe_layout.specs.Layout.{legal}
use Rattle.mpe_event.specs.declared.MpeEvent.{MpeEvent}
use Rattle.mpe_event.specs.declared.MpeEvent.TheVariants.{NoZone, Zone, Layout, Sensitivity, Mode, Ignored}
use Rattle.mpe_event.specs.declared.Decoded.{Decoded}
use Rattle.mpe_event.specs.declared.Decoded.TheVariants.{Nothing, Configuration, BendSensitivity}
use Rattle.mpe_event.specs.declared.ZonesUpdate.{ZonesUpdate}
use Rattle.mpe_zones.specs.declared.Zones.{Zones}
use Rattle.mpe_zones.specs.Zones.{sensitivity_changed, zones_announced, announced_reply, role_held}
use Rattle.mpe_event.specs.Update.{zones_update, announced, configured_by, configured_as, announced_on, sensitivity_update, in_mode4, on_member, plain_event, mode_set, decoded, updated_as, message_update, reset_in, changes_by}
use Rattle.mpe_event.specs.Claims.{role_for}

-- RPN 0 on a channel of this role
pub changed-by : (z : Zones) (zone : MpeZone) (manager : Bool) (change : ParameterChange)
    → sensitivity_update z (role_for zone manager) change ≡ zones_update (sensitivity_changed z zone manager change) (Sensitivity zone manager)
changed-by z zone true change = refl
changed-by z zone false change = refl

-- the events that report no change of the zones reset no channel
pub none-reset : (e : MpeEvent) → changes_by e ≡ false → reset_in e ≡ 0
none-reset NoZone f = refl
none-reset (Zone y m) f = refl
none-reset (Layout m) f = absurd (true≢false f)
none-reset (Sensitivity y m) f = refl
none-reset (Mode y) f = refl
none-reset Ignored f = refl

-- and the zones stay
record Kept (z : Zones) (t : ZonesUpdate) : Type 0 where
  kept : changes_by t.event ≡ false → t.zones ≡ z

module _ (z : Zones) where
  stays : (e : MpeEvent) → Kept z (zones_update z e)
  stays e = record { kept = λ f. refl }

  changes : {t : ZonesUpdate} → changes_by t.event ≡ true → Kept z t
  changes c = record { kept = λ f. absurd (true≢false (sym c ∙ f)) }

  announced-kept : (zone : MpeZone) (members : ℕ) → Kept z (announced z zone members)
  unfolding zones_announced announced_reply
  announced-kept zone members =
      by-test (ltb 15 members)
      (λ t. rw t (stays Ignored))
      (λ t. by-test (legal z.layout) (λ h. rw (t, h) (changes refl)) (λ h. rw (t, h) (stays Ignored)))

  change-kept : (zone : MpeZone) (change : ParameterChange) → Kept z (configured_by z zone change)
  change-kept zone (DataEntryMsb members) = announced-kept zone members
  change-kept zone (DataEntryLsb d) = stays Ignored
  change-kept zone Increment = stays Ignored
  change-kept zone Decrement = stays Ignored

  configured-kept : (on : Option MpeZone) (change : ParameterChange) → Kept z (configured_as z on change)
  configured-kept None change = stays Ignored
  configured-kept (Some zone) change = change-kept zone change

  sensitivity-kept : (ro : MpeRole) (change : ParameterChange) → Kept z (sensitivity_update z ro change)
  sensitivity-kept role.NoZone change = stays NoZone
  sensitivity-kept (role.Manager zone) change = changes refl
  sensitivity-kept (role.Member zone) change = changes refl

  mode-kept : (e : MpeEvent) (a : ℕ) → Kept z (zones_update (mode_set z e a) e)
  mode-kept NoZone a = stays NoZone
  mode-kept (Zone y m) a = stays (Zone y m)
  mode-kept (Layout m) a = stays (Layout m)
  mode-kept (Sensitivity y m) a = stays (Sensitivity y m)
  mode-kept (Mode y) a = changes refl
  mode-kept Ignored a = stays Ignored

  decoded-kept : (channel : ℕ) (ro : MpeRole) (plain : MpeEvent) (d : Decoded) (a : ℕ) → Kept z (updated_as z channel ro plain d a)
  decoded-kept channel ro plain (Configuration change) a = configured-kept (announced_on channel) change
  decoded-kept channel ro plain (BendSensitivity change) a = sensitivity-kept ro change
  decoded-kept channel ro plain Nothing a = mode-kept plain a

  pub zones-kept : (channel : ℕ) (ro : MpeRole) (plain : MpeEvent) (opcode : ℕ) (e : Option ParameterEvent) (a : ℕ)
      → changes_by (updated_as z channel ro plain (decoded opcode e) a).event ≡ false → (updated_as z channel ro plain (decoded opcode e) a).zones ≡ z
  zones-kept channel ro plain opcode e a = (decoded-kept channel ro plain (decoded opcode e) a).kept

-- a message that sets no mode
abbrev pub NoMode : ℕ → ℕ → Type 0
NoMode o a = (o ≡ 0xB → (a ≡ 126 → ⊥) × (a ≡ 127 → ⊥))

-- where no parameter event decides, its event reports no change
abbrev Still : MpeEvent → Type 0
Still e = changes_by e ≡ false

module _ (zone : MpeZone) (mono lowest : Bool) (o a : ℕ) (n : NoMode o a) where
  still-mode : Still (in_mode4 zone mono)
  still-mode = of-both Still mono refl refl

  member-still : Still (on_member zone mono lowest o a)
  unfolding on_member
  member-still =
      by-test (eqb o 0xB)
      (λ g.
      let m = n (eqb-true o 0xB g) in
      rw (g, ne_eqb a 126 m.0, ne_eqb a 127 m.1)
      (of-both Still (eqb a 0) still-mode (of-both Still (eqb a 32) still-mode refl)))
      (λ g. rw g (of-both Still (eqb o 0xA) refl (of-both Still (eqb o 0xC) still-mode refl)))

pub event-still : (z : Zones) (channel : ℕ) (ro : MpeRole) (o a : ℕ) → NoMode o a → changes_by (plain_event z channel ro o a) ≡ false
event-still z channel role.NoZone o a n = refl
event-still z channel (role.Manager zone) o a n = refl
event-still z channel (role.Member zone) o a n = member-still zone _ _ o a n

-- with no parameter event a message acts by its channel's role
pub plain-update : (z : Zones) (o channel a : ℕ)
    → message_update z None o channel a
    ≡ zones_update (mode_set z (plain_event z channel (role_held z.layout channel) o a) a) (plain_event z channel (role_held z.layout channel) o a)
plain-update z o channel a = by-test (eqb o 0xB) (λ e. rw e) (λ e. rw e)

pub quiet-event : (z : Zones) (o channel a : ℕ) → NoMode o a → changes_by (message_update z None o channel a).event ≡ false
quiet-event z o channel a n = rw (plain-update z o channel a) (event-still z channel (role_held z.layout channel) o a n)
