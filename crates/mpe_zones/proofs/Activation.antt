-- An activated zone reads its defaults, and the other zone as before; and so does each zone with members of a layout that is set.
-- Assumes nothing.
use Prim.Native.Nat.{ℕ, ◌<◌}
use mathlib.Core.Path.{◌≡◌, refl, sym, ◌∙◌, subst}
use mathlib.Core.Bool.{Bool, true, false}
use mathlib.Core.List.{List}
use native.Mathlib.Omega.{arith}
use lib.ListN.{length-set}
use lib.Dec.{ltb}
use borrow.Author.Tests.{lt-ltb, ltb-true}
use Rattle.ump.proofs.Cases.{by-test, chosen, passed}
use Rattle.mpe_layout.specs.declared.MpeZone.{MpeZone}
use Rattle.mpe_layout.specs.declared.MpeZone.TheVariants.{Lower, Upper}
use Rattle.mpe_layout.specs.declared.MpeLayout.{MpeLayout}
use Rattle.mpe_layout.specs.Layout.{legal, other_zone, members_of}
use Rattle.mpe_pitch.specs.Pitch.{manager_default, member_default}
use Rattle.mpe_layout.proofs.Mcm.{mcm-legal}
use Rattle.mpe_zones.specs.declared.Zones.{Zones}
use Rattle.mpe_zones.specs.Zones.{with_layout, with_mono, mono_of, slot_of, sensitivity_put, sensitivity_at, zone_sensitivity, activated, activated_if, with_zones_of}
use Rattle.mpe_zones.specs.Claims.{Activation, Defaults, Activates}
use Rattle.mpe_zones.specs.WellFormed.{ZonesFormed}
use Rattle.mpe_zones.proofs.WellFormed.{laid-formed, activated-if-formed}
use Rattle.mpe_zones.proofs.Slots.{slot-fits, slot-even, halves-apart, zones-apart, put_same, put_other}

-- a mode is set beside the sensitivities
mono-beside : (z : Zones) (zone : MpeZone) (m : Bool) → (with_mono z zone m).sensitivity ≡ z.sensitivity
mono-beside z Lower m = refl
mono-beside z Upper m = refl

module _ (z : Zones) (zone : MpeZone) where
  -- the sensitivities once the manager's is put
  abbrev managed : List ℕ
  managed = sensitivity_put z.sensitivity (slot_of zone true) manager_default.semitones manager_default.cents

  -- the members' is put beside every other
  beside : (y : MpeZone) (m : Bool) → (slot_of y m ≡ slot_of zone false → ⊥) → zone_sensitivity (activated z zone) y m ≡ sensitivity_at managed (slot_of y m)
  unfolding activated
  beside y m ne =
      rw mono-beside (put_other managed (slot_of zone false) (slot_of y m) _ _ (slot-even zone false) (slot-even y m) ne)

  activated-manager : ZonesFormed z → zone_sensitivity (activated z zone) zone true ≡ manager_default
  activated-manager w =
      beside zone true (halves-apart zone)
      ∙ put_same z.sensitivity (slot_of zone true) _ _ (omega (arith, slot-fits zone true, w.sensitivities))

  activated-members : ZonesFormed z → zone_sensitivity (activated z zone) zone false ≡ member_default
  unfolding activated
  activated-members w =
      rw mono-beside
      (put_same managed (slot_of zone false) _ _ (simp length-set (omega (arith, slot-fits zone false, w.sensitivities))))

  activated-other : (manager : Bool) → zone_sensitivity (activated z zone) (other_zone zone) manager ≡ zone_sensitivity z (other_zone zone) manager
  activated-other manager =
      beside (other_zone zone) manager (zones-apart zone manager false)
      ∙ put_other z.sensitivity (slot_of zone true) (slot_of (other_zone zone) manager) _ _ (slot-even zone true) (slot-even (other_zone zone) manager) (zones-apart zone manager true)

activated-mode : (z : Zones) (zone : MpeZone) → mono_of (activated z zone) zone ≡ false
unfolding activated
activated-mode z Lower = refl
activated-mode z Upper = refl

activated-other-mode : (z : Zones) (zone : MpeZone) → mono_of (activated z zone) (other_zone zone) ≡ mono_of z (other_zone zone)
unfolding activated
activated-other-mode z Lower = refl
activated-other-mode z Upper = refl

layout-beside : (z : Zones) (zone : MpeZone) → (activated z zone).layout ≡ z.layout
unfolding activated
layout-beside z Lower = refl
layout-beside z Upper = refl

zone-activated : (z : Zones) (zone : MpeZone) (members : ℕ) → ZonesFormed z → 0 < members → Activation z zone (activated_if members z zone)
zone-activated z zone members w some =
    subst (Activation z zone) (sym (chosen (activated z zone) z (lt-ltb 0 members some)))
    (record {
      its_manager = activated-manager z zone w;
      its_members = activated-members z zone w;
      its_mode = activated-mode z zone;
      other_sensitivities = activated-other z zone;
      other_mode = activated-other-mode z zone;
      same_layout = layout-beside z zone;
    })

defaults-of : (z after : Zones) (zone : MpeZone) → Activation z zone after → Defaults after zone
defaults-of z after zone a = record { its_manager = a.its_manager; its_members = a.its_members; its_mode = a.its_mode }

-- the activation of a zone leaves the defaults of the other
defaults-beside : (z : Zones) (zone : MpeZone) (members : ℕ) → ZonesFormed z → Defaults z (other_zone zone) → Defaults (activated_if members z zone) (other_zone zone)
defaults-beside z zone members w d =
    by-test (ltb 0 members)
    (λ t.
    let a = zone-activated z zone members w (ltb-true 0 members t) in
    record {
      its_manager = a.other_sensitivities true ∙ d.its_manager;
      its_members = a.other_sensitivities false ∙ d.its_members;
      its_mode = a.other_mode ∙ d.its_mode;
    })
    (λ t. subst (λ x. Defaults x (other_zone zone)) (sym (passed (activated z zone) z t)) d)

set-activated : (z : Zones) (l : MpeLayout) (zone : MpeZone) → ZonesFormed z → legal l ≡ true → 0 < members_of l zone → Defaults (with_zones_of z l) zone
set-activated z l Lower w h some =
    let lower = activated_if l.lower (with_layout z l) Lower in
    let v = laid-formed z w l h in
    defaults-beside lower Upper l.upper (activated-if-formed l.lower (with_layout z l) Lower v)
    (defaults-of (with_layout z l) lower Lower (zone-activated (with_layout z l) Lower l.lower v some))
set-activated z l Upper w h some =
    let lower = activated_if l.lower (with_layout z l) Lower in
    defaults-of lower (with_zones_of z l) Upper
    (zone-activated lower Upper l.upper (activated-if-formed l.lower (with_layout z l) Lower (laid-formed z w l h)) some)

pub activates : Activates
activates =
    record {
      of_zone = zone-activated;
      of_layout = λ z l zone w h some. subst (λ x. Defaults x zone) (sym (chosen (with_zones_of z l) z h)) (set-activated z l zone w h some);
    }

-- what `announce` stands on
pub ruleset announcing = (activates, mcm-legal)
