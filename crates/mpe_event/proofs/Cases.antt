-- The six cases of document 01, "The receiver", hold of every message and all zones.
-- Assumes nothing.
use Prim.Native.Nat.{ℕ, ◌%◌, ◌≤◌}
use mathlib.Core.Path.{◌≡◌, refl, ap, sym, ◌∙◌, subst}
use mathlib.Core.Bool.{Bool, true, false}
use mathlib.Core.Logic.{◌⊎◌, inl, inr, ⊎_elim}
use native.Mathlib.Omega.{arith}
use lib.Dec.{eqb, ltb}
use borrow.Author.Tests.{eqb-true, eq-eqb, ne_eqb, le-ltb, ltb-false}
use Rattle.std.specs.Prelude.{Option, Some, None}
use Rattle.ump.specs.Choice.{when◌then◌else◌}
use Rattle.ump.specs.Outcome.{given, out_of_range, none_there}
use Rattle.ump.specs.declared.controller.Rpn.{Rpn}
use Rattle.ump.specs.declared.controller.Rpn.TheVariants as rpn
use Rattle.ump.specs.Controller.{rpn_numbered}
use Rattle.ump.proofs.Cases.{by-test, chosen, passed}
use Rattle.parameter_event.specs.declared.Parameter.{Parameter}
use Rattle.parameter_event.specs.declared.Parameter.TheVariants.{Registered, NonRegistered}
use Rattle.parameter_event.specs.declared.ParameterChange.{ParameterChange}
use Rattle.parameter_event.specs.declared.ParameterChange.TheVariants.{DataEntryMsb, DataEntryLsb, Increment, Decrement}
use Rattle.parameter_event.specs.declared.ParameterEvent.{ParameterEvent}
use Rattle.mpe_layout.specs.declared.MpeZone.{MpeZone}
use Rattle.mpe_layout.specs.declared.MpeZone.TheVariants.{Lower, Upper}
use Rattle.mpe_layout.specs.declared.MpeRole.{MpeRole}
use Rattle.mpe_layout.specs.declared.MpeRole.TheVariants as role
use Rattle.mpe_layout.specs.Layout.{role_of, lowest_of, members_of}
use Rattle.mpe_layout.proofs.Occupied.{has-members}
use Rattle.mpe_event.specs.declared.MpeEvent.{MpeEvent}
use Rattle.mpe_event.specs.declared.MpeEvent.TheVariants.{NoZone, Zone, Mode, Ignored}
use Rattle.mpe_event.specs.declared.Decoded.TheVariants.{Nothing, BendSensitivity}
use Rattle.mpe_zones.specs.declared.Zones.{Zones}
use Rattle.mpe_zones.specs.Zones.{mono_of, slot_of, sensitivity_changed, zones_announced, announced_reply, role_in, role_held}
use Rattle.mpe_event.specs.Update.{decoded_rpn, decoded_parameter, decoded_event, decoded, zones_update, configured_by, in_mode4, mode_event, is_lowest, is_lowest_in, on_member, plain_event, mode_set, updated_as, message_update}
use Rattle.mpe_event.specs.Claims.{InRole, role_for, rpn_event, NoRpn, Announces, OtherwiseIgnored, SensitivityChanges, Sensitivities, InNoZone, BankController, ModeController, OnMemberIgnored, Modes, OnManager, Ordinary, OnMember, EventUnused, ReceiverCases}
use Rattle.mpe_zones.proofs.Activation.{activates}
use Rattle.mpe_zones.proofs.Sensitivity.{changed-same, changed-other}
use Rattle.mpe_event.proofs.Kept.{changed-by}

held : (z : Zones) (k : ℕ) (ro : MpeRole) → InRole z k ro → role_held z.layout k ≡ ro
held z k ro in-role =
    let m : k % 16 ≡ k = omega (arith, in-role.is_channel) in
    ap role_in (chosen (given (role_of z.layout (k % 16))) out_of_range in-role.layout_legal) ∙ ap (role_of z.layout) m ∙ in-role.has_role

-- ---- what a parameter event is to the receiver
record RpnZero (o : ℕ) (e : Option ParameterEvent) : Type 0 where
  change : ParameterChange
  is : decoded o e ≡ BendSensitivity change
  control : o ≡ 0xB
  spelled : e ≡ rpn_event 0 change

abbrev ByRpn : ParameterEvent → Rpn → Type 0
ByRpn ev r = (decoded_rpn r ev.change ≡ Nothing) ⊎ ((decoded_rpn r ev.change ≡ BendSensitivity ev.change) × (Some ev ≡ rpn_event 0 ev.change))

by-rpn : (ev : ParameterEvent) (r : Rpn) → ev.parameter ≡ Registered r → ((c : ParameterChange) → Some ev ≡ rpn_event 6 c → ⊥) → ByRpn ev r
unfolding rpn_numbered
by-rpn ev rpn.PitchBendSensitivity p six = inr (refl, λ i. Some (record { parameter = p i; change = ev.change }))
by-rpn ev rpn.FineTuning p six = inl refl
by-rpn ev rpn.CoarseTuning p six = inl refl
by-rpn ev rpn.TuningProgramSelect p six = inl refl
by-rpn ev rpn.TuningBankSelect p six = inl refl
by-rpn ev rpn.ModulationDepthRange p six = inl refl
by-rpn ev rpn.Null p six = inl refl
by-rpn ev (rpn.Other m l) p six =
    by-test (eqb m 0)
    (λ s. by-test (eqb l 6)
    (λ t. absurd (six ev.change ((λ i. Some (record { parameter = p i; change = ev.change })) ∙ (λ i. Some (record { parameter = Registered (rpn.Other (eqb-true m 0 s i) (eqb-true l 6 t i)); change = ev.change })))))
    (λ t. inl (rw (s, t))))
    (λ s. inl (rw s))

by-parameter : (ev : ParameterEvent) (x : Parameter) → ev.parameter ≡ x → ((c : ParameterChange) → Some ev ≡ rpn_event 6 c → ⊥)
    → (decoded_parameter x ev.change ≡ Nothing) ⊎ ((decoded_parameter x ev.change ≡ BendSensitivity ev.change) × (Some ev ≡ rpn_event 0 ev.change))
by-parameter ev (Registered r) p six = by-rpn ev r p six
by-parameter ev (NonRegistered m l) p six = inl refl

decodes : (o : ℕ) (e : Option ParameterEvent) → NoRpn 6 o e → (decoded o e ≡ Nothing) ⊎ RpnZero o e
decodes o None six = inl (by-test (eqb o 0xB) (λ t. rw t) (λ t. rw t))
decodes o (Some ev) six =
    by-test (eqb o 0xB)
    (λ t.
    let b = eqb-true o 0xB t in
    ⊎_elim
    (λ n. inl (chosen _ Nothing t ∙ n))
    (λ y. inr (record { change = ev.change; is = chosen _ Nothing t ∙ y.0; control = b; spelled = y.1 }))
    (by-parameter ev ev.parameter refl (λ c q. six c b q)))
    (λ t. inl (rw t))

nothing : (o : ℕ) (e : Option ParameterEvent) → NoRpn 6 o e → NoRpn 0 o e → decoded o e ≡ Nothing
nothing o e six none = ⊎_elim (λ n. n) (λ y. absurd (none y.change y.control y.spelled)) (decodes o e six)

-- ---- a message by its channel's role
module _ (z : Zones) (e : Option ParameterEvent) (o k a : ℕ) (ro : MpeRole) (in-role : InRole z k ro) where
  by-role : message_update z e o k a ≡ updated_as z k ro (plain_event z k ro o a) (decoded o e) a
  by-role = ap (λ r. updated_as z k r (plain_event z k r o a) (decoded o e) a) (held z k ro in-role)

  plainly : {x : MpeEvent} → decoded o e ≡ Nothing → plain_event z k ro o a ≡ x → message_update z e o k a ≡ zones_update (mode_set z x a) x
  plainly d p = by-role ∙ (λ i. updated_as z k ro (p i) (d i) a)

-- ---- 1
announces : Announces
unfolding zones_announced announced_reply rpn_numbered
announces z Lower members a h m = rw (le-ltb 15 members m, h)
announces z Upper members a h m = rw (le-ltb 15 members m, h)

ignored-by : (z : Zones) (zone : MpeZone) (change : ParameterChange) → ((members : ℕ) → change ≡ DataEntryMsb members → members ≤ 15 → ⊥)
    → configured_by z zone change ≡ zones_update z Ignored
unfolding zones_announced announced_reply
ignored-by z zone (DataEntryMsb members) n =
    by-test (ltb 15 members) (λ t. rw t) (λ t. absurd (n members refl (ltb-false 15 members t)))
ignored-by z zone (DataEntryLsb d) n = refl
ignored-by z zone Increment n = refl
ignored-by z zone Decrement n = refl

otherwise-ignored : OtherwiseIgnored
unfolding rpn_numbered
otherwise-ignored z change k a n =
    by-test (eqb k 0)
    (λ s. rw s (ignored-by z Lower change (λ members p h. n Lower members (eqb-true k 0 s) p h)))
    (λ s. by-test (eqb k 15)
    (λ t. rw (s, t) (ignored-by z Upper change (λ members p h. n Upper members (eqb-true k 15 t) p h)))
    (λ t. rw (s, t)))

-- ---- 2
role_at : ℕ → MpeRole
role_at n =
    when eqb n 0 then role.Manager Lower else when eqb n 2 then role.Member Lower else when eqb n 4 then role.Manager Upper else
    role.Member Upper

slot-role : (zone : MpeZone) (manager : Bool) → role_at (slot_of zone manager) ≡ role_for zone manager
unfolding role_at
slot-role Lower true = refl
slot-role Lower false = refl
slot-role Upper true = refl
slot-role Upper false = refl

modes-stay : (z : Zones) (zone : MpeZone) (manager : Bool) (change : ParameterChange) (y : MpeZone) → mono_of (sensitivity_changed z zone manager change) y ≡ mono_of z y
modes-stay z zone manager change Lower = refl
modes-stay z zone manager change Upper = refl

sensitivities : Sensitivities
unfolding rpn_numbered
sensitivities z zone manager change k a w in-role =
    subst (SensitivityChanges z zone manager change)
    (sym (by-role z (rpn_event 0 change) 0xB k a (role_for zone manager) in-role ∙ changed-by z zone manager change))
    (record {
      its_event = refl;
      changed = changed-same z zone manager change _ w refl;
      others_kept = λ y m ne. changed-other z zone manager change y m (λ p. ne (sym (slot-role y m) ∙ ap role_at p ∙ slot-role zone manager));
      layout_kept = refl;
      modes_kept = modes-stay z zone manager change;
    })

-- ---- 3
in-no-zone : InNoZone
in-no-zone z e o k a in-role six =
    by-role z e o k a role.NoZone in-role
    ∙ ⊎_elim
    (λ n. ap (λ d. updated_as z k role.NoZone NoZone d a) n)
    (λ y. ap (λ d. updated_as z k role.NoZone NoZone d a) y.is)
    (decodes o e six)

-- ---- 4 to 6, on a member
-- the lowest member by its number
lowest-is : (z : Zones) (zone : MpeZone) (k : ℕ) → InRole z k (role.Member zone) → is_lowest_in z zone k ≡ eqb k (lowest_of z.layout zone)
lowest-is z zone k in-role =
    ap (λ o. is_lowest o k)
    (chosen _ out_of_range in-role.layout_legal ∙ passed none_there _ (ne_eqb (members_of z.layout zone) 0 (has-members z.layout zone k in-role.has_role)))

on-member-ignored : OnMemberIgnored
unfolding on_member
on-member-ignored z zone e k a in-role =
    record {
      poly_pressure = plainly z e 0xA k a (role.Member zone) in-role refl refl;
      program_change_message = λ poly. plainly z e 0xC k a (role.Member zone) in-role refl (passed (Zone zone false) Ignored poly);
      bank_select = λ poly bank six none.
          plainly z e 0xB k a (role.Member zone) in-role (nothing 0xB e six none)
          (⊎_elim
          (λ (p : a ≡ 0). rw (p, poly))
          (λ (p : a ≡ 32). rw (p, poly))
          bank);
    }

modes : Modes
unfolding on_member
modes z zone e k a in-role low six none mode =
    let lowest = lowest-is z zone k in-role ∙ eq-eqb k (lowest_of z.layout zone) low in
    plainly z e 0xB k a (role.Member zone) in-role (nothing 0xB e six none)
    (⊎_elim
    (λ (p : a ≡ 126). rw (p, lowest))
    (λ (p : a ≡ 127). rw (p, lowest))
    mode)

on-manager : OnManager
on-manager z zone e o k a in-role six none = plainly z e o k a (role.Manager zone) in-role (nothing o e six none) refl

module _ (z : Zones) (zone : MpeZone) (o k a : ℕ) (in-role : InRole z k (role.Member zone)) (n : Ordinary z zone o k a) where
  by_mode : (mono_of z zone ≡ false → ⊥) → in_mode4 zone (mono_of z zone) ≡ Zone zone false
  by_mode never = by-test (mono_of z zone) (λ t. rw t) (λ t. absurd (never t))

  bank : BankController a → o ≡ 0xB → in_mode4 zone (mono_of z zone) ≡ Zone zone false
  bank h b = by_mode (λ poly. n.no_bank_select poly b h)

  mode : ModeController a → o ≡ 0xB → mode_event zone (is_lowest_in z zone k) ≡ Zone zone false
  mode h b = passed (Mode zone) (Zone zone false) (lowest-is z zone k in-role ∙ ne_eqb k (lowest_of z.layout zone) (λ low. n.no_mode low b h))

  control : o ≡ 0xB → on_member zone (mono_of z zone) (is_lowest_in z zone k) 0xB a ≡ Zone zone false
  unfolding on_member
  control b =
      by-test (eqb a 0) (λ p. rw p (bank (inl (eqb-true a 0 p)) b))
      (λ p. by-test (eqb a 32) (λ q. rw (p, q) (bank (inr (eqb-true a 32 q)) b))
      (λ q. by-test (eqb a 126) (λ r. rw (p, q, r) (mode (inl (eqb-true a 126 r)) b))
      (λ r. by-test (eqb a 127) (λ s. rw (p, q, r, s) (mode (inr (eqb-true a 127 s)) b))
      (λ s. rw (p, q, r, s)))))

  ordinary-event : plain_event z k (role.Member zone) o a ≡ Zone zone false
  unfolding on_member
  ordinary-event =
      by-test (eqb o 0xB)
      (λ b. rw (eqb-true o 0xB b) (control (eqb-true o 0xB b)))
      (λ b. by-test (eqb o 0xA) (λ p. absurd (n.no_poly_pressure (eqb-true o 0xA p)))
      (λ p. by-test (eqb o 0xC) (λ q. rw (b, p, q) (by_mode (λ poly. n.no_program_change poly (eqb-true o 0xC q))))
      (λ q. rw (b, p, q))))

on-member : OnMember
on-member z zone e o k a in-role six none n =
    plainly z e o k a (role.Member zone) in-role (nothing o e six none) (ordinary-event z zone o k a in-role n)

-- ---- the event's use
event-unused : EventUnused
event-unused z e o k a n =
    let f = ne_eqb o 0xB n in
    let ro = role_held z.layout k in
    ap (λ d. updated_as z k ro (plain_event z k ro o a) d a) (passed (decoded_event e) Nothing f ∙ sym (passed (decoded_event None) Nothing f))

pub receiver_cases : ReceiverCases
receiver_cases =
    record {
      case_1 = announces;
      case_1_else = otherwise-ignored;
      case_2 = sensitivities;
      case_3 = in-no-zone;
      case_4 = on-member-ignored;
      case_5 = modes;
      case_6_manager = on-manager;
      case_6_member = on-member;
      event_use = event-unused;
      activation = activates;
    }
