-- Whatever an end was, with the switches as new: after a restatement it is one end, which the settings alone determine.
-- Assumes nothing.
use Prim.Native.Nat.{ℕ, ◌<◌}
use mathlib.Core.Path.{◌≡◌, refl, ap, sym, ◌∙◌, subst}
use mathlib.Core.Bool.{Bool, true, false}
use mathlib.Core.List.{List, ◌++◌}
use native.Mathlib.Omega.{arith}
use lib.Dec.{eqb}
use lib.ListN.{get_or, length}
use lib.Seq.{ext_get_or}
use Rattle.ump.specs.Choice.{when◌then◌else◌}
use Rattle.ump.proofs.Cases.{by-test}
use Rattle.mpe_layout.specs.declared.MpeZone.{MpeZone}
use Rattle.mpe_layout.specs.declared.MpeZone.TheVariants.{Lower, Upper}
use Rattle.mpe_pitch.specs.declared.MpeSensitivity.{MpeSensitivity}
use Rattle.mpe_zones.specs.declared.Zones.{Zones}
use Rattle.mpe_zones.specs.Zones.{with_mono}
use Rattle.mpe_receiver.specs.declared.MpeReceiver.{MpeReceiver}
use Rattle.mpe_receiver.specs.State.{with_bends, with_pressures, with_brightnesses, zones_of, with_zones}
use Rattle.receiving_end.specs.declared.end.End.{End}
use Rattle.receiving_end.specs.End.{blank_state, parameter_at}
use Rattle.receiving_end.specs.WellFormed.{EndFormed}
use Rattle.settings.specs.declared.Settings.{Settings}
use Rattle.settings.specs.Settings.{zone_of, members_in, is_mono, sensitivity_for, default_for, shown_sensitivity, bend_on, pressure_on, brightness_on, allowed}
use Rattle.settings.specs.Messages.{resets, announcements, sensitivities, modes, deselections, controls, messages}
use Rattle.settings.proofs.Allowed.{allowed-legal}
use Rattle.settings.proofs.Received.{received-all, received-append}
use Rattle.settings.proofs.Stage.{zones_at, Stage}
use Rattle.settings.proofs.Clear.{AsNew, reset-stage}
use Rattle.settings.proofs.Announce.{slots, default_zones, announcements-stage}
use Rattle.settings.proofs.Sense.{sensed, sensed_for, sensitivities-stage, moded_for, modes-stage}
use Rattle.settings.proofs.Settle.{Settling, settled-stage, Controlled, controlled-stage}

-- the zones that the settings determine
abbrev shown_mono : Settings → MpeZone → Bool
shown_mono s zone = when eqb (members_in s zone) 0 then false else is_mono (zone_of s zone)

abbrev pub shown_zones : Settings → Zones
shown_zones s =
    zones_at s.layout (shown_mono s Lower) (shown_mono s Upper)
    (slots (shown_sensitivity s Lower true) (shown_sensitivity s Lower false) (shown_sensitivity s Upper true) (shown_sensitivity s Upper false))

sensed-layout : (s : Settings) (zone : MpeZone) (z : Zones) → (sensed_for s zone z).layout ≡ z.layout
sensed-layout s zone z = by-test (eqb (members_in s zone) 0) (λ t. rw t) (λ t. rw t)

mono-layout : (z : Zones) (zone : MpeZone) (mono : Bool) → (with_mono z zone mono).layout ≡ z.layout
mono-layout z Lower mono = refl
mono-layout z Upper mono = refl

moded-layout : (s : Settings) (zone : MpeZone) (z : Zones) → (moded_for s zone z).layout ≡ z.layout
moded-layout s zone z =
    by-test (eqb (members_in s zone) 0) (λ t. rw t) (λ t. rw t (mono-layout z zone (is_mono (zone_of s zone))))

-- by which zones are empty
abbrev held_by : Bool → Settings → MpeZone → Bool → MpeSensitivity
held_by empty s zone manager = when empty then default_for manager else sensitivity_for (zone_of s zone) manager

abbrev sensed_by : Bool → Settings → MpeZone → Zones → Zones
sensed_by empty s zone z =
    when empty then z else sensed (sensed z zone true (zone_of s zone).manager) zone false (zone_of s zone).member

abbrev moded_by : Bool → Settings → MpeZone → Zones → Zones
moded_by empty s zone z = when empty then z else with_mono z zone (is_mono (zone_of s zone))

zones-by : (s : Settings) (t u : Bool)
    → moded_by u s Upper (moded_by t s Lower (sensed_by u s Upper (sensed_by t s Lower (default_zones s.layout))))
    ≡ zones_at s.layout (when t then false else is_mono s.lower) (when u then false else is_mono s.upper)
    (slots (held_by t s Lower true) (held_by t s Lower false) (held_by u s Upper true) (held_by u s Upper false))
zones-by s true true = refl
zones-by s true false = refl
zones-by s false true = refl
zones-by s false false = refl

zones-shown : (s : Settings) → moded_for s Upper (moded_for s Lower (sensed_for s Upper (sensed_for s Lower (default_zones s.layout)))) ≡ shown_zones s
zones-shown s = zones-by s (eqb s.layout.lower 0) (eqb s.layout.upper 0)

module _ (s : Settings) (h : allowed s ≡ true) where
  grow : (P : End → Type 0) (e : End) (a b : List ℕ) → P (received-all (received-all e a) b) → P (received-all e (a ++ b))
  grow P e a b p = subst P (sym (received-append e a b)) p

  abbrev to_zones : List ℕ
  to_zones = resets ++ announcements s.layout

  abbrev to_sensitivities : List ℕ
  to_sensitivities = to_zones ++ sensitivities s Lower ++ sensitivities s Upper

  abbrev to_modes : List ℕ
  to_modes = to_sensitivities ++ modes s Lower ++ modes s Upper

  module _ (e : End) (f : EndFormed e) (new : (k : ℕ) → k < 16 → AsNew (parameter_at e k)) where
    zones-stage : Stage (default_zones s.layout) (received-all e to_zones)
    zones-stage =
        grow (Stage (default_zones s.layout)) e resets (announcements s.layout)
        (announcements-stage (received-all e resets) s.layout (allowed-legal s h) (reset-stage e f new))

    abbrev z1 : Zones
    z1 = sensed_for s Lower (default_zones s.layout)

    abbrev z2 : Zones
    z2 = sensed_for s Upper z1

    abbrev z3 : Zones
    z3 = moded_for s Lower z2

    l1 : z1.layout ≡ s.layout
    l1 = sensed-layout s Lower (default_zones s.layout)

    l2 : z2.layout ≡ s.layout
    l2 = sensed-layout s Upper z1 ∙ l1

    l3 : z3.layout ≡ s.layout
    l3 = moded-layout s Lower z2 ∙ l2

    sensed-stage : Stage z2 (received-all e to_sensitivities)
    sensed-stage =
        grow (Stage z2) e (to_zones ++ sensitivities s Lower) (sensitivities s Upper)
        (sensitivities-stage s Upper (received-all e (to_zones ++ sensitivities s Lower)) h l1
        (grow (Stage z1) e to_zones (sensitivities s Lower) (sensitivities-stage s Lower (received-all e to_zones) h refl zones-stage)))

    moded-stage : Stage (shown_zones s) (received-all e to_modes)
    moded-stage =
        subst (λ z. Stage z (received-all e to_modes)) (zones-shown s)
        (grow (Stage (moded_for s Upper z3)) e (to_sensitivities ++ modes s Lower) (modes s Upper)
        (modes-stage s Upper (received-all e (to_sensitivities ++ modes s Lower)) h l3
        (grow (Stage z3) e to_sensitivities (modes s Lower) (modes-stage s Lower (received-all e to_sensitivities) h l2 sensed-stage))))

    pub restated : Controlled s h (shown_zones s) 16 (received-all e (messages s))
    unfolding messages
    restated =
        grow (Controlled s h (shown_zones s) 16) e (to_modes ++ deselections) (controls s)
        (controlled-stage s h (shown_zones s) (received-all e (to_modes ++ deselections))
        (grow (Settling (shown_zones s) 16) e to_modes deselections (settled-stage (shown_zones s) (received-all e to_modes) moded-stage)))

  -- two such ends are equal
  same-list : (l m : List ℕ) (g : ℕ → ℕ) → length l ≡ 16 → length m ≡ 16
      → ((k : ℕ) → k < 16 → get_or l k 0 ≡ g k) → ((k : ℕ) → k < 16 → get_or m k 0 ≡ g k) → l ≡ m
  same-list l m g p q a b =
      ext_get_or 0 l m (p ∙ sym q) (λ i hi. let k : i < 16 = omega arith in a i k ∙ sym (b i k))

  module _ {z : Zones} (e x : End) (a : Controlled s h z 16 e) (b : Controlled s h z 16 x) where
    same-parameters : e.parameters ≡ x.parameters
    same-parameters =
        let p = a.settling.stage.formed.channels in
        let q = b.settling.stage.formed.channels in
        ext_get_or blank_state e.parameters x.parameters (p ∙ sym q)
        (λ i hi. let k : i < 16 = omega arith in a.settling.settled-below i k ∙ sym (b.settling.settled-below i k))

    abbrev with : Zones → List ℕ → List ℕ → List ℕ → MpeReceiver
    with z bends pressures brightnesses = with_bends (with_pressures (with_brightnesses (with_zones e.receiver z) brightnesses) pressures) bends

    same-receiver : e.receiver ≡ x.receiver
    same-receiver =
        let f = a.settling.stage.formed.receiver_formed in
        let g = b.settling.stage.formed.receiver_formed in
        let r = e.receiver in
        let t = x.receiver in
        ap (λ y. with y r.pitch_bend r.pressure r.brightness) (a.settling.stage.zones ∙ sym b.settling.stage.zones)
        ∙ ap (λ y. with (zones_of t) y r.pressure r.brightness) (same-list r.pitch_bend t.pitch_bend (bend_on s) f.bends g.bends a.bends-below b.bends-below)
        ∙ ap (λ y. with (zones_of t) t.pitch_bend y r.brightness) (same-list r.pressure t.pressure (pressure_on s) f.pressures g.pressures a.pressures-below b.pressures-below)
        ∙ ap (λ y. with (zones_of t) t.pitch_bend t.pressure y) (same-list r.brightness t.brightness (brightness_on s) f.brightnesses g.brightnesses a.brightnesses-below b.brightnesses-below)

    pub same_end : e ≡ x
    same_end =
        ap (λ y. record { reader = y; parameters = e.parameters; receiver = e.receiver }) (a.reader_at 15 refl ∙ sym (b.reader_at 15 refl))
        ∙ ap (λ y. record { reader = x.reader; parameters = y; receiver = e.receiver }) same-parameters
        ∙ ap (λ y. record { reader = x.reader; parameters = x.parameters; receiver = y }) same-receiver
