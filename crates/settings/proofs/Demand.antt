-- Demand 3 holds of the restatement of all allowed settings.
-- Assumes nothing.
use Prim.Native.Nat.{ℕ, ◌%◌, ◌<◌}
use mathlib.Core.Path.{◌≡◌, refl, ap, sym, ◌∙◌, subst}
use mathlib.Core.Bool.{Bool, true, false}
use mathlib.Core.List.{List}
use mathlib.Core.Logic.{⊎_elim}
use native.Mathlib.Omega.{arith}
use lib.Dec.{eqb}
use lib.ListN.{get_or-replicate}
use borrow.Author.Tests.{eqb-false}
use Rattle.ump.specs.Choice.{when◌then◌else◌}
use Rattle.ump.proofs.Cases.{by-test}
use Rattle.parameters.specs.State.{new_state}
use Rattle.mpe_layout.specs.declared.MpeZone.{MpeZone}
use Rattle.mpe_layout.specs.declared.MpeZone.TheVariants.{Lower, Upper}
use Rattle.mpe_zones.specs.Zones.{mono_of, slot_of, sensitivity_at}
use Rattle.receiving_end.specs.declared.end.End.{End}
use Rattle.receiving_end.specs.End.{new_end, blank_state, parameter_at, step_end}
use Rattle.receiving_end.specs.Lists.{Call, laid_out, counted, ranged, after, answers, after_bytes}
use Rattle.receiving_end.proofs.Messages.{system-read}
use Rattle.receiving_end.proofs.Always.{new-end-formed, always-formed}
use Rattle.settings.specs.declared.Settings.{Settings}
use Rattle.settings.specs.Settings.{zone_of, members_in, is_mono, shown_sensitivity, shown_mode, allowed}
use Rattle.settings.specs.Messages.{restatement}
use Rattle.settings.specs.Demand.{SwitchesAsNew, Arrives, whole, by_value, lent, between_by_value, between_lent, Shown, Demand}
use Rattle.settings.proofs.Allowed.{allowed-zone}
use Rattle.settings.proofs.Clear.{AsNew}
use Rattle.settings.proofs.Settle.{Controlled}
use Rattle.settings.proofs.Restated.{shown_zones, restated, same_end}

-- calls that bring bytes leave the end that these bytes leave
pub arrives-received : (e : End) {bytes : List ℕ} {calls : List Call} → Arrives bytes calls → after e calls ≡ after_bytes e bytes
unfolding after after_bytes
arrives-received e whole = refl
arrives-received e (by_value {b} a) = arrives-received (step_end e b) a
arrives-received e (lent {b} a) = arrives-received (step_end e b) a
arrives-received e (between_by_value {b} h a) = rw (system-read e b h) (arrives-received e a)
arrives-received e (between_lent {b} h a) = rw (system-read e b h) (arrives-received e a)

-- on a new end RPN reception is on and NRPN reception off
new-switches : (k : ℕ) → k < 16 → AsNew (parameter_at new_end k)
new-switches k hk = subst AsNew (sym (get_or-replicate 16 k new_state blank_state hk)) (record { rpn-on = refl; nrpn-off = refl })

-- the switches of each channel, as they read
switches : (e : End) → SwitchesAsNew e → (k : ℕ) → k < 16 → AsNew (parameter_at e k)
switches e n k hk =
    let m : k % 16 ≡ k = omega arith in
    let new = new-switches (k % 16) (omega arith) in
    let a = n.rpn_as_new k in
    let b = n.nrpn_as_new k in
    let c = new.rpn-on in
    let d = new.nrpn-off in
    record {
      rpn-on = ap (λ i. (parameter_at e i).rpn_on) (sym m) ∙ cc;
      nrpn-off = ap (λ i. (parameter_at e i).nrpn_on) (sym m) ∙ cc;
    }

module _ (s : Settings) (h : allowed s ≡ true) where
  -- readings of the zones
  sensitivity-shown : (zone : MpeZone) (manager : Bool) → sensitivity_at (shown_zones s).sensitivity (slot_of zone manager) ≡ shown_sensitivity s zone manager
  sensitivity-shown Lower true = refl
  sensitivity-shown Lower false = refl
  sensitivity-shown Upper true = refl
  sensitivity-shown Upper false = refl

  abbrev mode_for : Bool → ℕ
  mode_for mono = when mono then 4 else 3

  -- a mode is 3 or 4
  mode-shown : (zone : MpeZone) → mode_for (when eqb (members_in s zone) 0 then false else is_mono (zone_of s zone)) ≡ shown_mode s zone
  mode-shown zone =
      by-test (eqb (members_in s zone) 0)
      (λ t. rw t)
      (λ t. rw t
      (let some : 0 < members_in s zone = let n : members_in s zone ≡ 0 → ⊥ = eqb-false (members_in s zone) 0 t in omega arith in
      ⊎_elim
      (λ (three : (zone_of s zone).mode ≡ 3). rw three)
      (λ (four : (zone_of s zone).mode ≡ 4). rw four)
      (allowed-zone s h zone some).2))

  mono-shown : (zone : MpeZone) → mode_for (mono_of (shown_zones s) zone) ≡ shown_mode s zone
  mono-shown Lower = mode-shown Lower
  mono-shown Upper = mode-shown Upper

  shown_by : (e : End) → Controlled s h (shown_zones s) 16 e → Shown s e
  shown_by e c =
      let z = c.settling.stage.zones in
      record {
        shows_layout = ap (λ z. laid_out z.layout) z;
        shows_sensitivity = λ zone manager.
            ap (λ z. ranged (sensitivity_at z.sensitivity (slot_of zone manager))) z ∙ ap ranged (sensitivity-shown zone manager);
        shows_mode = λ zone. ap (λ m. counted (mode_for m)) (ap (λ z. mono_of z zone) z) ∙ ap counted (mono-shown zone);
        shows_bend = λ channel. ap counted (c.bends-below (channel % 16) (omega arith));
        shows_pressure = λ channel. ap counted (c.pressures-below (channel % 16) (omega arith));
        shows_brightness = λ channel. ap counted (c.brightnesses-below (channel % 16) (omega arith));
      }

  -- after any history with the switches as new
  abbrev After : List Call → End
  After before = after_bytes (after new_end before) (restatement s)

  after-history : (before : List Call) → SwitchesAsNew (after new_end before) → Controlled s h (shown_zones s) 16 (After before)
  after-history before n = restated s h (after new_end before) (always-formed before) (switches (after new_end before) n)

  alone : Controlled s h (shown_zones s) 16 (after_bytes new_end (restatement s))
  alone = restated s h new_end new-end-formed new-switches

  pub demand-holds : Demand s (restatement s)
  demand-holds =
      record {
        shown = λ before calls n a.
            subst (Shown s) (sym (arrives-received (after new_end before) a)) (shown_by (After before) (after-history before n));
        answered_alike = λ before calls later n a.
            ap (λ e. answers e later) (arrives-received (after new_end before) a ∙ same_end s h (After before) (after_bytes new_end (restatement s)) (after-history before n) alone);
      }
