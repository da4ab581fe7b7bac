-- The fields of settings that are read are those that the readings of demand 3 show: they decide the restatement and what is shown, and are decided by it.
-- Assumes nothing.
use Prim.Native.Nat.{ℕ, zero, suc, ◌%◌, ◌<◌}
use mathlib.Core.Path.{◌≡◌, refl, ap, ap₂, sym, ◌∙◌}
use mathlib.Core.Bool.{Bool, true, false}
use mathlib.Core.List.{List, [], ◌∷◌, ◌++◌}
use native.Mathlib.Omega.{arith}
use lib.Dec.{eqb}
use Rattle.ump.proofs.Cases.{by-test}
use Rattle.mpe_layout.specs.declared.MpeZone.{MpeZone}
use Rattle.mpe_layout.specs.declared.MpeZone.TheVariants.{Lower, Upper}
use Rattle.mpe_layout.specs.declared.MpeLayout.{MpeLayout}
use Rattle.mpe_pitch.specs.declared.MpeSensitivity.{MpeSensitivity}
use Rattle.receiving_end.specs.declared.end.End.{End}
use Rattle.receiving_end.specs.Lists.{laid_out, counted, ranged}
use Rattle.settings.specs.declared.ZoneSettings.{ZoneSettings}
use Rattle.settings.specs.declared.Settings.{Settings}
use Rattle.settings.specs.Settings.{zone_of, members_in, shown_sensitivity, shown_mode, bend_on, pressure_on, brightness_on}
use Rattle.settings.specs.Messages.{each_channel, sensitivities, modes, controls_on, controls, messages, bytes}
use Rattle.settings.specs.Demand.{Shown}
use Rattle.setup_file.specs.Format.{seen_zone, seen}
use Rattle.setup_file.specs.Claims.{SeenIsShown}
use Rattle.setup_file.proofs.Entries.{each_at}

-- the same of each channel below n
each_same : (f g : ℕ → List ℕ) (n : ℕ) → ((k : ℕ) → k < n → f k ≡ g k) → each_channel f n ≡ each_channel g n
unfolding each_channel
each_same f g zero h = refl
each_same f g (suc n) h = ap₂ ◌++◌ (each_same f g n (λ k b. h k (omega arith))) (h n (omega arith))

-- a channel's values are all seen
seen-bend : (s : Settings) (k : ℕ) → k < 16 → bend_on (seen s) k ≡ bend_on s k
seen-bend s k b = each_at (bend_on s) 16 k b

seen-pressure : (s : Settings) (k : ℕ) → k < 16 → pressure_on (seen s) k ≡ pressure_on s k
seen-pressure s k b = each_at (pressure_on s) 16 k b

seen-brightness : (s : Settings) (k : ℕ) → k < 16 → brightness_on (seen s) k ≡ brightness_on s k
seen-brightness s k b = each_at (brightness_on s) 16 k b

-- and of a zone what its messages and its readings read
seen-sensitivities : (s : Settings) (zone : MpeZone) → sensitivities (seen s) zone ≡ sensitivities s zone
unfolding sensitivities
seen-sensitivities s Lower = by-test (eqb s.layout.lower 0) (λ e. rw e) (λ e. rw e)
seen-sensitivities s Upper = by-test (eqb s.layout.upper 0) (λ e. rw e) (λ e. rw e)

seen-modes : (s : Settings) (zone : MpeZone) → modes (seen s) zone ≡ modes s zone
unfolding modes
seen-modes s Lower = by-test (eqb s.layout.lower 0) (λ e. rw e) (λ e. rw e)
seen-modes s Upper = by-test (eqb s.layout.upper 0) (λ e. rw e) (λ e. rw e)

seen-sensitivity : (s : Settings) (zone : MpeZone) (manager : Bool) → shown_sensitivity (seen s) zone manager ≡ shown_sensitivity s zone manager
seen-sensitivity s Lower manager = by-test (eqb s.layout.lower 0) (λ e. rw e) (λ e. rw e)
seen-sensitivity s Upper manager = by-test (eqb s.layout.upper 0) (λ e. rw e) (λ e. rw e)

seen-mode : (s : Settings) (zone : MpeZone) → shown_mode (seen s) zone ≡ shown_mode s zone
seen-mode s Lower = by-test (eqb s.layout.lower 0) (λ e. rw e) (λ e. rw e)
seen-mode s Upper = by-test (eqb s.layout.upper 0) (λ e. rw e) (λ e. rw e)

-- so the restatement reads nothing else
seen-controls : (s : Settings) → controls (seen s) ≡ controls s
seen-controls s =
    each_same (controls_on (seen s)) (controls_on s) 16 (λ k b. rw (seen-bend s k b, seen-pressure s k b, seen-brightness s k b))

seen-messages : (s : Settings) → messages (seen s) ≡ messages s
unfolding messages
seen-messages s =
    rw (seen-sensitivities s Lower, seen-sensitivities s Upper, seen-modes s Lower, seen-modes s Upper, seen-controls s)

-- settings with the same readings
record Alike (s t : Settings) : Type 0 where
  pub layouts : s.layout ≡ t.layout
  pub ranges : (zone : MpeZone) (manager : Bool) → shown_sensitivity s zone manager ≡ shown_sensitivity t zone manager
  pub mode-numbers : (zone : MpeZone) → shown_mode s zone ≡ shown_mode t zone
  pub bends : (k : ℕ) → k < 16 → bend_on s k ≡ bend_on t k
  pub pressures : (k : ℕ) → k < 16 → pressure_on s k ≡ pressure_on t k
  pub brightnesses : (k : ℕ) → k < 16 → brightness_on s k ≡ brightness_on t k

seen_alike : (s t : Settings) → seen s ≡ seen t → Alike s t
seen_alike s t p =
    record {
      layouts = ap (λ u. u.layout) p;
      ranges = λ zone manager. through (λ u. shown_sensitivity u zone manager) (λ u. seen-sensitivity u zone manager);
      mode-numbers = λ zone. through (λ u. shown_mode u zone) (λ u. seen-mode u zone);
      bends = λ k b. through (λ u. bend_on u k) (λ u. seen-bend u k b);
      pressures = λ k b. through (λ u. pressure_on u k) (λ u. seen-pressure u k b);
      brightnesses = λ k b. through (λ u. brightness_on u k) (λ u. seen-brightness u k b);
    }
  where
    through : {A : Type 0} (f : Settings → A) → ((u : Settings) → f (seen u) ≡ f u) → f s ≡ f t
    through f h = sym (h s) ∙ ap f p ∙ h t

alike-shown : (s t : Settings) (e : End) → Alike s t → Shown s e → Shown t e
alike-shown s t e a h =
    record {
      shows_layout = h.shows_layout ∙ ap laid_out a.layouts;
      shows_sensitivity = λ zone manager. h.shows_sensitivity zone manager ∙ ap ranged (a.ranges zone manager);
      shows_mode = λ zone. h.shows_mode zone ∙ ap counted (a.mode-numbers zone);
      shows_bend = λ channel. h.shows_bend channel ∙ ap counted (a.bends (channel % 16) (omega arith));
      shows_pressure = λ channel. h.shows_pressure channel ∙ ap counted (a.pressures (channel % 16) (omega arith));
      shows_brightness = λ channel. h.shows_brightness channel ∙ ap counted (a.brightnesses (channel % 16) (omega arith));
    }

-- a reading tells what was read
same-layouts : (m n : MpeLayout) → laid_out m ≡ laid_out n → m ≡ n
same-layouts m n e = cc

same-counts : (m n : ℕ) → counted m ≡ counted n → m ≡ n
same-counts m n e = cc

same-ranges : (m n : MpeSensitivity) → ranged m ≡ ranged n → m ≡ n
same-ranges m n e = cc

shown_alike : (s t : Settings) (e : End) → Shown s e → Shown t e → Alike s t
shown_alike s t e g h =
    record {
      layouts = same-layouts _ _ (sym g.shows_layout ∙ h.shows_layout);
      ranges = λ zone manager. same-ranges _ _ (sym (g.shows_sensitivity zone manager) ∙ h.shows_sensitivity zone manager);
      mode-numbers = λ zone. same-counts _ _ (sym (g.shows_mode zone) ∙ h.shows_mode zone);
      bends = λ k b. below (bend_on s) (bend_on t) (λ k. same-counts _ _ (sym (g.shows_bend k) ∙ h.shows_bend k)) k b;
      pressures = λ k b. below (pressure_on s) (pressure_on t) (λ k. same-counts _ _ (sym (g.shows_pressure k) ∙ h.shows_pressure k)) k b;
      brightnesses = λ k b. below (brightness_on s) (brightness_on t) (λ k. same-counts _ _ (sym (g.shows_brightness k) ∙ h.shows_brightness k)) k b;
    }
  where
    below : (f g : ℕ → ℕ) → ((k : ℕ) → f (k % 16) ≡ g (k % 16)) → (k : ℕ) → k < 16 → f k ≡ g k
    below f g h k b = let m : k % 16 ≡ k = omega arith in rw m at (h k)

-- a zone's fields that are read are what it shows
abbrev shown_zone : Settings → MpeZone → ZoneSettings
shown_zone s zone = record { manager = shown_sensitivity s zone true; member = shown_sensitivity s zone false; mode = shown_mode s zone }

zone-shown : (s : Settings) (zone : MpeZone) → seen_zone (members_in s zone) (zone_of s zone) ≡ shown_zone s zone
zone-shown s zone = by-test (eqb (members_in s zone) 0) (λ e. rw e) (λ e. rw e)

alike-zone : (s t : Settings) → Alike s t → (zone : MpeZone) → seen_zone (members_in s zone) (zone_of s zone) ≡ seen_zone (members_in t zone) (zone_of t zone)
alike-zone s t a zone = zone-shown s zone ∙ same ∙ sym (zone-shown t zone)
  where
    same : shown_zone s zone ≡ shown_zone t zone
    same = λ i. record { manager = a.ranges zone true i; member = a.ranges zone false i; mode = a.mode-numbers zone i }

alike-seen : (s t : Settings) → Alike s t → seen s ≡ seen t
alike-seen s t a =
    λ i. record {
      layout = a.layouts i;
      lower = alike-zone s t a Lower i;
      upper = alike-zone s t a Upper i;
      pitch_bend = each (bend_on s) (bend_on t) a.bends i;
      pressure = each (pressure_on s) (pressure_on t) a.pressures i;
      brightness = each (brightness_on s) (brightness_on t) a.brightnesses i;
    }
  where
    each : (f g : ℕ → ℕ) → ((k : ℕ) → k < 16 → f k ≡ g k) → each_channel (λ k. f k ∷ []) 16 ≡ each_channel (λ k. g k ∷ []) 16
    each f g h = each_same (λ k. f k ∷ []) (λ k. g k ∷ []) 16 (λ k b. ap {B = List ℕ} (λ v. v ∷ []) (h k b))

pub seen-is-shown : SeenIsShown
seen-is-shown =
    record {
      same_restatement = λ s t p. ap bytes (sym (seen-messages s) ∙ ap messages p ∙ seen-messages t);
      same_shown = λ s t e p. alike-shown s t e (seen_alike s t p);
      shown_alike = λ s t e g h. alike-seen s t (shown_alike s t e g h);
    }
