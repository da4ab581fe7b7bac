-- The messages of a sensitivity: their words, and what these leave where they are received.
-- Assumes nothing.
use Prim.Native.Nat.{ℕ, ◌+◌, ◌*◌, ◌/◌, ◌%◌, ◌^◌, ◌<◌, ◌≤◌}
use mathlib.Core.Path.{◌≡◌, refl, ap, sym, ◌∙◌}
use mathlib.Core.Bool.{Bool, true, false}
use mathlib.Core.List.{List, [], ◌∷◌, map}
use native.Mathlib.Nat.{mod-eq_of_lt, mod-mod}
use native.Mathlib.Omega.{arith}
use lib.Dec.{ltb}
use lib.ListN.{replicate}
use borrow.Author.Tests.{le-ltb, ltb-false}
use Rattle.ump.specs.Choice.{when◌then◌else◌}
use Rattle.ump.specs.Outcome.{given, out_of_range}
use Rattle.ump.specs.Word.{channel_of, two_data_word}
use Rattle.ump.specs.Controller.{rpn_numbered}
use Rattle.ump.specs.declared.controller.Rpn.TheVariants.{PitchBendSensitivity}
use Rattle.ump.proofs.Cases.{by-test}
use Rattle.ump.proofs.Words.{PartsFit, opcode-of-word, channel-of-word, first-of-word, second-of-word}
use Rattle.parameters.specs.declared.ParameterState.{ParameterState}
use Rattle.std.specs.Prelude.{Some}
use Rattle.parameters.specs.State.{number, with_rpn, selection_of, event_for, number_stored, controlled, update_by_word}
use Rattle.parameter_event.specs.declared.Parameter.TheVariants.{Registered}
use Rattle.parameter_event.specs.declared.ParameterChange.{ParameterChange}
use Rattle.parameter_event.specs.declared.ParameterChange.TheVariants.{DataEntryMsb, DataEntryLsb}
use Rattle.parameter_event.specs.declared.ParameterEvent.{ParameterEvent}
use Rattle.parameter_messages.specs.Writers.{value_messages}
use Rattle.mpe_pitch.specs.declared.MpeSensitivity.{MpeSensitivity}
use Rattle.mpe_sender.specs.Writers.{control_word, sensitivity_group, sensitivity_allowed, sensitivity_messages}
use Rattle.mpe_sender.specs.Claims.{AllowedWithin, with_event, events_from, value_after, SensitivityEntered, SentEntered}

-- which sensitivities are allowed
pub allowed-limits : (s : MpeSensitivity) → sensitivity_allowed s ≡ true → (s.semitones ≤ 96) × (s.cents ≤ 99)
unfolding sensitivity_allowed
allowed-limits s h =
    let t = tests (ltb 96 s.semitones) (ltb 99 s.cents) h in
    (ltb-false 96 s.semitones t.0, ltb-false 99 s.cents t.1)
  where
    tests : (a b : Bool) → (when a then false else when b then false else true) ≡ true → (a ≡ false) × (b ≡ false)
    tests true b e = absurd (let z : ◌≡◌ {A = ℕ} 0 1 = cc in omega arith)
    tests false true e = absurd (let z : ◌≡◌ {A = ℕ} 0 1 = cc in omega arith)
    tests false false e = (refl, refl)

pub allowed-within : (s : MpeSensitivity) → AllowedWithin s (sensitivity_allowed s)
unfolding sensitivity_allowed
allowed-within s = (allowed-limits s, λ h l. rw (le-ltb 96 s.semitones h, le-ltb 99 s.cents l))

-- a control change is received by its controller and its value
by-control : (p : ParameterState) (k a b : ℕ) → k < 16 → a < 128 → b < 128 → update_by_word p (control_word k a b) ≡ controlled p a b
by-control p k a b hk ha hb =
    let fit : PartsFit 0 0xB k a b = record { group-lt = omega arith; opcode-lt = omega arith; channel-lt = hk; first-lt = ha; second_lt = hb } in
    rw (opcode-of-word 0 0xB k a b fit, first-of-word 0 0xB k a b fit, second-of-word 0 0xB k a b fit)

-- one message more
one_more : (p : ParameterState) (k a b : ℕ) (ws : List ℕ) → k < 16 → a < 128 → b < 128
    → events_from p (control_word k a b ∷ ws) ≡ with_event (controlled p a b).event (events_from (controlled p a b).state ws)
unfolding events_from
one_more p k a b ws hk ha hb = ap (λ u. with_event u.event (events_from u.state ws)) (by-control p k a b hk ha hb)

-- a change of RPN 0, where it is selected
abbrev of_sensitivity : ParameterChange → ParameterEvent
of_sensitivity change = record { parameter = Registered PitchBendSensitivity; change = change }

changes : (p : ParameterState) (c : ParameterChange) → p.rpn_on ≡ true → event_for (selection_of (with_rpn p (number 0 0))) c ≡ Some (of_sensitivity c)
unfolding selection_of rpn_numbered
changes p c on = rw on

module _ (channel : ℕ) (s : MpeSensitivity) (hk : channel < 16) (h : sensitivity_allowed s ≡ true) where
  abbrev a : ℕ
  a = s.semitones

  abbrev b : ℕ
  b = s.cents

  a_lt : a < 128
  a_lt = omega (arith, (allowed-limits s h).0)

  b_lt : b < 128
  b_lt = omega (arith, (allowed-limits s h).1)

  -- the four messages in turn: two halves of the number, the semitones, and the cents
  group-events : (p : ParameterState) → p.rpn_on ≡ true
      → events_from p (sensitivity_group channel s) ≡ of_sensitivity (DataEntryMsb a) ∷ of_sensitivity (DataEntryLsb b) ∷ []
  unfolding events_from controlled number_stored
  group-events p on =
      let q = with_rpn p (number 0 0) in
      let last = control_word channel 38 b ∷ [] in
      one_more p channel 101 0 (control_word channel 100 0 ∷ control_word channel 6 a ∷ last) hk (omega arith) (omega arith)
      ∙ one_more (with_rpn p (number 0 p.rpn.lsb)) channel 100 0 (control_word channel 6 a ∷ last) hk (omega arith) (omega arith)
      ∙ one_more q channel 6 a last hk (omega arith) a_lt
      ∙ ap (λ e. with_event e (events_from q last)) (changes p (DataEntryMsb a) on)
      ∙ ap (λ l. of_sensitivity (DataEntryMsb a) ∷ l)
      (one_more q channel 38 b [] hk (omega arith) b_lt ∙ ap (λ e. with_event e []) (changes p (DataEntryLsb b) on))

  -- the entry of the semitones clears the cents, and that of the cents keeps the semitones
  group-value : (v : ℕ) → value_after (of_sensitivity (DataEntryMsb a) ∷ of_sensitivity (DataEntryLsb b) ∷ []) v ≡ a * 2 ^ 7 + b
  unfolding value_after
  group-value v = let x = a_lt in let y = b_lt in omega arith

  of-channel : (c d : ℕ) → c < 128 → d < 128 → channel_of (control_word channel c d) ≡ channel
  of-channel c d hc hd =
      channel-of-word 0 0xB channel c d
      (record { group-lt = omega arith; opcode-lt = omega arith; channel-lt = hk; first-lt = hc; second_lt = hd })

  group-channel : map channel_of (sensitivity_group channel s) ≡ replicate 4 channel
  group-channel =
      rw (
        of-channel 101 0 (omega arith) (omega arith),
        of-channel 100 0 (omega arith) (omega arith),
        of-channel 6 a (omega arith) a_lt,
        of-channel 38 b (omega arith) b_lt,
      )

  group-entered : SensitivityEntered channel a b (sensitivity_group channel s)
  group-entered =
      record {
        on_channel = group-channel ∙ ap (replicate 4) (sym (mod-eq_of_lt hk));
        as_events = group-events;
        value_as = λ p v on. ap (λ l. value_after l v) (group-events p on) ∙ group-value v;
      }

-- what is answered: words, and then they leave the sensitivity
pub sent-entered : (channel : ℕ) (s : MpeSensitivity) → SentEntered (sensitivity_messages channel s) channel s.semitones s.cents
sent-entered channel s words e =
    by-test (sensitivity_allowed s)
    (λ t.
    let f : given (sensitivity_group (channel % 16) s) ≡ given words = rw t at e in
    let g : sensitivity_group (channel % 16) s ≡ words = cc in
    let n = group-entered (channel % 16) s (omega arith) t in
    rw (← g) (record { on_channel = n.on_channel ∙ ap (replicate 4) (mod-mod channel 16); as_events = n.as_events; value_as = n.value_as }))
    (λ t.
    let f : out_of_range ≡ given words = rw t at e in
    let z : ◌≡◌ {A = ℕ} 0 1 = cc in
    absurd (omega arith))

-- the value messages of RPN 0 are the group
pub group-given : (channel : ℕ) (s : MpeSensitivity) → sensitivity_allowed s ≡ true
    → value_messages channel (Registered PitchBendSensitivity) (s.semitones * 128 + s.cents) ≡ given (sensitivity_group (channel % 16) s)
unfolding value_messages two_data_word
group-given channel s h =
    let l = allowed-limits s h in
    let a = s.semitones in
    let b = s.cents in
    let m : (a * 128 + b) / 128 ≡ a = omega (arith, l.1) in
    let n : (a * 128 + b) % 128 ≡ b = omega (arith, l.1) in
    rw (le-ltb 0x3FFF (a * 128 + b) (omega (arith, l.0, l.1)), m, n, le-ltb 0x7F a (omega (arith, l.0)), le-ltb 0x7F b (omega (arith, l.1)))
