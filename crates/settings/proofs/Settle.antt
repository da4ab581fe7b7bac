-- Groups E and F: each channel's parameters are settled, and each channel has its bend, brightness and pressure.
-- Assumes nothing.
use Prim.Native.Nat.{ℕ, suc, ◌+◌, ◌*◌, ◌/◌, ◌%◌, ◌^◌, ◌<◌}
use mathlib.Core.Path.{◌≡◌, refl, ap, sym, ◌∙◌, subst}
use mathlib.Core.Bool.{true, false}
use mathlib.Core.List.{List, [], ◌∷◌}
use mathlib.Core.Logic.{inr}
use native.Mathlib.Omega.{arith}
use native.Mathlib.Nat.{not-suc-le-zero}
use lib.Dec.{eqb}
use lib.ListN.{get_or, set, length}
use borrow.Author.Tests.{eqb-true, eqb-false}
use lib.Seq.{get_or-set_same, get_or-set_other, set-set, set-get_or}
use Rattle.ump.specs.Word.{word_of}
use Rattle.ump.proofs.Cases.{by-test}
use Rattle.parameters.specs.declared.ParameterState.{ParameterState}
use Rattle.parameters.specs.State.{number, null_number, with_rpn, number_stored}
use Rattle.mpe_receiver.specs.declared.MpeReceiver.{MpeReceiver}
use Rattle.mpe_zones.specs.declared.Zones.{Zones}
use Rattle.mpe_receiver.specs.State.{with_bends, with_pressures, with_brightnesses, zones_of}
use Rattle.mpe_receiver.specs.Receive.{stored}
use Rattle.mpe_sender.specs.Writers.{control_word}
use Rattle.byte_reader.specs.declared.Reader.{Reader}
use Rattle.receiving_end.specs.declared.end.End.{End}
use Rattle.byte_reader.specs.Reader.{reader_at}
use Rattle.receiving_end.specs.End.{blank_state, with_reader, with_receiver, with_parameter, parameter_at}
use Rattle.receiving_end.proofs.Parts.{status_of, two-received, one-received}
use Rattle.receiving_end.proofs.Receive.{control-received, other-received}
use Rattle.settings.specs.declared.Settings.{Settings}
use Rattle.settings.specs.Settings.{bend_on, pressure_on, brightness_on, allowed}
use Rattle.settings.specs.Messages.{deselection_on, deselections, brightness_controller, controls_on, controls, bytes}
use Rattle.settings.proofs.Allowed.{allowed-channel}
use Rattle.settings.proofs.Bytes.{bend-bytes, pressure-bytes}
use Rattle.settings.proofs.Received.{received-all, received-append, control-all, bytes-formed, each-received}
use Rattle.settings.proofs.Stage.{Cleared, cleared-with, Stage, all_set, stage_at}

-- both numbers null, the registered kind last, and the switches as new
abbrev pub settled : ParameterState
settled = record { rpn = null_number; nrpn = null_number; nrpn_last = false; rpn_on = true; nrpn_on = false }

cleared-settled : (p : ParameterState) → Cleared p → with_rpn p null_number ≡ settled
cleared-settled p c = rw (c.nrpn-null, c.rpn-on, c.nrpn-off)

-- E. the null number chosen on a channel
module _ (e : End) (k : ℕ) (hk : k < 16) (sized : length e.parameters ≡ 16) where
  abbrev p : ParameterState
  p = parameter_at e k

  abbrev at : ParameterState → End
  at q = with_parameter (with_reader e (reader_at (status_of 0xB k) 0x80)) k q

  first : received-all e (control_word k 101 127 ∷ []) ≡ at (with_rpn p (number 127 p.rpn.lsb))
  unfolding number_stored stored
  first =
      control-all e k 101 127 hk (omega arith) (omega arith)
      ∙ control-received (with_reader e (reader_at (status_of 0xB k) 0x80)) k 101 127
      (record { not-6 = λ z. omega arith; not-38 = λ z. omega arith; not-96 = λ z. omega arith; not-97 = λ z. omega arith })
      (λ z. (λ y. omega arith, λ y. omega arith))

  second : received-all (at (with_rpn p (number 127 p.rpn.lsb))) (control_word k 100 127 ∷ []) ≡ at (with_rpn p null_number)
  unfolding number_stored stored
  second =
      let x = at (with_rpn p (number 127 p.rpn.lsb)) in
      control-all x k 100 127 hk (omega arith) (omega arith)
      ∙ control-received x k 100 127
      (record { not-6 = λ z. omega arith; not-38 = λ z. omega arith; not-96 = λ z. omega arith; not-97 = λ z. omega arith })
      (λ z. (λ y. omega arith, λ y. omega arith))
      ∙ ap (λ q. with_parameter x k (number_stored q 100 127)) (get_or-set_same e.parameters k (with_rpn p (number 127 p.rpn.lsb)) blank_state (omega arith))
      ∙ ap (λ t. record { reader = reader_at (status_of 0xB k) 0x80; parameters = t; receiver = e.receiver }) (set-set e.parameters k _ _)

  null-chosen : received-all e (deselection_on k) ≡ at (with_rpn p null_number)
  null-chosen =
      received-append e (control_word k 101 127 ∷ []) (control_word k 100 127 ∷ [])
      ∙ ap (λ x. received-all x (control_word k 100 127 ∷ [])) first
      ∙ second

-- the channels below n are settled
pub record Settling (z : Zones) (n : ℕ) (e : End) : Type 0 where
  pub stage : Stage z e
  pub settled-below : (k : ℕ) → k < n → parameter_at e k ≡ settled

settle-more : (z : Zones) (n : ℕ) (e : End) → n < 16 → Settling z n e → Settling z (suc n) (received-all e (deselection_on n))
settle-more z n e hn s =
    let st = s.stage in
    let c = st.cleared n hn in
    let received = null-chosen e n hn st.formed.channels in
    record {
      stage = stage_at e (received-all e (deselection_on n)) n (reader_at (status_of 0xB n) 0x80) (with_rpn (parameter_at e n) null_number) e.receiver st
          (bytes-formed e (bytes (deselection_on n)) st.formed) received (cleared-with (parameter_at e n) null_number c) st.zones;
      settled-below = λ k hk.
          subst (λ x. parameter_at x k ≡ settled) (sym received)
          (all_set (λ q. q ≡ settled) e.parameters n (with_rpn (parameter_at e n) null_number) st.formed.channels (cleared-settled (parameter_at e n) c) k (omega arith)
          (λ ne. s.settled-below k (omega arith)));
    }

pub settled-stage : (z : Zones) (e : End) → Stage z e → Settling z 16 (received-all e deselections)
settled-stage z e s =
    each-received (Settling z) deselection_on (settle-more z) 16 e (omega arith)
    (record { stage = s; settled-below = λ k h. absurd (not-suc-le-zero h) })

-- F. what the three messages of a channel do to a receiver
abbrev controlled : MpeReceiver → ℕ → ℕ → ℕ → ℕ → MpeReceiver
controlled r k bend brightness pressure =
    with_pressures
    (with_brightnesses (with_bends r (set r.pitch_bend k bend)) (set r.brightness k brightness))
    (set r.pressure k pressure)

-- the end with another reader and receiver
abbrev only : End → Reader → MpeReceiver → End
only e rd r = with_receiver (with_reader e rd) r

same-parameters : (e : End) (rd : Reader) (k : ℕ) (r : MpeReceiver) → with_receiver (with_parameter (with_reader e rd) k (parameter_at e k)) r ≡ only e rd r
same-parameters e rd k r = ap (λ l. record { reader = rd; parameters = l; receiver = r }) (set-get_or e.parameters k blank_state)

bend-received : (e : End) (k v : ℕ) → k < 16 → v < 2 ^ 14
    → received-all e (word_of 0 0xE k (v % 2 ^ 7) (v / 2 ^ 7) ∷ [])
    ≡ only e (reader_at (status_of 0xE k) 0x80) (with_bends e.receiver (set e.receiver.pitch_bend k v))
unfolding bytes stored
bend-received e k v hk hv =
    let back : v / 2 ^ 7 * 128 + v % 2 ^ 7 ≡ v = omega arith in
    rw (bend-bytes k v hk hv)
    (two-received e 0xE k (v % 2 ^ 7) (v / 2 ^ 7) (inr refl) (omega arith) hk (omega arith) (omega arith)
    ∙ other-received (with_reader e (reader_at (status_of 0xE k) 0x80)) 0xE k (v % 2 ^ 7) (v / 2 ^ 7) (λ z. omega arith)
    ∙ same-parameters e (reader_at (status_of 0xE k) 0x80) k (with_bends e.receiver (set e.receiver.pitch_bend k (v / 2 ^ 7 * 128 + v % 2 ^ 7)))
    ∙ ap (λ x. only e (reader_at (status_of 0xE k) 0x80) (with_bends e.receiver (set e.receiver.pitch_bend k x))) back)

brightness-received : (e : End) (k v : ℕ) → k < 16 → v < 0x80
    → received-all e (control_word k 74 v ∷ []) ≡ only e (reader_at (status_of 0xB k) 0x80) (with_brightnesses e.receiver (set e.receiver.brightness k v))
unfolding stored number_stored
brightness-received e k v hk hv =
    control-all e k 74 v hk (omega arith) hv
    ∙ control-received (with_reader e (reader_at (status_of 0xB k) 0x80)) k 74 v
    (record { not-6 = λ z. omega arith; not-38 = λ z. omega arith; not-96 = λ z. omega arith; not-97 = λ z. omega arith })
    (λ z. (λ y. omega arith, λ y. omega arith))
    ∙ same-parameters e (reader_at (status_of 0xB k) 0x80) k (with_brightnesses e.receiver (set e.receiver.brightness k v))

pressure-received : (e : End) (k v : ℕ) → k < 16 → v < 0x80
    → received-all e (word_of 0 0xD k v 0 ∷ []) ≡ only e (reader_at (status_of 0xD k) 0x80) (with_pressures e.receiver (set e.receiver.pressure k v))
unfolding bytes stored
pressure-received e k v hk hv =
    rw (pressure-bytes k v hk hv)
    (one-received e 0xD k v (omega arith) (omega arith) hk hv
    ∙ other-received (with_reader e (reader_at (status_of 0xD k) 0x80)) 0xD k v 0 (λ z. omega arith)
    ∙ same-parameters e (reader_at (status_of 0xD k) 0x80) k (with_pressures e.receiver (set e.receiver.pressure k v)))

-- one element more of a list that follows f
one_more : (l : List ℕ) (f : ℕ → ℕ) (n : ℕ) → n < length l → ((k : ℕ) → k < n → get_or l k 0 ≡ f k)
    → (k : ℕ) → k < suc n → get_or (set l n (f n)) k 0 ≡ f k
one_more l f n hn below k hk =
    by-test (eqb k n)
    (λ t. let p : k ≡ n = eqb-true k n t in rw p (get_or-set_same l n (f n) 0 hn))
    (λ t.
    let ne : k ≡ n → ⊥ = eqb-false k n t in
    get_or-set_other l n k (f n) 0 ne ∙ below k (omega arith))

module _ (s : Settings) (h : allowed s ≡ true) where
  controls-received : (e : End) (k : ℕ) → k < 16
      → received-all e (controls_on s k) ≡ only e (reader_at (status_of 0xD k) 0x80) (controlled e.receiver k (bend_on s k) (brightness_on s k) (pressure_on s k))
  controls-received e k hk =
      let limits = allowed-channel s h k hk in
      let a = word_of 0 0xE k (bend_on s k % 2 ^ 7) (bend_on s k / 2 ^ 7) in
      let b = control_word k brightness_controller (brightness_on s k) in
      let c = word_of 0 0xD k (pressure_on s k) 0 in
      let first = bend-received e k (bend_on s k) hk (omega (arith, limits.0)) in
      received-append e (a ∷ []) (b ∷ c ∷ [])
      ∙ ap (λ x. received-all x (b ∷ c ∷ [])) first
      ∙ received-append (only e (reader_at (status_of 0xE k) 0x80) (with_bends e.receiver (set e.receiver.pitch_bend k (bend_on s k)))) (b ∷ []) (c ∷ [])
      ∙ ap (λ x. received-all x (c ∷ [])) (brightness-received (only e (reader_at (status_of 0xE k) 0x80) (with_bends e.receiver (set e.receiver.pitch_bend k (bend_on s k)))) k (brightness_on s k) hk (omega (arith, limits.2)))
      ∙ pressure-received _ k (pressure_on s k) hk (omega (arith, limits.1))

  -- the channels below n show the settings
  pub record Controlled (z : Zones) (n : ℕ) (e : End) : Type 0 where
    pub settling : Settling z 16 e
    pub reader_at : (m : ℕ) → n ≡ suc m → e.reader ≡ reader_at (status_of 0xD m) 0x80
    pub bends-below : (k : ℕ) → k < n → get_or e.receiver.pitch_bend k 0 ≡ bend_on s k
    pub brightnesses-below : (k : ℕ) → k < n → get_or e.receiver.brightness k 0 ≡ brightness_on s k
    pub pressures-below : (k : ℕ) → k < n → get_or e.receiver.pressure k 0 ≡ pressure_on s k

  control-more : (z : Zones) (n : ℕ) (e : End) → n < 16 → Controlled z n e → Controlled z (suc n) (received-all e (controls_on s n))
  control-more z n e hn c =
      let st = c.settling.stage in
      let f = st.formed.receiver_formed in
      let received = sym (controls-received e n hn) in
      record {
        settling = record {
          stage = record {
            formed = bytes-formed e (bytes (controls_on s n)) st.formed;
            cleared = λ k hk. subst (λ x. Cleared (parameter_at x k)) received (st.cleared k hk);
            zones = subst (λ x. zones_of x.receiver ≡ z) received st.zones;
          };
          settled-below = λ k hk. subst (λ x. parameter_at x k ≡ settled) received (c.settling.settled-below k hk);
        };
        reader_at = λ m p. let q : n ≡ m = omega arith in subst (λ x. x.reader ≡ reader_at (status_of 0xD m) 0x80) received (ap (λ i. reader_at (status_of 0xD i) 0x80) q);
        bends-below = λ k hk.
            subst (λ x. get_or x.receiver.pitch_bend k 0 ≡ bend_on s k) received
            (one_more e.receiver.pitch_bend (bend_on s) n (omega (arith, f.bends)) c.bends-below k hk);
        brightnesses-below = λ k hk.
            subst (λ x. get_or x.receiver.brightness k 0 ≡ brightness_on s k) received
            (one_more e.receiver.brightness (brightness_on s) n (omega (arith, f.brightnesses)) c.brightnesses-below k hk);
        pressures-below = λ k hk.
            subst (λ x. get_or x.receiver.pressure k 0 ≡ pressure_on s k) received
            (one_more e.receiver.pressure (pressure_on s) n (omega (arith, f.pressures)) c.pressures-below k hk);
      }

  pub controlled-stage : (z : Zones) (e : End) → Settling z 16 e → Controlled z 16 (received-all e (controls s))
  controlled-stage z e c =
      each-received (Controlled z) (controls_on s) (control-more z) 16 e (omega arith)
      (record {
        settling = c;
        reader_at = λ m p. absurd (omega arith);
        bends-below = λ k l. absurd (not-suc-le-zero l);
        brightnesses-below = λ k l. absurd (not-suc-le-zero l);
        pressures-below = λ k l. absurd (not-suc-le-zero l);
      })
