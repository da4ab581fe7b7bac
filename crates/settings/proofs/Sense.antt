-- Groups C and D: each active zone gets its sensitivities and its mode.
-- Assumes nothing.
use Prim.Native.Nat.{ℕ, zero, suc, ◌+◌, ◌*◌, ◌-◌, ◌/◌, ◌%◌, ◌^◌, ◌<◌, ◌≤◌}
use mathlib.Core.Path.{◌≡◌, refl, ap, sym, ◌∙◌, subst}
use mathlib.Core.Bool.{Bool, true, false}
use mathlib.Core.List.{List, [], ◌∷◌}
use native.Mathlib.Omega.{arith}
use native.Mathlib.Numerals.{add-one}
use lib.Dec.{eqb, lit<}
use lib.ListN.{get_or, set, length, length-set}
use lib.Seq.{get_or-set_same, get_or-set_other, set-set, set_comm}
use borrow.Author.Tests.{ne_eqb, eq-eqb, eqb-false}
use Rattle.ump.specs.Choice.{when◌then◌else◌}
use Rattle.ump.specs.Controller.{rpn_of, rpn_numbered}
use Rattle.ump.proofs.Cases.{by-test}
use Rattle.parameter_event.specs.declared.Parameter.TheVariants.{Registered}
use Rattle.parameter_event.specs.declared.ParameterChange.{ParameterChange}
use Rattle.parameter_event.specs.declared.ParameterChange.TheVariants.{DataEntryMsb, DataEntryLsb}
use Rattle.parameter_event.specs.declared.ParameterEvent.{ParameterEvent}
use Rattle.std.specs.Prelude.{Some, None}
use Rattle.parameters.specs.declared.ParameterState.{ParameterState}
use Rattle.parameters.specs.State.{number, with_rpn, selection_of, number_stored, controlled, parameter_update}
use Rattle.parameters.specs.State as parameter
use Rattle.mpe_layout.specs.declared.MpeZone.{MpeZone}
use Rattle.mpe_layout.specs.declared.MpeZone.TheVariants.{Lower, Upper}
use Rattle.mpe_layout.specs.declared.MpeLayout.{MpeLayout}
use Rattle.mpe_layout.specs.Layout.{legal, of_legal, members_of, manager_of, lowest_of, lowest_or_none, role_of}
use Rattle.mpe_layout.proofs.Legal.{members-le}
use Rattle.mpe_layout.proofs.Roles.{manager-role, member-role, lowest-role}
use Rattle.mpe_pitch.specs.declared.MpeSensitivity.{MpeSensitivity}
use Rattle.mpe_zones.specs.declared.Zones.{Zones}
use Rattle.mpe_zones.specs.Zones.{with_sensitivities, with_mono, slot_of, sensitivity_put, sensitivity_applied, sensitivity_changed, role_held}
use Rattle.mpe_event.specs.Update.{sensitivity_update, is_lowest, on_member, plain_event, mode_event, mode_set}
use Rattle.mpe_event.specs.Claims.{role_for}
use Rattle.mpe_event.proofs.Kept.{changed-by}
use Rattle.mpe_receiver.specs.declared.MpeReceiver.{MpeReceiver}
use Rattle.mpe_receiver.specs.State.{zones_of}
use Rattle.mpe_receiver.specs.Receive.{stored, received_by_fields}
use Rattle.mpe_sender.specs.Writers.{control_word, rpn_group, sensitivity_group, sensitivity_allowed}
use Rattle.mpe_sender.proofs.Zones.{manager-lt, members_fit, lowest-lt}
use Rattle.mpe_sender.proofs.Entered.{allowed-limits}
use Rattle.zone_sender.specs.Zone.{zone_groups, channel_at, sensitivity_at_place, group_at, groups, zone_words}
use Rattle.receiving_end.specs.declared.end.End.{End}
use Rattle.byte_reader.specs.declared.Reader.{Reader}
use Rattle.byte_reader.specs.Reader.{reader_at}
use Rattle.receiving_end.specs.End.{blank_state, with_reader, with_receiver, with_parameter, parameter_at}
use Rattle.receiving_end.specs.Lists.{after_bytes}
use Rattle.receiving_end.proofs.Parts.{status_of}
use Rattle.receiving_end.proofs.Numbers.{entry_read}
use Rattle.settings.specs.declared.Settings.{Settings}
use Rattle.settings.specs.Settings.{zone_of, members_in, is_mono, allowed}
use Rattle.settings.specs.Messages.{bytes, sensitivities, modes}
use Rattle.settings.proofs.Allowed.{allowed-legal, allowed-zone}
use Rattle.settings.proofs.Bytes.{group-bytes}
use Rattle.settings.proofs.Received.{received-all, received-append, control-all, bytes-formed}
use Rattle.settings.proofs.Stage.{cleared-with, Stage, stage_at}

held : (l : MpeLayout) (k : ℕ) → legal l ≡ true → k < 16 → role_held l k ≡ role_of l k
held l k h hk = let m : k % 16 ≡ k = omega arith in rw (h, m)

-- a data entry of RPN 0: controller 6 and its upper half, or 38 and its lower
abbrev entry_controller : Bool → ℕ
entry_controller true = 6
entry_controller false = 38

abbrev entry_change : Bool → ℕ → ParameterChange
entry_change true v = DataEntryMsb v
entry_change false v = DataEntryLsb v

abbrev entry_event : Bool → ℕ → ParameterEvent
entry_event upper v = record { parameter = Registered (rpn_of 0 0); change = entry_change upper v }

-- on the manager or on a member of a zone it changes the one sensitivity
changes-role : (r : MpeReceiver) (k : ℕ) (zone : MpeZone) (manager : Bool) (change : ParameterChange) → legal r.layout ≡ true → k < 16
    → role_of r.layout k ≡ role_for zone manager
    → (sensitivity_update (zones_of r) (role_held r.layout k) change).zones ≡ sensitivity_changed (zones_of r) zone manager change
changes-role r k zone manager change h hk role =
    ap (λ ro. (sensitivity_update (zones_of r) ro change).zones) (held r.layout k h hk ∙ role)
    ∙ ap (λ u. u.zones) (changed-by (zones_of r) zone manager change)

entry-acts : (r : MpeReceiver) (k v : ℕ) (zone : MpeZone) (manager upper : Bool) → legal r.layout ≡ true → k < 16
    → role_of r.layout k ≡ role_for zone manager
    → zones_of (received_by_fields r (Some (entry_event upper v)) 0xB k (entry_controller upper) v).receiver ≡ sensitivity_changed (zones_of r) zone manager (entry_change upper v)
unfolding received_by_fields stored rpn_numbered
entry-acts r k v zone manager true h hk role = changes-role r k zone manager (DataEntryMsb v) h hk role
entry-acts r k v zone manager false h hk role = changes-role r k zone manager (DataEntryLsb v) h hk role

-- the zones with another sensitivity of a zone's manager or members
abbrev pub sensed : Zones → MpeZone → Bool → MpeSensitivity → Zones
sensed z zone manager s =
    with_sensitivities z (sensitivity_put z.sensitivity (slot_of zone manager) s.semitones s.cents)

-- a sensitivity put over another
put-over : (l : List ℕ) (k a b c d : ℕ) → sensitivity_put (sensitivity_put l k a b) k c d ≡ sensitivity_put l k c d
put-over l k a b c d =
    ap (λ x. set x (k + 1) d) (set_comm (set l k a) (k + 1) k b c (λ p. omega arith) ∙ ap (λ x. set x (k + 1) b) (set-set l k a c))
    ∙ set-set (set l k c) (k + 1) b d

-- the upper half is entered, and there are no cents; then the lower half, and the semitones stay
upper-put : (l : List ℕ) (k v : ℕ) → v < 128 → sensitivity_applied l k (DataEntryMsb v) ≡ sensitivity_put l k v 0
unfolding rpn_numbered
upper-put l k v h =
    let s : v % 128 * 128 / 128 ≡ v = omega arith in
    let c : v % 128 * 128 % 128 ≡ 0 = omega arith in
    rw (s, c)

lower-put : (l : List ℕ) (k v c : ℕ) → k + 1 < length l → v < 128 → c < 128 → sensitivity_applied (sensitivity_put l k v 0) k (DataEntryLsb c) ≡ sensitivity_put l k v c
unfolding rpn_numbered
lower-put l k v c hk hv hc =
    let a : get_or (sensitivity_put l k v 0) k 0 ≡ v =
    get_or-set_other (set l k v) (k + 1) k 0 0 (λ p. omega arith) ∙ get_or-set_same l k v 0 (omega arith) in
    let b : get_or (sensitivity_put l k v 0) (k + 1) 0 ≡ 0 = get_or-set_same (set l k v) (k + 1) 0 0 (simp length-set hk) in
    let s : ((v * 128 + 0) % 2 ^ 14 / 2 ^ 7 * 2 ^ 7 + c % 2 ^ 7) / 2 ^ 7 ≡ v = omega arith in
    let t : ((v * 128 + 0) % 2 ^ 14 / 2 ^ 7 * 2 ^ 7 + c % 2 ^ 7) % 2 ^ 7 ≡ c = omega arith in
    rw (a, b, s, t) (put-over l k v 0 v c)

slot_lt : (zone : MpeZone) (manager : Bool) → slot_of zone manager + 1 < 8
slot_lt Lower true = lit< tt
slot_lt Lower false = lit< tt
slot_lt Upper true = lit< tt
slot_lt Upper false = lit< tt

-- the lower half, where RPN 0 is selected
lower-entered : (p : ParameterState) (v : ℕ) → p.rpn_on ≡ true
    → parameter.update_by_fields (with_rpn p (number 0 0)) 0xB 38 v ≡ parameter_update (with_rpn p (number 0 0)) (Some (entry_event false v))
unfolding controlled selection_of
lower-entered p v on = rw on

-- one group on the way: RPN 0 with the semitones, then the cents
module _ {z : Zones} (e : End) (k : ℕ) (s : MpeSensitivity) (zone : MpeZone) (manager : Bool) (hk : k < 16) (h : sensitivity_allowed s ≡ true)
    (role : role_of z.layout k ≡ role_for zone manager) (st : Stage z e) where
  abbrev v : ℕ
  v = s.semitones

  abbrev c : ℕ
  c = s.cents

  abbrev rd : Reader
  rd = reader_at (status_of 0xB k) 0x80

  -- after the semitones
  abbrev e1 : End
  e1 = received-all e (rpn_group k 0 0 v)

  abbrev q : ParameterState
  q = with_rpn (parameter_at e k) (number 0 0)

  abbrev z1 : Zones
  z1 = sensed z zone manager (record { semitones = v; cents = 0 })

  v-lt : v < 128
  v-lt = omega (arith, (allowed-limits s h).0)

  c_lt : c < 128
  c_lt = omega (arith, (allowed-limits s h).1)

  semitones_read : e1 ≡ with_receiver (with_parameter (with_reader e rd) k q) (received_by_fields e.receiver (Some (entry_event true v)) 0xB k 6 v).receiver
  semitones_read =
      ap (after_bytes e) (group-bytes k 0 v hk (omega arith) v-lt)
      ∙ entry_read e k 0 v hk (omega arith) v-lt st.formed.channels (st.cleared k hk).rpn-on refl

  semitones-stage : Stage z1 e1
  semitones-stage =
      stage_at e e1 k rd q (received_by_fields e.receiver (Some (entry_event true v)) 0xB k 6 v).receiver st
      (bytes-formed e (bytes (rpn_group k 0 0 v)) st.formed)
      semitones_read
      (cleared-with (parameter_at e k) (number 0 0) (st.cleared k hk))
      (entry-acts e.receiver k v zone manager true st.formed.receiver_formed.lawful hk (ap (λ z. role_of z.layout k) st.zones ∙ role)
      ∙ ap (λ z. sensitivity_changed z zone manager (DataEntryMsb v)) st.zones
      ∙ ap (with_sensitivities z) (upper-put z.sensitivity (slot_of zone manager) v v-lt))

  selected : parameter_at e1 k ≡ q
  selected =
      ap (λ x. parameter_at x k) semitones_read ∙ get_or-set_same e.parameters k q blank_state (omega (arith, st.formed.channels))

  -- after the cents
  cents_read : received-all e1 (control_word k 38 c ∷ []) ≡ with_receiver (with_parameter (with_reader e1 rd) k q) (received_by_fields e1.receiver (Some (entry_event false c)) 0xB k 38 c).receiver
  cents_read =
      control-all e1 k 38 c hk (omega arith) c_lt
      ∙ ap (λ p. with_receiver (with_parameter (with_reader e1 rd) k (parameter.update_by_fields p 0xB 38 c).state) (received_by_fields e1.receiver (parameter.update_by_fields p 0xB 38 c).event 0xB k 38 c).receiver) selected
      ∙ ap (λ u. with_receiver (with_parameter (with_reader e1 rd) k u.state) (received_by_fields e1.receiver u.event 0xB k 38 c).receiver) (lower-entered (parameter_at e k) c (st.cleared k hk).rpn-on)

  sized : length z.sensitivity ≡ 8
  sized = ap (λ z. length z.sensitivity) (sym st.zones) ∙ st.formed.receiver_formed.sensitivities

  group-stage : Stage (sensed z zone manager s) (received-all e (sensitivity_group k s))
  group-stage =
      subst (Stage (sensed z zone manager s)) (sym (received-append e (rpn_group k 0 0 v) (control_word k 38 c ∷ [])))
      (stage_at e1 (received-all e1 (control_word k 38 c ∷ [])) k rd q (received_by_fields e1.receiver (Some (entry_event false c)) 0xB k 38 c).receiver semitones-stage
      (bytes-formed e1 (bytes (control_word k 38 c ∷ [])) semitones-stage.formed)
      cents_read
      (cleared-with (parameter_at e k) (number 0 0) (st.cleared k hk))
      (entry-acts e1.receiver k c zone manager false semitones-stage.formed.receiver_formed.lawful hk (ap (λ z. role_of z.layout k) semitones-stage.zones ∙ role)
      ∙ ap (λ z. sensitivity_changed z zone manager (DataEntryLsb c)) semitones-stage.zones
      ∙ ap (with_sensitivities z) (lower-put z.sensitivity (slot_of zone manager) v c (omega (arith, sized, slot_lt zone manager)) v-lt c_lt)))

-- the zones after n groups: the manager's, then the members'
sensed_by : Zones → MpeZone → MpeSensitivity → MpeSensitivity → ℕ → Zones
sensed_by z zone a b zero = z
sensed_by z zone a b (suc zero) = sensed z zone true a
sensed_by z zone a b (suc (suc n)) = sensed (sensed z zone true a) zone false b

sensed-layout : (z : Zones) (zone : MpeZone) (a b : MpeSensitivity) (n : ℕ) → (sensed_by z zone a b n).layout ≡ z.layout
unfolding sensed_by
sensed-layout z zone a b zero = refl
sensed-layout z zone a b (suc zero) = refl
sensed-layout z zone a b (suc (suc n)) = refl

-- one member more
one-member : (z : Zones) (zone : MpeZone) (a b : MpeSensitivity) (n : ℕ) → sensed (sensed_by z zone a b (suc n)) zone false b ≡ sensed (sensed z zone true a) zone false b
unfolding sensed_by
one-member z zone a b zero = refl
one-member z zone a b (suc n) =
    ap (with_sensitivities z) (put-over (sensitivity_put z.sensitivity (slot_of zone true) a.semitones a.cents) (slot_of zone false) b.semitones b.cents b.semitones b.cents)

module _ (z : Zones) (zone : MpeZone) (a b : MpeSensitivity) (h : legal z.layout ≡ true) (some : 0 < members_of z.layout zone) (ha : sensitivity_allowed a ≡ true) (hb : sensitivity_allowed b ≡ true) where
  abbrev first : ℕ → List ℕ
  first n = groups (zone_groups (manager_of zone) (lowest_of z.layout zone) a b) n

  abbrev at : ℕ → List ℕ
  at n = group_at (zone_groups (manager_of zone) (lowest_of z.layout zone) a b) n

  at-member : (n : ℕ) → at (suc n) ≡ sensitivity_group (lowest_of z.layout zone + n) b
  unfolding channel_at sensitivity_at_place
  at-member n =
      let e : eqb (suc n) 0 ≡ false = ne_eqb (suc n) 0 (λ p. omega arith) in
      let m : suc n - 1 ≡ n = omega arith in
      rw (e, m)

  groups-stage : (n : ℕ) (e : End) → n ≤ members_of z.layout zone + 1 → Stage z e → Stage (sensed_by z zone a b n) (received-all e (first n))
  unfolding groups bytes after_bytes sensed_by channel_at sensitivity_at_place
  groups-stage zero e le s = s
  groups-stage (suc zero) e le s =
      group-stage e (manager_of zone) a zone true (manager-lt zone) ha (manager-role z.layout zone h some) s
  groups-stage (suc (suc n)) e le s =
      let m = groups-stage (suc n) e (omega arith) s in
      let k : n < members_of z.layout zone = omega arith in
      subst (λ x. Stage (sensed (sensed z zone true a) zone false b) x)
      (sym (received-append e (first (suc n)) (at (suc n)) ∙ ap (received-all (received-all e (first (suc n)))) (at-member n)))
      (subst (λ y. Stage y (received-all (received-all e (first (suc n))) (sensitivity_group (lowest_of z.layout zone + n) b))) (one-member z zone a b n)
      (group-stage (received-all e (first (suc n))) (lowest_of z.layout zone + n) b zone false (omega (arith, members_fit z.layout zone h)) hb
      (ap (λ l. role_of l (lowest_of z.layout zone + n)) (sensed-layout z zone a b (suc n)) ∙ member-role z.layout zone n h k)
      m))

  all-sensed : (m : ℕ) → 0 < m → sensed_by z zone a b (m + 1) ≡ sensed (sensed z zone true a) zone false b
  unfolding sensed_by
  all-sensed zero p = absurd (omega arith)
  all-sensed (suc m) p = rw add-one

  words-stage : (e : End) → Stage z e → Stage (sensed (sensed z zone true a) zone false b) (received-all e (zone_words z.layout zone a b))
  words-stage e s =
      subst (λ y. Stage y (received-all e (zone_words z.layout zone a b))) (all-sensed (members_of z.layout zone) some)
      (groups-stage (members_of z.layout zone + 1) e (omega arith) s)

-- C. the sensitivities of a zone, if it has members
abbrev pub sensed_for : Settings → MpeZone → Zones → Zones
sensed_for s zone z =
    when eqb (members_in s zone) 0 then z else sensed (sensed z zone true (zone_of s zone).manager) zone false (zone_of s zone).member

pub sensitivities-stage : {z : Zones} (s : Settings) (zone : MpeZone) (e : End) → allowed s ≡ true → z.layout ≡ s.layout → Stage z e
    → Stage (sensed_for s zone z) (received-all e (sensitivities s zone))
unfolding sensitivities bytes after_bytes
sensitivities-stage {z} s zone e h same st =
    by-test (eqb (members_in s zone) 0)
    (λ t. rw t st)
    (λ t. rw t
    (let some : 0 < members_in s zone = let n : members_in s zone ≡ 0 → ⊥ = eqb-false (members_in s zone) 0 t in omega arith in
    let limits = allowed-zone s h zone some in
    let a = (zone_of s zone).manager in
    let b = (zone_of s zone).member in
    subst (λ l. Stage (sensed (sensed z zone true a) zone false b) (received-all e (zone_words l zone a b))) same
    (words-stage z zone a b
    (subst (λ l. legal l ≡ true) (sym same) (allowed-legal s h))
    (subst (λ l. 0 < members_of l zone) (sym same) some)
    limits.0
    limits.1
    e st)))

-- 126 and 127 on the lowest member of a zone set its mode
abbrev mode_controller : Bool → ℕ
mode_controller true = 126
mode_controller false = 127

mode-lt : (mono : Bool) → mode_controller mono < 0x80
mode-lt true = omega arith
mode-lt false = omega arith

is-lowest : (l : MpeLayout) (zone : MpeZone) → legal l ≡ true → 0 < members_of l zone
    → is_lowest (of_legal l (lowest_or_none zone (members_of l zone))) (lowest_of l zone) ≡ true
is-lowest l zone h some =
    let n : eqb (members_of l zone) 0 ≡ false = ne_eqb (members_of l zone) 0 (λ p. omega arith) in
    rw (h, n, eq-eqb (lowest_of l zone) (lowest_of l zone) refl)

mode-acts : (r : MpeReceiver) (zone : MpeZone) (mono : Bool) (v : ℕ) → legal r.layout ≡ true → 0 < members_of r.layout zone
    → zones_of (received_by_fields r None 0xB (lowest_of r.layout zone) (mode_controller mono) v).receiver ≡ with_mono (zones_of r) zone mono
unfolding received_by_fields stored on_member
mode-acts r zone true v h some =
    let k = lowest_of r.layout zone in
    let z = zones_of r in
    ap (λ ro. mode_set z (plain_event z k ro 0xB 126) 126) (held r.layout k h (lowest-lt r.layout zone h some) ∙ lowest-role r.layout zone h some)
    ∙ ap (λ t. mode_set z (mode_event zone t) 126) (is-lowest r.layout zone h some)
mode-acts r zone false v h some =
    let k = lowest_of r.layout zone in
    let z = zones_of r in
    ap (λ ro. mode_set z (plain_event z k ro 0xB 127) 127) (held r.layout k h (lowest-lt r.layout zone h some) ∙ lowest-role r.layout zone h some)
    ∙ ap (λ t. mode_set z (mode_event zone t) 127) (is-lowest r.layout zone h some)

stays : (p : ParameterState) (mono : Bool) (v : ℕ) → parameter.update_by_fields p 0xB (mode_controller mono) v ≡ parameter_update p None
unfolding controlled number_stored
stays p true v = refl
stays p false v = refl

-- one mode message on the way
mode-stage : {z : Zones} (e : End) (zone : MpeZone) (mono : Bool) (v : ℕ) → legal z.layout ≡ true → 0 < members_of z.layout zone → v < 0x80
    → Stage z e → Stage (with_mono z zone mono) (received-all e (control_word (lowest_of z.layout zone) (mode_controller mono) v ∷ []))
mode-stage {z} e zone mono v h some hv s =
    let k = lowest_of z.layout zone in
    let hk = lowest-lt z.layout zone h some in
    let r = e.receiver in
    let same : r.layout ≡ z.layout = ap (λ y. y.layout) s.zones in
    let b = with_reader e (reader_at (status_of 0xB k) 0x80) in
    let moved = (received_by_fields r None 0xB k (mode_controller mono) v).receiver in
    let acts : zones_of moved ≡ with_mono (zones_of r) zone mono =
    subst (λ l. zones_of (received_by_fields r None 0xB (lowest_of l zone) (mode_controller mono) v).receiver ≡ with_mono (zones_of r) zone mono) same
    (mode-acts r zone mono v (subst (λ l. legal l ≡ true) (sym same) h) (subst (λ l. 0 < members_of l zone) (sym same) some)) in
    stage_at e (received-all e (control_word k (mode_controller mono) v ∷ [])) k (reader_at (status_of 0xB k) 0x80) (parameter_at e k) moved s
    (bytes-formed e (bytes (control_word k (mode_controller mono) v ∷ [])) s.formed)
    (control-all e k (mode_controller mono) v hk (mode-lt mono) hv
    ∙ ap (λ x. with_receiver (with_parameter b k x.state) (received_by_fields r x.event 0xB k (mode_controller mono) v).receiver) (stays (parameter_at e k) mono v))
    (s.cleared k hk)
    (acts ∙ ap (λ y. with_mono y zone mono) s.zones)

-- D. the mode of a zone, if it has members
abbrev pub moded_for : Settings → MpeZone → Zones → Zones
moded_for s zone z = when eqb (members_in s zone) 0 then z else with_mono z zone (is_mono (zone_of s zone))

pub modes-stage : {z : Zones} (s : Settings) (zone : MpeZone) (e : End) → allowed s ≡ true → z.layout ≡ s.layout → Stage z e
    → Stage (moded_for s zone z) (received-all e (modes s zone))
unfolding modes bytes after_bytes
modes-stage {z} s zone e h same st =
    by-test (eqb (members_in s zone) 0)
    (λ t. rw t st)
    (λ t. rw t
    (let some : 0 < members_in s zone = let n : members_in s zone ≡ 0 → ⊥ = eqb-false (members_in s zone) 0 t in omega arith in
    let law : legal z.layout ≡ true = subst (λ l. legal l ≡ true) (sym same) (allowed-legal s h) in
    let many : 0 < members_of z.layout zone = subst (λ l. 0 < members_of l zone) (sym same) some in
    let le = members-le s.layout zone (allowed-legal s h) in
    let set : (mono : Bool) (v : ℕ) → v < 0x80 → Stage (with_mono z zone mono) (received-all e (control_word (lowest_of s.layout zone) (mode_controller mono) v ∷ [])) = λ mono v hv.
    subst (λ l. Stage (with_mono z zone mono) (received-all e (control_word (lowest_of l zone) (mode_controller mono) v ∷ []))) same
    (mode-stage e zone mono v law many hv st) in
    by-test (is_mono (zone_of s zone))
    (λ m. rw m (set true (members_in s zone) (omega (arith, le))))
    (λ m. rw m (set false 0 (omega arith)))))
