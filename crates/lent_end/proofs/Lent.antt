-- The lent byte call is the byte step: what it makes of an end's parts, each where it stands, is the end and the reply of `step_of`.
-- Assumes nothing.
use Prim.Native.Nat.{ℕ, ◌^◌, ◌<◌}
use mathlib.Core.Path.{◌≡◌, refl, ap, ap₂, sym, ◌∙◌}
use mathlib.Core.Bool.{Bool, true, false, true≢false}
use mathlib.Core.List.{List}
use native.Mathlib.Omega.{arith}
use lib.Dec.{eqb}
use lib.ListN.{set}
use lib.Seq.{set-get_or}
use borrow.Author.Tests.{eqb-true, eqb-false, ne_eqb}
use Rattle.ump.specs.Choice.{when◌then◌else◌}
use Rattle.ump.specs.Word.{opcode_of, channel_of, first_of, second_of, word_form}
use Rattle.ump.proofs.Cases.{by-test}
use Rattle.parameters.specs.declared.ParameterUpdate.{ParameterUpdate}
use Rattle.parameters.specs.declared.ParameterState.{ParameterState}
use Rattle.parameter_event.specs.declared.ParameterEvent.{ParameterEvent}
use Rattle.std.specs.Prelude.{Option, Some, None}
use Rattle.parameters.specs.State as parameter
use Rattle.mpe_layout.specs.declared.MpeZone.{MpeZone}
use Rattle.mpe_layout.specs.declared.MpeRole.{MpeRole}
use Rattle.mpe_layout.specs.declared.MpeRole.TheVariants as role
use Rattle.mpe_receiver.specs.declared.MpeReceiver.{MpeReceiver}
use Rattle.mpe_event.specs.declared.MpeEvent.TheVariants.{Ignored}
use Rattle.mpe_zones.specs.Zones.{role_held}
use Rattle.mpe_event.specs.Update.{on_member, plain_event}
use Rattle.mpe_event.proofs.Kept.{NoMode, plain-update}
use Rattle.mpe_receiver.specs.State.{with_brightnesses, zones_of}
use Rattle.mpe_receiver.specs.Receive.{stored, received_by_fields}
use Rattle.mpe_receiver.specs.Receive as receiver
use Rattle.mpe_receiver.proofs.Parts.{receiver-quiet}
use Rattle.byte_reader.specs.declared.Reader.{Reader}
use Rattle.byte_reader.specs.declared.Read.{Read}
use Rattle.byte_reader.specs.declared.Read.TheVariants as read
use Rattle.byte_reader.specs.declared.ReadStep.{ReadStep}
use Rattle.byte_reader.specs.Reader.{read_step}
use Rattle.receiving_end.specs.declared.end.End.{End}
use Rattle.receiving_end.specs.declared.end.Reply.{Reply}
use Rattle.receiving_end.specs.declared.end.Reply.TheVariants.{Message}
use Rattle.receiving_end.specs.declared.end.Stepped.{Stepped}
use Rattle.receiving_end.specs.End.{blank_state, with_reader, with_receiver, with_parameter, parameter_at, parameter_event_at, stepped, message_at, message_step, answer_step, step_of, step_reply, step_end}
use Rattle.lent_end.specs.Lent.{event_on_member, event_by_role, event_reply, settles_with, settled_end, settled_reply, control_end, control_reply, brightness_end, changed_end, changed_reply, stored_end, message_end, message_reply, read_end, read_reply}
use Rattle.lent_end.proofs.Words.{Formed, Fine, read-fine}

-- what a word makes of an end, and its reply
abbrev word_received : End → ℕ → Stepped
word_received e w = stepped (message_end e w) (message_reply e w)

-- what holds of a test's two values
by_value : (P : Bool → Type 0) (b : Bool) → (b ≡ true → P true) → (b ≡ false → P false) → P b
by_value P true t f = t refl
by_value P false t f = f refl

abbrev with_parameters : End → List ParameterState → End
with_parameters e l = record { reader = e.reader; parameters = l; receiver = e.receiver }

-- a word that is not of the form of a message does nothing
ignored-step : (e : End) (w : ℕ) → word_form w ≡ false → stepped e (Message w Ignored) ≡ message_step e w
unfolding message_at
ignored-step e w f =
    rw f
    (ap (λ l. stepped (with_parameters e l) (Message w Ignored)) (sym (set-get_or e.parameters (channel_of w) blank_state)))

-- one that is reaches the parameters, and then the receiver with their event
abbrev update_step : End → ℕ → ParameterUpdate → Stepped
update_step e w u =
    let got = receiver.received_by_word e.receiver u.event w in
    stepped (with_receiver (with_parameter e (channel_of w) u.state) got.receiver) (Message w got.event)

formed-step : (e : End) (w : ℕ) → word_form w ≡ true → message_step e w ≡ update_step e w (parameter.update_by_word (parameter_at e (channel_of w)) w)
unfolding message_at
formed-step e w f = rw f

-- only the mode messages ask whether a member is the lowest
any-member : (zone : MpeZone) (mono lowest : Bool) (o a : ℕ) → NoMode o a → on_member zone mono lowest o a ≡ event_on_member zone mono o a
unfolding on_member
any-member zone mono lowest o a n =
    by-test (eqb o 0xB)
    (λ g. let m = n (eqb-true o 0xB g) in rw (g, ne_eqb a 126 m.0, ne_eqb a 127 m.1))
    (λ g. rw g)

module _ (r : MpeReceiver) (w : ℕ) (n : NoMode (opcode_of w) (first_of w)) where
  by-role : (ro : MpeRole) → plain_event (zones_of r) (channel_of w) ro (opcode_of w) (first_of w) ≡ event_by_role r ro w
  by-role role.NoZone = refl
  by-role (role.Manager zone) = refl
  by-role (role.Member zone) = any-member zone _ _ (opcode_of w) (first_of w) n

  -- the event of a message that sets no mode, where the parameters gave none
  quiet-event : (receiver.received_by_word r None w).event ≡ event_by_role r (role_held r.layout (channel_of w)) w
  unfolding received_by_fields
  quiet-event =
      ap (λ t. t.event) (plain-update (zones_of r) (opcode_of w) (channel_of w) (first_of w)) ∙ by-role (role_held r.layout (channel_of w))

-- a control change that settles nothing has no event of the parameters, and is not 121, 126 or 127
record Unsettled (event : Option ParameterEvent) (a : ℕ) : Type 0 where
  none : event ≡ None
  not-121 : eqb a 121 ≡ false
  not-126 : eqb a 126 ≡ false
  not-127 : eqb a 127 ≡ false

none_of : (x y z : Bool) → (when x then true else when y then true else z) ≡ false → (x ≡ false) × ((y ≡ false) × (z ≡ false))
none_of true y z f = absurd (true≢false f)
none_of false true z f = absurd (true≢false f)
none_of false false z f = (refl, (refl, f))

unsettled : (event : Option ParameterEvent) (a : ℕ) → settles_with event a ≡ false → Unsettled event a
unsettled None a f =
    let n = none_of (eqb a 121) (eqb a 126) (eqb a 127) f in
    record { none = refl; not-121 = n.0; not-126 = n.1.0; not-127 = n.1.1 }
unsettled (Some e) a f = absurd (true≢false f)

-- a word of the form of a message reaches an end
module _ (e : End) (w : ℕ) (formed : word_form w ≡ true) where
  abbrev k : ℕ
  k = channel_of w

  abbrev p : ParameterState
  p = parameter_at e k

  abbrev r : MpeReceiver
  r = e.receiver

  -- its control stored
  abbrev put : MpeReceiver
  put = stored r (opcode_of w) k (first_of w) (second_of w)

  -- the channel's parameters written over themselves
  kept : with_parameter e k p ≡ e
  kept = ap (with_parameters e) (set-get_or e.parameters k blank_state)

  -- a message that sets no mode and for which the parameters give no event is stored, and no more
  quiet_step : (s : ParameterState) → parameter.update_by_word p w ≡ parameter.parameter_update s None → NoMode (opcode_of w) (first_of w)
      → message_step e w ≡ stepped (with_receiver (with_parameter e k s) put) (event_reply r w)
  quiet_step s only m =
      formed-step e w formed
      ∙ ap (update_step e w) only
      ∙ ap₂ stepped
      (ap (with_receiver (with_parameter e k s)) (receiver-quiet r (opcode_of w) k (first_of w) (second_of w) m))
      (ap (Message w) (quiet-event r w m))

  -- one that the parameters do not keep either
  stored-step : parameter.update_by_word p w ≡ parameter.parameter_update p None → NoMode (opcode_of w) (first_of w) → message_step e w ≡ stepped (with_receiver e put) (event_reply r w)
  stored-step only m = quiet_step p only m ∙ ap (λ x. stepped (with_receiver x put) (event_reply r w)) kept

  module _ (control : opcode_of w ≡ 0xB) where
    module _ (dark : eqb (first_of w) 74 ≡ false) where
      -- the event of the parameters, and the parameters after it
      abbrev event : Option ParameterEvent
      event = parameter_event_at p w

      abbrev after : End
      after = with_parameter e k (parameter.parameter_after p w)

      settled-step : stepped (settled_end after w event) (settled_reply e w event) ≡ message_step e w
      unfolding message_at
      settled-step = refl

      module _ (u : Unsettled event (first_of w)) where
        -- a control change other than 74 and 121 is not stored
        not-put : put ≡ r
        unfolding stored
        not-put = rw (control, dark, u.not-121)

        only : parameter.update_by_word p w ≡ parameter.parameter_update (parameter.update_by_word p w).state None
        only =
            let none : (parameter.update_by_word p w).event ≡ None = sym (rw formed) ∙ u.none in
            ap (parameter.parameter_update (parameter.update_by_word p w).state) none

        unsettled-step : stepped after (event_reply r w) ≡ message_step e w
        unsettled-step =
            let s = (parameter.update_by_word p w).state in
            let same : parameter.parameter_after p w ≡ s = rw formed in
            ap (λ x. stepped (with_parameter e k x) (event_reply r w)) same
            ∙ ap (λ x. stepped (with_receiver (with_parameter e k s) x) (event_reply r w)) (sym not-put)
            ∙ sym (quiet_step s only (λ q. (eqb-false (first_of w) 126 u.not-126, eqb-false (first_of w) 127 u.not-127)))

      control-step : stepped (control_end e w) (control_reply e w) ≡ message_step e w
      control-step =
          by_value (λ b. stepped (when b then settled_end after w event else after) (when b then settled_reply e w event else event_reply r w) ≡ message_step e w)
          (settles_with event (first_of w))
          (λ b. settled-step)
          (λ b. unsettled-step (unsettled event (first_of w) b))

    module _ (bright : first_of w ≡ 74) where
      -- the parameters keep what they hold, and give no event
      bright-kept : parameter.update_by_word p w ≡ parameter.parameter_update p None
      unfolding parameter.controlled parameter.number_stored
      bright-kept = rw (control, bright)

      bright-put : with_brightnesses r (set r.brightness k (second_of w)) ≡ put
      unfolding stored
      bright-put = rw (control, bright)

      brightness-step : stepped (brightness_end e w) (event_reply r w) ≡ message_step e w
      brightness-step =
          ap (λ x. stepped (with_receiver e x) (event_reply r w)) bright-put
          ∙ sym (stored-step bright-kept (λ q. ((λ x. let z : 74 ≡ 126 = sym bright ∙ x in omega arith), (λ x. let z : 74 ≡ 127 = sym bright ∙ x in omega arith))))

    change-step : stepped (changed_end e w) (changed_reply e w) ≡ message_step e w
    change-step =
        by_value (λ b. stepped (when b then brightness_end e w else control_end e w) (when b then event_reply r w else control_reply e w) ≡ message_step e w)
        (eqb (first_of w) 74)
        (λ b. brightness-step (eqb-true (first_of w) 74 b))
        (λ b. control-step b)

  module _ (other : eqb (opcode_of w) 0xB ≡ false) where
    stored-put : stored_end e w ≡ with_receiver e put
    unfolding stored
    stored-put =
        by-test (eqb (opcode_of w) 0xE)
        (λ x. rw x)
        (λ x. by-test (eqb (opcode_of w) 0xD) (λ y. rw (x, y)) (λ y. rw (x, y, other)))

    other_step : stepped (stored_end e w) (event_reply r w) ≡ message_step e w
    other_step =
        let only : parameter.update_by_word p w ≡ parameter.parameter_update p None = rw other in
        let m = eqb-false (opcode_of w) 0xB other in
        ap (λ x. stepped x (event_reply r w)) stored-put ∙ sym (stored-step only (λ q. absurd (m q)))

  message-received : stepped (when eqb (opcode_of w) 0xB then changed_end e w else stored_end e w) (when eqb (opcode_of w) 0xB then changed_reply e w else event_reply r w) ≡ message_step e w
  message-received =
      by_value (λ c. stepped (when c then changed_end e w else stored_end e w) (when c then changed_reply e w else event_reply r w) ≡ message_step e w)
      (eqb (opcode_of w) 0xB)
      (λ c. change-step (eqb-true (opcode_of w) 0xB c))
      (λ c. other_step c)

-- a word of the reader, by its opcode
word-step : (e : End) (w : ℕ) → Formed w → word_received e w ≡ message_step e w
word-step e w f =
    by-test (eqb (opcode_of w) 0xF)
    (λ x. rw x (ignored-step e w (f ∙ rw x)))
    (λ x. rw x (message-received e w (f ∙ rw x)))

-- what the reader gives
read-step : (e : End) (r : Reader) (x : Read) → Fine x → stepped (read_end (with_reader e r) x) (read_reply (with_reader e r) x) ≡ answer_step e r x
read-step e r read.Quiet f = refl
read-step e r read.Dropped f = refl
read-step e r (read.RealTime b) f = refl
read-step e r (read.Message w) f = word-step (with_reader e r) w (f w refl)

-- what the lent call makes of a byte is the byte step
pub lent-is-step : (e : End) (b : ℕ) (s : ReadStep) → s ≡ read_step e.reader b → e.reader.status < 2 ^ 8
    → {r : Reply} {x : End} → (r ≡ read_reply (with_reader e s.reader) s.read) × (x ≡ read_end (with_reader e s.reader) s.read) → (r ≡ step_reply e b) × (x ≡ step_end e b)
unfolding step_of
lent-is-step e b s is h p =
    let q = ap (λ t. stepped (read_end (with_reader e t.reader) t.read) (read_reply (with_reader e t.reader) t.read)) is
    ∙ read-step e (read_step e.reader b).reader (read_step e.reader b).read (read-fine e.reader b h) in
    (p.0 ∙ ap (λ t. t.reply) q, p.1 ∙ ap (λ t. t.end) q)
