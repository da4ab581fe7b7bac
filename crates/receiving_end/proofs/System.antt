-- What the bytes F0 to FF do to an end, and which bytes are dropped after them.
-- Assumes nothing.
use Prim.Native.Nat.{ℕ}
use mathlib.Core.Path.{◌≡◌, refl, ap, subst, ◌∙◌}
use mathlib.Core.Bool.{Bool, true, false}
use mathlib.Core.List.{List, [], ◌∷◌, map}
use mathlib.Core.Logic.{inl, inr}
use native.Mathlib.Omega.{arith}
use Rattle.ump.specs.Word.{word_form, form_of}
use Rattle.mpe_layout.specs.declared.MpeLayout.{MpeLayout}
use Rattle.mpe_layout.specs.Layout.{legal_counts, legal, place_of, role_of}
use Rattle.mpe_receiver.specs.Receive.{stored, received_by_fields}
use Rattle.byte_reader.specs.declared.Reader.{Reader}
use Rattle.byte_reader.specs.declared.Read.{Read}
use Rattle.byte_reader.specs.declared.Read.TheVariants as read
use Rattle.byte_reader.specs.declared.ReadStep.{ReadStep}
use Rattle.byte_reader.specs.Reader.{new_reader, reading, class_of_byte, data_step, read_step}
use Rattle.byte_reader.specs.Claims.{IsNoStatus}
use Rattle.byte_reader.proofs.EachByte.{new-left, each_byte}
use Rattle.receiving_end.specs.declared.end.End.{End}
use Rattle.receiving_end.specs.End.{new_end, message_at, answer_step, step_of, step_reply, step_end}
use Rattle.receiving_end.specs.Lists.{Call, byte_by_value, byte_lent, set_layout, set_rpn_reception, set_nrpn_reception, layout, mode, sensitivity, pitch_bend, pressure, brightness, pitch_offset, pitch_offset_with_remainder, selection, rpn_reception, nrpn_reception, replied, answer, next, after, answers}
use Rattle.receiving_end.specs.System.{byte_call, NoStatusGiven, EndDropsData, port_bytes, port_replies, calls_between, SystemBytes}

-- both byte calls
answer-is : (e : End) (lent : Bool) (b : ℕ) → answer e (byte_call lent b) ≡ replied (step_reply e b)
answer-is e true b = refl
answer-is e false b = refl

next-is : (e : End) (lent : Bool) (b : ℕ) → next e (byte_call lent b) ≡ step_end e b
next-is e true b = refl
next-is e false b = refl

-- by what the reader makes of the byte
module _ (e : End) (lent : Bool) (b : ℕ) (x : ReadStep) (p : read_step e.reader b ≡ x) where
  answer-by : answer e (byte_call lent b) ≡ replied (answer_step e x.reader x.read).reply
  unfolding step_of
  answer-by = answer-is e lent b ∙ ap (λ y. replied (answer_step e y.reader y.read).reply) p

  next-by : next e (byte_call lent b) ≡ (answer_step e x.reader x.read).end
  unfolding step_of
  next-by = next-is e lent b ∙ ap (λ y. (answer_step e y.reader y.read).end) p

-- the end's reader after a byte is the reader's own
answer-reader : (e : End) (r : Reader) (x : Read) → (answer_step e r x).end.reader ≡ r
unfolding message_at
answer-reader e r read.Quiet = refl
answer-reader e r read.Dropped = refl
answer-reader e r (read.RealTime b) = refl
answer-reader e r (read.Message w) = refl

byte_left : (e : End) (b : ℕ) → IsNoStatus b → e.reader ≡ new_reader → (step_end e b).reader ≡ new_reader
unfolding step_of
byte_left e b n r =
    answer-reader e (read_step e.reader b).reader (read_step e.reader b).read ∙ ap (λ x. (read_step x b).reader) r ∙ new-left b n

-- without a running status the reader stays new until a call gives a status byte
call-left : (e : End) (c : Call) → ((lent : Bool) (b : ℕ) → c ≡ byte_call lent b → IsNoStatus b) → e.reader ≡ new_reader → (next e c).reader ≡ new_reader
call-left e (byte_by_value b) n r = byte_left e b (n false b refl) r
call-left e (byte_lent b) n r = byte_left e b (n true b refl) r
call-left e (set_layout l) n r = r
call-left e (set_rpn_reception channel on) n r = r
call-left e (set_nrpn_reception channel on) n r = r
call-left e layout n r = r
call-left e (mode zone) n r = r
call-left e (sensitivity zone manager) n r = r
call-left e (pitch_bend channel) n r = r
call-left e (pressure channel) n r = r
call-left e (brightness channel) n r = r
call-left e (pitch_offset channel) n r = r
call-left e (pitch_offset_with_remainder channel) n r = r
call-left e (selection channel) n r = r
call-left e (rpn_reception channel) n r = r
call-left e (nrpn_reception channel) n r = r

calls-left : (e : End) (calls : List Call) → NoStatusGiven calls → e.reader ≡ new_reader → (after e calls).reader ≡ new_reader
unfolding after
calls-left e [] n r = r
calls-left e (c ∷ calls) n r = calls-left (next e c) calls n.1 (call-left e c n.0 r)

drops-data : (e : End) → e.reader ≡ new_reader → EndDropsData e
drops-data e r calls lent d n h =
    let f = after e calls in
    let new = calls-left e calls n r in
    answer-by f lent d (reading f.reader read.Dropped) ((each_byte f.reader d).no_status h (rw new (omega arith)))

-- by computation
port-selected : map (λ bytes. answers new_end (map byte_by_value bytes)) port_bytes ≡ map (map replied) port_replies
unfolding word_form form_of legal_counts legal role_of place_of received_by_fields stored class_of_byte data_step message_at step_of after answers
port-selected = refl

-- what a call gives: its own byte, or none
by-value-gives : (a : ℕ) → IsNoStatus a → (lent : Bool) (b : ℕ) → byte_by_value a ≡ byte_call lent b → IsNoStatus b
by-value-gives a n true b e = let z : ◌≡◌ {A = ℕ} 0 1 = cc in absurd (omega arith)
by-value-gives a n false b e = let p : a ≡ b = cc in subst IsNoStatus p n

lent_gives : (a : ℕ) → IsNoStatus a → (lent : Bool) (b : ℕ) → byte_lent a ≡ byte_call lent b → IsNoStatus b
lent_gives a n true b e = let p : a ≡ b = cc in subst IsNoStatus p n
lent_gives a n false b e = let z : ◌≡◌ {A = ℕ} 0 1 = cc in absurd (omega arith)

layout-gives : (l : MpeLayout) (lent : Bool) (b : ℕ) → set_layout l ≡ byte_call lent b → IsNoStatus b
layout-gives l true b e = let z : ◌≡◌ {A = ℕ} 0 1 = cc in absurd (omega arith)
layout-gives l false b e = let z : ◌≡◌ {A = ℕ} 0 1 = cc in absurd (omega arith)

no-status-between : (l : MpeLayout) → NoStatusGiven (calls_between l)
no-status-between l =
    let number = by-value-gives 0x01 (inl (omega arith)) in
    let port_select = lent_gives 0xF5 (inr (omega arith, omega arith)) in
    let reset = by-value-gives 0xFF (inr (omega arith, omega arith)) in
    (number, (layout-gives l, (port_select, (reset, tt))))

pub system-bytes : SystemBytes
system-bytes =
    record {
      each = λ e lent b.
          let line = each_byte e.reader b in
          record {
            real_time = λ h. let p = line.real_time h in (answer-by e lent b _ p, next-by e lent b _ p);
            undefined = λ h. let p = line.undefined h in (answer-by e lent b _ p, next-by e lent b _ p);
            common = λ h g.
                let p = line.common h g in
                let left = next-by e lent b _ p in
                (answer-by e lent b _ p, (left, drops-data (next e (byte_call lent b)) (ap (λ x. x.reader) left)));
          };
      port_select = port-selected;
      between = no-status-between;
    }
