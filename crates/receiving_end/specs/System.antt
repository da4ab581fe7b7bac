-- What the bytes F0 to FF do to an end, and which bytes are dropped after them (document 01, "A byte arrives", with F4 and F5 as document 02, 2026-06, has them).
use Rattle.std.specs.Prelude.{ℕ, ◌≤◌, Bool, true, false, ◌≡◌, List, [], ◌∷◌, map}
use Rattle.byte_reader.specs.Reader.{new_reader}
use Rattle.byte_reader.specs.Claims.{IsRealTime, IsUndefined, IsNoStatus}
use Rattle.mpe_layout.specs.declared.MpeLayout.{MpeLayout}
use Rattle.mpe_event.specs.declared.MpeEvent.TheVariants.{NoZone}
use Rattle.receiving_end.specs.declared.end.End.{End}
use Rattle.receiving_end.specs.declared.end.Reply.{Reply}
use Rattle.receiving_end.specs.declared.end.Reply.TheVariants.{Quiet, Dropped, RealTime, Message}
use Rattle.receiving_end.specs.End.{new_end, with_reader}
use Rattle.receiving_end.specs.Lists.{Call, byte_by_value, byte_lent, set_layout, replied, answer, next, after, answers}

-- the byte call, lent or by value
abbrev pub byte_call : Bool → ℕ → Call
byte_call true b = byte_lent b
byte_call false b = byte_by_value b

-- none of these calls gives the end a status byte
abbrev pub NoStatusGiven : List Call → Type 0
NoStatusGiven [] = Unit {0}
NoStatusGiven (c ∷ calls) = ((lent : Bool) (b : ℕ) → c ≡ byte_call lent b → IsNoStatus b) × NoStatusGiven calls

-- a data byte is dropped, now and after any calls that give the end no status byte
abbrev pub EndDropsData : End → Type 0
EndDropsData e = (calls : List Call) (lent : Bool) (d : ℕ) → NoStatusGiven calls → d ≤ 0x7F → answer (after e calls) (byte_call lent d) ≡ replied Dropped

-- the byte b is given to the end e, lent or by value
pub record SystemByte (e : End) (lent : Bool) (b : ℕ) : Type 0 where
  -- F8, FA, FB, FC, FE, FF: real-time; the end does not change, not even for FF
  pub real_time : IsRealTime b → (answer e (byte_call lent b) ≡ replied (RealTime b)) × (next e (byte_call lent b) ≡ e)
  -- F9, FD: dropped; the end does not change
  pub undefined : IsUndefined b → (answer e (byte_call lent b) ≡ replied Dropped) × (next e (byte_call lent b) ≡ e)
  -- F0–F7: dropped; of the end running status and begun message are forgotten and nothing else, and data bytes are dropped until a status byte
  pub common : 0xF0 ≤ b → b ≤ 0xF7
      → (answer e (byte_call lent b) ≡ replied Dropped) × ((next e (byte_call lent b) ≡ with_reader e new_reader) × EndDropsData (next e (byte_call lent b)))

-- a note, F5 and the number of a port; a pressure, F4 and the number of a port
abbrev pub port_bytes : List (List ℕ)
port_bytes = (0x90 ∷ 0x3C ∷ 0x40 ∷ 0xF5 ∷ 0x01 ∷ 0x02 ∷ []) ∷ (0xD0 ∷ 0x40 ∷ 0xF4 ∷ 0x01 ∷ []) ∷ []

-- a new end's replies: one message each, and the number is dropped
abbrev pub port_replies : List (List Reply)
port_replies =
    (Quiet ∷ Quiet ∷ Message 0x20903C40 NoZone ∷ Dropped ∷ Dropped ∷ Dropped ∷ [])
    ∷ (Quiet ∷ Message 0x20D04000 NoZone ∷ Dropped ∷ Dropped ∷ [])
    ∷ []

-- calls that give the end no status byte
abbrev pub calls_between : MpeLayout → List Call
calls_between l = byte_by_value 0x01 ∷ set_layout l ∷ byte_lent 0xF5 ∷ byte_by_value 0xFF ∷ []

-- so on every end; of a new end the replies to port-select bytes; and there are calls without a status byte
pub record SystemBytes : Type 0 where
  pub each : (e : End) (lent : Bool) (b : ℕ) → SystemByte e lent b
  pub port_select : map (λ bytes. answers new_end (map byte_by_value bytes)) port_bytes ≡ map (map replied) port_replies
  pub between : (l : MpeLayout) → NoStatusGiven (calls_between l)
