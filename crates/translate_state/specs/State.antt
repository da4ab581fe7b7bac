-- What is carried from one message to the next: for each of sixteen channels eight bytes (M2-104 D.3.3, D.3.4; RP-015; document 02, 2026-02).
use Rattle.std.specs.Prelude.{ℕ, zero, suc, ◌+◌, ◌-◌, ◌*◌, ◌/◌, ◌%◌, ◌^◌, Bool, true, false, ◌&&◌, ◌||◌, List, ltb, leb, eqb, get_or, replicate}
use Rattle.ump.specs.Choice.{when◌then◌else◌}
use Rattle.ump.specs.Field.{field}
use Rattle.translate_state.specs.declared.ChannelState.{ChannelState}
use Rattle.translate_state.specs.declared.Midi1ToMidi2Group.{Midi1ToMidi2Group}

-- a held value: seven bits, and 1 added; 0 is none
abbrev pub held : ℕ → ℕ
held v = v % 2 ^ 7 + 1

-- the value that is held; 0 where there is none
abbrev pub value_in : ℕ → ℕ
value_in x = x - 1

-- flags, bits 0 and 1: the kind of parameter selected last, 0 none, 1 registered, 2 assignable
abbrev pub kind_in : ℕ → ℕ
kind_in f = f % 4

-- a bit of the flags, set and cleared
abbrev pub bit_in : ℕ → ℕ → Bool
bit_in k f = eqb (field k 1 f) 1

abbrev pub with_bit : ℕ → ℕ → ℕ
with_bit k f = when bit_in k f then f else f + 2 ^ k

abbrev pub without_bit : ℕ → ℕ → ℕ
without_bit k f = when bit_in k f then f - 2 ^ k else f

-- bit 2: a Data Entry MSB is held that was not sent
abbrev pub pending_in : ℕ → Bool
pending_in f = bit_in 2 f

-- bit 3: Reset All Controllers came while it was held, and the selection is null once it is sent
abbrev pub null_after_in : ℕ → Bool
null_after_in f = bit_in 3 f

abbrev pub with_kind : ℕ → ℕ → ℕ
with_kind f kind = f / 4 * 4 + kind

abbrev pub with_pending : ℕ → ℕ
with_pending f = with_bit 2 f

abbrev pub without_pending : ℕ → ℕ
without_pending f = without_bit 2 f

abbrev pub with_null_after : ℕ → ℕ
with_null_after f = with_bit 3 f

abbrev pub without_null_after : ℕ → ℕ
without_null_after f = without_bit 3 f

-- a channel of these bytes: registered number, non-registered number, Data Entry MSB, bank, flags
abbrev pub channel_state : ℕ → ℕ → ℕ → ℕ → ℕ → ℕ → ℕ → ℕ → ChannelState
channel_state rm rl nm nl d bm bl f =
    record {
      rpn_msb = rm;
      rpn_lsb = rl;
      nrpn_msb = nm;
      nrpn_lsb = nl;
      data_msb = d;
      bank_msb = bm;
      bank_lsb = bl;
      flags = f;
    }

-- nothing held, nothing selected
abbrev pub empty_state : ChannelState
empty_state = channel_state 0 0 0 0 0 0 0 0

abbrev pub with_held_rpn : ChannelState → ℕ → ℕ → ChannelState
with_held_rpn s m l =
    channel_state m l s.nrpn_msb s.nrpn_lsb s.data_msb s.bank_msb s.bank_lsb s.flags

abbrev pub with_held_nrpn : ChannelState → ℕ → ℕ → ChannelState
with_held_nrpn s m l =
    channel_state s.rpn_msb s.rpn_lsb m l s.data_msb s.bank_msb s.bank_lsb s.flags

abbrev pub with_bank : ChannelState → ℕ → ℕ → ChannelState
with_bank s m l =
    channel_state s.rpn_msb s.rpn_lsb s.nrpn_msb s.nrpn_lsb s.data_msb m l s.flags

-- with another Data Entry MSB, and other flags
abbrev pub with_entry : ChannelState → ℕ → ℕ → ChannelState
with_entry s d f =
    channel_state s.rpn_msb s.rpn_lsb s.nrpn_msb s.nrpn_lsb d s.bank_msb s.bank_lsb f

-- both numbers null, 7F 7F (RP-015)
abbrev pub selection_nulled : ChannelState → ℕ → ChannelState
selection_nulled s f =
    channel_state (held 0x7F) (held 0x7F) (held 0x7F) (held 0x7F) s.data_msb s.bank_msb s.bank_lsb (without_null_after f)

-- the pending entry is sent: nothing is pending, and the selection is null where a reset was noted (RP-015)
unfoldable pub pending_sent : ChannelState → ChannelState
pending_sent s =
    when pending_in s.flags then
    (when null_after_in s.flags then selection_nulled s (without_pending s.flags) else with_entry s s.data_msb (without_pending s.flags))
    else s

-- 98 to 101 store half a number
abbrev pub number_held : ChannelState → ℕ → ℕ → ChannelState
number_held s n v =
    when eqb n 101 then with_held_rpn s (held v) s.rpn_lsb else
    when eqb n 100 then with_held_rpn s s.rpn_msb (held v) else
    when eqb n 99 then with_held_nrpn s (held v) s.nrpn_lsb else
    with_held_nrpn s s.nrpn_msb (held v)

-- 101 and 100 select a registered parameter, 99 and 98 an assignable one
abbrev pub kind_of_number : ℕ → ℕ
kind_of_number n = when eqb n 101 then 1 else when eqb n 100 then 1 else 2

-- 98 to 101: the number is stored, its kind selected, and no Data Entry MSB is held (D.3.3)
unfoldable pub number_selected : ChannelState → ℕ → ℕ → ChannelState
number_selected s n v = with_entry (number_held s n v) 0 (with_kind s.flags (kind_of_number n))

-- the MPE Configuration Message, RPN 0/6, is selected (M1-100 2.2.1)
unfoldable pub mcm_selected : ChannelState → Bool
mcm_selected s =
    when eqb (kind_in s.flags) 1 then (when eqb s.rpn_msb (held 0) then eqb s.rpn_lsb (held 6) else false) else false

-- 6: a Data Entry MSB is held, pending
unfoldable pub entry_held : ChannelState → ℕ → ChannelState
entry_held s v = with_entry s (held v) (with_pending s.flags)

-- 38 after it: it is no longer pending
unfoldable pub completed : ChannelState → ChannelState
completed s = with_entry s s.data_msb (without_pending s.flags)

-- 121: both numbers become null, or, where a value is pending, once it is sent (RP-015)
unfoldable pub controllers_reset : ChannelState → ChannelState
controllers_reset s =
    when pending_in s.flags then with_entry s s.data_msb (with_null_after s.flags) else selection_nulled s s.flags

-- 0 and 32 are held for the next program change, and an MSB sets the held LSB to 0 (D.3.4; MIDI 1.0 4.2.1)
abbrev pub bank_msb_held : ChannelState → ℕ → ChannelState
bank_msb_held s v = with_bank s (held v) (held 0)

abbrev pub bank_lsb_held : ChannelState → ℕ → ChannelState
bank_lsb_held s v = with_bank s s.bank_msb (held v)

-- a program change carries the bank, and it is held no longer
abbrev pub bank_sent : ChannelState → ChannelState
bank_sent s = with_bank s 0 0

-- a new record: no value held on any channel
abbrev pub new_record : Midi1ToMidi2Group
new_record = record { state = replicate 16 empty_state }

abbrev pub state_on : Midi1ToMidi2Group → ℕ → ChannelState
state_on r c = get_or r.state c empty_state

-- a byte that some list of messages gives: none, or a value of seven bits
abbrev pub held_allowed : ℕ → Bool
held_allowed x = leb x 0x80

-- flags that some list of messages gives: a kind, and a reset noted only beside a pending value
abbrev pub flags_allowed : ℕ → Bool
flags_allowed f = ltb (kind_in f) 3 && (eqb (f / 4) 0 || (eqb (f / 4) 1 || eqb (f / 4) 3))

unfoldable pub state_allowed : ChannelState → Bool
state_allowed s =
    held_allowed s.rpn_msb && (held_allowed s.rpn_lsb && (held_allowed s.nrpn_msb && (held_allowed s.nrpn_lsb &&
    (held_allowed s.data_msb && (held_allowed s.bank_msb && (held_allowed s.bank_lsb && flags_allowed s.flags))))))

-- of each channel below n
unfoldable pub allowed_to : List ChannelState → ℕ → Bool
allowed_to l zero = true
allowed_to l (suc n) = allowed_to l n && state_allowed (get_or l n empty_state)

-- of every channel (document 02, 2026-02: whichever channel it belongs to)
abbrev pub record_allowed : Midi1ToMidi2Group → Bool
record_allowed r = allowed_to r.state 16
