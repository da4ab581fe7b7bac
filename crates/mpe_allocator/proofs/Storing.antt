-- What the calls leave on each channel, and that the lists of an allocator keep their lengths under every list of calls.
-- Assumes nothing.
use Rattle.std.proofs.Common.{◌≡◌, ℕ, ◌-◌, ◌%◌, ◌<◌, Bool, true, false, eqb, List, [], ◌∷◌, length, sym, refl, ◌∙◌, subst, arith, length-set, get_or-set_other, get_or-set_same, eq-eqb, ne_eqb, Ok, Err}
use borrow.Author.Tests.{eqb-false}
use Rattle.ump.specs.Choice.{when◌then◌else◌}
use Rattle.ump.specs.Packet.{packet_value}
use Rattle.ump.proofs.Cases.{chosen, passed}
use Rattle.mpe_layout.specs.Layout.{legal, members_of, lowest_of}
use Rattle.mpe_allocator.specs.declared.MpeNoteAllocator.{MpeNoteAllocator}
use Rattle.mpe_layout.specs.declared.MemberError.TheVariants as member_error
use Rattle.mpe_allocator.specs.Choice.{held_on, mark_of, choice}
use Rattle.mpe_allocator.specs.Allocator.{emptied, with_reply, placed_on, with_note, allocation_of, one_fewer, without_note}
use Rattle.mpe_allocator.specs.Calls.{AllocatorCall, note_on, note_off, active_notes, same_note, set_same_note, reset, note_reply, after_call, after_calls}
use Rattle.mpe_allocator.specs.Stored.{NoteStored, NoteReleased, CallsStore, AlwaysStored}
use Rattle.mpe_allocator.proofs.Noted.{members-end, differ}
use Rattle.mpe_allocator.proofs.Search.{choice-foremost}

-- the lists have sixteen elements
pub record Sized (a : MpeNoteAllocator) : Type 0 where
  pub counts : length a.active ≡ 16
  pub notes : length a.last_note ≡ 16
  pub releases : length a.last_off ≡ 16

module _ (a : MpeNoteAllocator) (s : Sized a) where
  note-stored : (note c : ℕ) → c < 16 → NoteStored a (with_note a (mark_of note) c) note c
  unfolding with_note
  note-stored note c b =
      record {
        one_more = get_or-set_same a.active c _ 0 (omega (arith, s.counts));
        last = get_or-set_same a.last_note c _ 0 (omega (arith, s.notes));
        other_counts = λ d n. get_or-set_other a.active c d _ 0 n;
        other_notes = λ d n. get_or-set_other a.last_note c d _ 0 n;
        releases = λ d. refl;
        same_clock = refl;
        same_option = refl;
      }

  note-released : (c : ℕ) → c < 16 → 0 < held_on a c → NoteReleased a (one_fewer a c) c
  note-released c b h =
      let e = get_or-set_same a.active c (held_on a c - 1) 0 (omega (arith, s.counts)) in
      record {
        one_fewer = omega (arith, e);
        released = get_or-set_same a.last_off c _ 0 (omega (arith, s.releases));
        next_clock = refl;
        other_counts = λ d n. get_or-set_other a.active c d _ 0 n;
        other_releases = λ d n. get_or-set_other a.last_off c d _ 0 n;
        notes = λ d. refl;
        same_option = refl;
      }

  -- a note that got a channel, by whether the layout is legal and the zone empty
  stored-by : (note c d : ℕ) (x y : Bool) → (x ≡ true → y ≡ false → d < 16)
      → note_reply (when x then (when y then with_reply a (Err member_error.NoMembers) else placed_on a (mark_of note) d) else with_reply a (Err member_error.OutOfRange)).reply ≡ note_reply (Ok c)
      → NoteStored a (when x then (when y then with_reply a (Err member_error.NoMembers) else placed_on a (mark_of note) d) else with_reply a (Err member_error.OutOfRange)).allocator note c
  stored-by note c d true true f e = differ (cc)
  stored-by note c d true false f e = subst (NoteStored a (with_note a (mark_of note) d) note) (let i : d ≡ c = cc in i) (note-stored note d (f refl refl))
  stored-by note c d false y f e = differ (cc)

  pub calls-store : CallsStore a
  unfolding allocation_of without_note
  calls-store =
      record {
        stored = λ l zone note c e.
            stored-by note c (choice a zone (mark_of note) (lowest_of l zone) (members_of l zone - 1)) (legal l) (eqb (members_of l zone) 0)
            (λ h z.
            let n : members_of l zone ≡ 0 → ⊥ = eqb-false (members_of l zone) 0 z in
            omega (arith, members-end l zone h, (choice-foremost a zone (mark_of note) (lowest_of l zone) (members_of l zone - 1)).below))
            e;
        released = λ channel h.
            subst (λ after. NoteReleased a after (channel % 16)) (sym (passed a (one_fewer a (packet_value channel)) (ne_eqb (held_on a (packet_value channel)) 0 (λ z. omega arith)))) (note-released (packet_value channel) (omega arith) h);
        unmet = λ channel h. chosen a (one_fewer a (packet_value channel)) (eq-eqb (held_on a (packet_value channel)) 0 h);
      }

pub sized-by : (a : MpeNoteAllocator) (mark d : ℕ) (x y : Bool) → Sized a → Sized (when x then (when y then with_reply a (Err member_error.NoMembers) else placed_on a mark d) else with_reply a (Err member_error.OutOfRange)).allocator
unfolding with_note
sized-by a mark d true true s = s
sized-by a mark d true false s =
    record {
      counts = length-set a.active d _ ∙ s.counts;
      notes = length-set a.last_note d _ ∙ s.notes;
      releases = s.releases;
    }
sized-by a mark d false y s = s

off-sized : (a : MpeNoteAllocator) (c : ℕ) (x : Bool) → Sized a → Sized (when x then a else one_fewer a c)
off-sized a c true s = s
off-sized a c false s =
    record {
      counts = length-set a.active c _ ∙ s.counts;
      notes = s.notes;
      releases = length-set a.last_off c _ ∙ s.releases;
    }

pub emptied-sized : (option : Bool) → Sized (emptied option)
emptied-sized option = record { counts = refl; notes = refl; releases = refl }

call-sized : (a : MpeNoteAllocator) (call : AllocatorCall) → Sized a → Sized (after_call a call)
unfolding allocation_of without_note
call-sized a (note_on l zone note) s = sized-by a _ _ (legal l) (eqb (members_of l zone) 0) s
call-sized a (note_off channel) s = off-sized a (packet_value channel) (eqb (held_on a (packet_value channel)) 0) s
call-sized a (active_notes channel) s = s
call-sized a same_note s = s
call-sized a (set_same_note on) s = record { counts = s.counts; notes = s.notes; releases = s.releases }
call-sized a reset s = emptied-sized a.same_note

calls-sized : (a : MpeNoteAllocator) (calls : List AllocatorCall) → Sized a → Sized (after_calls a calls)
unfolding after_calls
calls-sized a [] s = s
calls-sized a (call ∷ calls) s = calls-sized (after_call a call) calls (call-sized a call s)

pub always-stored : AlwaysStored (emptied false)
always-stored calls =
    calls-store (after_calls (emptied false) calls) (calls-sized (emptied false) calls (emptied-sized false))
