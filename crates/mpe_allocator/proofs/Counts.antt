-- The counts sum to the note-ons that got a channel less the note-offs that met a count above 0, by induction on the calls.
-- Assumes nothing.
use Rattle.std.proofs.Common.{◌≡◌, ℕ, zero, suc, ◌+◌, ◌-◌, ◌<◌, Bool, true, false, ◌||◌, eqb, leb, List, [], ◌∷◌, length, get_or, set, refl, ◌∙◌, le_of_suc-le-suc, not-suc-le-zero, arith, length-set, get_or-set_same, leb-false, Err}
use borrow.Author.Tests.{eqb-false}
use Rattle.ump.specs.Choice.{when◌then◌else◌}
use Rattle.ump.specs.Packet.{packet_value}
use Rattle.mpe_layout.specs.Layout.{legal, members_of, lowest_of}
use Rattle.mpe_layout.specs.declared.MpeZone.{MpeZone}
use Rattle.mpe_layout.specs.declared.MpeLayout.{MpeLayout}
use Rattle.mpe_allocator.specs.declared.MpeNoteAllocator.{MpeNoteAllocator}
use Rattle.mpe_allocator.specs.declared.Allocation.{Allocation}
use Rattle.mpe_layout.specs.declared.MemberError.TheVariants as member_error
use Rattle.mpe_allocator.specs.Choice.{held_on, mark_of, choice}
use Rattle.mpe_allocator.specs.Allocator.{emptied, with_reply, placed_on, one_more, with_note, allocation_of, one_fewer, without_note}
use Rattle.mpe_allocator.specs.Calls.{AllocatorCall, note_on, note_off, active_notes, same_note, set_same_note, reset, after_call, after_calls, sum, full, Tally, no_tally, got, tallied, tally, CountsSum}
use Rattle.mpe_allocator.proofs.Order.{never}
use Rattle.mpe_allocator.proofs.Search.{choice-foremost}
use Rattle.mpe_allocator.proofs.Noted.{members-end}

-- ---- lists of counts

sum-set : (l : List ℕ) (c v : ℕ) → c < length l → sum (set l c v) + get_or l c 0 ≡ sum l + v
unfolding sum
sum-set [] c v h = absurd (not-suc-le-zero h)
sum-set (n ∷ ns) zero v h = omega arith
sum-set (n ∷ ns) (suc c) v h = omega (arith, sum-set ns c v (le_of_suc-le-suc h))

neither : (a b : Bool) → a || b ≡ false → (a ≡ false) × (b ≡ false)
neither true b h = never h
neither false b h = (refl, h)

not_full : (l : List ℕ) (c : ℕ) → full l ≡ false → c < length l → get_or l c 0 < 255
unfolding full
not_full [] c e h = absurd (not-suc-le-zero h)
not_full (n ∷ ns) zero e h = leb-false 255 n (neither (leb 255 n) (full ns) e).0
not_full (n ∷ ns) (suc c) e h = not_full ns c (neither (leb 255 n) (full ns) e).1 (le_of_suc-le-suc h)

-- ---- what each call keeps

pub record Kept (active : List ℕ) (t : Tally) : Type 0 where
  pub sixteen : length active ≡ 16
  pub sums : t.reached ≡ false → sum active + t.offs ≡ t.ons

-- a tally after a note that got g channels
abbrev noted : Tally → ℕ → List ℕ → Tally
noted t g active = record { ons = t.ons + g; offs = t.offs; reached = t.reached || full active }

declined-kept : (active : List ℕ) (t : Tally) → Kept active t → Kept active (noted t 0 active)
declined-kept active t k =
    record {
      sixteen = k.sixteen;
      sums = λ h. omega (arith, k.sums (neither t.reached (full active) h).0);
    }

-- channel c holds v, where it held another number
module _ (active : List ℕ) (c v : ℕ) (t : Tally) (b : c < 16) (k : Kept active t) where
  inside : c < length active
  inside = omega (arith, k.sixteen)

  still-sixteen : length (set active c v) ≡ 16
  still-sixteen = length-set active c v ∙ k.sixteen

  placed-kept : v ≡ one_more (get_or active c 0) → Kept (set active c v) (noted t 1 (set active c v))
  placed-kept e =
      record {
        sixteen = still-sixteen;
        sums = λ h.
            let n = neither t.reached (full (set active c v)) h in
            let j : c < length (set active c v) = omega (arith, still-sixteen) in
            let s : v < 255 = rw (get_or-set_same active c v 0 inside) at (not_full (set active c v) c n.1 j) in
            omega (arith, sum-set active c v inside, k.sums n.0);
      }

  released-kept : 0 < get_or active c 0 → v ≡ get_or active c 0 - 1 → Kept (set active c v) (record { ons = t.ons; offs = t.offs + 1; reached = t.reached })
  released-kept p e =
      record {
        sixteen = still-sixteen;
        sums = λ h. omega (arith, sum-set active c v inside, k.sums h);
      }

-- what a note gets, by whether the layout is legal and whether the zone is empty
abbrev by-zone : MpeNoteAllocator → ℕ → ℕ → Bool → Bool → Allocation
by-zone a mark c x y = when x then (when y then with_reply a (Err member_error.NoMembers) else placed_on a mark c) else with_reply a (Err member_error.OutOfRange)

note-by : (a : MpeNoteAllocator) (t : Tally) (mark c : ℕ) (x y : Bool) → (x ≡ true → y ≡ false → c < 16) → Kept a.active t
    → Kept (by-zone a mark c x y).allocator.active (noted t (got (by-zone a mark c x y).reply) (by-zone a mark c x y).allocator.active)
unfolding with_note
note-by a t mark c true true f k = declined-kept a.active t k
note-by a t mark c true false f k = placed-kept a.active c (one_more (held_on a c)) t (f refl refl) k refl
note-by a t mark c false y f k = declined-kept a.active t k

note-kept : (a : MpeNoteAllocator) (t : Tally) (l : MpeLayout) (zone : MpeZone) (note : ℕ) → Kept a.active t → Kept (allocation_of a l zone note).allocator.active (noted t (got (allocation_of a l zone note).reply) (allocation_of a l zone note).allocator.active)
unfolding allocation_of
note-kept a t l zone note k =
    note-by a t (mark_of note) (choice a zone (mark_of note) (lowest_of l zone) (members_of l zone - 1)) (legal l) (eqb (members_of l zone) 0)
    (λ h e.
    let n : members_of l zone ≡ 0 → ⊥ = eqb-false (members_of l zone) 0 e in
    omega (arith, members-end l zone h, (choice-foremost a zone (mark_of note) (lowest_of l zone) (members_of l zone - 1)).below))
    k

off-by : (a : MpeNoteAllocator) (t : Tally) (c : ℕ) (x : Bool) → eqb (held_on a c) 0 ≡ x → c < 16 → Kept a.active t
    → Kept (when x then a else one_fewer a c).active (record { ons = t.ons; offs = t.offs + (when x then 0 else 1); reached = t.reached })
off-by a t c true e b k = record { sixteen = k.sixteen; sums = λ h. omega (arith, k.sums h) }
off-by a t c false e b k =
    let n : held_on a c ≡ 0 → ⊥ = eqb-false (held_on a c) 0 e in
    released-kept a.active c (held_on a c - 1) t b k (omega arith) refl

step : (a : MpeNoteAllocator) (t : Tally) (call : AllocatorCall) → Kept a.active t → Kept (after_call a call).active (tallied a t call)
unfolding tallied without_note sum
step a t (note_on l zone note) k = note-kept a t l zone note k
step a t (note_off channel) k = off-by a t (packet_value channel) (eqb (held_on a (packet_value channel)) 0) refl (omega arith) k
step a t (active_notes channel) k = k
step a t same_note k = k
step a t (set_same_note on) k = k
step a t reset k = record { sixteen = refl; sums = λ h. refl }

kept : (a : MpeNoteAllocator) (t : Tally) (calls : List AllocatorCall) → Kept a.active t → Kept (after_calls a calls).active (tally a t calls)
unfolding after_calls tally
kept a t [] k = k
kept a t (call ∷ calls) k = kept (after_call a call) (tallied a t call) calls (step a t call k)

new-kept : Kept (emptied false).active no_tally
unfolding sum
new-kept = record { sixteen = refl; sums = λ h. refl }

pub counts-sum : CountsSum (emptied false)
counts-sum calls h = (kept (emptied false) no_tally calls new-kept).sums h
