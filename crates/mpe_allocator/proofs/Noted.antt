-- What follows from the answers about a zone, and what a note gets by them, which `allocation_of` computes.
-- Assumes nothing.
use Rattle.std.proofs.Common.{◌≡◌, ℕ, suc, ◌+◌, ◌-◌, ◌<◌, ◌≤◌, Bool, true, false, eqb, sym, refl, ap, subst, arith, eq-eqb, ne_eqb, eqb-true, Ok, Err}
use borrow.Author.Tests.{eqb-false}
use Rattle.ump.specs.Choice.{when◌then◌else◌}
use Rattle.ump.specs.Outcome.{given, out_of_range, none_there}
use Rattle.mpe_layout.specs.Layout.{legal, of_legal, members_of, lowest_of, lowest_or_none, member_found}
use Rattle.mpe_layout.specs.declared.MpeZone.{MpeZone}
use Rattle.mpe_layout.specs.declared.MpeZone.TheVariants.{Lower, Upper}
use Rattle.mpe_layout.specs.declared.MpeLayout.{MpeLayout}
use Rattle.mpe_layout.proofs.Legal.{members-le}
use Rattle.mpe_allocator.specs.declared.MpeNoteAllocator.{MpeNoteAllocator}
use Rattle.mpe_allocator.specs.declared.Allocation.{Allocation}
use Rattle.mpe_layout.specs.declared.MemberError.{MemberError}
use Rattle.mpe_layout.specs.declared.MemberError.TheVariants as member_error
use Rattle.mpe_allocator.specs.Choice.{mark_of, Foremost, Chosen, choice}
use Rattle.mpe_allocator.specs.Allocator.{with_reply, placed_on, Placed, AllocatedAs, illegal, empty, placed, allocation_of}
use Rattle.mpe_allocator.specs.Claims.{OfChannel, ChosenIsMember, OneChosen, RecallChosen, LeastChosen, OnlyTiesTurned}
use Rattle.mpe_allocator.specs.Calls.{note_on, note_reply, AllocatorGives}
use Rattle.mpe_allocator.proofs.Search.{only_one, choice-foremost}
use Rattle.mpe_allocator.proofs.Read.{chosen-is-member, one-chosen, recall-chosen, least-chosen, only-ties-turned}

-- ---- what `lowest_member` and `members` answered

pub differ : {A : Type 0} → ◌≡◌ {A = ℕ} 0 1 → A
differ e = absurd (omega arith)

out-by : (t e : Bool) (n : ℕ) → out_of_range ≡ (when t then (when e then none_there else given n) else out_of_range) → t ≡ false
out-by true true n h =
    let z : ◌≡◌ {A = ℕ} 1 3 = cc in
    absurd (omega arith)
out-by true false n h = differ (cc)
out-by false e n h = refl

none-by : (t e : Bool) (n : ℕ) → none_there ≡ (when t then (when e then none_there else given n) else out_of_range) → (t ≡ true) × (e ≡ true)
none-by true true n h = (refl, refl)
none-by true false n h = differ (cc)
none-by false e n h =
    let z : ◌≡◌ {A = ℕ} 3 1 = cc in
    absurd (omega arith)

given_by : (t e : Bool) (n m : ℕ) → given m ≡ (when t then (when e then none_there else given n) else out_of_range) → (t ≡ true) × (e ≡ false) × (m ≡ n)
given_by true true n m h = differ (cc)
given_by true false n m h = (refl, refl, cc)
given_by false e n m h = differ (cc)

count_by : (t : Bool) (n m : ℕ) → given m ≡ (when t then given n else out_of_range) → m ≡ n
count_by true n m h = cc
count_by false n m h = differ (cc)

module _ (l : MpeLayout) (zone : MpeZone) where
  pub found-out : out_of_range ≡ of_legal l (lowest_or_none zone (members_of l zone)) → legal l ≡ false
  found-out h = out-by (legal l) (eqb (members_of l zone) 0) (lowest_of l zone) h

  pub found_none : none_there ≡ of_legal l (lowest_or_none zone (members_of l zone)) → (legal l ≡ true) × (members_of l zone ≡ 0)
  found_none h =
      let b = none-by (legal l) (eqb (members_of l zone) 0) (lowest_of l zone) h in
      (b.0, eqb-true (members_of l zone) 0 b.1)

  pub found-lowest : (first : ℕ) → given first ≡ of_legal l (lowest_or_none zone (members_of l zone)) → (legal l ≡ true) × (0 < members_of l zone) × (first ≡ lowest_of l zone)
  found-lowest first h =
      let b = given_by (legal l) (eqb (members_of l zone) 0) (lowest_of l zone) first h in
      let n : members_of l zone ≡ 0 → ⊥ = eqb-false (members_of l zone) 0 b.1 in
      (b.0, omega arith, b.2)

  pub found-count : (n : ℕ) → given n ≡ of_legal l (given (members_of l zone)) → n ≡ members_of l zone
  found-count n h = count_by (legal l) (members_of l zone) n h

-- the members are channels
pub members-end : (l : MpeLayout) (zone : MpeZone) → legal l ≡ true → lowest_of l zone + members_of l zone ≤ 16
members-end l Lower h = omega (arith, members-le l Lower h)
members-end l Upper h = omega (arith, members-le l Upper h)

-- the same channels under other names
moved : (a : MpeNoteAllocator) (zone : MpeZone) (mark first n x y c : ℕ) → first ≡ x → n ≡ y → Foremost a zone mark first (first + n) c → Foremost a zone mark x (x + y) c
moved a zone mark first n x y c p q f = rw (← p, ← q) f

-- ---- what the note gets

not-out : (fact : ℕ → Type 0) → OfChannel (Err member_error.OutOfRange) fact
not-out fact c e = differ (cc)

not_none : (fact : ℕ → Type 0) → OfChannel (Err member_error.NoMembers) fact
not_none fact c e = differ (cc)

the-channel : (fact : ℕ → Type 0) (c : ℕ) → fact c → OfChannel (Ok c) fact
the-channel fact c f d e = subst fact (let i : c ≡ d = cc in i) f

module _ (a : MpeNoteAllocator) (l : MpeLayout) (zone : MpeZone) (note : ℕ) where
  -- all that `note_on` promises, in its order
  abbrev pub Promised : Allocation → Type 0
  Promised r =
      AllocatedAs a l zone note (member_found r.reply) r.allocator
      × ((r ≡ allocation_of a l zone note)
      × (AllocatorGives a (note_on l zone note) (note_reply r.reply) r.allocator
      × (OfChannel r.reply (ChosenIsMember l zone)
      × (OfChannel r.reply (OneChosen a l zone note)
      × (OfChannel r.reply (RecallChosen a l zone note)
      × (OfChannel r.reply (LeastChosen a l zone note) × OfChannel r.reply (OnlyTiesTurned a l zone note)))))))

  listed : (r : Allocation) → r ≡ allocation_of a l zone note → AllocatorGives a (note_on l zone note) (note_reply r.reply) r.allocator
  listed r e = (ap (λ (x : Allocation). note_reply x.reply) e, ap (λ (x : Allocation). x.allocator) e)

  in-illegal : legal l ≡ false → Promised (with_reply a (Err member_error.OutOfRange))
  unfolding allocation_of
  in-illegal h =
      let e : with_reply a (Err member_error.OutOfRange) ≡ allocation_of a l zone note = rw h in
      (illegal h, (e, (listed (with_reply a (Err member_error.OutOfRange)) e, (not-out _, (not-out _, (not-out _, (not-out _, not-out _)))))))

  in-empty : legal l ≡ true → members_of l zone ≡ 0 → Promised (with_reply a (Err member_error.NoMembers))
  unfolding allocation_of
  in-empty h m =
      let e : with_reply a (Err member_error.NoMembers) ≡ allocation_of a l zone note = rw (h, eq-eqb (members_of l zone) 0 m) in
      (empty h m, (e, (listed (with_reply a (Err member_error.NoMembers)) e, (not_none _, (not_none _, (not_none _, (not_none _, not_none _)))))))

  -- a refusal of `lowest_member`
  pub refused : (e : MemberError) → member_found (Err e) ≡ of_legal l (lowest_or_none zone (members_of l zone)) → Promised (with_reply a (Err e))
  refused member_error.OutOfRange h = in-illegal (found-out l zone h)
  refused member_error.NoMembers h = let f = found_none l zone h in in-empty f.0 f.1

  pub in-zone : legal l ≡ true → 0 < members_of l zone → (c : ℕ) → Chosen a l zone note c → Promised (placed_on a (mark_of note) c)
  unfolding allocation_of
  in-zone h n c f =
      let m : lowest_of l zone + suc (members_of l zone - 1) ≡ lowest_of l zone + members_of l zone = omega arith in
      let g = rw m at (choice-foremost a zone (mark_of note) (lowest_of l zone) (members_of l zone - 1)) in
      let d : c ≡ choice a zone (mark_of note) (lowest_of l zone) (members_of l zone - 1) = only_one a zone (mark_of note) (lowest_of l zone) (lowest_of l zone + members_of l zone) c _ f g in
      let e : placed_on a (mark_of note) c ≡ allocation_of a l zone note = rw (h, ne_eqb (members_of l zone) 0 (λ z. omega arith), ← d) in
      let member = the-channel _ c (chosen-is-member a l zone note c h f) in
      let one = the-channel _ c (one-chosen a l zone note c f) in
      let recall = the-channel _ c (recall-chosen a l zone note c f) in
      let least = the-channel _ c (least-chosen a l zone note c f) in
      let turned = the-channel _ c (only-ties-turned a l zone note c f) in
      (placed h f, (e, (listed (placed_on a (mark_of note) c) e, (member, (one, (recall, (least, turned)))))))

  pub in-channels : (first n : ℕ) (r : Allocation) → legal l ≡ true → 0 < members_of l zone → first ≡ lowest_of l zone → n ≡ members_of l zone → Placed a zone (mark_of note) first (first + n) r → Promised r
  in-channels first n r h m p q d =
      subst Promised (sym d.is)
      (in-zone h m d.channel (moved a zone (mark_of note) first n (lowest_of l zone) (members_of l zone) d.channel p q d.foremost))
