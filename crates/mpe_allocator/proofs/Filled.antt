-- A zone fills from its manager, by induction on the notes: those before have the nearest members, one each, and nothing was released.
-- Assumes nothing.
use Rattle.std.proofs.Common.{◌≡◌, ℕ, suc, ◌+◌, ◌-◌, ◌<◌, ◌≤◌, Bool, true, false, eqb, ltb, List, [], ◌∷◌, length, get_or, set, replicate, sym, refl, ap, ◌∙◌, subst, arith, get_or-set_other, get_or-set_same, ltb-false, ltb-true, ne_eqb, le-leb}
use lib.ListN.{get_or-replicate}
use Rattle.ump.specs.Choice.{when◌then◌else◌}
use Rattle.ump.proofs.Cases.{by-test}
use Rattle.mpe_layout.specs.Layout.{legal, members_of, lowest_of}
use Rattle.mpe_layout.specs.declared.MpeZone.{MpeZone}
use Rattle.mpe_layout.specs.declared.MpeZone.TheVariants.{Lower, Upper}
use Rattle.mpe_layout.specs.declared.MpeLayout.{MpeLayout}
use Rattle.mpe_layout.proofs.Legal.{members-le}
use Rattle.mpe_allocator.specs.declared.MpeNoteAllocator.{MpeNoteAllocator}
use Rattle.mpe_allocator.specs.declared.Allocation.{Allocation}
use Rattle.mpe_allocator.specs.Choice.{held_on, last_on, released_on, mark_of, recalls, tie_first, by_recall, idlest_first, goes_first, Chosen}
use Rattle.mpe_allocator.specs.Allocator.{emptied, one_more, with_note, placed_on, allocation_of}
use Rattle.mpe_allocator.specs.Calls.{note_reply, after_calls}
use Rattle.mpe_allocator.specs.Filling.{from_manager, note_ons, FillsFromManager}
use Rattle.mpe_allocator.proofs.Order.{less, equal}
use Rattle.mpe_allocator.proofs.Storing.{Sized, sized-by, emptied-sized}
use Rattle.mpe_allocator.proofs.Noted.{in-zone}

-- ---- places from the manager

-- a member of a zone stands at a place
placed_at : (l : MpeLayout) (zone : MpeZone) (b : ℕ) → legal l ≡ true → lowest_of l zone ≤ b → b < lowest_of l zone + members_of l zone → (P : ℕ → Type 0) → ((place : ℕ) → place < members_of l zone → P (from_manager zone place)) → P b
placed_at l Lower b h u v P f = subst P (let e : 1 + (b - 1) ≡ b = omega arith in e) (f (b - 1) (omega arith))
placed_at l Upper b h u v P f =
    let m = members-le l Upper h in
    subst P (let e : 14 - (14 - b) ≡ b = omega arith in e) (f (14 - b) (omega arith))

apart : (zone : MpeZone) (j k : ℕ) → j < 15 → k < 15 → (j ≡ k → ⊥) → from_manager zone j ≡ from_manager zone k → ⊥
apart Lower j k u v n e = n (omega arith)
apart Upper j k u v n e = n (omega arith)

channel : (zone : MpeZone) (j : ℕ) → j < 15 → from_manager zone j < 16
channel Lower j u = omega arith
channel Upper j u = omega arith

nearer : (zone : MpeZone) (j k : ℕ) → j ≤ k → tie_first zone (from_manager zone j) (from_manager zone k) ≡ true
unfolding tie_first
nearer Lower j k u = le-leb (1 + j) (1 + k) (omega arith)
nearer Upper j k u = le-leb (14 - k) (14 - j) (omega arith)

-- the nearest of a zone with this many is a member
member : (l : MpeLayout) (zone : MpeZone) (k : ℕ) → legal l ≡ true → k < members_of l zone → (lowest_of l zone ≤ from_manager zone k) × (from_manager zone k < lowest_of l zone + members_of l zone)
member l Lower k h u = (omega arith, omega arith)
member l Upper k h u =
    let m = members-le l Upper h in
    (omega arith, omega arith)

-- ---- channels that do not recall

occupied : (option : Bool) (held last mark : ℕ) → held ≡ 1 → recalls option held last mark ≡ false
unfolding recalls
occupied true held last mark e = rw (ne_eqb held 0 (λ z. omega arith))
occupied false held last mark e = refl

unplayed-by : (t u : Bool) → u ≡ false → (when t then u else false) ≡ false
unplayed-by true u e = e
unplayed-by false u e = refl

unplayed : (option : Bool) (held last mark : ℕ) → last ≡ 0 → 0 < mark → recalls option held last mark ≡ false
unfolding recalls
unplayed true held last mark e h = unplayed-by (eqb held 0) (eqb last mark) (ne_eqb last mark (λ z. omega arith))
unplayed false held last mark e h = refl

idlest-goes : (p q f i : Bool) → p ≡ false → q ≡ false → i ≡ true → by_recall p q f i ≡ true
unfolding by_recall
idlest-goes p q f i e g h = rw (e, g) h

-- ---- the first k members hold a note each, the others were never played

pub record Filled (a : MpeNoteAllocator) (zone : MpeZone) (k : ℕ) : Type 0 where
  pub sized : Sized a
  pub taken : (j : ℕ) → j < k → held_on a (from_manager zone j) ≡ 1
  pub free : (j : ℕ) → k ≤ j → j < 15 → held_on a (from_manager zone j) ≡ 0
  pub never-played : (j : ℕ) → k ≤ j → j < 15 → last_on a (from_manager zone j) ≡ 0
  pub unreleased : (j : ℕ) → j < 15 → released_on a (from_manager zone j) ≡ 0

module _ (a : MpeNoteAllocator) (l : MpeLayout) (zone : MpeZone) (k note : ℕ) (h : legal l ≡ true) (m : k < members_of l zone) (f : Filled a zone k) where
  fifteen : members_of l zone ≤ 15
  fifteen = members-le l zone h

  before-each : (j : ℕ) → j < members_of l zone → goes_first a zone (mark_of note) (from_manager zone k) (from_manager zone j) ≡ true
  unfolding goes_first idlest_first
  before-each j u =
      let x = unplayed a.same_note (held_on a (from_manager zone k)) (last_on a (from_manager zone k)) (mark_of note) (f.never-played k (omega arith) (omega (arith, fifteen))) (omega arith) in
      by-test (ltb j k)
      (λ t.
      let v = ltb-true j k t in
      idlest-goes _ _ _ _ x (occupied a.same_note _ _ (mark_of note) (f.taken j v))
      (less _ _ _ (omega (arith, f.free k (omega arith) (omega (arith, fifteen)), f.taken j v))))
      (λ t.
      let v = ltb-false j k t in
      let w : j < 15 = omega (arith, fifteen) in
      idlest-goes _ _ _ _ x (unplayed a.same_note _ _ (mark_of note) (f.never-played j v w) (omega arith))
      (equal _ _ _ (f.free k (omega arith) (omega (arith, fifteen)) ∙ sym (f.free j v w))
      (equal _ _ _ (f.unreleased k (omega (arith, fifteen)) ∙ sym (f.unreleased j w)) (nearer zone k j v))))

  nearest-chosen : Chosen a l zone note (from_manager zone k)
  nearest-chosen =
      record {
        from = (member l zone k h m).0;
        below = (member l zone k h m).1;
        before = λ b u v. placed_at l zone b h u v (λ b. goes_first a zone (mark_of note) (from_manager zone k) b ≡ true) before-each;
      }

  pub allocated : placed_on a (mark_of note) (from_manager zone k) ≡ allocation_of a l zone note
  allocated = (in-zone a l zone note h (omega arith) (from_manager zone k) nearest-chosen).1.0

  -- a channel at another place is left
  left : (at : List ℕ) (v j : ℕ) → j < 15 → (j ≡ k → ⊥) → get_or (set at (from_manager zone k) v) (from_manager zone j) 0 ≡ get_or at (from_manager zone j) 0
  left at v j u n =
      get_or-set_other at (from_manager zone k) (from_manager zone j) v 0 (apart zone j k u (omega (arith, fifteen)) n)

  one-more-held : held_on (with_note a (mark_of note) (from_manager zone k)) (from_manager zone k) ≡ 1
  unfolding with_note
  one-more-held =
      let w : k < 15 = omega (arith, fifteen) in
      get_or-set_same a.active (from_manager zone k) _ 0 (omega (arith, channel zone k w, f.sized.counts))
      ∙ ap one_more (f.free k (omega arith) w)

  pub one_further : Filled (with_note a (mark_of note) (from_manager zone k)) zone (k + 1)
  unfolding with_note
  one_further =
      record {
        sized = sized-by a (mark_of note) (from_manager zone k) true false f.sized;
        taken = λ j u.
            by-test (ltb j k)
            (λ t.
            let v = ltb-true j k t in
            left a.active _ j (omega (arith, fifteen)) (λ e. omega arith) ∙ f.taken j v)
            (λ t.
            let e : k ≡ j = omega (arith, ltb-false j k t) in
            subst (λ n. held_on (with_note a (mark_of note) (from_manager zone k)) (from_manager zone n) ≡ 1) e one-more-held);
        free = λ j u v. left a.active _ j v (λ e. omega arith) ∙ f.free j (omega arith) v;
        never-played = λ j u v. left a.last_note _ j v (λ e. omega arith) ∙ f.never-played j (omega arith) v;
        unreleased = f.unreleased;
      }

filled-after : (a : MpeNoteAllocator) (l : MpeLayout) (zone : MpeZone) (k : ℕ) (notes : List ℕ) → legal l ≡ true → k + length notes ≤ members_of l zone → Filled a zone k → Filled (after_calls a (note_ons l zone notes)) zone (k + length notes)
unfolding after_calls note_ons
filled-after a l zone k [] h m f = subst (λ n. Filled a zone n) (let e : k ≡ k + 0 = omega arith in e) f
filled-after a l zone k (note ∷ notes) h m f =
    let u : k < members_of l zone = omega arith in
    let e : k + 1 + length notes ≡ k + suc (length notes) = omega arith in
    let g = subst (λ (r : Allocation). Filled r.allocator zone (k + 1)) (allocated a l zone k note h u f) (one_further a l zone k note h u f) in
    subst (λ n. Filled (after_calls (allocation_of a l zone note).allocator (note_ons l zone notes)) zone n) e
    (filled-after (allocation_of a l zone note).allocator l zone (k + 1) notes h (omega arith) g)

-- an empty allocator
zero-at : (zone : MpeZone) (j : ℕ) → j < 15 → ◌≡◌ {A = ℕ} (get_or (replicate 16 0) (from_manager zone j) 0) 0
zero-at zone j v = get_or-replicate 16 (from_manager zone j) 0 0 (channel zone j v)

none_filled : (option : Bool) (zone : MpeZone) → Filled (emptied option) zone 0
none_filled option zone =
    record {
      sized = emptied-sized option;
      taken = λ j u. absurd (omega arith);
      free = λ j u v. zero-at zone j v;
      never-played = λ j u v. zero-at zone j v;
      unreleased = zero-at zone;
    }

pub fills : (option : Bool) → FillsFromManager (emptied option)
fills option l zone notes note h m =
    let e : 0 + length notes ≡ length notes = omega arith in
    let f = subst (λ n. Filled (after_calls (emptied option) (note_ons l zone notes)) zone n) e (filled-after (emptied option) l zone 0 notes h (omega arith) (none_filled option zone)) in
    ap (λ (r : Allocation). note_reply r.reply) (sym (allocated (after_calls (emptied option) (note_ons l zone notes)) l zone (length notes) note h m f))
