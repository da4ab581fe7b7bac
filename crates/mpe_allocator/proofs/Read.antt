-- The chosen channel, read as document 01 has it.
-- Assumes nothing.
use Rattle.std.proofs.Common.{◌≡◌, ℕ, ◌+◌, ◌-◌, ◌<◌, Bool, true, false, eqb, ◌⊎◌, sym, refl, ◌∙◌, subst, inl, inr, ⊎_elim, arith, eq-eqb, eqb-true, leb-true}
use Rattle.ump.specs.Choice.{when◌then◌else◌}
use Rattle.ump.proofs.Cases.{by-test}
use Rattle.mpe_layout.specs.Layout.{legal, members_of, lowest_of}
use Rattle.mpe_layout.specs.declared.MpeZone.{MpeZone}
use Rattle.mpe_layout.specs.declared.MpeZone.TheVariants.{Lower, Upper}
use Rattle.mpe_layout.specs.declared.MpeLayout.{MpeLayout}
use Rattle.mpe_layout.proofs.Roles.{member-role}
use Rattle.mpe_allocator.specs.declared.MpeNoteAllocator.{MpeNoteAllocator}
use Rattle.mpe_allocator.specs.Choice.{held_on, last_on, released_on, mark_of, recalls, recalls_on, Foremost, Chosen, tie_first, smaller_first, latest_first, idlest_first, by_recall, goes_first}
use Rattle.mpe_allocator.specs.Claims.{ChosenIsMember, OneChosen, MemberOf, TakenOnTie, LastPlayed, RecallChosen, LeastChosen, OnlyTiesTurned}
use Rattle.mpe_allocator.proofs.Order.{never, view, smaller-anti, recall-anti}
use Rattle.mpe_allocator.proofs.Search.{only_one}

pub chosen-is-member : (a : MpeNoteAllocator) (l : MpeLayout) (zone : MpeZone) (note c : ℕ) → legal l ≡ true → Chosen a l zone note c → ChosenIsMember l zone c
chosen-is-member a l zone note c h f =
    let e : lowest_of l zone + (c - lowest_of l zone) ≡ c = omega (arith, f.from) in
    rw e at (member-role l zone (c - lowest_of l zone) h (omega (arith, f.from, f.below)))

pub one-chosen : (a : MpeNoteAllocator) (l : MpeLayout) (zone : MpeZone) (note c : ℕ) → Chosen a l zone note c → OneChosen a l zone note c
one-chosen a l zone note c f d g = only_one a zone (mark_of note) _ _ c d f g

tie-taken : (zone : MpeZone) (c b : ℕ) → tie_first zone c b ≡ true → TakenOnTie zone c b
unfolding tie_first
tie-taken Lower c b h = leb-true c b h
tie-taken Upper c b h = leb-true b c h

-- the smaller number, or a tie and the channel that is taken then
tied : (zone : MpeZone) (x y c b : ℕ) → smaller_first x y (tie_first zone c b) ≡ true → (x < y) ⊎ ((x ≡ y) × TakenOnTie zone c b)
tied zone x y c b h =
    ⊎_elim
    (λ (l : x < y). inl l)
    (λ (e : (x ≡ y) × (tie_first zone c b ≡ true)). inr (e.0, tie-taken zone c b e.1))
    (view x y (tie_first zone c b) h)

-- of a channel that goes before one that recalls, and of one that does not recall and goes before another
both-recall : (p q f i : Bool) → by_recall p q f i ≡ true → q ≡ true → (p ≡ true) × (f ≡ true)
unfolding by_recall
both-recall true q f i h e = (refl, rw e at h)
both-recall false q f i h e = never (sym (rw e at h))

none-recalls : (p q f i : Bool) → by_recall p q f i ≡ true → p ≡ false → i ≡ true
unfolding by_recall
none-recalls true q f i h e = never e
none-recalls false true f i h e = never (sym h)
none-recalls false false f i h e = h

-- what recalls has the option on, holds no note, and had the note last; and the other way round
both_by : (t u : Bool) → (when t then u else false) ≡ true → (t ≡ true) × (u ≡ true)
both_by true u h = (refl, h)
both_by false u h = never (sym h)

recalled : (option : Bool) (held last mark : ℕ) → recalls option held last mark ≡ true → (option ≡ true) × (held ≡ 0) × (last ≡ mark)
unfolding recalls
recalled option held last mark h =
    let o = both_by option (when eqb held 0 then eqb last mark else false) h in
    let r = both_by (eqb held 0) (eqb last mark) o.1 in
    (o.0, eqb-true held 0 r.0, eqb-true last mark r.1)

recalling : (option : Bool) (held last mark : ℕ) → option ≡ true → held ≡ 0 → last ≡ mark → recalls option held last mark ≡ true
unfolding recalls
recalling option held last mark o h l = rw (o, eq-eqb held 0 h, eq-eqb last mark l)

module _ (a : MpeNoteAllocator) (l : MpeLayout) (zone : MpeZone) (note c : ℕ) (f : Chosen a l zone note c) where
  played : (b : ℕ) → recalls_on a (mark_of note) b ≡ true → LastPlayed a note b
  played b h = recalled a.same_note (held_on a b) (last_on a b) (mark_of note) h

  pub recall-chosen : RecallChosen a l zone note c
  unfolding goes_first latest_first
  recall-chosen b m h =
      let r = both-recall _ _ _ _ (f.before b m.0 m.1) (recalling a.same_note (held_on a b) (last_on a b) (mark_of note) h.0 h.1 h.2) in
      (played c r.0, tied zone (released_on a b) (released_on a c) c b r.1)

  idlest-chosen : (b : ℕ) → MemberOf l zone b → recalls_on a (mark_of note) c ≡ false → idlest_first a zone c b ≡ true
  unfolding goes_first
  idlest-chosen b m h = none-recalls _ _ _ _ (f.before b m.0 m.1) h

  pub least-chosen : LeastChosen a l zone note c
  unfolding idlest_first
  least-chosen n b m =
      by-test (recalls_on a (mark_of note) c)
      (λ h. absurd (n c (f.from, f.below) (played c h)))
      (λ h.
      ⊎_elim
      (λ (x : held_on a c < held_on a b). inl x)
      (λ (e : (held_on a c ≡ held_on a b) × (smaller_first (released_on a c) (released_on a b) (tie_first zone c b) ≡ true)).
      inr (e.0, tied zone (released_on a c) (released_on a b) c b e.1))
      (view (held_on a c) (held_on a b) _ (idlest-chosen b m h)))

-- ---- beside the choice of the Rust

module _ (a : MpeNoteAllocator) (zone : MpeZone) (mark c d : ℕ) where
  -- two members, each before the other by the tie of some zone, tie
  both-tie : goes_first a zone mark c d ≡ true → goes_first a Lower mark d c ≡ true → (recalls_on a mark c ≡ recalls_on a mark d) × (held_on a c ≡ held_on a d) × (released_on a c ≡ released_on a d)
  unfolding goes_first latest_first idlest_first
  both-tie p q =
      ⊎_elim
      (λ x.
      let r = smaller-anti (released_on a d) (released_on a c) _ _ x.2 x.3 in
      let h = recalled a.same_note (held_on a c) (last_on a c) mark x.0 in
      let k = recalled a.same_note (held_on a d) (last_on a d) mark x.1 in
      (x.0 ∙ sym x.1, h.1 ∙ sym k.1, sym r.0))
      (λ x.
      let h = smaller-anti (held_on a c) (held_on a d) _ _ x.2 x.3 in
      let r = smaller-anti (released_on a c) (released_on a d) _ _ h.1 h.2 in
      (x.0 ∙ sym x.1, h.0, r.0))
      (recall-anti _ _ _ _ _ _ p q)

pub only-ties-turned : (a : MpeNoteAllocator) (l : MpeLayout) (zone : MpeZone) (note c : ℕ) → Chosen a l zone note c → OnlyTiesTurned a l zone note c
only-ties-turned a l zone note c f d g =
    let t = both-tie a zone (mark_of note) c d (f.before d g.from g.below) (g.before c f.from f.below) in
    (t.0, t.1, t.2, λ e. only_one a Lower (mark_of note) _ _ c d (subst (λ z. Foremost a z (mark_of note) (lowest_of l zone) (lowest_of l zone + members_of l zone) c) e f) g)
