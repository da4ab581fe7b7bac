-- `mpe_allocator::MpeNoteAllocator::place` meets its contract. The loop's invariant: the best so far is the foremost of the channels passed, and `least` is its rank.
use Rattle.std.proofs.Common.{◌≡◌, true, false, sym, ◌∙◌, refl, arith}
use Rattle.mpe_allocator.specs.Choice.{held_on, tie_first, smaller_first}
use Rattle.mpe_allocator.specs.Allocator.{one_more, with_note}
use Rattle.mpe_allocator.proofs.Ranks.{rank_on, passed, found}
use Rattle.mpe_allocator.proofs.MpeNoteAllocator.place.Goals as goal
use Rattle.mpe_allocator.proofs.MpeNoteAllocator.place.Goals.{then-smaller_first, else-smaller_first}

pub loop-c-preserved : goal.loop-c-preserved
loop-c-preserved c =
    let a = c.args in
    let i = c.loop-c in
    let r = c.rank-next.ensures in
    let p = passed a.self a.zone a.mark a.first i.c i.best i.least r.within.0 (rw (r.is, c.is_recall-recall.ensures) at r.within.1) i.invariant in
    elim c.if-smaller_first.branch [
      | then-smaller_first w ↦
          let t : smaller_first (rank_on a.self a.zone a.mark i.c) i.least (tie_first a.zone i.c i.best) ≡ true =
          rw (r.is, c.is_recall-recall.ensures, c.wins_tie.ensures) at (sym c.smaller_first.ensures ∙ w.if-smaller_first.true) in
          rw (w.best-is, w.least-is, r.is, c.is_recall-recall.ensures) (rw t at p)
      | else-smaller_first w ↦
          let t : smaller_first (rank_on a.self a.zone a.mark i.c) i.least (tie_first a.zone i.c i.best) ≡ false =
          rw (r.is, c.is_recall-recall.ensures, c.wins_tie.ensures) at (sym c.smaller_first.ensures ∙ w.if-smaller_first.false) in
          rw (w.best-is, w.least-is) (rw t at p)
    ]

pub returns : goal.returns
unfolding with_note
returns c =
    let a = c.args in
    let i = c.loop-c in
    record {
      channel = i.best;
      foremost = let full : a.end ≡ i.c = omega arith in
          rw full (found a.self a.zone a.mark a.first i.c i.best i.least (omega arith) i.invariant);
      is = let more : one_more (held_on a.self i.best) ≡ c.one_more.result = sym c.one_more.ensures in
          rw more refl;
    }
