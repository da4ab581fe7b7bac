-- The foremost channel: one channel more, that it is the only one, and that `choice` is it.
-- Assumes nothing.
use Rattle.std.proofs.Common.{◌≡◌, ℕ, zero, suc, ◌+◌, ◌<◌, ◌≤◌, Bool, true, false, refl, subst, ⊎_elim, eq-or-lt_of_le, arith}
use Rattle.ump.specs.Choice.{when◌then◌else◌}
use Rattle.mpe_layout.specs.declared.MpeZone.{MpeZone}
use Rattle.mpe_allocator.specs.declared.MpeNoteAllocator.{MpeNoteAllocator}
use Rattle.mpe_allocator.specs.Choice.{goes_first, Foremost, foremost_of, choice}
use Rattle.mpe_allocator.proofs.Order.{first-trans, first-total, first-anti, first-refl}

module _ (a : MpeNoteAllocator) (zone : MpeZone) (mark : ℕ) where
  -- alone, a channel is foremost
  pub alone : (first : ℕ) → Foremost a zone mark first (first + 1) first
  alone first =
      record {
        from = omega arith;
        below = omega arith;
        before = λ (b : ℕ) (l : first ≤ b) (u : b < first + 1). let e : b ≡ first = omega arith in rw e (first-refl a zone mark first);
      }

  -- a channel d, before the foremost so far and before the next channel, is foremost with that one too
  further : (first c best d : ℕ) → Foremost a zone mark first c best → first ≤ d → d < c + 1 → goes_first a zone mark d best ≡ true → goes_first a zone mark d c ≡ true → Foremost a zone mark first (c + 1) d
  further first c best d f l u p q =
      record {
        from = l;
        below = u;
        before = λ (b : ℕ) (m : first ≤ b) (n : b < c + 1).
            ⊎_elim
            (λ (e : b ≡ c). rw e q)
            (λ (k : b < c). first-trans a zone mark d best b p (f.before b m k))
            (eq-or-lt_of_le (let k : b ≤ c = omega arith in k));
      }

  grown-by : (first c best : ℕ) (t : Bool) → goes_first a zone mark c best ≡ t → Foremost a zone mark first c best → Foremost a zone mark first (c + 1) (when t then c else best)
  grown-by first c best true e f =
      further first c best c f (let l = f.from in let u = f.below in omega arith) (omega arith) e (first-refl a zone mark c)
  grown-by first c best false e f =
      further first c best best f f.from (let u = f.below in omega arith) (first-refl a zone mark best) (first-total a zone mark c best e)

  pub grown : (first c best : ℕ) → Foremost a zone mark first c best → Foremost a zone mark first (c + 1) (foremost_of a zone mark best c)
  grown first c best f = grown-by first c best (goes_first a zone mark c best) refl f

  pub only_one : (first end c d : ℕ) → Foremost a zone mark first end c → Foremost a zone mark first end d → c ≡ d
  only_one first end c d f g =
      first-anti a zone mark c d (f.before d g.from g.below) (g.before c f.from f.below)

  pub choice-foremost : (first n : ℕ) → Foremost a zone mark first (first + suc n) (choice a zone mark first n)
  unfolding choice
  choice-foremost first zero = alone first
  choice-foremost first (suc n) =
      let e : first + suc n + 1 ≡ first + suc (suc n) = omega arith in
      subst (λ (end : ℕ). Foremost a zone mark first end (choice a zone mark first (suc n))) e (grown first (first + suc n) (choice a zone mark first n) (choice-foremost first n))
