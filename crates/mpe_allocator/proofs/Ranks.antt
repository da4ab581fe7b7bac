-- The order of members by rank is `goes_first`.
-- Assumes nothing.
use Rattle.std.proofs.Common.{◌≡◌, ℕ, ◌+◌, ◌-◌, ◌*◌, ◌<◌, Bool, true, false, ltb, ◌⊎◌, sym, refl, ◌∙◌, inl, inr, ⊎_elim, eq-or-lt_of_le, arith, ltb-false, ltb-true, le-ltb, eq-eqb, ne_eqb}
use Rattle.ump.specs.Choice.{when◌then◌else◌}
use Rattle.ump.proofs.Cases.{by-test}
use Rattle.mpe_layout.specs.declared.MpeZone.{MpeZone}
use Rattle.mpe_allocator.specs.declared.MpeNoteAllocator.{MpeNoteAllocator}
use Rattle.mpe_allocator.specs.Choice.{held_on, released_on, tie_first, smaller_first, recalls_on, latest_first, idlest_first, by_recall, goes_first, Foremost}
use Rattle.mpe_allocator.proofs.Order.{never, less}
use Rattle.mpe_allocator.proofs.Search.{alone, grown}

-- ---- the smaller of two numbers

more : (x y : ℕ) (t : Bool) → y < x → smaller_first x y t ≡ false
unfolding smaller_first
more x y t h = rw (ne_eqb x y (λ e. omega arith), le-ltb x y (omega arith))

neither : (x y : ℕ) (t : Bool) → x ≡ y → smaller_first x y t ≡ t
unfolding smaller_first
neither x y t h = rw (eq-eqb x y h)

compared : {P : Type 0} (x y : ℕ) → (x < y → P) → (y < x → P) → (x ≡ y → P) → P
compared x y l m e =
    by-test (ltb x y)
    (λ h. l (ltb-true x y h))
    (λ h. ⊎_elim (λ (i : y ≡ x). e (sym i)) (λ (i : y < x). m i) (eq-or-lt_of_le (ltb-false x y h)))

-- numbers in the same order
in_order : (x y v w : ℕ) (t : Bool) → (x < y → v < w) → (y < x → w < v) → (x ≡ y → v ≡ w) → smaller_first x y t ≡ smaller_first v w t
in_order x y v w t l m e =
    compared x y
    (λ h. less x y t h ∙ sym (less v w t (l h)))
    (λ h. more x y t h ∙ sym (more v w t (m h)))
    (λ h. neither x y t h ∙ sym (neither v w t (e h)))

-- ---- ranks

-- the rank of a member that holds h notes and was last released at x
abbrev pub rank_of : Bool → ℕ → ℕ → ℕ
rank_of recall h x = when recall then 4294967295 - x else 4294967296 * (h + 1) + x

by_rank : (p q : Bool) (h k x y : ℕ) (t : Bool) → x < 4294967296 → y < 4294967296 → by_recall p q (smaller_first y x t) (smaller_first h k (smaller_first x y t)) ≡ smaller_first (rank_of p h x) (rank_of q k y) t
unfolding by_recall
by_rank true true h k x y t u v = in_order y x (4294967295 - x) (4294967295 - y) t (λ i. omega arith) (λ i. omega arith) (λ i. omega arith)
by_rank true false h k x y t u v = sym (less (4294967295 - x) (4294967296 * (k + 1) + y) t (omega arith))
by_rank false true h k x y t u v = sym (more (4294967296 * (h + 1) + x) (4294967295 - y) t (omega arith))
by_rank false false h k x y t u v =
    compared h k
    (λ i. less h k (smaller_first x y t) i ∙ sym (less (4294967296 * (h + 1) + x) (4294967296 * (k + 1) + y) t (omega arith)))
    (λ i. more h k (smaller_first x y t) i ∙ sym (more (4294967296 * (h + 1) + x) (4294967296 * (k + 1) + y) t (omega arith)))
    (λ i. neither h k (smaller_first x y t) i ∙ in_order x y (4294967296 * (h + 1) + x) (4294967296 * (k + 1) + y) t (λ l. omega arith) (λ l. omega arith) (λ l. omega arith))

module _ (a : MpeNoteAllocator) (zone : MpeZone) (mark : ℕ) where
  abbrev pub rank_on : ℕ → ℕ
  rank_on c = rank_of (recalls_on a mark c) (held_on a c) (released_on a c)

  goes-by-rank : (c b : ℕ) → released_on a c < 4294967296 → released_on a b < 4294967296 → smaller_first (rank_on c) (rank_on b) (tie_first zone c b) ≡ goes_first a zone mark c b
  unfolding goes_first latest_first idlest_first
  goes-by-rank c b u v =
      sym (by_rank (recalls_on a mark c) (recalls_on a mark b) (held_on a c) (held_on a b) (released_on a c) (released_on a b) (tie_first zone c b) u v)

  -- ---- the search

  -- nothing is passed yet, or the best is the foremost of the channels passed, and this is its rank
  abbrev pub SoFar : ℕ → ℕ → ℕ → ℕ → Type 0
  SoFar first c best least =
      ((c ≡ first) × (least ≡ 18446744073709551615))
      ⊎ (Foremost a zone mark first c best × (least ≡ rank_on best) × (released_on a best < 4294967296))

  begun : (c best : ℕ) (t : Bool) → t ≡ true → released_on a c < 4294967296 → SoFar c (c + 1) (when t then c else best) (when t then rank_on c else 18446744073709551615)
  begun c best true e u = inr (alone a zone mark c, refl, u)
  begun c best false e u = never (sym e)

  further-by : (first c best : ℕ) (t : Bool) → Foremost a zone mark first (c + 1) (when t then c else best) → released_on a c < 4294967296 → released_on a best < 4294967296 → SoFar first (c + 1) (when t then c else best) (when t then rank_on c else rank_on best)
  further-by first c best true f u v = inr (f, refl, u)
  further-by first c best false f u v = inr (f, refl, v)

  -- one channel more
  pub passed : (first c best least : ℕ) → released_on a c < 4294967296 → rank_on c < 18446744073709551615 → SoFar first c best least → SoFar first (c + 1) (when smaller_first (rank_on c) least (tie_first zone c best) then c else best) (when smaller_first (rank_on c) least (tie_first zone c best) then rank_on c else least)
  passed first c best least u w (inl (e, m)) =
      rw (← e, m) (begun c best (smaller_first (rank_on c) 18446744073709551615 (tie_first zone c best)) (less (rank_on c) 18446744073709551615 (tie_first zone c best) w) u)
  passed first c best least u w (inr (f, m, v)) =
      rw (m, goes-by-rank c best u v) (further-by first c best (goes_first a zone mark c best) (grown a zone mark first c best f) u v)

  -- at the end of the search
  pub found : (first c best least : ℕ) → first < c → SoFar first c best least → Foremost a zone mark first c best
  found first c best least h (inl (e, m)) = absurd (omega arith)
  found first c best least h (inr (f, m, v)) = f
