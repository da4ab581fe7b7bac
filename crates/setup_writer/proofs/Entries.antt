-- Entries of a writer: which are listed, how many there are, and their bytes.
-- Assumes nothing.
use Prim.Native.Nat.{ℕ, zero, suc, ◌+◌, ◌-◌, ◌<◌, ◌≤◌}
use mathlib.Core.Path.{◌≡◌, refl, sym, ap, ◌∙◌}
use mathlib.Core.Bool.{true, false}
use mathlib.Core.List.{List, [], ◌∷◌, ◌++◌, flatten, append_assoc, append-nil}
use native.Mathlib.Omega.{arith}
use native.Mathlib.Nat.{le_refl, add-zero, add-suc, zero-add, suc-add}
use lib.ListN.{length, length-append}
use Rattle.ump.proofs.Cases.{by-test}
use Rattle.settings.specs.declared.Settings.{Settings}
use Rattle.setup_file.specs.declared.Section.{Section}
use Rattle.setup_file.specs.declared.Section.TheVariants.{Zones, Channels}
use Rattle.setup_file.specs.Format.{entry_size, unlisted, entry_of, entries_from}

module _ (section : Section) (s : Settings) where
  -- the entry of one number
  pub one-unlisted : (k : ℕ) → unlisted section (entry_of section s k) ≡ true → entries_from section s k 1 ≡ []
  unfolding entries_from
  one-unlisted k u = rw u

  pub one-listed : (k : ℕ) → unlisted section (entry_of section s k) ≡ false → entries_from section s k 1 ≡ entry_of section s k ∷ []
  unfolding entries_from
  one-listed k u = rw u

  -- the entries of n numbers, and of one more
  one_more : (k n : ℕ) → entries_from section s k (n + 1) ≡ entries_from section s k n ++ entries_from section s (k + n) 1
  unfolding entries_from
  one_more k zero = ap (λ j. entries_from section s j 1) (sym (add-zero k))
  one_more k (suc n) =
      by-test (unlisted section (entry_of section s k))
      (λ t. rw (suc-add n 1, t) (rw (add-suc k n, ← suc-add k n) (one_more (suc k) n)))
      (λ f. rw (suc-add n 1, f) (ap (λ l. entry_of section s k ∷ l) (rw (add-suc k n, ← suc-add k n) (one_more (suc k) n))))

  -- from the first number on
  pub next-number : (k : ℕ) → entries_from section s 0 (k + 1) ≡ entries_from section s 0 k ++ entries_from section s k 1
  next-number k = one_more 0 k ∙ ap (λ j. entries_from section s 0 k ++ entries_from section s j 1) (zero-add k)

  -- at most as many entries as numbers
  pub count_at_most : (n k : ℕ) → length (entries_from section s k n) ≤ n
  unfolding entries_from
  count_at_most zero k = omega arith
  count_at_most (suc n) k =
      let i = count_at_most n (suc k) in
      by-test (unlisted section (entry_of section s k)) (λ t. rw t (omega arith)) (λ f. rw f (omega arith))

-- one entry more, or none
module _ (section : Section) (s : Settings) (k : ℕ) where
  pub count_listed : unlisted section (entry_of section s k) ≡ false → length (entries_from section s 0 (k + 1)) ≡ length (entries_from section s 0 k) + 1
  count_listed u =
      ap length (next-number section s k)
      ∙ length-append (entries_from section s 0 k) (entries_from section s k 1)
      ∙ ap (λ l. length (entries_from section s 0 k) + length l) (one-listed section s k u)

  pub count_unlisted : unlisted section (entry_of section s k) ≡ true → length (entries_from section s 0 (k + 1)) ≡ length (entries_from section s 0 k)
  count_unlisted u =
      ap length (next-number section s k)
      ∙ length-append (entries_from section s 0 k) (entries_from section s k 1)
      ∙ ap (λ l. length (entries_from section s 0 k) + length l) (one-unlisted section s k u)
      ∙ add-zero (length (entries_from section s 0 k))

-- bytes of entries, and of one list of them after another
pub flatten-append : (u v : List (List ℕ)) → flatten (u ++ v) ≡ flatten u ++ flatten v
unfolding flatten
flatten-append [] v = refl
flatten-append (e ∷ u) v = ap (λ l. e ++ l) (flatten-append u v) ∙ sym (append_assoc e (flatten u) (flatten v))

pub flatten-one : (e : List ℕ) → flatten (e ∷ []) ≡ e
unfolding flatten
flatten-one e = append-nil e

-- the bytes of the entry of one number
module _ (section : Section) (s : Settings) (k : ℕ) where
  pub unlisted_bytes : unlisted section (entry_of section s k) ≡ true → flatten (entries_from section s k 1) ≡ []
  unfolding flatten
  unlisted_bytes u = ap flatten (one-unlisted section s k u)

  pub listed_bytes : unlisted section (entry_of section s k) ≡ false → flatten (entries_from section s k 1) ≡ entry_of section s k
  listed_bytes u = ap flatten (one-listed section s k u) ∙ flatten-one (entry_of section s k)

pub entry_long : (section : Section) (s : Settings) (k : ℕ) → length (entry_of section s k) ≡ entry_size section
entry_long Zones s k = refl
entry_long Channels s k = refl

-- the bytes of the entries below k, and of the next
module _ (section : Section) (s : Settings) where
  abbrev below : ℕ → List ℕ
  below k = flatten (entries_from section s 0 k)

  pub next-bytes : (k : ℕ) → flatten (entries_from section s 0 (k + 1)) ≡ flatten (entries_from section s 0 k) ++ flatten (entries_from section s k 1)
  next-bytes k = ap flatten (next-number section s k) ∙ flatten-append (entries_from section s 0 k) (entries_from section s k 1)

  grows : (k m : ℕ) → length (below k) ≤ length (below (k + m))
  grows k zero = rw (add-zero k) (le_refl (length (below k)))
  grows k (suc m) =
      let i = grows k m in
      let e : length (below (k + m + 1)) ≡ length (below (k + m)) + length (flatten (entries_from section s (k + m) 1)) =
      ap length (next-bytes (k + m)) ∙ length-append (below (k + m)) (flatten (entries_from section s (k + m) 1)) in
      let n : k + suc m ≡ k + m + 1 = omega arith in
      rw n (omega arith)

  -- an entry below n has its place among the bytes of all
  pub next_fits : (k n : ℕ) → k < n → length (flatten (entries_from section s 0 k)) + length (flatten (entries_from section s k 1)) ≤ length (flatten (entries_from section s 0 n))
  next_fits k n h =
      let e : length (below (k + 1)) ≡ length (below k) + length (flatten (entries_from section s k 1)) =
      ap length (next-bytes k) ∙ length-append (below k) (flatten (entries_from section s k 1)) in
      let g = grows (k + 1) (n - (k + 1)) in
      let m : k + 1 + (n - (k + 1)) ≡ n = omega arith in
      rw (← e) (rw m at g)
