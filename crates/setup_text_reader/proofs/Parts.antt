-- The parts of a text, one after the other, and the end behind the last.
-- Assumes nothing.
use Prim.Native.Nat.{ℕ, ◌+◌, ◌<◌}
use mathlib.Core.Path.{◌≡◌, sym, ap, ap₂, subst, ◌∙◌}
use native.Mathlib.Omega.{arith}
use mathlib.Core.List.{List, ◌∷◌}
use native.Mathlib.Numerals.{add-one}
use lib.Dec.{eqb}
use lib.ListN.{length, get_or, drop}
use lib.Seq.{drop-cons}
use denote.Ref.{Bor}
use Rattle.std.specs.Prelude.{Option, Some, None}
use Rattle.std.specs.List.{slice_split, enumerate_from}
use Rattle.std.specs.Iterator.{Yields}
use Rattle.std.proofs.lemmas.Iterator.{YieldsList}
use Rattle.std.proofs.lemmas.List.FromFn.{length-enumerate_from, get_or-enumerate_from}
use Rattle.std.proofs.lemmas.Iterator.Consumers.{YieldsList-turn, YieldsList-end}
use Rattle.setup_text.specs.Parse.{parts_at}

next : (all : List (List ℕ)) (k : ℕ) (w : List ℕ) → k < length all → w ≡ get_or all k w → drop k all ≡ w ∷ drop (k + 1) all
next all k w h e = drop-cons all k w h ∙ ap₂ (λ x n. x ∷ drop n all) (sym e) (sym (add-one k))

module _ {S : Type 0} {steps : S → Option (Bor (List ℕ)) → S → Type 0} {s i : S} (stop : ℕ) (l : List ℕ)
    (e : YieldsList steps (λ x. x.now) s (slice_split (λ b. eqb b stop) l)) (same : i ≡ s) (xs : List (Bor (List ℕ))) (t : S) (y : Yields steps i xs t)
    (r : Option (Bor (List ℕ))) (u : S) where
  pub part-turn : (x : Bor (List ℕ)) → r ≡ Some x → steps t r u → drop (length xs) (parts_at stop l) ≡ x.now ∷ drop (length xs + 1) (parts_at stop l)
  unfolding parts_at
  part-turn x is step =
      let h = YieldsList-turn e xs t (subst (λ j. Yields steps j xs t) same y) r u x is step in
      next (slice_split (λ b. eqb b stop) l) (length xs) x.now h.0 h.1

  pub part-end : r ≡ None → steps t r u → length xs ≡ length (parts_at stop l)
  unfolding parts_at
  part-end is step = (YieldsList-end e xs t (subst (λ j. Yields steps j xs t) same y) r u is step).1

-- the same of parts that are numbered from 0
module _ {S : Type 0} {steps : S → Option (ℕ × Bor (List ℕ)) → S → Type 0} {s i : S} (stop : ℕ) (l : List ℕ)
    (e : YieldsList {B = ℕ × List ℕ} steps (λ p. (p.0, p.1.now)) s (enumerate_from 0 (slice_split (λ b. eqb b stop) l))) (same : i ≡ s)
    (xs : List (ℕ × Bor (List ℕ))) (t : S) (y : Yields steps i xs t) (r : Option (ℕ × Bor (List ℕ))) (u : S) where
  pub numbered-turn : (k : ℕ) (x : Bor (List ℕ)) → r ≡ Some (k, x) → steps t r u → (k ≡ length xs) × (drop (length xs) (parts_at stop l) ≡ x.now ∷ drop (length xs + 1) (parts_at stop l))
  unfolding parts_at
  numbered-turn k x is step =
      let all = slice_split (λ b. eqb b stop) l in
      let h = YieldsList-turn e xs t (subst (λ j. Yields steps j xs t) same y) r u (k, x) is step in
      let n : length xs < length all = omega (arith, h.0, length-enumerate_from 0 all) in
      let p = h.1 ∙ get_or-enumerate_from 0 all (length xs) (k, x.now) n in
      let q : k ≡ 0 + length xs = ap (λ j. j.0) p in
      (omega (arith, q), next all (length xs) x.now n (ap (λ j. j.1) p))

  pub numbered-end : r ≡ None → steps t r u → length xs ≡ length (parts_at stop l)
  unfolding parts_at
  numbered-end is step =
      (YieldsList-end e xs t (subst (λ j. Yields steps j xs t) same y) r u is step).1 ∙ length-enumerate_from 0 (slice_split (λ b. eqb b stop) l)
