-- Runs of stores, one after the other, and the messages of each channel in such runs.
-- Assumes nothing.
use Prim.Native.Nat.{ℕ, suc, ◌+◌, ◌*◌, ◌-◌, ◌≤◌}
use mathlib.Core.Path.{◌≡◌, ap, sym, ◌∙◌}
use mathlib.Core.List.{List, [], ◌∷◌, ◌++◌, append_assoc, append-nil}
use native.Mathlib.Omega.{arith}
use native.Mathlib.Numerals.{add-one}
use native.Mathlib.Nat.{le_refl, zero-add}
use lib.ListN.{length, take, drop, set, length-append, length-drop}
use lib.Seq.{sets, sets-eq, take_at, take_all, drop-drop, drop-length}
use borrow.Rule.Slice.PartMut.{mid_of, put_mid, Post-is}
use Rattle.settings.specs.Messages.{each_channel}
use Rattle.settings.proofs.Counts.{each-length}

-- stores right behind others are one run
pub sets-append : (l : List ℕ) (i : ℕ) (u v : List ℕ) (j : ℕ) → i + length u ≡ j → sets (sets l i u) j v ≡ sets l i (u ++ v)
sets-append l i [] v j h = ap (λ k. sets l k v) (omega arith)
sets-append l i (a ∷ u) v j h = sets-append (set l i a) (suc i) u v j (omega arith)

-- one more turn of a loop that writes f 0, f 1, ..
pub turn : (f : ℕ → List ℕ) (m : ℕ) → ((k : ℕ) → length (f k) ≡ m) → (o : List ℕ) {x y : List ℕ} (at k j : ℕ)
    → x ≡ sets o at (each_channel f k) → at + k * m ≡ j → y ≡ sets x j (f k) → y ≡ sets o at (each_channel f (k + 1))
unfolding each_channel
turn f m h o at k j p e q =
    rw add-one
    (q ∙ ap (λ l. sets l j (f k)) p ∙ sets-append o at (each_channel f k) (f k) j (ap (λ n. at + n) (each-length f m h k) ∙ e))

-- what was written, and then v right after it
pub chain : (o : List ℕ) (at : ℕ) (u v : List ℕ) {x y : List ℕ} (j : ℕ) → x ≡ sets o at u → at + length u ≡ j → y ≡ sets x j v → y ≡ sets o at (u ++ v)
chain o at u v j p e q = q ∙ ap (λ l. sets l j v) p ∙ sets-append o at u v j e

-- x is o with u at its front, j elements
pub record Front (o x u : List ℕ) (j : ℕ) : Type 0 where
  pub put : x ≡ sets o 0 u
  pub long : length u ≡ j

-- v behind it, up to k
pub more : {o x u : List ℕ} {j : ℕ} (v : List ℕ) (k : ℕ) {y : List ℕ} → Front o x u j → y ≡ sets x j v → k ≡ j + length v → Front o y (u ++ v) k
more {o} {x} {u} {j} v k f e h =
    record { put = chain o 0 u v j f.put (rw zero-add f.long) e; long = length-append u v ∙ ap (λ n. n + length v) f.long ∙ sym h }

-- at the front: the run, and the rest as it was
pub sets-front : (l u : List ℕ) → length u ≤ length l → sets l 0 u ≡ u ++ drop (length u) l
sets-front l u h = rw zero-add at (sets-eq u l 0 (rw zero-add h))

-- so the front reads as what was put there
pub take-front : (l u : List ℕ) (n : ℕ) → length u ≡ n → n ≤ length l → take n (sets l 0 u) ≡ u
take-front l u n e h = rw (sets-front l u (rw e h)) (take_at u (drop (length u) l) n e)

-- a part that was lent, and came back as a run
pub put-sets : (xs ys g : List ℕ) (a k : ℕ) → a + length g ≤ length xs → ys ≡ g → k ≡ length g → put_mid a k xs ys ≡ sets xs a g
put-sets xs ys g a k h e n = rw (e, n, sets-eq g xs a h, ← drop-drop, append_assoc)

-- a part from a on that was lent, and came back with a run at its front
pub sets-part : (xs ys g : List ℕ) (a : ℕ) → a + length g ≤ length xs → ys ≡ g ++ drop (length g) (mid_of a (length xs - a) xs)
    → put_mid a (length xs - a) xs ys ≡ sets xs a g
sets-part xs ys g a h e =
    let m : mid_of a (length xs - a) xs ≡ drop a xs = take_all (length xs - a) (drop a xs) (simp length-drop (le_refl (length xs - a))) in
    let f : a ≤ length xs = omega arith in
    let y : ys ≡ g ++ drop (a + length g) xs = e ∙ rw (m, drop-drop) in
    rw (Post-is a (length xs) xs f, drop-length, append-nil, y, sets-eq g xs a h, append_assoc)
