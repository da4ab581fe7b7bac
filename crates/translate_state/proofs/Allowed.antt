-- Which records are allowed: by channel, and by byte.
-- Assumes nothing.
use mathlib.Core.Path.{◌≡◌, refl}
use mathlib.Core.Bool.{Bool, true, false, ◌&&◌}
use mathlib.Core.List.{List}
use mathlib.Core.Logic.{⊎_elim}
use Prim.Native.Nat.{ℕ, zero, suc, ◌<◌, ◌≤◌}
use native.Mathlib.Nat.{eq-or-lt_of_le, le_of_suc-le-suc, not-suc-le-zero}
use native.Mathlib.Omega.{arith}
use borrow.Author.Tests.{leb-true, le-leb}
use lib.ListN.{get_or}
use Rattle.ump.proofs.Cases.{both}
use Rattle.translate_state.specs.declared.ChannelState.{ChannelState}
use Rattle.translate_state.specs.State.{empty_state, flags_allowed, state_allowed, allowed_to}

pub and-false : (x : Bool) → x && false ≡ false
and-false true = refl
and-false false = refl

-- one channel that is not allowed
pub one-refused : (l : List ChannelState) (n k : ℕ) → k < n → state_allowed (get_or l k empty_state) ≡ false → allowed_to l n ≡ false
unfolding allowed_to
one-refused l zero k h f = absurd (not-suc-le-zero h)
one-refused l (suc n) k h f =
    ⊎_elim
    (λ (e : k ≡ n). rw (← e, f) (and-false (allowed_to l k)))
    (λ (b : k < n). rw (one-refused l n k b f))
    (eq-or-lt_of_le (le_of_suc-le-suc h))

pub each-allowed : (l : List ChannelState) (n : ℕ) → allowed_to l n ≡ true → (k : ℕ) → k < n → state_allowed (get_or l k empty_state) ≡ true
unfolding allowed_to
each-allowed l zero a k h = absurd (not-suc-le-zero h)
each-allowed l (suc n) a k h =
    ⊎_elim
    (λ (e : k ≡ n). rw e (both (allowed_to l n) (state_allowed (get_or l n empty_state)) a).1)
    (λ (b : k < n). each-allowed l n (both (allowed_to l n) (state_allowed (get_or l n empty_state)) a).0 k b)
    (eq-or-lt_of_le (le_of_suc-le-suc h))

pub all-allowed : (l : List ChannelState) (n : ℕ) → ((k : ℕ) → k < n → state_allowed (get_or l k empty_state) ≡ true) → allowed_to l n ≡ true
unfolding allowed_to
all-allowed l zero f = refl
all-allowed l (suc n) f = rw (all-allowed l n (λ k h. f k (omega arith)), f n (omega arith))

-- the bytes of a channel that is allowed
pub record Allowed (s : ChannelState) : Type 0 where
  pub rpn-msb : s.rpn_msb ≤ 128
  pub rpn-lsb : s.rpn_lsb ≤ 128
  pub nrpn-msb : s.nrpn_msb ≤ 128
  pub nrpn-lsb : s.nrpn_lsb ≤ 128
  pub data-msb : s.data_msb ≤ 128
  pub bank_msb : s.bank_msb ≤ 128
  pub bank_lsb : s.bank_lsb ≤ 128
  pub flags_of : flags_allowed s.flags ≡ true

pub parts-allowed : (s : ChannelState) → state_allowed s ≡ true → Allowed s
unfolding state_allowed
parts-allowed s h =
    let a = both _ _ h in
    let b = both _ _ a.1 in
    let c = both _ _ b.1 in
    let d = both _ _ c.1 in
    let e = both _ _ d.1 in
    let f = both _ _ e.1 in
    let g = both _ _ f.1 in
    record {
      rpn-msb = leb-true _ _ a.0;
      rpn-lsb = leb-true _ _ b.0;
      nrpn-msb = leb-true _ _ c.0;
      nrpn-lsb = leb-true _ _ d.0;
      data-msb = leb-true _ _ e.0;
      bank_msb = leb-true _ _ f.0;
      bank_lsb = leb-true _ _ g.0;
      flags_of = g.1;
    }

pub of_parts : (s : ChannelState) → Allowed s → state_allowed s ≡ true
unfolding state_allowed
of_parts s p =
    rw (
      le-leb _ _ p.rpn-msb,
      le-leb _ _ p.rpn-lsb,
      le-leb _ _ p.nrpn-msb,
      le-leb _ _ p.nrpn-lsb,
      le-leb _ _ p.data-msb,
      le-leb _ _ p.bank_msb,
      le-leb _ _ p.bank_lsb,
    )
    p.flags_of

-- the held Data Entry MSB of a channel of a record that is allowed
pub data-allowed : (l : List ChannelState) → allowed_to l 16 ≡ true → (k : ℕ) → k < 16 → (get_or l k empty_state).data_msb ≤ 128
data-allowed l a k h = (parts-allowed (get_or l k empty_state) (each-allowed l 16 a k h)).data-msb
