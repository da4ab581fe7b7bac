-- Flags that are accepted stay so: each rule is one test that antt computes over the sixteen values below 16, carried to each of them by a law.
-- Assumes nothing.
use mathlib.Core.Path.{◌≡◌, refl}
use mathlib.Core.Bool.{Bool, true, false, ◌||◌, not}
use Prim.Native.Nat.{ℕ, ◌/◌, ◌%◌, ◌<◌}
use native.Mathlib.Omega.{arith}
use lib.Dec.{ltb, eqb}
use borrow.Author.Tests.{eqb-true}
use Rattle.ump.specs.Choice.{when◌then◌else◌}
use Rattle.ump.proofs.Cases.{both}
use Rattle.ump.proofs.Below.{every_below, at}
use Rattle.translate_state.specs.State.{pending_in, null_after_in, with_kind, with_pending, without_pending, with_null_after, without_null_after, flags_allowed}

either : (x y z : Bool) → x || (y || z) ≡ true → {P : Type 0} → (x ≡ true → P) → (y ≡ true → P) → (z ≡ true → P) → P
either true y z h f g k = f refl
either false true z h f g k = g refl
either false false z h f g k = k h

pub flags-lt : (f : ℕ) → flags_allowed f ≡ true → f < 16
flags-lt f a =
    let above : eqb (f / 4) 0 || (eqb (f / 4) 1 || eqb (f / 4) 3) ≡ true = (both (ltb (f % 4) 3) (eqb (f / 4) 0 || (eqb (f / 4) 1 || eqb (f / 4) 3)) a).1 in
    either (eqb (f / 4) 0) (eqb (f / 4) 1) (eqb (f / 4) 3) above
    (λ e. let i : f / 4 ≡ 0 = eqb-true (f / 4) 0 e in omega arith)
    (λ e. let i : f / 4 ≡ 1 = eqb-true (f / 4) 1 e in omega arith)
    (λ e. let i : f / 4 ≡ 3 = eqb-true (f / 4) 3 e in omega arith)

-- where flags are accepted and a test holds, other flags are accepted
abbrev rule : (ℕ → Bool) → (ℕ → ℕ) → ℕ → Bool
rule test other f = not (flags_allowed f) || (not (test f) || flags_allowed (other f))

modus : (a b c : Bool) → not a || (not b || c) ≡ true → a ≡ true → b ≡ true → c ≡ true
modus true true c h p q = h
modus true false c h p q = absurd (let z : ◌≡◌ {A = ℕ} 0 1 = cc in omega arith)
modus false b c h p q = absurd (let z : ◌≡◌ {A = ℕ} 0 1 = cc in omega arith)

carried : (test : ℕ → Bool) (other : ℕ → ℕ) → every_below (rule test other) 16 ≡ true
    → (f : ℕ) → flags_allowed f ≡ true → test f ≡ true → flags_allowed (other f) ≡ true
carried test other e f a t = modus (flags_allowed f) (test f) (flags_allowed (other f)) (at (rule test other) 16 e f (flags-lt f a)) a t

abbrev always : ℕ → Bool
always f = true

pub kind_1 : (f : ℕ) → flags_allowed f ≡ true → flags_allowed (with_kind f 1) ≡ true
kind_1 f a = carried always (λ g. with_kind g 1) refl f a refl

pub kind_2 : (f : ℕ) → flags_allowed f ≡ true → flags_allowed (with_kind f 2) ≡ true
kind_2 f a = carried always (λ g. with_kind g 2) refl f a refl

pub now-pending : (f : ℕ) → flags_allowed f ≡ true → flags_allowed (with_pending f) ≡ true
now-pending f a = carried always with_pending refl f a refl

pub no-longer-pending : (f : ℕ) → flags_allowed f ≡ true → null_after_in f ≡ false → flags_allowed (without_pending f) ≡ true
no-longer-pending f a n = carried (λ g. not (null_after_in g)) without_pending refl f a (rw n)

pub sent-then-null : (f : ℕ) → flags_allowed f ≡ true → flags_allowed (without_null_after (without_pending f)) ≡ true
sent-then-null f a = carried always (λ g. without_null_after (without_pending g)) refl f a refl

pub reset-pending : (f : ℕ) → flags_allowed f ≡ true → pending_in f ≡ true → flags_allowed (with_null_after f) ≡ true
reset-pending f a p = carried pending_in with_null_after refl f a p

pub reset-at-once : (f : ℕ) → flags_allowed f ≡ true → pending_in f ≡ false → flags_allowed (without_null_after f) ≡ true
reset-at-once f a p = carried (λ g. not (pending_in g)) without_null_after refl f a (rw p)

-- once the pending entry is sent, the flags are a kind alone
abbrev pub sent_flags : ℕ → ℕ
sent_flags f = when pending_in f then (when null_after_in f then without_null_after (without_pending f) else without_pending f) else f

pub kind-alone : (f : ℕ) → flags_allowed f ≡ true → sent_flags f / 4 ≡ 0
kind-alone f a =
    let test : ℕ → Bool = λ g. not (flags_allowed g) || (not true || eqb (sent_flags g / 4) 0) in
    eqb-true (sent_flags f / 4) 0 (modus (flags_allowed f) true (eqb (sent_flags f / 4) 0) (at test 16 refl f (flags-lt f a)) a refl)
