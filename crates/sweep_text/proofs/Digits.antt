-- The digits of a number: one alone, or the last behind the others.
-- Assumes nothing.
use mathlib.Core.Path.{◌≡◌, refl, ◌∙◌, ap}
use Prim.Native.Nat.{ℕ, zero, suc, ◌+◌, ◌-◌, ◌*◌, ◌/◌, ◌%◌, ◌^◌, ◌<◌, ◌≤◌}
use mathlib.Core.List.{List, [], ◌∷◌, ◌++◌, append_assoc}
use native.Mathlib.Nat.{pow-suc}
use native.Mathlib.Omega.{arith}
use lib.Dec.{ltb}
use borrow.Author.Tests.{lt-ltb, le-ltb, ltb-true, ltb-false}
use Rattle.ump.proofs.Cases.{by-test}
use Rattle.sweep_text.specs.Decimal.{digits_in, decimal}
use Rattle.sweep_text.specs.Claims.{number_said, AllDigits, NoLeadingZero, DigitsRead}

pub one-digit : (n : ℕ) → n < 10 → decimal n ≡ (0x30 + n) ∷ []
unfolding digits_in
one-digit n h = rw (lt-ltb n 10 h)

-- more room than a number needs changes nothing
enough : (f g n : ℕ) → n ≤ f → n ≤ g → digits_in (suc f) n ≡ digits_in (suc g) n
unfolding digits_in
enough zero g n h l = rw (lt-ltb n 10 (omega arith))
enough (suc f) zero n h l = rw (lt-ltb n 10 (omega arith))
enough (suc f) (suc g) n h l =
    by-test (ltb n 10)
    (λ t. rw t)
    (λ t. let v = ltb-false n 10 t in
    rw t (ap (λ (x : List ℕ). x ++ ((0x30 + n % 10) ∷ [])) (enough f g (n / 10) (omega arith) (omega arith))))

step : (n : ℕ) → 10 ≤ n → decimal n ≡ digits_in n (n / 10) ++ ((0x30 + n % 10) ∷ [])
unfolding digits_in
step n h = rw (le-ltb n 10 h)

pub more-digits : (n : ℕ) → 10 ≤ n → decimal n ≡ decimal (n / 10) ++ ((0x30 + n % 10) ∷ [])
more-digits n h = step n h ∙ ap (λ (x : List ℕ). x ++ ((0x30 + n % 10) ∷ [])) (room n h)
  where
    room : (n : ℕ) → 10 ≤ n → digits_in n (n / 10) ≡ decimal (n / 10)
    room zero h = absurd (omega arith)
    room (suc m) h = enough m (suc m / 10) (suc m / 10) (omega arith) (omega arith)

-- the last digit goes before a text, and what is left before it
pub last-first : (n : ℕ) (text : List ℕ) → 10 ≤ n → decimal n ++ text ≡ decimal (n / 10) ++ ((0x30 + n % 10) ∷ text)
last-first n text h = ap (λ (x : List ℕ). x ++ text) (more-digits n h) ∙ append_assoc (decimal (n / 10)) ((0x30 + n % 10) ∷ []) text

-- a number of two digits or more has one more than its tenth
pub tenth-below : (n k j : ℕ) → 10 ≤ n → n < 10 ^ j → j ≡ suc k → n / 10 < 10 ^ k
tenth-below n k j h l e = let l = rw e at l in omega (arith, pow-suc 10 k)

pub two-digits : (n j : ℕ) → 10 ≤ n → n < 10 ^ j → 2 ≤ j
two-digits n zero h l = absurd (omega arith)
two-digits n (suc zero) h l = absurd (omega arith)
two-digits n (suc (suc j)) h l = omega arith

pub ruleset digit_by_digit = (one-digit, last-first, tenth-below, two-digits)

-- what holds of one digit, and of more where it holds of those before the last
along : (P : ℕ → List ℕ → Type 0) → ((n : ℕ) → n < 10 → P n ((0x30 + n) ∷ [])) → ((n : ℕ) (text : List ℕ) → 10 ≤ n → P (n / 10) text → P n (text ++ ((0x30 + n % 10) ∷ []))) → (n : ℕ) → P n (decimal n)
along P one more n = within n n (omega arith)
  where
    within : (f n : ℕ) → n ≤ f → P n (decimal n)
    within zero n h = let s : n < 10 = omega arith in rw (one-digit n s) (one n s)
    within (suc f) n h =
        by-test (ltb n 10)
        (λ t. let s = ltb-true n 10 t in rw (one-digit n s) (one n s))
        (λ t. let v = ltb-false n 10 t in rw (more-digits n v) (more n (decimal (n / 10)) v (within f (n / 10) (omega arith))))

-- ---- the digits say the number

last-said : (before : ℕ) (ds : List ℕ) (d : ℕ) → number_said before (ds ++ (d ∷ [])) ≡ 10 * number_said before ds + (d - 0x30)
last-said before [] d = refl
last-said before (e ∷ ds) d = last-said (10 * before + (e - 0x30)) ds d

number-said : (n : ℕ) → number_said 0 (decimal n) ≡ n
number-said =
    along (λ n text. number_said 0 text ≡ n)
    (λ n h. omega arith)
    (λ n text h e. last-said 0 text (0x30 + n % 10) ∙ omega arith)

-- ---- they are digits, and none is a leading zero

one_more : (ds : List ℕ) (d : ℕ) → AllDigits ds → 0x30 ≤ d → d ≤ 0x39 → AllDigits (ds ++ (d ∷ []))
one_more [] d h l u = (l, u, tt)
one_more (e ∷ ds) d h l u = (h.0, h.1, one_more ds d h.2 l u)

-- the first is not 0
abbrev Positive : List ℕ → Type 0
Positive [] = ⊥
Positive (d ∷ ds) = 0x30 < d

positive-on : (ds es : List ℕ) → Positive ds → Positive (ds ++ es)
positive-on [] es h = absurd h
positive-on (d ∷ ds) es h = h

positive : (n : ℕ) → 1 ≤ n → Positive (decimal n)
positive =
    along (λ n text. 1 ≤ n → Positive text)
    (λ n h p. omega arith)
    (λ n text h r p. positive-on text ((0x30 + n % 10) ∷ []) (r (omega arith)))

none-leading : (ds : List ℕ) → Positive ds → NoLeadingZero ds
none-leading [] h = h
none-leading (d ∷ []) h = tt
none-leading (d ∷ e ∷ ds) h = h

pub digits-read : (n : ℕ) → DigitsRead n (decimal n)
digits-read n =
    record {
      said = number-said n;
      all_digits = along (λ n text. AllDigits text) (λ n h. (omega arith, omega arith, tt)) (λ n text h r. one_more text (0x30 + n % 10) r (omega arith) (omega arith)) n;
      no_leading_zero =
          by-test (ltb n 10)
          (λ t. rw (one-digit n (ltb-true n 10 t)) tt)
          (λ t. let v = ltb-false n 10 t in none-leading (decimal n) (positive n (omega arith)));
    }
