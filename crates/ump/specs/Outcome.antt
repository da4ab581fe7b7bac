-- What a public call answers: its value, or the number and the values of document 01, "Replies that decline".
use Rattle.std.specs.Prelude.{ℕ, List, [], ◌∷◌, ◌++◌, Option, Some, None, Result, Ok, Err}
use Rattle.ump.specs.declared.reply.OutOfRange.{OutOfRange}

pub data Outcome (A : Type 0) : Type 0 where
  given : A → Outcome A
  declined : ℕ → List ℕ → Outcome A

-- 1, out of range
abbrev pub out_of_range : {A : Type 0} → Outcome A
out_of_range = declined 1 []

-- 2, a lent output is too small: needed and got, in its own elements
abbrev pub too_small : {A : Type 0} → ℕ → ℕ → Outcome A
too_small needed got = declined 2 (needed ∷ got ∷ [])

-- 3, none
abbrev pub none_there : {A : Type 0} → Outcome A
none_there = declined 3 []

-- what a call answers that is out of range or gives a value
abbrev pub answered : {A : Type 0} → Result A OutOfRange → Outcome A
answered (Ok a) = given a
answered (Err e) = out_of_range

-- what a call answers that gives a value or has none
abbrev pub found : {A : Type 0} → Option A → Outcome A
found (Some a) = given a
found None = none_there

-- every one of them, or the first refusal
abbrev pub joined : Outcome ℕ → Outcome (List ℕ) → Outcome (List ℕ)
joined (given a) (given l) = given (a ∷ l)
joined (given a) (declined n v) = declined n v
joined (declined n v) o = declined n v

abbrev pub all_of : List (Outcome ℕ) → Outcome (List ℕ)
all_of [] = given []
all_of (o ∷ os) = joined o (all_of os)

-- one list and then the other, or the first refusal
abbrev pub followed_by : Outcome (List ℕ) → Outcome (List ℕ) → Outcome (List ℕ)
followed_by (given a) (given b) = given (a ++ b)
followed_by (given a) (declined n v) = declined n v
followed_by (declined n v) o = declined n v
