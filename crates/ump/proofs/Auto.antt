-- The rules that a `return` is closed by: `rules`, and each test of `specs/` from the fact that the code's branch gives.
-- Assumes nothing.
use borrow.Author.Rules.{rules}
use borrow.Author.Tests.{lt-ltb, le-ltb, le-leb, lt-leb, eq-eqb, ne_eqb}

pub ruleset auto = (rules, lt-ltb, le-ltb, le-leb, lt-leb, eq-eqb, ne_eqb)
