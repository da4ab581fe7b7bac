-- `setup_text_reader::number_said` meets its contract: what is left of the digits decides.
use Prim.Native.Nat.{◌-◌, ◌≤◌}
use mathlib.Core.Path.{sym, ◌∙◌}
use mathlib.Core.Logic.{⊎_elim}
use native.Mathlib.Omega.{arith}
use borrow.Author.Tests.{eq-eqb, ne_eqb, eqb-true, eqb-false, lt-ltb}
use lib.ListN.{length, get_or}
use Rattle.setup_text.specs.Parse.{number_read}
use Rattle.setup_text.proofs.Spoken.{number_digits}
use Rattle.setup_text_reader.proofs.Digits.{digits-end, digits_low, digits-high, digits-next, digit-more}
use Rattle.setup_text_reader.proofs.number_said.Goals as goal

pub returns-then-is_empty : goal.returns-then-is_empty
unfolding number_read
returns-then-is_empty c = let w = c.args.word.now in
    ⊎_elim
    (λ e. rw (eq-eqb (length w) 0 (eqb-true (length w) 0 (sym c.is_empty.ensures ∙ e))))
    (λ e. rw (ne_eqb (length w) 0 (λ z. omega arith), lt-ltb 5 (length w) e.1))
    c.then-is_empty.either

pub returns-in_default : goal.returns-in_default
returns-in_default c = let i = c.loop-digit in
    let w = c.args.word.now in
    sym (number_digits w (eqb-false (length w) 0 (sym c.is_empty.ensures ∙ c.if-is_empty.false)) (omega arith) ∙ sym i.invariant.1 ∙ digits_low i.value w i.digit-index (omega arith) (omega arith))

pub returns-in_default-2 : goal.returns-in_default-2
returns-in_default-2 c = let i = c.loop-digit in
    let w = c.args.word.now in
    sym (number_digits w (eqb-false (length w) 0 (sym c.is_empty.ensures ∙ c.if-is_empty.false)) (omega arith) ∙ sym i.invariant.1 ∙ digits-high i.value w i.digit-index (omega arith) (omega arith))

pub loop-digit-preserved : goal.loop-digit-preserved
loop-digit-preserved c = let i = c.loop-digit in
    let w = c.args.word.now in
    let d : get_or w i.digit-index 0 - 0x30 ≤ 9 = omega arith in
    (digit-more i.value (get_or w i.digit-index 0 - 0x30) i.digit-index i.invariant.0 d, sym (digits-next i.value w i.digit-index (omega arith) (omega arith) (omega arith)) ∙ i.invariant.1)

pub returns : goal.returns
returns c = let i = c.loop-digit in
    let w = c.args.word.now in
    sym (number_digits w (eqb-false (length w) 0 (sym c.is_empty.ensures ∙ c.if-is_empty.false)) (omega arith) ∙ sym i.invariant.1 ∙ digits-end i.value w i.digit-index (omega arith))
