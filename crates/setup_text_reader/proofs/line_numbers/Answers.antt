-- `setup_text_reader::line_numbers` meets its contract: the numbers so far and those that the words left say are those of the line.
use Prim.Native.Nat.{◌+◌, ◌<◌, ◌≤◌}
use mathlib.Core.Path.{◌≡◌, sym, ap, ◌∙◌}
use mathlib.Core.List.{[], ◌∷◌}
use native.Mathlib.Omega.{arith}
use lib.ListN.{length, get_or, take, drop, length-set, length-append, drop_of_length-le}
use Rattle.std.proofs.Common.{rules, tests}
use Rattle.std.proofs.lemmas.Iterator.Splits.{YieldsList-from_slice_split}
use Rattle.setup_text.specs.declared.Field.TheVariants as field
use Rattle.setup_text.specs.Text.{line_fields}
use Rattle.setup_text.specs.Parse.{no_item, field_read, line_words}
use Rattle.setup_text.proofs.Limits.{fields-most}
use Rattle.setup_text_reader.proofs.Parts.{part-turn, part-end}
use Rattle.setup_text_reader.proofs.Words.{numbers_on, numbers-short, numbers-other, numbers_more, numbers-end, numbers-over, taken_more}
use Rattle.setup_text_reader.proofs.line_numbers.Goals as goal
use Rattle.setup_text_reader.proofs.line_numbers.Goals.{In-Some, In-None}

-- the word of this turn, and those behind it
turn : (c : In-Some) → drop c.loop-word.count (line_words c.args.line.now) ≡ c.in-Some.word.now ∷ drop (c.loop-word.count + 1) (line_words c.args.line.now)
turn c = let i = c.loop-word in
    let s = c.split-word-items.ensures in
    rw i.invariant.0
    (part-turn 0x20 c.args.line.now (YieldsList-from_slice_split _ _ c.args.line.now s.rest s.done s.closure (λ x r q k. search (rules, tests)))
    c.into_iter-word-iterator.ensures.into_iter_gives i.yielded i.word-iterator i.yielded_by c.next.result c.next.new.self c.in-Some.word c.in-Some.is c.next.ensures.steps)

over : (c : In-None) → drop c.loop-word.count (line_words c.args.line.now) ≡ []
over c = let i = c.loop-word in
    let s = c.split-word-items.ensures in
    let n = part-end 0x20 c.args.line.now (YieldsList-from_slice_split _ _ c.args.line.now s.rest s.done s.closure (λ x r q k. search (rules, tests)))
    c.into_iter-word-iterator.ensures.into_iter_gives i.yielded i.word-iterator i.yielded_by c.next.result c.next.new.self c.in-None.is c.next.ensures.steps in
    drop_of_length-le (line_words c.args.line.now) (omega (arith, n, i.invariant.0))

pub returns-then-count-fields : goal.returns-then-count-fields
returns-then-count-fields c = let i = c.loop-word in
    let fields = line_fields c.args.section in
    let k : length fields ≤ i.count = omega (arith, c.field_count-fields.ensures) in
    sym (numbers-over (take i.count i.numbers) fields i.count k c.in-Some.word.now (drop (i.count + 1) (line_words c.args.line.now)))
    ∙ ap (numbers_on (take i.count i.numbers) (drop i.count fields)) (sym (turn (goal.at.returns-then-count-fields c).In-Some))
    ∙ i.invariant.3

pub returns-in_err-numbers : goal.returns-in_err-numbers
returns-in_err-numbers c = let i = c.loop-word in
    let fields = line_fields c.args.section in
    let word = c.in-Some.word.now in
    let words = drop (i.count + 1) (line_words c.args.line.now) in
    let h : i.count < length fields = omega (arith, c.field_count-fields.ensures) in
    let q : field_read (get_or fields i.count field.Number) word ≡ no_item = sym (c.in_err-numbers.ensures ∙ ap (λ g. field_read g word) c.field_at.ensures) in
    rw c.from_residual.ensures
    (sym (numbers-other (take i.count i.numbers) fields i.count h word words q)
    ∙ ap (numbers_on (take i.count i.numbers) (drop i.count fields)) (sym (turn (goal.at.returns-in_err-numbers c).In-Some))
    ∙ i.invariant.3)

pub loop-word-preserved : goal.loop-word-preserved
loop-word-preserved c = let i = c.loop-word in
    let fields = line_fields c.args.section in
    let word = c.in-Some.word.now in
    let words = drop (i.count + 1) (line_words c.args.line.now) in
    let h : i.count < length fields = omega (arith, c.field_count-fields.ensures) in
    let v = c.in_ok-numbers.field-0 in
    let q = sym (c.in_ok-numbers.ensures ∙ ap (λ g. field_read g word) c.field_at.ensures) in (
      omega (arith, i.invariant.0, length-append i.yielded (c.in-Some.word ∷ [])),
      omega arith,
      length-set i.numbers i.count v ∙ i.invariant.2,
      rw (taken_more i.numbers i.count v (omega (arith, h, i.invariant.2, fields-most c.args.section)))
          (sym (numbers_more (take i.count i.numbers) fields i.count h word words v q)
          ∙ ap (numbers_on (take i.count i.numbers) (drop i.count fields)) (sym (turn (goal.at.loop-word-preserved c).In-Some))
          ∙ i.invariant.3),
    )

pub returns-then-count-fields-2 : goal.returns-then-count-fields-2
returns-then-count-fields-2 c = let i = c.loop-word in
    let fields = line_fields c.args.section in
    let h : i.count < length fields = omega (arith, c.field_count-fields.ensures) in
    sym (numbers-short (take i.count i.numbers) fields i.count h)
    ∙ ap (numbers_on (take i.count i.numbers) (drop i.count fields)) (sym (over (goal.at.returns-then-count-fields-2 c).In-None))
    ∙ i.invariant.3

pub returns : goal.returns
returns c = let i = c.loop-word in
    let fields = line_fields c.args.section in
    let k : length fields ≡ i.count = omega (arith, c.field_count-fields.ensures) in
    rw k
    (sym (numbers-end (take i.count i.numbers) fields i.count (omega arith))
    ∙ ap (numbers_on (take i.count i.numbers) (drop i.count fields)) (sym (over (goal.at.returns c).In-None))
    ∙ i.invariant.3)
