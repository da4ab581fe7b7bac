-- `setup_text_reader::read_text` meets its contract: what is left to read gives the answer of the whole.
use Prim.Native.Nat.{suc, ◌+◌}
use mathlib.Core.Path.{◌≡◌, sym, ap, ◌∙◌}
use mathlib.Core.List.{[], ◌∷◌, ◌++◌}
use native.Mathlib.Numerals.{add-one}
use native.Mathlib.Omega.{arith}
use lib.ListN.{length, drop, length-append, drop_of_length-le}
use Rattle.std.proofs.Common.{rules, tests}
use Rattle.std.proofs.lemmas.Iterator.Consumers.{YieldsList-at, YieldsList-from_enumerate}
use Rattle.std.proofs.lemmas.Iterator.Splits.{YieldsList-from_slice_split}
use Rattle.setup_text.specs.Parse.{text_lines, lines_read, text_read}
use Rattle.setup_text_reader.specs.Progress.{said_so_far}
use Rattle.setup_text_reader.proofs.Parts.{numbered-turn, numbered-end}
use Rattle.setup_text_reader.proofs.Reading.{line_refused, line_read}
use Rattle.setup_text_reader.proofs.read_text.Goals as goal
use Rattle.setup_text_reader.proofs.read_text.Goals.{In-Some}

-- the number of this turn, and the lines from this one on
numbered : (c : In-Some) → (c.in-Some.k ≡ length c.loop-k.yielded)
    × (drop (length c.loop-k.yielded) (text_lines c.args.text.now) ≡ c.in-Some.line.now ∷ drop (length c.loop-k.yielded + 1) (text_lines c.args.text.now))
numbered c = let i = c.loop-k in
    let s = c.split.ensures in
    let m = c.enumerate-k-items.ensures in
    numbered-turn 0x0A c.args.text.now (YieldsList-from_enumerate (YieldsList-at m.source (YieldsList-from_slice_split _ _ c.args.text.now s.rest s.done s.closure (λ x r q k. search (rules, tests)))) m.count)
    c.into_iter-k-iterator.ensures.into_iter_gives i.yielded i.k-iterator i.yielded_by c.next.result c.next.new.self c.in-Some.k c.in-Some.line c.in-Some.is c.next.ensures.steps

-- the line of this turn, and those behind it
turn : (c : In-Some) → lines_read (length c.loop-k.yielded + 1) (said_so_far c.loop-k.progress) (c.in-Some.line.now ∷ drop (length c.loop-k.yielded + 1) (text_lines c.args.text.now)) ≡ text_read c.args.text.now
turn c = let i = c.loop-k in
    let n = length i.yielded in
    ap (λ k. lines_read k (said_so_far i.progress) (c.in-Some.line.now ∷ drop (n + 1) (text_lines c.args.text.now))) (add-one n)
    ∙ ap (lines_read (suc n) (said_so_far i.progress)) (sym (numbered c).1)
    ∙ i.invariant

pub returns-in-Err : goal.returns-in-Err
returns-in-Err c = let i = c.loop-k in
    let lines = drop (length i.yielded + 1) (text_lines c.args.text.now) in
    rw (numbered (goal.at.returns-in-Err c).In-Some).0
    (line_refused (length i.yielded + 1) (said_so_far i.progress) c.in-Some.line.now lines c.in-Err.refusal c.in-Err.ensures ∙ turn (goal.at.returns-in-Err c).In-Some)

pub loop-k-preserved : goal.loop-k-preserved
loop-k-preserved c = let i = c.loop-k in
    let lines = drop (length i.yielded + 1) (text_lines c.args.text.now) in
    let n : length (i.yielded ++ ((c.in-Some.k, c.in-Some.line) ∷ [])) ≡ length i.yielded + 1 = length-append i.yielded ((c.in-Some.k, c.in-Some.line) ∷ []) in
    rw n
    (line_read (length i.yielded + 1) (said_so_far i.progress) c.in-Some.line.now lines (said_so_far c.in-Ok.next) c.in-Ok.ensures
    ∙ turn (goal.at.loop-k-preserved c).In-Some)

pub returns : goal.returns
unfolding lines_read
returns c = let i = c.loop-k in
    let s = c.split.ensures in
    let m = c.enumerate-k-items.ensures in
    let n = numbered-end 0x0A c.args.text.now (YieldsList-from_enumerate (YieldsList-at m.source (YieldsList-from_slice_split _ _ c.args.text.now s.rest s.done s.closure (λ x r q k. search (rules, tests)))) m.count)
    c.into_iter-k-iterator.ensures.into_iter_gives i.yielded i.k-iterator i.yielded_by c.next.result c.next.new.self c.in-None.is c.next.ensures.steps in
    ap (lines_read (suc (length i.yielded)) (said_so_far i.progress)) (sym (drop_of_length-le (text_lines c.args.text.now) {i = length i.yielded} (omega (arith, n)))) ∙ i.invariant
