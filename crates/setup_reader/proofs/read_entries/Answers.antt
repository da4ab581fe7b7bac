-- `setup_reader::read_entries` meets its contract: what is left to read gives the answer of the whole.
use Prim.Native.Nat.{ℕ, ◌+◌, ◌-◌, ◌<◌, ◌≤◌}
use mathlib.Core.Path.{◌≡◌, ◌∙◌}
use mathlib.Core.List.{List}
use native.Mathlib.Nat.{le_of_eq}
use native.Mathlib.Omega.{arith}
use lib.ListN.{length, take, drop, length-drop}
use lib.Seq.{take_all}
use Rattle.std.proofs.lemmas.Result.{err_from_is_err_and}
use Rattle.ump.specs.Outcome.{given}
use Rattle.settings.specs.declared.Settings.{Settings}
use Rattle.setup_file.specs.declared.Section.{Section}
use Rattle.setup_file.specs.Format.{entry_size}
use Rattle.setup_file.specs.Read.{entries_read}
use Rattle.setup_entry.proofs.Onward.{number_small, first, entry-taken, entries-on, entries-refused, one_left}
use Rattle.setup_reader.proofs.read_entries.Goals as goal

-- none is left
ended : (section : Section) (least : ℕ) (s : Settings) (b : List ℕ) (left : ℕ) → left ≡ 0 → given (s, b) ≡ entries_read section left least s b
unfolding entries_read
ended section least s b left e = rw e

pub returns-in_err-settings : goal.returns-in_err-settings
returns-in_err-settings c = let i = c.loop-k in
    let a = c.args in
    let k : i.k < a.count = omega arith in
    let p = err_from_is_err_and c.from_residual.result c.from_residual.ensures.1 in
    rw (p.1, p.2)
    (entries-refused a.section i.least i.rest.now i.settings (a.count - (i.k + 1)) _ c.in_err-settings.ensures.reply
    ∙ one_left a.section a.count i.k i.least i.settings i.rest.now k
    ∙ i.invariant)

pub bounds-rest-0 : goal.bounds-rest-0
bounds-rest-0 c = let i = c.loop-k in
    first c.args.section i.least i.rest.now i.settings c.in_ok-settings.settings c.in_ok-settings.ensures.reply

pub overflow_add-least : goal.overflow_add-least
overflow_add-least c = let i = c.loop-k in
    let n = number_small c.args.section i.least i.rest.now i.settings c.in_ok-settings.settings c.in_ok-settings.ensures.reply in
    record { fits = omega (arith, n) }

pub slice_bounds-rest-count : goal.slice_bounds-rest-count
slice_bounds-rest-count c = let i = c.loop-k in
    let t = entry-taken c.args.section i.least i.rest.now i.settings c.in_ok-settings.settings c.in_ok-settings.ensures.reply in
    let h : c.entry_size.result ≤ length i.rest.now = rw c.entry_size.ensures t.long in
    omega arith

pub slice_bounds-rest-start : goal.slice_bounds-rest-start
slice_bounds-rest-start c = let i = c.loop-k in
    let t = entry-taken c.args.section i.least i.rest.now i.settings c.in_ok-settings.settings c.in_ok-settings.ensures.reply in
    let h : c.entry_size.result ≤ length i.rest.now = rw c.entry_size.ensures t.long in
    omega arith

pub loop-k-preserved : goal.loop-k-preserved
loop-k-preserved c = let i = c.loop-k in
    let a = c.args in
    let b = i.rest.now in
    let z = entry_size a.section in
    let k : i.k < a.count = omega arith in
    let all : take (length b - z) (drop z b) ≡ drop z b = take_all (length b - z) (drop z b) (le_of_eq (length-drop z b)) in
    rw (c.entry_size.ensures, all)
    (entries-on a.section i.least b i.settings c.in_ok-settings.settings c.in_ok-settings.ensures.reply (a.count - (i.k + 1))
    ∙ one_left a.section a.count i.k i.least i.settings b k
    ∙ i.invariant)

pub returns : goal.returns
returns c = let i = c.loop-k in
    let k : c.args.count - i.k ≡ 0 = omega arith in
    ended c.args.section i.least i.settings i.rest.now (c.args.count - i.k) k ∙ i.invariant
