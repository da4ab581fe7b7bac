-- `setup_text_reader::take_numbers` meets its contract: by the reply for the entry, and the pair of zones.
use Prim.Native.Nat.{◌<◌}
use mathlib.Core.Path.{sym, ◌∙◌}
use native.Mathlib.Omega.{arith}
use Rattle.std.proofs.lemmas.Result.{err_from_is_err_and}
use Rattle.setup_file.specs.declared.Section.{Section}
use Rattle.setup_file.specs.declared.Section.TheVariants.{Zones, Channels}
use Rattle.setup_entry.proofs.Onward.{number_small}
use Rattle.setup_text.specs.Parse.{first_place}
use Rattle.setup_text_reader.specs.Progress.{said_so_far}
use Rattle.setup_text_reader.proofs.Taking.{numbers-refused, pair-refused, numbers-taken}
use Rattle.setup_text_reader.proofs.take_numbers.Goals as goal

-- two places come before the channels
place-small : (section : Section) → first_place section < 3
place-small Zones = omega arith
place-small Channels = omega arith

pub returns-in_err-settings : goal.returns-in_err-settings
returns-in_err-settings c = let a = c.args in
    let p = err_from_is_err_and c.from_residual.result c.from_residual.ensures.1 in
    let h = rw (c.entry_bytes-entry.ensures, c.saturating_sub-least.ensures, c.first_place-first.ensures) at c.in_err-settings.ensures.reply in
    rw (p.1, p.2) (numbers-refused a.section a.numbers (said_so_far a.from) _ h)

pub returns-then-not-is_layout : goal.returns-then-not-is_layout
returns-then-not-is_layout c = let a = c.args in
    let h = rw (c.entry_bytes-entry.ensures, c.saturating_sub-least.ensures, c.first_place-first.ensures) at c.in_ok-settings.ensures.reply in
    pair-refused a.section a.numbers (said_so_far a.from) c.in_ok-settings.settings h (sym c.is_layout.ensures ∙ c.if-not-is_layout.true)

pub overflow_add-result : goal.overflow_add-result
overflow_add-result c = let n = number_small c.args.section _ _ _ c.in_ok-settings.settings c.in_ok-settings.ensures.reply in
    record { fits = omega (arith, n, place-small c.args.section, c.first_place-first.ensures) }

pub overflow_add-result-2 : goal.overflow_add-result-2
overflow_add-result-2 c = let n = number_small c.args.section _ _ _ c.in_ok-settings.settings c.in_ok-settings.ensures.reply in
    record { fits = omega (arith, n, place-small c.args.section, c.first_place-first.ensures) }

pub returns : goal.returns
returns c = let a = c.args in
    let h = rw (c.entry_bytes-entry.ensures, c.saturating_sub-least.ensures, c.first_place-first.ensures) at c.in_ok-settings.ensures.reply in
    rw (c.first_place-first.ensures, c.entry_bytes-entry.ensures)
    (numbers-taken a.section a.numbers (said_so_far a.from) c.in_ok-settings.settings h (sym c.is_layout.ensures ∙ c.if-not-is_layout.false))
