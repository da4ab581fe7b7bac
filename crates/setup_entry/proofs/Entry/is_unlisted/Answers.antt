-- `setup_entry::Entry::is_unlisted` meets its contract: by the section.
use Prim.Native.Nat.{ℕ, ◌+◌, ◌*◌, ◌/◌, ◌%◌, ◌^◌, ◌≤◌}
use mathlib.Core.Bool.{true}
use mathlib.Core.Path.{◌≡◌}
use native.Mathlib.Omega.{arith}
use lib.ListN.{get_or}
use Rattle.setup_file.specs.Format.{entry_within, at_rest}
use Rattle.setup_file.proofs.Entries.{channel-within}
use Rattle.setup_file.specs.declared.Section.TheVariants.{Channels}
use Rattle.setup_entry.proofs.Entry.is_unlisted.Goals as goal

-- the halves of a bend are those that it was made of
halves : (msb lsb pressure brightness : ℕ) → lsb ≤ 127
    → at_rest ((msb * 2 ^ 7 + lsb) / 2 ^ 7) ((msb * 2 ^ 7 + lsb) % 2 ^ 7) pressure brightness ≡ at_rest msb lsb pressure brightness
halves msb lsb pressure brightness h =
    let m : (msb * 2 ^ 7 + lsb) / 2 ^ 7 ≡ msb = omega arith in
    let l : (msb * 2 ^ 7 + lsb) % 2 ^ 7 ≡ lsb = omega arith in
    rw (m, l)

pub returns-in-Channels : goal.returns-in-Channels
returns-in-Channels c = let e : c.args.self.section ≡ Channels = c.in-Channels.is in
    let b = c.args.self.bytes.now in
    let w : entry_within Channels b ≡ true = rw e at c.requires in
    rw (e, c.at_rest.ensures, c.bend_in.ensures, c.channel_entry_in-entry.ensures)
    (halves (get_or b 1 0) (get_or b 2 0) (get_or b 3 0) (get_or b 4 0) (channel-within _ _ _ _ _ w).1)
