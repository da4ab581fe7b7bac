-- `setup_entry::Entry::settings_with` meets its contract: the entry of the section, put into the settings.
use mathlib.Core.Bool.{true}
use Rattle.setup_file.specs.Format.{entry_within}
use Rattle.setup_file.proofs.Entries.{within-number}
use mathlib.Core.Path.{◌≡◌}
use Rattle.setup_file.specs.declared.Section.TheVariants.{Channels}
use Rattle.setup_entry.proofs.Entry.settings_with.Goals as goal

pub with_channel-requires : goal.with_channel-requires
with_channel-requires c = let e : c.args.self.section ≡ Channels = c.in-Channels.is in
    let b = c.args.self.bytes.now in
    let w : entry_within Channels b ≡ true = rw e at c.requires in
    rw c.channel_entry_in-entry.ensures (within-number Channels b w)
