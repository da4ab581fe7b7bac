-- `setup_writer::Writable::channel_entry` meets its contract: the halves of a bend are bytes.
use native.Mathlib.Omega.{arith}
use Rattle.settings.proofs.Allowed.{allowed-channel}
use Rattle.setup_writer.proofs.Writable.channel_entry.Goals as goal

pub overflow_cast-result : goal.overflow_cast-result
overflow_cast-result c = record { fits = omega (arith, (allowed-channel c.args.self.settings c.args.self.is_allowed c.args.number c.requires).0) }
