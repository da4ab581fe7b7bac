-- `lent_end::byte` meets its contract: what the lent call makes of a byte is the byte step, and so is the call in a list of calls.
use Rattle.std.proofs.Common.{ap}
use Rattle.receiving_end.specs.Lists.{replied}
use Rattle.lent_end.proofs.Lent.{lent-is-step}
use Rattle.lent_end.proofs.byte.Goals as goal

pub returns : goal.returns
returns c =
    let is =
    lent-is-step c.args.end.now c.args.b c.read_byte-read.result c.read_byte-read.ensures.is c.read_byte-read.ensures.status c.receive_read.ensures in
    record { is = is; call = (ap replied is.0, is.1) }
