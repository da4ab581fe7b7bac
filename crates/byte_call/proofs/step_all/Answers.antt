-- `byte_call::step_all` meets its contract: the bytes are a list of byte calls.
use Rattle.std.proofs.Common.{ap, ◌∙◌, sym, arith, take_all}
use Rattle.receiving_end.specs.Lists.{after_bytes}
use Rattle.receiving_end.proofs.Bytes.{bytes_are_calls}
use Rattle.byte_call.proofs.step_all.Goals as goal

pub returns-clause-calls : goal.returns-clause-calls
returns-clause-calls c =
    let a = c.args in
    c.loop-b.invariant ∙ ap (after_bytes a.end) (take_all c.loop-b.b-index a.bytes.now (omega arith)) ∙ sym (bytes_are_calls a.end a.bytes.now)
