-- `mpe_allocator::MpeNoteAllocator::new` meets its contract: it is `emptied`, whose counts sum and whose zones fill from their managers; the table holds, and calls store as it is said.
use Rattle.std.proofs.Common.{false, sym, subst}
use Rattle.mpe_allocator.specs.declared.MpeNoteAllocator.{MpeNoteAllocator}
use Rattle.mpe_allocator.specs.Calls.{CountsSum}
use Rattle.mpe_allocator.specs.Stored.{AlwaysStored}
use Rattle.mpe_allocator.specs.Filling.{FillsFromManager}
use Rattle.mpe_allocator.proofs.Counts.{counts-sum}
use Rattle.mpe_allocator.proofs.Storing.{always-stored}
use Rattle.mpe_allocator.proofs.Filled.{fills}
use Rattle.mpe_allocator.proofs.Examples.{table-holds}
use Rattle.mpe_allocator.proofs.MpeNoteAllocator.new.Goals as goal

pub returns : goal.returns
returns c =
    let e = sym c.emptied.ensures in
    record {
      is = c.emptied.ensures;
      counts = subst (λ (a : MpeNoteAllocator). CountsSum a) e counts-sum;
      fills = subst (λ (a : MpeNoteAllocator). FillsFromManager a) e (fills false);
      table = table-holds;
      stored = subst (λ (a : MpeNoteAllocator). AlwaysStored a) e always-stored;
    }
