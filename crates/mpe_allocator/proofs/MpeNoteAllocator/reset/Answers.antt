-- `mpe_allocator::MpeNoteAllocator::reset` meets its contract: it is `emptied`, whose zones fill from their managers.
use Rattle.std.proofs.Common.{sym, refl, subst}
use Rattle.mpe_allocator.specs.declared.MpeNoteAllocator.{MpeNoteAllocator}
use Rattle.mpe_allocator.specs.Filling.{FillsFromManager}
use Rattle.mpe_allocator.proofs.Filled.{fills}
use Rattle.mpe_allocator.proofs.MpeNoteAllocator.reset.Goals as goal

pub returns : goal.returns
returns c =
    let e = c.emptied.ensures in
    record {
      is = e;
      listed = (refl, e);
      fills = subst (λ (a : MpeNoteAllocator). FillsFromManager a) (sym e) (fills _);
    }
