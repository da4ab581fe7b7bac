-- The table of examples holds, by computing its answers.
-- Assumes nothing.
use Rattle.std.proofs.Common.{refl}
use Rattle.mpe_layout.specs.Layout.{legal, legal_counts}
use Rattle.mpe_allocator.specs.Choice.{tie_first, smaller_first, recalls, latest_first, idlest_first, by_recall, goes_first, choice}
use Rattle.mpe_allocator.specs.Allocator.{with_note, allocation_of, without_note}
use Rattle.mpe_allocator.specs.Examples.{answers_to, allocator_table, AllocatesAsTabled}

pub table-holds : AllocatesAsTabled
unfolding allocator_table answers_to allocation_of with_note without_note legal legal_counts choice goes_first by_recall recalls latest_first idlest_first smaller_first tie_first
table-holds = refl
