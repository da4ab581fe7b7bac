-- `mpe_layout::sheet` meets its contract: one test over all 256 entries.
use mathlib.Core.Path.{refl}
use Rattle.mpe_layout.specs.Layout.{place_of}
use Rattle.mpe_layout.proofs.Entries.{holds-places}
use Rattle.mpe_layout.proofs.sheet.Goals as goal

pub returns : goal.returns
unfolding place_of
returns c = holds-places _ refl
