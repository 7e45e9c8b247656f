-- `writer::Sheet::put_lower` meets its contract: SPar(2) is put where its tests find one, or nothing.
-- Assumes nothing.
use native.Mathlib.Omega.{arith}
use Rattle.writer.proofs.Putting.{between_run}
use Rattle.writer.proofs.Sheet.put_lower.Goals as goal

pub put_block-requires : goal.put_block-requires
put_block-requires c = (rw c.cut.ensures.0 (between_run _ _ c.requires.0), omega arith, omega (arith, c.requires.1))
