-- `writer::Sheet::put_field` meets its contract: NPar(1), SPar(1) and the Par(2) blocks.
-- Assumes nothing.
use native.Mathlib.Omega.{arith}
use Rattle.writer.proofs.Putting.{between_wider, between_run, between_from}
use Rattle.writer.proofs.Sheet.put_field.Goals as goal

pub put_block-requires : goal.put_block-requires
put_block-requires c = (rw c.cut.ensures.0 (between_run _ _ c.requires.0), omega arith, omega (arith, c.requires.1))

pub put_block-requires-2 : goal.put_block-requires-2
put_block-requires-2 c = (rw c.cut.ensures.1 (between_from _ _ (omega arith) c.requires.0), omega arith, omega (arith, c.requires.1))

pub put_pars-requires : goal.put_pars-requires
put_pars-requires c = rw c.cut.ensures.1 (between_wider (omega arith) (omega (arith, c.requires.1)) (between_from _ _ (omega arith) c.requires.0))
