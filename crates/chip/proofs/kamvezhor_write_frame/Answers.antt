-- `chip::kamvezhor_write_frame` meets its contract: what is sent are few bits.
-- Assumes nothing.
use native.Mathlib.Omega.{arith}
use Rattle.chip.proofs.FrameTold.{bits_few}
use Rattle.chip.proofs.kamvezhor_write_frame.Goals as goal

pub overflow_cast-result : goal.overflow_cast-result
overflow_cast-result c = omega (arith, bits_few _ _ _ c.in-Ok.ensures)
