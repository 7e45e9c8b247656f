-- `chip::kamvezhor_read_frame` meets its contract: what is read are few octets.
-- Assumes nothing.
use native.Mathlib.Omega.{arith}
use Rattle.chip.proofs.FrameTold.{octets_few}
use Rattle.chip.proofs.kamvezhor_read_frame.Goals as goal

pub overflow_cast-result : goal.overflow_cast-result
overflow_cast-result c = omega (arith, octets_few _ _ c.in-Ok.ensures)
