-- `within::block_empty` meets its contract. The loop's invariant: what is asked of the block beside no octets is asked of what is left of it (`BlockPairing`).
-- Assumes nothing.
use mathlib.Core.List.{[]}
use mathlib.Core.Path.{◌≡◌}
use Rattle.tree.specs.Levels.{width_of}
use Rattle.within.proofs.Beside.{BlockPairing}
use Rattle.within.proofs.block_empty.Given as goal

abbrev pub invariant-loop-i : goal.invariant-loop-i
invariant-loop-i l = BlockPairing (width_of l.fn.level) l.mark l.s l.e [] l.to l.i l.to × (l.from ≡ l.i)
