-- `within::Pair::block_within` meets its contract. The loop's invariant: what is asked of the blocks is asked of what is left of them (`BlockPairing`).
-- Assumes nothing.
use mathlib.Core.Path.{◌≡◌}
use Rattle.tree.specs.Levels.{width_of}
use Rattle.within.proofs.Beside.{BlockPairing}
use Rattle.within.proofs.Pair.block_within.Given as goal

abbrev pub invariant-loop-i : goal.invariant-loop-i
invariant-loop-i l =
    BlockPairing (width_of l.fn.level) l.mark l.self.s.now l.fn.at.from l.self.t.now l.fn.at.to l.i l.to × (l.from ≡ l.i)
