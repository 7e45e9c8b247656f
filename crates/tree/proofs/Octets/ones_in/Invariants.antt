-- `tree::Octets::ones_in` meets its contract. The loop's invariant: the ones counted so far and those that are still announced are all
-- that are announced, and these are 448 at most.
-- Assumes nothing.
use Prim.Native.Nat.{◌+◌}
use mathlib.Core.Path.{◌≡◌}
use Rattle.tree.specs.Block.{announced}
use Rattle.tree.specs.Levels.{width_of}
use Rattle.tree.proofs.Octets.ones_in.Given as goal

abbrev pub invariant-loop-i : goal.invariant-loop-i
invariant-loop-i l =
    let w = width_of l.fn.level in l.ones + announced w l.mark l.self.run.now l.i ≡ announced w l.mark l.self.run.now l.e
