-- `tree::low_fits` meets its contract. The loop's invariant: what is asked of the octets that are left, behind `before` octets of a block,
-- is what is asked of all.
-- Assumes nothing.
use Prim.Native.Nat.{◌≤◌}
use mathlib.Core.Path.{◌≡◌}
use lib.ListN.{drop}
use Rattle.tree.specs.Wide.{low_fits}
use Rattle.tree.proofs.low_fits.Given as goal

abbrev pub invariant-loop-o : goal.invariant-loop-o
invariant-loop-o l = (low_fits l.before (drop l.o-index l.s) ≡ low_fits 0 l.s) × (l.before ≤ l.o-index)
