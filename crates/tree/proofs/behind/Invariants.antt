-- `tree::behind` meets its contract. The loop's invariant: the block ends where it does from `at` on, or before `at` by its last octet.
-- Assumes nothing.
use Prim.Native.Nat.{◌-◌}
use mathlib.Core.Path.{◌≡◌}
use lib.Dec.{ltb}
use lib.ListN.{length}
use Rattle.octets.specs.Places.{pick}
use Rattle.tree.specs.Block.{behind}
use Rattle.tree.proofs.behind.Given as goal

abbrev pub invariant-loop-octet : goal.invariant-loop-octet
invariant-loop-octet l = pick (ltb l.octet l.mark) (behind l.mark l.s l.at) l.at ≡ behind l.mark l.s l.e

abbrev pub decreases-loop-octet : goal.decreases-loop-octet
decreases-loop-octet l = length l.s - l.at
