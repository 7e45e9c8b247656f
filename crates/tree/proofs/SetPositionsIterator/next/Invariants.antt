-- `next` of a block's positions meets its contract. The loop's invariant: what is left is what was left when it was called.
-- Assumes nothing.
use lib.ListN.{length}
use Rattle.tree.proofs.Giving.{Giving}
use Rattle.tree.proofs.SetPositionsIterator.next.Given as goal

abbrev pub invariant-loop-self : goal.invariant-loop-self
invariant-loop-self l = let p = l.self-inside in Giving l.fn.self p.level p.rest.now p.bits p.passed p.next

abbrev pub decreases-loop-self : goal.decreases-loop-self
decreases-loop-self l = length l.self-inside.rest.now
