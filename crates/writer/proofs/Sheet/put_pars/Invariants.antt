-- `writer::Sheet::put_pars` meets its contract. The loop's invariant: all but what the codes left give was put (`Parting`).
-- Assumes nothing.
use lib.ListN.{length}
use Rattle.writer.proofs.Putting.{Parting}
use Rattle.writer.proofs.Sheet.put_pars.Given as goal

abbrev pub invariant-loop-head : goal.invariant-loop-head
invariant-loop-head l = Parting l.list l.rest l.initial.self l.self

abbrev pub decreases-loop-head : goal.decreases-loop-head
decreases-loop-head l = length l.rest
