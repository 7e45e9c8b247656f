-- `writer::Sheet::put_run` meets its contract. The loop's invariant: all but the octets from the place on were put (`Putting`).
-- Assumes nothing.
use lib.ListN.{drop}
use Rattle.writer.proofs.Putting.{Putting}
use Rattle.writer.proofs.Sheet.put_run.Given as goal

abbrev pub invariant-loop-octet : goal.invariant-loop-octet
invariant-loop-octet l = Putting l.run (drop l.octet-index l.run) l.initial.self l.self
