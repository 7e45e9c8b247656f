-- `writer::are_parented` meets its contract. The loop's invariant: the codes have their parents if those from the place on have, and group
-- and top are the last ones before them that can be parents (`Parenting`).
-- Assumes nothing.
use lib.ListN.{drop}
use Rattle.writer.proofs.Parents.{Parenting}
use Rattle.writer.proofs.are_parented.Given as goal

abbrev pub invariant-loop-code : goal.invariant-loop-code
invariant-loop-code l = Parenting l.list (drop l.code-index l.list) l.top l.group
