-- `fill::Octets::fill_both` meets its contract. The loop's invariant: what is to be stored is the codes of the fields to come.
-- Assumes nothing.
use Rattle.fill.proofs.Both.{to_come}
use Rattle.fill.proofs.Stored.{Going}
use Rattle.fill.proofs.Octets.fill_both.Given as goal

abbrev pub invariant-loop-base : goal.invariant-loop-base
invariant-loop-base g l =
    Going g.T.Item.stored (to_come l.self.run.now l.identification l.standard 0) 0 l.initial.list 0 (to_come l.self.run.now l.identification l.standard l.base-index) 0 l.list l.n
