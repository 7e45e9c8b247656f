-- `fill::fill_bits` meets its contract. The loop's invariant (`BitsGoing`): the codes of all bits but those left are stored. The measure is the bits left, as a number.
-- Assumes nothing.
use Rattle.fill.proofs.Rows.{BitsGoing}
use Rattle.fill.proofs.fill_bits.Given as goal

abbrev pub invariant-loop-bits : goal.invariant-loop-bits
invariant-loop-bits g l =
    BitsGoing g.T.Item.stored (λ qs e. qs) (λ k e. e) l.above l.octet (record { count = l.n; at = 0 }) l.initial.list l.list (record { count = l.count; at = 0 }) l.bits l.code

abbrev pub decreases-loop-bits : goal.decreases-loop-bits
decreases-loop-bits g l = l.bits
