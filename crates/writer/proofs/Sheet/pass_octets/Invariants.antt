-- `writer::Sheet::pass_octets` meets its contract. The loop's invariant: so many octets as turns were passed (`Passed`).
-- Assumes nothing.
use Rattle.writer.proofs.Putting.{Passed}
use Rattle.writer.proofs.Sheet.pass_octets.Given as goal

abbrev pub invariant-loop-turn : goal.invariant-loop-turn
invariant-loop-turn l = Passed l._turn l.octet l.initial.self l.self l.next
