-- `strike::Source::put_extent` meets its contract. The loop's invariant is `Filling`: the first i octets of the minimal block are put, and i is not behind the last.
-- Assumes nothing.
use Rattle.strike.proofs.Filling.{Filling}
use Rattle.strike.proofs.Source.put_extent.Given as goal

abbrev pub invariant-loop-i : goal.invariant-loop-i
invariant-loop-i l = Filling l.fn.level l.fn.places l.self.s.now l.e l.to l.initial.out l.sieve l.i l.out
