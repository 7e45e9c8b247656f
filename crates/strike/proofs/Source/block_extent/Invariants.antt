-- `strike::Source::block_extent` meets its contract. The loop's invariant is `Reaching`: the octets counted so far are all where nothing more is kept.
-- Assumes nothing.
use Rattle.strike.proofs.Extents.{Reaching}
use Rattle.strike.proofs.Source.block_extent.Given as goal

abbrev pub invariant-loop-i : goal.invariant-loop-i
invariant-loop-i l = Reaching l.fn.level l.fn.places l.self.s.now l.e l.count l.sieve l.i
