-- `strike::Source::block_extent` meets its contract. The loop's invariant is `Reaching`: the octets counted so far are all where nothing more is kept.
-- Assumes nothing.
use native.Mathlib.Omega.{arith}
use Rattle.strike.proofs.Sifting.{sieves_new, sieve_few}
use Rattle.strike.proofs.Extents.{reaching_none, reaching_more, reaching_last, reaching_end}
use Rattle.strike.proofs.Source.block_extent.Goals as goal
use Rattle.std.proofs.lemmas.Bool.Decides.{nat_tests}

pub loop-i-init : goal.loop-i-init
loop-i-init c = reaching_none c.args.self.short c.args.e (sieves_new c.new-sieve.ensures)

pub overflow_sub-count : goal.overflow_sub-count
overflow_sub-count c = omega (arith, c.loop-i.invariant.passed)

pub next-sieve-requires : goal.next-sieve-requires
next-sieve-requires c = sieve_few c.loop-i.invariant.sieves

pub returns-then-mark-octet : goal.returns-then-mark-octet
returns-then-mark-octet c =
    reaching_last c.loop-i.invariant (omega arith) (grind (arith, nat_tests)) (omega (arith, c.mark-mark.ensures))

pub loop-i-preserved : goal.loop-i-preserved
loop-i-preserved c =
    reaching_more c.loop-i.invariant (omega arith) (grind (arith, nat_tests)) c.next-sieve.ensures (omega (arith, c.mark-mark.ensures))

pub returns : goal.returns
returns c = let x = reaching_end c.loop-i.invariant (omega arith) in (x.0, omega arith)
