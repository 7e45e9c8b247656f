-- `strike::Source::put_extent` meets its contract. The loop's invariant is `Filling`: the first i octets of the minimal block are put, and i is not behind the last.
-- Assumes nothing.
use Prim.Native.Nat.{◌+◌, ◌-◌}
use mathlib.Core.Path.{◌≡◌, refl}
use native.Mathlib.Omega.{arith}
use lib.ListN.{length, get_or}
use Rattle.tree.specs.Levels.{width_of, mark_of}
use Rattle.strike.specs.Inner.{block_kept}
use Rattle.strike.proofs.Sifting.{sieves_new, sieve_few}
use Rattle.strike.proofs.Extents.{framed, kept_few, kept_within}
use Rattle.strike.proofs.Filling.{mark_most, filling_none, filling_below, filling_more, filling_last}
use Rattle.strike.proofs.Source.put_extent.Goals as goal

pub overflow_sub-last : goal.overflow_sub-last
overflow_sub-last c = let a = c.args in omega (arith, (kept_few (framed a.level a.self.s.now c.args.self.short) a.places a.spot.from).0, c.requires.0)

pub loop-i-init : goal.loop-i-init
loop-i-init c = filling_none c.args.self.short c.args.spot.from c.args.spot.to c.args.out.now (sieves_new c.new-sieve.ensures)

pub bounds-self-e : goal.bounds-self-e
bounds-self-e c = let a = c.args in
    omega (arith, c.loop-i.invariant.within, kept_within (framed a.level a.self.s.now c.args.self.short) a.places a.spot.from c.requires.2)

pub next-sieve-requires : goal.next-sieve-requires
next-sieve-requires c = sieve_few c.loop-i.invariant.sieves

pub loop-i-preserved : goal.loop-i-preserved
loop-i-preserved c = let a = c.args in
    filling_more c.args.self.short a.spot.from a.spot.to c.loop-i.invariant c.keep.result (omega (arith, c.loop-i-test.true, c.requires.0)) c.keep.ensures refl c.next-sieve.ensures

pub bounds-self-e-2 : goal.bounds-self-e-2
bounds-self-e-2 c = let a = c.args in
    omega (arith, c.loop-i.invariant.within, c.requires.0, kept_within (framed a.level a.self.s.now c.args.self.short) a.places a.spot.from c.requires.2)

pub overflow_add-out-2 : goal.overflow_add-out-2
overflow_add-out-2 c = let a = c.args in
    omega (arith, c.keep-2.ensures, c.mark.ensures, mark_most a.level, filling_below c.args.self.short a.spot.from a.spot.to c.loop-i.invariant (get_or a.self.s.now (a.spot.from + (c.args.extent.count - 1)) 0))

pub returns : goal.returns
returns c =
    let a = c.args in
    let few = (kept_few (framed a.level a.self.s.now c.args.self.short) a.places a.spot.from).0 in
    let whole : a.extent.count - 1 + 1 ≡ length (block_kept (width_of a.level) (mark_of a.level) a.places a.self.s.now a.spot.from) = omega (arith, c.requires.0, few) in
    let at_last : a.extent.count - 1 ≡ c.loop-i.i = omega (arith, c.loop-i-test.false) in
    record {
      read = c.requires.1;
      at = omega arith;
      out = rw c.mark.ensures (filling_last c.args.self.short a.spot.from a.spot.to c.loop-i.invariant c.keep-2.result (a.extent.count - 1) whole at_last c.keep-2.ensures refl);
    }
