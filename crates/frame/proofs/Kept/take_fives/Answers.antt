-- `frame::Kept::take_fives` meets its contract. The loop's invariant is the record `Passed`, with one law for a sixth one, one for an inserted zero, and
-- one for the bits behind the last mark. Assumes nothing.
use Prim.Native.Nat.{◌/◌}
use native.Mathlib.Nat.{mod-lt}
use native.Mathlib.Omega.{arith}
use lib.Pow.{pow_pos}
use Rattle.frame.proofs.Taking.{passed_none, passed_able, passed_rest, passed_all, first, passed_six, passed_zero}
use Rattle.frame.proofs.Kept.take_fives.Goals as goal

pub loop-runs-init : goal.loop-runs-init
loop-runs-init c =
    passed_none (c.args.line / 8192) c.args.fives c.args.plain.now c.args.self c.requires.1 c.requires.2

pub lowest-requires : goal.lowest-requires
lowest-requires c = omega (arith, (first c.loop-runs.invariant c.loop-runs-test.true).few)

pub keep_bits-kept-requires : goal.keep_bits-kept-requires
keep_bits-kept-requires c =
    let x = c.loop-runs.invariant in
    let able = passed_able x c.requires.0 in
    let few = (first x c.loop-runs-test.true).few in
    (rw c.lowest.ensures (mod-lt (c.loop-runs.word / 2048) (pow_pos _)), omega (arith, few), omega (arith, few, able))

pub returns-then-word-eq1 : goal.returns-then-word-eq1
returns-then-word-eq1 c =
    passed_six c.loop-runs.invariant c.loop-runs-test.true (rw c.lowest.ensures at c.keep_bits-kept.ensures) c.if-word-eq1.true

pub loop-runs-preserved : goal.loop-runs-preserved
loop-runs-preserved c =
    passed_zero c.loop-runs.invariant c.loop-runs-test.true (rw c.lowest.ensures at c.keep_bits-kept.ensures) c.if-word-eq1.false

pub keep_bits-requires : goal.keep_bits-requires
keep_bits-requires c =
    (passed_rest c.loop-runs.invariant (omega arith), omega arith, passed_able c.loop-runs.invariant c.requires.0)

pub returns : goal.returns
returns c =
    passed_all c.loop-runs.invariant c.loop-runs-test.false c.keep_bits.ensures
