-- `fill::fill_bits` meets its contract. The loop's invariant (`BitsGoing`): the codes of all bits but those left are stored. The measure is the bits left, as a number.
-- Assumes nothing.
use native.Mathlib.Omega.{arith}
use Rattle.fill.proofs.Rows.{codes_stepped, bits_start, bits_end, bits_reach, bits_less, bits_room, bits_turn}
use Rattle.fill.proofs.Stored.{fills_one}
use Rattle.fill.proofs.fill_bits.Goals as goal

pub loop-bits-init : goal.loop-bits-init
loop-bits-init g c = bits_start codes_stepped _ _ c.requires.0

pub overflow_shr-bits : goal.overflow_shr-bits
overflow_shr-bits g c = omega (arith, bits_reach codes_stepped c.loop-bits.invariant c.loop-bits-test.true)

pub overflow_add-code : goal.overflow_add-code
overflow_add-code g c = omega (arith, bits_reach codes_stepped c.loop-bits.invariant c.loop-bits-test.true)

pub overflow_add-code-in-loop-bits : goal.overflow_add-code-in-loop-bits
overflow_add-code-in-loop-bits g c = omega (arith, bits_reach codes_stepped c.loop-bits.invariant c.loop-bits-test.true)

pub store-requires : goal.store-requires
store-requires g c = omega (arith, bits_room codes_stepped c.loop-bits.invariant c.loop-bits-test.true c.requires.2)

pub overflow_add-count : goal.overflow_add-count
overflow_add-count g c = omega (arith, bits_room codes_stepped c.loop-bits.invariant c.loop-bits-test.true c.requires.2)

pub loop-bits-smaller : goal.loop-bits-smaller
loop-bits-smaller g c =
    bits_less codes_stepped c.loop-bits.invariant c.loop-bits-test.true

pub loop-bits-preserved : goal.loop-bits-preserved
loop-bits-preserved g c =
    bits_turn
    codes_stepped
    c.loop-bits.invariant
    c.loop-bits-test.true
    (fills_one c.store.ensures)

pub returns : goal.returns
returns g c = let f = bits_end codes_stepped c.loop-bits.invariant c.loop-bits-test.false in (f.count, f.list)
