-- `fill::Octets::fill_subs_of` meets its contract. The loop's invariant (`BitsGoing`, at the position that the code stands above): the codes of all bits but those left are stored. The measure is the bits left, as a number.
-- Assumes nothing.
use Prim.Native.Nat.{ℕ, ◌+◌, ◌*◌, ◌≤◌}
use mathlib.Core.List.{◌∷◌}
use native.Mathlib.Omega.{arith}
use lib.Count.{count_trailing_zeros}
use lib.ListN.{length}
use Rattle.tree.specs.Block.{numbers}
use Rattle.tree.specs.Codes.{of_t}
use Rattle.fill.specs.Storing.{most_codes}
use Rattle.fill.proofs.Rows.{subs, bits_start, bits_end, bits_reach, bits_less, code_room, code_turn}
use Rattle.fill.proofs.Octets.fill_subs_of.Goals as goal

pub loop-bits-init : goal.loop-bits-init
loop-bits-init g c =
    record { p = 0; holds = bits_start ((subs c.args.self.run.now).from c.args.c) _ _ c.requires.0; here = omega arith }

pub overflow_shr-bits : goal.overflow_shr-bits
overflow_shr-bits g c = omega (arith, bits_reach ((subs c.args.self.run.now).from c.args.c) c.loop-bits.invariant.holds c.loop-bits-test.true)

pub overflow_add-code : goal.overflow_add-code
overflow_add-code g c = omega (arith, bits_reach ((subs c.args.self.run.now).from c.args.c) c.loop-bits.invariant.holds c.loop-bits-test.true)

pub overflow_mul-code : goal.overflow_mul-code
overflow_mul-code g c = omega (arith, bits_reach ((subs c.args.self.run.now).from c.args.c) c.loop-bits.invariant.holds c.loop-bits-test.true)

pub overflow_add-code-in-loop-bits : goal.overflow_add-code-in-loop-bits
overflow_add-code-in-loop-bits g c =
    let code : ℕ = c.loop-bits.code + (count_trailing_zeros 32 c.loop-bits.bits + 1) * of_t in
    let reach : let l = c.loop-bits in l.invariant.p + (count_trailing_zeros 32 l.bits + 1) ≤ 7 = bits_reach ((subs c.args.self.run.now).from c.args.c) c.loop-bits.invariant.holds c.loop-bits-test.true in
    let small : code ≤ c.args.c + 7 * of_t = omega (arith, reach, c.loop-bits.invariant.here) in
    omega (arith, small)

pub fill_unit-tally-requires : goal.fill_unit-tally-requires
fill_unit-tally-requires g c =
    let code : ℕ = c.loop-bits.code + (count_trailing_zeros 32 c.loop-bits.bits + 1) * of_t in
    let room : let l = c.loop-bits in let s = c.args.self.run.now in l.tally.count + length (code ∷ numbers 6 64 code s l.tally.at) ≤ most_codes = code_room (subs c.args.self.run.now) c.loop-bits.invariant c.loop-bits-test.true c.requires.2 in
    let reach : let l = c.loop-bits in l.invariant.p + (count_trailing_zeros 32 l.bits + 1) ≤ 7 = bits_reach ((subs c.args.self.run.now).from c.args.c) c.loop-bits.invariant.holds c.loop-bits-test.true in
    let small : code ≤ c.args.c + 7 * of_t = omega (arith, reach, c.loop-bits.invariant.here) in
    let p = c.requires in
    (omega arith, omega (arith, small, p.1), room)

pub loop-bits-smaller : goal.loop-bits-smaller
loop-bits-smaller g c =
    bits_less ((subs c.args.self.run.now).from c.args.c) c.loop-bits.invariant.holds c.loop-bits-test.true

pub loop-bits-preserved : goal.loop-bits-preserved
loop-bits-preserved g c =
    code_turn (subs c.args.self.run.now) c.loop-bits.invariant c.loop-bits-test.true c.fill_unit-tally.ensures

pub returns : goal.returns
returns g c =
    bits_end ((subs c.args.self.run.now).from c.args.c) c.loop-bits.invariant.holds c.loop-bits-test.false
