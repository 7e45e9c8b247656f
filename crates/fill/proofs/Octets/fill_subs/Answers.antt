-- `fill::Octets::fill_subs` meets its contract. The loop's invariant: all but the codes that the octets from i on give are stored (`OctetsGoing`).
-- Assumes nothing.
use mathlib.Core.Path.{refl}
use native.Mathlib.Omega.{arith}
use Rattle.fill.proofs.Rows.{subs, octets_start, octets_end, row_room, row_turn, row_last}
use Rattle.fill.proofs.Octets.fill_subs.Goals as goal

pub loop-i-init : goal.loop-i-init
loop-i-init g c =
    let a = c.args in
    record { p = 0; holds = octets_start ((subs a.self.run.now).from a.c) _ _; here = omega arith }

pub fill_subs_of-tally-requires : goal.fill_subs_of-tally-requires
fill_subs_of-tally-requires g c =
    let y = c.loop-i.invariant in (
      omega arith,
      omega (arith, y.here, y.holds.reach, c.loop-i-test.true, c.args.self.few, c.requires.0),
      row_room (subs c.args.self.run.now) y refl (omega arith) c.loop-i-test.true c.requires.1,
    )

pub returns-then-o-ge64 : goal.returns-then-o-ge64
returns-then-o-ge64 g c =
    let s = c.args.self.run.now in
    row_last (subs s) c.loop-i.invariant refl (omega arith) c.loop-i-test.true c.fill_subs_of-tally.ensures c.if-o-ge64.true

pub overflow_add-above : goal.overflow_add-above
overflow_add-above g c =
    let y = c.loop-i.invariant in
    let p = c.requires in
    omega (arith, y.here, y.holds.reach, c.loop-i-test.true, c.args.self.few, p.0)

pub loop-i-preserved : goal.loop-i-preserved
loop-i-preserved g c =
    let s = c.args.self.run.now in
    row_turn (subs s) c.loop-i.invariant refl (omega arith) c.loop-i-test.true c.fill_subs_of-tally.ensures c.if-o-ge64.false

pub returns : goal.returns
returns g c =
    let a = c.args in
    octets_end ((subs a.self.run.now).from a.c) c.loop-i.invariant.holds c.loop-i-test.false
