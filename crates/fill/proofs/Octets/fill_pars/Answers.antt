-- `fill::Octets::fill_pars` meets its contract. The loop's invariant: all but the codes that the octets from i on give are stored (`OctetsGoing`).
-- Assumes nothing.
use mathlib.Core.Path.{refl}
use native.Mathlib.Omega.{arith}
use Rattle.fill.proofs.Rows.{pars, octets_start, octets_end, row_room, row_turn, row_last}
use Rattle.fill.proofs.Octets.fill_pars.Goals as goal

pub loop-i-init : goal.loop-i-init
loop-i-init g c =
    let a = c.args in
    record { p = 0; holds = octets_start ((pars a.self.run.now).from a.base) _ _; here = omega arith }

pub fill_pars_of-tally-requires : goal.fill_pars_of-tally-requires
fill_pars_of-tally-requires g c =
    let y = c.loop-i.invariant in (
      omega arith,
      omega (arith, y.here, y.holds.reach, c.loop-i-test.true, c.args.self.few, c.requires.0),
      row_room (pars c.args.self.run.now) y refl (omega arith) c.loop-i-test.true c.requires.1,
    )

pub returns-then-o-ge128 : goal.returns-then-o-ge128
returns-then-o-ge128 g c =
    let s = c.args.self.run.now in
    row_last (pars s) c.loop-i.invariant refl (omega arith) c.loop-i-test.true c.fill_pars_of-tally.ensures c.if-o-ge128.true

pub overflow_add-above : goal.overflow_add-above
overflow_add-above g c =
    let y = c.loop-i.invariant in
    let p = c.requires in
    omega (arith, y.here, y.holds.reach, c.loop-i-test.true, c.args.self.few, p.0)

pub loop-i-preserved : goal.loop-i-preserved
loop-i-preserved g c =
    let s = c.args.self.run.now in
    row_turn (pars s) c.loop-i.invariant refl (omega arith) c.loop-i-test.true c.fill_pars_of-tally.ensures c.if-o-ge128.false

pub returns : goal.returns
returns g c =
    let a = c.args in
    octets_end ((pars a.self.run.now).from a.base) c.loop-i.invariant.holds c.loop-i-test.false
