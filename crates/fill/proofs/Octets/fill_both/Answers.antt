-- `fill::Octets::fill_both` meets its contract: the codes of S are stored behind those of I.
-- Assumes nothing.
use Prim.Native.Nat.{◌+◌}
use native.Mathlib.Omega.{arith}
use Rattle.tree.specs.Codes.{field_codes}
use Rattle.fill.specs.Storing.{laid}
use Rattle.fill.proofs.Both.{to_come, field_at, field_first, base_small, before_few, none_left, all_to_come}
use Rattle.fill.proofs.Stored.{going_run}
use Rattle.fill.proofs.Octets.fill_both.Goals as goal

pub fill_field-n-requires : goal.fill_field-n-requires
fill_field-n-requires g c =
    let a = c.args in
    let l = c.loop-base in (
      base_small a.self.run.now a.identification a.standard l.base-index c.loop-base-test.true,
      before_few a.self.run.now a.identification a.standard l.base-index l.n c.loop-base-test.true a.self.few l.invariant.sum,
    )

pub loop-base-preserved : goal.loop-base-preserved
loop-base-preserved g c =
    let a = c.args in
    let s = a.self.run.now in
    let l = c.loop-base in
    let k = l.base-index in
    let f = field_at a.identification a.standard k in
    let e = c.fill_field-n.ensures in
    going_run (field_codes f.0 s f.1) (to_come s a.identification a.standard (k + 1)) e.0 e.1 (rw (field_first s a.identification a.standard k c.loop-base-test.true) at l.invariant)

pub returns : goal.returns
unfolding laid
returns g c =
    let a = c.args in
    let l = c.loop-base in
    let all = all_to_come a.self.run.now a.identification a.standard a.self.few in
    let going = rw (none_left a.self.run.now a.identification a.standard l.base-index c.loop-base-test.false) at l.invariant in
    (rw (← all) (omega (arith, going.sum)), rw (← all) going.same)
