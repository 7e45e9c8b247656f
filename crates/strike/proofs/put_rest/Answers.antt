-- `strike::put_rest` meets its contract. The loop's invariant: of the octets to be put, those from i on are left.
-- Assumes nothing.
use native.Mathlib.Omega.{arith}
use lib.ListN.{drop_of_length-le}
use Rattle.octets.proofs.Laws.{drop_next}
use Rattle.strike.proofs.Copying.{lays_none, lays_turn, lays_room, lays_all}
use Rattle.strike.proofs.put_rest.Goals as goal

pub loop-i-init : goal.loop-i-init
loop-i-init c = (omega arith, lays_none _ _ _)

pub bounds-out-at : goal.bounds-out-at
bounds-out-at c =
    lays_room _ c.loop-i.invariant.1 (drop_next c.args.s.now c.loop-i.i c.loop-i-test.true) c.requires.1

pub overflow_add-at : goal.overflow_add-at
overflow_add-at c =
    let room = lays_room _ c.loop-i.invariant.1 (drop_next c.args.s.now c.loop-i.i c.loop-i-test.true) c.requires.1 in
    omega arith

pub loop-i-preserved : goal.loop-i-preserved
loop-i-preserved c =
    (omega arith, lays_turn _ c.loop-i.invariant.1 (drop_next c.args.s.now c.loop-i.i c.loop-i-test.true))

pub shape_of-out : goal.shape_of-out
shape_of-out c = c.loop-i.invariant.1.room

pub returns : goal.returns
returns c = lays_all c.loop-i.invariant.1 (drop_of_length-le c.args.s.now c.loop-i-test.false)
