-- `within::block_empty` meets its contract. The loop's invariant: what is asked of the block beside no octets is asked of what is left of it (`BlockPairing`).
-- Assumes nothing.
use mathlib.Core.Path.{refl, ◌∙◌}
use native.Mathlib.Omega.{arith}
use Rattle.tree.proofs.Giving.{mark_power}
use Rattle.within.proofs.Beside.{block_done, block_lost, block_last, block_alone, empty_behind, empty_found, empty_lost}
use Rattle.within.proofs.block_empty.Goals as goal

pub returns-then-o-mark-ne0 : goal.returns-then-o-mark-ne0
returns-then-o-mark-ne0 c =
    let m = c.mark-mark.ensures ∙ mark_power c.args.level in
    rw (← c.mark-mark.ensures) (block_lost c.loop-i.invariant.0 m (empty_lost c.mark-mark.result _ c.args.to c.if-o-mark-ne0.true) refl)

pub returns-then-mark-o : goal.returns-then-mark-o
returns-then-mark-o c =
    let m = c.mark-mark.ensures ∙ mark_power c.args.level in
    rw (← c.mark-mark.ensures)
    (block_last c.loop-i.invariant.0 m (empty_found c.mark-mark.result _ c.args.to c.if-o-mark-ne0.false) c.loop-i-test.true c.if-mark-o.true refl refl (empty_behind _ _))

pub loop-i-preserved : goal.loop-i-preserved
loop-i-preserved c =
    let m = c.mark-mark.ensures ∙ mark_power c.args.level in
    (block_alone c.loop-i.invariant.0 m (empty_found c.mark-mark.result _ c.args.to c.if-o-mark-ne0.false) c.loop-i-test.true c.if-mark-o.false (omega arith), refl)

pub returns : goal.returns
returns c =
    rw (← c.mark-mark.ensures) (block_done c.loop-i.invariant.0 c.loop-i-test.false refl c.loop-i.invariant.1 (empty_behind _ _))
