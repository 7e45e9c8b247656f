-- `within::Pair::block_within` meets its contract. The loop's invariant: what is asked of the blocks is asked of what is left of them (`BlockPairing`).
-- Assumes nothing.
use Prim.Native.Nat.{◌<◌}
use mathlib.Core.Path.{refl, sym, ◌∙◌}
use native.Mathlib.Omega.{arith}
use lib.ListN.{length}
use Rattle.tree.specs.Levels.{width_of}
use Rattle.tree.proofs.Forms.{behind_stop}
use Rattle.tree.proofs.Giving.{mark_power}
use Rattle.within.proofs.Beside.{block_done, block_lost, block_last, block_rest, block_turn, block_alone}
use Rattle.within.proofs.Taking.{octet_there}
use Rattle.within.proofs.Pair.block_within.Goals as goal
use Rattle.within.proofs.Pair.block_within.Goals.{then-to-self, else-to-self, else-loop-i-test, then-loop-i-test+else-set-theirs+else-mark-theirs+then-mark-mine-2}

pub returns-then-set-theirs : goal.returns-then-set-theirs
returns-then-set-theirs c =
    let m = c.mark-mark.ensures ∙ mark_power c.args.level in
    rw (← c.mark-mark.ensures) (block_lost c.loop-i.invariant.0 m (rw c.octet_or_zero-theirs.ensures at c.if-set-theirs.true) refl)

pub overflow_add-to : goal.overflow_add-to
overflow_add-to c =
    let m = c.mark-mark.ensures ∙ mark_power c.args.level in
    let there : c.loop-i.to < length c.args.self.t.now =
    octet_there (width_of c.args.level) c.mark-mark.result c.args.self.t.now c.loop-i.to m (rw c.octet_or_zero-theirs.ensures at c.if-mark-theirs.true) in
    omega arith

pub returns-then-mark-mine : goal.returns-then-mark-mine
returns-then-mark-mine c =
    let v = c.octet_or_zero-theirs.ensures in
    let m = c.mark-mark.ensures ∙ mark_power c.args.level in
    let there : c.loop-i.to < length c.args.self.t.now =
    octet_there (width_of c.args.level) c.mark-mark.result c.args.self.t.now c.loop-i.to m (rw v at c.if-mark-theirs.true) in
    rw (← c.mark-mark.ensures)
    (block_last c.loop-i.invariant.0 m (rw v at c.if-set-theirs.false) c.loop-i-test.true c.if-mark-mine.true refl refl (sym (behind_stop _ _ _ there (rw v at c.if-mark-theirs.true))))

pub returns-then-mark-theirs : goal.returns-then-mark-theirs
returns-then-mark-theirs c =
    let v = c.octet_or_zero-theirs.ensures in
    let m = c.mark-mark.ensures ∙ mark_power c.args.level in
    let there : c.loop-i.to < length c.args.self.t.now =
    octet_there (width_of c.args.level) c.mark-mark.result c.args.self.t.now c.loop-i.to m (rw v at c.if-mark-theirs.true) in
    rw (← c.mark-mark.ensures)
    (block_rest c.loop-i.invariant.0 m (rw v at c.if-set-theirs.false) c.loop-i-test.true c.if-mark-mine.false there (rw v at c.if-mark-theirs.true) (rw (← c.mark-mark.ensures) at c.block_empty.ensures))

pub loop-i-preserved : goal.loop-i-preserved
loop-i-preserved c =
    let v = c.octet_or_zero-theirs.ensures in
    let m = c.mark-mark.ensures ∙ mark_power c.args.level in
    let x = rw v at c.if-set-theirs.false in
    elim c.if-to-self.branch [
      | then-to-self w ↦ rw w.to-is (block_turn c.loop-i.invariant.0 m x c.loop-i-test.true c.if-mark-mine-2.false w.if-to-self.true (rw v at c.if-mark-theirs.false), refl)
      | else-to-self w ↦ rw w.to-is (block_alone c.loop-i.invariant.0 m x c.loop-i-test.true c.if-mark-mine-2.false w.if-to-self.false, refl)
    ]

pub returns : goal.returns
returns c =
    let m = c.mark-mark.ensures ∙ mark_power c.args.level in
    let past = rw (← c.mark-mark.ensures) at c.behind.ensures in
    rw (← c.mark-mark.ensures)
    (elim c.loop-i-test.branch [
      | else-loop-i-test w ↦ block_done c.loop-i.invariant.0 w.loop-i-test.false refl (w.from-is ∙ c.loop-i.invariant.1) past
      | then-loop-i-test+else-set-theirs+else-mark-theirs+then-mark-mine-2 w ↦ block_last c.loop-i.invariant.0 m (rw w.octet_or_zero-theirs.ensures at w.if-set-theirs.false) w.loop-i-test.true w.if-mark-mine-2.true refl w.from-is past
    ])
