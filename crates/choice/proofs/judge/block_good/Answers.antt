-- `choice::judge::block_good` meets its contract. The loop's invariant: the block is good exactly if what is left of it is (`Looked`).
-- Assumes nothing.
use Prim.Native.Nat.{ℕ, ◌^◌}
use mathlib.Core.List.{List}
use Rattle.std.specs.Prelude.{Option}
use Rattle.std.specs.Bool.{then_some}
use Rattle.tree.specs.Block.{behind}
use Rattle.good.specs.Goodness.{good_block}
use mathlib.Core.Path.{◌≡◌, refl, ◌∙◌}
use native.Mathlib.Omega.{arith}
use Rattle.tree.specs.Levels.{width_of, mark_of}
use Rattle.tree.specs.declared.Level.{Level}
use Rattle.tree.proofs.Giving.{mark_power, mark_some}
use Rattle.good.proofs.Allowed.{looked_end, looked_lost, looked_wrong, looked_empty, looked_last, looked_turn}
use Rattle.choice.proofs.judge.block_good.Goals as goal
use Rattle.choice.proofs.judge.block_good.Goals.{else-set-eq0-via-then-set-eq0+else-e-i, else-set-eq0-via-else-set-eq0}

-- the mark is a power of two
power : (v : Level) {w m : ℕ} → w ≡ width_of v → m ≡ mark_of v → m ≡ 2 ^ w
power v e f = rw (e, f) (mark_power v)

-- what is judged by width and mark is so for the level
module _ (v : Level) (n : ℕ) (l : List ℕ) (at : ℕ) where
  for_level : {w m : ℕ} → w ≡ width_of v → m ≡ mark_of v → {r : Option ℕ} → r ≡ then_some (good_block w m n l at) (behind m l at)
      → r ≡ then_some (good_block (width_of v) (mark_of v) n l at) (behind (mark_of v) l at)
  for_level e f h = rw (e, f) at h

pub nonzero_rem-octet : goal.nonzero_rem-octet
nonzero_rem-octet c = omega (arith, c.mark-m.ensures, mark_some c.args.level)

pub returns-then-set-allowed : goal.returns-then-set-allowed
returns-then-set-allowed c = for_level c.args.level c.args.names c.args.s.now c.args.e c.width-w.ensures c.mark-m.ensures (looked_lost c.loop-i.invariant (power c.args.level c.width-w.ensures c.mark-m.ensures) c.loop-i-test.true (rw c.from-set.ensures at c.if-set-allowed.true))

pub nonzero_div-octet : goal.nonzero_div-octet
nonzero_div-octet c = omega (arith, c.mark-m.ensures, mark_some c.args.level)

pub returns-then-octet-m-eq0 : goal.returns-then-octet-m-eq0
returns-then-octet-m-eq0 c =
    for_level c.args.level c.args.names c.args.s.now c.args.e c.width-w.ensures c.mark-m.ensures (looked_wrong c.loop-i.invariant (power c.args.level c.width-w.ensures c.mark-m.ensures) c.loop-i-test.true (rw c.from-set.ensures at c.if-set-allowed.false) c.if-m-octet.true c.if-octet-m-eq0.true)

pub returns-then-e-i : goal.returns-then-e-i
returns-then-e-i c =
    for_level c.args.level c.args.names c.args.s.now c.args.e c.width-w.ensures c.mark-m.ensures (looked_empty c.loop-i.invariant (power c.args.level c.width-w.ensures c.mark-m.ensures) c.loop-i-test.true (rw c.from-set.ensures at c.if-set-allowed.false) c.if-m-octet.true c.if-octet-m-eq0.false (rw c.from-set.ensures at c.if-set-eq0.true) c.if-e-i.true)

pub returns-then-m-octet : goal.returns-then-m-octet
returns-then-m-octet c =
    for_level c.args.level c.args.names c.args.s.now c.args.e c.width-w.ensures c.mark-m.ensures (looked_last c.loop-i.invariant (power c.args.level c.width-w.ensures c.mark-m.ensures) c.loop-i-test.true (rw c.from-set.ensures at c.if-set-allowed.false) c.if-m-octet.true c.if-octet-m-eq0.false
    (λ z. elim c.else-set-eq0.branch [
      | else-set-eq0-via-then-set-eq0+else-e-i w ↦ w.if-e-i.false
      | else-set-eq0-via-else-set-eq0 w ↦ absurd (w.if-set-eq0.false (c.from-set.ensures ∙ z))
    ]))

pub loop-i-preserved : goal.loop-i-preserved
loop-i-preserved c = looked_turn c.loop-i.invariant (power c.args.level c.width-w.ensures c.mark-m.ensures) c.loop-i-test.true (rw c.from-set.ensures at c.if-set-allowed.false) c.if-m-octet.false refl

pub returns : goal.returns
returns c = for_level c.args.level c.args.names c.args.s.now c.args.e c.width-w.ensures c.mark-m.ensures (looked_end c.loop-i.invariant c.loop-i-test.false)
