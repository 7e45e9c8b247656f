-- `tree::blocks_behind` meets its contract. The loop's invariant: the blocks that are left, from `at` on, end where all do.
-- Assumes nothing.
use Prim.Native.Nat.{suc, ◌+◌, ◌-◌}
use mathlib.Core.Path.{◌≡◌}
use native.Mathlib.Omega.{arith}
use Rattle.tree.specs.Codes.{subs_behind}
use Rattle.tree.proofs.blocks_behind.Goals as goal

pub loop-done-preserved : goal.loop-done-preserved
unfolding subs_behind
loop-done-preserved c =
    let L = c.loop-done in
    let z : c.args.count - L._done ≡ suc (c.args.count - (L._done + 1)) = omega arith in
    rw c.block_behind-at.ensures (rw z at L.invariant)

pub returns : goal.returns
unfolding subs_behind
returns c =
    let L = c.loop-done in
    let z : c.args.count - L._done ≡ 0 = omega arith in
    rw z at L.invariant
