-- `tree::blocks_behind` meets its contract. The loop's invariant: the blocks that are left, from `at` on, end where all do.
-- Assumes nothing.
use Prim.Native.Nat.{◌-◌}
use mathlib.Core.Path.{◌≡◌}
use Rattle.tree.specs.Codes.{subs_behind}
use Rattle.tree.proofs.blocks_behind.Given as goal

abbrev pub invariant-loop-done : goal.invariant-loop-done
invariant-loop-done l = subs_behind (l.count - l._done) l.s l.at ≡ subs_behind l.count l.s l.start
