-- `tree::subs_behind` meets its contract. The loop's invariant: the blocks that are still announced, from `at` on, end where all do.
-- Assumes nothing.
use mathlib.Core.Path.{◌≡◌}
use Rattle.tree.specs.Block.{announced}
use Rattle.tree.specs.Codes.{subs_behind}
use Rattle.tree.proofs.subs_behind.Given as goal

abbrev pub invariant-loop-i : goal.invariant-loop-i
invariant-loop-i l = subs_behind (announced 6 64 l.s l.i) l.s l.at ≡ subs_behind (announced 6 64 l.s l.e) l.s l.start
