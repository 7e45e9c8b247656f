-- `tree::block_at` meets its contract. The loop's invariant: the block from `i` on has the form and the end of the one from `e` on.
-- Assumes nothing.
use mathlib.Core.Path.{◌≡◌}
use Rattle.tree.specs.Block.{behind}
use Rattle.tree.specs.Form.{form_at}
use Rattle.tree.proofs.block_at.Given as goal

abbrev pub invariant-loop-i : goal.invariant-loop-i
invariant-loop-i l =
    (form_at l.mark l.s l.i ≡ form_at l.mark l.s l.e) × (behind l.mark l.s l.i ≡ behind l.mark l.s l.e) × (l.at ≡ l.i)
