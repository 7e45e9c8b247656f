-- `fill::Octets::fill_block` meets its contract. The loop's invariant: all but the codes from octet i on are stored (`OctetsGoing`), and the block from i on ends where the one from e on does.
-- Assumes nothing.
use mathlib.Core.Path.{◌≡◌}
use Rattle.tree.specs.Block.{behind}
use Rattle.tree.specs.Levels.{width_of, mark_of}
use Rattle.fill.proofs.Rows.{OctetsGoing}
use Rattle.fill.proofs.Octets.fill_block.Given as goal

abbrev pub invariant-loop-i : goal.invariant-loop-i
invariant-loop-i g l =
    OctetsGoing g.T.Item.stored (λ qs f. qs) (λ k f. f) (width_of l.fn.level) l.p l.self.run.now l.fn.start.at (record { count = l.initial.count; at = 0 }) l.initial.list l.list (record { count = l.count; at = 0 }) l.above l.i
    × (behind (mark_of l.fn.level) l.self.run.now l.i ≡ behind (mark_of l.fn.level) l.self.run.now l.fn.start.at)
    × (l.at ≡ l.i)
