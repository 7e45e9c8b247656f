-- `tree::group_behind` meets its contract: bit 8 ends the Par(2) block there, or the blocks that SPar(2) announces do.
-- Assumes nothing.
use mathlib.Core.Path.{sym, ◌∙◌}
use Rattle.tree.specs.Codes.{group_behind}
use Rattle.tree.proofs.group_behind.Goals as goal

pub returns-then-bit8 : goal.returns-then-bit8
unfolding group_behind
returns-then-bit8 c = rw (sym c.bit8.ensures ∙ c.if-bit8.true)

pub returns : goal.returns
unfolding group_behind
returns c =
    rw (sym c.bit8.ensures ∙ c.if-bit8.false, ← c.block_behind.ensures) c.subs_behind.ensures
