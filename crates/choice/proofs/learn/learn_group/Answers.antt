-- `choice::learn::learn_group` meets its contract: nothing stands there, or SPar(2) and its NPar(3) are put.
-- Assumes nothing.
use mathlib.Core.Path.{sym, ◌∙◌}
use Rattle.good.proofs.Putting.{group_none, group_some}
use Rattle.choice.proofs.learn.learn_group.Goals as goal

pub returns-then-bit8 : goal.returns-then-bit8
returns-then-bit8 c =
    group_none c.args.q c.args.t.now c.args.e _ (sym c.bit8.ensures ∙ c.if-bit8.true)

pub returns : goal.returns
returns c =
    group_some c.args.q c.args.t.now c.args.e _
    (sym c.bit8.ensures ∙ c.if-bit8.false) c.below_at-place.ensures.0 c.block_behind-next.ensures c.block_behind-end.ensures c.block_bits.ensures
