-- `within::Pair::group_within` meets its contract: one of the two has no SPar(2), or the SPar(2) blocks are compared.
-- Assumes nothing.
use mathlib.Core.Path.{refl, sym, ◌∙◌}
use Rattle.within.proofs.Beside.{group_none, group_past, group_alone, group_both}
use Rattle.within.proofs.Pair.group_within.Goals as goal

pub returns-then-bit8-2 : goal.returns-then-bit8-2
returns-then-bit8-2 c = group_none _ _ _ _ (sym c.bit8-then-bit8.ensures ∙ c.if-bit8-2.true) refl refl (sym (group_past _ _ (sym c.bit8.ensures ∙ c.if-bit8.true)))

pub returns-then-bit8 : goal.returns-then-bit8
returns-then-bit8 c = group_alone _ _ _ _ (sym c.bit8-then-bit8.ensures ∙ c.if-bit8-2.false) (sym c.bit8.ensures ∙ c.if-bit8.true) c.block_empty.ensures

pub returns-then-bit8-3 : goal.returns-then-bit8-3
returns-then-bit8-3 c = group_none _ _ _ _ (sym c.bit8-2.ensures ∙ c.if-bit8-3.true) refl refl c.group_behind.ensures

pub returns : goal.returns
returns c = group_both _ _ _ _ (sym c.bit8-2.ensures ∙ c.if-bit8-3.false) (sym c.bit8.ensures ∙ c.if-bit8.false) c.spars_within.ensures
