-- `choice::judge::sub_good` meets its contract: bit 8 before the block, or the block and bit 8 in its last octet.
-- Assumes nothing.
use mathlib.Core.Path.{sym, ◌∙◌}
use Rattle.good.proofs.Stepping.{sub_marked, sub_bad, sub_on}
use Rattle.choice.proofs.judge.sub_good.Goals as goal

pub returns-then-bit8 : goal.returns-then-bit8
returns-then-bit8 c = sub_marked _ _ _ (sym c.bit8.ensures ∙ c.if-bit8.true)

pub returns-in_err-next : goal.returns-in_err-next
returns-in_err-next c = c.from_residual.ensures ∙ sub_bad _ _ _ (sym c.bit8.ensures ∙ c.if-bit8.false) c.in_err-next.ensures

pub returns : goal.returns
returns c = sub_on _ _ _ (sym c.bit8.ensures ∙ c.if-bit8.false) c.in_ok-next.ensures c.bit8-2.ensures c.then_some.ensures
