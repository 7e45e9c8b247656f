-- `choice::judge::field_good` meets its contract: NPar(1), SPar(1), and the Par(2) blocks.
-- Assumes nothing.
use mathlib.Core.Path.{◌∙◌}
use Rattle.good.proofs.Stepping.{field_bad, rest_bad, rest_on}
use Rattle.choice.proofs.judge.field_good.Goals as goal

pub returns-in_err-e : goal.returns-in_err-e
returns-in_err-e c = c.from_residual.ensures ∙ field_bad _ _ c.in_err-e.ensures

pub returns-in_err-start : goal.returns-in_err-start
returns-in_err-start c = c.from_residual-in_err-start.ensures ∙ rest_bad _ _ c.in_ok-e.ensures (rw c.spars.ensures at c.in_err-start.ensures)

pub returns : goal.returns
returns c = rest_on _ _ c.in_ok-e.ensures (rw c.spars.ensures at c.in_ok-start.ensures) c.pars_good.ensures
