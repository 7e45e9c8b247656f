-- `choice::judge::par_good` meets its contract: NPar(2), and then what stands behind it.
-- Assumes nothing.
use mathlib.Core.Path.{◌∙◌}
use Rattle.good.proofs.Stepping.{par_bad, par_on}
use Rattle.choice.proofs.judge.par_good.Goals as goal

pub returns-in_err-next : goal.returns-in_err-next
returns-in_err-next c = c.from_residual.ensures ∙ par_bad _ _ _ _ c.npars.ensures c.in_err-next.ensures

pub returns : goal.returns
returns c = par_on _ _ _ _ c.npars.ensures c.in_ok-next.ensures c.group_good.ensures
