-- `choice::judge::pars_good` meets its contract: block by block.
-- Assumes nothing.
use mathlib.Core.Path.{◌∙◌}
use Rattle.tree.specs.declared.Level.TheVariants.{Top}
use Rattle.tree.proofs.Giving.{given_all}
use Rattle.good.proofs.Stepping.{pars_bad, pars_on, pars_end}
use Rattle.choice.proofs.judge.pars_good.Goals as goal

pub loop-q-init : goal.loop-q-init
loop-q-init c = rw (c.into_iter-q-iterator.ensures.into_iter_gives ∙ given_all Top c.args.s.now c.args.e c.requires c.positions-q-items.ensures)

pub returns-in_err-at : goal.returns-in_err-at
returns-in_err-at c =
    c.from_residual.ensures ∙ pars_bad _ _ _ _ _ c.in_err-at.ensures ∙ (rw c.in-Some.ensures.steps at c.loop-q.invariant)

pub loop-q-preserved : goal.loop-q-preserved
loop-q-preserved c = pars_on _ _ _ _ _ c.in_ok-at.ensures ∙ (rw c.in-Some.ensures.steps at c.loop-q.invariant)

pub returns : goal.returns
returns c = pars_end _ _ _ ∙ (rw c.in-None.ensures.steps.0 at c.loop-q.invariant)
