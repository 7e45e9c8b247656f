-- `choice::learn::learn_pars` meets its contract: block by block.
-- Assumes nothing.
use mathlib.Core.Path.{◌∙◌}
use native.Mathlib.Omega.{arith}
use Rattle.tree.specs.Order.{AllBelow}
use Rattle.tree.specs.declared.Level.TheVariants.{Top}
use Rattle.tree.proofs.Giving.{given_all}
use Rattle.good.proofs.Putting.{put_on, put_end}
use Rattle.choice.proofs.learn.learn_pars.Goals as goal

pub loop-q-init : goal.loop-q-init
loop-q-init c =
    let all = c.into_iter-q-iterator.ensures.into_iter_gives ∙ given_all Top c.args.t.now c.args.e c.requires.0 c.positions-q-items.ensures in
    (rw all c.requires.1, rw all)

pub learn_par-at-requires : goal.learn_par-at-requires
unfolding AllBelow
learn_par-at-requires c = omega (arith, (rw c.in-Some.ensures.steps at c.loop-q.invariant.0).0)

pub loop-q-preserved : goal.loop-q-preserved
unfolding AllBelow
loop-q-preserved c =
    ((rw c.in-Some.ensures.steps at c.loop-q.invariant.0).1, put_on _ _ _ _ _ c.learn_par-at.ensures ∙ (rw c.in-Some.ensures.steps at c.loop-q.invariant.1))

pub returns : goal.returns
returns c = put_end _ _ _ ∙ (rw c.in-None.ensures.steps.0 at c.loop-q.invariant.1)
