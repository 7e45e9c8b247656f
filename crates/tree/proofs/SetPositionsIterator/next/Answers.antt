-- `next` of a block's positions meets its contract. The loop's invariant: what is left is what was left when it was called.
-- Assumes nothing.
use mathlib.Core.Path.{ap}
use mathlib.Core.Logic.{inl, inr}
use lib.ListN.{length}
use native.Mathlib.Omega.{arith}
use Rattle.tree.proofs.Giving.{turned, none, given, sound}
use Rattle.tree.proofs.SetPositionsIterator.next.Goals as goal
use Rattle.tree.proofs.SetPositionsIterator.next.Goals.{then-o-m, else-o-m}

pub returns-in_err-o-clause-steps : goal.returns-in_err-o-clause-steps
returns-in_err-o-clause-steps c =
    rw c.from_residual.ensures (none c.loop-self.invariant c.loop-self-test.true c.in_err-o.ensures.cases)

pub loop-self-preserved : goal.loop-self-preserved
loop-self-preserved c =
    turned c.loop-self.invariant c.loop-self-test.true c.in_ok-o.ensures.cases.0 c.mark-m.ensures c.width.ensures
    (elim c.if-o-m.branch [ then-o-m w ↦ inl (w.if-o-m.true, ap (λ (p : _). p.now) w.self-is) | else-o-m w ↦ inr (w.if-o-m.false, ap (λ (p : _). p.now) w.self-is) ])

pub invariant_of-self-2 : goal.invariant_of-self-2
invariant_of-self-2 c = sound c.loop-self.invariant c.loop-self-test.false

pub returns-clause-steps : goal.returns-clause-steps
returns-clause-steps c = given c.loop-self.invariant c.loop-self-test.false

pub returns-clause-goes : goal.returns-clause-goes
returns-clause-goes c = let e = ap length (given c.loop-self.invariant c.loop-self-test.false) in search (arith, e)
