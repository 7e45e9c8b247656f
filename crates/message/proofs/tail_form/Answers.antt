-- `message::tail_form` meets its contract: the tests are those of `tail_form`.
-- Assumes nothing.
use borrow.Author.Tests.{eq-eqb, ne_eqb}
use Rattle.message.specs.Nonstandard.{tail_form}
use Rattle.message.proofs.tail_form.Goals as goal

pub returns-then-s-eq1 : goal.returns-then-s-eq1
unfolding tail_form
returns-then-s-eq1 c = simp (eq-eqb _ _ c.if-s-eq1.true) c.ns_form.ensures

pub returns-then-e-s : goal.returns-then-e-s
unfolding tail_form
returns-then-e-s c = simp (ne_eqb _ _ c.if-s-eq1.false, eq-eqb _ _ c.if-e-s.true)

pub returns : goal.returns
unfolding tail_form
returns c = simp (ne_eqb _ _ c.if-s-eq1.false, ne_eqb _ _ c.if-e-s.false)
