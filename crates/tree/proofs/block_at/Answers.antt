-- `tree::block_at` meets its contract. The loop's invariant: the block from `i` on has the form and the end of the one from `e` on.
-- Assumes nothing.
use mathlib.Core.Path.{sym, ◌∙◌}
use borrow.Author.Rules.{rules}
use borrow.Author.Tests.{eq-eqb, ne_eqb}
use Rattle.tree.proofs.Forms.{form_stop, form_go, form_out, behind_stop, behind_go}
use Rattle.tree.proofs.block_at.Goals as goal

pub returns-then-o-mark-eq1 : goal.returns-then-o-mark-eq1
returns-then-o-mark-eq1 c =
    let L = c.loop-i in
    let m = c.mark-mark.result in
    rw (← c.mark-mark.ensures, ← L.invariant.0, ← L.invariant.1, form_stop m L.i c.args.s.now (search rules) (search rules), behind_stop m L.i c.args.s.now (search rules) (search rules), eq-eqb _ _ c.if-o-mark-eq1.true)

pub returns-else-o-mark-eq1 : goal.returns-else-o-mark-eq1
returns-else-o-mark-eq1 c =
    let L = c.loop-i in
    rw (← c.mark-mark.ensures, ← L.invariant.0, form_stop c.mark-mark.result L.i c.args.s.now (search rules) (search rules), ne_eqb _ _ c.if-o-mark-eq1.false)

pub loop-i-preserved : goal.loop-i-preserved
loop-i-preserved c =
    let L = c.loop-i in (
      sym (form_go _ L.i _ (search rules) (search rules)) ∙ L.invariant.0,
      sym (behind_go _ L.i _ (search rules) (search rules)) ∙ L.invariant.1,
      search rules,
    )

pub returns : goal.returns
returns c =
    let L = c.loop-i in
    rw (← c.mark-mark.ensures, ← L.invariant.0, form_out c.mark-mark.result L.i c.args.s.now c.loop-i-test.false, L.invariant.2)
