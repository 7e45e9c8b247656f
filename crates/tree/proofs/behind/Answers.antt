-- `tree::behind` meets its contract. The loop's invariant: the block ends where it does from `at` on, or before `at` by its last octet.
-- Assumes nothing.
use mathlib.Core.Path.{sym, ◌∙◌}
use borrow.Author.Rules.{rules}
use borrow.Author.Tests.{lt-ltb, le-ltb}
use Rattle.tree.proofs.Forms.{behind_at, behind_out}
use Rattle.tree.proofs.behind.Goals as goal

pub returns-then-s-at : goal.returns-then-s-at
returns-then-s-at c =
    let L = c.loop-octet in
    rw (← c.mark-mark.ensures) (sym (behind_out c.mark-mark.result L.at _ (search rules)) ∙ (rw (lt-ltb _ _ c.loop-octet-test.true) at L.invariant))

pub loop-octet-preserved : goal.loop-octet-preserved
loop-octet-preserved c =
    let L = c.loop-octet in
    sym (behind_at c.mark-mark.result L.at _ (search rules)) ∙ (rw (lt-ltb _ _ c.loop-octet-test.true) at L.invariant)

pub returns : goal.returns
returns c = rw (← c.mark-mark.ensures) (rw (le-ltb _ _ c.loop-octet-test.false) at c.loop-octet.invariant)
