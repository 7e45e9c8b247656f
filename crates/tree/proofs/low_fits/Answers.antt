-- `tree::low_fits` meets its contract. The loop's invariant: what is asked of the octets that are left, behind `before` octets of a block,
-- is what is asked of all.
-- Assumes nothing.
use mathlib.Core.Path.{sym, ◌∙◌}
use native.Mathlib.Omega.{arith}
use borrow.Author.Rules.{rules}
use Rattle.tree.proofs.Wide.{low_wide, low_on, low_last, low_out}
use Rattle.tree.proofs.low_fits.Goals as goal
use Rattle.tree.proofs.low_fits.Goals.{then-o-lt64, else-o-lt64}

pub returns-then-not-octet_fits : goal.returns-then-not-octet_fits
returns-then-not-octet_fits c =
    let L = c.loop-o in
    sym (low_wide _ L.o-index L.before (search rules) (sym c.octet_fits.ensures ∙ c.if-not-octet_fits.true)) ∙ L.invariant.0

pub loop-o-preserved : goal.loop-o-preserved
loop-o-preserved c =
    let L = c.loop-o in
    let f = sym c.octet_fits.ensures ∙ c.if-not-octet_fits.false in
    elim c.if-o-lt64.branch [
      | then-o-lt64 w ↦ rw w.before-is (sym (low_on _ L.o-index L.before (search rules) f w.if-o-lt64.true) ∙ L.invariant.0, omega arith)
      | else-o-lt64 w ↦ rw w.before-is (sym (low_last _ L.o-index L.before (search rules) f w.if-o-lt64.false) ∙ L.invariant.0, omega arith)
    ]

pub returns : goal.returns
returns c =
    let L = c.loop-o in
    sym (low_out _ L.o-index L.before (search rules)) ∙ L.invariant.0
