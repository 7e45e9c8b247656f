-- `tree::field_fits` meets its contract.
-- Assumes nothing.
use mathlib.Core.Path.{sym, ◌∙◌}
use Rattle.tree.specs.Wide.{field_fits}
use Rattle.tree.proofs.field_fits.Goals as goal

pub returns-then-not-top_fits : goal.returns-then-not-top_fits
unfolding field_fits
returns-then-not-top_fits c = rw (sym c.top_fits.ensures ∙ c.if-not-top_fits.true)

pub returns-then-not-top_fits-2 : goal.returns-then-not-top_fits-2
unfolding field_fits
returns-then-not-top_fits-2 c =
    rw (sym c.top_fits.ensures ∙ c.if-not-top_fits.false, ← c.top_behind.ensures, sym c.top_fits-2.ensures ∙ c.if-not-top_fits-2.true)

pub returns : goal.returns
unfolding field_fits
returns c =
    rw (sym c.top_fits.ensures ∙ c.if-not-top_fits.false, ← c.top_behind.ensures, sym c.top_fits-2.ensures ∙ c.if-not-top_fits-2.false)
    c.low_fits.ensures
