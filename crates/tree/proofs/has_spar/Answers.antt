-- `tree::has_spar` meets its contract: the SPar(1) block announces something exactly if a code has an SPar(1).
-- Assumes nothing.
use mathlib.Core.Path.{◌∙◌}
use Rattle.tree.specs.Fields.{has_spar}
use Rattle.tree.specs.declared.Field.TheVariants.{Standard}
use Rattle.tree.proofs.Lowest.{codes_long}
use Rattle.tree.proofs.Modes.{spar_told}
use Rattle.tree.proofs.has_spar.Goals as goal

pub returns-then-s-gt-MOST_OCTETS : goal.returns-then-s-gt-MOST_OCTETS
unfolding has_spar
returns-then-s-gt-MOST_OCTETS c = let a = c.args in rw (codes_long Standard a.s.now a.at c.if-s-gt-MOST_OCTETS.true)

pub returns : goal.returns
returns c =
    let a = c.args in
    c.is_some.ensures ∙ spar_told a.s.now a.at _ c.next.result c.top_behind.ensures c.positions.ensures c.next.ensures.steps
