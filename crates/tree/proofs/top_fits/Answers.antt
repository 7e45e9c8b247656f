-- `tree::top_fits` meets its contract.
-- Assumes nothing.
use native.Mathlib.Omega.{arith}
use lib.ListN.{drop}
use Rattle.tree.proofs.Forms.{end_above}
use Rattle.tree.proofs.top_fits.Goals as goal

pub overflow_sub-result : goal.overflow_sub-result
overflow_sub-result c = let a = c.args in omega (arith, c.top_behind.ensures, end_above 128 a.e (drop a.e a.s.now))

pub returns : goal.returns
returns c = rw c.top_behind.ensures
