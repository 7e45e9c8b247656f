-- `tree::mark_last` meets its contract: where there is no octet before the place, nothing is stored.
-- Assumes nothing.
use Prim.Native.Nat.{◌-◌}
use mathlib.Core.Path.{sym}
use native.Mathlib.Omega.{arith}
use borrow.Author.Tests.{lt-ltb, le-ltb}
use lib.Seq.{set_out}
use Rattle.tree.proofs.mark_last.Goals as goal

pub returns-then-e-gt0 : goal.returns-then-e-gt0
returns-then-e-gt0 c = rw (lt-ltb _ _ c.if-e-gt0.true)

pub returns-else-e-gt0 : goal.returns-else-e-gt0
returns-else-e-gt0 c = rw (le-ltb _ _ c.if-e-gt0.false)

pub returns-else-e-out : goal.returns-else-e-out
returns-else-e-out c =
    let a = c.args in
    rw (lt-ltb 0 a.e (omega (arith, c.if-e-out.false))) (sym (set_out a.out.now (a.e - 1) _ (omega (arith, c.if-e-out.false))))
