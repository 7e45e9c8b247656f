-- `tree::octet_fits` meets its contract.
-- Assumes nothing.
use borrow.Author.Tests.{lt-ltb, le-ltb}
use Rattle.tree.proofs.octet_fits.Goals as goal

pub returns-then-before-lt-LOW_OCTETS : goal.returns-then-before-lt-LOW_OCTETS
returns-then-before-lt-LOW_OCTETS c = rw (lt-ltb _ _ c.if-before-lt-LOW_OCTETS.true)

pub returns-then-o-lt64 : goal.returns-then-o-lt64
returns-then-o-lt64 c = rw (le-ltb _ _ c.if-before-lt-LOW_OCTETS.false, lt-ltb _ _ c.if-o-lt64.true)

pub returns : goal.returns
returns c = rw (le-ltb _ _ c.if-before-lt-LOW_OCTETS.false, le-ltb _ _ c.if-o-lt64.false)
