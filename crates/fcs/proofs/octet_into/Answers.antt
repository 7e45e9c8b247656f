-- `fcs::octet_into` meets its contract: only the register's lower octet is divided.
-- Assumes nothing.
use mathlib.Core.Path.{sym}
use Rattle.fcs.proofs.ByOctet.{octet_by_low}
use Rattle.fcs.proofs.octet_into.Goals as goal

pub returns : goal.returns
returns c = rw c.eight_steps.ensures (sym (octet_by_low c.args.register c.args.octet c.ranges.register.fits c.ranges.octet.fits))
