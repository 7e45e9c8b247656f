-- `fcs::fcs_of` meets its contract. The loop's invariant: the rest of the run takes the register to where the whole run takes 65535.
-- Assumes nothing.
use mathlib.Core.Path.{◌≡◌}
use lib.ListN.{drop}
use Rattle.fcs.specs.Register.{register}
use Rattle.fcs.proofs.fcs_of.Given as goal

abbrev pub invariant-loop-octet : goal.invariant-loop-octet
invariant-loop-octet l = register l.register (drop l.octet-index l.run) ≡ register 65535 l.run
