-- `fcs::eight_steps` meets its contract: the rule that computes.
-- Assumes nothing.
use Rattle.fcs.proofs.ByOctet.{eight_at_once}
use Rattle.fcs.proofs.eight_steps.Goals as goal

pub returns : goal.returns
returns c = eight_at_once c.args.low c.ranges.low.fits
