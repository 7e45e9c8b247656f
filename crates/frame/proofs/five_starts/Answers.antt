-- `frame::five_starts` meets its contract, which says what it computes. Assumes nothing.
use Rattle.frame.specs.Zeros.{five_starts}
use Rattle.frame.proofs.five_starts.Goals as goal

pub returns : goal.returns
unfolding five_starts
returns c = rw c.requires
