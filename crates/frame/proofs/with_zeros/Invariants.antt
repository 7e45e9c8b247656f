-- `frame::with_zeros` meets its contract. The loop's invariant: zeros were put in up to a place (`Zeroing`). Assumes nothing.
use Prim.Native.Nat.{◌-◌}
use Rattle.frame.proofs.Widening.{Zeroing}
use Rattle.frame.proofs.with_zeros.Given as goal

abbrev pub invariant-loop-found : goal.invariant-loop-found
invariant-loop-found l = Zeroing l.start l.word l.more l.place l.found

abbrev pub decreases-loop-found : goal.decreases-loop-found
decreases-loop-found l = 15 - l.place
