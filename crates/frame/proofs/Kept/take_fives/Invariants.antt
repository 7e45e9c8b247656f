-- `frame::Kept::take_fives` meets its contract. The loop's invariant is the record `Passed`, with one law for a sixth one, one for an inserted zero, and
-- one for the bits behind the last mark. Assumes nothing.
use Prim.Native.Nat.{◌-◌, ◌/◌}
use Rattle.frame.proofs.Taking.{Passed}
use Rattle.frame.proofs.Kept.take_fives.Given as goal

abbrev pub invariant-loop-runs : goal.invariant-loop-runs
invariant-loop-runs l = Passed (l.line / 8192) l.initial.plain l.initial.kept l.plain l.kept l.word l.runs l.place

abbrev pub decreases-loop-runs : goal.decreases-loop-runs
decreases-loop-runs l = 8 - l.place
