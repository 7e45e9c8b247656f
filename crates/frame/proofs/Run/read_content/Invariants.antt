-- `frame::Run::read_content` meets its contract. The loop's invariant is the record `Lined`, with one law for a turn and one for each end. Assumes nothing.
use Prim.Native.Nat.{◌-◌, ◌/◌}
use Rattle.frame.specs.Run.{seen}
use Rattle.frame.proofs.Progress.{Lined}
use Rattle.frame.proofs.Run.read_content.Given as goal

abbrev pub invariant-loop-here : goal.invariant-loop-here
invariant-loop-here l = Lined (seen l.self) l.start l.plain l.kept (l.line / 2097152) l.here

abbrev pub decreases-loop-here : goal.decreases-loop-here
decreases-loop-here l = l.here-end - l.here
